use Rattle.std.proofs.Common.{◌≡◌, ◌<◌, ◌+◌, ◌++◌, ◌∷◌, ◌⊎◌, inl, inr, List, [], length, take, drop, get_or, sym, ap, ◌∙◌, arith, length-drop}
use Rattle.std.proofs.lemmas.List.{append-nil}
use Rattle.route_model.specs.declared.path.Segment.{Segment}
use Rattle.bgp_update.specs.Joining.{weight, first_numbers, leading}
use Rattle.bgp_update.proofs.Joins.{leads_nowhere, here, leading_cut}
use Rattle.bgp_update.proofs.joining.cut.Goals as goal
use Rattle.bgp_update.proofs.joining.cut.Goals.{then-whole-len-via-then-whole-len, then-whole-len-via-else-whole-len+then-left-eq0}

pub returns-then-whole-len : goal.returns-then-whole-len
returns-then-whole-len c =
    let path = c.args.path.now.items in
    let whole = c.place_of-whole.result.0 in
    let left = c.place_of-whole.result.1 in
    let placed = c.place_of-whole.ensures in
    let same : c.deref.result.now ≡ path = c.deref.ensures.value in
    let none : (length (drop whole c.deref.result.now) ≡ 0) ⊎ (left ≡ 0) = elim c.then-whole-len.branch [
      | then-whole-len-via-then-whole-len w ↦ inl (omega (arith, length-drop whole c.deref.result.now, ap length same, w.if-whole-len.true, c.len.ensures))
      | then-whole-len-via-else-whole-len+then-left-eq0 w ↦ inr w.if-left-eq0.true
    ] in
    let nothing = leads_nowhere (drop whole c.deref.result.now) left placed.cut none in
    c.truncate.ensures.items ∙ ap (λ (t : List Segment). take whole t) (sym same) ∙ sym (append-nil (take whole c.deref.result.now))
    ∙ ap (λ (t : List Segment). take whole c.deref.result.now ++ t) (sym nothing) ∙ sym placed.leading ∙ ap (λ (t : List Segment). leading t c.args.needed) same

pub returns : goal.returns
returns c =
    let path = c.args.path.now.items in
    let whole = c.place_of-whole.result.0 in
    let left = c.place_of-whole.result.1 in
    let placed = c.place_of-whole.ensures in
    let same : c.deref.result.now ≡ path = c.deref.ensures.value in
    let s : Segment = c.index.result.now in
    let is : s ≡ get_or path whole s = c.index.ensures in
    let inside : whole < length path = omega (arith, placed.within, ap length same, c.if-whole-len.false, c.len.ensures) in
    let some : 0 < left = omega (arith, c.if-left-eq0.false) in
    let rest : drop whole path ≡ s ∷ drop (whole + 1) path = here path whole s inside is in
    let under : left < weight s = placed.cut s (drop (whole + 1) path) (ap (λ (t : List Segment). drop whole t) same ∙ rest) in
    let last : leading (drop whole path) left ≡ first_numbers left s ∷ [] = ap (λ (t : List Segment). leading t left) rest ∙ leading_cut s (drop (whole + 1) path) left some under in
    c.in_ok-push.ensures.items ∙ ap (λ (t : List Segment). t ++ c.in_ok-last.last ∷ []) c.truncate-2.ensures.items
    ∙ ap (λ (x : Segment). take whole path ++ x ∷ []) c.in_ok-last.ensures ∙ ap (λ (t : List Segment). take whole path ++ t) (sym last)
    ∙ ap (λ (t : List Segment). take whole t ++ leading (drop whole t) left) (sym same) ∙ sym placed.leading ∙ ap (λ (t : List Segment). leading t c.args.needed) same
