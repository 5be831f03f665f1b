use Rattle.std.proofs.Common.{◌≡◌, ◌∙◌, ℕ, ◌+◌, ◌<◌, List, [], ◌∷◌, ◌++◌, length, get_or, drop, sym, ap, append_assoc}
use Rattle.std.proofs.lemmas.List.{drop_more}
use Rattle.archive_head.specs.declared.lane.Lane.{Lane as HeadLane}
use Rattle.archive_facts.specs.declared.facts.Lane.{Lane}
use Rattle.archive_facts.specs.Facts.{shown_at, shown_from}
use Rattle.archive_facts.proofs.facts.lanes_of.Goals as goal

-- the collectors from one on
next_shown : (ring : ℕ) (lanes : List HeadLane) (n : ℕ) (kept : HeadLane) → n < length lanes → kept ≡ get_or lanes n kept → shown_from ring n (drop n lanes) ≡ shown_at ring n kept ∷ shown_from ring (n + 1) (drop (n + 1) lanes)
next_shown ring lanes n kept lt is = ap (shown_from ring n) (drop_more lanes n kept lt ∙ ap (λ (l : HeadLane). l ∷ drop (n + 1) lanes) (sym is))

pub loop-place-preserved : goal.loop-place-preserved
loop-place-preserved c =
    let n = c.loop-place.place in
    let lanes = c.args.lanes.now in
    let kept = c.index-lanes-place.result in
    let before = c.loop-place.shown.items in
    let rest = shown_from c.args.ring (n + 1) (drop (n + 1) lanes) in
    ap (λ (t : List Lane). t ++ rest) (c.in_ok-push.ensures.items ∙ ap (λ (l : Lane). before ++ l ∷ []) c.lane_of.ensures.lane)
    ∙ (append_assoc before (shown_at c.args.ring n kept ∷ []) rest
    ∙ (ap (λ (t : List Lane). before ++ t) (sym (next_shown c.args.ring lanes n kept c.loop-place-test.true c.index-lanes-place.is)) ∙ c.loop-place.invariant))
