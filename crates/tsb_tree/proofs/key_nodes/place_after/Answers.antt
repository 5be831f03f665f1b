use Rattle.std.proofs.Common.{rules, ◌≡◌, ◌<◌, ◌≤◌, ◌-◌, suc, Some, slice_get, length, refl, sym, ◌∙◌, ap, arith}
use Rattle.std.proofs.lemmas.Option.{slice_get_read, same_Some}
use Rattle.version_model.specs.declared.child.Child.{Child}
use Rattle.tsb_tree.proofs.KeyLists.{one_place, after_one}
use Rattle.tsb_tree.proofs.key_nodes.place_after.Goals as goal

pub returns-then-above-eq0-clause-none : goal.returns-then-above-eq0-clause-none
returns-then-above-eq0-clause-none c place beyond below =
    let found = c.place_above-above.ensures in
    let value = c.deref.ensures.value in
    let is = one_place c.args.node.now.children.items place c.place_above-above.result c.args.key c.requires.rising beyond (rw value at found.within) (rw value at found.before) (rw value at found.above) in
    omega (arith, is, c.if-above-eq0.true)

pub returns-then-eq-clause-none : goal.returns-then-eq-clause-none
returns-then-eq-clause-none c place beyond below =
    let cs = c.args.node.now.children.items in
    let found = c.place_above-above.ensures in
    let value = c.deref.ensures.value in
    let above = c.place_above-above.result in
    let is = one_place cs place above c.args.key c.requires.rising beyond (rw value at found.within) (rw value at found.before) (rw value at found.above) in
    let child : Child = c.index.result.now in
    let long : above - 1 < length cs = (let w : above ≤ length cs = rw value at found.within in omega (arith, w, c.if-above-eq0.false)) in
    let at : slice_get cs (above - 1) ≡ Some child = slice_get_read cs (length cs) (above - 1) child refl long c.index.ensures in
    let here : above - 1 ≡ place = omega (arith, is) in
    let low : child.low ≡ beyond.child.low = ap (λ (x : Child). x.low) (same_Some child beyond.child (sym at ∙ ap (slice_get cs) here ∙ beyond.at)) in
    let same : child.low ≡ c.args.key = search rules in
    omega (arith, low, same, beyond.above)

pub returns-clause-beyond : goal.returns-clause-beyond
returns-clause-beyond c =
    let cs = c.args.node.now.children.items in
    let found = c.place_above-above.ensures in
    let value = c.deref.ensures.value in
    let above = c.place_above-above.result in
    let child : Child = c.index.result.now in
    let w : above ≤ length cs = rw value at found.within in
    let long : above - 1 < length cs = omega (arith, w, c.if-above-eq0.false) in
    let at : slice_get cs (above - 1) ≡ Some child = slice_get_read cs (length cs) (above - 1) child refl long c.index.ensures in
    let up : suc (above - 1) ≡ above = omega (arith, c.if-above-eq0.false) in
    let ne : child.low ≡ c.args.key → ⊥ = search rules in
    after_one cs (above - 1) c.args.key child at ne (rw up (rw value at found.before)) (rw up (rw value at found.above))
