use Rattle.std.proofs.Common.{◌≡◌, suc, ◌+◌, ◌<◌, ◌≤◌, inl, inr, length, ◌∙◌, ap, arith}
use Rattle.std.specs.List.{insert}
use Rattle.std.proofs.lemmas.Option.{slice_get_within}
use Rattle.std.proofs.lemmas.List.Edits.{length-insert}
use Rattle.version_model.specs.declared.bounds.Bounds.{Bounds}
use Rattle.tsb_tree.proofs.KeyNodes.{wide_put}
use Rattle.tsb_tree.proofs.KeyLists.{one_after}
use Rattle.tsb_tree.proofs.Needing.{half_one, half_two}
use Rattle.tsb_tree.proofs.putting.put_half.Goals as goal

pub put_one-requires-clause-wide : goal.put_one-requires-clause-wide
put_one-requires-clause-wide c =
    let more = c.in_ok-node.ensures in
    wide_put c.args.node c.in_ok-node.node c.in-Some.place c.args.new c.requires.wide c.in-Some.ensures.beyond c.in-Some.ensures.below more.level (ap (λ (b : Bounds). b.low) more.bounds) (ap (λ (b : Bounds). b.high) more.bounds) more.children

pub put_two-requires-clause-wide : goal.put_two-requires-clause-wide
put_two-requires-clause-wide c =
    let more = c.in_ok-node.ensures in
    wide_put c.args.node c.in_ok-node.node c.in-Some.place c.args.new c.requires.wide c.in-Some.ensures.beyond c.in-Some.ensures.below more.level (ap (λ (b : Bounds). b.low) more.bounds) (ap (λ (b : Bounds). b.high) more.bounds) more.children

pub put_two-requires-clause-many : goal.put_two-requires-clause-many
put_two-requires-clause-many c =
    let xs = c.args.node.children.items in
    let beyond = c.in-Some.ensures.beyond in
    let within : suc c.in-Some.place ≤ length xs = (let h = slice_get_within xs c.in-Some.place beyond.child beyond.at in omega (arith, h)) in
    let long : length c.in_ok-node.node.children.items ≡ length xs + 1 = ap length c.in_ok-node.ensures.children ∙ length-insert xs (suc c.in-Some.place) c.args.new within in
    let more : 338 < length c.in_ok-node.node.children.items = omega (arith, c.len.ensures, c.if-len-le-MOST_CHILDREN.false) in
    omega (arith, long, more, c.requires.few)

pub returns-then-len-le-MOST_CHILDREN-clause-puts : goal.returns-then-len-le-MOST_CHILDREN-clause-puts
returns-then-len-le-MOST_CHILDREN-clause-puts c place beyond =
    let more = c.in_ok-node.ensures in
    let xs = c.args.node.children.items in
    let here : c.in-Some.place ≡ place = one_after xs c.in-Some.place place c.args.new.low c.requires.wide.rising c.in-Some.ensures.beyond beyond in
    let children : c.in_ok-node.node.children.items ≡ insert xs (suc place) c.args.new = more.children ∙ ap (λ i. insert xs (suc i) c.args.new) here in
    inl (rw (← children, ← more.level, ← more.bounds) c.in_ok-put_one.ensures.puts)

pub returns-then-len-le-MOST_CHILDREN-clause-laid : goal.returns-then-len-le-MOST_CHILDREN-clause-laid
returns-then-len-le-MOST_CHILDREN-clause-laid c next level lt can = c.in_ok-put_one.ensures.laid c.args.homes next level lt can

pub returns-clause-puts : goal.returns-clause-puts
returns-clause-puts c place beyond =
    let more = c.in_ok-node.ensures in
    let xs = c.args.node.children.items in
    let here : c.in-Some.place ≡ place = one_after xs c.in-Some.place place c.args.new.low c.requires.wide.rising c.in-Some.ensures.beyond beyond in
    let children : c.in_ok-node.node.children.items ≡ insert xs (suc place) c.args.new = more.children ∙ ap (λ i. insert xs (suc i) c.args.new) here in
    inr (rw (← children, ← more.level, ← more.bounds) c.in_ok-put_two.ensures.puts)

pub returns-clause-laid : goal.returns-clause-laid
returns-clause-laid c next level lt can = c.in_ok-put_two.ensures.laid c.args.homes next level lt (let room : c.args.change.unused < c.args.homes = omega (arith, c.if-change-homes.false) in room) can

pub returns-then-len-le-MOST_CHILDREN-clause-uses : goal.returns-then-len-le-MOST_CHILDREN-clause-uses
returns-then-len-le-MOST_CHILDREN-clause-uses c =
    let xs = c.args.node.children.items in
    let beyond = c.in-Some.ensures.beyond in
    let within : suc c.in-Some.place ≤ length xs = (let h = slice_get_within xs c.in-Some.place beyond.child beyond.at in omega (arith, h)) in
    let long : length c.in_ok-node.node.children.items ≡ length xs + 1 = ap length c.in_ok-node.ensures.children ∙ length-insert xs (suc c.in-Some.place) c.args.new within in
    let room : length c.in_ok-node.node.children.items ≤ 338 = omega (arith, c.len.ensures, c.if-len-le-MOST_CHILDREN.true) in
    half_one _ _ _ _ c.in_ok-put_one.ensures.puts.new c.in_ok-put_one.ensures.puts.unused (omega (arith, long, room))

pub returns-clause-uses : goal.returns-clause-uses
returns-clause-uses c =
    let xs = c.args.node.children.items in
    let beyond = c.in-Some.ensures.beyond in
    let within : suc c.in-Some.place ≤ length xs = (let h = slice_get_within xs c.in-Some.place beyond.child beyond.at in omega (arith, h)) in
    let long : length c.in_ok-node.node.children.items ≡ length xs + 1 = ap length c.in_ok-node.ensures.children ∙ length-insert xs (suc c.in-Some.place) c.args.new within in
    let more : 338 < length c.in_ok-node.node.children.items = omega (arith, c.len.ensures, c.if-len-le-MOST_CHILDREN.false) in
    half_two _ _ _ _ _ c.in_ok-put_two.ensures.puts.new c.in_ok-put_two.ensures.puts.unused (omega (arith, long, more, c.requires.few))

pub returns-then-change-homes-clause-lacks_pages : goal.returns-then-change-homes-clause-lacks_pages
returns-then-change-homes-clause-lacks_pages c is =
    let xs = c.args.node.children.items in
    let beyond = c.in-Some.ensures.beyond in
    let within : suc c.in-Some.place ≤ length xs = (let h = slice_get_within xs c.in-Some.place beyond.child beyond.at in omega (arith, h)) in
    let long : length c.in_ok-node.node.children.items ≡ length xs + 1 = ap length c.in_ok-node.ensures.children ∙ length-insert xs (suc c.in-Some.place) c.args.new within in
    let more : 338 < length c.in_ok-node.node.children.items = omega (arith, c.len.ensures, c.if-len-le-MOST_CHILDREN.false) in
    omega (arith, long, more, c.requires.few)
