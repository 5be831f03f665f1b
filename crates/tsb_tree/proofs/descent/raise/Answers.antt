use Rattle.std.proofs.Common.{◌≡◌, ◌<◌, suc, List, length, rules, sym, ◌∙◌, ap, subst, arith}
use Rattle.std.specs.List.{insert}
use Rattle.std.proofs.lemmas.Option.{same_Some}
use Rattle.std.proofs.lemmas.Result.{err_from_is_err_and}
use Rattle.version_model.specs.declared.child.Child.{Child}
use Rattle.tsb_node.specs.Views.{keys_between}
use Rattle.tsb_walk.specs.Shown.{keys_at}
use Rattle.tsb_tree.specs.KeyNodes.{BeginsAfter}
use Rattle.tsb_tree.specs.Plans.{CanBeLaid}
use Rattle.tsb_tree.specs.Puts.{PutsChild}
use Rattle.tsb_tree.specs.inner.Uses.{UsesForHalf}
use Rattle.tsb_tree.proofs.Needing.{read_never_full}
use Rattle.tsb_tree.proofs.Raising.{decoded_after, decoded_below, decoded_puts}
use Rattle.tsb_tree.proofs.LackingRoom.{no_half}
use Rattle.tsb_tree.proofs.descent.raise.Goals as goal

pub returns-in_err-node-in-Some-clause-honest : goal.returns-in_err-node-in-Some-clause-honest
returns-in_err-node-in-Some-clause-honest g c start shown shows room =
    let r = room c.in-Some.new c.in-Some.is in
    let h = (c.in_err-node-in-Some.ensures.represents_node start shown c.args.place.now.level (keys_at c.args.place.now) r.children shows r.represents_node).1 in
    search rules

pub returns-in-Ok-clause-puts : goal.returns-in-Ok-clause-puts
returns-in-Ok-clause-puts g c start shown new room shows some =
    let place = c.args.place.now in
    let node = c.in_ok-node-in-Some.node in
    let decoded = (c.in_ok-node-in-Some.ensures.represents_node start shown place.level (keys_at place) room.children shows room.represents_node).0 in
    let same : c.in-Some.new ≡ new = same_Some _ _ (sym c.in-Some.is ∙ some) in
    let puts = subst (λ (n : Child). BeginsAfter node.children.items room.at n.low → PutsChild place.page node.level (keys_between node.bounds) (insert node.children.items (suc room.at) n) c.args.change c.in-Ok.put) same (c.in-Ok.ensures.puts room.at) (decoded_after node shown place new room decoded) in
    decoded_puts node shown place new room c.args.change c.in-Ok.put decoded puts

pub returns-in-Ok-clause-laid : goal.returns-in-Ok-clause-laid
returns-in-Ok-clause-laid g c next level can =
    let homes : c.home_pages-homes.result ≡ g.P.Pages.homes c.args.pages.now = c.home_pages-homes.ensures ∙ c.in_ok-node-in-Some.ensures.reads.homes in
    let inside : c.args.place.now.page < c.home_pages-homes.result = omega (arith, homes, c.in_ok-node-in-Some.ensures.inside) in
    subst (λ h. CanBeLaid h next (suc level) c.in-Ok.put) homes (c.in-Ok.ensures.laid next level inside (subst (λ h. CanBeLaid h next level c.args.change) (sym homes) can))

pub returns-in-Err-clause-honest : goal.returns-in-Err-clause-honest
returns-in-Err-clause-honest g c start shown shows room =
    let place = c.args.place.now in
    let node = c.in_ok-node-in-Some.node in
    let new = c.in-Some.new in
    let r = room new c.in-Some.is in
    let decoded = (c.in_ok-node-in-Some.ensures.represents_node start shown place.level (keys_at place) r.children shows r.represents_node).0 in
    c.in-Err.ensures.honest r.at (decoded_after node shown place new r decoded) (decoded_below node shown place new r decoded)

pub returns-in-None-clause-uses : goal.returns-in-None-clause-uses
returns-in-None-clause-uses g c start shown level k children shows represents_node some = no_half _ c.in-None.is some

pub returns-in-Ok-clause-uses : goal.returns-in-Ok-clause-uses
returns-in-Ok-clause-uses g c start shown level k children shows represents_node some =
    let node = c.in_ok-node-in-Some.node in
    let decoded = (c.in_ok-node-in-Some.ensures.represents_node start shown level k children shows represents_node).0 in
    let same : node.children.items ≡ children = cc in
    subst (λ (cs : List Child). UsesForHalf (length cs) c.args.change.unused c.in-Ok.put.unused c.in-Ok.put.new) same c.in-Ok.ensures.uses

pub returns-in_err-node-in-Some-clause-lacks_pages : goal.returns-in_err-node-in-Some-clause-lacks_pages
returns-in_err-node-in-Some-clause-lacks_pages g c start shown level k children shows represents_node is =
    let p = err_from_is_err_and c.from_residual.result c.from_residual.ensures.1 in
    absurd (read_never_full _ (g.P.Pages.down c.args.pages.now) c.in_err-node-in-Some.ensures.refused (cc))

pub returns-in-Err-clause-lacks_pages : goal.returns-in-Err-clause-lacks_pages
returns-in-Err-clause-lacks_pages g c start shown level k children shows represents_node is =
    let node = c.in_ok-node-in-Some.node in
    let decoded = (c.in_ok-node-in-Some.ensures.represents_node start shown level k children shows represents_node).0 in
    let same : node.children.items ≡ children = cc in
    ap length (sym same) ∙ c.in-Err.ensures.lacks_pages is
