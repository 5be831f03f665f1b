use Rattle.std.proofs.Common.{◌≡◌, ◌<◌, ℕ, Option, rules, inl, inr, refl, sym, ◌∙◌, subst, arith}
use Rattle.std.proofs.lemmas.Bool.{false≢true}
use Rattle.std.proofs.lemmas.Result.{err_from_is_err_and}
use Rattle.std.specs.Prelude.{IsSome}
use Rattle.version_model.specs.declared.child.Child.{Child}
use Rattle.version_model.specs.Entries.{version_of}
use Rattle.version_model.specs.Ranges.{stamp_end}
use Rattle.version_model.specs.Versions.{Version}
use Rattle.tsb_tree.specs.NoRoom.{AtRoot, IsForRoom, LeadsToFullColumn, LeadsToFullLeaf}
use Rattle.tsb_tree.specs.Outlived.{LeadsToOutdated}
use Rattle.tsb_tree.specs.Plans.{CanBeLaid}
use Rattle.tsb_tree.specs.Raises.{TreeCanBeLaid}
use Rattle.tsb_tree.specs.inner.Uses.{UsesPages, LacksPages}
use Rattle.tsb_tree.proofs.Excluding.{root_stays}
use Rattle.tsb_tree.proofs.Needing.{tree_lacks, tree_same_uses, tree_grown_uses, tree_grown_lacks, tree_level, tree_leads, root_full, root_never_once}
use Rattle.tsb_tree.proofs.OneWay.{outdated_root}
use Rattle.tsb_tree.proofs.Outliving.{or_else}
use Rattle.tsb_tree.proofs.LackingRoom.{no_half, plan_full, plan_never_high}
use Rattle.tsb_tree.proofs.Crowding.{root_never_crowded}
use Rattle.tsb_tree.proofs.Insertion.{root_can, root_so, root_plans, tree_same, tree_grown, half_above, not_highest}
use Rattle.tsb_tree.proofs.inserting.planned.Goals as goal

pub returns-in_err-change-clause-honest : goal.returns-in_err-change-clause-honest
returns-in_err-change-clause-honest g c start shown all tree later =
    let root = c.root-root in
    let can = root_can g.P.Pages c.args.pages.now g.O.OnceDisk c.args.shelf.now start shown all root.result c.args.place.root c.args.place.level c.args.place.least (version_of c.args.entry.now) root.ensures.page root.ensures.level root.ensures.keys tree later c.requires.inside in
    let h = c.in_err-change.ensures.honest tree.store all can in
    search rules

pub returns-in_default-clause-plans : goal.returns-in_default-clause-plans
returns-in_default-clause-plans g c start shown all tree later =
    let root = c.root-root in
    let place = c.args.place in
    let v : Version = version_of c.args.entry.now in
    let homes : ℕ = g.P.Pages.homes c.args.pages.now in
    let can = root_can g.P.Pages c.args.pages.now g.O.OnceDisk c.args.shelf.now start shown all root.result place.root place.level place.least v root.ensures.page root.ensures.level root.ensures.keys tree later c.requires.inside in
    let change = c.in_ok-change.change in
    let plans = root_plans g.O.OnceDisk c.plan_under.new.shelf homes tree.store v root.result place.root place.level change root.ensures.page root.ensures.level (c.in_ok-change.ensures.plans tree.store all can) in
    let in_time : v.stamp < stamp_end = omega (arith, c.requires.end) in
    tree_same g.O.OnceDisk c.plan_under.new.shelf homes tree.store all v place.root place.level place.least tree.has later c.requires.inside in_time change plans c.in_default.is _ refl refl c.stamp_after-least.ensures.beyond

pub returns-in_err-change-2-clause-honest : goal.returns-in_err-change-2-clause-honest
returns-in_err-change-2-clause-honest g c start shown all tree later =
    let root = c.root-root in
    let place = c.args.place in
    let v : Version = version_of c.args.entry.now in
    let homes : ℕ = g.P.Pages.homes c.args.pages.now in
    let can = root_can g.P.Pages c.args.pages.now g.O.OnceDisk c.args.shelf.now start shown all root.result place.root place.level place.least v root.ensures.page root.ensures.level root.ensures.keys tree later c.requires.inside in
    let change = c.in_ok-change.change in
    let plans = root_plans g.O.OnceDisk c.plan_under.new.shelf homes tree.store v root.result place.root place.level change root.ensures.page root.ensures.level (c.in_ok-change.ensures.plans tree.store all can) in
    let in_time : v.stamp < stamp_end = omega (arith, c.requires.end) in
    let above = half_above g.O.OnceDisk c.plan_under.new.shelf homes tree.store all v place.root place.level place.least tree.has later c.requires.inside in_time change plans c.in-Some.new c.in-Some.is in
    let h = c.in_err-change-2.ensures.honest above in
    search rules

pub returns-clause-plans : goal.returns-clause-plans
returns-clause-plans g c start shown all tree later =
    let root = c.root-root in
    let place = c.args.place in
    let v : Version = version_of c.args.entry.now in
    let homes : ℕ = g.P.Pages.homes c.args.pages.now in
    let can = root_can g.P.Pages c.args.pages.now g.O.OnceDisk c.args.shelf.now start shown all root.result place.root place.level place.least v root.ensures.page root.ensures.level root.ensures.keys tree later c.requires.inside in
    let change = c.in_ok-change.change in
    let made = c.in_ok-change-2.change in
    let plans = root_plans g.O.OnceDisk c.plan_under.new.shelf homes tree.store v root.result place.root place.level change root.ensures.page root.ensures.level (c.in_ok-change.ensures.plans tree.store all can) in
    let in_time : v.stamp < stamp_end = omega (arith, c.requires.end) in
    let same : c.home_pages.result ≡ homes = c.home_pages.ensures ∙ c.in_ok-change.ensures.reads.homes in
    let next : ℕ = g.P.Pages.next c.args.pages.now in
    let fits : CanBeLaid c.home_pages.result next place.level change =
    subst (λ (h : ℕ). CanBeLaid h next place.level change) (sym same) (subst (λ (l : ℕ). CanBeLaid homes next l change) root.ensures.level c.in_ok-change.ensures.laid) in
    let laid : TreeCanBeLaid c.home_pages.result next place.level made = c.in_ok-change-2.ensures.laid next fits in
    let grows = c.in_ok-change-2.ensures.grows in
    let room : change.unused < homes = omega (arith, same, laid.inside, grows.unused) in
    let low : place.level < 7 = not_highest place.level made c.in_ok-change-2.ensures.high c.requires.few in
    tree_grown g.O.OnceDisk c.plan_under.new.shelf homes tree.store all v place.root place.level place.least tree.has later c.requires.inside in_time change plans c.in-Some.new c.in-Some.is made grows room low _ refl refl c.stamp_after-least.ensures.beyond

pub returns-clause-laid : goal.returns-clause-laid
returns-clause-laid g c =
    let root = c.root-root in
    let place = c.args.place in
    let homes : ℕ = g.P.Pages.homes c.args.pages.now in
    let change = c.in_ok-change.change in
    let made = c.in_ok-change-2.change in
    let same : c.home_pages.result ≡ homes = c.home_pages.ensures ∙ c.in_ok-change.ensures.reads.homes in
    let next : ℕ = g.P.Pages.next c.args.pages.now in
    let fits : CanBeLaid c.home_pages.result next place.level change =
    subst (λ (h : ℕ). CanBeLaid h next place.level change) (sym same) (subst (λ (l : ℕ). CanBeLaid homes next l change) root.ensures.level c.in_ok-change.ensures.laid) in
    subst (λ (h : ℕ). TreeCanBeLaid h next place.level made) same (c.in_ok-change-2.ensures.laid next fits)

pub returns-in_err-change-clause-high : goal.returns-in_err-change-clause-high
returns-in_err-change-clause-high g c start shown all tree later high =
    let p = err_from_is_err_and c.from_residual.result c.from_residual.ensures.1 in
    absurd (plan_never_high _ _ _ _ _ _ c.in_err-change.ensures.refused (cc))

pub returns-in_err-change-clause-lacks : goal.returns-in_err-change-clause-lacks
returns-in_err-change-clause-lacks g c start shown all tree later =
    let root = c.root-root in
    let place = c.args.place in
    let v : Version = version_of c.args.entry.now in
    let can = root_can g.P.Pages c.args.pages.now g.O.OnceDisk c.args.shelf.now start shown all root.result place.root place.level place.least v root.ensures.page root.ensures.level root.ensures.keys tree later c.requires.inside in
    let h : IsForRoom c.in_err-change.field-0.0 → AtRoot (LeadsToFullLeaf shown v) place.root place.level = λ need. root_so g.P.Pages c.args.pages.now g.O.OnceDisk c.args.shelf.now start shown all root.result place.root place.level place.least v (λ pages at. LeadsToFullLeaf pages v at) root.ensures.page root.ensures.level root.ensures.keys tree later c.requires.inside (c.in_err-change.ensures.lacks tree.store all can need) in
    search rules

pub returns-in_err-change-2-clause-high : goal.returns-in_err-change-2-clause-high
returns-in_err-change-2-clause-high g c start shown all tree later high =
    let root = c.root-root in
    let place = c.args.place in
    let v : Version = version_of c.args.entry.now in
    let can = root_can g.P.Pages c.args.pages.now g.O.OnceDisk c.args.shelf.now start shown all root.result place.root place.level place.least v root.ensures.page root.ensures.level root.ensures.keys tree later c.requires.inside in
    let change = c.in_ok-change.change in
    let next : ℕ = g.P.Pages.next c.args.pages.now in
    let uses = root_so g.P.Pages c.args.pages.now g.O.OnceDisk c.args.shelf.now start shown all root.result place.root place.level place.least v (λ pages at. UsesPages pages v at next change.unused change.new) root.ensures.page root.ensures.level root.ensures.keys tree later c.requires.inside (c.in_ok-change.ensures.uses tree.store all can) in
    let some = subst (λ (o : Option Child). IsSome o) (sym c.in-Some.is) refl in
    tree_level shown v place.root place.level next change.unused change.new uses some

pub returns-in_err-change-2-clause-lacks : goal.returns-in_err-change-2-clause-lacks
returns-in_err-change-2-clause-lacks g c start shown all tree later =
    let root = c.root-root in
    let place = c.args.place in
    let v : Version = version_of c.args.entry.now in
    let can = root_can g.P.Pages c.args.pages.now g.O.OnceDisk c.args.shelf.now start shown all root.result place.root place.level place.least v root.ensures.page root.ensures.level root.ensures.keys tree later c.requires.inside in
    let change = c.in_ok-change.change in
    let next : ℕ = g.P.Pages.next c.args.pages.now in
    let uses = root_so g.P.Pages c.args.pages.now g.O.OnceDisk c.args.shelf.now start shown all root.result place.root place.level place.least v (λ pages at. UsesPages pages v at next change.unused change.new) root.ensures.page root.ensures.level root.ensures.keys tree later c.requires.inside (c.in_ok-change.ensures.uses tree.store all can) in
    let some = subst (λ (o : Option Child). IsSome o) (sym c.in-Some.is) refl in
    let full = tree_leads shown v place.root place.level next change.unused change.new uses some in
    search rules

pub returns-in_default-clause-images : goal.returns-in_default-clause-images
returns-in_default-clause-images g c = omega (arith, c.in_ok-change.ensures.laid.few, c.root-root.ensures.level)

pub returns-clause-images : goal.returns-clause-images
returns-clause-images g c =
    let root = c.root-root in
    let place = c.args.place in
    let homes : ℕ = g.P.Pages.homes c.args.pages.now in
    let change = c.in_ok-change.change in
    let same : c.home_pages.result ≡ homes = c.home_pages.ensures ∙ c.in_ok-change.ensures.reads.homes in
    let next : ℕ = g.P.Pages.next c.args.pages.now in
    let fits : CanBeLaid c.home_pages.result next place.level change =
    subst (λ (h : ℕ). CanBeLaid h next place.level change) (sym same) (subst (λ (l : ℕ). CanBeLaid homes next l change) root.ensures.level c.in_ok-change.ensures.laid) in
    let laid = c.in_ok-change-2.ensures.laid next fits in
    omega (arith, laid.few)

pub returns-in_default-clause-light : goal.returns-in_default-clause-light
returns-in_default-clause-light g c start shown all tree later =
    let root = c.root-root in
    let place = c.args.place in
    let v : Version = version_of c.args.entry.now in
    let can = root_can g.P.Pages c.args.pages.now g.O.OnceDisk c.args.shelf.now start shown all root.result place.root place.level place.least v root.ensures.page root.ensures.level root.ensures.keys tree later c.requires.inside in
    elim (c.in_ok-change.ensures.light tree.store all can) [
      | inl light ↦ inl (light.0, light.1, refl, refl)
      | inr full ↦ inr (root_so g.P.Pages c.args.pages.now g.O.OnceDisk c.args.shelf.now start shown all root.result place.root place.level place.least v (λ pages at. LeadsToFullLeaf pages v at) root.ensures.page root.ensures.level root.ensures.keys tree later c.requires.inside full)
    ]

pub returns-clause-light : goal.returns-clause-light
returns-clause-light g c start shown all tree later =
    let root = c.root-root in
    let place = c.args.place in
    let v : Version = version_of c.args.entry.now in
    let can = root_can g.P.Pages c.args.pages.now g.O.OnceDisk c.args.shelf.now start shown all root.result place.root place.level place.least v root.ensures.page root.ensures.level root.ensures.keys tree later c.requires.inside in
    let change = c.in_ok-change.change in
    let next : ℕ = g.P.Pages.next c.args.pages.now in
    let uses = root_so g.P.Pages c.args.pages.now g.O.OnceDisk c.args.shelf.now start shown all root.result place.root place.level place.least v (λ pages at. UsesPages pages v at next change.unused change.new) root.ensures.page root.ensures.level root.ensures.keys tree later c.requires.inside (c.in_ok-change.ensures.uses tree.store all can) in
    let some = subst (λ (o : Option Child). IsSome o) (sym c.in-Some.is) refl in
    inr (tree_leads shown v place.root place.level next change.unused change.new uses some)

pub returns-in_err-change-clause-burns : goal.returns-in_err-change-clause-burns
returns-in_err-change-clause-burns g c start shown all tree later =
    let root = c.root-root in
    let place = c.args.place in
    let v : Version = version_of c.args.entry.now in
    let can = root_can g.P.Pages c.args.pages.now g.O.OnceDisk c.args.shelf.now start shown all root.result place.root place.level place.least v root.ensures.page root.ensures.level root.ensures.keys tree later c.requires.inside in
    or_else (root_so g.P.Pages c.args.pages.now g.O.OnceDisk c.args.shelf.now start shown all root.result place.root place.level place.least v (λ pages at. LeadsToOutdated pages v at) root.ensures.page root.ensures.level root.ensures.keys tree later c.requires.inside) (c.in_err-change.ensures.burns tree.store all can)

pub returns-in_default-clause-burns : goal.returns-in_default-clause-burns
returns-in_default-clause-burns g c start shown all tree later =
    let root = c.root-root in
    let place = c.args.place in
    let v : Version = version_of c.args.entry.now in
    let can = root_can g.P.Pages c.args.pages.now g.O.OnceDisk c.args.shelf.now start shown all root.result place.root place.level place.least v root.ensures.page root.ensures.level root.ensures.keys tree later c.requires.inside in
    or_else (root_so g.P.Pages c.args.pages.now g.O.OnceDisk c.args.shelf.now start shown all root.result place.root place.level place.least v (λ pages at. LeadsToOutdated pages v at) root.ensures.page root.ensures.level root.ensures.keys tree later c.requires.inside) (c.in_ok-change.ensures.burns tree.store all can)

pub returns-in_err-change-2-clause-burns : goal.returns-in_err-change-2-clause-burns
returns-in_err-change-2-clause-burns g c start shown all tree later =
    let root = c.root-root in
    let place = c.args.place in
    let v : Version = version_of c.args.entry.now in
    let can = root_can g.P.Pages c.args.pages.now g.O.OnceDisk c.args.shelf.now start shown all root.result place.root place.level place.least v root.ensures.page root.ensures.level root.ensures.keys tree later c.requires.inside in
    or_else (root_so g.P.Pages c.args.pages.now g.O.OnceDisk c.args.shelf.now start shown all root.result place.root place.level place.least v (λ pages at. LeadsToOutdated pages v at) root.ensures.page root.ensures.level root.ensures.keys tree later c.requires.inside) (c.in_ok-change.ensures.burns tree.store all can)

pub returns-clause-burns : goal.returns-clause-burns
returns-clause-burns g c start shown all tree later =
    let root = c.root-root in
    let place = c.args.place in
    let v : Version = version_of c.args.entry.now in
    let can = root_can g.P.Pages c.args.pages.now g.O.OnceDisk c.args.shelf.now start shown all root.result place.root place.level place.least v root.ensures.page root.ensures.level root.ensures.keys tree later c.requires.inside in
    or_else (root_so g.P.Pages c.args.pages.now g.O.OnceDisk c.args.shelf.now start shown all root.result place.root place.level place.least v (λ pages at. LeadsToOutdated pages v at) root.ensures.page root.ensures.level root.ensures.keys tree later c.requires.inside) (c.in_ok-change.ensures.burns tree.store all can)

pub returns-in_default-clause-grows : goal.returns-in_default-clause-grows
returns-in_default-clause-grows g c start shown all tree later = inl (refl, refl)

pub returns-clause-grows : goal.returns-clause-grows
returns-clause-grows g c start shown all tree later =
    let root = c.root-root in
    let place = c.args.place in
    let v : Version = version_of c.args.entry.now in
    let can = root_can g.P.Pages c.args.pages.now g.O.OnceDisk c.args.shelf.now start shown all root.result place.root place.level place.least v root.ensures.page root.ensures.level root.ensures.keys tree later c.requires.inside in
    let change = c.in_ok-change.change in
    let next : ℕ = g.P.Pages.next c.args.pages.now in
    let uses = root_so g.P.Pages c.args.pages.now g.O.OnceDisk c.args.shelf.now start shown all root.result place.root place.level place.least v (λ pages at. UsesPages pages v at next change.unused change.new) root.ensures.page root.ensures.level root.ensures.keys tree later c.requires.inside (c.in_ok-change.ensures.uses tree.store all can) in
    let some = subst (λ (o : Option Child). IsSome o) (sym c.in-Some.is) refl in
    inr (omega arith, tree_level shown v place.root place.level next change.unused change.new uses some)

pub returns-in_default-clause-rises : goal.returns-in_default-clause-rises
returns-in_default-clause-rises g c start shown all tree later needs =
    let root = c.root-root in
    let place = c.args.place in
    let v : Version = version_of c.args.entry.now in
    let can = root_can g.P.Pages c.args.pages.now g.O.OnceDisk c.args.shelf.now start shown all root.result place.root place.level place.least v root.ensures.page root.ensures.level root.ensures.keys tree later c.requires.inside in
    let change = c.in_ok-change.change in
    let next : ℕ = g.P.Pages.next c.args.pages.now in
    let uses = root_so g.P.Pages c.args.pages.now g.O.OnceDisk c.args.shelf.now start shown all root.result place.root place.level place.least v (λ pages at. UsesPages pages v at next change.unused change.new) root.ensures.page root.ensures.level root.ensures.keys tree later c.requires.inside (c.in_ok-change.ensures.uses tree.store all can) in
    absurd (root_stays shown v place.root place.level next change.unused change.new c.in_default.is uses needs)

pub returns-in_err-change-clause-highest : goal.returns-in_err-change-clause-highest
returns-in_err-change-clause-highest g c seven full =
    let p = err_from_is_err_and c.from_residual.result c.from_residual.ensures.1 in
    omega (arith, seven, c.root-root.ensures.level, plan_full _ _ _ _ _ _ c.in_err-change.ensures.refused (cc))

pub returns-in_err-change-2-clause-highest : goal.returns-in_err-change-2-clause-highest
returns-in_err-change-2-clause-highest g c seven full =
    let p = err_from_is_err_and c.from_residual-in_err-change-2.result c.from_residual-in_err-change-2.ensures.1 in
    let high = c.in_err-change-2.ensures.high.1 seven in
    absurd (cc)

pub returns-in_err-change-clause-lacks_pages : goal.returns-in_err-change-clause-lacks_pages
returns-in_err-change-clause-lacks_pages g c start shown all tree later is =
    let root = c.root-root in
    let place = c.args.place in
    let v : Version = version_of c.args.entry.now in
    let can = root_can g.P.Pages c.args.pages.now g.O.OnceDisk c.args.shelf.now start shown all root.result place.root place.level place.least v root.ensures.page root.ensures.level root.ensures.keys tree later c.requires.inside in
    let p = err_from_is_err_and c.from_residual.result c.from_residual.ensures.1 in
    let homes : ℕ = g.P.Pages.homes c.args.pages.now in
    let next : ℕ = g.P.Pages.next c.args.pages.now in
    tree_lacks shown v place.root place.level homes next (root_so g.P.Pages c.args.pages.now g.O.OnceDisk c.args.shelf.now start shown all root.result place.root place.level place.least v (λ pages at. LacksPages pages v at homes next) root.ensures.page root.ensures.level root.ensures.keys tree later c.requires.inside (c.in_err-change.ensures.lacks_pages tree.store all can (cc)))

pub returns-in_err-change-clause-once : goal.returns-in_err-change-clause-once
returns-in_err-change-clause-once g c start shown all tree later refusal is =
    let root = c.root-root in
    let place = c.args.place in
    let v : Version = version_of c.args.entry.now in
    let can = root_can g.P.Pages c.args.pages.now g.O.OnceDisk c.args.shelf.now start shown all root.result place.root place.level place.least v root.ensures.page root.ensures.level root.ensures.keys tree later c.requires.inside in
    let p = err_from_is_err_and c.from_residual.result c.from_residual.ensures.1 in
    root_so g.P.Pages c.args.pages.now g.O.OnceDisk c.args.shelf.now start shown all root.result place.root place.level place.least v (λ pages at. LeadsToOutdated pages v at) root.ensures.page root.ensures.level root.ensures.keys tree later c.requires.inside (c.in_err-change.ensures.once tree.store all can refusal (cc))

pub returns-in_default-clause-uses : goal.returns-in_default-clause-uses
returns-in_default-clause-uses g c start shown all tree later =
    let root = c.root-root in
    let place = c.args.place in
    let v : Version = version_of c.args.entry.now in
    let can = root_can g.P.Pages c.args.pages.now g.O.OnceDisk c.args.shelf.now start shown all root.result place.root place.level place.least v root.ensures.page root.ensures.level root.ensures.keys tree later c.requires.inside in
    let change = c.in_ok-change.change in
    let next : ℕ = g.P.Pages.next c.args.pages.now in
    let uses = root_so g.P.Pages c.args.pages.now g.O.OnceDisk c.args.shelf.now start shown all root.result place.root place.level place.least v (λ pages at. UsesPages pages v at next change.unused change.new) root.ensures.page root.ensures.level root.ensures.keys tree later c.requires.inside (c.in_ok-change.ensures.uses tree.store all can) in
    tree_same_uses shown v place.root place.level next change.unused change.new uses c.in_default.is

pub returns-in_err-change-2-clause-lacks_pages : goal.returns-in_err-change-2-clause-lacks_pages
returns-in_err-change-2-clause-lacks_pages g c start shown all tree later is =
    let root = c.root-root in
    let place = c.args.place in
    let v : Version = version_of c.args.entry.now in
    let can = root_can g.P.Pages c.args.pages.now g.O.OnceDisk c.args.shelf.now start shown all root.result place.root place.level place.least v root.ensures.page root.ensures.level root.ensures.keys tree later c.requires.inside in
    let change = c.in_ok-change.change in
    let next : ℕ = g.P.Pages.next c.args.pages.now in
    let uses = root_so g.P.Pages c.args.pages.now g.O.OnceDisk c.args.shelf.now start shown all root.result place.root place.level place.least v (λ pages at. UsesPages pages v at next change.unused change.new) root.ensures.page root.ensures.level root.ensures.keys tree later c.requires.inside (c.in_ok-change.ensures.uses tree.store all can) in
    let some = subst (λ (o : Option Child). IsSome o) (sym c.in-Some.is) refl in
    let p = err_from_is_err_and c.from_residual-in_err-change-2.result c.from_residual-in_err-change-2.ensures.1 in
    let same : c.home_pages.result ≡ g.P.Pages.homes c.args.pages.now = c.home_pages.ensures ∙ c.in_ok-change.ensures.reads.homes in
    let few = root_full _ _ _ _ c.in_err-change-2.ensures.refused (cc) in
    tree_grown_lacks shown v place.root place.level next change.unused change.new uses some (g.P.Pages.homes c.args.pages.now) (omega (arith, few, same))

pub returns-in_err-change-2-clause-once : goal.returns-in_err-change-2-clause-once
returns-in_err-change-2-clause-once g c start shown all tree later refusal is =
    let p = err_from_is_err_and c.from_residual-in_err-change-2.result c.from_residual-in_err-change-2.ensures.1 in
    absurd (root_never_once _ refusal _ _ _ c.in_err-change-2.ensures.refused (cc))

pub returns-clause-uses : goal.returns-clause-uses
returns-clause-uses g c start shown all tree later =
    let root = c.root-root in
    let place = c.args.place in
    let v : Version = version_of c.args.entry.now in
    let can = root_can g.P.Pages c.args.pages.now g.O.OnceDisk c.args.shelf.now start shown all root.result place.root place.level place.least v root.ensures.page root.ensures.level root.ensures.keys tree later c.requires.inside in
    let change = c.in_ok-change.change in
    let next : ℕ = g.P.Pages.next c.args.pages.now in
    let uses = root_so g.P.Pages c.args.pages.now g.O.OnceDisk c.args.shelf.now start shown all root.result place.root place.level place.least v (λ pages at. UsesPages pages v at next change.unused change.new) root.ensures.page root.ensures.level root.ensures.keys tree later c.requires.inside (c.in_ok-change.ensures.uses tree.store all can) in
    let some = subst (λ (o : Option Child). IsSome o) (sym c.in-Some.is) refl in
    tree_grown_uses shown v place.root place.level next change.unused change.new uses some c.in_ok-change-2.change.unused c.in_ok-change-2.ensures.grows.unused

pub returns-in_err-change-clause-one_block : goal.returns-in_err-change-clause-one_block
returns-in_err-change-clause-one_block g c start shown all tree later =
    let root = c.root-root in
    let place = c.args.place in
    let v : Version = version_of c.args.entry.now in
    let can = root_can g.P.Pages c.args.pages.now g.O.OnceDisk c.args.shelf.now start shown all root.result place.root place.level place.least v root.ensures.page root.ensures.level root.ensures.keys tree later c.requires.inside in
    or_else (root_so g.P.Pages c.args.pages.now g.O.OnceDisk c.args.shelf.now start shown all root.result place.root place.level place.least v (λ pages at. LeadsToFullColumn pages v at) root.ensures.page root.ensures.level root.ensures.keys tree later c.requires.inside)
    (c.in_err-change.ensures.one_block tree.store all can)

pub returns-in_default-clause-one_block : goal.returns-in_default-clause-one_block
returns-in_default-clause-one_block g c start shown all tree later =
    let root = c.root-root in
    let place = c.args.place in
    let v : Version = version_of c.args.entry.now in
    let can = root_can g.P.Pages c.args.pages.now g.O.OnceDisk c.args.shelf.now start shown all root.result place.root place.level place.least v root.ensures.page root.ensures.level root.ensures.keys tree later c.requires.inside in
    or_else (root_so g.P.Pages c.args.pages.now g.O.OnceDisk c.args.shelf.now start shown all root.result place.root place.level place.least v (λ pages at. LeadsToFullColumn pages v at) root.ensures.page root.ensures.level root.ensures.keys tree later c.requires.inside)
    (c.in_ok-change.ensures.one_block tree.store all can)

pub returns-in_err-change-2-clause-one_block : goal.returns-in_err-change-2-clause-one_block
returns-in_err-change-2-clause-one_block g c start shown all tree later =
    let root = c.root-root in
    let place = c.args.place in
    let v : Version = version_of c.args.entry.now in
    let can = root_can g.P.Pages c.args.pages.now g.O.OnceDisk c.args.shelf.now start shown all root.result place.root place.level place.least v root.ensures.page root.ensures.level root.ensures.keys tree later c.requires.inside in
    or_else (root_so g.P.Pages c.args.pages.now g.O.OnceDisk c.args.shelf.now start shown all root.result place.root place.level place.least v (λ pages at. LeadsToFullColumn pages v at) root.ensures.page root.ensures.level root.ensures.keys tree later c.requires.inside)
    (c.in_ok-change.ensures.one_block tree.store all can)

pub returns-clause-one_block : goal.returns-clause-one_block
returns-clause-one_block g c start shown all tree later =
    let root = c.root-root in
    let place = c.args.place in
    let v : Version = version_of c.args.entry.now in
    let can = root_can g.P.Pages c.args.pages.now g.O.OnceDisk c.args.shelf.now start shown all root.result place.root place.level place.least v root.ensures.page root.ensures.level root.ensures.keys tree later c.requires.inside in
    or_else (root_so g.P.Pages c.args.pages.now g.O.OnceDisk c.args.shelf.now start shown all root.result place.root place.level place.least v (λ pages at. LeadsToFullColumn pages v at) root.ensures.page root.ensures.level root.ensures.keys tree later c.requires.inside)
    (c.in_ok-change.ensures.one_block tree.store all can)

pub returns-in_default-clause-none_left : goal.returns-in_default-clause-none_left
returns-in_default-clause-none_left g c start shown all tree later none leads =
    let root = c.root-root in
    let place = c.args.place in
    let v : Version = version_of c.args.entry.now in
    let can = root_can g.P.Pages c.args.pages.now g.O.OnceDisk c.args.shelf.now start shown all root.result place.root place.level place.least v root.ensures.page root.ensures.level root.ensures.keys tree later c.requires.inside in
    let never = root_so g.P.Pages c.args.pages.now g.O.OnceDisk c.args.shelf.now start shown all root.result place.root place.level place.least v (λ pages at. LeadsToOutdated pages v at → ⊥) root.ensures.page root.ensures.level root.ensures.keys tree later c.requires.inside
    (λ way. false≢true (c.in_ok-change.ensures.none_left tree.store all can none way)) in
    absurd (outdated_root shown v place.root place.level leads never)

pub returns-clause-none_left : goal.returns-clause-none_left
returns-clause-none_left g c start shown all tree later none leads =
    let root = c.root-root in
    let place = c.args.place in
    let v : Version = version_of c.args.entry.now in
    let can = root_can g.P.Pages c.args.pages.now g.O.OnceDisk c.args.shelf.now start shown all root.result place.root place.level place.least v root.ensures.page root.ensures.level root.ensures.keys tree later c.requires.inside in
    let never = root_so g.P.Pages c.args.pages.now g.O.OnceDisk c.args.shelf.now start shown all root.result place.root place.level place.least v (λ pages at. LeadsToOutdated pages v at → ⊥) root.ensures.page root.ensures.level root.ensures.keys tree later c.requires.inside
    (λ way. false≢true (c.in_ok-change.ensures.none_left tree.store all can none way)) in
    absurd (outdated_root shown v place.root place.level leads never)

-- ---- images for which there is no room

pub returns-clause-alone : goal.returns-clause-alone
returns-clause-alone g c never =
    let none = (c.in_ok-change.ensures.alone never).0.new in
    absurd (no_half c.in_ok-change.change.new none (subst (λ (o : Option Child). IsSome o) (sym c.in-Some.is) refl))

pub returns-in_err-change-clause-crowded : goal.returns-in_err-change-clause-crowded
returns-in_err-change-clause-crowded g c start shown all tree later is =
    let root = c.root-root in
    let place = c.args.place in
    let v : Version = version_of c.args.entry.now in
    let can = root_can g.P.Pages c.args.pages.now g.O.OnceDisk c.args.shelf.now start shown all root.result place.root place.level place.least v root.ensures.page root.ensures.level root.ensures.keys tree later c.requires.inside in
    let p = err_from_is_err_and c.from_residual.result c.from_residual.ensures.1 in
    let none = c.in_err-change.ensures.crowded tree.store all can (cc) in
    (none.0, root_so g.P.Pages c.args.pages.now g.O.OnceDisk c.args.shelf.now start shown all root.result place.root place.level place.least v (λ pages at. LeadsToFullLeaf pages v at) root.ensures.page root.ensures.level root.ensures.keys tree later c.requires.inside none.1)

pub returns-in_err-change-2-clause-crowded : goal.returns-in_err-change-2-clause-crowded
returns-in_err-change-2-clause-crowded g c start shown all tree later is =
    let p = err_from_is_err_and c.from_residual-in_err-change-2.result c.from_residual-in_err-change-2.ensures.1 in
    absurd (root_never_crowded _ _ _ _ c.in_err-change-2.ensures.refused (cc))
