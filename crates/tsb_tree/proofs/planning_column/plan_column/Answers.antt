use Rattle.std.proofs.Common.{rules, ◌≡◌, ◌<◌, ℕ, List, Some, true, false, Err, Result, IfOk, slice_get, inl, inr, refl, sym, ◌∙◌, ap, subst, arith}
use Rattle.std.proofs.lemmas.Result.{err_from_is_err_and}
use Rattle.version_model.specs.Entries.{version_of}
use Rattle.tsb_tree.specs.declared.change.Change.{Change}
use Rattle.tsb_tree.specs.declared.error.TreeError.{TreeError}
use Rattle.version_model.specs.Ranges.{high_or}
use Rattle.tsb_walk.specs.Shown.{keys_at}
use Rattle.tsb_tree.specs.Layouts.{LaysLeaf}
use Rattle.tsb_tree.specs.Read.{IsLeafOf, IsFilled}
use Rattle.tsb_tree.proofs.PlanningLeaf.{plans_leaf}
use Rattle.tsb_tree.specs.Needs.{leaf_with_room}
use Rattle.tsb_tree.specs.NoRoom.{LeadsToFullLeaf, in_leaf}
use Rattle.tsb_tree.specs.Outlived.{IsOutdated, outdated_leaf}
use Rattle.tsb_tree.specs.Plans.{Plans}
use Rattle.tsb_tree.specs.Refusals.{IsHonest}
use Rattle.tsb_tree.specs.inner.Uses.{UsesPages}
use Rattle.tsb_tree.proofs.Columns.{column_shown}
use Rattle.tsb_tree.proofs.Needing.{leaf_shown, uses_none, read_never_full, read_never_once}
use Rattle.tsb_tree.proofs.OneWay.{filled_no_room, outdated_here}
use Rattle.tsb_tree.proofs.Outliving.{or_else}
use Rattle.tsb_tree.proofs.Pushing.{can_after, leaf_here, within, above_leaf, pushed_represents, filled_here, current_is, standing, pushed_true, pushed_false, stays_false, room_here}
use Rattle.tsb_tree.proofs.Shelving.{spends_none}
use Rattle.tsb_tree.proofs.LackingRoom.{if_ok, if_err, read_lacks_none}
use Rattle.tsb_tree.proofs.Crowding.{read_never_crowded, split_never_crowded}
use Rattle.tsb_tree.proofs.planning_column.plan_column.Goals as goal

pub returns-in_err-leaf-clause-honest : goal.returns-in_err-leaf-clause-honest
returns-in_err-leaf-clause-honest g c s all can =
    let h = c.in_err-leaf.ensures.honest can.start can.shown can.is.shows (column_shown s all c.args.place.now can.shown c.requires.level can.is.reports can.represents_all c.args.entry.now.stamp can.above.above) in
    let d : c.from_residual.result ≡ Err c.in_err-leaf.field-0.0 = search rules in
    subst (λ (r : Result Change TreeError). IsHonest r) (sym d) h

pub returns-in_err-push_entry-clause-honest : goal.returns-in_err-push_entry-clause-honest
returns-in_err-push_entry-clause-honest g c s all can =
    let of = c.in_ok-leaf.ensures.leaf can.start can.shown can.is.shows (column_shown s all c.args.place.now can.shown c.requires.level can.is.reports can.represents_all c.args.entry.now.stamp can.above.above) in
    let l = leaf_here s all c.args.place.now can.shown c.requires.level can.is.reports can.represents_all c.in_ok-leaf.leaf.page c.in_ok-leaf.leaf.image of in
    absurd (c.in_err-push_entry.ensures.pushed l.leaf l.page (within s all c.args.place.now can.shown c.requires.level can.is.reports can.represents_all c.in_ok-leaf.leaf.page c.in_ok-leaf.leaf.image of c.args.entry.now.key c.requires.has) (above_leaf s all c.args.place.now can.shown c.requires.level can.is.reports can.represents_all c.in_ok-leaf.leaf.page c.in_ok-leaf.leaf.image of c.args.entry.now.stamp can.above))

pub returns-then-branch-clause-plans : goal.returns-then-branch-clause-plans
returns-then-branch-clause-plans g c s all can =
    let place = c.args.place.now in
    let v = version_of c.args.entry.now in
    let of = c.in_ok-leaf.ensures.leaf can.start can.shown can.is.shows (column_shown s all c.args.place.now can.shown c.requires.level can.is.reports can.represents_all c.args.entry.now.stamp can.above.above) in
    let l = leaf_here s all c.args.place.now can.shown c.requires.level can.is.reports can.represents_all c.in_ok-leaf.leaf.page c.in_ok-leaf.leaf.image of in
    let yes : c.in_ok-push_entry.field-0 ≡ true = search rules in
    let pushed = pushed_true TreeError l.leaf v c.push_entry.new.image c.in_ok-push_entry.field-0 yes (c.in_ok-push_entry.ensures.pushed l.leaf l.page (within s all c.args.place.now can.shown c.requires.level can.is.reports can.represents_all c.in_ok-leaf.leaf.page c.in_ok-leaf.leaf.image of c.args.entry.now.key c.requires.has) (above_leaf s all c.args.place.now can.shown c.requires.level can.is.reports can.represents_all c.in_ok-leaf.leaf.page c.in_ok-leaf.leaf.image of c.args.entry.now.stamp can.above)) in
    let represents_node = pushed_represents s all c.args.place.now can.shown c.requires.level can.is.reports can.represents_all c.in_ok-leaf.leaf.page c.in_ok-leaf.leaf.image of v c.push_entry.new.image pushed in
    let st = standing s all c.args.place.now can.shown c.requires.level can.is.reports can.represents_all c.in_ok-leaf.leaf.page c.in_ok-leaf.leaf.image of in
    let here : c.in_ok-leaf.leaf.page ≡ st.current = current_is s all c.args.place.now can.shown c.requires.level can.is.reports can.represents_all c.in_ok-leaf.leaf.page c.in_ok-leaf.leaf.image of in
    let change = c.in_ok-lay_leaf.field-0 in
    let laid = c.in_ok-lay_leaf.ensures.laid in
    let lays : LaysLeaf st.current c.push_entry.new.image c.in_ok-lay_leaf.field-0.images.items = subst (λ (n : ℕ). LaysLeaf n c.push_entry.new.image c.in_ok-lay_leaf.field-0.images.items) here laid in
    let some : place.low < high_or place.high = omega (arith, c.requires.has.low, c.requires.has.high) in
    let inside : st.current < g.P.Pages.homes c.args.pages.now = omega (arith, here, c.in_ok-leaf.ensures.inside) in
    let unused : change.unused ≡ s.limit = c.in_ok-lay_leaf.ensures.unused ∙ c.next_page.ensures ∙ c.in_ok-leaf.ensures.reads.next ∙ sym can.is.limit in
    subst (λ (m : ℕ). Plans g.O.OnceDisk c.args.shelf.now (g.P.Pages.homes c.args.pages.now) s v m place.page change) (sym c.requires.level)
    (plans_leaf s v all (keys_at place) place.page st g.O.OnceDisk c.args.shelf.now (g.P.Pages.homes c.args.pages.now) c.push_entry.new.image change some can.is.represents_node can.is.next inside represents_node lays unused c.in_ok-lay_leaf.ensures.new)

pub returns-clause-plans : goal.returns-clause-plans
returns-clause-plans g c s all can =
    let place = c.args.place.now in
    let v = version_of c.args.entry.now in
    let of = c.in_ok-leaf.ensures.leaf can.start can.shown can.is.shows (column_shown s all c.args.place.now can.shown c.requires.level can.is.reports can.represents_all c.args.entry.now.stamp can.above.above) in
    let later = can_after g.P.Pages c.args.pages.now c.current_leaf.new.pages g.O.OnceDisk c.args.shelf.now s all place v _ c.in_ok-leaf.ensures.reads can in
    let no : c.in_ok-push_entry.field-0 ≡ false = search rules in
    let same : c.push_entry.new.image ≡ c.in_ok-leaf.leaf.image = stays_false TreeError _ _ c.in_ok-push_entry.field-0 no c.in_ok-push_entry.ensures.stays in
    let at : slice_get can.shown c.in_ok-leaf.leaf.page ≡ Some c.push_entry.new.image = of.at ∙ ap Some (sym same) in
    subst (λ (n : ℕ). IfOk c.plan_splits.result (λ change. Plans g.O.OnceDisk c.plan_splits.new.shelf n s v place.level place.page change)) c.in_ok-leaf.ensures.reads.homes (c.plan_splits.ensures.plans s all later at)

pub returns-clause-honest : goal.returns-clause-honest
returns-clause-honest g c s all can =
    let place = c.args.place.now in
    let v = version_of c.args.entry.now in
    let of = c.in_ok-leaf.ensures.leaf can.start can.shown can.is.shows (column_shown s all c.args.place.now can.shown c.requires.level can.is.reports can.represents_all c.args.entry.now.stamp can.above.above) in
    let l = leaf_here s all c.args.place.now can.shown c.requires.level can.is.reports can.represents_all c.in_ok-leaf.leaf.page c.in_ok-leaf.leaf.image of in
    let later = can_after g.P.Pages c.args.pages.now c.current_leaf.new.pages g.O.OnceDisk c.args.shelf.now s all place v _ c.in_ok-leaf.ensures.reads can in
    let no : c.in_ok-push_entry.field-0 ≡ false = search rules in
    let same : c.push_entry.new.image ≡ c.in_ok-leaf.leaf.image = stays_false TreeError _ _ c.in_ok-push_entry.field-0 no c.in_ok-push_entry.ensures.stays in
    let full = pushed_false TreeError l.leaf v c.push_entry.new.image c.in_ok-push_entry.field-0 no (c.in_ok-push_entry.ensures.pushed l.leaf l.page (within s all c.args.place.now can.shown c.requires.level can.is.reports can.represents_all c.in_ok-leaf.leaf.page c.in_ok-leaf.leaf.image of c.args.entry.now.key c.requires.has) (above_leaf s all c.args.place.now can.shown c.requires.level can.is.reports can.represents_all c.in_ok-leaf.leaf.page c.in_ok-leaf.leaf.image of c.args.entry.now.stamp can.above)) in
    let filled = filled_here s all c.args.place.now can.shown c.requires.level can.is.reports can.represents_all c.in_ok-leaf.leaf.page c.in_ok-leaf.leaf.image of v full in
    c.plan_splits.ensures.honest s all later (subst (λ (i : List ℕ). IsLeafOf can.shown place c.in_ok-leaf.leaf.page i) (sym same) of) (subst (λ (i : List ℕ). IsFilled place i v) (sym same) filled)

pub returns-in_err-leaf-clause-lacks : goal.returns-in_err-leaf-clause-lacks
returns-in_err-leaf-clause-lacks g c s all can =
    let h = read_lacks_none _ (g.P.Pages.down c.args.pages.now) c.in_err-leaf.ensures.refused in
    search rules

pub returns-clause-lacks : goal.returns-clause-lacks
returns-clause-lacks g c s all can =
    let place = c.args.place.now in
    let v = version_of c.args.entry.now in
    let of = c.in_ok-leaf.ensures.leaf can.start can.shown can.is.shows (column_shown s all c.args.place.now can.shown c.requires.level can.is.reports can.represents_all c.args.entry.now.stamp can.above.above) in
    let l = leaf_here s all c.args.place.now can.shown c.requires.level can.is.reports can.represents_all c.in_ok-leaf.leaf.page c.in_ok-leaf.leaf.image of in
    let later = can_after g.P.Pages c.args.pages.now c.current_leaf.new.pages g.O.OnceDisk c.args.shelf.now s all place v _ c.in_ok-leaf.ensures.reads can in
    let no : c.in_ok-push_entry.field-0 ≡ false = search rules in
    let same : c.push_entry.new.image ≡ c.in_ok-leaf.leaf.image = stays_false TreeError _ _ c.in_ok-push_entry.field-0 no c.in_ok-push_entry.ensures.stays in
    let full = pushed_false TreeError l.leaf v c.push_entry.new.image c.in_ok-push_entry.field-0 no (c.in_ok-push_entry.ensures.pushed l.leaf l.page (within s all c.args.place.now can.shown c.requires.level can.is.reports can.represents_all c.in_ok-leaf.leaf.page c.in_ok-leaf.leaf.image of c.args.entry.now.key c.requires.has) (above_leaf s all c.args.place.now can.shown c.requires.level can.is.reports can.represents_all c.in_ok-leaf.leaf.page c.in_ok-leaf.leaf.image of c.args.entry.now.stamp can.above)) in
    let filled = filled_here s all c.args.place.now can.shown c.requires.level can.is.reports can.represents_all c.in_ok-leaf.leaf.page c.in_ok-leaf.leaf.image of v full in
    let no_room : LeadsToFullLeaf can.shown v place = in_leaf place c.in_ok-leaf.leaf.page c.in_ok-leaf.leaf.image of filled in
    if_err c.plan_splits.result (λ e need. no_room)

pub returns-then-branch-clause-light : goal.returns-then-branch-clause-light
returns-then-branch-clause-light g c s all can =
    inl (record { few = c.in_ok-lay_leaf.ensures.laid.few; unused = c.in_ok-lay_leaf.ensures.unused ∙ c.next_page.ensures ∙ c.in_ok-leaf.ensures.reads.next; new = c.in_ok-lay_leaf.ensures.new }, refl)

pub returns-clause-light : goal.returns-clause-light
returns-clause-light g c s all can =
    let place = c.args.place.now in
    let v = version_of c.args.entry.now in
    let of = c.in_ok-leaf.ensures.leaf can.start can.shown can.is.shows (column_shown s all c.args.place.now can.shown c.requires.level can.is.reports can.represents_all c.args.entry.now.stamp can.above.above) in
    let l = leaf_here s all c.args.place.now can.shown c.requires.level can.is.reports can.represents_all c.in_ok-leaf.leaf.page c.in_ok-leaf.leaf.image of in
    let no : c.in_ok-push_entry.field-0 ≡ false = search rules in
    let full = pushed_false TreeError l.leaf v c.push_entry.new.image c.in_ok-push_entry.field-0 no (c.in_ok-push_entry.ensures.pushed l.leaf l.page (within s all c.args.place.now can.shown c.requires.level can.is.reports can.represents_all c.in_ok-leaf.leaf.page c.in_ok-leaf.leaf.image of c.args.entry.now.key c.requires.has) (above_leaf s all c.args.place.now can.shown c.requires.level can.is.reports can.represents_all c.in_ok-leaf.leaf.page c.in_ok-leaf.leaf.image of c.args.entry.now.stamp can.above)) in
    let filled = filled_here s all c.args.place.now can.shown c.requires.level can.is.reports can.represents_all c.in_ok-leaf.leaf.page c.in_ok-leaf.leaf.image of v full in
    let no_room : LeadsToFullLeaf can.shown v place = in_leaf place c.in_ok-leaf.leaf.page c.in_ok-leaf.leaf.image of filled in
    if_ok c.plan_splits.result (λ change. inr no_room)

pub returns-clause-burns : goal.returns-clause-burns
returns-clause-burns g c s all can =
    let place = c.args.place.now in
    let v = version_of c.args.entry.now in
    let of = c.in_ok-leaf.ensures.leaf can.start can.shown can.is.shows (column_shown s all c.args.place.now can.shown c.requires.level can.is.reports can.represents_all c.args.entry.now.stamp can.above.above) in
    let l = leaf_here s all c.args.place.now can.shown c.requires.level can.is.reports can.represents_all c.in_ok-leaf.leaf.page c.in_ok-leaf.leaf.image of in
    let no : c.in_ok-push_entry.field-0 ≡ false = search rules in
    let same : c.push_entry.new.image ≡ c.in_ok-leaf.leaf.image = stays_false TreeError _ _ c.in_ok-push_entry.field-0 no c.in_ok-push_entry.ensures.stays in
    let full = pushed_false TreeError l.leaf v c.push_entry.new.image c.in_ok-push_entry.field-0 no (c.in_ok-push_entry.ensures.pushed l.leaf l.page (within s all c.args.place.now can.shown c.requires.level can.is.reports can.represents_all c.in_ok-leaf.leaf.page c.in_ok-leaf.leaf.image of c.args.entry.now.key c.requires.has) (above_leaf s all c.args.place.now can.shown c.requires.level can.is.reports can.represents_all c.in_ok-leaf.leaf.page c.in_ok-leaf.leaf.image of c.args.entry.now.stamp can.above)) in
    let filled = filled_here s all c.args.place.now can.shown c.requires.level can.is.reports can.represents_all c.in_ok-leaf.leaf.page c.in_ok-leaf.leaf.image of v full in
    or_else (λ (out : IsOutdated place c.push_entry.new.image v). outdated_leaf place c.in_ok-leaf.leaf.page c.in_ok-leaf.leaf.image of filled (subst (λ (i : List ℕ). IsOutdated place i v) same out)) c.plan_splits.ensures.burns

pub returns-then-branch-clause-uses : goal.returns-then-branch-clause-uses
returns-then-branch-clause-uses g c s all can =
    let place = c.args.place.now in
    let v = version_of c.args.entry.now in
    let of = c.in_ok-leaf.ensures.leaf can.start can.shown can.is.shows (column_shown s all c.args.place.now can.shown c.requires.level can.is.reports can.represents_all c.args.entry.now.stamp can.above.above) in
    let l = leaf_here s all c.args.place.now can.shown c.requires.level can.is.reports can.represents_all c.in_ok-leaf.leaf.page c.in_ok-leaf.leaf.image of in
    let yes : c.in_ok-push_entry.field-0 ≡ true = search rules in
    let pushed = pushed_true TreeError l.leaf v c.push_entry.new.image c.in_ok-push_entry.field-0 yes (c.in_ok-push_entry.ensures.pushed l.leaf l.page (within s all c.args.place.now can.shown c.requires.level can.is.reports can.represents_all c.in_ok-leaf.leaf.page c.in_ok-leaf.leaf.image of c.args.entry.now.key c.requires.has) (above_leaf s all c.args.place.now can.shown c.requires.level can.is.reports can.represents_all c.in_ok-leaf.leaf.page c.in_ok-leaf.leaf.image of c.args.entry.now.stamp can.above)) in
    let room = room_here s all c.args.place.now can.shown c.requires.level can.is.reports can.represents_all c.in_ok-leaf.leaf.page c.in_ok-leaf.leaf.image of v c.push_entry.new.image pushed in
    uses_none can.shown v place _ _ _ c.in_ok-lay_leaf.ensures.new (c.in_ok-lay_leaf.ensures.unused ∙ c.next_page.ensures ∙ c.in_ok-leaf.ensures.reads.next)
    (leaf_with_room place of.versions (leaf_shown can.shown place c.in_ok-leaf.leaf.page c.in_ok-leaf.leaf.image of) room)

pub returns-clause-uses : goal.returns-clause-uses
returns-clause-uses g c s all can =
    let place = c.args.place.now in
    let v = version_of c.args.entry.now in
    let of = c.in_ok-leaf.ensures.leaf can.start can.shown can.is.shows (column_shown s all c.args.place.now can.shown c.requires.level can.is.reports can.represents_all c.args.entry.now.stamp can.above.above) in
    let l = leaf_here s all c.args.place.now can.shown c.requires.level can.is.reports can.represents_all c.in_ok-leaf.leaf.page c.in_ok-leaf.leaf.image of in
    let no : c.in_ok-push_entry.field-0 ≡ false = search rules in
    let same : c.push_entry.new.image ≡ c.in_ok-leaf.leaf.image = stays_false TreeError _ _ c.in_ok-push_entry.field-0 no c.in_ok-push_entry.ensures.stays in
    let full = pushed_false TreeError l.leaf v c.push_entry.new.image c.in_ok-push_entry.field-0 no (c.in_ok-push_entry.ensures.pushed l.leaf l.page (within s all c.args.place.now can.shown c.requires.level can.is.reports can.represents_all c.in_ok-leaf.leaf.page c.in_ok-leaf.leaf.image of c.args.entry.now.key c.requires.has) (above_leaf s all c.args.place.now can.shown c.requires.level can.is.reports can.represents_all c.in_ok-leaf.leaf.page c.in_ok-leaf.leaf.image of c.args.entry.now.stamp can.above)) in
    let filled = filled_here s all c.args.place.now can.shown c.requires.level can.is.reports can.represents_all c.in_ok-leaf.leaf.page c.in_ok-leaf.leaf.image of v full in
    let shows = c.in_ok-leaf.ensures.reads.shown can.start can.shown can.is.shows in
    let at : slice_get can.shown c.in_ok-leaf.leaf.page ≡ Some c.push_entry.new.image = of.at ∙ ap Some (sym same) in
    let filled' = subst (λ (i : List ℕ). IsFilled place i v) (sym same) filled in
    subst (λ (n : ℕ). IfOk c.plan_splits.result (λ change. UsesPages can.shown v place n change.unused change.new)) c.in_ok-leaf.ensures.reads.next (c.plan_splits.ensures.uses can.start can.shown shows at filled')

pub returns-clause-lacks_pages : goal.returns-clause-lacks_pages
returns-clause-lacks_pages g c s all can is =
    let place = c.args.place.now in
    let v = version_of c.args.entry.now in
    let of = c.in_ok-leaf.ensures.leaf can.start can.shown can.is.shows (column_shown s all c.args.place.now can.shown c.requires.level can.is.reports can.represents_all c.args.entry.now.stamp can.above.above) in
    let l = leaf_here s all c.args.place.now can.shown c.requires.level can.is.reports can.represents_all c.in_ok-leaf.leaf.page c.in_ok-leaf.leaf.image of in
    let no : c.in_ok-push_entry.field-0 ≡ false = search rules in
    let same : c.push_entry.new.image ≡ c.in_ok-leaf.leaf.image = stays_false TreeError _ _ c.in_ok-push_entry.field-0 no c.in_ok-push_entry.ensures.stays in
    let full = pushed_false TreeError l.leaf v c.push_entry.new.image c.in_ok-push_entry.field-0 no (c.in_ok-push_entry.ensures.pushed l.leaf l.page (within s all c.args.place.now can.shown c.requires.level can.is.reports can.represents_all c.in_ok-leaf.leaf.page c.in_ok-leaf.leaf.image of c.args.entry.now.key c.requires.has) (above_leaf s all c.args.place.now can.shown c.requires.level can.is.reports can.represents_all c.in_ok-leaf.leaf.page c.in_ok-leaf.leaf.image of c.args.entry.now.stamp can.above)) in
    let filled = filled_here s all c.args.place.now can.shown c.requires.level can.is.reports can.represents_all c.in_ok-leaf.leaf.page c.in_ok-leaf.leaf.image of v full in
    let shows = c.in_ok-leaf.ensures.reads.shown can.start can.shown can.is.shows in
    let at : slice_get can.shown c.in_ok-leaf.leaf.page ≡ Some c.push_entry.new.image = of.at ∙ ap Some (sym same) in
    let filled' = subst (λ (i : List ℕ). IsFilled place i v) (sym same) filled in
    let lacks = c.plan_splits.ensures.lacks_pages can.start can.shown shows at filled' is in
    let few = lacks.2 in
    (lacks.0, lacks.1, omega (arith, few, c.in_ok-leaf.ensures.reads.homes, c.in_ok-leaf.ensures.reads.next))

pub returns-clause-once : goal.returns-clause-once
returns-clause-once g c s all can refusal is =
    let place = c.args.place.now in
    let v = version_of c.args.entry.now in
    let of = c.in_ok-leaf.ensures.leaf can.start can.shown can.is.shows (column_shown s all c.args.place.now can.shown c.requires.level can.is.reports can.represents_all c.args.entry.now.stamp can.above.above) in
    let l = leaf_here s all c.args.place.now can.shown c.requires.level can.is.reports can.represents_all c.in_ok-leaf.leaf.page c.in_ok-leaf.leaf.image of in
    let no : c.in_ok-push_entry.field-0 ≡ false = search rules in
    let same : c.push_entry.new.image ≡ c.in_ok-leaf.leaf.image = stays_false TreeError _ _ c.in_ok-push_entry.field-0 no c.in_ok-push_entry.ensures.stays in
    let full = pushed_false TreeError l.leaf v c.push_entry.new.image c.in_ok-push_entry.field-0 no (c.in_ok-push_entry.ensures.pushed l.leaf l.page (within s all c.args.place.now can.shown c.requires.level can.is.reports can.represents_all c.in_ok-leaf.leaf.page c.in_ok-leaf.leaf.image of c.args.entry.now.key c.requires.has) (above_leaf s all c.args.place.now can.shown c.requires.level can.is.reports can.represents_all c.in_ok-leaf.leaf.page c.in_ok-leaf.leaf.image of c.args.entry.now.stamp can.above)) in
    let filled = filled_here s all c.args.place.now can.shown c.requires.level can.is.reports can.represents_all c.in_ok-leaf.leaf.page c.in_ok-leaf.leaf.image of v full in
    outdated_leaf place c.in_ok-leaf.leaf.page c.in_ok-leaf.leaf.image of filled (subst (λ (i : List ℕ). IsOutdated place i v) same (c.plan_splits.ensures.once refusal is))

pub returns-in_err-leaf-clause-lacks_pages : goal.returns-in_err-leaf-clause-lacks_pages
returns-in_err-leaf-clause-lacks_pages g c s all can is =
    let p = err_from_is_err_and c.from_residual.result c.from_residual.ensures.1 in
    absurd (read_never_full _ (g.P.Pages.down c.args.pages.now) c.in_err-leaf.ensures.refused (cc))

pub returns-in_err-leaf-clause-once : goal.returns-in_err-leaf-clause-once
returns-in_err-leaf-clause-once g c s all can refusal is =
    let p = err_from_is_err_and c.from_residual.result c.from_residual.ensures.1 in
    absurd (read_never_once _ refusal (g.P.Pages.down c.args.pages.now) c.in_err-leaf.ensures.refused (cc))

pub returns-in_err-leaf-clause-one_block : goal.returns-in_err-leaf-clause-one_block
returns-in_err-leaf-clause-one_block g c s all can = inl (spends_none g.O.OnceDisk c.args.shelf.now)

pub returns-in_err-push_entry-clause-one_block : goal.returns-in_err-push_entry-clause-one_block
returns-in_err-push_entry-clause-one_block g c s all can = inl (spends_none g.O.OnceDisk c.args.shelf.now)

pub returns-in_err-lay_leaf-clause-one_block : goal.returns-in_err-lay_leaf-clause-one_block
returns-in_err-lay_leaf-clause-one_block g c s all can = inl (spends_none g.O.OnceDisk c.args.shelf.now)

pub returns-then-branch-clause-one_block : goal.returns-then-branch-clause-one_block
returns-then-branch-clause-one_block g c s all can = inl (spends_none g.O.OnceDisk c.args.shelf.now)

pub returns-clause-one_block : goal.returns-clause-one_block
returns-clause-one_block g c s all can = c.plan_splits.ensures.one_block can.start can.shown (c.in_ok-leaf.ensures.reads.shown can.start can.shown can.is.shows)

pub returns-then-branch-clause-none_left : goal.returns-then-branch-clause-none_left
returns-then-branch-clause-none_left g c s all can none leads =
    let place = c.args.place.now in
    let v = version_of c.args.entry.now in
    let of = c.in_ok-leaf.ensures.leaf can.start can.shown can.is.shows (column_shown s all c.args.place.now can.shown c.requires.level can.is.reports can.represents_all c.args.entry.now.stamp can.above.above) in
    let l = leaf_here s all c.args.place.now can.shown c.requires.level can.is.reports can.represents_all c.in_ok-leaf.leaf.page c.in_ok-leaf.leaf.image of in
    let yes : c.in_ok-push_entry.field-0 ≡ true = search rules in
    let pushed = pushed_true TreeError l.leaf v c.push_entry.new.image c.in_ok-push_entry.field-0 yes (c.in_ok-push_entry.ensures.pushed l.leaf l.page (within s all c.args.place.now can.shown c.requires.level can.is.reports can.represents_all c.in_ok-leaf.leaf.page c.in_ok-leaf.leaf.image of c.args.entry.now.key c.requires.has) (above_leaf s all c.args.place.now can.shown c.requires.level can.is.reports can.represents_all c.in_ok-leaf.leaf.page c.in_ok-leaf.leaf.image of c.args.entry.now.stamp can.above)) in
    let room = room_here s all c.args.place.now can.shown c.requires.level can.is.reports can.represents_all c.in_ok-leaf.leaf.page c.in_ok-leaf.leaf.image of v c.push_entry.new.image pushed in
    absurd (filled_no_room can.shown place c.in_ok-leaf.leaf.page c.in_ok-leaf.leaf.image v of (outdated_here can.shown v place c.in_ok-leaf.leaf.page c.in_ok-leaf.leaf.image of leads).0 room)

pub returns-clause-none_left : goal.returns-clause-none_left
returns-clause-none_left g c s all can none leads =
    let place = c.args.place.now in
    let v = version_of c.args.entry.now in
    let of = c.in_ok-leaf.ensures.leaf can.start can.shown can.is.shows (column_shown s all c.args.place.now can.shown c.requires.level can.is.reports can.represents_all c.args.entry.now.stamp can.above.above) in
    let no : c.in_ok-push_entry.field-0 ≡ false = search rules in
    let same : c.push_entry.new.image ≡ c.in_ok-leaf.leaf.image = stays_false TreeError _ _ c.in_ok-push_entry.field-0 no c.in_ok-push_entry.ensures.stays in
    let outdated = (outdated_here can.shown v place c.in_ok-leaf.leaf.page c.in_ok-leaf.leaf.image of leads).1 in
    c.plan_splits.ensures.none_left can.is.honest none (subst (λ (i : List ℕ). IsOutdated place i v) (sym same) outdated)

-- ---- images for which there is no room

pub returns-then-branch-clause-alone : goal.returns-then-branch-clause-alone
returns-then-branch-clause-alone g c never =
    (record { few = c.in_ok-lay_leaf.ensures.laid.few; unused = c.in_ok-lay_leaf.ensures.unused ∙ c.next_page.ensures ∙ c.in_ok-leaf.ensures.reads.next; new = c.in_ok-lay_leaf.ensures.new }, refl)

pub returns-in_err-leaf-clause-crowded : goal.returns-in_err-leaf-clause-crowded
returns-in_err-leaf-clause-crowded g c s all can is =
    let p = err_from_is_err_and c.from_residual.result c.from_residual.ensures.1 in
    absurd (read_never_crowded _ (g.P.Pages.down c.args.pages.now) c.in_err-leaf.ensures.refused (cc))

pub returns-then-not-may_split-clause-crowded : goal.returns-then-not-may_split-clause-crowded
returns-then-not-may_split-clause-crowded g c s all can is =
    let place = c.args.place.now in
    let v = version_of c.args.entry.now in
    let of = c.in_ok-leaf.ensures.leaf can.start can.shown can.is.shows (column_shown s all c.args.place.now can.shown c.requires.level can.is.reports can.represents_all c.args.entry.now.stamp can.above.above) in
    let l = leaf_here s all c.args.place.now can.shown c.requires.level can.is.reports can.represents_all c.in_ok-leaf.leaf.page c.in_ok-leaf.leaf.image of in
    let no : c.in_ok-push_entry.field-0 ≡ false = search rules in
    let full = pushed_false TreeError l.leaf v c.push_entry.new.image c.in_ok-push_entry.field-0 no (c.in_ok-push_entry.ensures.pushed l.leaf l.page (within s all c.args.place.now can.shown c.requires.level can.is.reports can.represents_all c.in_ok-leaf.leaf.page c.in_ok-leaf.leaf.image of c.args.entry.now.key c.requires.has) (above_leaf s all c.args.place.now can.shown c.requires.level can.is.reports can.represents_all c.in_ok-leaf.leaf.page c.in_ok-leaf.leaf.image of c.args.entry.now.stamp can.above)) in
    let filled = filled_here s all c.args.place.now can.shown c.requires.level can.is.reports can.represents_all c.in_ok-leaf.leaf.page c.in_ok-leaf.leaf.image of v full in
    (refl, in_leaf place c.in_ok-leaf.leaf.page c.in_ok-leaf.leaf.image of filled)

pub returns-clause-crowded : goal.returns-clause-crowded
returns-clause-crowded g c s all can is = absurd (split_never_crowded _ _ _ _ c.plan_splits.result c.plan_splits.ensures.refused is)

pub returns-then-not-may_split-clause-one_block : goal.returns-then-not-may_split-clause-one_block
returns-then-not-may_split-clause-one_block g c s all can = inl (spends_none g.O.OnceDisk c.args.shelf.now)
