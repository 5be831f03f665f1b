use Rattle.std.proofs.Common.{◌≡◌, ◌<◌, ◌≤◌, ℕ, suc, inl, Result, rules, sym, ◌∙◌, subst, arith}
use Rattle.std.proofs.lemmas.Bool.{false≢true}
use Rattle.std.proofs.lemmas.Result.{err_from_is_err_and}
use Rattle.std.specs.Prelude.{IfOk, IfErr, OnOk}
use Rattle.version_model.specs.Entries.{version_of}
use Rattle.version_model.specs.Versions.{Version}
use Rattle.tsb_walk.specs.declared.page_place.PagePlace.{PagePlace}
use Rattle.tsb_tree.specs.declared.change.Change.{Change}
use Rattle.tsb_tree.specs.declared.error.TreeError.{TreeError}
use Rattle.tsb_tree.specs.NoRoom.{IsForRoom, LeadsToFullColumn, full_column_below, LeadsToFullLeaf, in_child}
use Rattle.tsb_tree.specs.Outlived.{LeadsToOutdated}
use Rattle.tsb_tree.specs.Plans.{Plans, CanBeLaid}
use Rattle.tsb_tree.specs.Raises.{RaiseRefusal}
use Rattle.tsb_tree.specs.inner.Uses.{UsesPages, LacksPages}
use Rattle.tsb_tree.proofs.Needing.{half_leads, uses_up, lacks_up, lacks_half, read_never_full, read_never_once}
use Rattle.tsb_tree.proofs.Raising.{take_lower, at_lower, leads_lower, outdated_lower, can_represent, raised, raise_never, half_room}
use Rattle.tsb_walk.specs.Shown.{keys_at}
use Rattle.tsb_tree.proofs.OneWay.{outdated_on}
use Rattle.tsb_tree.proofs.Outliving.{or_else}
use Rattle.tsb_tree.proofs.Shelving.{spends_none}
use Rattle.tsb_tree.proofs.LackingRoom.{is_half, raised_light, raised_lacks, read_lacks_none}
use Rattle.tsb_tree.proofs.Crowding.{raise_never_crowded, raised_alone, read_never_crowded}
use Rattle.tsb_tree.proofs.descent.+plan_under.Goals as goal

pub returns-in_err-next-clause-honest : goal.returns-in_err-next-clause-honest
returns-in_err-next-clause-honest g t c s all can =
    let above : 1 < c.args.place.now.level = omega (arith, c.requires.level, c.if-place-eq1.false) in
    let decoded = can_represent g.P.Pages c.args.pages.now g.O.OnceDisk c.args.shelf.now s all c.args.place.now (version_of c.args.entry.now) can above in
    let h = c.in_err-next.ensures.honest can.start can.shown decoded.0 can.is.shows decoded.1 in
    search rules

pub returns-in_err-change-clause-honest : goal.returns-in_err-change-clause-honest
returns-in_err-change-clause-honest g t c s all can =
    let above : 1 < c.args.place.now.level = omega (arith, c.requires.level, c.if-place-eq1.false) in
    let decoded = can_represent g.P.Pages c.args.pages.now g.O.OnceDisk c.args.shelf.now s all c.args.place.now (version_of c.args.entry.now) can above in
    let lower = c.in_ok-next.ensures.lower can.start can.shown decoded.0 can.is.shows decoded.1 in
    let can' = take_lower g.P.Pages c.args.pages.now c.child_at.new.pages _ g.O.OnceDisk c.args.shelf.now s all c.args.place.now c.in_ok-next.next (version_of c.args.entry.now) c.in_ok-next.ensures.reads can above lower in
    let h = c.in_err-change.ensures.honest s all can' in
    search rules

pub returns-clause-plans : goal.returns-clause-plans
returns-clause-plans g t c s all can =
    let pages = g.P.Pages in
    let place : PagePlace = c.args.place.now in
    let next : PagePlace = c.in_ok-next.next in
    let v : Version = version_of c.args.entry.now in
    let change = c.in_ok-change.change in
    let above : 1 < place.level = omega (arith, c.requires.level, c.if-place-eq1.false) in
    let decoded = can_represent g.P.Pages c.args.pages.now g.O.OnceDisk c.args.shelf.now s all c.args.place.now (version_of c.args.entry.now) can above in
    let lower = c.in_ok-next.ensures.lower can.start can.shown decoded.0 can.is.shows decoded.1 in
    let can' = take_lower g.P.Pages c.args.pages.now c.child_at.new.pages _ g.O.OnceDisk c.args.shelf.now s all place next v c.in_ok-next.ensures.reads can above lower in
    let down : pages.homes c.child_at.new.pages ≡ pages.homes c.args.pages.now = c.in_ok-next.ensures.reads.homes in
    let up : pages.homes c.plan_under.new.pages ≡ pages.homes c.child_at.new.pages = c.in_ok-change.ensures.reads.homes in
    let plans = subst (λ (h : ℕ). Plans g.O.OnceDisk c.plan_under.new.shelf h s v next.level next.page change) down (c.in_ok-change.ensures.plans s all can') in
    let shows = c.in_ok-change.ensures.reads.shown can.start can.shown (c.in_ok-next.ensures.reads.shown can.start can.shown can.is.shows) in
    let unused : ℕ = pages.next c.child_at.new.pages in
    let laid = c.raise.ensures.laid unused next.level (subst (λ (h : ℕ). CanBeLaid h unused next.level change) (sym up) c.in_ok-change.ensures.laid) in
    raised g.O.OnceDisk c.plan_under.new.shelf (pages.homes c.args.pages.now) can.shown s all v place next can.is.reports lower above can.represents_all change plans can.above unused (suc next.level) c.raise.result
    c.raise.ensures.kept
    (λ new room some. c.raise.ensures.puts can.start can.shown new room shows some)
    (λ is. subst (λ (h : ℕ). OnOk c.raise.result (place.page < h)) (up ∙ down) (c.raise.ensures.inside is))
    (subst (λ (h : ℕ). IfOk c.raise.result (CanBeLaid h unused (suc next.level))) (up ∙ down) laid)

pub returns-clause-honest : goal.returns-clause-honest
returns-clause-honest g t c s all can =
    let pages = g.P.Pages in
    let place : PagePlace = c.args.place.now in
    let next : PagePlace = c.in_ok-next.next in
    let v : Version = version_of c.args.entry.now in
    let change = c.in_ok-change.change in
    let above : 1 < place.level = omega (arith, c.requires.level, c.if-place-eq1.false) in
    let decoded = can_represent g.P.Pages c.args.pages.now g.O.OnceDisk c.args.shelf.now s all c.args.place.now (version_of c.args.entry.now) can above in
    let lower = c.in_ok-next.ensures.lower can.start can.shown decoded.0 can.is.shows decoded.1 in
    let can' = take_lower g.P.Pages c.args.pages.now c.child_at.new.pages _ g.O.OnceDisk c.args.shelf.now s all place next v c.in_ok-next.ensures.reads can above lower in
    let plans = c.in_ok-change.ensures.plans s all can' in
    let shows = c.in_ok-change.ensures.reads.shown can.start can.shown (c.in_ok-next.ensures.reads.shown can.start can.shown can.is.shows) in
    c.raise.ensures.honest can.start can.shown shows
    (λ new some. half_room g.O.OnceDisk c.plan_under.new.shelf (pages.homes c.child_at.new.pages) can.shown s all v place next can.is.reports lower above can.represents_all change plans can.above new some)

pub returns-in_err-next-clause-lacks : goal.returns-in_err-next-clause-lacks
returns-in_err-next-clause-lacks g t c s all can =
    let h = read_lacks_none _ (g.P.Pages.down c.args.pages.now) c.in_err-next.ensures.refused in
    search rules

pub returns-in_err-change-clause-lacks : goal.returns-in_err-change-clause-lacks
returns-in_err-change-clause-lacks g t c s all can =
    let above : 1 < c.args.place.now.level = omega (arith, c.requires.level, c.if-place-eq1.false) in
    let decoded = can_represent g.P.Pages c.args.pages.now g.O.OnceDisk c.args.shelf.now s all c.args.place.now (version_of c.args.entry.now) can above in
    let lower = c.in_ok-next.ensures.lower can.start can.shown decoded.0 can.is.shows decoded.1 in
    let can' = take_lower g.P.Pages c.args.pages.now c.child_at.new.pages _ g.O.OnceDisk c.args.shelf.now s all c.args.place.now c.in_ok-next.next (version_of c.args.entry.now) c.in_ok-next.ensures.reads can above lower in
    let h : IsForRoom c.in_err-change.field-0.0 → LeadsToFullLeaf can.shown (version_of c.args.entry.now) c.args.place.now = λ need. leads_lower g.P.Pages c.args.pages.now c.child_at.new.pages _ g.O.OnceDisk c.args.shelf.now s all c.args.place.now c.in_ok-next.next (version_of c.args.entry.now) c.in_ok-next.ensures.reads can above lower (c.in_err-change.ensures.lacks s all can' need) in
    search rules

pub returns-clause-lacks : goal.returns-clause-lacks
returns-clause-lacks g t c s all can =
    let pages = g.P.Pages in
    let place : PagePlace = c.args.place.now in
    let next : PagePlace = c.in_ok-next.next in
    let v : Version = version_of c.args.entry.now in
    let above : 1 < place.level = omega (arith, c.requires.level, c.if-place-eq1.false) in
    let decoded = can_represent g.P.Pages c.args.pages.now g.O.OnceDisk c.args.shelf.now s all c.args.place.now (version_of c.args.entry.now) can above in
    let lower = c.in_ok-next.ensures.lower can.start can.shown decoded.0 can.is.shows decoded.1 in
    let can' = take_lower pages c.args.pages.now c.child_at.new.pages _ g.O.OnceDisk c.args.shelf.now s all place next v c.in_ok-next.ensures.reads can above lower in
    let change = c.in_ok-change.change in
    let unused : ℕ = pages.next c.child_at.new.pages in
    let uses = at_lower pages c.args.pages.now c.child_at.new.pages _ g.O.OnceDisk c.args.shelf.now s all place next v c.in_ok-next.ensures.reads can above lower (λ shown. UsesPages shown v next unused change.unused change.new) (c.in_ok-change.ensures.uses s all can') in
    raised_lacks change c.raise.result c.raise.ensures.kept (λ some. in_child place next lower (half_leads can.shown v next unused change.unused change.new uses some))

pub returns-clause-uses : goal.returns-clause-uses
returns-clause-uses g t c s all can =
    let pages = g.P.Pages in
    let place : PagePlace = c.args.place.now in
    let next : PagePlace = c.in_ok-next.next in
    let v : Version = version_of c.args.entry.now in
    let above : 1 < place.level = omega (arith, c.requires.level, c.if-place-eq1.false) in
    let decoded = can_represent g.P.Pages c.args.pages.now g.O.OnceDisk c.args.shelf.now s all c.args.place.now (version_of c.args.entry.now) can above in
    let lower = c.in_ok-next.ensures.lower can.start can.shown decoded.0 can.is.shows decoded.1 in
    let can' = take_lower pages c.args.pages.now c.child_at.new.pages _ g.O.OnceDisk c.args.shelf.now s all place next v c.in_ok-next.ensures.reads can above lower in
    let change = c.in_ok-change.change in
    let unused : ℕ = pages.next c.child_at.new.pages in
    let uses = at_lower pages c.args.pages.now c.child_at.new.pages _ g.O.OnceDisk c.args.shelf.now s all place next v c.in_ok-next.ensures.reads can above lower (λ shown. UsesPages shown v next unused change.unused change.new) (c.in_ok-change.ensures.uses s all can') in
    let shows = c.in_ok-change.ensures.reads.shown can.start can.shown (c.in_ok-next.ensures.reads.shown can.start can.shown can.is.shows) in
    subst (λ (n : ℕ). IfOk c.raise.result (λ put. UsesPages can.shown v place n put.unused put.new)) c.in_ok-next.ensures.reads.next
    (uses_up can.shown v place next lower unused change c.raise.result c.raise.ensures.kept (c.raise.ensures.uses can.start can.shown place.level (keys_at place) lower.children shows lower.represents_node) uses)

pub returns-clause-lacks_pages : goal.returns-clause-lacks_pages
returns-clause-lacks_pages g t c s all can is =
    let pages = g.P.Pages in
    let place : PagePlace = c.args.place.now in
    let next : PagePlace = c.in_ok-next.next in
    let v : Version = version_of c.args.entry.now in
    let above : 1 < place.level = omega (arith, c.requires.level, c.if-place-eq1.false) in
    let decoded = can_represent g.P.Pages c.args.pages.now g.O.OnceDisk c.args.shelf.now s all c.args.place.now (version_of c.args.entry.now) can above in
    let lower = c.in_ok-next.ensures.lower can.start can.shown decoded.0 can.is.shows decoded.1 in
    let can' = take_lower pages c.args.pages.now c.child_at.new.pages _ g.O.OnceDisk c.args.shelf.now s all place next v c.in_ok-next.ensures.reads can above lower in
    let change = c.in_ok-change.change in
    let unused : ℕ = pages.next c.child_at.new.pages in
    let uses = at_lower pages c.args.pages.now c.child_at.new.pages _ g.O.OnceDisk c.args.shelf.now s all place next v c.in_ok-next.ensures.reads can above lower (λ shown. UsesPages shown v next unused change.unused change.new) (c.in_ok-change.ensures.uses s all can') in
    let shows = c.in_ok-change.ensures.reads.shown can.start can.shown (c.in_ok-next.ensures.reads.shown can.start can.shown can.is.shows) in
    let some = is_half change.new (λ none. let same = c.raise.ensures.kept none in absurd (cc)) in
    let many = c.raise.ensures.lacks_pages can.start can.shown place.level (keys_at place) lower.children shows lower.represents_node is in
    let few : pages.homes c.plan_under.new.pages ≤ change.unused = subst (λ (r : Result Change TreeError). IfErr r (RaiseRefusal (pages.homes c.plan_under.new.pages) change.unused (pages.down c.plan_under.new.pages))) is c.raise.ensures.refused in
    let lacks = lacks_half can.shown v place next lower (pages.homes c.plan_under.new.pages) unused change.unused change.new some uses many few in
    let fewer = lacks.2 in
    (lacks.0, lacks.1, omega (arith, fewer, c.in_ok-change.ensures.reads.homes, c.in_ok-next.ensures.reads.homes, c.in_ok-next.ensures.reads.next))

pub returns-clause-once : goal.returns-clause-once
returns-clause-once g t c s all can refusal is =
    absurd (raise_never (g.P.Pages.homes c.plan_under.new.pages) c.in_ok-change.change.unused (g.P.Pages.down c.plan_under.new.pages) c.raise.result c.raise.ensures.refused refusal is)

pub returns-in_err-next-clause-lacks_pages : goal.returns-in_err-next-clause-lacks_pages
returns-in_err-next-clause-lacks_pages g t c s all can is =
    let p = err_from_is_err_and c.from_residual.result c.from_residual.ensures.1 in
    absurd (read_never_full _ (g.P.Pages.down c.args.pages.now) c.in_err-next.ensures.refused (cc))

pub returns-in_err-next-clause-once : goal.returns-in_err-next-clause-once
returns-in_err-next-clause-once g t c s all can refusal is =
    let p = err_from_is_err_and c.from_residual.result c.from_residual.ensures.1 in
    absurd (read_never_once _ refusal (g.P.Pages.down c.args.pages.now) c.in_err-next.ensures.refused (cc))

pub returns-in_err-change-clause-lacks_pages : goal.returns-in_err-change-clause-lacks_pages
returns-in_err-change-clause-lacks_pages g t c s all can is =
    let pages = g.P.Pages in
    let place : PagePlace = c.args.place.now in
    let next : PagePlace = c.in_ok-next.next in
    let v : Version = version_of c.args.entry.now in
    let above : 1 < place.level = omega (arith, c.requires.level, c.if-place-eq1.false) in
    let decoded = can_represent g.P.Pages c.args.pages.now g.O.OnceDisk c.args.shelf.now s all c.args.place.now (version_of c.args.entry.now) can above in
    let lower = c.in_ok-next.ensures.lower can.start can.shown decoded.0 can.is.shows decoded.1 in
    let can' = take_lower pages c.args.pages.now c.child_at.new.pages _ g.O.OnceDisk c.args.shelf.now s all place next v c.in_ok-next.ensures.reads can above lower in
    let p = err_from_is_err_and c.from_residual-in_err-change.result c.from_residual-in_err-change.ensures.1 in
    let lacks = at_lower pages c.args.pages.now c.child_at.new.pages _ g.O.OnceDisk c.args.shelf.now s all place next v c.in_ok-next.ensures.reads can above lower (λ shown. LacksPages shown v next (pages.homes c.child_at.new.pages) (pages.next c.child_at.new.pages)) (c.in_err-change.ensures.lacks_pages s all can' (cc)) in
    let few = lacks.2 in
    lacks_up can.shown v place next lower (pages.homes c.args.pages.now) (pages.next c.args.pages.now) (lacks.0, lacks.1, omega (arith, few, c.in_ok-next.ensures.reads.homes, c.in_ok-next.ensures.reads.next))

pub returns-in_err-change-clause-once : goal.returns-in_err-change-clause-once
returns-in_err-change-clause-once g t c s all can refusal is =
    let pages = g.P.Pages in
    let place : PagePlace = c.args.place.now in
    let next : PagePlace = c.in_ok-next.next in
    let v : Version = version_of c.args.entry.now in
    let above : 1 < place.level = omega (arith, c.requires.level, c.if-place-eq1.false) in
    let decoded = can_represent g.P.Pages c.args.pages.now g.O.OnceDisk c.args.shelf.now s all c.args.place.now (version_of c.args.entry.now) can above in
    let lower = c.in_ok-next.ensures.lower can.start can.shown decoded.0 can.is.shows decoded.1 in
    let can' = take_lower pages c.args.pages.now c.child_at.new.pages _ g.O.OnceDisk c.args.shelf.now s all place next v c.in_ok-next.ensures.reads can above lower in
    let p = err_from_is_err_and c.from_residual-in_err-change.result c.from_residual-in_err-change.ensures.1 in
    outdated_lower pages c.args.pages.now c.child_at.new.pages _ g.O.OnceDisk c.args.shelf.now s all place next v c.in_ok-next.ensures.reads can above lower (c.in_err-change.ensures.once s all can' refusal (cc))

pub returns-clause-light : goal.returns-clause-light
returns-clause-light g t c s all can =
    let above : 1 < c.args.place.now.level = omega (arith, c.requires.level, c.if-place-eq1.false) in
    let decoded = can_represent g.P.Pages c.args.pages.now g.O.OnceDisk c.args.shelf.now s all c.args.place.now (version_of c.args.entry.now) can above in
    let lower = c.in_ok-next.ensures.lower can.start can.shown decoded.0 can.is.shows decoded.1 in
    let can' = take_lower g.P.Pages c.args.pages.now c.child_at.new.pages _ g.O.OnceDisk c.args.shelf.now s all c.args.place.now c.in_ok-next.next (version_of c.args.entry.now) c.in_ok-next.ensures.reads can above lower in
    raised_light (g.P.Pages.next c.args.pages.now) (g.P.Pages.next c.child_at.new.pages) c.in_ok-change.change c.raise.result c.raise.ensures.kept c.in_ok-next.ensures.reads.next
    (leads_lower g.P.Pages c.args.pages.now c.child_at.new.pages _ g.O.OnceDisk c.args.shelf.now s all c.args.place.now c.in_ok-next.next (version_of c.args.entry.now) c.in_ok-next.ensures.reads can above lower)
    (c.in_ok-change.ensures.light s all can')

pub returns-in_err-change-clause-burns : goal.returns-in_err-change-clause-burns
returns-in_err-change-clause-burns g t c s all can =
    let above : 1 < c.args.place.now.level = omega (arith, c.requires.level, c.if-place-eq1.false) in
    let decoded = can_represent g.P.Pages c.args.pages.now g.O.OnceDisk c.args.shelf.now s all c.args.place.now (version_of c.args.entry.now) can above in
    let lower = c.in_ok-next.ensures.lower can.start can.shown decoded.0 can.is.shows decoded.1 in
    let can' = take_lower g.P.Pages c.args.pages.now c.child_at.new.pages _ g.O.OnceDisk c.args.shelf.now s all c.args.place.now c.in_ok-next.next (version_of c.args.entry.now) c.in_ok-next.ensures.reads can above lower in
    or_else (outdated_lower g.P.Pages c.args.pages.now c.child_at.new.pages _ g.O.OnceDisk c.args.shelf.now s all c.args.place.now c.in_ok-next.next (version_of c.args.entry.now) c.in_ok-next.ensures.reads can above lower) (c.in_err-change.ensures.burns s all can')

pub returns-clause-burns : goal.returns-clause-burns
returns-clause-burns g t c s all can =
    let above : 1 < c.args.place.now.level = omega (arith, c.requires.level, c.if-place-eq1.false) in
    let decoded = can_represent g.P.Pages c.args.pages.now g.O.OnceDisk c.args.shelf.now s all c.args.place.now (version_of c.args.entry.now) can above in
    let lower = c.in_ok-next.ensures.lower can.start can.shown decoded.0 can.is.shows decoded.1 in
    let can' = take_lower g.P.Pages c.args.pages.now c.child_at.new.pages _ g.O.OnceDisk c.args.shelf.now s all c.args.place.now c.in_ok-next.next (version_of c.args.entry.now) c.in_ok-next.ensures.reads can above lower in
    or_else (outdated_lower g.P.Pages c.args.pages.now c.child_at.new.pages _ g.O.OnceDisk c.args.shelf.now s all c.args.place.now c.in_ok-next.next (version_of c.args.entry.now) c.in_ok-next.ensures.reads can above lower) (c.in_ok-change.ensures.burns s all can')

pub returns-in_err-next-clause-one_block : goal.returns-in_err-next-clause-one_block
returns-in_err-next-clause-one_block g t c s all can = inl (spends_none g.O.OnceDisk c.args.shelf.now)

pub returns-in_err-change-clause-one_block : goal.returns-in_err-change-clause-one_block
returns-in_err-change-clause-one_block g t c s all can =
    let pages = g.P.Pages in
    let place : PagePlace = c.args.place.now in
    let next : PagePlace = c.in_ok-next.next in
    let v : Version = version_of c.args.entry.now in
    let above : 1 < place.level = omega (arith, c.requires.level, c.if-place-eq1.false) in
    let decoded = can_represent g.P.Pages c.args.pages.now g.O.OnceDisk c.args.shelf.now s all c.args.place.now (version_of c.args.entry.now) can above in
    let lower = c.in_ok-next.ensures.lower can.start can.shown decoded.0 can.is.shows decoded.1 in
    let can' = take_lower pages c.args.pages.now c.child_at.new.pages _ g.O.OnceDisk c.args.shelf.now s all place next v c.in_ok-next.ensures.reads can above lower in
    or_else (λ (full : LeadsToFullColumn can'.shown v next). full_column_below place next lower (at_lower pages c.args.pages.now c.child_at.new.pages _ g.O.OnceDisk c.args.shelf.now s all place next v c.in_ok-next.ensures.reads can above lower (λ shown. LeadsToFullColumn shown v next) full))
    (c.in_err-change.ensures.one_block s all can')

pub returns-clause-one_block : goal.returns-clause-one_block
returns-clause-one_block g t c s all can =
    let pages = g.P.Pages in
    let place : PagePlace = c.args.place.now in
    let next : PagePlace = c.in_ok-next.next in
    let v : Version = version_of c.args.entry.now in
    let above : 1 < place.level = omega (arith, c.requires.level, c.if-place-eq1.false) in
    let decoded = can_represent g.P.Pages c.args.pages.now g.O.OnceDisk c.args.shelf.now s all c.args.place.now (version_of c.args.entry.now) can above in
    let lower = c.in_ok-next.ensures.lower can.start can.shown decoded.0 can.is.shows decoded.1 in
    let can' = take_lower pages c.args.pages.now c.child_at.new.pages _ g.O.OnceDisk c.args.shelf.now s all place next v c.in_ok-next.ensures.reads can above lower in
    or_else (λ (full : LeadsToFullColumn can'.shown v next). full_column_below place next lower (at_lower pages c.args.pages.now c.child_at.new.pages _ g.O.OnceDisk c.args.shelf.now s all place next v c.in_ok-next.ensures.reads can above lower (λ shown. LeadsToFullColumn shown v next) full))
    (c.in_ok-change.ensures.one_block s all can')

pub returns-clause-none_left : goal.returns-clause-none_left
returns-clause-none_left g t c s all can none leads =
    let pages = g.P.Pages in
    let place : PagePlace = c.args.place.now in
    let next : PagePlace = c.in_ok-next.next in
    let v : Version = version_of c.args.entry.now in
    let above : 1 < place.level = omega (arith, c.requires.level, c.if-place-eq1.false) in
    let decoded = can_represent g.P.Pages c.args.pages.now g.O.OnceDisk c.args.shelf.now s all c.args.place.now (version_of c.args.entry.now) can above in
    let lower = c.in_ok-next.ensures.lower can.start can.shown decoded.0 can.is.shows decoded.1 in
    let can' = take_lower pages c.args.pages.now c.child_at.new.pages _ g.O.OnceDisk c.args.shelf.now s all place next v c.in_ok-next.ensures.reads can above lower in
    let never = at_lower pages c.args.pages.now c.child_at.new.pages _ g.O.OnceDisk c.args.shelf.now s all place next v c.in_ok-next.ensures.reads can above lower (λ shown. LeadsToOutdated shown v next → ⊥)
    (λ rest. false≢true (c.in_ok-change.ensures.none_left s all can' none rest)) in
    absurd (never (outdated_on can.shown v place next lower leads))

-- ---- images for which there is no room

pub returns-clause-alone : goal.returns-clause-alone
returns-clause-alone g t c never =
    raised_alone (g.P.Pages.next c.args.pages.now) (g.P.Pages.next c.child_at.new.pages) c.in_ok-change.change c.raise.result c.raise.ensures.kept c.in_ok-next.ensures.reads.next (c.in_ok-change.ensures.alone never)

pub returns-in_err-next-clause-crowded : goal.returns-in_err-next-clause-crowded
returns-in_err-next-clause-crowded g t c s all can is =
    let p = err_from_is_err_and c.from_residual.result c.from_residual.ensures.1 in
    absurd (read_never_crowded _ (g.P.Pages.down c.args.pages.now) c.in_err-next.ensures.refused (cc))

pub returns-in_err-change-clause-crowded : goal.returns-in_err-change-clause-crowded
returns-in_err-change-clause-crowded g t c s all can is =
    let pages = g.P.Pages in
    let place : PagePlace = c.args.place.now in
    let next : PagePlace = c.in_ok-next.next in
    let v : Version = version_of c.args.entry.now in
    let above : 1 < place.level = omega (arith, c.requires.level, c.if-place-eq1.false) in
    let decoded = can_represent g.P.Pages c.args.pages.now g.O.OnceDisk c.args.shelf.now s all c.args.place.now (version_of c.args.entry.now) can above in
    let lower = c.in_ok-next.ensures.lower can.start can.shown decoded.0 can.is.shows decoded.1 in
    let can' = take_lower pages c.args.pages.now c.child_at.new.pages _ g.O.OnceDisk c.args.shelf.now s all place next v c.in_ok-next.ensures.reads can above lower in
    let p = err_from_is_err_and c.from_residual-in_err-change.result c.from_residual-in_err-change.ensures.1 in
    let none = c.in_err-change.ensures.crowded s all can' (cc) in
    (none.0, leads_lower pages c.args.pages.now c.child_at.new.pages _ g.O.OnceDisk c.args.shelf.now s all place next v c.in_ok-next.ensures.reads can above lower none.1)

pub returns-clause-crowded : goal.returns-clause-crowded
returns-clause-crowded g t c s all can is =
    absurd (raise_never_crowded (g.P.Pages.homes c.plan_under.new.pages) c.in_ok-change.change.unused (g.P.Pages.down c.plan_under.new.pages) c.raise.result c.raise.ensures.refused is)
