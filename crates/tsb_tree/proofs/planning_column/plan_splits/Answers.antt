use Rattle.std.proofs.Common.{rules, true, ◌≡◌, ◌<◌, ◌≤◌, ℕ, Err, Result, IfOk, IfErr, inl, inr, sym, ◌∙◌, ap, subst, arith}
use Rattle.std.proofs.lemmas.Result.{err_from_is_err_and}
use Rattle.once_store.specs.Shelves.{next_of}
use Rattle.version_model.specs.Entries.{version_of}
use Rattle.version_model.specs.Ranges.{high_or}
use Rattle.version_model.specs.Pages.{Keys}
use Rattle.version_model.specs.Versions.{Version, Has}
use Rattle.tsb_tree.specs.declared.change.Change.{Change}
use Rattle.tsb_tree.specs.declared.error.TreeError.{TreeError}
use Rattle.tsb_tree.specs.NoRoom.{full_column}
use Rattle.tsb_tree.specs.Plans.{Plans}
use Rattle.tsb_tree.specs.Refusals.{IsHonest, PlanRefusal, ReadRefusal}
use Rattle.tsb_tree.specs.Wholes.{IsAt}
use Rattle.tsb_tree.specs.inner.Uses.{UsesPages}
use Rattle.tsb_tree.proofs.Columns.{is_at, ok_both}
use Rattle.tsb_tree.proofs.LayingOut.{plans_taken, read_plan, keeps_none}
use Rattle.tsb_tree.proofs.Needing.{column_read, leaf_read, filled_read, leaf_uses, leaf_lacks, outdated_read, outdated_whole, read_never_full, read_never_once}
use Rattle.tsb_tree.proofs.Outliving.{or_else}
use Rattle.tsb_tree.proofs.Pushing.{whole_among, whole_forward}
use Rattle.tsb_tree.proofs.Shelving.{spends_none, spends_same}
use Rattle.tsb_tree.proofs.LackingRoom.{ok_then}
use Rattle.tsb_tree.proofs.planning_column.plan_splits.Goals as goal

pub returns-in_err-whole-clause-refused : goal.returns-in_err-whole-clause-refused
returns-in_err-whole-clause-refused g c =
    let h = c.in_err-whole.ensures.refused in
    let d : c.from_residual.result ≡ Err c.in_err-whole.field-0.0 = search rules in
    subst (λ (r : Result Change TreeError). IfErr r (PlanRefusal (g.P.Pages.homes c.args.pages.now) (g.P.Pages.next c.args.pages.now) c.args.place.now.level (g.P.Pages.down c.args.pages.now) true)) (sym d)
    (read_plan (g.P.Pages.homes c.args.pages.now) (g.P.Pages.next c.args.pages.now) c.args.place.now.level (g.P.Pages.down c.args.pages.now) true _ h)

pub returns-in_err-whole-clause-shelf : goal.returns-in_err-whole-clause-shelf
returns-in_err-whole-clause-shelf g c =
    let h = c.in_err-whole.ensures.refused in
    let d : c.from_residual.result ≡ Err c.in_err-whole.field-0.0 = search rules in
    keeps_none g.O.OnceDisk c.args.shelf.now c.from_residual.result (g.P.Pages.down c.args.pages.now)
    (subst (λ (r : Result Change TreeError). IfErr r (ReadRefusal (g.P.Pages.down c.args.pages.now))) (sym d) h)

pub returns-clause-refused : goal.returns-clause-refused
returns-clause-refused g c =
    let r = c.split_column.result in
    let down = g.P.Pages.down c.args.pages.now in
    let homes = c.home_pages.result in
    let next = c.next_page.result in
    let h = c.split_column.ensures.refused down in
    let homes_is : homes ≡ g.P.Pages.homes c.args.pages.now = c.home_pages.ensures ∙ c.in_ok-whole.ensures.reads.homes in
    let next_is : next ≡ g.P.Pages.next c.args.pages.now = c.next_page.ensures ∙ c.in_ok-whole.ensures.reads.next in
    subst (λ (m : ℕ). IfErr r (PlanRefusal (g.P.Pages.homes c.args.pages.now) (g.P.Pages.next c.args.pages.now) m down true)) (sym c.requires.level)
    (subst (λ (m : ℕ). IfErr r (PlanRefusal (g.P.Pages.homes c.args.pages.now) m 1 down true)) next_is (subst (λ (m : ℕ). IfErr r (PlanRefusal m next 1 down true)) homes_is h))

pub returns-clause-plans : goal.returns-clause-plans
returns-clause-plans g c s all can at_leaf =
    let place = c.args.place.now in
    let leaf = c.args.leaf.now in
    let v = version_of c.args.entry.now in
    let w = c.in_ok-whole.whole in
    let homes = g.P.Pages.homes c.args.pages.now in
    let represents_node = c.in_ok-whole.ensures.column can.start can.shown can.is.shows in
    let at : IsAt s.nodes place.page leaf.page w = is_at s all place can.shown c.requires.level can.is.reports can.represents_all w leaf.page _ represents_node at_leaf c.in_ok-whole.ensures.leaf in
    let homes_is : c.home_pages.result ≡ homes = c.home_pages.ensures ∙ c.in_ok-whole.ensures.reads.homes in
    let next_is : c.next_page.result ≡ g.P.Pages.next c.args.pages.now = c.next_page.ensures ∙ c.in_ok-whole.ensures.reads.next in
    let keys_is = c.in_ok-whole.ensures.keys in
    let low : w.low ≤ v.key = omega (arith, ap (λ (k : Keys). k.low) keys_is, c.requires.has.low) in
    let high : v.key < high_or w.high = omega (arith, ap (λ (k : Keys). k.high) keys_is, c.requires.has.high) in
    ok_both _ _ _ c.split_column.result
    (λ change taken inside. subst (λ (m : ℕ). Plans g.O.OnceDisk c.split_column.new.shelf homes s v m place.page change) (sym c.requires.level)
    (plans_taken g.O.OnceDisk c.split_column.new.shelf homes s v place.page leaf.page c.next_page.result (next_of c.args.shelf.now) w change at low high (can.is.limit ∙ sym next_is) can.is.next c.split_column.ensures.shelf.forward
    c.in_ok-whole.ensures.inside c.requires.within (omega (arith, inside, homes_is)) (taken s.blocks can.is.represents_node)))
    (c.split_column.ensures.takes can.is.honest) c.split_column.ensures.inside

pub returns-in_err-whole-clause-honest : goal.returns-in_err-whole-clause-honest
returns-in_err-whole-clause-honest g c s all can of filled =
    let h = c.in_err-whole.ensures.honest can.start can.shown of.parts of.start of.versions can.is.shows of.column of.represents_node in
    let d : c.from_residual.result ≡ Err c.in_err-whole.field-0.0 = search rules in
    subst (λ (r : Result Change TreeError). IsHonest r) (sym d) h

pub returns-clause-honest : goal.returns-clause-honest
returns-clause-honest g c s all can of filled =
    let place = c.args.place.now in
    let leaf = c.args.leaf.now in
    let v = version_of c.args.entry.now in
    let w = c.in_ok-whole.whole in
    let represents_node = c.in_ok-whole.ensures.column can.start can.shown can.is.shows in
    let page = c.in_ok-whole.ensures.leaf in
    let at : IsAt s.nodes place.page leaf.page w = is_at s all place can.shown c.requires.level can.is.reports can.represents_all w leaf.page _ represents_node of.at page in
    let among : (x : Version) → Has w.leaf x → Has all x = whole_among s all place leaf.page leaf.image w v at can.represents_all page in
    c.split_column.ensures.honest (record { above = λ x h. can.above.above x (among x h) }) (whole_forward s all place leaf.page leaf.image w v at can.represents_all page can.above c.requires.small filled)
    (λ x h. can.bounded x (among x h)) can.inside

pub returns-clause-burns : goal.returns-clause-burns
returns-clause-burns g c =
    or_else (outdated_read c.args.place.now c.args.leaf.now.image (version_of c.args.entry.now) c.in_ok-whole.whole c.in_ok-whole.ensures.keys c.in_ok-whole.ensures.leaf) c.split_column.ensures.burns

pub returns-in_err-whole-clause-lacks_pages : goal.returns-in_err-whole-clause-lacks_pages
returns-in_err-whole-clause-lacks_pages g c start shown shows at filled is =
    let p = err_from_is_err_and c.from_residual.result c.from_residual.ensures.1 in
    absurd (read_never_full _ (g.P.Pages.down c.args.pages.now) c.in_err-whole.ensures.refused (cc))

pub returns-clause-uses : goal.returns-clause-uses
returns-clause-uses g c start shown shows at filled =
    let place = c.args.place.now in
    let v : Version = version_of c.args.entry.now in
    let w = c.in_ok-whole.whole in
    let page = c.in_ok-whole.ensures.leaf in
    let has = leaf_read shown place w c.args.leaf.now.page c.args.leaf.now.image (c.in_ok-whole.ensures.column start shown shows) at page c.in_ok-whole.ensures.keys in
    let full = filled_read place c.args.leaf.now.image v w filled page in
    let next_is : c.next_page.result ≡ g.P.Pages.next c.args.pages.now = c.next_page.ensures ∙ c.in_ok-whole.ensures.reads.next in
    subst (λ (n : ℕ). IfOk c.split_column.result (λ change. UsesPages shown v place n change.unused change.new)) next_is
    (ok_then _ _ c.split_column.result (λ change uses. leaf_uses shown v place w.leaf uses.0 has full uses.1 c.next_page.result change.unused change.new uses.2) c.split_column.ensures.uses)

pub returns-clause-lacks_pages : goal.returns-clause-lacks_pages
returns-clause-lacks_pages g c start shown shows at filled is =
    let place = c.args.place.now in
    let v : Version = version_of c.args.entry.now in
    let w = c.in_ok-whole.whole in
    let page = c.in_ok-whole.ensures.leaf in
    let has = leaf_read shown place w c.args.leaf.now.page c.args.leaf.now.image (c.in_ok-whole.ensures.column start shown shows) at page c.in_ok-whole.ensures.keys in
    let full = filled_read place c.args.leaf.now.image v w filled page in
    let homes_is : c.home_pages.result ≡ g.P.Pages.homes c.args.pages.now = c.home_pages.ensures ∙ c.in_ok-whole.ensures.reads.homes in
    let next_is : c.next_page.result ≡ g.P.Pages.next c.args.pages.now = c.next_page.ensures ∙ c.in_ok-whole.ensures.reads.next in
    let lacks = c.split_column.ensures.lacks_pages is in
    let few = lacks.3 in
    leaf_lacks shown v place w.leaf lacks.0 has full lacks.1 (g.P.Pages.homes c.args.pages.now) (g.P.Pages.next c.args.pages.now) lacks.2 (omega (arith, few, homes_is, next_is))

pub returns-in_err-whole-clause-once : goal.returns-in_err-whole-clause-once
returns-in_err-whole-clause-once g c refusal is =
    let p = err_from_is_err_and c.from_residual.result c.from_residual.ensures.1 in
    absurd (read_never_once _ refusal (g.P.Pages.down c.args.pages.now) c.in_err-whole.ensures.refused (cc))

pub returns-clause-once : goal.returns-clause-once
returns-clause-once g c refusal is =
    let w = c.in_ok-whole.whole in
    outdated_read c.args.place.now c.args.leaf.now.image (version_of c.args.entry.now) w c.in_ok-whole.ensures.keys c.in_ok-whole.ensures.leaf (c.split_column.ensures.once refusal is)

pub returns-in_err-whole-clause-one_block : goal.returns-in_err-whole-clause-one_block
returns-in_err-whole-clause-one_block g c start shown shows = inl (spends_none g.O.OnceDisk c.args.shelf.now)

pub returns-clause-one_block : goal.returns-clause-one_block
returns-clause-one_block g c start shown shows =
    let place = c.args.place.now in
    let w = c.in_ok-whole.whole in
    let represents_node = column_read shown place w c.args.leaf.now.page (c.in_ok-whole.ensures.column start shown shows) c.in_ok-whole.ensures.keys in
    elim c.split_column.ensures.one_block [
      | inl same ↦ inl (spends_same g.O.OnceDisk c.args.shelf.now c.split_column.new.shelf same)
      | inr rest ↦ or_else (full_column place w.parts.items w.start c.args.leaf.now.page represents_node) rest
    ]

pub returns-clause-none_left : goal.returns-clause-none_left
returns-clause-none_left g c honest none outdated =
    c.split_column.ensures.none_left honest none (outdated_whole c.args.place.now c.args.leaf.now.image (version_of c.args.entry.now) c.in_ok-whole.whole outdated c.in_ok-whole.ensures.leaf)
