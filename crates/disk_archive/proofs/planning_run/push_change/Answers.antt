use Rattle.std.proofs.Common.{rules, ◌+◌, ◌++◌, ◌∷◌, [], inl, inr, suc, length, ap, subst}
use Rattle.std.proofs.lemmas.Bool.{cases_lt}
use Rattle.disk_models.specs.Once.{settled_in}
use Rattle.route_meaning.specs.Merged.{placed}
use Rattle.version_model.specs.Entries.{version_of}
use Rattle.archive_head.specs.Head.{Contents}
use Rattle.archive_pages.specs.Places.{tree_low}
use Rattle.archive_pages.proofs.api.Passing.{Passes}
use Rattle.disk_archive.specs.inner.Runs.{WithLeaf}
use Rattle.disk_archive.proofs.Plans.{lane_at}
use Rattle.disk_archive.proofs.Running.{tree_pushed}
use Rattle.disk_archive.proofs.Stepping.{kept_passed, moves_on, takes_one}
use Rattle.disk_archive.proofs.planning_run.push_change.Goals as goal

pub returns-clause-moves : goal.returns-clause-moves
returns-clause-moves c count o under pages h later w b here below =
    let s = c.args.settings in
    let head = c.args.head.now in
    let first = placed c.args.collector c.args.admission.now in
    let v = version_of c.in-Some.entry in
    let now = c.push_version.new.leaf in
    let yes = c.if-not-push_version.false in
    let t = b.tree in
    let takes = c.push_version.ensures.takes pages t.store b.versions head.root t.level _ w.is_open t.represents_node t.has c.in-Some.ensures.later (search rules) in
    let opened = c.push_version.ensures.open pages t.store b.versions head.root t.level _ w.is_open t.represents_node t.has c.in-Some.ensures.later (search rules) in
    let took = tree_pushed count (settled_in o) (tree_low s) head.root head.fresh head.block _ (v.stamp + 1) b.versions (b.versions ++ v ∷ []) under pages c.args.leaf.now now t w c.push_version.ensures.page opened takes in
    let lane = lane_at c.args.collector head.lanes c.requires.collector in
    let passes : Passes s head c.pass_change.new.head first head.fresh head.block head.root = subst (λ (x : Contents). Passes s head c.pass_change.new.head first x.fresh x.block x.root) c.head.view_is (record { stays = c.pass_change.ensures.stays; leaves = c.pass_change.ensures.leaves }) in
    moves_on count s (settled_in o) (settled_in o) (WithLeaf under head.root now) head c.pass_change.new.head c.pass_change.result head.root head.fresh head.block pages h c.args.collector c.args.admission.now later lane.0 b here below lane.1 passes c.pass_change.ensures.whole
    (takes_one count s (settled_in o) (WithLeaf under head.root now) head first head.root head.fresh head.block b.versions v pages (c.in-Some.ensures.some c.args.collector) took)

pub returns-clause-lanes : goal.returns-clause-lanes
returns-clause-lanes c =
    let head = c.args.head.now in
    let first = placed c.args.collector c.args.admission.now in
    let lane = lane_at c.args.collector head.lanes c.requires.collector in
    let passes : Passes c.args.settings head c.pass_change.new.head first head.fresh head.block head.root = subst (λ (x : Contents). Passes c.args.settings head c.pass_change.new.head first x.fresh x.block x.root) c.head.view_is (record { stays = c.pass_change.ensures.stays; leaves = c.pass_change.ensures.leaves }) in
    (kept_passed c.args.settings head c.pass_change.new.head first head.fresh head.block head.root lane.0 lane.1 passes).lanes

pub returns-clause-fresh : goal.returns-clause-fresh
returns-clause-fresh c =
    let head = c.args.head.now in
    let first = placed c.args.collector c.args.admission.now in
    let lane = lane_at c.args.collector head.lanes c.requires.collector in
    let passes : Passes c.args.settings head c.pass_change.new.head first head.fresh head.block head.root = subst (λ (x : Contents). Passes c.args.settings head c.pass_change.new.head first x.fresh x.block x.root) c.head.view_is (record { stays = c.pass_change.ensures.stays; leaves = c.pass_change.ensures.leaves }) in
    (kept_passed c.args.settings head c.pass_change.new.head first head.fresh head.block head.root lane.0 lane.1 passes).fresh

pub returns-clause-block : goal.returns-clause-block
returns-clause-block c =
    let head = c.args.head.now in
    let first = placed c.args.collector c.args.admission.now in
    let lane = lane_at c.args.collector head.lanes c.requires.collector in
    let passes : Passes c.args.settings head c.pass_change.new.head first head.fresh head.block head.root = subst (λ (x : Contents). Passes c.args.settings head c.pass_change.new.head first x.fresh x.block x.root) c.head.view_is (record { stays = c.pass_change.ensures.stays; leaves = c.pass_change.ensures.leaves }) in
    (kept_passed c.args.settings head c.pass_change.new.head first head.fresh head.block head.root lane.0 lane.1 passes).block

pub returns-clause-root : goal.returns-clause-root
returns-clause-root c =
    let head = c.args.head.now in
    let first = placed c.args.collector c.args.admission.now in
    let lane = lane_at c.args.collector head.lanes c.requires.collector in
    let passes : Passes c.args.settings head c.pass_change.new.head first head.fresh head.block head.root = subst (λ (x : Contents). Passes c.args.settings head c.pass_change.new.head first x.fresh x.block x.root) c.head.view_is (record { stays = c.pass_change.ensures.stays; leaves = c.pass_change.ensures.leaves }) in
    elim (cases_lt (suc head.begun) (length c.args.admission.now.changes)) [
      | inl lt ↦ ap (λ (x : Contents). x.root) (passes.stays lt)
      | inr ge ↦ ap (λ (x : Contents). x.root) (passes.leaves ge lane.0 lane.1)
    ]
