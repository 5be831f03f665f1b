use Rattle.std.proofs.Common.{sym, subst, ◌+◌, List}
use Rattle.std.proofs.lemmas.Result.{err_from_is_err_and}
use Rattle.route_model.specs.declared.change.Change.{Change}
use Rattle.resolve.specs.Entries.{entry_shown}
use Rattle.resolve.proofs.Announcing.{none_yet, went_on, stopped, all_announced, Announced}
use Rattle.resolve.proofs.entries.entry_changes.Goals as goal

pub loop-entry-init : goal.loop-entry-init
loop-entry-init c = record {
  announced = none_yet c.args.rule c.args.collector c.args.peers.now c.args.prefix.now c.args.entries.now c.in_ok-changes.changes.items c.in_ok-changes.ensures.items;
  known = tt;
}

pub returns-in_err-change : goal.returns-in_err-change
returns-in_err-change c =
    let p = err_from_is_err_and c.from_residual-in_err-change.result c.from_residual-in_err-change.ensures.1 in
    rw (p.1, p.2) (stopped c.args.rule c.args.collector c.args.peers.now c.args.prefix.now c.args.entries.now c.loop-entry.index c.loop-entry.changes.items (entry_shown c.in-Some.entry) c.in_err-change.field-0.0 c.loop-entry.invariant.announced c.in-Some.ensures.entry c.in_err-change.ensures.gives)

pub loop-entry-preserved : goal.loop-entry-preserved
loop-entry-preserved c = record {
  announced = subst (λ (t : List Change). Announced c.args.rule c.args.collector c.args.peers.now c.args.prefix.now c.args.entries.now (c.loop-entry.index + 1) t) (sym c.in_ok-add_some.ensures)
      (went_on c.args.rule c.args.collector c.args.peers.now c.args.prefix.now c.args.entries.now c.loop-entry.index c.loop-entry.changes.items (entry_shown c.in-Some.entry) c.in_ok-change.change c.loop-entry.invariant.announced c.in-Some.ensures.entry c.in_ok-change.ensures.gives);
  known = c.in_ok-change.ensures.known;
}

pub returns : goal.returns
returns c = all_announced c.args.rule c.args.collector c.args.peers.now c.args.prefix.now c.args.entries.now c.loop-entry.index c.loop-entry.changes.items c.loop-entry.invariant.announced c.in_default.ensures.entry
