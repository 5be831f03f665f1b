use Rattle.std.proofs.Common.{rules, ◌≡◌, List, Err, sym, subst, arith}
use Rattle.tsb_node.specs.declared.leaf_part.ReadFault.TheVariants.{NotANode}
use Rattle.version_model.specs.Versions.{Version, IsRising}
use Rattle.version_model.specs.Ranges.{high_or}
use Rattle.version_model.specs.Entries.{versions_of}
use Rattle.tsb_runs.specs.Runs.{AreLive}
use Rattle.tsb_runs.proofs.LiveKeys.{live_shown}
use Rattle.tsb_runs.proofs.live.run_in.Goals as goal

pub returns-clause-run : goal.returns-clause-run
returns-clause-run c = λ all r leaf begins shows is point.
    let high = high_or c.args.high.now in
    let versions = versions_of c.in_ok-entries.entries.items in
    let same : versions ≡ leaf.versions = c.in_ok-entries.ensures.entries leaf begins in
    let latest = c.in_ok-latest.ensures (subst IsRising (sym same) begins.valid.rising) in
    let live = c.in_ok-rows.ensures versions c.args.stamp c.args.from (omega (arith, is, point.high)) latest in
    live_shown all r leaf.versions shows c.args.stamp point.start point.end c.args.from high c.in_ok-rows.rows.items point.low (omega (arith, is))
    (subst (λ (vs : List Version). AreLive vs c.args.stamp c.args.from high c.in_ok-rows.rows.items) same live)

pub returns-in_err-entries-clause-leaf : goal.returns-in_err-entries-clause-leaf
returns-in_err-entries-clause-leaf c = λ leaf begins e.
    let d : c.entries_in.result ≡ Err NotANode = search rules in
    c.entries_in.ensures.refused leaf begins d
