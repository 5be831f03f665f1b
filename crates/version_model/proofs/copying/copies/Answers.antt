use Rattle.std.proofs.Common.{arith}
use Rattle.version_model.specs.Entries.{versions_of, version_of}
use Rattle.version_model.proofs.Entries.{read_at, length-versions, versions_push}
use Rattle.version_model.proofs.Points.{copied_more, copied_all}
use Rattle.version_model.proofs.copying.copies.Goals as goal

pub loop-entry-preserved : goal.loop-entry-preserved
loop-entry-preserved c =
    let vs = versions_of c.args.entries.now in
    let e = c.entry-item.result in
    let at = read_at c.args.entries.now c.loop-entry.entry-index e (omega arith) c.entry-item.is in
    copied_more vs (versions_of c.loop-entry.kept.items) (versions_of c.push.new.self.items) c.loop-entry.entry-index (version_of e) at (versions_push _ _ c.in_ok-copy.field-0 (version_of e) c.in_ok-push.ensures.items c.in_ok-copy.ensures.same) c.loop-entry.invariant

pub returns : goal.returns
returns c = copied_all (versions_of c.args.entries.now) (versions_of c.loop-entry.kept.items) c.loop-entry.entry-index (omega (arith, length-versions c.args.entries.now)) c.loop-entry.invariant
