use Rattle.std.proofs.Common.{arith, ap, ◌∙◌}
use Rattle.version_model.specs.Entries.{version_of}
use Rattle.version_model.specs.Sizes.{octets, entry_octets}
use Rattle.version_model.proofs.api.Sizing.{total-push}
use Rattle.layer_tests.proofs.store.leaves.leaf_of.Goals as goal

pub loop-row-preserved : goal.loop-row-preserved
loop-row-preserved c =
    let more = ap octets c.in_ok-insert.ensures.ok ∙ total-push entry_octets c.loop-row.leaf (version_of c.in_ok-entry.entry) in
    omega (arith, more, c.in_ok-entry.ensures, c.loop-row.invariant)
