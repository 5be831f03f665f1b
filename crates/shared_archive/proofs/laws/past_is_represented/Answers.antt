use Rattle.std.proofs.Common.{refl}
use Rattle.disk_archive.specs.Archives.{once_of, once_state}
use Rattle.shared_archive.proofs.Blocks.{listed, listed_are}
use Rattle.shared_archive.proofs.laws.past_is_represented.Goals as goal

pub returns : goal.returns
returns g c = record {
  represented = λ h on.
      let a = c.args.archive.now in
      let count = g.O.OnceDisk.block_count (once_of a) in
      (record { history = h; blocks = listed count (once_state a).settled }, record { goes_on = on; blocks = listed_are count (once_state a).settled }, refl);
}
