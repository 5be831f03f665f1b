use Rattle.std.proofs.Common.{◌∙◌, length, ap}
use Rattle.archive_head.proofs.Encoding.{length-head}
use Rattle.archive_head.proofs.head.Head.write_in.Goals as goal

pub from_slice-requires : goal.from_slice-requires
from_slice-requires c = ap length c.deref.ensures.value ∙ (ap length c.in_ok-octets.ensures.encoded ∙ length-head c.args.unit c.args.self.now c.requires.few)
