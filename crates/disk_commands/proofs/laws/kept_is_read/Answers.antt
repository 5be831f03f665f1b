use Rattle.disk_commands.proofs.Keeping.{kept_read}
use Rattle.disk_commands.proofs.laws.kept_is_read.Goals as goal

pub returns : goal.returns
returns g c = record { read = λ d h k. kept_read g.E.EraseDisk g.O.OnceDisk d h k }
