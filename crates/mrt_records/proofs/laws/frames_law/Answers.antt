use Rattle.mrt_records.proofs.api.Streams.{frames_one}
use Rattle.mrt_records.proofs.laws.frames_law.Goals as goal

pub returns : goal.returns
returns c = record { one = frames_one }
