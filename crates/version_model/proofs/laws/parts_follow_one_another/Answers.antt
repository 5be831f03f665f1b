use Rattle.version_model.proofs.api.PartsJoined as parts
use Rattle.version_model.proofs.laws.parts_follow_one_another.Goals as goal

pub returns : goal.returns
returns c = record {
  joined = λ all key from to end rising low high. parts.joined key from to end low high all rising;
  next = λ all versions more key from to reported rising first next. parts.part_on all versions more key from to reported rising first next;
  whole = λ all versions key fit part. parts.part_whole all versions key fit part;
}
