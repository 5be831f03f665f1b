use Rattle.std.proofs.Common.{sym, ap, ◌∙◌, length}
use Rattle.route_meaning.specs.Holds.{admitted_time}
use Rattle.route_meaning.specs.Merged.{merged}
use Rattle.route_meaning.proofs.api.OneOrder.{merged-parts, parts-merged, IsInOrder-merged}
use Rattle.route_meaning.proofs.laws.merged_is_the_one.Goals as goal

pub returns : goal.returns
returns c = record {
  order = λ lists. IsInOrder-merged admitted_time lists;
  parts = λ lists r. parts-merged admitted_time lists r;
  only = λ lists ps o a e. sym (merged-parts admitted_time (length lists) ps o a) ∙ ap (merged admitted_time) e;
}
