use Rattle.version_model.proofs.api.Counting.{part_counted, tree_counted}
use Rattle.version_model.proofs.laws.versions_are_counted_once.Goals as goal

pub returns : goal.returns
returns c = record {
  parts = λ blocks all r part n rising. part_counted blocks all rising r part n;
  trees = tree_counted;
}
