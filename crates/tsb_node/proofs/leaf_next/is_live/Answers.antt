use Rattle.version_model.proofs.api.AsOfs.{no_answer}
use Rattle.tsb_node.proofs.Nexting.{live_found}
use Rattle.tsb_node.proofs.leaf_next.is_live.Goals as goal

pub returns-in-Ok-Some : goal.returns-in-Ok-Some
returns-in-Ok-Some c = record {
  live = λ leaf is. live_found leaf.versions c.args.key c.args.stamp c.in-Ok-Some.found is.valid.rising (rw c.in-Ok-Some.field-0-is at (c.in-Ok-Some.ensures.found leaf is)) c.is_some.result c.is_some.ensures;
}

pub returns-in-Ok-None : goal.returns-in-Ok-None
returns-in-Ok-None c = record { live = λ leaf is. no_answer leaf.versions c.args.key c.args.stamp (rw c.in-Ok-None.field-0-is at (c.in-Ok-None.ensures.found leaf is)) }
