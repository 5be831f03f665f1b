use Rattle.mrt_records.proofs.api.Streams.{goes_held}
use Rattle.mrt_records.proofs.feeding.feed_rest.Goals as goal

pub returns-in-Ok-clause-ok : goal.returns-in-Ok-clause-ok
returns-in-Ok-clause-ok c = goes_held c.in-Ok.over _ c.in_ok-rest.rest.now _ _ _ c.in_ok-rest.ensures.ok c.in-Ok.ensures.ok
