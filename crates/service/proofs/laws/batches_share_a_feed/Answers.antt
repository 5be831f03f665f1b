use Rattle.service.proofs.Turning.{offered_feed}
use Rattle.service.proofs.Batching.{feed_within}
use Rattle.service.proofs.laws.batches_share_a_feed.Goals as goal

pub returns-clause-whole : goal.returns-clause-whole
returns-clause-whole c = offered_feed

pub returns-clause-within : goal.returns-clause-within
returns-clause-within c = feed_within
