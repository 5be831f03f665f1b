use Rattle.once_store.proofs.Sealing.{sealed_whole, sealed_body}
use Rattle.once_store.proofs.digest.sealed_blocks_are_whole.Goals as goal

pub returns-clause-whole : goal.returns-clause-whole
returns-clause-whole c = sealed_whole

pub returns-clause-body : goal.returns-clause-body
returns-clause-body c = sealed_body
