use Rattle.bgp_update.specs.Messages.{changes_reported}
use Rattle.bgp_update.proofs.Updates.{second_of, update_exactly}
use Rattle.bgp_update.proofs.updating.read_update.Goals as goal

pub returns-in_default : goal.returns-in_default
returns-in_default c = λ u up. c.in_default.ensures.none up.withdrawn_field up.more up.first

pub returns-in_default-counted_at : goal.returns-in_default-counted_at
returns-in_default-counted_at c = λ u up.
    let second = second_of c.args.width c.args.bytes.now c.in-Some.withdrawn_field.now c.in-Some.more.now u c.in-Some.ensures.found up in
    c.in_default-counted_at.ensures.none up.attribute_field up.announced_field second

pub returns : goal.returns
returns c =
    update_exactly changes_reported c.args.width c.args.bytes.now _ _ _ _ c.read_parts.result c.in-Some.ensures.found c.in-Some-counted_at.ensures.found c.read_parts.ensures
