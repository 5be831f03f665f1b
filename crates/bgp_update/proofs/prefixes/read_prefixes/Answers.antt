use Rattle.std.proofs.Common.{rules}
use Rattle.route_model.specs.PrefixFields.{IsPrefixField}
use Rattle.route_model.proofs.api.Sequences.{read_on, read_none}
use Rattle.route_model.proofs.api.PrefixFields.{prefixes_free}
use Rattle.bgp_update.proofs.prefixes.read_prefixes.Goals as goal

pub returns-in_default : goal.returns-in_default
returns-in_default c =
    read_none (IsPrefixField c.args.family) (prefixes_free c.args.family) _ c.loop-rest.rest.now c.loop-rest.prefixes.items c.loop-rest.invariant c.in_default.ensures.front (search rules)

pub loop-rest-preserved : goal.loop-rest-preserved
loop-rest-preserved c =
    rw (c.split_at.ensures.back, c.in_ok-push.ensures.items)
    (read_on (IsPrefixField c.args.family) c.args.bytes.now c.loop-rest.rest.now c.loop-rest.prefixes.items _ _ c.loop-rest.invariant c.in-Some.ensures.front.2)
