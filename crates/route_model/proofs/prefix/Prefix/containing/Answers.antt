use Rattle.route_model.proofs.Prefixes.{contained_4, contained_6}
use Rattle.route_model.proofs.prefix.Prefix.containing.Goals as goal

pub invariant_of-t-7 : goal.invariant_of-t-7
invariant_of-t-7 c = contained_4 c.args.length c.args.address c.in-V4.octets c.cleared_octets.result c.in-V4.is c.requires.within c.cleared_octets.ensures.cleared c.cleared_octets.ensures.size c.cleared_octets.ensures.octets

pub invariant_of-result : goal.invariant_of-result
invariant_of-result c = contained_6 c.args.length c.args.address c.in-V6.octets c.cleared_octets-in-V6.result c.in-V6.is c.requires.within c.cleared_octets-in-V6.ensures.cleared c.cleared_octets-in-V6.ensures.size c.cleared_octets-in-V6.ensures.octets
