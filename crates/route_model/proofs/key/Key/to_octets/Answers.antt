use Rattle.std.proofs.Common.{◌∙◌}
use Rattle.route_model.proofs.api.KeyNumbers.{octets_number}
use Rattle.route_model.proofs.key.Key.to_octets.Goals as goal

pub returns-clause-number : goal.returns-clause-number
returns-clause-number c =
    let i = c.self.inside in
    let is = c.self.invariant in
    let all = octets_number i.first i.second i.third i.fourth i.fifth is.first is.second is.third is.fourth is.fifth in
    rw (c.copy_from_slice-5.ensures.after, c.copy_from_slice-4.ensures.after, c.copy_from_slice-3.ensures.after, c.copy_from_slice-2.ensures.after, c.copy_from_slice.ensures.after, c.to_be_bytes-5.ensures, c.to_be_bytes-4.ensures, c.to_be_bytes-3.ensures, c.to_be_bytes-2.ensures, c.to_be_bytes.ensures) (all ∙ c.self.view_is)
