use Rattle.std.proofs.Common.{rules, ◌≡◌, sym, ◌∙◌, arith}
use Rattle.route_model.proofs.api.Admissions.{any_time}
use Rattle.route_model.proofs.admission.Admission.at.Goals as goal

pub invariant_of-result : goal.invariant_of-result
invariant_of-result c =
    let was = c.self.invariant in
    let same = any_time (record { time = c.self.inside.time; changes = c.self.inside.changes.items }) c.args.time in
    (record { time = search rules; changes = was.0.changes; small = (let small = was.0.small in omega (arith, small, same)) }, was.1 ∙ sym same)
