use Rattle.std.proofs.Common.{◌≡◌}
use Rattle.route_model.proofs.api.KeyNumbers.{words_number}
use Rattle.route_model.proofs.key.Key.from_octets.Goals as goal

pub returns : goal.returns
returns c =
    let same : c.slice_of-octets.result.now ≡ c.args.octets.now = c.slice_of-octets.ensures.octets in
    let all = words_number c.args.octets.now c.slice_of-octets.ensures.size in
    record { key = rw (c.u64_at.ensures.number, c.u64_at-2.ensures.number, c.u64_at-3.ensures.number, c.u64_at-4.ensures.number, c.u64_at-5.ensures.number, same) all }
