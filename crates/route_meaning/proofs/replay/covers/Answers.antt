use Rattle.std.proofs.Common.{◌≡◌, ◌≤◌, ◌*◌, ◌∙◌, sym, ap, length, arith}
use Rattle.route_model.specs.Address.{family, octets}
use Rattle.route_meaning.proofs.Answering.{same_width}
use Rattle.route_meaning.proofs.replay.covers.Goals as goal

pub containing-requires : goal.containing-requires
containing-requires c =
    let families : family c.args.prefix.now.address ≡ family c.args.address.now =
    ap family (sym c.address.ensures.address) ∙ (sym c.family.ensures.family ∙ (c.if-family.true ∙ c.family-2.ensures.family)) in
    let same : length (octets c.args.prefix.now.address) ≡ length (octets c.args.address.now) = same_width _ _ c.requires.address c.as_slice-octets.ensures.valid families in
    record { within = omega (arith, same, c.length.ensures.length, c.requires.length) }
