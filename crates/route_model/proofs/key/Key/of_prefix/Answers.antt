use Rattle.std.proofs.Common.{refl, ◌+◌, ℕ, List, [], ◌∷◌, ◌++◌, ◌∙◌, ap}
use Rattle.std.proofs.lemmas.List.{append-nil}
use Rattle.route_model.specs.Address.{family, wide}
use Rattle.route_model.specs.Keys.{number_of}
use Rattle.route_model.specs.PeerKeys.{first_key}
use Rattle.route_model.proofs.api.PeerKeys.{retailed, tail_size}
use Rattle.route_model.proofs.key.Key.of_prefix.Goals as goal

pub returns : goal.returns
returns c =
    let o : List ℕ = c.to_octets-whole.result in
    let x = c.args.prefix.now in
    let t : List ℕ = family x.address ∷ wide x.address ++ x.length ∷ [] in
    let e = retailed o t c.to_octets-whole.ensures.size (tail_size x c.address.ensures.valid) c.to_octets-whole.ensures.each in
    record { key = c.from_octets.ensures.key ∙ (rw (c.copy_from_slice-2.ensures.after, c.copy_from_slice.ensures.after, c.family.ensures.family, c.wide.ensures.wide, c.address.ensures.address, c.address-2.ensures.address, c.length.ensures.length) refl ∙ (e ∙ ap (λ (n : ℕ). first_key n + number_of t) c.to_octets-whole.ensures.number)) }
