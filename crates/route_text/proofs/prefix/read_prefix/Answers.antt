use Rattle.std.proofs.Common.{ℕ, ◌≤◌, ◌*◌, List, ◌++◌, ◌∷◌, [], append_assoc, sym, ap, subst, ◌∙◌, arith, decimal, length, refl}
use Rattle.std.proofs.lemmas.Result.{err_from_is_err_and}
use Rattle.route_model.specs.declared.address.Address.{Address}
use Rattle.route_model.specs.Address.{octets}
use Rattle.route_text.specs.AddressText.{IsAddressText}
use Rattle.route_text.proofs.api.Addresses.{IsAddressText_unique}
use Rattle.route_text.proofs.Prefixes.{prefix_parts}
use Rattle.route_text.proofs.prefix.read_prefix.Goals as goal

pub returns-in_err-address-clause-none : goal.returns-in_err-address-clause-none
returns-in_err-address-clause-none c =
    let p = err_from_is_err_and c.from_residual.result c.from_residual.ensures.1 in
    rw (p.1) (λ prefix h.
    let parts = prefix_parts c.args.text.now c.in-Some.address.now c.in-Some.length.now prefix h c.in-Some.ensures.parts c.in-Some.ensures.last in
    c.in_err-address.ensures.none h.address (subst (λ (t : List ℕ). IsAddressText t h.address) parts.0 h.read))

pub returns-in_err-length-clause-none : goal.returns-in_err-length-clause-none
returns-in_err-length-clause-none c =
    let p = err_from_is_err_and c.from_residual-in_err-length.result c.from_residual-in_err-length.ensures.1 in
    rw (p.1) (λ prefix h.
    let parts = prefix_parts c.args.text.now c.in-Some.address.now c.in-Some.length.now prefix h c.in-Some.ensures.parts c.in-Some.ensures.last in
    let read = subst (λ (t : List ℕ). IsAddressText t h.address) parts.0 h.read in
    let same = IsAddressText_unique c.in-Some.address.now h.address c.in_ok-address.address read c.in_ok-address.ensures.found in
    let fits = subst (λ (a : Address). prefix.length ≤ 8 * length (octets a)) same h.fits in
    c.in_err-length.ensures.none prefix.length (omega (arith, c.bit_count.ensures)) (sym parts.1))

pub returns-clause-found : goal.returns-clause-found
returns-clause-found c =
    rw c.containing.ensures.prefix (record {
      address = c.in_ok-address.address;
      address_text = c.in-Some.address.now;
      encoded = c.in-Some.ensures.parts ∙ ap (λ t. c.in-Some.address.now ++ 47 ∷ t) c.in_ok-length.ensures.found ∙ sym (append_assoc c.in-Some.address.now (47 ∷ []) (decimal c.in_ok-length.length));
      read = c.in_ok-address.ensures.found;
      fits = (let most = c.in_ok-length.ensures.in_range in omega (arith, c.bit_count.ensures));
      cleared = refl;
    })
