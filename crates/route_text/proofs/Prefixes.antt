-- The parts of a prefix's text.
use Rattle.std.proofs.Common.{◌≡◌, ℕ, ◌<◌, ◌^◌, List, [], ◌∷◌, ◌++◌, append_assoc, sym, ◌∙◌, arith, decimal}
use Rattle.route_model.specs.Prefix.{IpPrefix}
use Rattle.route_text.specs.Octets.{Lacks}
use Rattle.route_text.specs.PrefixText.{IsPrefixText}
use Rattle.route_text.proofs.api.Addresses.{length-IsAddressText}
use Rattle.route_text.proofs.Cuts.{last_cut}
use Rattle.route_text.proofs.Numbers.{Lacks-decimal}

-- the address and the length stand on the two sides of the last slash
pub prefix_parts : (text front back : List ℕ) (p : IpPrefix) (h : IsPrefixText text p) → text ≡ front ++ 47 ∷ back → Lacks 47 back → (h.address_text ≡ front) × (decimal p.length ≡ back)
prefix_parts text front back p h e free =
    let size = length-IsAddressText h.address_text h.address h.read in
    let fits : p.length < 2 ^ 64 = let room = h.fits in omega arith in
    last_cut 47 h.address_text (decimal p.length) front back (sym (append_assoc h.address_text (47 ∷ []) (decimal p.length)) ∙ sym h.encoded ∙ e) (Lacks-decimal 47 p.length fits (λ d. omega arith)) free

-- a text without a slash is no prefix
pub prefix_slash : (text : List ℕ) (p : IpPrefix) → IsPrefixText text p → Lacks 47 text → ⊥
prefix_slash text p h free =
    Rattle.route_text.proofs.Cuts.Lacks-at 47 h.address_text (decimal p.length) (Rattle.route_text.proofs.Cuts.Lacks-same 47 text (h.address_text ++ 47 ∷ decimal p.length) (h.encoded ∙ append_assoc h.address_text (47 ∷ []) (decimal p.length)) free)
