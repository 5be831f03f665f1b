-- A text has one prefix at most, and one instant.
use Rattle.std.proofs.Common.{◌≡◌, ℕ, ℤ, pos, ◌*◌, ◌^◌, ◌<◌, List, [], ◌∷◌, ◌++◌, Result, Ok, Err, IsErr, decimal, append_assoc, arith, sym, subst, ◌∙◌, ⊎_elim}
use Rattle.std.proofs.lemmas.Fmt.{decimal_injective}
use Rattle.jiff.specs.Words.{parse_timestamp}
use Rattle.jiff_core.specs.declared.error.Error.{Error}
use Rattle.route_model.specs.Prefix.{IpPrefix, cleared_address}
use Rattle.route_text.specs.MomentText.{IsTimestamp, IsInstant}
use Rattle.route_text.specs.PrefixText.{IsPrefixText}
use Rattle.route_text.proofs.api.Addresses.{IsAddressText_unique, length-IsAddressText}
use Rattle.route_text.proofs.Numbers.{Lacks-decimal}
use Rattle.route_text.proofs.Prefixes.{prefix_parts}
use Rattle.route_text.proofs.Seconds.{one_seconds, seconds_left}
use Rattle.route_text.proofs.Timestamps.{Left, seconds-not_timestamp}

-- ---- prefixes

length_fits : (text : List ℕ) (p : IpPrefix) → IsPrefixText text p → p.length < 2 ^ 64
length_fits text p h =
    let size = length-IsAddressText h.address_text h.address h.read in
    let fits = h.fits in
    omega (arith, size, fits)

same_prefix : (a b : IpPrefix) → a.address ≡ b.address → a.length ≡ b.length → a ≡ b
same_prefix a b address length = λ i. record { address = address i; length = length i }

pub one_prefix : (text : List ℕ) (a b : IpPrefix) → IsPrefixText text a → IsPrefixText text b → a ≡ b
one_prefix text a b h k =
    let fits = length_fits text b k in
    let cut : text ≡ k.address_text ++ 47 ∷ decimal b.length = k.encoded ∙ append_assoc k.address_text (47 ∷ []) (decimal b.length) in
    let parts = prefix_parts text k.address_text (decimal b.length) a h cut (Lacks-decimal 47 b.length fits (λ d. omega arith)) in
    let length : a.length ≡ b.length = decimal_injective a.length b.length (length_fits text a h) fits parts.1 in
    let address : h.address ≡ k.address = IsAddressText_unique k.address_text h.address k.address (subst (λ (t : List ℕ). Rattle.route_text.specs.AddressText.IsAddressText t h.address) parts.0 h.read) k.read in
    same_prefix a b (h.cleared ∙ (λ i. cleared_address (length i) (address i)) ∙ sym k.cleared) length

-- ---- instants

not_both : (text : List ℕ) (moment : ℕ) → Left text → IsTimestamp text moment → ⊥
not_both text moment left time = refused (parse_timestamp text) (seconds-not_timestamp text left) time.instant
  where
    refused : (r : Result ℤ Error) → IsErr r → r ≡ Ok (pos (moment * 1000)) → ⊥
    refused (Ok x) h e = absurd cc
    refused (Err x) h e = absurd cc

same_nanoseconds : (a b : ℕ) → ◌≡◌ {A = Result ℤ Error} (Ok (pos a)) (Ok (pos b)) → a ≡ b
same_nanoseconds a b e = cc

-- what two timestamps write of one instant
pub one_timestamp : (text : List ℕ) (a b : ℕ) → IsTimestamp text a → IsTimestamp text b → a ≡ b
one_timestamp text a b h k = let same = same_nanoseconds (a * 1000) (b * 1000) (sym h.instant ∙ k.instant) in omega (arith, same)

pub one_instant : (last : ℕ) → last < 2 ^ 64 → (text : List ℕ) (a b : ℕ) → IsInstant last text a → IsInstant last text b → a ≡ b
one_instant last fits text a b h k =
    ⊎_elim
    (λ e. ⊎_elim (λ f. one_seconds last fits text a b h.within k.within e f) (λ time. absurd (not_both text b (seconds_left last fits text a h.within e) time)) k.encoded)
    (λ time. ⊎_elim
    (λ f. absurd (not_both text a (seconds_left last fits text b k.within f) time))
    (λ other. one_timestamp text a b time other) k.encoded)
    h.encoded
