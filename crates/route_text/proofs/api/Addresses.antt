-- A text has one address at most, and what is written of an address is read again.
use Rattle.std.proofs.Common.{◌≡◌, ℕ, zero, suc, ◌+◌, ◌-◌, ◌*◌, ◌/◌, ◌%◌, ◌<◌, ◌≤◌, ◌^◌, List, [], ◌∷◌, length, get_or, refl, sym, ap, subst, ◌∙◌, ⊎_elim, arith, length-append}
use Rattle.std.specs.Net.Addr.{segments_of, octets_of, ipv4_octets, ipv6_segments}
use Rattle.std.specs.Net.Text.{ipv4_text}
use Rattle.std.specs.Net.Grammar.{IsDotted, IsColonHex}
use Rattle.std.proofs.lemmas.List.{length-replicate}
use Rattle.std.proofs.lemmas.List.Elements.{All-get_or}
use Rattle.route_model.specs.Address.{octets}
use Rattle.std.proofs.NetLemmas.Alphabet.{IsDigitOrDot, IsHexOrColon, All-ipv4_text, All-hex_groups_text}
use Rattle.std.proofs.NetLemmas.Ipv6.{IsDotted-not_colon_hex}
use Rattle.std.proofs.NetLemmas.Texts.{IsDotted-ipv4_text, IsColonHex-hex_groups_text}
use Rattle.std.proofs.NetLemmas.Theorems.{IsIpv4Text_unique, IsIpv6Text_unique}
use Rattle.route_model.specs.declared.address.Address.{Address}
use Rattle.route_model.specs.declared.address.Address.TheVariants.{V4, V6}
use Rattle.route_text.specs.Octets.{Lacks}
use Rattle.route_text.specs.AddressText.{ipv6_text, IsIpv6Text, IsAddressText}

-- ---- one address

pub IsDotted_unique : (text o p : List ℕ) → IsDotted text o → IsDotted text p → o ≡ p
IsDotted_unique text o p h k = ap ipv4_octets (IsIpv4Text_unique text (record { octets = o }) (record { octets = p }) h k)

pub IsIpv6Text_same : (text o p : List ℕ) → IsIpv6Text text o → IsIpv6Text text p → o ≡ p
IsIpv6Text_same text o p h k =
    let same = ap ipv6_segments (IsIpv6Text_unique text (record { segments = h.groups }) (record { segments = k.groups }) h.encoded k.encoded) in
    h.value ∙ ap octets_of same ∙ sym k.value

pub IsAddressText_unique : (text : List ℕ) (a b : Address) → IsAddressText text a → IsAddressText text b → a ≡ b
IsAddressText_unique text (V4 o) (V4 p) h k = ap V4 (IsDotted_unique text o p h k)
IsAddressText_unique text (V4 o) (V6 p) h k = absurd (IsDotted-not_colon_hex text o k.groups h k.encoded)
IsAddressText_unique text (V6 o) (V4 p) h k = absurd (IsDotted-not_colon_hex text p h.groups k h.encoded)
IsAddressText_unique text (V6 o) (V6 p) h k = ap V6 (IsIpv6Text_same text o p h k)

-- ---- what is written

octets_of-segments_of : (n : ℕ) (xs : List ℕ) → length xs ≡ 2 * n → ((k : ℕ) → get_or xs k 0 < 256) → octets_of (segments_of xs) ≡ xs
octets_of-segments_of n [] even small = refl
octets_of-segments_of n (a ∷ []) even small = absurd (omega arith)
octets_of-segments_of n (a ∷ b ∷ xs) even small =
    let low : b < 256 = small 1 in
    let high : (a * 256 + b) / 256 ≡ a = omega arith in
    let rest : (a * 256 + b) % 256 ≡ b = omega arith in
    λ i. high i ∷ rest i ∷ octets_of-segments_of (n - 1) xs (omega arith) (λ k. small (suc (suc k))) i

segments_small : (xs : List ℕ) → ((k : ℕ) → get_or xs k 0 < 256) → (k : ℕ) → get_or (segments_of xs) k 0 < 2 ^ 16
segments_small [] small k = omega arith
segments_small (a ∷ []) small k = omega arith
segments_small (a ∷ b ∷ xs) small k =
    let high : a < 256 = small 0 in
    let low : b < 256 = small 1 in
    let first : a * 256 + b < 2 ^ 16 = omega arith in
    let rest = segments_small xs (λ j. small (suc (suc j))) in
    elim k as (λ j. get_or ((a * 256 + b) ∷ segments_of xs) j 0 < 2 ^ 16) [ zero ↦ first | suc j ↦ rest j ]

length-segments_of : (n : ℕ) (xs : List ℕ) → length xs ≡ 2 * n → length (segments_of xs) ≡ n
length-segments_of n [] even = omega arith
length-segments_of n (a ∷ []) even = absurd (omega arith)
length-segments_of n (a ∷ b ∷ xs) even = let rest = length-segments_of (n - 1) xs (omega arith) in omega arith

-- octets that no written IPv6 address has
pub Lacks-ipv6_text : (c : ℕ) (o : List ℕ) → ((k : ℕ) → get_or o k 0 < 256) → (IsHexOrColon c → ⊥) → Lacks c (ipv6_text o)
Lacks-ipv6_text c o small other =
    let all = All-hex_groups_text (segments_of o) (segments_small o small) in
    record { nowhere = λ i h e. other (subst IsHexOrColon e (All-get_or IsHexOrColon (ipv6_text o) i 0 h all)) }

-- octets that no written IPv4 address has
pub Lacks-ipv4_text : (c : ℕ) (o : List ℕ) → ((k : ℕ) → get_or o k 0 < 256) → (IsDigitOrDot c → ⊥) → Lacks c (ipv4_text o)
Lacks-ipv4_text c o small other =
    let all = All-ipv4_text o small in
    record { nowhere = λ i h e. other (subst IsDigitOrDot e (All-get_or IsDigitOrDot (ipv4_text o) i 0 h all)) }

pub IsDotted-written : (o : List ℕ) → length o ≡ 4 → ((k : ℕ) → get_or o k 0 < 256) → IsDotted (ipv4_text o) o
IsDotted-written o four small = IsDotted-ipv4_text o four small

pub IsIpv6Text-ipv6_text : (o : List ℕ) → length o ≡ 16 → ((k : ℕ) → get_or o k 0 < 256) → IsIpv6Text (ipv6_text o) o
IsIpv6Text-ipv6_text o sixteen small = record {
  groups = segments_of o;
  encoded = IsColonHex-hex_groups_text (segments_of o) (length-segments_of 8 o sixteen) (segments_small o small);
  no_dot = Lacks-ipv6_text 46 o small no_dot;
  value = sym (octets_of-segments_of 8 o sixteen small);
}
  where
    no_dot : IsHexOrColon 46 → ⊥
    no_dot h = ⊎_elim (λ d. omega arith) (λ d. omega arith) h

-- ---- sizes

length-octets_of : (xs : List ℕ) → length (octets_of xs) ≡ 2 * length xs
length-octets_of [] = omega arith
length-octets_of (s ∷ xs) = omega (arith, length-octets_of xs)

IsColonHex-length : (text groups : List ℕ) → IsColonHex text groups → length groups ≡ 8
IsColonHex-length text groups h =
    ⊎_elim (λ all. all.1) (λ part. ap length part.value ∙ simp (length-append, length-replicate) (let room = part.room in omega arith)) h

pub length-IsAddressText : (text : List ℕ) (a : Address) → IsAddressText text a → length (octets a) ≤ 16
length-IsAddressText text (V4 o) h = let four = ap length h.value in omega arith
length-IsAddressText text (V6 o) h =
    let size = ap length h.value ∙ length-octets_of h.groups in
    let eight = IsColonHex-length text h.groups h.encoded in
    omega arith
