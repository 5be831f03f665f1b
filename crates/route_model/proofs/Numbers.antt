-- Numbers among octets: the words of byteorder and those of std are the same.
use Rattle.std.proofs.Common.{◌≡◌, ℕ, ◌<◌, ◌^◌, List, ◌++◌, length, drop, refl, ap, ◌∙◌, arith}
use Rattle.std.specs.Int.{w16, w32, w64, from_be_bytes, to_be_bytes}
use Rattle.std.proofs.lemmas.List.{drop_at}
use Rattle.std.proofs.lemmas.Nat.{from_be_bytes-to_be_bytes_2, from_be_bytes-to_be_bytes_4, from_be_bytes-to_be_bytes_8}
use Rattle.byteorder.specs.Endian.{big_number}
use Rattle.route_model.specs.Octets.{number_at}

pub big_two : (octets : List ℕ) → big_number 2 octets ≡ from_be_bytes w16 octets
big_two octets = omega arith

pub big_four : (octets : List ℕ) → big_number 4 octets ≡ from_be_bytes w32 octets
big_four octets = omega arith

pub big_eight : (octets : List ℕ) → big_number 8 octets ≡ from_be_bytes w64 octets
big_eight octets = omega arith

beyond : (front rest : List ℕ) → drop (length front) (front ++ rest) ≡ rest
beyond front rest = drop_at front rest (length front) refl

pub again_two : (front rest : List ℕ) (n : ℕ) → n < 2 ^ 16 → number_at 2 (length front) (front ++ (to_be_bytes w16 n ++ rest)) ≡ n
again_two front rest n lt = ap (big_number 2) (beyond front (to_be_bytes w16 n ++ rest)) ∙ big_two (to_be_bytes w16 n ++ rest) ∙ from_be_bytes-to_be_bytes_2 n lt

pub again_four : (front rest : List ℕ) (n : ℕ) → n < 2 ^ 32 → number_at 4 (length front) (front ++ (to_be_bytes w32 n ++ rest)) ≡ n
again_four front rest n lt = ap (big_number 4) (beyond front (to_be_bytes w32 n ++ rest)) ∙ big_four (to_be_bytes w32 n ++ rest) ∙ from_be_bytes-to_be_bytes_4 n lt

pub again_eight : (front rest : List ℕ) (n : ℕ) → n < 2 ^ 64 → number_at 8 (length front) (front ++ (to_be_bytes w64 n ++ rest)) ≡ n
again_eight front rest n lt = ap (big_number 8) (beyond front (to_be_bytes w64 n ++ rest)) ∙ big_eight (to_be_bytes w64 n ++ rest) ∙ from_be_bytes-to_be_bytes_8 n lt
