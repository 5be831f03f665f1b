-- Numbers in octets: what is encoded is read again, and what is read is the encoding of its number.
use Rattle.std.proofs.Common.{◌≡◌, ℕ, zero, suc, ◌+◌, ◌*◌, ◌^◌, ◌<◌, ◌≤◌, ◌-◌, ◌/◌, List, [], ◌∷◌, ◌++◌, length, take, drop, slice_index, refl, sym, ap, subst, ◌∙◌, arith}
use Rattle.std.specs.Int.{byte_at, bytes_high_first}
use Rattle.std.proofs.Math.Nat.{mod-lt}
use Rattle.std.proofs.lemmas.List.{append-nil, length-take, length-drop, take-append-drop, take-take, drop-take, take_all, take_at, drop_at}
use Rattle.byteorder.specs.Endian.{big_number, big_from}
use Rattle.byteorder.specs.Numbers.{big_from-cons, length-bytes_high_first, big_number-reads_back}
use Rattle.route_model.specs.Octets.{AreOctets, number_at}
use Rattle.route_model.specs.Keys.{number_of}
use Rattle.route_model.specs.KeyWords.{followed_by}
use Rattle.route_model.proofs.api.KeyNumbers.{number_of-append, number_lt, number_one}
use Rattle.tsb_node.specs.Numbers.{octets_of}
use Rattle.tsb_node.specs.inner.Fields.{number_in}

pub number_of-take : (n : ℕ) (xs : List ℕ) → n ≤ length xs → number_of (take n xs) ≡ big_from 0 n xs
unfolding number_of
number_of-take zero xs le = refl
number_of-take (suc n) [] le = absurd (omega arith)
number_of-take (suc n) (x ∷ xs) le =
    let size : length (take n xs) ≡ n = omega (arith, length-take n xs) in
    rw (size, number_of-take n xs (omega arith), big_from-cons 0 n x xs) refl

drop_none : (n : ℕ) → drop {A = ℕ} n [] ≡ []
drop_none zero = refl
drop_none (suc n) = refl

pub drop_twice : (a b : ℕ) (xs : List ℕ) → drop b (drop a xs) ≡ drop (a + b) xs
drop_twice zero b xs = ap (λ (n : ℕ). drop n xs) (let e : b ≡ 0 + b = omega arith in e)
drop_twice (suc a) b [] = drop_none b ∙ sym (drop_none (suc a + b))
drop_twice (suc a) b (x ∷ xs) = drop_twice a b xs ∙ ap (λ (n : ℕ). drop n (x ∷ xs)) (let e : suc (a + b) ≡ suc a + b = omega arith in e)

-- the words of route_model read the same numbers
pub number_in_is : (size place : ℕ) (octets : List ℕ) → place + size ≤ length octets → number_in size place octets ≡ number_at size place octets
number_in_is size place octets le = number_of-take size (drop place octets) (omega (arith, length-drop place octets))

-- two words of eight octets are one number of sixteen
pub stamp_in : (octets : List ℕ) (place : ℕ) → place + 16 ≤ length octets → followed_by (number_at 8 place octets) (number_at 8 (place + 8) octets) ≡ number_in 16 place octets
stamp_in octets place le =
    let xs : List ℕ = drop place octets in
    let long : length xs ≡ length octets - place = length-drop place octets in
    let front : List ℕ = take 8 xs in
    let back : List ℕ = take 8 (drop 8 xs) in
    let within : 8 ≤ 16 = omega arith in
    let parts : take 16 xs ≡ front ++ back =
    sym (take-append-drop 8 (take 16 xs)) ∙ ap (λ (t : List ℕ). t ++ drop 8 (take 16 xs)) (take-take 8 16 xs within) ∙ ap (λ (t : List ℕ). take 8 xs ++ t) (drop-take 8 8 xs) in
    let size : length back ≡ 8 = omega (arith, length-take 8 (drop 8 xs), length-drop 8 xs) in
    let one : number_of front ≡ number_at 8 place octets = number_in_is 8 place octets (omega arith) in
    let again : number_of back ≡ big_number 8 (drop 8 xs) = number_of-take 8 (drop 8 xs) (omega (arith, length-drop 8 xs)) in
    let same : drop 8 xs ≡ drop (place + 8) octets = drop_twice place 8 octets in
    let two : number_of back ≡ number_at 8 (place + 8) octets = again ∙ ap (λ (t : List ℕ). big_number 8 t) same in
    sym (ap number_of parts ∙ number_of-append front back ∙ ap (λ (n : ℕ). number_of front * 256 ^ n + number_of back) size
    ∙ ap (λ (n : ℕ). n * 256 ^ 8 + number_of back) one ∙ ap (λ (n : ℕ). number_at 8 place octets * 256 ^ 8 + n) two)

-- ---- what is encoded is read again

pub octets_of-size : (size n : ℕ) → length (octets_of size n) ≡ size
unfolding octets_of
octets_of-size size n = length-bytes_high_first size n

pub octets_of-number : (size n : ℕ) → n < 256 ^ size → number_of (octets_of size n) ≡ n
unfolding octets_of
octets_of-number size n lt =
    let long : length (bytes_high_first size n) ≡ size = length-bytes_high_first size n in
    let whole : take size (bytes_high_first size n) ≡ bytes_high_first size n = take_all size (bytes_high_first size n) (omega arith) in
    ap number_of (sym whole) ∙ number_of-take size (bytes_high_first size n) (omega arith)
    ∙ ap (λ (t : List ℕ). big_from 0 size t) (sym (append-nil (bytes_high_first size n))) ∙ big_number-reads_back size n [] lt

byte_at-lt : (i n : ℕ) → byte_at i n < 256
byte_at-lt zero n = mod-lt n (omega arith)
byte_at-lt (suc i) n = mod-lt (n / 256 ^ suc i) (omega arith)

bytes-lt : (size n i : ℕ) → slice_index (bytes_high_first size n) i < 256
bytes-lt zero n i = omega arith
bytes-lt (suc k) n zero = byte_at-lt k n
bytes-lt (suc k) n (suc i) = bytes-lt k n i

pub octets_of-each : (size n : ℕ) → AreOctets (octets_of size n)
unfolding octets_of
octets_of-each size n = bytes-lt size n

-- ---- what is read is the encoding of its number

pub octets_of-again : (size : ℕ) (o : List ℕ) → length o ≡ size → AreOctets o → octets_of size (number_of o) ≡ o
octets_of-again size o len are =
    let lt : number_of o < 256 ^ size = subst (λ (n : ℕ). number_of o < 256 ^ n) len (number_lt o are) in
    number_one (octets_of size (number_of o)) o (octets_of-size size (number_of o) ∙ sym len) (octets_of-each size (number_of o)) are (octets_of-number size (number_of o) lt)

-- ---- a field after a front

pub field_in : (size place : ℕ) (front field rest : List ℕ) → length front ≡ place → length field ≡ size → number_in size place (front ++ (field ++ rest)) ≡ number_of field
field_in size place front field rest at len =
    ap (λ (t : List ℕ). number_of (take size t)) (drop_at front (field ++ rest) place at) ∙ ap number_of (take_at field rest size len)
