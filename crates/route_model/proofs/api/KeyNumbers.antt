-- Octets and the number that they are.
use Rattle.std.proofs.Common.{◌≡◌, ℕ, zero, suc, ◌+◌, ◌*◌, ◌^◌, ◌<◌, ◌≤◌, List, [], ◌∷◌, ◌++◌, length, take, drop, refl, sym, ap, subst, ◌∙◌, append_assoc, arith, inl, inr}
use Rattle.std.specs.Int.{w64, to_be_bytes}
use Rattle.std.specs.Ordering.{nat_cmp, ordering_then}
use Rattle.std.specs.declared.cmp.Ordering.{Ordering}
use Rattle.std.specs.declared.cmp.Ordering.TheVariants.{Less, Equal, Greater}
use Rattle.std.specs.Cmp.Lexicographic.{slice_cmp}
use Rattle.std.proofs.Math.Nat.{mul-le-mul_right, mul-le-mul_left, add-mul, mul_assoc, pow-suc}
use Rattle.std.proofs.lemmas.Nat.{pow-add, from_be_bytes-to_be_bytes_8}
use Rattle.std.proofs.lemmas.Bool.{cases_order, lt-ltb, le-ltb, eq-eqb, ne_eqb}
use Rattle.std.proofs.lemmas.List.{append-nil, length-append, length-take, length-drop, take-append-drop, take-take, drop-take, take_all}
use Rattle.byteorder.specs.Endian.{big_from}
use Rattle.byteorder.specs.Numbers.{big_from-cons}
use Rattle.route_model.specs.Octets.{AreOctets, number_at}
use Rattle.route_model.specs.Keys.{number_of}
use Rattle.route_model.specs.KeyWords.{followed_by}
use Rattle.route_model.proofs.Numbers.{big_eight}

pub number_of-append : (a b : List ℕ) → number_of (a ++ b) ≡ number_of a * 256 ^ length b + number_of b
unfolding number_of
number_of-append [] b = omega arith
number_of-append (x ∷ a) b =
    let m : ℕ = 256 ^ length b in
    let size : 256 ^ length (a ++ b) ≡ 256 ^ length a * m = ap (λ (n : ℕ). 256 ^ n) (length-append a b) ∙ pow-add 256 (length a) (length b) in
    let one : x * 256 ^ length (a ++ b) ≡ x * 256 ^ length a * m = ap (λ (n : ℕ). x * n) size ∙ sym (mul_assoc x (256 ^ length a) m) in
    let two = number_of-append a b in
    let three = add-mul (x * 256 ^ length a) (number_of a) m in
    omega (arith, one, two, three)

number_of-take : (n : ℕ) (xs : List ℕ) → n ≤ length xs → number_of (take n xs) ≡ big_from 0 n xs
unfolding number_of
number_of-take zero xs le = refl
number_of-take (suc n) [] le = absurd (omega arith)
number_of-take (suc n) (x ∷ xs) le =
    let size : length (take n xs) ≡ n = omega (arith, length-take n xs) in
    rw (size, number_of-take n xs (omega arith), big_from-cons 0 n x xs) refl

-- one more word of eight octets
word_step : (octets : List ℕ) (k : ℕ) → k + 8 ≤ length octets → number_of (take (k + 8) octets) ≡ followed_by (number_of (take k octets)) (number_at 8 k octets)
word_step octets k le =
    let word : List ℕ = take 8 (drop k octets) in
    let within : k ≤ k + 8 = omega arith in
    let parts : take (k + 8) octets ≡ take k octets ++ word =
    sym (take-append-drop k (take (k + 8) octets))
    ∙ (ap (λ (t : List ℕ). t ++ drop k (take (k + 8) octets)) (take-take k (k + 8) octets within)
    ∙ ap (λ (t : List ℕ). take k octets ++ t) (drop-take k 8 octets)) in
    let long : 8 ≤ length (drop k octets) = omega (arith, length-drop k octets) in
    let size : length word ≡ 8 = omega (arith, length-take 8 (drop k octets)) in
    let front : number_of (take (k + 8) octets) ≡ number_of (take k octets) * 256 ^ length word + number_of word = ap number_of parts ∙ number_of-append (take k octets) word in
    front ∙ ap (λ (n : ℕ). number_of (take k octets) * 256 ^ n + number_of word) size ∙ ap (λ (n : ℕ). number_of (take k octets) * 256 ^ 8 + n) (number_of-take 8 (drop k octets) long)

-- forty octets are five words
pub words_number : (o : List ℕ) → length o ≡ 40 → followed_by (followed_by (followed_by (followed_by (number_at 8 0 o) (number_at 8 8 o)) (number_at 8 16 o)) (number_at 8 24 o)) (number_at 8 32 o) ≡ number_of o
unfolding number_of
words_number o len =
    let e0 : number_of (take 8 o) ≡ number_at 8 0 o = word_step o 0 (omega arith) ∙ omega arith in
    let e1 : number_of (take 16 o) ≡ followed_by (number_at 8 0 o) (number_at 8 8 o) = word_step o 8 (omega arith) ∙ ap (λ (n : ℕ). followed_by n (number_at 8 8 o)) e0 in
    let e2 : number_of (take 24 o) ≡ followed_by (followed_by (number_at 8 0 o) (number_at 8 8 o)) (number_at 8 16 o) = word_step o 16 (omega arith) ∙ ap (λ (n : ℕ). followed_by n (number_at 8 16 o)) e1 in
    let e3 : number_of (take 32 o) ≡ followed_by (followed_by (followed_by (number_at 8 0 o) (number_at 8 8 o)) (number_at 8 16 o)) (number_at 8 24 o) = word_step o 24 (omega arith) ∙ ap (λ (n : ℕ). followed_by n (number_at 8 24 o)) e2 in
    let e4 : number_of (take 40 o) ≡ followed_by (followed_by (followed_by (followed_by (number_at 8 0 o) (number_at 8 8 o)) (number_at 8 16 o)) (number_at 8 24 o)) (number_at 8 32 o) = word_step o 32 (omega arith) ∙ ap (λ (n : ℕ). followed_by n (number_at 8 32 o)) e3 in
    sym e4 ∙ ap number_of (take_all 40 o (omega arith))

word_number : (n : ℕ) → n < 2 ^ 64 → number_of (to_be_bytes w64 n) ≡ n
word_number n lt = number_of-take 8 (to_be_bytes w64 n) (omega arith) ∙ big_eight (to_be_bytes w64 n) ∙ from_be_bytes-to_be_bytes_8 n lt

follows : (front : List ℕ) (m n : ℕ) → number_of front ≡ m → n < 2 ^ 64 → number_of (front ++ to_be_bytes w64 n) ≡ followed_by m n
follows front m n e lt = number_of-append front (to_be_bytes w64 n) ∙ ap (λ (k : ℕ). k * 256 ^ 8 + number_of (to_be_bytes w64 n)) e ∙ ap (λ (k : ℕ). m * 256 ^ 8 + k) (word_number n lt)

regroup : (a b c d e : List ℕ) → a ++ (b ++ (c ++ (d ++ (e ++ [])))) ≡ (((a ++ b) ++ c) ++ d) ++ e
regroup a b c d e = ap (λ (t : List ℕ). a ++ (b ++ (c ++ (d ++ t)))) (append-nil e) ∙ sym (simp append_assoc)

-- five words are forty octets
pub octets_number : (a b c d e : ℕ) → a < 2 ^ 64 → b < 2 ^ 64 → c < 2 ^ 64 → d < 2 ^ 64 → e < 2 ^ 64
    → number_of (to_be_bytes w64 a ++ (to_be_bytes w64 b ++ (to_be_bytes w64 c ++ (to_be_bytes w64 d ++ (to_be_bytes w64 e ++ []))))) ≡ followed_by (followed_by (followed_by (followed_by a b) c) d) e
octets_number a b c d e la lb lc ld le =
    let n1 = follows (to_be_bytes w64 a) a b (word_number a la) lb in
    let n2 = follows (to_be_bytes w64 a ++ to_be_bytes w64 b) (followed_by a b) c n1 lc in
    let n3 = follows ((to_be_bytes w64 a ++ to_be_bytes w64 b) ++ to_be_bytes w64 c) (followed_by (followed_by a b) c) d n2 ld in
    ap number_of (regroup (to_be_bytes w64 a) (to_be_bytes w64 b) (to_be_bytes w64 c) (to_be_bytes w64 d) (to_be_bytes w64 e))
    ∙ follows (((to_be_bytes w64 a ++ to_be_bytes w64 b) ++ to_be_bytes w64 c) ++ to_be_bytes w64 d) (followed_by (followed_by (followed_by a b) c) d) e n3 le

-- ---- order

AreOctets-tail : (x : ℕ) (xs : List ℕ) → AreOctets (x ∷ xs) → AreOctets xs
AreOctets-tail x xs all i = all (suc i)

pub number_lt : (xs : List ℕ) → AreOctets xs → number_of xs < 256 ^ length xs
unfolding number_of
number_lt [] all = omega arith
number_lt (x ∷ xs) all =
    let head : x < 256 = all 0 in
    let rest = number_lt xs (AreOctets-tail x xs all) in
    let top : suc x * 256 ^ length xs ≤ 256 * 256 ^ length xs = mul-le-mul_right (256 ^ length xs) (let le : suc x ≤ 256 = omega arith in le) in
    let power : 256 ^ suc (length xs) ≡ 256 ^ length xs * 256 = pow-suc 256 (length xs) in
    omega (arith, rest, top, power)

cmp_less : (m n : ℕ) → m < n → nat_cmp m n ≡ Less
cmp_less m n lt = rw (lt-ltb m n lt) refl

cmp_equal : (m n : ℕ) → m ≡ n → nat_cmp m n ≡ Equal
cmp_equal m n e = rw (le-ltb m n (omega arith), eq-eqb m n e) refl

cmp_greater : (m n : ℕ) → n < m → nat_cmp m n ≡ Greater
cmp_greater m n gt = rw (le-ltb m n (omega arith), ne_eqb m n (λ e. omega arith)) refl

-- a number of two digits
cmp_digits : (m a b r s : ℕ) → r < m → s < m → nat_cmp (a * m + r) (b * m + s) ≡ ordering_then (nat_cmp a b) (nat_cmp r s)
cmp_digits m a b r s r_lt s_lt = elim (cases_order a b) [
  | inl same ↦ rw (cmp_equal a b same) (
      let e : b * m ≡ a * m = ap (λ (n : ℕ). n * m) (sym same) in
      elim (cases_order r s) [
        | inl rs ↦ cmp_equal (a * m + r) (b * m + s) (omega (arith, e)) ∙ sym (cmp_equal r s rs)
        | inr other ↦ elim other [
          | inl lt ↦ cmp_less (a * m + r) (b * m + s) (omega (arith, e)) ∙ sym (cmp_less r s lt)
          | inr gt ↦ cmp_greater (a * m + r) (b * m + s) (omega (arith, e)) ∙ sym (cmp_greater r s gt)
        ]
      ])
  | inr other ↦ elim other [
    | inl lt ↦ rw (cmp_less a b lt) (let h : m * suc a ≤ m * b = mul-le-mul_left m (let g : suc a ≤ b = omega arith in g) in cmp_less (a * m + r) (b * m + s) (omega (arith, h)))
    | inr gt ↦ rw (cmp_greater a b gt) (let h : m * suc b ≤ m * a = mul-le-mul_left m (let g : suc b ≤ a = omega arith in g) in cmp_greater (a * m + r) (b * m + s) (omega (arith, h)))
  ]
]

-- octets are ordered as the numbers that they are
pub number_cmp : (a b : List ℕ) → length a ≡ length b → AreOctets a → AreOctets b → nat_cmp (number_of a) (number_of b) ≡ slice_cmp nat_cmp a b
unfolding number_of
number_cmp [] [] len all_a all_b = cmp_equal 0 0 refl
number_cmp [] (y ∷ b) len all_a all_b = absurd (omega arith)
number_cmp (x ∷ a) [] len all_a all_b = absurd (omega arith)
number_cmp (x ∷ a) (y ∷ b) len all_a all_b =
    let same : length a ≡ length b = omega arith in
    let m : ℕ = 256 ^ length b in
    let lt_a : number_of a < m = subst (λ (n : ℕ). number_of a < 256 ^ n) same (number_lt a (AreOctets-tail x a all_a)) in
    let lt_b : number_of b < m = number_lt b (AreOctets-tail y b all_b) in
    ap (λ (n : ℕ). nat_cmp (x * 256 ^ n + number_of a) (y * m + number_of b)) same
    ∙ cmp_digits m x y (number_of a) (number_of b) lt_a lt_b
    ∙ ap (ordering_then (nat_cmp x y)) (number_cmp a b same (AreOctets-tail x a all_a) (AreOctets-tail y b all_b))

cmp_is_less : (m n : ℕ) → nat_cmp m n ≡ Less → m < n
cmp_is_less m n e = elim (cases_order m n) [
  | inl same ↦ absurd (cc (e, cmp_equal m n same))
  | inr other ↦ elim other [ inl lt ↦ lt | inr gt ↦ absurd (cc (e, cmp_greater m n gt)) ]
]

pub cmp_less_is : (m n : ℕ) → nat_cmp m n ≡ Less → m < n
cmp_less_is = cmp_is_less

cmp_is_equal : (m n : ℕ) → nat_cmp m n ≡ Equal → m ≡ n
cmp_is_equal m n e = elim (cases_order m n) [
  | inl same ↦ same
  | inr other ↦ elim other [ inl lt ↦ absurd (cc (e, cmp_less m n lt)) | inr gt ↦ absurd (cc (e, cmp_greater m n gt)) ]
]

then_is_equal : (a b : Ordering) → ordering_then a b ≡ Equal → a ≡ Equal
then_is_equal Less b e = absurd cc
then_is_equal Equal b e = refl
then_is_equal Greater b e = absurd cc

-- octets of one number are the same
pub number_one : (a b : List ℕ) → length a ≡ length b → AreOctets a → AreOctets b → number_of a ≡ number_of b → a ≡ b
number_one a b len all_a all_b e = same a b len (sym (number_cmp a b len all_a all_b) ∙ cmp_equal (number_of a) (number_of b) e)
  where
    same : (a b : List ℕ) → length a ≡ length b → slice_cmp nat_cmp a b ≡ Equal → a ≡ b
    same [] [] len e = refl
    same [] (y ∷ b) len e = absurd (omega arith)
    same (x ∷ a) [] len e = absurd (omega arith)
    same (x ∷ a) (y ∷ b) len e =
        let head : nat_cmp x y ≡ Equal = then_is_equal (nat_cmp x y) (slice_cmp nat_cmp a b) e in
        let tail : slice_cmp nat_cmp a b ≡ Equal = subst (λ (o : Ordering). ordering_then o (slice_cmp nat_cmp a b) ≡ Equal) head e in
        let one : x ≡ y = cmp_is_equal x y head in
        let two = same a b (omega arith) tail in
        cc (one, two)
