-- Lists of numbers, of which those that lack are 0.
use Rattle.std.proofs.Common.{◌≡◌, ℕ, zero, suc, ◌<◌, ◌≤◌, List, [], ◌∷◌, length, set, refl, ap, arith, le_refl, zero-le}
use Rattle.std.specs.Prelude.{slice_index}
use Rattle.std.proofs.Math.Decide.{dec_lt}
use Rattle.board.specs.Views.{with_number, greatest, Within}

pub within_nil : (ys : List ℕ) → Within [] ys
within_nil ys i = zero-le

pub number_here : (xs : List ℕ) (i n : ℕ) → slice_index (with_number xs i n) i ≡ n
number_here [] zero n = refl
number_here [] (suc i) n = number_here [] i n
number_here (x ∷ xs) zero n = refl
number_here (x ∷ xs) (suc i) n = number_here xs i n

pub number_most : (xs ys : List ℕ) (i n : ℕ) → Within xs ys → n ≤ slice_index ys i → Within (with_number xs i n) ys
number_most [] ys zero n p q zero = q
number_most [] ys zero n p q (suc j) = zero-le
number_most [] [] (suc i) n p q zero = zero-le
number_most [] [] (suc i) n p q (suc j) = number_most [] [] i n p q j
number_most [] (y ∷ ys) (suc i) n p q zero = zero-le
number_most [] (y ∷ ys) (suc i) n p q (suc j) = number_most [] ys i n (within_nil ys) q j
number_most (x ∷ xs) ys zero n p q zero = q
number_most (x ∷ xs) ys zero n p q (suc j) = p (suc j)
number_most (x ∷ xs) [] (suc i) n p q zero = p zero
number_most (x ∷ xs) [] (suc i) n p q (suc j) = number_most xs [] i n (λ k. p (suc k)) q j
number_most (x ∷ xs) (y ∷ ys) (suc i) n p q zero = p zero
number_most (x ∷ xs) (y ∷ ys) (suc i) n p q (suc j) = number_most xs ys i n (λ k. p (suc k)) q j

pub greatest_most : (xs ys zs : List ℕ) → Within xs zs → Within ys zs → Within (greatest xs ys) zs
greatest_most [] ys zs p q i = q i
greatest_most (x ∷ xs) [] zs p q i = p i
greatest_most (x ∷ xs) (y ∷ ys) [] p q zero = let a = p zero in let b = q zero in omega arith
greatest_most (x ∷ xs) (y ∷ ys) [] p q (suc j) = greatest_most xs ys [] (λ k. p (suc k)) (λ k. q (suc k)) j
greatest_most (x ∷ xs) (y ∷ ys) (z ∷ zs) p q zero = let a = p zero in let b = q zero in omega arith
greatest_most (x ∷ xs) (y ∷ ys) (z ∷ zs) p q (suc j) = greatest_most xs ys zs (λ k. p (suc k)) (λ k. q (suc k)) j

pub greatest_left : (xs ys : List ℕ) → Within xs (greatest xs ys)
greatest_left [] ys i = zero-le
greatest_left (x ∷ xs) [] i = le_refl (slice_index (x ∷ xs) i)
greatest_left (x ∷ xs) (y ∷ ys) zero = omega arith
greatest_left (x ∷ xs) (y ∷ ys) (suc i) = greatest_left xs ys i

pub greatest_right : (xs ys : List ℕ) → Within ys (greatest xs ys)
greatest_right [] ys i = le_refl (slice_index ys i)
greatest_right (x ∷ xs) [] i = zero-le
greatest_right (x ∷ xs) (y ∷ ys) zero = omega arith
greatest_right (x ∷ xs) (y ∷ ys) (suc i) = greatest_right xs ys i

past_end : (xs : List ℕ) (i : ℕ) → ¬ (i < length xs) → slice_index xs i ≡ 0
past_end [] i out = refl
past_end (x ∷ xs) zero out = absurd (out (omega arith))
past_end (x ∷ xs) (suc i) out = past_end xs i (λ less. out (omega arith))

zeros_within : (xs : List ℕ) (n : ℕ) → length xs ≡ n → ((i : ℕ) → i < n → slice_index xs i ≡ 0) → (i : ℕ) → Dec (i < length xs) → slice_index xs i ≡ 0
zeros_within xs n long all i (yes less) = all i (omega (arith, long))
zeros_within xs n long all i (no out) = past_end xs i out

-- zeros at each place of the list, and so at every place
pub all_zeros : (xs : List ℕ) (n : ℕ) → length xs ≡ n → ((i : ℕ) → i < n → slice_index xs i ≡ 0) → (i : ℕ) → slice_index xs i ≡ 0
all_zeros xs n long all i = zeros_within xs n long all i (dec_lt i (length xs))

pub number_rises : (xs : List ℕ) (i n : ℕ) → slice_index xs i ≤ n → Within xs (with_number xs i n)
number_rises [] i n p j = zero-le
number_rises (x ∷ xs) zero n p zero = p
number_rises (x ∷ xs) zero n p (suc j) = le_refl (slice_index xs j)
number_rises (x ∷ xs) (suc i) n p zero = le_refl x
number_rises (x ∷ xs) (suc i) n p (suc j) = number_rises xs i n p j

-- a word that doesn't fall
pub word_rises : (ws : List ℕ) (i n : ℕ) → slice_index ws i ≤ n → Within ws (set ws i n)
word_rises [] i n p j = zero-le
word_rises (w ∷ ws) zero n p zero = p
word_rises (w ∷ ws) zero n p (suc j) = le_refl (slice_index ws j)
word_rises (w ∷ ws) (suc i) n p zero = le_refl w
word_rises (w ∷ ws) (suc i) n p (suc j) = word_rises ws i n p j

pub word_most : (ws : List ℕ) (i n : ℕ) (top : ℕ → ℕ) → ((j : ℕ) → slice_index ws j ≤ top j) → n ≤ top i → (j : ℕ) → slice_index (set ws i n) j ≤ top j
word_most [] i n top p q j = zero-le
word_most (w ∷ ws) zero n top p q zero = q
word_most (w ∷ ws) zero n top p q (suc j) = p (suc j)
word_most (w ∷ ws) (suc i) n top p q zero = p zero
word_most (w ∷ ws) (suc i) n top p q (suc j) = word_most ws i n (λ k. top (suc k)) (λ k. p (suc k)) q j

pub word_here : (ws : List ℕ) (i n : ℕ) → i < length ws → n ≤ slice_index (set ws i n) i
word_here [] i n less = absurd (omega arith)
word_here (w ∷ ws) zero n less = le_refl n
word_here (w ∷ ws) (suc i) n less = word_here ws i n (omega arith)

pub length_set : (ws : List ℕ) (i n : ℕ) → length (set ws i n) ≡ length ws
length_set [] i n = refl
length_set (w ∷ ws) zero n = refl
length_set (w ∷ ws) (suc i) n = ap suc (length_set ws i n)
