-- A write laid over a disk.
use Rattle.std.proofs.Common.{◌≡◌, ◌<◌, ◌≤◌, ◌⊎◌, inl, inr, ⊎_elim, ℕ, ◌+◌, ◌-◌, min, List, [], ◌∷◌, ◌++◌, length, get_or, refl, sym, ◌∙◌, arith}
use Rattle.std.proofs.lemmas.Bool.{cases_lt}
use Rattle.std.proofs.lemmas.Bool.Decides.{nat_tests}
use Rattle.disk_models.specs.Octets.{Within}
use Rattle.disk_memory.specs.Writing.{Writing}
use Rattle.disk_memory.specs.Replay.{written, all_written, IsWithinSome}

-- below the write all stays
pub written_low : (w : Writing) (f : ℕ → ℕ) (i : ℕ) → i < w.at → written w f i ≡ f i
unfolding written
written_low w f i h = grind (arith, nat_tests)

-- and above it
pub written_high : (w : Writing) (f : ℕ → ℕ) (i : ℕ) → w.at + min w.length (length w.octets) ≤ i → written w f i ≡ f i
unfolding written
written_high w f i h = grind (arith, nat_tests)

-- in it stand its octets
pub written_in : (w : Writing) (f : ℕ → ℕ) (i : ℕ) → w.at ≤ i → i < w.at + min w.length (length w.octets) → written w f i ≡ get_or w.octets (i - w.at) 0
unfolding written
written_in w f i low high = grind (arith, nat_tests)

-- outside its range all stays
pub written_out : (w : Writing) (f : ℕ → ℕ) (i : ℕ) → ¬ Within w.at w.length i → written w f i ≡ f i
written_out w f i out = ⊎_elim
    (λ (low : i < w.at). written_low w f i low)
    (λ (low : w.at ≤ i). ⊎_elim
    (λ (high : i < w.at + min w.length (length w.octets)). absurd (out (low, omega (arith, high))))
    (λ (high : w.at + min w.length (length w.octets) ≤ i). written_high w f i high)
    (cases_lt i (w.at + min w.length (length w.octets))))
    (cases_lt i w.at)

-- what stands at a place depends on nothing else of the disk below
pub written_agrees : (w : Writing) (f g : ℕ → ℕ) (i : ℕ) → f i ≡ g i → written w f i ≡ written w g i
written_agrees w f g i same = ⊎_elim
    (λ (low : i < w.at). written_low w f i low ∙ same ∙ sym (written_low w g i low))
    (λ (low : w.at ≤ i). ⊎_elim
    (λ (high : i < w.at + min w.length (length w.octets)). written_in w f i low high ∙ sym (written_in w g i low high))
    (λ (high : w.at + min w.length (length w.octets) ≤ i). written_high w f i high ∙ same ∙ sym (written_high w g i high))
    (cases_lt i (w.at + min w.length (length w.octets))))
    (cases_lt i w.at)

-- one write after others
pub all_written-append : (ws more : List Writing) (f : ℕ → ℕ) → all_written (ws ++ more) f ≡ all_written more (all_written ws f)
all_written-append [] more f = refl
all_written-append (w ∷ ws) more f = all_written-append ws more (written w f)

pub all_written_agree : (ws : List Writing) (f g : ℕ → ℕ) (i : ℕ) → f i ≡ g i → all_written ws f i ≡ all_written ws g i
all_written_agree [] f g i same = same
all_written_agree (w ∷ ws) f g i same = all_written_agree ws (written w f) (written w g) i (written_agrees w f g i same)

pub all_written_out : (ws : List Writing) (f : ℕ → ℕ) (i : ℕ) → ¬ IsWithinSome ws i → all_written ws f i ≡ f i
all_written_out [] f i out = refl
all_written_out (w ∷ ws) f i out =
    all_written_out ws (written w f) i (λ inn. out (inr inn)) ∙ written_out w f i (λ inn. out (inl inn))

-- a place in the range of one of them, or of one more
pub within_some-append : (ws : List Writing) (w : Writing) (i : ℕ) → IsWithinSome (ws ++ w ∷ []) i → IsWithinSome ws i ⊎ Within w.at w.length i
within_some-append [] w i inn = ⊎_elim (λ here. inr here) (λ none. absurd none) inn
within_some-append (v ∷ ws) w i inn = ⊎_elim (λ here. inl (inl here)) (λ later. ⊎_elim (λ some. inl (inr some)) (λ last. inr last) (within_some-append ws w i later)) inn

pub within_some_before : (ws : List Writing) (w : Writing) (i : ℕ) → IsWithinSome ws i → IsWithinSome (ws ++ w ∷ []) i
within_some_before [] w i inn = absurd inn
within_some_before (v ∷ ws) w i inn = ⊎_elim (λ here. inl here) (λ later. inr (within_some_before ws w i later)) inn

pub within_some_last : (ws : List Writing) (w : Writing) (i : ℕ) → Within w.at w.length i → IsWithinSome (ws ++ w ∷ []) i
within_some_last [] w i inn = inl inn
within_some_last (v ∷ ws) w i inn = inr (within_some_last ws w i inn)
