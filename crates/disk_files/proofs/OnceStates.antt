-- The states of a write-once disk over files, from one call to the next.
use Rattle.std.proofs.Common.{◌≡◌, ◌≢◌, ⊎_elim, ℕ, ◌*◌, ◌/◌, ◌==◌, ◌&&◌, ◌||◌, List, [], ◌∷◌, ◌++◌, Bool, true, false, not, None, Some, refl, sym, ◌∙◌, ap, subst, arith}
use Rattle.std.proofs.lemmas.Bool.{cases_eq, eq-eqb, ne_eqb}
use Rattle.disk_models.specs.Octets.{Within}
use Rattle.disk_models.specs.Once.{BurnsOnly, SettlesOnly}
use Rattle.disk_models.proofs.api.OctetLemmas.{octets_agree}
use Rattle.disk_files.specs.declared.state.PenState.{PenState}
use Rattle.disk_files.specs.declared.state.PenState.TheVariants.{Usable, Broken, FailedBurn, FailedSettle}
use Rattle.disk_files.specs.Burnt.{block_at, block_if, is_broken_state, is_listed, is_lost, is_marked, once_state_of}

-- a pen that isn't broken is usable
pub at_usable : (P : PenState → Type 0) (s : PenState) → is_broken_state s ≡ false → P Usable → P s
at_usable P Usable whole is = is
at_usable P Broken whole is = absurd cc
at_usable P (FailedBurn n) whole is = absurd cc
at_usable P FailedSettle whole is = absurd cc

-- a place of a block
place_in : (n i : ℕ) → Within (16384 * n) 16384 i → i / 16384 ≡ n
place_in n i w = omega (arith, w.0, w.1)

-- a block whose octets are what they were
same_block : (b0 b1 : ℕ → ℕ) (n : ℕ) → ((i : ℕ) → i / 16384 ≡ n → b1 i ≡ b0 i) → block_at b1 n ≡ block_at b0 n
same_block b0 b1 n same = octets_agree b1 b0 (16384 * n) 16384 (λ i w. same i (place_in n i w))

block_same_at : (t : Bool) (x1 x0 : List ℕ) → (t ≡ true → x1 ≡ x0) → block_if t x1 ≡ block_if t x0
block_same_at true x1 x0 same = ap (λ (x : List ℕ). block_if true x) (same refl)
block_same_at false x1 x0 same = refl

-- where the tests are the same, and so are the blocks if there are any
block_same : (t1 t0 : Bool) (x1 x0 : List ℕ) → t1 ≡ t0 → (t0 ≡ true → x1 ≡ x0) → block_if t1 x1 ≡ block_if t0 x0
block_same t1 t0 x1 x0 is same = ap (λ t. block_if t x1) is ∙ block_same_at t0 x1 x0 same

two_tests : (a1 a0 b1 b0 : Bool) → a1 ≡ a0 → b1 ≡ b0 → (a1 && not b1) ≡ (a0 && not b0)
two_tests a1 a0 b1 b0 p q = ap (λ a. a && not b1) p ∙ ap (λ b. a0 && not b) q

three_tests : (a1 a0 b1 b0 c1 c0 : Bool) → a1 ≡ a0 → b1 ≡ b0 → c1 ≡ c0 → (a1 && not b1 && not c1) ≡ (a0 && not b0 && not c0)
three_tests a1 a0 b1 b0 c1 c0 p q r = ap (λ a. a && not c1) (two_tests a1 a0 b1 b0 p q) ∙ ap (λ c. a0 && not b0 && not c) r

third_false : (a b c : Bool) → (a && not b && not c) ≡ true → c ≡ false
third_false a b false is = refl
third_false true true true is = absurd cc
third_false true false true is = absurd cc
third_false false b true is = absurd cc

last_none : (t c : Bool) (x : List ℕ) → c ≡ true → block_if (t && not c) x ≡ None
last_none true true x is = refl
last_none false true x is = refl
last_none t false x is = absurd cc

-- a block whose mark is what it was
marked_same : (m0 m1 : ℕ → ℕ) (i : ℕ) → m1 i ≡ m0 i → is_marked m1 i ≡ is_marked m0 i
marked_same m0 m1 i same = ap (λ x. not (x == 0)) same

-- one more that is listed
listed_here : (w : List ℕ) (n : ℕ) → is_listed (w ++ n ∷ []) n ≡ true
listed_here [] n = ap (λ t. t || false) (eq-eqb n n refl)
listed_here (m ∷ w) n = elim (m == n) as (λ t. (t || is_listed (w ++ n ∷ []) n) ≡ true) [ true ↦ refl | false ↦ listed_here w n ]

listed_other : (w : List ℕ) (n i : ℕ) → i ≢ n → is_listed (w ++ n ∷ []) i ≡ is_listed w i
listed_other [] n i ne = ap (λ t. t || false) (ne_eqb n i (λ same. ne (sym same)))
listed_other (m ∷ w) n i ne = ap (λ t. (m == i) || t) (listed_other w n i ne)

-- a burn of a blank block, done or failed: what the files read as, of each octet but the block's
module _ (n : ℕ) (m0 m1 b0 b1 : ℕ → ℕ) (w : List ℕ) (blank : is_marked m0 n ≡ false) (others : (i : ℕ) → i ≢ n → m1 i ≡ m0 i) (outside : (i : ℕ) → ¬ Within (16384 * n) 16384 i → b1 i ≡ b0 i) where
  other_block : (i : ℕ) → i ≢ n → block_at b1 i ≡ block_at b0 i
  other_block i ne = same_block b0 b1 i (λ k there. outside k (λ inside. ne (sym there ∙ place_in n k inside)))

  settled_here : (s : PenState) → (once_state_of m1 b1 (w ++ n ∷ []) s).settled n ≡ (once_state_of m0 b0 w Usable).settled n
  settled_here s =
      last_none (is_marked m1 n && not (is_lost s (w ++ n ∷ []) n)) (is_listed (w ++ n ∷ []) n) (block_at b1 n) (listed_here w n)
      ∙ sym (ap (λ a. block_if (a && not false && not (is_listed w n)) (block_at b0 n)) blank)

  pub burn_only : (s : PenState) → ((i : ℕ) → i ≢ n → is_lost s (w ++ n ∷ []) i ≡ false) → BurnsOnly n (once_state_of m0 b0 w Usable) (once_state_of m1 b1 (w ++ n ∷ []) s)
  burn_only s kept = record {
    tried = λ i ne. marked_same m0 m1 i (others i ne);
    burnt = λ i ne. block_same _ _ _ _ (two_tests (is_marked m1 i) (is_marked m0 i) (is_lost s (w ++ n ∷ []) i) false (marked_same m0 m1 i (others i ne)) (kept i ne)) (λ _. other_block i ne);
    settled = λ k. λ i. (⊎_elim
        (λ (e : i ≡ n). subst (λ j. (once_state_of m1 b1 (w ++ n ∷ []) s).settled j ≡ (once_state_of m0 b0 w Usable).settled j) (sym e) (settled_here s))
        (λ (ne : i ≢ n). block_same _ _ _ _
        (three_tests (is_marked m1 i) (is_marked m0 i) (is_lost s (w ++ n ∷ []) i) false (is_listed (w ++ n ∷ []) i) (is_listed w i) (marked_same m0 m1 i (others i ne)) (kept i ne) (listed_other w n i ne))
        (λ _. other_block i ne))
        (cases_eq i n)) k;
  }

-- nothing is lost by a burn but its own block
pub lost_other : (n : ℕ) (w : List ℕ) (i : ℕ) → i ≢ n → is_lost (FailedBurn n) w i ≡ false
lost_other n w i ne = ne_eqb n i (λ same. ne (sym same))

still_burnt : (a l : Bool) (x1 x0 y : List ℕ) → (l ≡ false → x1 ≡ x0) → block_if (a && not l) x1 ≡ Some y → block_if (a && not false) x0 ≡ Some y
still_burnt true true x1 x0 y same is = absurd cc
still_burnt true false x1 x0 y same is = sym (ap (λ (x : List ℕ). Some x) (same refl)) ∙ is
still_burnt false l x1 x0 y same is = is

still_settled : (a l : Bool) (x1 x0 y : List ℕ) → (l ≡ false → x1 ≡ x0) → block_if (a && not false && not l) x0 ≡ Some y → block_if (a && not l && not l) x1 ≡ Some y
still_settled true true x1 x0 y same is = absurd cc
still_settled true false x1 x0 y same is = ap (λ (x : List ℕ). Some x) (same refl) ∙ is
still_settled false l x1 x0 y same is = is

-- files of which the octets of the blocks are the same that weren't burnt since the last settle
module _ (b0 b1 : ℕ → ℕ) (w : List ℕ) (agree : (i : ℕ) → is_listed w (i / 16384) ≡ false → b1 i ≡ b0 i) where
  agree_at : (n : ℕ) → is_listed w n ≡ false → block_at b1 n ≡ block_at b0 n
  agree_at n unlisted = same_block b0 b1 n (λ i there. agree i (ap (λ k. is_listed w k) there ∙ unlisted))

  -- a settle that failed
  pub settle_failed : (m : ℕ → ℕ) → SettlesOnly (once_state_of m b0 w Usable) (once_state_of m b1 w FailedSettle)
  settle_failed m = record {
    tried = refl;
    burnt = λ n block is. still_burnt (is_marked m n) (is_listed w n) (block_at b1 n) (block_at b0 n) block (agree_at n) is;
    settled = λ n block is. still_settled (is_marked m n) (is_listed w n) (block_at b1 n) (block_at b0 n) block (agree_at n) is;
  }

  -- a reader, whose files they are
  pub known_settled : (m0 m1 : ℕ → ℕ) → ((i : ℕ) → m1 i ≡ m0 i) → (once_state_of m1 b1 w Usable).settled ≡ (once_state_of m0 b0 w Usable).settled
  known_settled m0 m1 same = λ k. λ n. block_same _ _ _ _
      (three_tests (is_marked m1 n) (is_marked m0 n) false false (is_listed w n) (is_listed w n) (marked_same m0 m1 n (same n)) refl refl)
      (λ is. agree_at n (third_false (is_marked m0 n) false (is_listed w n) is)) k
