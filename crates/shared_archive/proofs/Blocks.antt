-- Settled blocks as a list, and as what a look or a reader has.
use Rattle.std.proofs.Common.{◌≡◌, ◌∙◌, ◌↔◌, ◌<◌, ℕ, zero, suc, List, [], ◌∷◌, Option, Some, None, Contains, inl, inr, ⊎_elim, refl, sym, ap, subst, arith}
use Rattle.std.proofs.lemmas.Bool.{cases_lt}
use Rattle.std.proofs.lemmas.Option.{same_Some}
use Rattle.lru.proofs.Splits.{Contains-head, Contains-tail, Contains-cons, Contains-nil}
use Rattle.board.specs.Past.{IsBlock}
use Rattle.query_threads.specs.Looks.{IsSettled, AreTheSettled}

-- a block with its number, where there is one, before others
abbrev pub with_block : ℕ → Option (List ℕ) → List (ℕ × List ℕ) → List (ℕ × List ℕ)
with_block n None rest = rest
with_block n (Some octets) rest = (n, octets) ∷ rest

-- the blocks with numbers below this one
abbrev pub listed : ℕ → (ℕ → Option (List ℕ)) → List (ℕ × List ℕ)
listed zero settled = []
listed (suc n) settled = with_block n (settled n) (listed n settled)

-- the same with one block more
more : (m : ℕ) (settled : ℕ → Option (List ℕ)) → AreTheSettled m settled (listed m settled) → (n : ℕ) (octets : List ℕ) (o : Option (List ℕ)) → settled m ≡ o → IsBlock n octets (with_block m o (listed m settled)) ↔ IsSettled (suc m) settled n octets
more m settled fewer n octets None e = (
  λ b. (let s = (fewer n octets).0 b in let low = s.0 in (omega (arith, low), s.1)),
  λ s. (fewer n octets).1 (⊎_elim (λ (lt : n < m). lt) (λ ge. (let low = s.0 in let same : n ≡ m = omega (arith, low, ge) in let bad : Some octets ≡ None = sym s.1 ∙ ap settled same ∙ e in absurd cc)) (cases_lt n m), s.1),
)
more m settled fewer n octets (Some x) e = (
  λ b. elim b [
    | inl same ↦ (let number : m ≡ n = ap (λ (p : ℕ × List ℕ). p.0) same in let is : x ≡ octets = ap (λ (p : ℕ × List ℕ). p.1) same in (omega (arith, number), ap settled (sym number) ∙ e ∙ ap Some is))
    | inr rest ↦ (let s = (fewer n octets).0 rest in let low = s.0 in (omega (arith, low), s.1))
  ],
  λ s. ⊎_elim
      (λ (lt : n < m). inr ((fewer n octets).1 (lt, s.1)))
      (λ ge. (let low = s.0 in let same : n ≡ m = omega (arith, low, ge) in let is : Some octets ≡ Some x = sym s.1 ∙ ap settled same ∙ e in inl (subst (λ (k : ℕ). ◌≡◌ {A = ℕ × List ℕ} (m, x) (k, octets)) (sym same) (ap (λ (o : List ℕ). (m, o)) (sym (same_Some octets x is))))))
      (cases_lt n m),
)

-- exactly the blocks that are settled below a number are listed
pub listed_are : (count : ℕ) (settled : ℕ → Option (List ℕ)) → AreTheSettled count settled (listed count settled)
listed_are zero settled n octets = ((λ b. absurd b), (λ s. let low = s.0 in absurd (omega (arith, low))))
listed_are (suc m) settled n octets = more m settled (listed_are m settled) n octets (settled m) refl

-- a block of a list is an entry of it
pub entry_of : (blocks : List (ℕ × List ℕ)) (n : ℕ) (octets : List ℕ) → IsBlock n octets blocks → Contains blocks (n, octets)
entry_of [] n octets b = absurd b
entry_of (f ∷ blocks) n octets (inl same) = subst (Contains (f ∷ blocks)) same (Contains-head f blocks)
entry_of (f ∷ blocks) n octets (inr rest) = Contains-tail f blocks (n, octets) (entry_of blocks n octets rest)

-- and the other way round
pub block_of : (blocks : List (ℕ × List ℕ)) (n : ℕ) (octets : List ℕ) → Contains blocks (n, octets) → IsBlock n octets blocks
block_of [] n octets k = absurd (Contains-nil (n, octets) k)
block_of (f ∷ blocks) n octets k = elim (Contains-cons f blocks (n, octets) k) [
  | inl same ↦ inl same
  | inr rest ↦ inr (block_of blocks n octets rest)
]

-- nothing is there
pub none_there : (blocks : List (ℕ × List ℕ)) → ((n : ℕ) (octets : List ℕ) → Contains blocks (n, octets) → ⊥) → blocks ≡ []
none_there [] none = refl
none_there (f ∷ blocks) none = absurd (none f.0 f.1 (Contains-head f blocks))
