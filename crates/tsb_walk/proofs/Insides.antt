-- Readers that keep blocks of their disk alone.
use Rattle.std.proofs.Common.{◌≡◌, ◌∙◌, ◌∷◌, ◌-◌, ◌⊎◌, inl, inr, ℕ, ◌<◌, ◌≤◌, List, [], true, false, nat_eq, Contains, take, refl, sym, subst, ap}
use Rattle.std.proofs.lemmas.Bool.{cases_lt, eqb-true, eq-eqb, false≢true}
use Rattle.lru.proofs.Splits.{Contains-head, Contains-tail, Contains-cons, Contains-nil}
use Rattle.lru.proofs.CallerLemmas.{Contains-take}
use Rattle.disk_models.specs.declared.once.OnceDisk.{Ghosts}
use Rattle.once_store.specs.declared.reader.ShelfReader.{ShelfReader}
use Rattle.once_store.specs.Readers.{IsCached, kept_blocks, capacity_of, reader_disk, without}
use Rattle.tsb_walk.specs.Inside.{CachesInside}

-- a number is that of an entry, or of none
kept_or : (n : ℕ) (es : List (ℕ × List ℕ)) → ((block : List ℕ) × Contains es (n, block)) ⊎ ((block : List ℕ) → Contains es (n, block) → ⊥)
kept_or n [] = inr (λ block k. Contains-nil (n, block) k)
kept_or n (f ∷ es) = (elim (nat_eq n f.0) as (λ y. nat_eq n f.0 ≡ y → ((block : List ℕ) × Contains (f ∷ es) (n, block)) ⊎ ((block : List ℕ) → Contains (f ∷ es) (n, block) → ⊥)) [
  | true ↦ λ t. inl (f.1, subst (λ (k : ℕ). Contains (f ∷ es) (k, f.1)) (sym (eqb-true n f.0 t)) (Contains-head f es))
  | false ↦ λ t. elim (kept_or n es) [
    | inl there ↦ inl (there.0, Contains-tail f es (n, there.0) there.1)
    | inr none ↦ inr (λ block k. elim (Contains-cons f es (n, block) k) [
      | inl same ↦ false≢true (sym t ∙ eq-eqb n f.0 (sym (ap (λ (p : ℕ × List ℕ). p.0) same)))
      | inr d ↦ none block d
    ])
  ]
]) refl

-- what stays without a number was there
without_was : (n : ℕ) (es : List (ℕ × List ℕ)) (e : ℕ × List ℕ) → Contains (without n es) e → Contains es e
without_was n [] e k = k
without_was n (f ∷ es) e k = (elim (nat_eq n f.0) as (λ y. nat_eq n f.0 ≡ y → Contains (f ∷ es) e) [
  | true ↦ λ t. Contains-tail f es e (rw t at k)
  | false ↦ λ t. (let k' : Contains (f ∷ without n es) e = rw t at k in elim (Contains-cons f (without n es) e k') [
    | inl same ↦ subst (Contains (f ∷ es)) same (Contains-head f es)
    | inr d ↦ Contains-tail f es e (without_was n es e d)
  ])
]) refl

module _ {O Pen Seen : Type 0} (device : Ghosts O Pen Seen) (old new : ShelfReader O Pen Seen device) where
  -- so it is where each that is kept was kept before
  pub inside_fewer : reader_disk new ≡ reader_disk old → ((m : ℕ) (other : List ℕ) → IsCached new m other → IsCached old m other) → CachesInside device old → CachesInside device new
  inside_fewer disk fewer inside = λ m other k. subst (λ (d : O). m < device.block_count d) (sym disk) (inside m other (fewer m other k))

  -- and where a block was asked for, which isn't refused as beyond the disk
  pub inside_read : (n : ℕ) → reader_disk new ≡ reader_disk old
      → ((other : List ℕ) → IsCached old n other → (block : List ℕ) × (kept_blocks new ≡ (n, block) ∷ without n (kept_blocks old)))
      → (((block : List ℕ) → IsCached old n block → ⊥) → (block : List ℕ) × (kept_blocks new ≡ (n, block) ∷ take (capacity_of old - 1) (kept_blocks old)))
      → (device.block_count (reader_disk old) ≤ n → ((block : List ℕ) → IsCached old n block → ⊥) → ⊥)
      → CachesInside device old → CachesInside device new
  inside_read n disk first added beyond inside = λ m other k. subst (λ (d : O). m < device.block_count d) (sym disk) (by m other k (kept_or n (kept_blocks old)))
    where
      among : (es : List (ℕ × List ℕ)) (block : List ℕ) → ((e : ℕ × List ℕ) → Contains es e → Contains (kept_blocks old) e) → n < device.block_count (reader_disk old) → kept_blocks new ≡ (n, block) ∷ es
          → (m : ℕ) (other : List ℕ) → IsCached new m other → m < device.block_count (reader_disk old)
      among es block was here is m other k = elim (Contains-cons (n, block) es (m, other) (subst (λ (l : List (ℕ × List ℕ)). Contains l (m, other)) is k)) [
        | inl same ↦ subst (λ (p : ℕ × List ℕ). p.0 < device.block_count (reader_disk old)) same here
        | inr d ↦ inside m other (was (m, other) d)
      ]

      by : (m : ℕ) (other : List ℕ) → IsCached new m other → ((block : List ℕ) × IsCached old n block) ⊎ ((block : List ℕ) → IsCached old n block → ⊥) → m < device.block_count (reader_disk old)
      by m other k (inl there) = (let f = first there.0 there.1 in among (without n (kept_blocks old)) f.0 (without_was n (kept_blocks old)) (inside n there.0 there.1) f.1 m other k)
      by m other k (inr none) =
          let f = added none in
          let here : n < device.block_count (reader_disk old) = elim (cases_lt n (device.block_count (reader_disk old))) [ inl lt ↦ lt | inr ge ↦ absurd (beyond ge none) ] in
          among (take (capacity_of old - 1) (kept_blocks old)) f.0 (Contains-take (capacity_of old - 1) (kept_blocks old)) here f.1 m other k
