-- A column's past after a time split, after a migration of its parts, and after a key split.
use Rattle.std.proofs.Common.{◌≡◌, ℕ, zero, suc, ◌<◌, ◌≤◌, ◌⊎◌, inl, inr, List, [], ◌∷◌, ◌++◌, Option, Some, slice_get, length, refl, sym, ◌∙◌, ap, arith}
use Rattle.std.proofs.lemmas.Option.{same_Some, none-some}
use Rattle.version_model.specs.declared.part.Part.{Part}
use Rattle.version_model.specs.declared.part.PartKind.TheVariants.{LeafBlock, ColumnBlock}
use Rattle.version_model.specs.Versions.{Version}
use Rattle.version_model.specs.Ranges.{Range}
use Rattle.version_model.specs.LeafVersions.{LeafRepresents}
use Rattle.version_model.specs.Blocks.{BlockNode, OldLeaf, OldColumn, PartRepresents, by_leaf, by_parts, IsPartOf, AreParts, range_at, start_or, Grows}
use Rattle.version_model.specs.Pages.{Keys, PartsRepresent, past_range}
use Rattle.version_model.proofs.api.Pushed.{get-push}
use Rattle.version_model.proofs.api.PastKept.{PartRepresents-grows}
use Rattle.version_model.proofs.api.TreeKept.{no_part}

-- the last part used to end where the new one starts
next_start : (parts : List Part) (p q : Part) (i at : ℕ) → slice_get parts i ≡ Some q → start_or at (slice_get (parts ++ p ∷ []) (suc i)) ≡ start_or p.start (slice_get parts (suc i))
next_start [] p q i at is = absurd (none-some q is)
next_start (z ∷ []) p q zero at is = refl
next_start (z ∷ y ∷ rest) p q zero at is = refl
next_start (z ∷ rest) p q (suc i) at is = next_start rest p q i at is

after_last : (parts : List Part) (p : Part) (at : ℕ) → start_or at (slice_get (parts ++ p ∷ []) (suc (length parts))) ≡ at
after_last [] p at = refl
after_last (z ∷ rest) p at = after_last rest p at

first_pushed : (parts : List Part) (p : Part) → (s : Part) × (slice_get (parts ++ p ∷ []) 0 ≡ Some s) × ((slice_get parts 0 ≡ Some s) ⊎ ((parts ≡ []) × (s ≡ p)))
first_pushed [] p = (p, refl, inr (refl, refl))
first_pushed (z ∷ rest) p = (z, refl, inl refl)

module _ (old old' : ℕ → Option BlockNode) (next next' : ℕ) (all : List Version) (keys : Keys) (start at block : ℕ) (parts : List Part) (versions : List Version)
    (grows : Grows old old') (forward : start < at) (new_block : next ≤ block) (in_next : block < next')
    (burnt : old' block ≡ Some (OldLeaf (record { low = keys.low; high = keys.high; start = start; end = at }) versions))
    (shows : LeafRepresents all (record { low = keys.low; high = keys.high; start = start; end = at }) versions)
    (past : PartsRepresent old next all keys start parts) where
  new_part : Part
  new_part = record { start = start; kind = LeafBlock; block = block }

  leaf_range : Range
  leaf_range = record { low = keys.low; high = keys.high; start = start; end = at }

  -- each part is an old one, or the new one with the leaf's stamps
  abbrev OldOrNew : Range → Part → Type 0
  OldOrNew s part = IsPartOf (past_range keys start) parts s part ⊎ ((part ≡ record { start = start; kind = LeafBlock; block = block }) × (s ≡ record { low = keys.low; high = keys.high; start = start; end = at }))

  old_or_new : (s : Range) (part : Part) → IsPartOf (past_range keys at) (parts ++ record { start = start; kind = LeafBlock; block = block } ∷ []) s part → OldOrNew s part
  old_or_new s part is =
      let p : Part = record { start = start; kind = LeafBlock; block = block } in
      elim (get-push parts p part is.place is.at) [
        | inl was ↦ inl (record { place = is.place; at = was.1; range = ap (λ e. record { low = keys.low; high = keys.high; start = part.start; end = e }) (sym (next_start parts p part is.place at was.1)) ∙ is.range })
        | inr fresh ↦ (let last : start_or at (slice_get (parts ++ p ∷ []) (suc is.place)) ≡ at = ap (λ i. start_or at (slice_get (parts ++ p ∷ []) (suc i))) fresh.0 ∙ after_last parts p at in
            let first : part.start ≡ start = ap (λ (x : Part). x.start) fresh.1 in
            inr (fresh.1, sym is.range ∙ ap (λ e. record { low = keys.low; high = keys.high; start = part.start; end = e }) last ∙ ap (λ b. record { low = keys.low; high = keys.high; start = b; end = at }) first))
      ]

  new_represents : PartRepresents old' all (record { low = keys.low; high = keys.high; start = start; end = at }) (record { start = start; kind = LeafBlock; block = block })
  new_represents = by_leaf _ _ (record { low = keys.low; high = keys.high; start = start; end = at }) versions refl burnt (record { low = omega arith; high = omega arith; start = refl; end = refl }) shows

  inside_old : (s : Range) (part : Part) → IsPartOf (past_range keys start) parts s part → (s.start < s.end) × (s.end ≤ at)
  inside_old s part is = elim past.are_parts [
    | inl none ↦ absurd (no_part parts part is.place none.0 is.at)
    | inr are ↦ (let h = are.inside s part is in (h.0, omega (arith, h.1)))
  ]

  inside_pushed : (s : Range) (part : Part) → OldOrNew s part → (s.start < s.end) × (s.end ≤ at)
  inside_pushed s part (inl was) = inside_old s part was
  inside_pushed s part (inr fresh) = (omega (arith, ap (λ (x : Range). x.start) fresh.1, ap (λ (x : Range). x.end) fresh.1), omega (arith, ap (λ (x : Range). x.end) fresh.1))

  lower_old : (part : Part) (i : ℕ) → slice_get parts i ≡ Some part → part.block < next'
  lower_old part i is = elim past.are_parts [
    | inl none ↦ absurd (no_part parts part i none.0 is)
    | inr are ↦ omega (arith, are.lower i part is)
  ]

  lower_pushed : (i : ℕ) (part : Part) → slice_get (parts ++ record { start = start; kind = LeafBlock; block = block } ∷ []) i ≡ Some part → part.block < next'
  lower_pushed i part is = elim (get-push parts (record { start = start; kind = LeafBlock; block = block }) part i is) [
    | inl was ↦ lower_old part i was.1
    | inr fresh ↦ omega (arith, ap (λ (x : Part). x.block) fresh.1)
  ]

  from_start_pushed : (s : Part) → (slice_get parts 0 ≡ Some s) ⊎ ((parts ≡ []) × (s ≡ record { start = start; kind = LeafBlock; block = block })) → s.start ≡ 0
  from_start_pushed s (inl was) = elim past.are_parts [
    | inl none ↦ absurd (no_part parts s 0 none.0 was)
    | inr are ↦ ap (λ (x : Part). x.start) (same_Some s are.first (sym was ∙ are.at_first)) ∙ are.from_start
  ]
  from_start_pushed s (inr fresh) = elim past.are_parts [
    | inl none ↦ ap (λ (x : Part). x.start) fresh.1 ∙ none.1
    | inr are ↦ absurd (no_part parts are.first 0 fresh.0 are.at_first)
  ]

  -- the leaf of a time split becomes the last part
  pub PartsRepresent-pushed : PartsRepresent old' next' all keys at (parts ++ record { start = start; kind = LeafBlock; block = block } ∷ [])
  PartsRepresent-pushed =
      let p : Part = record { start = start; kind = LeafBlock; block = block } in
      let first = first_pushed parts p in
      record {
        are_parts = inr (record {
          first = first.0;
          at_first = first.1;
          from_start = from_start_pushed first.0 first.2;
          lower = lower_pushed;
          inside = λ s part is. inside_pushed s part (old_or_new s part is);
        });
        stand = λ s part is. elim (old_or_new s part is) [
          | inl was ↦ PartRepresents-grows old old' all grows s part (past.stand s part was)
          | inr fresh ↦ rw (fresh.0, fresh.1) new_represents
        ];
      }

-- all parts of a column move into one block
module _ (old old' : ℕ → Option BlockNode) (next next' : ℕ) (all : List Version) (keys : Keys) (start block : ℕ) (parts : List Part)
    (grows : Grows old old') (some : 0 < start) (new_block : next ≤ block) (in_next : block < next')
    (burnt : old' block ≡ Some (OldColumn (past_range keys start) parts))
    (past : PartsRepresent old next all keys start parts) where
  moved_represents : AreParts (past_range keys start) parts next → PartRepresents old' all (past_range keys start) (record { start = 0; kind = ColumnBlock; block = block })
  moved_represents are = by_parts _ _ (past_range keys start) parts refl burnt (record { low = omega arith; high = omega arith; start = refl; end = refl })
      (record { first = are.first; at_first = are.at_first; from_start = are.from_start; lower = λ i part is. omega (arith, are.lower i part is); inside = are.inside })
      (λ s inner is. PartRepresents-grows old old' all grows s inner (past.stand s inner is))

  one : Part
  one = record { start = 0; kind = ColumnBlock; block = block }

  is_one : (i : ℕ) (part : Part) → slice_get (record { start = 0; kind = ColumnBlock; block = block } ∷ []) i ≡ Some part → (i ≡ 0) × (part ≡ record { start = 0; kind = ColumnBlock; block = block })
  is_one zero part is = (refl, sym (same_Some _ part is))
  is_one (suc i) part is = absurd (none-some part is)

  range_one : (s : Range) (part : Part) → IsPartOf (past_range keys start) (record { start = 0; kind = ColumnBlock; block = block } ∷ []) s part → s ≡ past_range keys start
  range_one s part is = (let h = is_one is.place part is.at in
      sym is.range ∙ ap (λ i. range_at (past_range keys start) (record { start = 0; kind = ColumnBlock; block = block } ∷ []) i part) h.0 ∙ ap (λ b. record { low = keys.low; high = keys.high; start = b; end = start }) (ap (λ (x : Part). x.start) h.1))

  pub PartsRepresent-moved : PartsRepresent old' next' all keys start (record { start = 0; kind = ColumnBlock; block = block } ∷ [])
  PartsRepresent-moved = record {
    are_parts = inr (record {
      first = record { start = 0; kind = ColumnBlock; block = block };
      at_first = refl;
      from_start = refl;
      lower = λ i part is. omega (arith, ap (λ (x : Part). x.block) (is_one i part is).1);
      inside = λ s part is. (let e = range_one s part is in (omega (arith, ap (λ (x : Range). x.start) e, ap (λ (x : Range). x.end) e), omega (arith, ap (λ (x : Range). x.end) e)));
    });
    stand = λ s part is. elim past.are_parts [
      | inl none ↦ absurd (omega (arith, none.1))
      | inr are ↦ rw ((is_one is.place part is.at).1, range_one s part is) (moved_represents are)
    ];
  }
