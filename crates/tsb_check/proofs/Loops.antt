-- A count of the past goes on from block to block.
use Rattle.std.proofs.Common.{◌≡◌, ℕ, ◌+◌, ◌<◌, ◌⊎◌, inl, inr, List, [], ◌∷◌, ◌++◌, Option, Some, None, refl, sym, ◌∙◌, ap, subst, min, arith}
use Rattle.std.proofs.lemmas.Bool.{cases_lt}
use Rattle.disk_models.specs.declared.once.OnceDisk.{Ghosts}
use Rattle.once_store.specs.declared.reader.ShelfReader.{ShelfReader}
use Rattle.once_store.specs.Readers.{reader_disk}
use Rattle.version_model.specs.declared.part.Place.{Place}
use Rattle.tsb_walk.specs.Knowing.{ReadsWell, IsKnown}
use Rattle.tsb_check.specs.declared.block.Reported.{Reported}
use Rattle.tsb_check.specs.declared.block.Reported.TheVariants.{Versions, Parts}
use Rattle.tsb_check.specs.Counted.{IsReached, IsSoundFor, MeetUnknown, MeetDamage}
use Rattle.tsb_check.specs.inner.Going.{GoesOn}
use Rattle.tsb_check.specs.inner.Reported.{IsReportedOf, GoesLower, IsTaken, weight}
use Rattle.tsb_check.proofs.Going.{goes_leaf, goes_column, reached_last}
use Rattle.tsb_check.proofs.Weights.{falls, ends}

-- a number is that of a known block, or not
known_or : (known : ℕ → Option (List ℕ)) (count n : ℕ) → ((octets : List ℕ) × IsKnown known count n octets) ⊎ ((octets : List ℕ) → IsKnown known count n octets → ⊥)
known_or known count n = elim (cases_lt n count) [
  | inl lt ↦ by_octets (known n) lt refl
  | inr ge ↦ inr (λ octets is. absurd (omega (arith, is.inside, ge)))
]
  where
    by_octets : (o : Option (List ℕ)) → n < count → known n ≡ o → ((octets : List ℕ) × IsKnown known count n octets) ⊎ ((octets : List ℕ) → IsKnown known count n octets → ⊥)
    by_octets None lt e = inr (λ octets is. absurd (let d : Some octets ≡ None = sym is.at ∙ e in cc))
    by_octets (Some octets) lt e = inl (octets, record { inside = lt; at = e })

pub goes_by : (known : ℕ → Option (List ℕ)) (count : ℕ) (places left rest left' : List Place) (place : Place) (n n' : ℕ) → left ≡ rest ++ place ∷ [] → GoesOn known count places left n
    → (octets : List ℕ) → IsKnown known count place.part.block octets → (reported : Reported) → IsReportedOf place octets reported → IsTaken place reported rest left' n n' → GoesOn known count places left' n'
goes_by known count places left rest left' place n n' apart goes octets is (Versions more) reported taken =
    let sum : n' ≡ min (n + _) 18446744073709551615 = taken.1 ∙ ap (λ (x : ℕ). min (n + x) 18446744073709551615) reported.2 in
    subst (λ (ps : List Place). GoesOn known count places ps n') (sym taken.0) (goes_leaf known count places left rest place n apart goes octets is reported.0 n' reported.1 sum)
goes_by known count places left rest left' place n n' apart goes octets is (Parts parts) reported taken =
    subst (GoesOn known count places left') (sym taken.1) (goes_column known count places left rest place n apart goes octets is parts.items left' reported.0 reported.1 taken.0)

pub falls_by : (place : Place) (reported : Reported) (left left' : List Place) (n n' : ℕ) → GoesLower place reported → IsTaken place reported left left' n n' → weight left' < weight (left ++ place ∷ [])
falls_by place (Versions more) left left' n n' lower taken = subst (λ (ps : List Place). weight ps < weight (left ++ place ∷ [])) (sym taken.0) (ends place left)
falls_by place (Parts parts) left left' n n' lower taken = subst (λ (ps : List Place). weight ps < weight (left ++ place ∷ [])) (sym taken.0) (falls place left place.bounds parts.items lower.0 lower.1)

module _ {O Pen Seen : Type 0} (device : Ghosts O Pen Seen) (places : List Place) (reader₀ : ShelfReader O Pen Seen device) (seen₀ : Seen) where
  abbrev pub Went : ShelfReader O Pen Seen device → Seen → List Place → ℕ → Type 0
  Went reader seen left n = ReadsWell device reader₀ seen₀
      → (ReadsWell device reader seen × GoesOn (device.known seen₀) (device.block_count (reader_disk reader₀)) places left n) ⊎ MeetUnknown (device.known seen₀) (device.block_count (reader_disk reader₀)) places

  module _ (reader : ShelfReader O Pen Seen device) (seen : Seen) (left rest : List Place) (place : Place) (n : ℕ) (same : device.honest_seen (reader_disk reader₀) seen₀ → device.known seen ≡ device.known seen₀)
      (disk : reader_disk reader ≡ reader_disk reader₀) (went : Went reader seen left n) (apart : left ≡ rest ++ place ∷ []) where
    along : ReadsWell device reader₀ seen₀ → (octets : List ℕ) → IsKnown (device.known seen₀) (device.block_count (reader_disk reader₀)) place.part.block octets → IsKnown (device.known seen) (device.block_count (reader_disk reader)) place.part.block octets
    along well octets is = record { inside = subst (λ (d : O). place.part.block < device.block_count d) (sym disk) is.inside; at = ap (λ (f : ℕ → Option (List ℕ)). f place.part.block) (same well.honest) ∙ is.at }

    abbrev pub Reads : ShelfReader O Pen Seen device → Seen → Type 0
    Reads reader' seen' = ReadsWell device reader seen → (octets : List ℕ) → IsKnown (device.known seen) (device.block_count (reader_disk reader)) place.part.block octets → ReadsWell device reader' seen'

    reached : GoesOn (device.known seen₀) (device.block_count (reader_disk reader₀)) places left n → IsReached (device.known seen₀) (device.block_count (reader_disk reader₀)) places place
    reached goes = reached_last (device.known seen₀) (device.block_count (reader_disk reader₀)) places left rest place n apart goes

    pub went_on : (reader' : ShelfReader O Pen Seen device) (seen' : Seen) (left' : List Place) (n' : ℕ) (reported : Reported)
        → (ReadsWell device reader seen → (octets : List ℕ) → IsKnown (device.known seen) (device.block_count (reader_disk reader)) place.part.block octets → IsReportedOf place octets reported)
        → Reads reader' seen' → IsTaken place reported rest left' n n' → Went reader' seen' left' n'
    went_on reader' seen' left' n' reported reports reads taken = λ well. elim (went well) [
      | inl there ↦ elim (known_or (device.known seen₀) (device.block_count (reader_disk reader₀)) place.part.block) [
        | inl k ↦ inl (
          reads there.0 k.0 (along well k.0 k.1),
          goes_by (device.known seen₀) (device.block_count (reader_disk reader₀)) places left rest left' place n n' apart there.1 k.0 k.1 reported (reports there.0 k.0 (along well k.0 k.1)) taken,
        )
        | inr never ↦ inr (record { place = place; reached = reached there.1; unknown = never })
      ]
      | inr lost ↦ inr lost
    ]

    pub reads_or : (reader' : ShelfReader O Pen Seen device) (seen' : Seen) → Reads reader' seen' → ReadsWell device reader₀ seen₀
        → ReadsWell device reader' seen' ⊎ MeetUnknown (device.known seen₀) (device.block_count (reader_disk reader₀)) places
    reads_or reader' seen' reads well = elim (went well) [
      | inl there ↦ elim (known_or (device.known seen₀) (device.block_count (reader_disk reader₀)) place.part.block) [
        | inl k ↦ inl (reads there.0 k.0 (along well k.0 k.1))
        | inr never ↦ inr (record { place = place; reached = reached there.1; unknown = never })
      ]
      | inr lost ↦ inr lost
    ]

    pub damaged_or : (block : ℕ) → block ≡ place.part.block
        → (ReadsWell device reader seen → (octets : List ℕ) → IsKnown (device.known seen) (device.block_count (reader_disk reader)) place.part.block octets → IsSoundFor place octets → ⊥)
        → ReadsWell device reader₀ seen₀ → MeetDamage (device.known seen₀) (device.block_count (reader_disk reader₀)) places block ⊎ MeetUnknown (device.known seen₀) (device.block_count (reader_disk reader₀)) places
    damaged_or block number unsound well = elim (went well) [
      | inl there ↦ inl (record { place = place; reached = reached there.1; is = sym number; unsound = λ octets is sound. unsound there.0 octets (along well octets is) sound })
      | inr lost ↦ inr lost
    ]
