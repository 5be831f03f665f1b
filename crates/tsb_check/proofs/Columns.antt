-- What is returned of one column.
use Rattle.std.proofs.Common.{◌≡◌, ℕ, ◌+◌, ◌⊎◌, inl, inr, List, Option, ◌∙◌, ap, min}
use Rattle.tsb_node.specs.declared.decoded_column.DecodedColumn.{DecodedColumn}
use Rattle.version_model.specs.declared.part.Place.{Place}
use Rattle.tsb_walk.specs.declared.page_place.PagePlace.{PagePlace}
use Rattle.tsb_check.specs.Counted.{ReportsPast, MeetUnknown, MeetDamage}
use Rattle.tsb_check.specs.Pages.{past_of}
use Rattle.tsb_check.specs.inner.Columns.{HasCurrent, IsColumnAt, ReportsColumn, IsUnknownIn, IsDamagedIn}
use Rattle.tsb_check.proofs.Going.{reported_more}

module _ (shown : List (List ℕ)) (known : ℕ → Option (List ℕ)) (count : ℕ) (place : PagePlace) (decoded : DecodedColumn) (current : ℕ) where
  abbrev past : List Place
  past = past_of place decoded.parts.items decoded.current.start

  abbrev column_of : HasCurrent shown place decoded current → IsColumnAt shown place
  column_of has = record { parts = decoded.parts.items; start = decoded.current.start; current = decoded.current.page; represents_node = has.represents_node }

  lost_by : HasCurrent shown place decoded current → MeetUnknown known count past → IsUnknownIn shown known count place
  lost_by has never = record { column = column_of has; unknown = never }

  pub reports_column : (before n : ℕ) → HasCurrent shown place decoded current → n ≡ min (before + current) 18446744073709551615 → ReportsPast known count past before ⊎ MeetUnknown known count past
      → ReportsColumn shown known count place n ⊎ IsUnknownIn shown known count place
  reports_column before n has sum (inl reports) =
      inl (record {
        column = column_of has;
        versions = has.versions;
        leaf = has.leaf;
        past = reports.total;
        counted = reports.counted;
        is = sum ∙ ap (λ (x : ℕ). min (before + x) 18446744073709551615) has.is ∙ reported_more reports.total _ before reports.is;
      })
  reports_column before n has sum (inr never) = inr (lost_by has never)

  pub damaged_in : (block : ℕ) → HasCurrent shown place decoded current → MeetDamage known count past block ⊎ MeetUnknown known count past → IsDamagedIn shown known count place block ⊎ IsUnknownIn shown known count place
  damaged_in block has (inl damage) = inl (record { column = column_of has; damage = damage })
  damaged_in block has (inr never) = inr (lost_by has never)

  pub reads_in : (Reads : Type 0) → HasCurrent shown place decoded current → Reads ⊎ MeetUnknown known count past → Reads ⊎ IsUnknownIn shown known count place
  reads_in Reads has (inl on) = inl on
  reads_in Reads has (inr never) = inr (lost_by has never)
