-- A count of a tree goes on from place to place.
use Rattle.std.proofs.Common.{◌≡◌, ℕ, ◌+◌, ◌≤◌, ◌⊎◌, inl, inr, List, [], ◌∷◌, ◌++◌, Option, refl, sym, ◌∙◌, ap, subst, arith, min}
use Rattle.std.specs.List.{AllByRecursion}
use Rattle.disk_models.specs.declared.once.OnceDisk.{Ghosts}
use Rattle.once_store.specs.declared.reader.ShelfReader.{ShelfReader}
use Rattle.once_store.specs.Readers.{reader_disk}
use Rattle.version_model.specs.declared.child.Child.{Child}
use Rattle.version_model.specs.Counts.{count_in}
use Rattle.version_model.specs.Pages.{KeyNode, current_range}
use Rattle.tsb_walk.specs.declared.page_place.PagePlace.{PagePlace}
use Rattle.tsb_walk.specs.Shown.{RepresentsNode, keys_at}
use Rattle.tsb_walk.specs.Knowing.{ReadsWell}
use Rattle.tsb_check.specs.Counted.{reported}
use Rattle.tsb_check.specs.Pages.{AreCountedUnder, none_under, column_under, children_under, IsUnder, at_top, as_child, IsColumnUnder, IsBadUnder, no_key_node, no_column, no_leaf, IsUnknownUnder, IsDamagedUnder, ReportsTree, places_under}
use Rattle.tsb_check.specs.inner.GoingUnder.{CountsOnUnder, AreLeftBy, IsPlaceTaken, IsPlaceBad, IsPlaceDamaged, IsPlaceUnknown}
use Rattle.tsb_check.specs.inner.Columns.{IsColumnAt, ReportsColumn, IsBadColumn, bad_column, bad_leaf, IsUnknownIn, IsDamagedIn}
use Rattle.tsb_check.proofs.Stacks.{all_front, all_back, all_both, all_from}
use Rattle.tsb_check.proofs.Under.{under_both, under_apart}

-- numbers as a count returns them, added
pub reported_both : (t c n m : ℕ) → n ≡ reported t → m ≡ reported c → min (n + m) 18446744073709551615 ≡ reported (t + c)
reported_both t c n m is other = grind (arith, is, other)

-- a number as a count returns it stays so when nothing is added
as_reported : (t n : ℕ) → n ≡ reported t → min (n + 0) 18446744073709551615 ≡ n
as_reported t n is = grind (arith, is)

-- ---- which places are left

module _ (shown : List (List ℕ)) (places : List PagePlace) where
  abbrev pub AreUnder : List PagePlace → Type 0
  AreUnder left = AllByRecursion (IsUnder shown places) left

  pub under_first : (left : List PagePlace) → left ≡ places → AreUnder left
  under_first left same = subst AreUnder (sym same) (all_from (IsUnder shown places) places (λ p is. at_top p is))

  module _ (left rest : List PagePlace) (place : PagePlace) (apart : left ≡ rest ++ place ∷ []) (under : AreUnder left) where
    pub under_rest : AreUnder rest
    under_rest = all_front (IsUnder shown places) rest (place ∷ []) (subst AreUnder apart under)

    pub under_last : IsUnder shown places place
    under_last = (all_back (IsUnder shown places) rest (place ∷ []) (subst AreUnder apart under)).0

    pub under_children : (children : List Child) (left' : List PagePlace) → RepresentsNode shown place.page (KeyNode place.level (keys_at place) children) → left' ≡ rest ++ places_under place children → AreUnder left'
    under_children children left' represents_node pushed =
        subst AreUnder (sym pushed) (all_both (IsUnder shown places) rest (places_under place children) under_rest (all_from (IsUnder shown places) (places_under place children) (λ next one. as_child place next children under_last represents_node one)))

    column_of : place.level ≡ 1 → (c : IsColumnAt shown place) → IsColumnUnder shown places place c.parts c.start c.current
    column_of level c = record { under = under_last; lowest = level; represents_node = c.represents_node }

    pub bad_of : (page : ℕ) → place.level ≡ 1 → IsBadColumn shown place page → IsBadUnder shown places page
    bad_of _ level (bad_column never) = no_column place under_last level never
    bad_of _ level (bad_leaf c never) = no_leaf place c.parts c.start c.current (column_of level c) never

    module _ (known : ℕ → Option (List ℕ)) (count : ℕ) where
      pub unknown_of : place.level ≡ 1 → IsUnknownIn shown known count place → IsUnknownUnder shown known count places
      unknown_of level is = record { column = place; parts = is.column.parts; start = is.column.start; current = is.column.current; is = column_of level is.column; unknown = is.unknown }

      pub damaged_of : (block : ℕ) → place.level ≡ 1 → IsDamagedIn shown known count place block → IsDamagedUnder shown known count places block
      damaged_of block level is = record { column = place; parts = is.column.parts; start = is.column.start; current = is.column.current; is = column_of level is.column; damage = is.damage }

-- ---- what is counted

module _ (shown : List (List ℕ)) (known : ℕ → Option (List ℕ)) (count : ℕ) (places : List PagePlace) where
  pub counts_first : (left : List PagePlace) → left ≡ places → CountsOnUnder shown known count places left 0
  counts_first left same =
      let here : CountsOnUnder shown known count places places 0 = record { total = 0; is = refl; on = λ m c. (let e : m ≡ 0 + m = omega arith in subst (AreCountedUnder shown known count places) e c) } in
      subst (λ ps. CountsOnUnder shown known count places ps 0) (sym same) here

  module _ (left rest : List PagePlace) (place : PagePlace) (n : ℕ) (apart : left ≡ rest ++ place ∷ []) (counts : CountsOnUnder shown known count places left n) where
    on_as : (m k : ℕ) → AreCountedUnder shown known count rest m → AreCountedUnder shown known count (place ∷ []) k → AreCountedUnder shown known count places (counts.total + (m + k))
    on_as m k rests here = counts.on (m + k) (subst (λ ps. AreCountedUnder shown known count ps (m + k)) (sym apart) (under_both shown known count rest (place ∷ []) m k rests here))

    pub counts_column : (more n' : ℕ) → place.level ≡ 1 → ReportsColumn shown known count place more → n' ≡ min (n + more) 18446744073709551615 → CountsOnUnder shown known count places rest n'
    counts_column more n' level reports sum =
        let c = reports.past + count_in reports.versions (current_range (keys_at place) reports.column.start) in
        record {
          total = counts.total + c;
          is = sum ∙ reported_both counts.total c n more counts.is reports.is;
          on = λ m rests.
              let e : counts.total + (m + (c + 0)) ≡ counts.total + c + m = omega arith in
              subst (AreCountedUnder shown known count places) e
              (on_as m (c + 0) rests (column_under place [] reports.column.parts reports.column.start reports.column.current reports.versions reports.past 0 level reports.column.represents_node reports.leaf reports.counted none_under));
        }

    pub counts_children : (children : List Child) (left' : List PagePlace) → RepresentsNode shown place.page (KeyNode place.level (keys_at place) children) → left' ≡ rest ++ places_under place children → CountsOnUnder shown known count places left' n
    counts_children children left' represents_node pushed = record {
      total = counts.total;
      is = counts.is;
      on = λ m all.
          let two = under_apart shown known count left' m all rest (places_under place children) pushed in
          let e : counts.total + (two.front + (two.back + 0)) ≡ counts.total + m = omega (arith, two.is) in
          subst (AreCountedUnder shown known count places) e (on_as two.front (two.back + 0) two.counts_front (children_under place [] children two.back 0 represents_node two.counts_back none_under));
    }

  pub counts_last : (left : List PagePlace) (n : ℕ) → left ≡ [] → CountsOnUnder shown known count places left n → ReportsTree shown known count places n
  counts_last left n empty counts =
      let e : counts.total + 0 ≡ counts.total = omega arith in
      record { total = counts.total; counted = subst (AreCountedUnder shown known count places) e (counts.on 0 (subst (λ ps. AreCountedUnder shown known count ps 0) (sym empty) none_under)); is = counts.is }

-- ---- from place to place

module _ {O Pen Seen : Type 0} (device : Ghosts O Pen Seen) (shown : List (List ℕ)) (places : List PagePlace) (reader₀ : ShelfReader O Pen Seen device) (seen₀ : Seen) where
  abbrev K : ℕ → Option (List ℕ)
  K = device.known seen₀

  abbrev N : ℕ
  N = device.block_count (reader_disk reader₀)

  abbrev pub WentUnder : ShelfReader O Pen Seen device → Seen → List PagePlace → ℕ → Type 0
  WentUnder reader seen left n = ReadsWell device reader₀ seen₀ → (ReadsWell device reader seen × CountsOnUnder shown K N places left n) ⊎ IsUnknownUnder shown K N places

  module _ (reader : ShelfReader O Pen Seen device) (seen : Seen) (left rest : List PagePlace) (place : PagePlace) (n : ℕ) (same : device.honest_seen (reader_disk reader₀) seen₀ → device.known seen ≡ device.known seen₀)
      (disk : reader_disk reader ≡ reader_disk reader₀) (under : AreUnder shown places left) (went : WentUnder reader seen left n) (apart : left ≡ rest ++ place ∷ []) where
    -- what is so by what is known now was so by what was known
    back : (P : (ℕ → Option (List ℕ)) → ℕ → Type 0) → ReadsWell device reader₀ seen₀ → P (device.known seen) (device.block_count (reader_disk reader)) → P K N
    back P well is = subst (λ (d : O). P K (device.block_count d)) disk (subst (λ (f : ℕ → Option (List ℕ)). P f (device.block_count (reader_disk reader))) (same well.honest) is)

    lost_by : ReadsWell device reader₀ seen₀ → IsPlaceUnknown shown (device.known seen) (device.block_count (reader_disk reader)) place → IsUnknownUnder shown K N places
    lost_by well is = unknown_of shown places left rest place apart under K N is.0 (back (λ f m. IsUnknownIn shown f m place) well is.1)

    counts_by : (left' : List PagePlace) (more n' : ℕ) → IsPlaceTaken shown K N place rest left' more → n' ≡ min (n + more) 18446744073709551615 → CountsOnUnder shown K N places left n → CountsOnUnder shown K N places left' n'
    counts_by left' more n' (inl column) sum counts =
        subst (λ (ps : List PagePlace). CountsOnUnder shown K N places ps n') (sym column.2) (counts_column shown K N places left rest place n apart counts more n' column.0 column.1 sum)
    counts_by left' more n' (inr children) sum counts =
        let e : n' ≡ n = sum ∙ ap (λ (x : ℕ). min (n + x) 18446744073709551615) children.3 ∙ as_reported counts.total n counts.is in
        subst (CountsOnUnder shown K N places left') (sym e) (counts_children shown K N places left rest place n apart counts children.0 left' children.1 children.2)

    pub went_under : (reader' : ShelfReader O Pen Seen device) (seen' : Seen) (left' : List PagePlace) (more n' : ℕ)
        → (ReadsWell device reader seen → IsPlaceTaken shown (device.known seen) (device.block_count (reader_disk reader)) place rest left' more ⊎ IsPlaceUnknown shown (device.known seen) (device.block_count (reader_disk reader)) place)
        → (ReadsWell device reader seen → ReadsWell device reader' seen' ⊎ IsPlaceUnknown shown (device.known seen) (device.block_count (reader_disk reader)) place)
        → n' ≡ min (n + more) 18446744073709551615 → WentUnder reader' seen' left' n'
    went_under reader' seen' left' more n' taken reads sum = λ well. elim (went well) [
      | inl there ↦ elim (reads there.0) [
        | inl on ↦ elim (taken there.0) [
          | inl is ↦ inl (on, counts_by left' more n' (back (λ f m. IsPlaceTaken shown f m place rest left' more) well is) sum there.1)
          | inr never ↦ inr (lost_by well never)
        ]
        | inr never ↦ inr (lost_by well never)
      ]
      | inr lost ↦ inr lost
    ]

    pub under_by : (left' : List PagePlace) → AreLeftBy shown place rest left' → AreUnder shown places left'
    under_by left' (inl column) = subst (AreUnder shown places) (sym column.1) (under_rest shown places left rest place apart under)
    under_by left' (inr children) = under_children shown places left rest place apart under children.0 left' children.1 children.2

    pub bad_by : (page : ℕ) → IsPlaceBad shown place page → IsBadUnder shown places page
    bad_by page (inl column) = bad_of shown places left rest place apart under page column.0 column.1
    bad_by page (inr node) = subst (IsBadUnder shown places) node.1 (no_key_node place (under_last shown places left rest place apart under) node.0 node.2)

    pub damaged_by : (block : ℕ)
        → (ReadsWell device reader seen → IsPlaceDamaged shown (device.known seen) (device.block_count (reader_disk reader)) place block ⊎ IsPlaceUnknown shown (device.known seen) (device.block_count (reader_disk reader)) place)
        → ReadsWell device reader₀ seen₀ → IsDamagedUnder shown K N places block ⊎ IsUnknownUnder shown K N places
    damaged_by block damaged well = elim (went well) [
      | inl there ↦ elim (damaged there.0) [
        | inl is ↦ inl (damaged_of shown places left rest place apart under K N block is.0 (back (λ f m. IsDamagedIn shown f m place block) well is.1))
        | inr never ↦ inr (lost_by well never)
      ]
      | inr lost ↦ inr lost
    ]
