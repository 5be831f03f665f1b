-- What nodes represent in moments follows from what they represent in their unit.
use Rattle.std.proofs.Common.{◌≡◌, ℕ, zero, suc, ◌+◌, ◌^◌, ◌<◌, ◌≤◌, ◌↔◌, ◌⊎◌, inl, inr, List, [], ◌∷◌, ◌++◌, length, map, take, drop, slice_get, slice_set, slice_index, Option, Some, None, IsSome, refl, sym, ap, subst, ◌∙◌, arith}
use Rattle.std.specs.List.{AllByRecursion}
use Rattle.std.specs.Option.{option_map, IfSome}
use Rattle.std.specs.declared.result.Result.{Result}
use Rattle.std.specs.declared.result.Result.TheVariants.{Ok, Err}
use Rattle.std.specs.Result.{MatchResult}
use Rattle.std.proofs.lemmas.Bool.{cases_lt}
use Rattle.std.proofs.lemmas.List.{length-map, length-append}
use Rattle.std.proofs.lemmas.Option.{slice_get-map, same_Some, none-some}
use Rattle.route_model.specs.Units.{moments_in}
use Rattle.route_model.proofs.api.Units.{one_unit, some}
use Rattle.version_model.specs.declared.bounds.Bounds.{Bounds}
use Rattle.version_model.specs.declared.part.Part.{Part}
use Rattle.version_model.specs.Versions.{Version, AsOf, Answers, found_at, IsRising}
use Rattle.version_model.specs.Looks.{IsLeastLive}
use Rattle.version_model.specs.Blocks.{start_or}
use Rattle.tsb_node.specs.declared.header.Header.{Header}
use Rattle.tsb_node.specs.declared.column.Spot.{Spot}
use Rattle.tsb_node.specs.declared.column.Spot.TheVariants.{InPage, InBlock}
use Rattle.tsb_node.specs.declared.column.PartAt.{PartAt}
use Rattle.tsb_node.specs.Nodes.{IsBounds}
use Rattle.tsb_node.specs.Scaling.{scaled, scaled_bounds, scaled_version, IsKnownUnit, IsInMoments}
use Rattle.tsb_node.specs.Leaves.{LeafNode, IsLeaf, IsVersionOf, BeginsAsLeaf, BeginsAsWrittenLeaf, scaled_leaf, entry, entries}
use Rattle.tsb_node.specs.Columns.{ColumnInPage, ColumnInBlock, IsColumn, IsOldColumn, IsPartEntry, AreAscending, BeginsAt, starts_of, scaled_part, scaled_column, scaled_old_column}
use Rattle.tsb_node.specs.Parts.{IsSpot, IsPartAt}
use Rattle.tsb_node.specs.inner.Fresh.{StampFits}
use Rattle.tsb_node.specs.inner.Spots.{SpotFits, PartFits, scaled_spot, scaled_part_at}
use Rattle.tsb_node.specs.inner.NodeReading.{BeginsAsNode}
use Rattle.tsb_node.proofs.Entries.{entry-size}
use Rattle.tsb_node.proofs.HeaderLaws.{has_represents}
use Rattle.tsb_node.proofs.NodeLaws.{begun_header}
use Rattle.tsb_node.proofs.LeafReading.{leaf_begun}
use Rattle.tsb_node.proofs.ScalingLaws.{scaled_rises, scaled_stays, scaled_zero, scaled_one}

-- ---- units

-- the unit that octets name stands in the second of them
pub unit_begun : (h : Header) (es octets : List ℕ) → BeginsAsNode h es octets → slice_index octets 1 ≡ h.unit
unit_begun h es octets is = (has_represents h octets (begun_header h es octets is)).unit_is

pub leaf_unit : (leaf : LeafNode) (octets : List ℕ) → (is : BeginsAsWrittenLeaf leaf octets) → slice_index octets 1 ≡ is.unit
leaf_unit leaf octets is = unit_begun _ (entries leaf.versions) octets (leaf_begun leaf octets is)

abbrev pub known_at : (m n : ℕ) → m ≡ n → IsKnownUnit m → IsKnownUnit n
known_at m n e known = record { unit = known.unit; is_unit = known.is_unit; numbered = sym e ∙ known.numbered }

pub same_moments : (m n : ℕ) → m ≡ n → (p : IsKnownUnit m) (q : IsKnownUnit n) → moments_in p.unit ≡ moments_in q.unit
same_moments m n e p q = ap moments_in (one_unit p.unit q.unit (sym p.numbered ∙ e ∙ q.numbered))

-- one node as it was written is one in moments
pub same_in_moments : {X : Type 0} (scale : ℕ → X → X) (m n : ℕ) (v w a b : X) → m ≡ n → v ≡ w → IsInMoments scale m v a → IsInMoments scale n w b → a ≡ b
same_in_moments scale m n v w a b e same p q =
    p.scaled_is ∙ ap (λ k. scale k v) (same_moments m n e p.known q.known) ∙ ap (scale (moments_in q.known.unit)) same ∙ sym q.scaled_is

pub as_scaled : {X : Type 0} (scale : ℕ → X → X) (number k : ℕ) (as_written node : X) → (is : IsInMoments scale number as_written node) → k ≡ moments_in is.known.unit → node ≡ scale k as_written
as_scaled scale number k as_written node is e = is.scaled_is ∙ ap (λ n. scale n as_written) (sym e)

-- ---- lists

pub map_at : {X Y : Type 0} (f : X → Y) (xs : List X) (i : ℕ) (x : X) → slice_get xs i ≡ Some x → slice_get (map f xs) i ≡ Some (f x)
map_at f xs i x e = slice_get-map f xs i ∙ ap (option_map f) e

pub mapped_at : {X Y : Type 0} (f : X → Y) (xs : List X) (i : ℕ) (y : Y) → slice_get (map f xs) i ≡ Some y → (x : X) × (slice_get xs i ≡ Some x) × (y ≡ f x)
mapped_at f [] i y e = absurd (none-some y e)
mapped_at f (x ∷ xs) zero y e = (x, refl, sym (same_Some (f x) y e))
mapped_at f (x ∷ xs) (suc i) y e = mapped_at f xs i y e

-- P of one of a list
pub all_get : {X : Type 0} (P : X → Type 0) (xs : List X) (i : ℕ) (x : X) → AllByRecursion P xs → slice_get xs i ≡ Some x → P x
all_get P [] i x all e = absurd (none-some x e)
all_get P (y ∷ xs) zero x all e = subst P (same_Some y x e) all.0
all_get P (y ∷ xs) (suc i) x all e = all_get P xs i x all.1 e

-- the next of a list that is replaced place by place
pub set_next : {X : Type 0} (f : X → X) (xs : List X) (i : ℕ) → i < length xs
    → (x : X) × (slice_get (map f (take i xs) ++ drop i xs) i ≡ Some x) × (slice_get xs i ≡ Some x) × ((y : X) → y ≡ f x → slice_set (map f (take i xs) ++ drop i xs) i y ≡ map f (take (i + 1) xs) ++ drop (i + 1) xs)
set_next f [] i lt = absurd (omega arith)
set_next f (x ∷ xs) zero lt = (x, refl, refl, λ y e. ap (λ z. z ∷ xs) e)
set_next f (x ∷ xs) (suc i) lt =
    let r = set_next f xs i (omega arith) in
    let more : suc (i + 1) ≡ suc i + 1 = omega arith in
    (r.0, r.1, r.2, λ y e. ap (λ t. f x ∷ t) (r.3 y e) ∙ ap (λ (n : ℕ). map f (take n (x ∷ xs)) ++ drop n (x ∷ xs)) more)

pub all_mapped : {X Y : Type 0} (f : X → Y) (P : Y → Type 0) (xs : List X) → AllByRecursion (λ x. P (f x)) xs → AllByRecursion P (map f xs)
all_mapped f P [] all = tt
all_mapped f P (x ∷ xs) all = (all.0, all_mapped f P xs all.1)

pub all_unmapped : {X Y : Type 0} (f : X → Y) (P : Y → Type 0) (xs : List X) → AllByRecursion P (map f xs) → AllByRecursion (λ x. P (f x)) xs
all_unmapped f P [] all = tt
all_unmapped f P (x ∷ xs) all = (all.0, all_unmapped f P xs all.1)

pub all_also : {X : Type 0} (P Q : X → Type 0) (xs : List X) → ((x : X) → P x → Q x) → AllByRecursion P xs → AllByRecursion Q xs
all_also P Q [] f all = tt
all_also P Q (x ∷ xs) f all = (f x all.0, all_also P Q xs f all.1)

pub some_unmapped : (f : ℕ → ℕ) (o : Option ℕ) → IsSome (option_map f o) → IsSome o
some_unmapped f None is = is
some_unmapped f (Some n) is = refl

pub some_mapped : (f : ℕ → ℕ) (o : Option ℕ) → IsSome o → IsSome (option_map f o)
some_mapped f None is = is
some_mapped f (Some n) is = refl

pub match_map : {X E : Type 0} (r : Result X E) (P Q : X → Type 0) → ((x : X) → P x → Q x) → MatchResult r P (λ e. ⊥) → MatchResult r Q (λ e. ⊥)
match_map (Ok x) P Q f p = f x p
match_map (Err e) P Q f p = p

pub option_mapped : (f : ℕ → ℕ) (o : Option ℕ) (y : ℕ) → option_map f o ≡ Some y → (x : ℕ) × (o ≡ Some x) × (y ≡ f x)
option_mapped f None y e = absurd (none-some y e)
option_mapped f (Some x) y e = (x, refl, sym (same_Some (f x) y e))

get_cases : {X : Type 0} (o : Option X) → (o ≡ None) ⊎ ((x : X) × (o ≡ Some x))
get_cases None = inl refl
get_cases (Some x) = inr (x, refl)

-- ---- where a unit is one moment

pub version_same : (k : ℕ) (v : Version) → k ≡ 1 → scaled_version k v ≡ v
version_same k v e = let stamp = ap (λ (n : ℕ). scaled n v.stamp) e ∙ scaled_one v.stamp in λ i. record { key = v.key; stamp = stamp i; value = v.value }

pub parts_same : (k : ℕ) (ps : List Part) → k ≡ 1 → map (scaled_part k) ps ≡ ps
parts_same k [] e = refl
parts_same k (p ∷ ps) e = let start = ap (λ (n : ℕ). scaled n p.start) e ∙ scaled_one p.start in λ i. record { start = start i; kind = p.kind; block = p.block } ∷ parts_same k ps e i

pub all_fit : (k : ℕ) (b : Bounds) (vs : List Version) → k ≡ 1 → AllByRecursion (IsVersionOf b) vs → AllByRecursion (StampFits k) vs
all_fit k b [] e all = tt
all_fit k b (v ∷ vs) e all = (omega (arith, ap (λ (n : ℕ). scaled n v.stamp) e, scaled_one v.stamp, all.0.stamp), all_fit k b vs e all.1)

-- ---- versions

pub asof_up : (k key s fl : ℕ) (vs : List Version) (v : Version) → 1 ≤ k → ((r : ℕ) → scaled k r ≤ s ↔ r ≤ fl) → AsOf vs key fl v → AsOf (map (scaled_version k) vs) key s (scaled_version k v)
asof_up k key s fl vs v some floor is = record {
  has = record { place = is.has.place; is = map_at (scaled_version k) vs is.has.place v is.has.is };
  of_key = is.of_key;
  not_after = (floor v.stamp).1 is.not_after;
  greatest = λ w has of before.
      (let m = mapped_at (scaled_version k) vs has.place w has.is in
      let stamp : w.stamp ≡ scaled k m.0.stamp = ap (λ (x : Version). x.stamp) m.2 in
      let low : m.0.stamp ≤ fl = (floor m.0.stamp).0 (omega (arith, before, stamp)) in
      let le : m.0.stamp ≤ v.stamp = is.greatest m.0 (record { place = has.place; is = m.1 }) (sym (ap (λ (x : Version). x.key) m.2) ∙ of) low in
      let up = scaled_stays k m.0.stamp v.stamp some le in
      omega (arith, up, stamp));
}

pub asof_down : (k key s fl : ℕ) (vs : List Version) (w : Version) → 1 ≤ k → ((r : ℕ) → scaled k r ≤ s ↔ r ≤ fl) → AsOf (map (scaled_version k) vs) key s w → (v : Version) × (w ≡ scaled_version k v) × AsOf vs key fl v
asof_down k key s fl vs w some floor is =
    let m = mapped_at (scaled_version k) vs is.has.place w is.has.is in
    let stamp : w.stamp ≡ scaled k m.0.stamp = ap (λ (x : Version). x.stamp) m.2 in (
      m.0,
      m.2,
      record {
        has = record { place = is.has.place; is = m.1 };
        of_key = sym (ap (λ (x : Version). x.key) m.2) ∙ is.of_key;
        not_after = (floor m.0.stamp).0 (omega (arith, is.not_after, stamp));
        greatest = λ u has of before. elim (cases_lt m.0.stamp u.stamp) [
          | inl lt ↦ absurd (
              let top = is.greatest (scaled_version k u) (record { place = has.place; is = map_at (scaled_version k) vs has.place u has.is }) of ((floor u.stamp).1 before) in
              let up = scaled_rises k m.0.stamp u.stamp some lt in
              omega (arith, top, up, stamp))
          | inr ge ↦ ge
        ];
      },
    )

none_up : (k key s fl : ℕ) (vs : List Version) → 1 ≤ k → ((r : ℕ) → scaled k r ≤ s ↔ r ≤ fl) → Answers vs key fl None → Answers (map (scaled_version k) vs) key s None
none_up k key s fl vs some floor none = λ w is. (let d = asof_down k key s fl vs w some floor is in ap (λ (x : Version). x.value) d.1 ∙ none d.0 d.2)

pub least_up : (k s fl from : ℕ) (vs : List Version) (o : Option ℕ) → 1 ≤ k → ((r : ℕ) → scaled k r ≤ s ↔ r ≤ fl) → IsLeastLive vs fl from o → IsLeastLive (map (scaled_version k) vs) s from o
least_up k s fl from vs None some floor is = λ key le. none_up k key s fl vs some floor (is key le)
least_up k s fl from vs (Some least) some floor is = (
  is.0,
  (found_at (scaled k is.1.0.stamp) is.1.0.value, asof_up k least s fl vs _ some floor is.1.1),
  λ key le lt. none_up k key s fl vs some floor (is.2 key le lt),
)

-- ---- leaves

pub leaf_is : (leaf : LeafNode) (octets : List ℕ) (k : ℕ) → (is : BeginsAsLeaf leaf octets) → k ≡ moments_in is.moments.known.unit → leaf ≡ scaled_leaf k is.as_written
leaf_is leaf octets k is e = as_scaled scaled_leaf is.begins.unit k is.as_written leaf is.moments e

pub known_leaf : (leaf : LeafNode) (octets : List ℕ) → (is : BeginsAsLeaf leaf octets) → is.begins.unit ≡ slice_index octets 1
known_leaf leaf octets is = sym (leaf_unit is.as_written octets is.begins)

pub stamps_fit : (k : ℕ) (b : Bounds) (vs : List Version) → AllByRecursion (IsVersionOf b) (map (scaled_version k) vs) → AllByRecursion (StampFits k) vs
stamps_fit k b [] all = tt
stamps_fit k b (v ∷ vs) all = (all.0.stamp, stamps_fit k b vs all.1)

entries_scaled : (k : ℕ) (vs : List Version) → length (entries (map (scaled_version k) vs)) ≡ length (entries vs)
unfolding entries
entries_scaled k [] = refl
entries_scaled k (v ∷ vs) =
    omega (arith, entries_scaled k vs, entry-size v, entry-size (scaled_version k v), length-append (entry v) (entries vs), length-append (entry (scaled_version k v)) (entries (map (scaled_version k) vs)))

each_scaled : (k : ℕ) (b : Bounds) (vs : List Version) → AllByRecursion (IsVersionOf b) vs → AllByRecursion (StampFits k) vs → AllByRecursion (IsVersionOf (scaled_bounds k b)) (map (scaled_version k) vs)
each_scaled k b [] all fit = tt
each_scaled k b (v ∷ vs) all fit = (
  record { short = record { low = all.0.short.low; high = all.0.short.high; size = all.0.short.size }; key = all.0.key; stamp = fit.0; octets = all.0.octets },
  each_scaled k b vs all.1 fit.1,
)

rising_scaled : (k : ℕ) (vs : List Version) → 1 ≤ k → IsRising vs → IsRising (map (scaled_version k) vs)
rising_scaled k vs some rising = record {
  rises = λ i j v w lt at_i at_j.
      (let m = mapped_at (scaled_version k) vs i v at_i in
      let n = mapped_at (scaled_version k) vs j w at_j in
      let up = scaled_rises k m.0.stamp n.0.stamp some (rising.rises i j m.0 n.0 lt m.1 n.1) in
      omega (arith, up, ap (λ (x : Version). x.stamp) m.2, ap (λ (x : Version). x.stamp) n.2));
}

pub leaf_scaled : (k : ℕ) (leaf : LeafNode) → 1 ≤ k → IsLeaf leaf → IsBounds (scaled_bounds k leaf.bounds) → AllByRecursion (StampFits k) leaf.versions → IsLeaf (scaled_leaf k leaf)
leaf_scaled k leaf some valid bounds fit = record {
  bounds = bounds;
  each = each_scaled k leaf.bounds leaf.versions valid.each fit;
  rising = rising_scaled k leaf.versions some valid.rising;
  fits = omega (arith, entries_scaled k leaf.versions, valid.fits);
}

-- ---- columns

starts_scaled : (k : ℕ) (ps : List Part) → starts_of (map (scaled_part k) ps) ≡ map (scaled k) (starts_of ps)
starts_scaled k [] = refl
starts_scaled k (p ∷ ps) = ap (λ (l : List ℕ). scaled k p.start ∷ l) (starts_scaled k ps)

below_scaled : (k n : ℕ) (ns : List ℕ) → 1 ≤ k → AllByRecursion (λ later. n < later) ns → AllByRecursion (λ later. scaled k n < later) (map (scaled k) ns)
below_scaled k n [] some all = tt
below_scaled k n (m ∷ ns) some all = (scaled_rises k n m some all.0, below_scaled k n ns some all.1)

ascending_scaled : (k : ℕ) (ns : List ℕ) → 1 ≤ k → AreAscending ns → AreAscending (map (scaled k) ns)
ascending_scaled k [] some up = tt
ascending_scaled k (n ∷ ns) some up = (below_scaled k n ns some up.0, ascending_scaled k ns some up.1)

begins_scaled : (k start : ℕ) (ns : List ℕ) → BeginsAt start ns → BeginsAt (scaled k start) (map (scaled k) ns)
begins_scaled k start [] b = b
begins_scaled k start (n ∷ ns) b = ap (scaled k) b

append_scaled : (k start : ℕ) (ps : List Part) → starts_of (map (scaled_part k) ps) ++ scaled k start ∷ [] ≡ map (scaled k) (starts_of ps ++ start ∷ [])
append_scaled k start [] = refl
append_scaled k start (p ∷ ps) = ap (λ (l : List ℕ). scaled k p.start ∷ l) (append_scaled k start ps)

-- parts that start before a stamp that fits do too
pub parts_fit : (k end : ℕ) (ps : List Part) → 1 ≤ k → scaled k end < 256 ^ 16 → AllByRecursion (λ p. p.start < end) ps → AllByRecursion (λ p. scaled k p.start < 256 ^ 16) ps
parts_fit k end [] some fits all = tt
parts_fit k end (p ∷ ps) some fits all = (let up = scaled_rises k p.start end some all.0 in omega (arith, up, fits), parts_fit k end ps some fits all.1)

parts_scaled : (k : ℕ) (ps : List Part) → AllByRecursion IsPartEntry ps → AllByRecursion (λ p. scaled k p.start < 256 ^ 16) ps → AllByRecursion IsPartEntry (map (scaled_part k) ps)
parts_scaled k [] each fit = tt
parts_scaled k (p ∷ ps) each fit = (record { start = fit.0; block = each.0.block }, parts_scaled k ps each.1 fit.1)

pub column_scaled : (k : ℕ) (c : ColumnInPage) → 1 ≤ k → IsColumn c → IsBounds (scaled_bounds k c.bounds) → scaled k c.current.start < 256 ^ 16 → AllByRecursion (λ p. scaled k p.start < 256 ^ 16) c.parts → IsColumn (scaled_column k c)
column_scaled k c some valid bounds fits fit = record {
  bounds = bounds;
  each = parts_scaled k c.parts valid.each fit;
  current_start = fits;
  current_page = valid.current_page;
  follow = record {
    from_first = ap (scaled k) valid.follow.from_first ∙ scaled_zero k;
    first = subst (BeginsAt (scaled k c.bounds.start)) (sym (append_scaled k c.current.start c.parts)) (begins_scaled k c.bounds.start _ valid.follow.first);
    rising = subst AreAscending (sym (append_scaled k c.current.start c.parts)) (ascending_scaled k _ some valid.follow.rising);
    fits = omega (arith, length-map c.parts (scaled_part k), valid.follow.fits);
  };
}

ends_scaled : (k : ℕ) (end : Option ℕ) (ps : List Part) → 1 ≤ k → IfSome end (λ at. AllByRecursion (λ p. p.start < at) ps) → IfSome (option_map (scaled k) end) (λ at. AllByRecursion (λ p. p.start < at) (map (scaled_part k) ps))
ends_scaled k None ps some all = tt
ends_scaled k (Some at) ps some all = each ps all
  where
    each : (qs : List Part) → AllByRecursion (λ p. p.start < at) qs → AllByRecursion (λ p. p.start < scaled k at) (map (scaled_part k) qs)
    each [] below = tt
    each (q ∷ qs) below = (scaled_rises k q.start at some below.0, each qs below.1)

pub old_column_scaled : (k : ℕ) (c : ColumnInBlock) → 1 ≤ k → IsOldColumn c → IsBounds (scaled_bounds k c.bounds) → AllByRecursion (λ p. scaled k p.start < 256 ^ 16) c.parts → IsOldColumn (scaled_old_column k c)
old_column_scaled k c some valid bounds fit = record {
  bounds = bounds;
  each = parts_scaled k c.parts valid.each fit;
  follow = record {
    first = subst (BeginsAt (scaled k c.bounds.start)) (sym (starts_scaled k c.parts)) (begins_scaled k c.bounds.start _ valid.follow.first);
    rising = subst AreAscending (sym (starts_scaled k c.parts)) (ascending_scaled k _ some valid.follow.rising);
    before_end = ends_scaled k c.bounds.end c.parts some valid.follow.before_end;
    fits = omega (arith, length-map c.parts (scaled_part k), valid.follow.fits);
  };
}

start_scaled : (k end : ℕ) (o : Option Part) → start_or (scaled k end) (option_map (scaled_part k) o) ≡ scaled k (start_or end o)
start_scaled k end None = refl
start_scaled k end (Some p) = refl

pub part_up : (k end s fl : ℕ) (ps : List Part) (found : PartAt) → 1 ≤ k → ((r : ℕ) → scaled k r ≤ s ↔ r ≤ fl) → IsPartAt ps end fl found → IsPartAt (map (scaled_part k) ps) (scaled k end) s (scaled_part_at k found)
part_up k end s fl ps found some floor is = record {
  place = is.place;
  at = map_at (scaled_part k) ps is.place found.part is.at;
  to_end = ap (scaled k) is.to_end ∙ sym (start_scaled k end (slice_get ps (suc is.place))) ∙ ap (start_or (scaled k end)) (sym (slice_get-map (scaled_part k) ps (suc is.place)));
  start = (floor found.part.start).1 is.start;
  before = elim (cases_lt s (scaled k found.end)) [
    | inl lt ↦ lt
    | inr ge ↦ absurd (let le = (floor found.end).0 ge in omega (arith, le, is.before))
  ];
}

pub spot_up : (k s fl : ℕ) (c : ColumnInPage) (spot : Spot) → 1 ≤ k → ((r : ℕ) → scaled k r ≤ s ↔ r ≤ fl) → IsSpot c fl spot → IsSpot (scaled_column k c) s (scaled_spot k spot)
spot_up k s fl c (InPage current) some floor is = (ap (λ x. record { start = scaled k x.start; page = x.page }) is.0, (floor c.current.start).1 is.1)
spot_up k s fl c (InBlock found) some floor is = part_up k c.current.start s fl c.parts found some floor is

-- the times of a part that is found fit, as those of its column do
pub part_fits : (k end : ℕ) (ps : List Part) (s : ℕ) (found : PartAt) → AllByRecursion IsPartEntry (map (scaled_part k) ps) → scaled k end < 256 ^ 16 → IsPartAt (map (scaled_part k) ps) (scaled k end) s (scaled_part_at k found) → PartFits k found
part_fits k end ps s found each fits is = (
  (all_get IsPartEntry (map (scaled_part k) ps) is.place (scaled_part k found.part) each is.at).start,
  subst (λ (n : ℕ). n < 256 ^ 16) (sym is.to_end) (next (get_cases (slice_get (map (scaled_part k) ps) (suc is.place)))),
)
  where
    next : (slice_get (map (scaled_part k) ps) (suc is.place) ≡ None) ⊎ ((p : Part) × (slice_get (map (scaled_part k) ps) (suc is.place) ≡ Some p)) → start_or (scaled k end) (slice_get (map (scaled_part k) ps) (suc is.place)) < 256 ^ 16
    next (inl e) = rw e fits
    next (inr p) = rw p.1 (all_get IsPartEntry (map (scaled_part k) ps) (suc is.place) p.0 each p.1).start

pub spot_fits : (k s : ℕ) (c : ColumnInPage) (spot : Spot) → IsColumn (scaled_column k c) → IsSpot (scaled_column k c) s (scaled_spot k spot) → SpotFits k spot
spot_fits k s c (InPage current) valid is = subst (λ (n : ℕ). n < 256 ^ 16) (sym (ap (λ x. x.start) is.0)) valid.current_start
spot_fits k s c (InBlock found) valid is = part_fits k c.current.start c.parts s found valid.each valid.current_start is
