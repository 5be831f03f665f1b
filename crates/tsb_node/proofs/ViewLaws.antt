-- What nodes represent is what the tree asks of them.
use Rattle.std.proofs.Common.{◌≡◌, ℕ, zero, suc, ◌^◌, ◌<◌, ◌≤◌, ◌⊎◌, inl, inr, List, [], ◌∷◌, ◌++◌, length, map, filter, slice_get, Option, Some, None, Bool, true, not, nat_lt, refl, sym, ap, subst, ◌∙◌, arith}
use Rattle.std.specs.List.{AllByRecursion}
use Rattle.std.specs.Option.{IfSome}
use Rattle.std.proofs.lemmas.List.{length-append}
use Rattle.std.proofs.lemmas.Option.{same_Some, none-some}
use Rattle.std.proofs.lemmas.Bool.{cases_lt, cases_Bool, and_parts, and_from, ltb-true, lt-ltb}
use Rattle.version_model.specs.declared.bounds.Bounds.{Bounds}
use Rattle.version_model.specs.declared.part.Part.{Part}
use Rattle.version_model.specs.declared.child.Child.{Child}
use Rattle.version_model.specs.Versions.{Version, Has}
use Rattle.version_model.specs.Ranges.{Range, high_or, end_or, range_of}
use Rattle.version_model.specs.Sizes.{octets, value_octets}
use Rattle.version_model.specs.LeafVersions.{IsBelow, IsFromKey}
use Rattle.version_model.specs.Blocks.{AreParts, IsPartOf, start_or}
use Rattle.version_model.specs.Pages.{Keys, AreChildren, IsChildOf, low_or, past_range}
use Rattle.version_model.proofs.api.LooksShown.{filter_has, has_filter}
use Rattle.tsb_node.specs.declared.key_node.Under.{Under}
use Rattle.tsb_node.specs.declared.column.PartAt.{PartAt}
use Rattle.tsb_node.specs.declared.column.Spot.TheVariants.{InBlock}
use Rattle.tsb_node.specs.Leaves.{LeafNode, IsLeaf, IsVersionOf, value_encoded, entry, entries}
use Rattle.tsb_node.specs.Columns.{ColumnInPage, ColumnInBlock, IsColumn, IsOldColumn, BeginsAt, AreAscending, starts_of}
use Rattle.tsb_node.specs.KeyNodes.{KeyNodeInPage, IsKeyNode, IsChildEntry}
use Rattle.tsb_node.specs.Children.{IsUnder, high_of}
use Rattle.tsb_node.specs.Parts.{IsSpot, IsPartAt}
use Rattle.tsb_node.specs.inner.Sides.{is_below, located_within, side_of}
use Rattle.tsb_node.specs.Splitting.{IsSide}
use Rattle.tsb_node.specs.Views.{keys_between}
use Rattle.tsb_node.proofs.Entries.{entry-size}
use Rattle.tsb_node.proofs.RowLaws.{ascending_front}

-- ---- lists whose numbers rise

all_get : {X : Type 0} (f : X → ℕ) (P : ℕ → Type 0) (xs : List X) (i : ℕ) (x : X) → AllByRecursion P (map f xs) → slice_get xs i ≡ Some x → P (f x)
all_get f P [] i x all e = absurd (none-some x e)
all_get f P (y ∷ xs) zero x all e = subst (λ z. P (f z)) (same_Some y x e) all.0
all_get f P (y ∷ xs) (suc i) x all e = all_get f P xs i x all.1 e

each_get : {X : Type 0} (P : X → Type 0) (xs : List X) (i : ℕ) (x : X) → AllByRecursion P xs → slice_get xs i ≡ Some x → P x
each_get P [] i x all e = absurd (none-some x e)
each_get P (y ∷ xs) zero x all e = subst P (same_Some y x e) all.0
each_get P (y ∷ xs) (suc i) x all e = each_get P xs i x all.1 e

rises_next : {X : Type 0} (f : X → ℕ) (xs : List X) (i : ℕ) (x y : X) → AreAscending (map f xs) → slice_get xs i ≡ Some x → slice_get xs (suc i) ≡ Some y → f x < f y
rises_next f [] i x y up e d = absurd (none-some x e)
rises_next f (z ∷ xs) zero x y up e d = subst (λ w. f w < f y) (same_Some z x e) (all_get f (λ n. f z < n) xs 0 y up.0 d)
rises_next f (z ∷ xs) (suc i) x y up e d = rises_next f xs i x y up.1 e d

least_first : {X : Type 0} (f : X → ℕ) (first : ℕ) (xs : List X) (i : ℕ) (x : X) → BeginsAt first (map f xs) → AreAscending (map f xs) → slice_get xs i ≡ Some x → first ≤ f x
least_first f first [] i x b up e = absurd (none-some x e)
least_first f first (z ∷ xs) zero x b up e = omega (arith, sym b, ap f (same_Some z x e))
least_first f first (z ∷ xs) (suc i) x b up e = (let lt = all_get f (λ n. f z < n) xs i x up.0 e in omega (arith, lt, b))

first_of : {X : Type 0} (f : X → ℕ) (first : ℕ) (xs : List X) → BeginsAt first (map f xs) → (x : X) × (slice_get xs 0 ≡ Some x) × (f x ≡ first)
first_of f first [] b = absurd b
first_of f first (x ∷ xs) b = (x, refl, b)

get_cases : {X : Type 0} (o : Option X) → (o ≡ None) ⊎ ((x : X) × (o ≡ Some x))
get_cases None = inl refl
get_cases (Some x) = inr (x, refl)

-- ---- children

high_above : (high : Option ℕ) (low : ℕ) → low < 256 ^ 40 → IfSome high (λ n. low < n) → low < high_or high
high_above None low fits below = omega (arith, fits)
high_above (Some n) low fits below = below

pub children_are : (k : KeyNodeInPage) → IsKeyNode k → AreChildren (keys_between k.bounds) k.children
children_are k valid =
    let f = first_of (λ (c : Child). c.low) k.bounds.low k.children valid.first in
    record {
      first = f.0;
      at_first = f.1;
      from_low = f.2;
      inside = λ inner child is. subst (λ (r : Keys). (k.bounds.low ≤ r.low) × (r.low < r.high) × (r.high ≤ high_or k.bounds.high)) is.range (
        least_first (λ (c : Child). c.low) k.bounds.low k.children is.place child valid.first valid.rising is.at,
        upper is.place child is.at (get_cases (slice_get k.children (suc is.place))),
        within is.place (get_cases (slice_get k.children (suc is.place))),
      );
    }
  where
    below : (i : ℕ) (c : Child) → slice_get k.children i ≡ Some c → c.low < high_or k.bounds.high
    below i c at = (let v = each_get (IsChildEntry k.bounds) k.children i c valid.each at in high_above k.bounds.high c.low v.low v.high)

    upper : (i : ℕ) (c : Child) → slice_get k.children i ≡ Some c → (slice_get k.children (suc i) ≡ None) ⊎ ((d : Child) × (slice_get k.children (suc i) ≡ Some d)) → c.low < low_or (high_or k.bounds.high) (slice_get k.children (suc i))
    upper i c at (inl e) = rw e (below i c at)
    upper i c at (inr d) = rw d.1 (rises_next (λ (x : Child). x.low) k.children i c d.0 valid.rising at d.1)

    within : (i : ℕ) → (slice_get k.children (suc i) ≡ None) ⊎ ((d : Child) × (slice_get k.children (suc i) ≡ Some d)) → low_or (high_or k.bounds.high) (slice_get k.children (suc i)) ≤ high_or k.bounds.high
    within i (inl e) = rw e (omega arith)
    within i (inr d) = rw d.1 (omega (arith, below (suc i) d.0 d.1))

high_next : (high : Option ℕ) (next : Option Child) → low_or (high_or high) next ≡ high_or (high_of high next)
high_next high None = refl
high_next high (Some c) = refl

pub child_is_of : (k : KeyNodeInPage) (key : ℕ) (under : Under) → IsUnder k key under → IsChildOf (keys_between k.bounds) k.children (record { low = under.low; high = high_or under.high }) (record { low = under.low; page = under.page })
child_is_of k key under is =
    let high = high_next k.bounds.high (slice_get k.children (suc is.place)) ∙ ap high_or (sym is.to_high) in
    record { place = is.place; at = is.at; range = λ i. record { low = under.low; high = high i } }

-- ---- parts

parts_are : (r : Range) (ps : List Part) (block : ℕ) → BeginsAt r.start (starts_of ps) → AreAscending (starts_of ps) → AllByRecursion (λ n. n < r.end) (starts_of ps)
    → ((i : ℕ) (p : Part) → slice_get ps i ≡ Some p → p.block < block) → AreParts r ps block
parts_are r ps block first up ends lower =
    let f = first_of (λ (p : Part). p.start) r.start ps first in
    record {
      first = f.0;
      at_first = f.1;
      from_start = f.2;
      lower = lower;
      inside = λ s part is. subst (λ (t : Range). (t.start < t.end) × (t.end ≤ r.end)) is.range (
        upper is.place part is.at (get_cases (slice_get ps (suc is.place))),
        within is.place (get_cases (slice_get ps (suc is.place))),
      );
    }
  where
    below : (i : ℕ) (p : Part) → slice_get ps i ≡ Some p → p.start < r.end
    below i p at = all_get (λ (x : Part). x.start) (λ n. n < r.end) ps i p ends at

    upper : (i : ℕ) (p : Part) → slice_get ps i ≡ Some p → (slice_get ps (suc i) ≡ None) ⊎ ((q : Part) × (slice_get ps (suc i) ≡ Some q)) → p.start < start_or r.end (slice_get ps (suc i))
    upper i p at (inl e) = rw e (below i p at)
    upper i p at (inr q) = rw q.1 (rises_next (λ (x : Part). x.start) ps i p q.0 up at q.1)

    within : (i : ℕ) → (slice_get ps (suc i) ≡ None) ⊎ ((q : Part) × (slice_get ps (suc i) ≡ Some q)) → start_or r.end (slice_get ps (suc i)) ≤ r.end
    within i (inl e) = rw e (omega arith)
    within i (inr q) = rw q.1 (omega (arith, below (suc i) q.0 q.1))

pub column_parts_are : (c : ColumnInPage) (next : ℕ) → IsColumn c → ((i : ℕ) (p : Part) → slice_get c.parts i ≡ Some p → p.block < next)
    → ((c.parts ≡ []) × (c.current.start ≡ 0)) ⊎ AreParts (past_range (keys_between c.bounds) c.current.start) c.parts next
column_parts_are c next valid lower =
    let up = ascending_front (starts_of c.parts) c.current.start valid.follow.rising in
    either c.parts refl valid.follow.first up
  where
    either : (ps : List Part) → ps ≡ c.parts → BeginsAt c.bounds.start (starts_of ps ++ c.current.start ∷ []) → AreAscending (starts_of c.parts) × AllByRecursion (λ n. n < c.current.start) (starts_of c.parts)
        → ((c.parts ≡ []) × (c.current.start ≡ 0)) ⊎ AreParts (past_range (keys_between c.bounds) c.current.start) c.parts next
    either [] e first up = inl (sym e, first ∙ valid.follow.from_first)
    either (p ∷ ps) e first up =
        inr (parts_are (past_range (keys_between c.bounds) c.current.start) c.parts next (subst (λ (l : List Part). BeginsAt 0 (starts_of l)) e (first ∙ valid.follow.from_first)) up.0 up.1 lower)

pub spot_part : (c : ColumnInPage) (stamp : ℕ) (found : PartAt) → IsSpot c stamp (InBlock found)
    → IsPartOf (past_range (keys_between c.bounds) c.current.start) c.parts (record { low = c.bounds.low; high = high_or c.bounds.high; start = found.part.start; end = found.end }) found.part
spot_part c stamp found is =
    let end = sym is.to_end in
    record { place = is.place; at = is.at; range = λ i. record { low = c.bounds.low; high = high_or c.bounds.high; start = found.part.start; end = end i } }

pub old_parts_are : (c : ColumnInBlock) (end block : ℕ) → IsOldColumn c → c.bounds.end ≡ Some end → ((i : ℕ) (p : Part) → slice_get c.parts i ≡ Some p → p.block < block) → AreParts (range_of c.bounds) c.parts block
old_parts_are c end block valid e lower =
    let ends : AllByRecursion (λ p. p.start < end) c.parts = subst (λ (o : Option ℕ). IfSome o (λ at. AllByRecursion (λ p. p.start < at) c.parts)) e valid.follow.before_end in
    let last : end ≡ end_or c.bounds.end = sym (ap end_or e) in
    parts_are (range_of c.bounds) c.parts block valid.follow.first valid.follow.rising (subst (λ (m : ℕ). AllByRecursion (λ n. n < m) (starts_of c.parts)) last (mapped c.parts ends)) lower
  where
    mapped : (ps : List Part) → AllByRecursion (λ p. p.start < end) ps → AllByRecursion (λ n. n < end) (starts_of ps)
    mapped [] all = tt
    mapped (p ∷ ps) all = (all.0, mapped ps all.1)

pub old_part : (c : ColumnInBlock) (end stamp : ℕ) (found : PartAt) → c.bounds.end ≡ Some end → IsPartAt c.parts end stamp found
    → IsPartOf (range_of c.bounds) c.parts (record { low = c.bounds.low; high = high_or c.bounds.high; start = found.part.start; end = found.end }) found.part
old_part c end stamp found e is =
    let last : start_or (end_or c.bounds.end) (slice_get c.parts (suc is.place)) ≡ found.end = ap (λ (n : ℕ). start_or n (slice_get c.parts (suc is.place))) (ap end_or e) ∙ sym is.to_end in
    record { place = is.place; at = is.at; range = λ i. record { low = c.bounds.low; high = high_or c.bounds.high; start = found.part.start; end = last i } }

-- ---- sizes

encoded-octets : (o : Option (List ℕ)) → length (value_encoded o) ≡ value_octets o
encoded-octets None = refl
encoded-octets (Some v) = refl

pub entries-octets : (vs : List Version) → length (entries vs) ≡ octets vs
unfolding entries
entries-octets [] = refl
entries-octets (v ∷ vs) = omega (arith, entries-octets vs, entry-size v, encoded-octets v.value, length-append (entry v) (entries vs))

-- ---- sides

low_true : (key low : ℕ) → not (nat_lt key low) ≡ true → low ≤ key
low_true key low is = elim (cases_lt key low) [
  | inl lt ↦ absurd (cc (sym is ∙ ap not (lt-ltb key low lt)))
  | inr ge ↦ ge
]

low_yes : (key low : ℕ) → low ≤ key → not (nat_lt key low) ≡ true
low_yes key low le = elim (cases_Bool (nat_lt key low)) [
  | inl is ↦ absurd (omega (arith, ltb-true key low is, le))
  | inr is ↦ ap not is
]

high_true : (high : Option ℕ) (key : ℕ) → is_below high key ≡ true → IfSome high (λ n. key < n)
high_true None key is = tt
high_true (Some n) key is = ltb-true key n is

high_yes : (high : Option ℕ) (key : ℕ) → IfSome high (λ n. key < n) → is_below high key ≡ true
high_yes None key is = refl
high_yes (Some n) key is = lt-ltb key n is

within_true : (b : Bounds) (key : ℕ) → located_within b key ≡ true → (b.low ≤ key) × IfSome b.high (λ n. key < n)
within_true b key is =
    let both = and_parts (not (nat_lt key b.low)) (is_below b.high key) is in
    (low_true key b.low both.0, high_true b.high key both.1)

within_yes : (b : Bounds) (key : ℕ) → b.low ≤ key → IfSome b.high (λ n. key < n) → located_within b key ≡ true
within_yes b key low high = and_from (not (nat_lt key b.low)) (is_below b.high key) (low_yes key b.low low) (high_yes b.high key high)

version_at : (leaf : LeafNode) (v : Version) → IsLeaf leaf → Has leaf.versions v → IsVersionOf leaf.bounds v
version_at leaf v valid has = each_get (IsVersionOf leaf.bounds) leaf.versions has.place v valid.each has.is

filter_each : (b : Bounds) (vs : List Version) → AllByRecursion (IsVersionOf b) vs → filter (λ v. located_within b v.key) vs ≡ vs
filter_each b [] all = refl
filter_each b (v ∷ vs) all = rw (within_yes b v.key all.0.short.low all.0.short.high) (ap (λ (t : List Version). v ∷ t) (filter_each b vs all.1))

-- the side of a leaf's own bounds is the leaf
pub side_whole : (leaf : LeafNode) → IsLeaf leaf → side_of leaf leaf.bounds ≡ leaf
side_whole leaf valid = let versions = filter_each leaf.bounds leaf.versions valid.each in λ i. record { bounds = leaf.bounds; versions = versions i }

-- what is copied is the side
pub side_is : (leaf : LeafNode) (b : Bounds) → IsSide b leaf.versions (side_of leaf b).versions
side_is leaf b =
    let p : Version → Bool = λ v. located_within b v.key in
    record {
      is_in = λ v h. (filter_has p leaf.versions v h).0;
      only = λ v h. (let within = within_true b v.key (filter_has p leaf.versions v h).1 in record { low = within.0; high = within.1 });
      each = λ v h within. has_filter p leaf.versions v h (within_yes b v.key within.low within.high);
    }

pub side_below : (leaf : LeafNode) (side : List Version) (b : Bounds) (key : ℕ) → b.low ≡ leaf.bounds.low → b.high ≡ Some key → IsLeaf leaf → IsSide b leaf.versions side → IsBelow leaf.versions key side
side_below leaf side b key low high valid is = record {
  is_in = is.is_in;
  only = λ v h. subst (λ (o : Option ℕ). IfSome o (λ n. v.key < n)) high (is.only v h).high;
  each = λ v h lt. is.each v h (record { low = omega (arith, low, (version_at leaf v valid h).short.low); high = subst (λ (o : Option ℕ). IfSome o (λ n. v.key < n)) (sym high) lt });
}

pub side_from : (leaf : LeafNode) (side : List Version) (b : Bounds) (key : ℕ) → b.low ≡ key → b.high ≡ leaf.bounds.high → IsLeaf leaf → IsSide b leaf.versions side → IsFromKey leaf.versions key side
side_from leaf side b key low high valid is = record {
  is_in = is.is_in;
  only = λ v h. omega (arith, low, (is.only v h).low);
  each = λ v h le. is.each v h (record { low = omega (arith, low, le); high = subst (λ (o : Option ℕ). IfSome o (λ n. v.key < n)) (sym high) (version_at leaf v valid h).short.high });
}
