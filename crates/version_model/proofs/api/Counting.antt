-- Where the parts represent versions, what is counted is how many versions there are.
use Rattle.std.proofs.Common.{◌≡◌, ℕ, suc, ◌+◌, ◌<◌, ◌≤◌, ◌⊎◌, inl, inr, List, [], ◌∷◌, length, filter, Option, Some, slice_get, refl, sym, ◌∙◌, ap, arith, Bool, true, false, nat_le, nat_lt, ◌&&◌}
use Rattle.std.proofs.lemmas.Bool.{and_parts, and_from, leb-true, ltb-true, le-leb, lt-ltb, cases_Bool, cases_lt}
use Rattle.std.proofs.lemmas.Option.{none-some}
use Rattle.version_model.specs.declared.part.Part.{Part}
use Rattle.version_model.specs.declared.child.Child.{Child}
use Rattle.version_model.specs.Versions.{Version, Has, IsRising}
use Rattle.version_model.specs.Ranges.{Range, stamp_end}
use Rattle.version_model.specs.LeafVersions.{LeafRepresents}
use Rattle.version_model.specs.Blocks.{BlockNode, PartRepresents, AreParts, range_at, start_or}
use Rattle.version_model.specs.Pages.{Keys, PageNode, NodeRepresents, PartsRepresent, past_range, current_range, AreChildren, child_keys, low_or, Store, TreeRepresents, all_keys}
use Rattle.version_model.proofs.api.LooksShown.{rising_one, filter_has, has_filter, filter_rising}
use Rattle.version_model.specs.Counts.{is_within, count_in, sum_of, PartCounts, leaf_counts, parts_count, NodeCounts, column_counts, children_count, all_stamps}
use Rattle.version_model.proofs.api.Representing.{leaf_represents_all, column_represents_all, shows_both, RepresentsBoth}
use Rattle.version_model.proofs.api.Children.{key_represents}

pub record IsWithin (r : Range) (v : Version) : Type 0 where
  pub low : r.low ≤ v.key
  pub high : v.key < r.high
  pub start : r.start ≤ v.stamp
  pub end : v.stamp < r.end

pub within_true : (r : Range) (v : Version) → is_within r v ≡ true → IsWithin r v
within_true r v is =
    let both = and_parts (nat_le r.low v.key && nat_lt v.key r.high) (nat_le r.start v.stamp && nat_lt v.stamp r.end) is in
    let keys = and_parts (nat_le r.low v.key) (nat_lt v.key r.high) both.0 in
    let times = and_parts (nat_le r.start v.stamp) (nat_lt v.stamp r.end) both.1 in
    record { low = leb-true r.low v.key keys.0; high = ltb-true v.key r.high keys.1; start = leb-true r.start v.stamp times.0; end = ltb-true v.stamp r.end times.1 }

pub within_yes : (r : Range) (v : Version) → IsWithin r v → is_within r v ≡ true
within_yes r v h = and_from (nat_le r.low v.key && nat_lt v.key r.high) (nat_le r.start v.stamp && nat_lt v.stamp r.end)
    (and_from (nat_le r.low v.key) (nat_lt v.key r.high) (le-leb r.low v.key h.low) (lt-ltb v.key r.high h.high))
    (and_from (nat_le r.start v.stamp) (nat_lt v.stamp r.end) (le-leb r.start v.stamp h.start) (lt-ltb v.stamp r.end h.end))

pub within_no : (r : Range) (v : Version) → (IsWithin r v → ⊥) → is_within r v ≡ false
within_no r v never = elim (cases_Bool (is_within r v)) [
  | inl is ↦ absurd (never (within_true r v is))
  | inr is ↦ is
]

-- a leaf has as many versions of its range as there are
pub leaf_count : (all : List Version) (r : Range) (leaf : List Version) → LeafRepresents all r leaf → IsRising all → IsRising leaf → count_in leaf r ≡ count_in all r
leaf_count all r leaf shows rising rising_leaf =
    let p = is_within r in
    ap length (rising_one (filter p leaf) (filter p all) (filter_rising p leaf rising_leaf) (filter_rising p all rising)
    (λ x h. (let i = filter_has p leaf x h in let is = within_true r x i.1 in
    has_filter p all x (shows.true_ones x i.0 (record { low = is.low; high = is.high }) is.end) i.1))
    (λ x h. (let i = filter_has p all x h in let is = within_true r x i.1 in
    has_filter p leaf x (shows.whole x i.0 (record { low = is.low; high = is.high }) is.start is.end) i.1)))

-- what passes the one test passes just one of two others
abbrev Apart : (Version → Bool) → (Version → Bool) → (Version → Bool) → Version → Type 0
Apart p q s v = ((p v ≡ true) × (q v ≡ true) × (s v ≡ false)) ⊎ (((p v ≡ true) × (q v ≡ false) × (s v ≡ true)) ⊎ ((p v ≡ false) × (q v ≡ false) × (s v ≡ false)))

count_apart : (p q s : Version → Bool) (vs : List Version) → ((v : Version) → Apart p q s v) → length (filter p vs) ≡ length (filter q vs) + length (filter s vs)
count_apart p q s [] h = refl
count_apart p q s (v ∷ vs) h =
    let rest = count_apart p q s vs h in
    elim (h v) [
      | inl a ↦ rw (a.0, a.1, a.2) (omega (arith, rest))
      | inr other ↦ elim other [
        | inl b ↦ rw (b.0, b.1, b.2) (omega (arith, rest))
        | inr c ↦ rw (c.0, c.1, c.2) rest
      ]
    ]

abbrev span : Range → ℕ → ℕ → Range
span r a b = record { low = r.low; high = r.high; start = a; end = b }

-- stamps that follow one another
count_split : (all : List Version) (r : Range) (a b c : ℕ) → a ≤ b → b ≤ c → count_in all (span r a c) ≡ count_in all (span r a b) + count_in all (span r b c)
count_split all r a b c ab bc = count_apart (is_within (span r a c)) (is_within (span r a b)) (is_within (span r b c)) all (λ v. apart v)
  where
    apart : (v : Version) → Apart (is_within (span r a c)) (is_within (span r a b)) (is_within (span r b c)) v
    apart v = elim (cases_Bool (is_within (span r a c) v)) [
      | inl is ↦ (let h = within_true (span r a c) v is in elim (cases_lt v.stamp b) [
        | inl early ↦ inl (is, within_yes (span r a b) v (record { low = h.low; high = h.high; start = h.start; end = early }), within_no (span r b c) v (λ i. omega (arith, i.start)))
        | inr late ↦ inr (inl (is, within_no (span r a b) v (λ i. omega (arith, i.end)), within_yes (span r b c) v (record { low = h.low; high = h.high; start = late; end = h.end })))
      ])
      | inr out ↦ inr (inr (
        out,
        within_no (span r a b) v (λ i. (let y = within_yes (span r a c) v (record { low = i.low; high = i.high; start = i.start; end = omega (arith, i.end) }) in let f : true ≡ false = sym y ∙ out in cc)),
        within_no (span r b c) v (λ i. (let y = within_yes (span r a c) v (record { low = i.low; high = i.high; start = omega (arith, i.start); end = i.end }) in let f : true ≡ false = sym y ∙ out in cc)),
      ))
    ]

count_none : (r : Range) (all : List Version) (a : ℕ) → count_in all (span r a a) ≡ 0
count_none r [] a = refl
count_none r (v ∷ vs) a = rw (within_no (span r a a) v (λ i. omega (arith, i.start, i.end))) (count_none r vs a)

-- each part starts where the last one ends
record Follow (r : Range) (parts : List Part) : Type 0 where
  pub fit : (i : ℕ) (part : Part) → slice_get parts i ≡ Some part → (part.start ≤ start_or r.end (slice_get parts (suc i))) × (start_or r.end (slice_get parts (suc i)) ≤ r.end)

first_le : (r : Range) (p : Part) (rest : List Part) → Follow r (p ∷ rest) → (p.start ≤ start_or r.end (slice_get rest 0)) × (start_or r.end (slice_get rest 0) ≤ r.end)
first_le r p rest h = h.fit 0 p refl

parts_sum : (all : List Version) (r : Range) (parts : List Part) (ns : List ℕ) → length ns ≡ length parts → Follow r parts
    → ((i : ℕ) (part : Part) (n : ℕ) → slice_get parts i ≡ Some part → slice_get ns i ≡ Some n → n ≡ count_in all (range_at r parts i part))
    → sum_of ns ≡ count_in all (span r (start_or r.end (slice_get parts 0)) r.end)
parts_sum all r [] [] same follow each = sym (count_none r all r.end)
parts_sum all r [] (n ∷ ns) same follow each = absurd (omega (arith, same))
parts_sum all r (p ∷ ps) [] same follow each = absurd (omega (arith, same))
parts_sum all r (p ∷ ps) (n ∷ ns) same follow each =
    let rest = parts_sum all r ps ns (omega (arith, same)) (record { fit = λ i part at. follow.fit (suc i) part at }) (λ i part m at_i at_n. each (suc i) part m at_i at_n) in
    let here : n ≡ count_in all (span r p.start (start_or r.end (slice_get ps 0))) = each 0 p n refl refl in
    let h = first_le r p ps follow in
    omega (arith, here, rest, count_split all r p.start (start_or r.end (slice_get ps 0)) r.end h.0 h.1)

follow_of : (r : Range) (parts : List Part) (block : ℕ) → AreParts r parts block → Follow r parts
follow_of r parts block are = record { fit = λ i part at. (let h = are.inside (range_at r parts i part) part (record { place = i; at = at; range = refl }) in (omega (arith, h.0), h.1)) }

start_of : (r : Range) (parts : List Part) (block : ℕ) → AreParts r parts block → start_or r.end (slice_get parts 0) ≡ r.start
start_of r parts block are = ap (start_or r.end) are.at_first ∙ are.from_start

-- what is counted in a part that represents versions is how many versions its range has
pub part_counted : (old : ℕ → Option BlockNode) (all : List Version) → IsRising all → (r : Range) (part : Part) (n : ℕ) → PartCounts old r part n → PartRepresents old all r part → n ≡ count_in all r
part_counted old all rising _ _ _ (leaf_counts r part wide versions kind at covers rising_leaf) represents_all =
    leaf_count all r versions (leaf_represents_all old all r part wide versions at represents_all).shows rising rising_leaf
part_counted old all rising _ _ _ (parts_count r part wide parts ns kind at covers are same each) represents_all =
    let cs = column_represents_all old all r part wide parts at represents_all in
    parts_sum all r parts ns same (follow_of r parts part.block are)
    (λ i inner m at_i at_n. part_counted old all rising (range_at r parts i inner) inner m (each i inner m at_i at_n) (cs.stand (range_at r parts i inner) inner (record { place = i; at = at_i; range = refl })))
    ∙ ap (λ s. count_in all (span r s r.end)) (start_of r parts part.block are)

past_counted : (old : ℕ → Option BlockNode) (next : ℕ) (all : List Version) → IsRising all → (k : Keys) (start : ℕ) (parts : List Part) (ns : List ℕ) → ((parts ≡ []) × (start ≡ 0)) ⊎ AreParts (past_range k start) parts next → length ns ≡ length parts
    → ((i : ℕ) (inner : Part) (n : ℕ) → slice_get parts i ≡ Some inner → slice_get ns i ≡ Some n → PartCounts old (range_at (past_range k start) parts i inner) inner n)
    → PartsRepresent old next all k start parts → sum_of ns ≡ count_in all (past_range k start)
past_counted old next all rising k start parts ns are same each past =
    let r = past_range k start in
    let counted : (i : ℕ) (inner : Part) (m : ℕ) → slice_get parts i ≡ Some inner → slice_get ns i ≡ Some m → m ≡ count_in all (range_at r parts i inner) =
    λ i inner m at_i at_n. part_counted old all rising (range_at r parts i inner) inner m (each i inner m at_i at_n) (past.stand (range_at r parts i inner) inner (record { place = i; at = at_i; range = refl })) in
    elim are [
      | inl none ↦ (let follow : Follow r parts = record { fit = λ i part at. absurd (none-some part (ap (λ ps. slice_get ps i) (sym none.0) ∙ at)) } in
          let from : start_or start (slice_get parts 0) ≡ 0 = ap (λ ps. start_or start (slice_get ps 0)) none.0 ∙ none.1 in
          parts_sum all r parts ns same follow counted ∙ ap (λ s. count_in all (span r s r.end)) from)
      | inr is ↦ parts_sum all r parts ns same (follow_of r parts next is) counted ∙ ap (λ s. count_in all (span r s r.end)) (start_of r parts next is)
    ]

-- keys that follow one another
abbrev among : Range → ℕ → ℕ → Range
among r a b = record { low = a; high = b; start = r.start; end = r.end }

count_among : (all : List Version) (r : Range) (a b c : ℕ) → a ≤ b → b ≤ c → count_in all (among r a c) ≡ count_in all (among r a b) + count_in all (among r b c)
count_among all r a b c ab bc = count_apart (is_within (among r a c)) (is_within (among r a b)) (is_within (among r b c)) all (λ v. apart v)
  where
    apart : (v : Version) → Apart (is_within (among r a c)) (is_within (among r a b)) (is_within (among r b c)) v
    apart v = elim (cases_Bool (is_within (among r a c) v)) [
      | inl is ↦ (let h = within_true (among r a c) v is in elim (cases_lt v.key b) [
        | inl early ↦ inl (is, within_yes (among r a b) v (record { low = h.low; high = early; start = h.start; end = h.end }), within_no (among r b c) v (λ i. omega (arith, i.low)))
        | inr late ↦ inr (inl (is, within_no (among r a b) v (λ i. omega (arith, i.high)), within_yes (among r b c) v (record { low = late; high = h.high; start = h.start; end = h.end })))
      ])
      | inr out ↦ inr (inr (
        out,
        within_no (among r a b) v (λ i. (let y = within_yes (among r a c) v (record { low = i.low; high = omega (arith, i.high); start = i.start; end = i.end }) in let f : true ≡ false = sym y ∙ out in cc)),
        within_no (among r b c) v (λ i. (let y = within_yes (among r a c) v (record { low = omega (arith, i.low); high = i.high; start = i.start; end = i.end }) in let f : true ≡ false = sym y ∙ out in cc)),
      ))
    ]

count_no_key : (r : Range) (all : List Version) (a : ℕ) → count_in all (among r a a) ≡ 0
count_no_key r [] a = refl
count_no_key r (v ∷ vs) a = rw (within_no (among r a a) v (λ i. omega (arith, i.low, i.high))) (count_no_key r vs a)

record FollowKeys (k : Keys) (children : List Child) : Type 0 where
  pub fit : (i : ℕ) (child : Child) → slice_get children i ≡ Some child → (child.low ≤ low_or k.high (slice_get children (suc i))) × (low_or k.high (slice_get children (suc i)) ≤ k.high)

children_sum : (all : List Version) (k : Keys) (children : List Child) (ns : List ℕ) → length ns ≡ length children → FollowKeys k children
    → ((i : ℕ) (child : Child) (n : ℕ) → slice_get children i ≡ Some child → slice_get ns i ≡ Some n → n ≡ count_in all (all_stamps (child_keys k children i child)))
    → sum_of ns ≡ count_in all (among (all_stamps k) (low_or k.high (slice_get children 0)) k.high)
children_sum all k [] [] same follow each = sym (count_no_key (all_stamps k) all k.high)
children_sum all k [] (n ∷ ns) same follow each = absurd (omega (arith, same))
children_sum all k (p ∷ ps) [] same follow each = absurd (omega (arith, same))
children_sum all k (p ∷ ps) (n ∷ ns) same follow each =
    let rest = children_sum all k ps ns (omega (arith, same)) (record { fit = λ i child at. follow.fit (suc i) child at }) (λ i child m at_i at_n. each (suc i) child m at_i at_n) in
    let here : n ≡ count_in all (among (all_stamps k) p.low (low_or k.high (slice_get ps 0))) = each 0 p n refl refl in
    let h : (p.low ≤ low_or k.high (slice_get ps 0)) × (low_or k.high (slice_get ps 0) ≤ k.high) = follow.fit 0 p refl in
    omega (arith, here, rest, count_among all (all_stamps k) p.low (low_or k.high (slice_get ps 0)) k.high h.0 h.1)

follow_keys : (k : Keys) (children : List Child) → AreChildren k children → FollowKeys k children
follow_keys k children are = record { fit = λ i child at. (let h = are.inside (child_keys k children i child) child (record { place = i; at = at; range = refl }) in (omega (arith, h.1), h.2)) }

-- what is counted under a page that stands is how many versions its keys have
pub node_counted : (nodes : ℕ → Option PageNode) (limit : ℕ) (old : ℕ → Option BlockNode) (next : ℕ) (all : List Version) → IsRising all → (level : ℕ) (k : Keys) (page n : ℕ) → NodeCounts nodes limit old next level k page n → NodeRepresents nodes limit old next all level k page → n ≡ count_in all (all_stamps k)
node_counted nodes limit old next all rising _ _ _ _ (column_counts k page parts current start versions ns in_limit current_in_limit in_time at at_current rising_leaf are same each) represents_all =
    let both : RepresentsBoth nodes limit old next all k parts start versions = shows_both nodes limit old next all 1 k k k page parts current start start versions refl at at_current represents_all in
    let past = past_counted old next all rising k start parts ns are same each both.past in
    let leaf = leaf_count all (current_range k start) versions both.shows rising rising_leaf in
    omega (arith, past, leaf, count_split all (all_stamps k) 0 start (stamp_end) (omega arith) in_time)
node_counted nodes limit old next all rising _ _ _ _ (children_count level k page children ns in_limit at are same each) represents_all =
    let st = (key_represents nodes limit old next all (suc level) k page level k children at represents_all).1 in
    children_sum all k children ns same (follow_keys k children are)
    (λ i child m at_i at_n. node_counted nodes limit old next all rising level (child_keys k children i child) child.page m (each i child m at_i at_n) (st.stand (child_keys k children i child) child (record { place = i; at = at_i; range = refl })))
    ∙ ap (λ a. count_in all (among (all_stamps k) a k.high)) (ap (low_or k.high) are.at_first ∙ are.from_low)

filter_all : (p : Version → Bool) (vs : List Version) → ((v : Version) → Has vs v → p v ≡ true) → filter p vs ≡ vs
filter_all p [] all = refl
filter_all p (v ∷ vs) all = rw (all v (record { place = 0; is = refl })) (ap (λ t. v ∷ t) (filter_all p vs (λ w h. all w (record { place = suc h.place; is = h.is }))))

-- what is counted under the root of a tree is how many versions it represents
pub tree_counted : (s : Store) (all : List Version) (root level n : ℕ) → NodeCounts s.nodes s.limit s.blocks s.next level all_keys root n → TreeRepresents s all root level → n ≡ length all
tree_counted s all root level n counts tree =
    node_counted s.nodes s.limit s.blocks s.next all tree.rising level all_keys root n counts tree.represents_all
    ∙ ap length (filter_all (is_within (all_stamps all_keys)) all (λ v h. within_yes (all_stamps all_keys) v (record { low = omega arith; high = tree.in_keys v h; start = omega arith; end = tree.in_time v h })))
