-- Columns in memory fit into their pages.
use Rattle.std.proofs.Common.{◌≡◌, ℕ, suc, ◌+◌, ◌^◌, ◌<◌, ◌≤◌, inl, inr, List, [], ◌∷◌, ◌++◌, length, Option, Some, None, IfSome, length-append, refl, sym, ◌∙◌, ap, subst, arith}
use Rattle.std.specs.List.{AllByRecursion}
use Rattle.version_model.specs.declared.part.Part.{Part}
use Rattle.version_model.specs.declared.part.PartKind.TheVariants.{ColumnBlock}
use Rattle.version_model.specs.Versions.{Version, Has, IsRising}
use Rattle.version_model.specs.Ranges.{high_or}
use Rattle.version_model.specs.Sizes.{octets, entry_octets, AreSmall}
use Rattle.version_model.proofs.api.Pushed.{Has-push_cases}
use Rattle.tsb_node.specs.Nodes.{AreInOrder}
use Rattle.tsb_node.specs.Leaves.{CanBeLeaf, IsLeafPage, IsShortOf}
use Rattle.tsb_node.specs.Columns.{CanBeColumn, IsColumnPage, AreAscending, BeginsAt, starts_of}
use Rattle.tsb_node.specs.Views.{PageRepresents, represents_leaf, represents_column}
use Rattle.tsb_node.proofs.ViewLaws.{entries-octets}
use Rattle.worm_migration.specs.Columns.{AreWholePast}
use Rattle.tsb_tree.specs.declared.whole.Whole.{Whole}
use Rattle.tsb_tree.specs.Wholes.{column_node, leaf_node}
use Rattle.tsb_tree.specs.Shapes.{IsWhole, IsSameButParts, bounds_from, leaf_in_page, column_in_page}

each_short : (low : ℕ) (high : Option ℕ) (start : ℕ) (vs : List Version) → ((v : Version) → Has vs v → IsShortOf (bounds_from low high 0) v) → AllByRecursion (IsShortOf (bounds_from low high start)) vs
each_short low high start [] each = tt
each_short low high start (v ∷ vs) each =
    let here = each v (record { place = 0; is = refl }) in
    (record { low = here.low; high = here.high; size = here.size }, each_short low high start vs (λ w h. each w (record { place = suc h.place; is = h.is })))

pub can_be_leaf : (w : Whole) (vs : List Version) → vs ≡ w.leaf → IsRising w.leaf → IsWhole w → octets w.leaf ≤ 16232 → CanBeLeaf (record { bounds = bounds_from w.low w.high w.start; versions = vs })
can_be_leaf w vs is rising whole fits = record {
  bounds = record { high = whole.order.high; end = tt };
  each = rw is (each_short w.low w.high w.start w.leaf whole.each);
  rising = rw is rising;
  fits = omega (arith, entries-octets vs, ap octets is, fits);
}

pub leaf_represents : (w : Whole) (vs : List Version) (page : List ℕ) → vs ≡ w.leaf → IsLeafPage (record { bounds = bounds_from w.low w.high w.start; versions = vs }) page → PageRepresents page (leaf_node w)
leaf_represents w vs page is represents_node = represents_leaf (leaf_in_page w) (subst (λ x. IsLeafPage (record { bounds = bounds_from w.low w.high w.start; versions = x }) page) is represents_node)

pub can_be_column : (w : Whole) (first current : ℕ) (parts : List Part) → first ≡ 0 → parts ≡ w.parts.items → IsWhole w → CanBeColumn (record { bounds = bounds_from w.low w.high first; parts = parts; current = record { start = w.start; page = current } })
can_be_column w first current parts zero' is whole = rw (zero', is) (record { bounds = record { high = whole.order.high; end = tt }; follow = whole.follow current })

pub column_represents : (w : Whole) (first current : ℕ) (parts : List Part) (page : List ℕ) → first ≡ 0 → parts ≡ w.parts.items → IsColumnPage (record { bounds = bounds_from w.low w.high first; parts = parts; current = record { start = w.start; page = current } }) page → PageRepresents page (column_node w current)
column_represents w first current parts page zero' is represents_node =
    represents_column (column_in_page w current) (subst (λ x. IsColumnPage (record { bounds = bounds_from w.low w.high 0; parts = x; current = record { start = w.start; page = current } }) page) is
    (subst (λ x. IsColumnPage (record { bounds = bounds_from w.low w.high x; parts = parts; current = record { start = w.start; page = current } }) page) zero' represents_node))

-- lists that ascend
all_push : (P : ℕ → Type 0) (ns : List ℕ) (n : ℕ) → AllByRecursion P ns → P n → AllByRecursion P (ns ++ n ∷ [])
all_push P [] n all one = (one, tt)
all_push P (m ∷ ns) n all one = (all.0, all_push P ns n all.1 one)

all_last : (P : ℕ → Type 0) (ns : List ℕ) (n : ℕ) → AllByRecursion P (ns ++ n ∷ []) → P n
all_last P [] n all = all.0
all_last P (m ∷ ns) n all = all_last P ns n all.1

ascending_push : (ns : List ℕ) (n at : ℕ) → AreAscending (ns ++ n ∷ []) → n < at → AreAscending ((ns ++ n ∷ []) ++ at ∷ [])
ascending_push [] n at up lt = ((lt, tt), (tt, tt))
ascending_push (m ∷ ns) n at up lt =
    let last : m < n = all_last (λ later. m < later) ns n up.0 in
    (all_push (λ later. m < later) (ns ++ n ∷ []) at up.0 (omega (arith, last, lt)), ascending_push ns n at up.1 lt)

begins_push : (s : ℕ) (ns : List ℕ) (n at : ℕ) → BeginsAt s (ns ++ n ∷ []) → BeginsAt s ((ns ++ n ∷ []) ++ at ∷ [])
begins_push s [] n at begins = begins
begins_push s (m ∷ ns) n at begins = begins

begins_front : (s : ℕ) (parts : List Part) (n : ℕ) → 0 < length parts → BeginsAt s (starts_of parts ++ n ∷ []) → BeginsAt s (starts_of parts)
begins_front s [] n some begins = absurd (omega (arith, some))
begins_front s (p ∷ parts) n some begins = begins

start_some : (parts : List Part) (at : ℕ) → 0 < length parts → AreAscending (starts_of parts ++ at ∷ []) → 0 < at
start_some [] at some up = absurd (omega (arith, some))
start_some (p ∷ parts) at some up = let h : p.start < at = all_last (λ later. p.start < later) (starts_of parts) at up.0 in omega (arith, h)

starts_push : (parts : List Part) (p : Part) → starts_of (parts ++ p ∷ []) ≡ starts_of parts ++ p.start ∷ []
starts_push [] p = refl
starts_push (q ∷ parts) p = ap (λ l. q.start ∷ l) (starts_push parts p)

-- the parts of a column that has as many as its page holds can become one block
pub whole_past : (w : Whole) (first : ℕ) (parts : List Part) → first ≡ 0 → parts ≡ w.parts.items → IsWhole w → 648 ≤ length w.parts.items → w.start + 1 < 256 ^ 16 → AreWholePast (bounds_from w.low w.high first) parts w.start
whole_past w first parts zero' is whole many end =
    let follow = whole.follow 0 in
    let some : 0 < length w.parts.items = omega (arith, many) in
    rw (zero', is) (record {
      bounds = record { high = whole.order.high; end = (end, start_some w.parts.items w.start some follow.rising) };
      from_first = refl;
      first = begins_front 0 w.parts.items w.start some follow.first;
      rising = follow.rising;
      few = let fits = follow.fits in omega (arith, fits);
    })

pub past_some : (w : Whole) → IsWhole w → 648 ≤ length w.parts.items → 0 < w.start
past_some w whole many = start_some w.parts.items w.start (omega (arith, many)) (whole.follow 0).rising

-- the column with one part in place of all
pub whole_moved : (w w' : Whole) (block : ℕ) → IsWhole w → 0 < w.start → IsSameButParts w' w → w'.parts.items ≡ record { start = 0; kind = ColumnBlock; block = block } ∷ [] → IsWhole w'
whole_moved w w' block whole some same is = record {
  order = rw (same.low, same.high) whole.order;
  each = rw (same.low, same.high, same.leaf) whole.each;
  follow = λ current. rw (is, same.start) (record { from_first = refl; first = refl; rising = ((some, tt), (tt, tt)); fits = omega arith });
}

-- the column with another leaf of versions of its keys
pub whole_with : (w : Whole) (leaf : List Version) → IsWhole w → ((v : Version) → Has leaf v → IsShortOf (bounds_from w.low w.high 0) v) → IsWhole (record w { leaf = leaf })
whole_with w leaf whole each = record { order = whole.order; each = each; follow = whole.follow }

pub short_push : (low : ℕ) (high : Option ℕ) (leaf leaf' : List Version) (v : Version) → leaf' ≡ leaf ++ v ∷ [] → ((w : Version) → Has leaf w → IsShortOf (bounds_from low high 0) w) → IsShortOf (bounds_from low high 0) v → (w : Version) → Has leaf' w → IsShortOf (bounds_from low high 0) w
short_push low high leaf leaf' v is each one w h = elim (Has-push_cases leaf v w (rw is at h)) [
  | inl old ↦ each w old
  | inr new ↦ subst (IsShortOf (bounds_from low high 0)) (sym new) one
]

-- the column after a time split
pub whole_split : (w w' : Whole) (part : Part) → IsWhole w → length w.parts.items ≤ 647 → part.start ≡ w.start → w.start < w'.start → w'.low ≡ w.low → w'.high ≡ w.high → w'.parts.items ≡ w.parts.items ++ part ∷ [] → ((v : Version) → Has w'.leaf v → Has w.leaf v) → IsWhole w'
whole_split w w' part whole few from forward low high is is_in = record {
  order = rw (low, high) whole.order;
  each = λ v h. rw (low, high) (whole.each v (is_in v h));
  follow = λ current.
      (let follow = whole.follow current in
      let starts : starts_of w'.parts.items ≡ starts_of w.parts.items ++ w.start ∷ [] = ap starts_of is ∙ starts_push w.parts.items part ∙ ap (λ s. starts_of w.parts.items ++ s ∷ []) from in
      let long : length w'.parts.items ≡ length w.parts.items + 1 = ap length is ∙ length-append w.parts.items (part ∷ []) in
      record {
        from_first = refl;
        first = rw starts (begins_push 0 (starts_of w.parts.items) w.start w'.start follow.first);
        rising = rw starts (ascending_push (starts_of w.parts.items) w.start w'.start follow.rising forward);
        fits = omega (arith, long, few);
      });
}

-- how many octets an entry takes that is short
pub short_small : (low : ℕ) (high : Option ℕ) (v : Version) (value : Option (List ℕ)) → v.value ≡ value → IsShortOf (bounds_from low high 0) v → entry_octets v ≤ 3131
short_small low high v None is short = rw is (omega arith)
short_small low high v (Some value) is short = let size = rw is at short.size in rw is (omega (arith, size))

pub are_small : (w : Whole) → IsWhole w → AreSmall w.leaf 3131
are_small w whole = record { small = λ v h. short_small w.low w.high v v.value refl (whole.each v h) }

-- each key is below the end of the keys
pub under_end : (low : ℕ) (high : Option ℕ) (v : Version) → IsShortOf (bounds_from low high 0) v → v.key < 2 ^ 320 → v.key < high_or high
under_end low None v short lt = lt
under_end low (Some n) v short lt = short.high

pub order_right : (low key : ℕ) (high : Option ℕ) → AreInOrder (bounds_from low high 0) → IfSome high (λ n. key < n) → AreInOrder (bounds_from key high 0)
order_right low key None order under = record { high = tt; end = tt }
order_right low key (Some n) order under = record { high = (order.high.0, under); end = tt }
