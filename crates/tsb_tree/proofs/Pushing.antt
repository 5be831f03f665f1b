-- A leaf that stands has room for a version or not.
use Rattle.std.proofs.Common.{◌≡◌, ℕ, ◌^◌, ◌+◌, ◌<◌, ◌≤◌, inl, inr, List, [], ◌∷◌, ◌++◌, length, Option, Some, None, IfSome, Bool, true, false, Ok, refl, sym, ◌∙◌, ap, subst, arith}
use Rattle.disk_models.specs.declared.once.OnceDisk.{Ghosts as OnceGhosts}
use Rattle.once_store.specs.declared.shelf.Shelf.{Shelf}
use Rattle.page_tx.specs.declared.pages.Pages.{Ghosts}
use Rattle.tsb_node.specs.Children.{IsKeyWithin}
use Rattle.tsb_node.specs.Leaves.{LeafNode, IsLeafPage, IsVersionOf, entries, entry}
use Rattle.tsb_node.specs.Pushing.{with_version, PushedTo, StaysUnlessPushed}
use Rattle.std.proofs.lemmas.Bool.{false≢true}
use Rattle.tsb_node.specs.Views.{PageRepresents, represents_leaf, keys_between}
use Rattle.tsb_node.proofs.Entries.{entry-size}
use Rattle.tsb_node.proofs.ViewLaws.{entries-octets}
use Rattle.tsb_node.proofs.api.Pages.{one_decoded}
use Rattle.tsb_walk.specs.declared.page_place.PagePlace.{PagePlace}
use Rattle.tsb_walk.specs.Refusals.{OnlyReads}
use Rattle.tsb_walk.specs.Shown.{RepresentNodes, HasKey, keys_at}
use Rattle.version_model.specs.Versions.{Version, Has, IsAbove}
use Rattle.version_model.specs.Ranges.{high_or}
use Rattle.version_model.specs.Pages.{Keys, ColumnNode, CurrentLeaf, ColumnRepresents, Store, NodeRepresentsIn, current_range}
use Rattle.version_model.specs.LeafVersions.{LeafRepresents}
use Rattle.version_model.specs.Sizes.{octets, entry_octets}
use Rattle.tsb_tree.specs.declared.whole.Whole.{Whole}
use Rattle.tsb_tree.specs.Read.{IsLeafOf, IsFilled}
use Rattle.tsb_tree.specs.Shapes.{leaf_in_page}
use Rattle.tsb_tree.specs.Takers.{CanTake}
use Rattle.tsb_tree.specs.Wholes.{IsAt, leaf_node}
use Rattle.tsb_tree.proofs.Columns.{column, represents_one, one_shown}
use Rattle.tsb_tree.proofs.GrowingWhole.{below_or, value_size}
use Rattle.tsb_tree.proofs.PlanningLeaf.{more}
use Rattle.tsb_tree.proofs.Representing.{LeafOf, leaf_of, each_get}
use Rattle.tsb_tree.proofs.Splitting.{found}
use Rattle.tsb_tree.proofs.Taking.{octets-push}

-- the same where pages were only read
abbrev pub can_after : {P O Pen Seen : Type 0} (pages : Ghosts P) (a b : P) (device : OnceGhosts O Pen Seen) (shelf : Shelf O Pen Seen) (s : Store) (all : List Version) (place : PagePlace) (v : Version) (F : Type 0) → OnlyReads pages a b F → CanTake pages a device shelf s all place v → CanTake pages b device shelf s all place v
can_after pages a b device shelf s all place v F reads can = record {
  start = can.start;
  shown = can.shown;
  is = record { shows = reads.shown can.start can.shown can.is.shows; reports = can.is.reports; limit = can.is.limit ∙ sym reads.next; honest = can.is.honest; represents_node = can.is.represents_node; next = can.is.next };
  represents_all = can.represents_all;
  above = can.above;
  bounded = can.bounded;
  inside = can.inside;
}

-- a key that isn't below a high key that there is
key_below : (high : Option ℕ) (key : ℕ) → key < 256 ^ 40 → IfSome high (λ n. key < n) → key < high_or high
key_below None key fits under = omega (arith, fits)
key_below (Some n) key fits under = under

-- what a leaf that stands has is among all versions
pub leaf_among : (all : List Version) (leaf : LeafNode) (octets : List ℕ) (k : Keys) (start : ℕ) (versions : List Version) → IsLeafPage leaf octets → CurrentLeaf (keys_between leaf.bounds) leaf.bounds.start leaf.versions ≡ CurrentLeaf k start versions
    → LeafRepresents all (current_range k start) versions → (x : Version) → Has leaf.versions x → Has all x
leaf_among all leaf octets k start versions page is shows x h =
    let of = each_get (IsVersionOf leaf.bounds) leaf.versions h.place x page.valid.each h.is in
    let keys : keys_between leaf.bounds ≡ k = cc in
    let same : leaf.versions ≡ versions = cc in
    let low : leaf.bounds.low ≡ k.low = ap (λ (y : Keys). y.low) keys in
    let high : high_or leaf.bounds.high ≡ k.high = ap (λ (y : Keys). y.high) keys in
    let under = key_below leaf.bounds.high x.key of.key of.short.high in
    shows.true_ones x (subst (λ (l : List Version). Has l x) same h) (record { low = omega (arith, low, of.short.low); high = omega (arith, high, under) }) (omega (arith, of.stamp))

some_version : (vs : List Version) → 0 < octets vs → (x : Version) × Has vs x
some_version [] some = absurd (omega (arith, some))
some_version (x ∷ vs) some = (x, record { place = 0; is = refl })

-- what a leaf's page represents with a version more
decoded_more : (leaf : LeafNode) (k : Keys) (start : ℕ) (versions : List Version) (v : Version) (new : List ℕ) → CurrentLeaf (keys_between leaf.bounds) leaf.bounds.start leaf.versions ≡ CurrentLeaf k start versions → IsLeafPage (with_version leaf v) new
    → PageRepresents new (CurrentLeaf k start (versions ++ v ∷ []))
decoded_more leaf k start versions v new is page =
    let e_keys : keys_between leaf.bounds ≡ k = cc in
    let e_start : leaf.bounds.start ≡ start = cc in
    let e_versions : leaf.versions ≡ versions = cc in
    let same : CurrentLeaf (keys_between leaf.bounds) leaf.bounds.start (leaf.versions ++ v ∷ []) ≡ CurrentLeaf k start (versions ++ v ∷ [])
    = ap (λ (x : Keys). CurrentLeaf x leaf.bounds.start (leaf.versions ++ v ∷ [])) e_keys ∙ ap (λ (x : ℕ). CurrentLeaf k x (leaf.versions ++ v ∷ [])) e_start ∙ ap (λ (x : List Version). CurrentLeaf k start (x ++ v ∷ [])) e_versions in
    subst (PageRepresents new) same (represents_leaf (with_version leaf v) page)

module _ (s : Store) (all : List Version) (place : PagePlace) (shown : List (List ℕ)) (level : place.level ≡ 1) (are : RepresentNodes shown s.nodes) (represents_all : NodeRepresentsIn s all place.level (keys_at place) place.page)
    (page : ℕ) (image : List ℕ) (of : IsLeafOf shown place page image) where
  abbrev pub standing : ColumnRepresents s.nodes s.limit s.blocks s.next all (keys_at place) place.page
  standing = column s all place shown level are represents_all

  pub current_is : page ≡ standing.current
  current_is =
      let same : ColumnNode (keys_at place) of.parts of.start page ≡ ColumnNode (keys_at place) standing.parts standing.start standing.current = represents_one shown place.page _ _ of.column (are place.page _ standing.at) in
      cc

  pub decoded_leaf : CurrentLeaf (keys_at place) of.start of.versions ≡ CurrentLeaf (keys_at place) standing.start standing.versions
  decoded_leaf = one_shown shown page image _ _ of.at of.represents_node (are page _ (ap s.nodes current_is ∙ standing.at_current))

  abbrev pub leaf_here : LeafOf image (keys_at place) standing.start standing.versions
  leaf_here = leaf_of image _ (keys_at place) standing.start standing.versions decoded_leaf of.represents_node

  pub within : (key : ℕ) → HasKey place key → IsKeyWithin leaf_here.leaf.bounds key
  within key has =
      let l = leaf_here in
      let keys : keys_between l.leaf.bounds ≡ keys_at place = (let is = l.is in cc) in
      let low : l.leaf.bounds.low ≡ place.low = ap (λ (y : Keys). y.low) keys in
      let high : high_or l.leaf.bounds.high ≡ high_or place.high = ap (λ (y : Keys). y.high) keys in
      record { low = omega (arith, low, has.low); high = below_or l.leaf.bounds.high key (omega (arith, high, has.high)) }

  pub above_leaf : (stamp : ℕ) → IsAbove all stamp → IsAbove leaf_here.leaf.versions stamp
  above_leaf stamp above = record { above = λ x h. above.above x (leaf_among all leaf_here.leaf image (keys_at place) standing.start standing.versions leaf_here.page leaf_here.is standing.shows x h) }

  pub pushed_represents : (v : Version) (new : List ℕ) → IsLeafPage (with_version leaf_here.leaf v) new → PageRepresents new (more s v all (keys_at place) place.page standing)
  pushed_represents v new is = decoded_more leaf_here.leaf (keys_at place) standing.start standing.versions v new leaf_here.is is

  pub filled_here : (v : Version) → 16232 < length (entries leaf_here.leaf.versions) + length (entry v) → IsFilled place image v
  filled_here v full =
      let l = leaf_here in
      let decoded : CurrentLeaf (keys_between l.leaf.bounds) l.leaf.bounds.start l.leaf.versions ≡ CurrentLeaf (keys_at place) standing.start standing.versions = l.is in
      let versions : l.leaf.versions ≡ standing.versions = cc in
      record { start = of.start; versions = of.versions; represents_node = of.represents_node; filled = (let same : standing.versions ≡ of.versions = (let e = decoded_leaf in cc) in omega (arith, full, entries-octets l.leaf.versions, entry-size v, value_size v.value, ap octets versions, ap octets same)) }

  pub room_here : (v : Version) (new : List ℕ) → IsLeafPage (with_version leaf_here.leaf v) new → octets of.versions + entry_octets v ≤ 16232
  room_here v new is =
      let l = leaf_here in
      let decoded : CurrentLeaf (keys_between l.leaf.bounds) l.leaf.bounds.start l.leaf.versions ≡ CurrentLeaf (keys_at place) standing.start standing.versions = l.is in
      let versions : l.leaf.versions ≡ standing.versions = cc in
      let same : standing.versions ≡ of.versions = (let e = decoded_leaf in cc) in
      let fits = is.valid.fits in
      omega (arith, fits, entries-octets (l.leaf.versions ++ v ∷ []), octets-push l.leaf.versions v, ap octets versions, ap octets same)

-- the keys and stamps of a column in memory that stands and whose leaf has no room for a version
module _ (s : Store) (all : List Version) (place : PagePlace) (current : ℕ) (image : List ℕ) (w : Whole) (v : Version) (at : IsAt s.nodes place.page current w) (represents_all : NodeRepresentsIn s all place.level (keys_at place) place.page) (leaf : IsLeafPage (leaf_in_page w) image) where
  pub whole_among : (x : Version) → Has w.leaf x → Has all x
  whole_among x h =
      let f = found s all place.level (keys_at place) place.page current w at represents_all in
      leaf_among all (leaf_in_page w) image _ w.start w.leaf leaf refl f.has.column.shows x h

  pub whole_forward : IsAbove all v.stamp → entry_octets v ≤ 3131 → IsFilled place image v → w.start < v.stamp
  whole_forward above small filled =
      let f = found s all place.level (keys_at place) place.page current w at represents_all in
      let decoded : CurrentLeaf (keys_at place) filled.start filled.versions ≡ leaf_node w = one_decoded image _ _ filled.represents_node (represents_leaf (leaf_in_page w) leaf) in
      let same : filled.versions ≡ w.leaf = cc in
      let some = some_version w.leaf (omega (arith, ap octets same, filled.filled, small)) in
      let before = above.above some.0 (whole_among some.0 some.1) in
      elim (f.has.started v.stamp above.above) [ inl lt ↦ lt | inr zero' ↦ omega (arith, zero', before) ]

-- what was pushed, by what was answered
pub pushed_true : (E : Type 0) (leaf : LeafNode) (v : Version) (page : List ℕ) (b : Bool) → b ≡ true → PushedTo {E = E} leaf v page (Ok b) → IsLeafPage (with_version leaf v) page
pushed_true E leaf v page true e is = is
pushed_true E leaf v page false e is = absurd (false≢true e)

pub pushed_false : (E : Type 0) (leaf : LeafNode) (v : Version) (page : List ℕ) (b : Bool) → b ≡ false → PushedTo {E = E} leaf v page (Ok b) → 16232 < length (entries leaf.versions) + length (entry v)
pushed_false E leaf v page true e is = absurd (false≢true (sym e))
pushed_false E leaf v page false e is = is

pub stays_false : (E : Type 0) (old new : List ℕ) (b : Bool) → b ≡ false → StaysUnlessPushed {E = E} old new (Ok b) → new ≡ old
stays_false E old new true e is = absurd (false≢true (sym e))
stays_false E old new false e is = is
