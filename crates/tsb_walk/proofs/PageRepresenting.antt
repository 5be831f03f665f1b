-- Where the tree stands, looks answer what its versions have, and no page is bad.
use Rattle.std.proofs.Common.{◌≡◌, ℕ, ◌<◌, ◌≤◌, List, Option, None, filter, length, inl, inr, ap, refl, sym, ◌∙◌, subst, arith}
use Rattle.std.proofs.lemmas.Option.{same_Some, slice_get_within}
use Rattle.version_model.specs.declared.part.Part.{Part}
use Rattle.version_model.specs.declared.part.Place.{Place}
use Rattle.version_model.specs.declared.child.Child.{Child}
use Rattle.version_model.specs.Versions.{Version, Answers, IsRising}
use Rattle.version_model.specs.Ranges.{IsPoint, range_of, high_or, stamp_end}
use Rattle.version_model.specs.LeafVersions.{LeafRepresents}
use Rattle.version_model.specs.Looks.{IsPart, IsReached, is_of, reached_to}
use Rattle.version_model.specs.Entries.{versions_of}
use Rattle.version_model.specs.Pages.{Keys, PageNode, CurrentLeaf, ColumnNode, KeyNode, Store, NodeRepresentsIn, PartsRepresent, IsChildOf, current_range}
use Rattle.version_model.proofs.api.Shown.{answers_shown}
use Rattle.version_model.proofs.api.LooksShown.{next_shown, reported_shown}
use Rattle.version_model.proofs.api.Representing.{column_of, key_node_of}
use Rattle.tsb_node.specs.Views.{PageRepresents, represents_leaf, represents_column, represents_key_node}
use Rattle.tsb_node.proofs.api.Pages.{one_decoded}
use Rattle.tsb_node.specs.declared.column.Current.{Current}
use Rattle.tsb_walk.specs.declared.looks.Found.{Found}
use Rattle.tsb_walk.specs.declared.looks.KeyVersions.{KeyVersions}
use Rattle.tsb_walk.specs.declared.looks.Reached.{Reached}
use Rattle.tsb_walk.specs.declared.looks.Reached.TheVariants.{At, Past, End}
use Rattle.tsb_walk.specs.declared.page_looks.ColumnAt.{ColumnAt}
use Rattle.tsb_walk.specs.declared.page_steps.ColumnSpot.TheVariants.{InLeaf, InPast}
use Rattle.tsb_walk.specs.declared.page_place.PagePlace.{PagePlace}
use Rattle.tsb_walk.specs.Answers.{found_as, reached_as}
use Rattle.tsb_walk.specs.Borders.{ReachesTo}
use Rattle.tsb_walk.specs.Looked.{GoesOnIn}
use Rattle.tsb_walk.specs.Shown.{RepresentsNode, RepresentsShown, keys_at}
use Rattle.tsb_walk.specs.PageWays.{IsLed, PageWay, here, further, ComesToColumn}
use Rattle.tsb_walk.specs.PageLooks.{IsBadLook, bad_key_node, bad_column, bad_leaf}
use Rattle.tsb_walk.specs.inner.ColumnSpots.{IsThere}
use Rattle.tsb_walk.specs.inner.PageSteps.{IsSpotOf}

-- a page that is shown represents one thing
pub represents_one : (shown : List (List ℕ)) (page : ℕ) (a b : PageNode) → RepresentsNode shown page a → RepresentsNode shown page b → a ≡ b
represents_one shown page a b p q = one_decoded q.octets a b (subst (λ (o : List ℕ). PageRepresents o a) (same_Some _ _ (sym p.at ∙ q.at)) p.represents_node) q.represents_node

-- the versions of a current leaf are in the order of their stamps
rising_in : (octets : List ℕ) (node : PageNode) → PageRepresents octets node → (keys : Keys) (start : ℕ) (versions : List Version) → node ≡ CurrentLeaf keys start versions → IsRising versions
rising_in octets _ (represents_leaf leaf is) keys start versions e =
    let v : leaf.versions ≡ versions = cc in
    subst IsRising v is.valid.rising
rising_in octets _ (represents_column column is) keys start versions e = absurd (cc)
rising_in octets _ (represents_key_node node is) keys start versions e = absurd (cc)

within_high : (reached : Reached) (high : ℕ) → ReachesTo high reached → reached_to (reached_as reached) ≤ high
within_high (At key found) high to = to
within_high (Past past) high to = omega (arith, to)
within_high End high to = omega (arith, to)

module _ (shown : List (List ℕ)) (s : Store) (all : List Version) where
  -- a child of a key node that stands stands
  lower_represents : (key : ℕ) (place next : PagePlace) → IsLed shown key place next → RepresentsShown shown s all place → RepresentsShown shown s all next
  lower_represents key place next led st =
      let k = key_node_of s.nodes s.limit s.blocks s.next all place.level (keys_at place) place.page led.above st.represents_all in
      let represents_node : RepresentsNode shown place.page (KeyNode place.level (keys_at place) k.children) = subst (λ (m : ℕ). RepresentsNode shown place.page (KeyNode m (keys_at place) k.children)) (sym k.is) (st.are_shown place.page _ k.at) in
      let lower = led.lower k.children represents_node in
      let same = represents_one shown place.page (KeyNode place.level (keys_at place) k.children) (KeyNode place.level (keys_at place) lower.children) represents_node lower.represents_node in
      let children : k.children ≡ lower.children = cc in
      let child : IsChildOf (keys_at place) k.children (keys_at next) (record { low = next.low; page = next.page }) =
      subst (λ (cs : List Child). IsChildOf (keys_at place) cs (keys_at next) (record { low = next.low; page = next.page })) (sym children) lower.child in
      let level : k.level ≡ next.level = omega (arith, k.is, led.level) in
      record { are_shown = st.are_shown; represents_all = subst (λ (m : ℕ). NodeRepresentsIn s all m (keys_at next) next.page) level (k.stand (keys_at next) (record { low = next.low; page = next.page }) child) }

  pub way_represents : (key : ℕ) (first last : PagePlace) → PageWay shown key first last → RepresentsShown shown s all first → RepresentsShown shown s all last
  way_represents key _ _ (here place) st = st
  way_represents key _ _ (further first place next way led) st = lower_represents key place next led (way_represents key first place way st)

  -- a column that stands, by its parts and its current leaf
  pub record ColumnRepresented (column : PagePlace) : Type 0 where
    pub parts : List Part
    pub start : ℕ
    pub current : ℕ
    pub versions : List Version
    pub column_represents : RepresentsNode shown column.page (ColumnNode (keys_at column) parts start current)
    pub leaf_represents : RepresentsNode shown current (CurrentLeaf (keys_at column) start versions)
    pub shows : LeafRepresents all (current_range (keys_at column) start) versions
    pub past : PartsRepresent s.blocks s.next all (keys_at column) start parts

  pub column_shown : (root : PagePlace) (key : ℕ) (column : PagePlace) → ComesToColumn shown root key column → RepresentsShown shown s all root → ColumnRepresented column
  column_shown root key column comes root_represents =
      let st = way_represents key root column comes.way root_represents in
      let c = column_of s.nodes s.limit s.blocks s.next all column.level (keys_at column) column.page comes.lowest st.represents_all in
      record { parts = c.parts; start = c.start; current = c.current; versions = c.versions; column_represents = st.are_shown column.page _ c.at; leaf_represents = st.are_shown c.current _ c.at_current; shows = c.shows; past = c.past }

  pub none_bad : (root : PagePlace) (key stamp page : ℕ) → IsBadLook shown root key stamp page → RepresentsShown shown s all root → ⊥
  none_bad root key stamp _ (bad_key_node last way above bad) st =
      (let l = way_represents key root last way st in
      let k = key_node_of s.nodes s.limit s.blocks s.next all last.level (keys_at last) last.page above l.represents_all in
      bad k.children (subst (λ (m : ℕ). RepresentsNode shown last.page (KeyNode m (keys_at last) k.children)) (sym k.is) (l.are_shown last.page _ k.at)))
  none_bad root key stamp _ (bad_column last way low bad) st =
      (let l = way_represents key root last way st in
      let c = column_of s.nodes s.limit s.blocks s.next all last.level (keys_at last) last.page low l.represents_all in
      bad c.parts c.start c.current (l.are_shown last.page _ c.at))
  none_bad root key stamp _ (bad_leaf column start page comes has bad) st =
      (let c = column_shown root key column comes st in
      let h = has c.parts c.start c.current c.column_represents in
      bad c.versions (subst (λ (n : ℕ). RepresentsNode shown n (CurrentLeaf (keys_at column) start c.versions)) (sym h.1) (subst (λ (b : ℕ). RepresentsNode shown c.current (CurrentLeaf (keys_at column) b c.versions)) (sym h.0) c.leaf_represents)))

  -- ---- what the current leaf has that a look comes to

  module _ (root : PagePlace) (key stamp : ℕ) (at : ColumnAt) (there : IsThere shown root key stamp at) (st : RepresentsShown shown s all root) where
    column_here : ColumnRepresented at.column
    column_here = column_shown root key at.column there.comes st

    spot_here : IsSpotOf at.column column_here.parts column_here.start column_here.current key stamp at.spot
    spot_here = there.spot column_here.parts column_here.start column_here.current column_here.column_represents

    -- the leaf that a look comes to shows the versions, and has the key and the stamp
    record LeafHere (leaf : Current) : Type 0 where
      pub represents_node : RepresentsNode shown leaf.page (CurrentLeaf (keys_at at.column) leaf.start column_here.versions)
      pub point : IsPoint (current_range (keys_at at.column) column_here.start) key stamp

    leaf_here : (leaf : Current) → at.spot ≡ InLeaf leaf → stamp < stamp_end → LeafHere leaf
    leaf_here leaf e fits =
        let spot : IsSpotOf at.column column_here.parts column_here.start column_here.current key stamp (InLeaf leaf) =
        subst (IsSpotOf at.column column_here.parts column_here.start column_here.current key stamp) e spot_here in
        record {
          represents_node = subst (λ (n : ℕ). RepresentsNode shown n (CurrentLeaf (keys_at at.column) leaf.start column_here.versions)) (sym spot.1)
              (subst (λ (b : ℕ). RepresentsNode shown column_here.current (CurrentLeaf (keys_at at.column) b column_here.versions)) (sym spot.0) column_here.leaf_represents);
          point = record { low = there.comes.has.low; high = there.comes.has.high; start = spot.2; end = fits };
        }

    pub looked_here : (leaf : Current) → at.spot ≡ InLeaf leaf → stamp < stamp_end → (reached : Reached)
        → ((versions : List Version) → RepresentsNode shown leaf.page (CurrentLeaf (keys_at at.column) leaf.start versions) → IsReached versions stamp key (reached_as reached)) → ReachesTo (high_or at.column.high) reached
        → IsReached all stamp key (reached_as reached)
    looked_here leaf e fits reached is border =
        let l = leaf_here leaf e fits in
        next_shown all (current_range (keys_at at.column) column_here.start) column_here.versions column_here.shows stamp key (reached_as reached) l.point (within_high reached _ border) (is column_here.versions l.represents_node)

    pub parted_here : (leaf : Current) → at.spot ≡ InLeaf leaf → stamp < stamp_end → IsRising all → (part : KeyVersions)
        → ((versions : List Version) → RepresentsNode shown leaf.page (CurrentLeaf (keys_at at.column) leaf.start versions) → versions_of part.entries.items ≡ filter (is_of key stamp stamp_end) versions) → part.reported ≡ None
        → IsPart all key stamp (versions_of part.entries.items) part.reported
    parted_here leaf e fits rising part is reported =
        let l = leaf_here leaf e fits in
        let all_reported = reported_shown all (current_range (keys_at at.column) column_here.start) column_here.versions column_here.shows key stamp None l.point rising
        (rising_in column_here.leaf_represents.octets _ column_here.leaf_represents.represents_node (keys_at at.column) column_here.start column_here.versions refl) fits (omega arith) in
        subst (λ (t : Option ℕ). IsPart all key stamp (versions_of part.entries.items) t) (sym reported) (subst (λ (vs : List Version). IsPart all key stamp vs None) (sym (is column_here.versions l.represents_node)) all_reported)

    pub descended_here : (leaf : Current) → at.spot ≡ InLeaf leaf → stamp < stamp_end → (found : Option Found)
        → ((versions : List Version) → RepresentsNode shown leaf.page (CurrentLeaf (keys_at at.column) leaf.start versions) → Answers versions key stamp (found_as found)) → Answers all key stamp (found_as found)
    descended_here leaf e fits found is =
        let l = leaf_here leaf e fits in
        answers_shown all (current_range (keys_at at.column) column_here.start) column_here.versions column_here.shows key stamp (found_as found) (record { low = l.point.low; high = l.point.high }) l.point.start l.point.end (is column_here.versions l.represents_node)

    -- a place in the past that a look comes to stands there
    pub goes_on_here : (place : Place) → at.spot ≡ InPast place → GoesOnIn s.blocks all key stamp place
    goes_on_here place e =
        let spot : IsSpotOf at.column column_here.parts column_here.start column_here.current key stamp (InPast place) =
        subst (IsSpotOf at.column column_here.parts column_here.start column_here.current key stamp) e spot_here in
        record { point = spot.1; represents_all = column_here.past.stand (range_of place.bounds) place.part spot.0 }

    -- in a block that is in use
    pub below_here : (place : Place) → at.spot ≡ InPast place → place.part.block < s.next
    below_here place e =
        let spot : IsSpotOf at.column column_here.parts column_here.start column_here.current key stamp (InPast place) =
        subst (IsSpotOf at.column column_here.parts column_here.start column_here.current key stamp) e spot_here in
        elim column_here.past.are_parts [
          | inl none ↦ absurd (
              let within = slice_get_within column_here.parts spot.0.place place.part spot.0.at in
              let empty : length column_here.parts ≡ 0 = ap length none.0 in
              omega (arith, within, empty))
          | inr are ↦ are.lower spot.0.place place.part spot.0.at
        ]
