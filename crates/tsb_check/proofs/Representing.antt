-- Where the root stands, what is counted is how many versions there are, and nothing is bad.
use Rattle.std.proofs.Common.{◌≡◌, ℕ, zero, suc, ◌+◌, ◌-◌, ◌<◌, ◌≤◌, ◌⊎◌, inl, inr, List, [], ◌∷◌, Option, Some, slice_get, length, refl, sym, ◌∙◌, ap, subst, arith}
use Rattle.std.proofs.lemmas.Option.{same_Some, none-some}
use Rattle.std.specs.List.{AllByRecursion}
use Rattle.version_model.specs.declared.bounds.Bounds.{Bounds}
use Rattle.version_model.specs.declared.part.Part.{Part}
use Rattle.version_model.specs.declared.part.Place.{Place}
use Rattle.version_model.specs.declared.child.Child.{Child}
use Rattle.version_model.specs.Versions.{Version, IsRising}
use Rattle.version_model.specs.Ranges.{Range, range_of, high_or, stamp_end}
use Rattle.version_model.specs.Blocks.{BlockNode, OldLeaf, OldColumn, AreParts, PartRepresents, PlaceRepresents, range_at}
use Rattle.version_model.specs.Pages.{Keys, PageNode, CurrentLeaf, ColumnNode, KeyNode, Store, NodeRepresents, NodeRepresentsIn, TreeRepresents, column, key_node, PartsRepresent, AreChildren, all_keys, child_keys, current_range, past_range}
use Rattle.version_model.specs.Counts.{NodeCounts, column_counts, children_count, PartCounts, count_in, sum_of}
use Rattle.version_model.proofs.api.Representing.{column_of, key_node_of}
use Rattle.version_model.proofs.api.Counting.{tree_counted}
use Rattle.tsb_node.specs.Views.{PageRepresents, BlockRepresents, represents_leaf, represents_column, represents_key_node}
use Rattle.tsb_walk.specs.declared.page_place.PagePlace.{PagePlace}
use Rattle.tsb_walk.specs.Knowing.{IsKnown, AreKnown}
use Rattle.tsb_walk.specs.Shown.{RepresentsNode, RepresentNodes, keys_at}
use Rattle.tsb_walk.proofs.PageRepresenting.{represents_one}
use Rattle.tsb_check.proofs.OnePage.{high_level}
use Rattle.tsb_walk.proofs.Walking.{node_of, represents_block, SuitsPart}
use Rattle.tsb_check.specs.Counted.{AreCounted, IsReached, at_first, in_column, MeetUnknown, MeetDamage, IsOneOf, IsSoundFor, AreLower, places_of}
use Rattle.tsb_check.specs.Pages.{AreCountedUnder, none_under, column_under, children_under, IsUnder, at_top, as_child, IsColumnUnder, IsBadUnder, no_key_node, no_column, no_leaf, IsUnknownUnder, IsDamagedUnder, past_of, places_under}
use Rattle.tsb_check.proofs.Stacks.{all_at}
use Rattle.tsb_check.proofs.Placed.{length-children, child_at, children_are, length-places, placed_at, places_are}
use Rattle.tsb_check.proofs.Counts.{parts_counted, inner_represent}

-- the versions of a current leaf rise
rising_in : (octets : List ℕ) (node : PageNode) → PageRepresents octets node → (keys : Keys) (start : ℕ) (versions : List Version) → node ≡ CurrentLeaf keys start versions → IsRising versions
rising_in octets _ (represents_leaf leaf is) keys start versions e =
    let v : leaf.versions ≡ versions = cc in
    subst IsRising v is.valid.rising
rising_in octets _ (represents_column c is) keys start versions e = absurd (cc)
rising_in octets _ (represents_key_node node is) keys start versions e = absurd (cc)

-- the current leaf of a column starts at a stamp
start_in : (octets : List ℕ) (node : PageNode) → PageRepresents octets node → (keys : Keys) (parts : List Part) (start current : ℕ) → node ≡ ColumnNode keys parts start current → start ≤ stamp_end
start_in octets _ (represents_leaf leaf is) keys parts start current e = absurd (cc)
start_in octets _ (represents_column c is) keys parts start current e =
    let s : c.current.start ≡ start = cc in
    omega (arith, s, is.valid.current_start)
start_in octets _ (represents_key_node node is) keys parts start current e = absurd (cc)

-- ---- the past

module _ (known : ℕ → Option (List ℕ)) (count : ℕ) (blocks : ℕ → Option BlockNode) (are : AreKnown known count blocks) (all : List Version) where
  pub reached_represents : (places : List Place) (place : Place) → IsReached known count places place → AllByRecursion (PlaceRepresents blocks all) places → PlaceRepresents blocks all place
  reached_represents places _ (at_first place is) stand = all_at (PlaceRepresents blocks all) places place stand is
  reached_represents places _ (in_column place next octets parts reached is col lower one) stand =
      all_at (PlaceRepresents blocks all) (places_of place.bounds parts) next (inner_represent known count blocks are all place (reached_represents places place reached stand) octets parts is col) one

  pub none_unknown : (places : List Place) → MeetUnknown known count places → AllByRecursion (PlaceRepresents blocks all) places → ⊥
  none_unknown places meet stand =
      let block = represents_block known count blocks are all meet.place (reached_represents places meet.place meet.reached stand) in
      meet.unknown block.0 block.1

  all_lower : (block : ℕ) (parts : List Part) → ((i : ℕ) (part : Part) → slice_get parts i ≡ Some part → part.block < block) → AreLower block parts
  all_lower block [] each = tt
  all_lower block (p ∷ ps) each = (each zero p refl, all_lower block ps (λ i part at. each (suc i) part at))

  sound_as : (place : Place) (octets : List ℕ) (node : BlockNode) → BlockRepresents octets node → SuitsPart (range_of place.bounds) place.part node → IsSoundFor place octets
  sound_as place octets (OldLeaf wide versions) represents_node suits = inl (versions, record { wide = wide; kind = suits.0; represents_node = represents_node; wider = suits.1 })
  sound_as place octets (OldColumn wide parts) represents_node suits = inr (parts, record { wide = wide; kind = suits.0; represents_node = represents_node; wider = suits.1 }, all_lower place.part.block parts suits.2.lower)

  pub none_damaged : (places : List Place) (block : ℕ) → MeetDamage known count places block → AllByRecursion (PlaceRepresents blocks all) places → ⊥
  none_damaged places block meet stand =
      let st = reached_represents places meet.place meet.reached stand in
      let node = node_of blocks all (range_of meet.place.bounds) meet.place.part st in
      let decoded = are.represents_node meet.place.part.block node.0 node.1 in
      meet.unsound decoded.0 decoded.1 (sound_as meet.place decoded.0 node.0 decoded.2 node.2)

-- ---- the pages

level_some : (s : Store) (all : List Version) (level : ℕ) (keys : Keys) (page : ℕ) → NodeRepresentsIn s all level keys page → 0 < level
level_some s all _ _ _ (column keys page c) = omega arith
level_some s all _ _ _ (key_node level keys page children inside at are stand) = omega arith

pub in_limit : (s : Store) (all : List Version) (level : ℕ) (keys : Keys) (page : ℕ) → NodeRepresentsIn s all level keys page → page < s.limit
in_limit s all _ _ _ (column keys page c) = c.in_limit
in_limit s all _ _ _ (key_node level keys page children inside at are stand) = inside

-- what stands is a column, or above
above_one : (s : Store) (all : List Version) (level : ℕ) (keys : Keys) (page : ℕ) → NodeRepresentsIn s all level keys page → (level ≡ 1 → ⊥) → 1 < level
above_one s all _ _ _ (column keys page c) not = absurd (not refl)
above_one s all _ _ _ (key_node level keys page children inside at are stand) not =
    let some : 0 < level = level_some s all level (child_keys keys children 0 are.first) are.first.page (stand (child_keys keys children 0 are.first) are.first (record { place = 0; at = are.at_first; range = refl })) in
    omega (arith, some)

module _ (shown : List (List ℕ)) (s : Store) (all : List Version) (are_shown : RepresentNodes shown s.nodes) where
  abbrev pub PlaceIn : PagePlace → Type 0
  PlaceIn place = NodeRepresentsIn s all place.level (keys_at place) place.page

  -- a column that stands, by what its page represents
  pub record ColumnIn (place : PagePlace) (parts : List Part) (start current : ℕ) : Type 0 where
    pub versions : List Version
    pub at : s.nodes place.page ≡ Some (ColumnNode (keys_at place) parts start current)
    pub at_current : s.nodes current ≡ Some (CurrentLeaf (keys_at place) start versions)
    pub current_in_limit : current < s.limit
    pub past : PartsRepresent s.blocks s.next all (keys_at place) start parts

  column_represents_in : (place : PagePlace) (parts : List Part) (start current : ℕ) → place.level ≡ 1 → RepresentsNode shown place.page (ColumnNode (keys_at place) parts start current) → PlaceIn place → ColumnIn place parts start current
  column_represents_in place parts start current level represents_node represents_all =
      let c = column_of s.nodes s.limit s.blocks s.next all place.level (keys_at place) place.page level represents_all in
      let same = represents_one shown place.page (ColumnNode (keys_at place) c.parts c.start c.current) (ColumnNode (keys_at place) parts start current) (are_shown place.page _ c.at) represents_node in
      let ps : c.parts ≡ parts = cc in
      let b : c.start ≡ start = cc in
      let n : c.current ≡ current = cc in
      record {
        versions = c.versions;
        at = c.at ∙ ap Some same;
        at_current = subst (λ (x : ℕ). s.nodes x ≡ Some (CurrentLeaf (keys_at place) start c.versions)) n (c.at_current ∙ ap (λ (x : ℕ). Some (CurrentLeaf (keys_at place) x c.versions)) b);
        current_in_limit = subst (λ (x : ℕ). x < s.limit) n c.current_in_limit;
        past = subst (λ (x : ℕ). PartsRepresent s.blocks s.next all (keys_at place) x parts) b (subst (λ (x : List Part). PartsRepresent s.blocks s.next all (keys_at place) c.start x) ps c.past);
      }

  past_represents : (place : PagePlace) (parts : List Part) (start : ℕ) → PartsRepresent s.blocks s.next all (keys_at place) start parts → AllByRecursion (PlaceRepresents s.blocks all) (past_of place parts start)
  past_represents place parts start past =
      places_are (PartRepresents s.blocks all) (record { low = place.low; high = place.high; start = 0; end = Some start }) parts
      (λ i part at. past.stand (range_at (past_range (keys_at place) start) parts i part) part (record { place = i; at = at; range = refl }))

  record KeyNodeIn (place : PagePlace) (children : List Child) : Type 0 where
    pub level : ℕ
    pub is : place.level ≡ suc level
    pub at : s.nodes place.page ≡ Some (KeyNode (suc level) (keys_at place) children)
    pub are : AreChildren (keys_at place) children
    pub stand : (i : ℕ) (child : Child) → slice_get children i ≡ Some child → NodeRepresentsIn s all level (child_keys (keys_at place) children i child) child.page

  key_node_in : (place : PagePlace) (children : List Child) → RepresentsNode shown place.page (KeyNode place.level (keys_at place) children) → PlaceIn place → KeyNodeIn place children
  key_node_in place children represents_node represents_all =
      let high = high_level represents_node.octets _ represents_node.represents_node place.level (keys_at place) children refl in
      let k = key_node_of s.nodes s.limit s.blocks s.next all place.level (keys_at place) place.page high represents_all in
      let same = represents_one shown place.page (KeyNode (suc k.level) (keys_at place) k.children) (KeyNode place.level (keys_at place) children) (are_shown place.page _ k.at) represents_node in
      let cs : k.children ≡ children = cc in
      record {
        level = k.level;
        is = k.is;
        at = k.at ∙ ap (λ (x : List Child). Some (KeyNode (suc k.level) (keys_at place) x)) cs;
        are = subst (AreChildren (keys_at place)) cs k.are;
        stand = λ i child at. (let at' : slice_get k.children i ≡ Some child = ap (λ (x : List Child). slice_get x i) cs ∙ at in
            subst (λ (x : List Child). NodeRepresentsIn s all k.level (child_keys (keys_at place) x i child) child.page) cs
            (k.stand (child_keys (keys_at place) k.children i child) child (record { place = i; at = at'; range = refl })));
      }

  children_represent : (place : PagePlace) (children : List Child) → RepresentsNode shown place.page (KeyNode place.level (keys_at place) children) → PlaceIn place → AllByRecursion PlaceIn (places_under place children)
  children_represent place children represents_node represents_all =
      let k = key_node_in place children represents_node represents_all in
      let level : k.level ≡ place.level - 1 = omega (arith, k.is) in
      children_are (λ l keys page. NodeRepresentsIn s all l keys page) (place.level - 1) place.low place.high children
      (λ i child at. subst (λ (l : ℕ). NodeRepresentsIn s all l (child_keys (keys_at place) children i child) child.page) level (k.stand i child at))

  pub under_represents : (places : List PagePlace) (place : PagePlace) → IsUnder shown places place → AllByRecursion PlaceIn places → PlaceIn place
  under_represents places _ (at_top place is) stand = all_at PlaceIn places place stand is
  under_represents places _ (as_child place next children under represents_node one) stand =
      all_at PlaceIn (places_under place children) next (children_represent place children represents_node (under_represents places place under stand)) one

  pub column_under_represents : (places : List PagePlace) (place : PagePlace) (parts : List Part) (start current : ℕ) → IsColumnUnder shown places place parts start current → AllByRecursion PlaceIn places → ColumnIn place parts start current
  column_under_represents places place parts start current is stand = column_represents_in place parts start current is.lowest is.represents_node (under_represents places place is.under stand)

  pub none_bad : (places : List PagePlace) (page : ℕ) → IsBadUnder shown places page → AllByRecursion PlaceIn places → ⊥
  none_bad places _ (no_key_node place under high bad) stand = not_key_node place (under_represents places place under stand) high bad
    where
      not_key_node : (p : PagePlace) → PlaceIn p → (p.level ≡ 1 → ⊥) → ((children : List Child) → RepresentsNode shown p.page (KeyNode p.level (keys_at p) children) → ⊥) → ⊥
      not_key_node p st high never =
          let above : 1 < p.level = above_one s all p.level (keys_at p) p.page st high in
          let k = key_node_of s.nodes s.limit s.blocks s.next all p.level (keys_at p) p.page above st in
          never k.children (subst (λ (m : ℕ). RepresentsNode shown p.page (KeyNode m (keys_at p) k.children)) (sym k.is) (are_shown p.page _ k.at))
  none_bad places _ (no_column place under low bad) stand =
      (let c = column_of s.nodes s.limit s.blocks s.next all place.level (keys_at place) place.page low (under_represents places place under stand) in
      bad c.parts c.start c.current (are_shown place.page _ c.at))
  none_bad places _ (no_leaf place parts start current is bad) stand =
      (let c = column_under_represents places place parts start current is stand in bad c.versions (are_shown current _ c.at_current))

  module _ (known : ℕ → Option (List ℕ)) (count : ℕ) (are : AreKnown known count s.blocks) where
    pub none_unknown_under : (places : List PagePlace) → IsUnknownUnder shown known count places → AllByRecursion PlaceIn places → ⊥
    none_unknown_under places meet stand =
        let c = column_under_represents places meet.column meet.parts meet.start meet.current meet.is stand in
        none_unknown known count s.blocks are all (past_of meet.column meet.parts meet.start) meet.unknown (past_represents meet.column meet.parts meet.start c.past)

    pub none_damaged_under : (places : List PagePlace) (block : ℕ) → IsDamagedUnder shown known count places block → AllByRecursion PlaceIn places → ⊥
    none_damaged_under places block meet stand =
        let c = column_under_represents places meet.column meet.parts meet.start meet.current meet.is stand in
        none_damaged known count s.blocks are all (past_of meet.column meet.parts meet.start) block meet.damage (past_represents meet.column meet.parts meet.start c.past)

    abbrev Counts : PagePlace → ℕ → Type 0
    Counts p m = NodeCounts s.nodes s.limit s.blocks s.next p.level (keys_at p) p.page m

    pub record NodesCount (places : List PagePlace) (n : ℕ) : Type 0 where
      pub ns : List ℕ
      pub same : length ns ≡ length places
      pub sum : sum_of ns ≡ n
      pub each : (i : ℕ) (p : PagePlace) (m : ℕ) → slice_get places i ≡ Some p → slice_get ns i ≡ Some m → Counts p m

    one_more : (place : PagePlace) (rest : List PagePlace) (c m : ℕ) → Counts place c → NodesCount rest m → NodesCount (place ∷ rest) (c + m)
    one_more place rest c m here rests = record {
      ns = c ∷ rests.ns;
      same = omega (arith, rests.same);
      sum = omega (arith, rests.sum);
      each = each;
    }
      where
        each : (i : ℕ) (p : PagePlace) (k : ℕ) → slice_get (place ∷ rest) i ≡ Some p → slice_get (c ∷ rests.ns) i ≡ Some k → Counts p k
        each zero p k at_place at_n = subst (Counts p) (same_Some c k at_n) (subst (λ (q : PagePlace). Counts q c) (same_Some place p at_place) here)
        each (suc i) p k at_place at_n = rests.each i p k at_place at_n

    column_counts_in : (place : PagePlace) (parts : List Part) (start current : ℕ) (versions : List Version) (n : ℕ) → place.level ≡ 1 → RepresentsNode shown place.page (ColumnNode (keys_at place) parts start current)
        → RepresentsNode shown current (CurrentLeaf (keys_at place) start versions) → AreCounted known count (past_of place parts start) n → PlaceIn place → Counts place (n + count_in versions (current_range (keys_at place) start))
    column_counts_in place parts start current versions n level represents_node leaf counted represents_all =
        let k = keys_at place in
        let c = column_represents_in place parts start current level represents_node represents_all in
        let counts = parts_counted known count s.blocks are all (past_of place parts start) n counted (past_represents place parts start c.past) in
        let same = represents_one shown current (CurrentLeaf k start c.versions) (CurrentLeaf k start versions) (are_shown current _ c.at_current) leaf in
        let rising = rising_in leaf.octets _ leaf.represents_node k start versions refl in
        let in_time = start_in represents_node.octets _ represents_node.represents_node k parts start current refl in
        let bounds : Bounds = record { low = place.low; high = place.high; start = 0; end = Some start } in
        let here : NodeCounts s.nodes s.limit s.blocks s.next 1 k place.page (sum_of counts.ns + count_in versions (current_range k start)) =
        column_counts k place.page parts current start versions counts.ns (in_limit s all place.level k place.page represents_all) c.current_in_limit in_time c.at (c.at_current ∙ ap Some same) rising c.past.are_parts
        (counts.same ∙ length-places bounds parts)
        (λ i part m at_part at_n. (let p = placed_at bounds parts i part at_part in
        subst (λ (r : Range). PartCounts s.blocks r part m) p.range (subst (λ (q : Part). PartCounts s.blocks (range_of p.place.bounds) q m) p.part_is (counts.each i p.place m p.at at_n)))) in
        subst (λ (l : ℕ). NodeCounts s.nodes s.limit s.blocks s.next l k place.page (n + count_in versions (current_range k start))) (sym level)
        (subst (λ (x : ℕ). NodeCounts s.nodes s.limit s.blocks s.next 1 k place.page (x + count_in versions (current_range k start))) counts.sum here)

    children_counts_in : (place : PagePlace) (children : List Child) (n : ℕ) → RepresentsNode shown place.page (KeyNode place.level (keys_at place) children) → PlaceIn place → NodesCount (places_under place children) n → Counts place n
    children_counts_in place children n represents_node represents_all counts =
        let keys = keys_at place in
        let k = key_node_in place children represents_node represents_all in
        let here : NodeCounts s.nodes s.limit s.blocks s.next (suc k.level) keys place.page (sum_of counts.ns) =
        children_count k.level keys place.page children counts.ns (in_limit s all place.level keys place.page represents_all) k.at k.are (counts.same ∙ length-children (place.level - 1) place.high children)
        (λ i child m at_child at_n. (let p = child_at (place.level - 1) place.low place.high children i child at_child in
        let level : p.place.level ≡ k.level = omega (arith, p.level_is, k.is) in
        subst (λ (l : ℕ). NodeCounts s.nodes s.limit s.blocks s.next l (child_keys keys children i child) child.page m) level
        (subst (λ (q : ℕ). NodeCounts s.nodes s.limit s.blocks s.next p.place.level (child_keys keys children i child) q m) p.page
        (subst (λ (x : Keys). NodeCounts s.nodes s.limit s.blocks s.next p.place.level x p.place.page m) p.keys (counts.each i p.place m p.at at_n))))) in
        subst (λ (l : ℕ). NodeCounts s.nodes s.limit s.blocks s.next l keys place.page n) (sym k.is)
        (subst (λ (x : ℕ). NodeCounts s.nodes s.limit s.blocks s.next (suc k.level) keys place.page x) counts.sum here)

    pub nodes_counted : (places : List PagePlace) (n : ℕ) → AreCountedUnder shown known count places n → AllByRecursion PlaceIn places → NodesCount places n
    nodes_counted _ _ none_under stand = record { ns = []; same = refl; sum = refl; each = λ i p m at_place at_n. absurd (none-some p at_place) }
    nodes_counted _ _ (column_under place rest parts start current versions n m level represents_node leaf counted rests) stand =
        one_more place rest (n + count_in versions (current_range (keys_at place) start)) m (column_counts_in place parts start current versions n level represents_node leaf counted stand.0) (nodes_counted rest m rests stand.1)
    nodes_counted _ _ (children_under place rest children n m represents_node inner rests) stand =
        one_more place rest n m (children_counts_in place children n represents_node stand.0 (nodes_counted (places_under place children) n inner (children_represent place children represents_node stand.0))) (nodes_counted rest m rests stand.1)

    -- what is counted under the root of a tree is how many versions it represents
    pub tree_reported : (root : PagePlace) (n : ℕ) → keys_at root ≡ all_keys → TreeRepresents s all root.page root.level → AreCountedUnder shown known count (root ∷ []) n → n ≡ length all
    tree_reported root n keys tree counted =
        let represents_all : PlaceIn root = subst (λ (k : Keys). NodeRepresentsIn s all root.level k root.page) (sym keys) tree.represents_all in
        let counts = nodes_counted (root ∷ []) n counted (represents_all, tt) in
        one_node root n keys tree counts.ns counts.same counts.sum counts.each
      where
        no_more : (ms : List ℕ) → length ms ≡ 0 → ms ≡ []
        no_more [] e = refl
        no_more (x ∷ xs) e = absurd (omega (arith, e))

        one_node : (root : PagePlace) (n : ℕ) → keys_at root ≡ all_keys → TreeRepresents s all root.page root.level → (ns : List ℕ) → length ns ≡ 1 → sum_of ns ≡ n
            → ((i : ℕ) (p : PagePlace) (m : ℕ) → slice_get (root ∷ []) i ≡ Some p → slice_get ns i ≡ Some m → Counts p m) → n ≡ length all
        one_node root n keys tree [] same sum each = absurd (omega (arith, same))
        one_node root n keys tree (m ∷ ms) same sum each =
            let none : ms ≡ [] = no_more ms (omega (arith, same)) in
            let total : sum_of (m ∷ ms) ≡ m + 0 = ap (λ (xs : List ℕ). m + sum_of xs) none in
            let here : NodeCounts s.nodes s.limit s.blocks s.next root.level all_keys root.page m = subst (λ (k : Keys). NodeCounts s.nodes s.limit s.blocks s.next root.level k root.page m) keys (each 0 root m refl refl) in
            omega (arith, sum, total, tree_counted s all root.page root.level m here tree)
