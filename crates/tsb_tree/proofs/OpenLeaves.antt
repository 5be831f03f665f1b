-- A leaf takes versions in memory.
use Rattle.std.proofs.Common.{◌≡◌, ◌+◌, ℕ, suc, ◌<◌, ◌≤◌, ◌⊎◌, inl, inr, List, [], ◌∷◌, ◌++◌, set, Some, None, slice_get, refl, sym, ◌∙◌, ap, subst, arith}
use Rattle.std.proofs.lemmas.Option.{none-some, slice_get_within}
use Rattle.version_model.specs.declared.child.Child.{Child}
use Rattle.version_model.specs.Versions.{Version}
use Rattle.version_model.specs.Ranges.{key_end, stamp_end}
use Rattle.version_model.specs.Pages.{Keys, PageNode, ColumnNode, CurrentLeaf, KeyNode, ColumnRepresents, Store, NodeRepresentsIn, all_keys}
use Rattle.version_model.specs.Inserts.{Splits}
use Rattle.version_model.proofs.api.Put.{Splits-child}
use Rattle.version_model.proofs.api.Representing.{key_node_of}
use Rattle.tsb_node.specs.Leaves.{IsLeafPage}
use Rattle.tsb_node.specs.Pushing.{with_version}
use Rattle.tsb_node.specs.Views.{PageRepresents}
use Rattle.tsb_walk.specs.declared.page_place.PagePlace.{PagePlace}
use Rattle.tsb_walk.specs.PageWays.{PageWay, here, further}
use Rattle.tsb_walk.specs.Shown.{RepresentsNode, RepresentNodes, HasKey, keys_at}
use Rattle.tsb_tree.specs.declared.leaf_opening.OpenLeaf.{OpenLeaf}
use Rattle.tsb_tree.specs.OpenLeaves.{LeafWay, way_here, way_on, IsOpen, TakesInLeaf}
use Rattle.tsb_tree.specs.Opened.{IsRoot, is_column, is_key_node, IsShownRoot}
use Rattle.tsb_tree.specs.Trees.{TreeHas}
use Rattle.tsb_tree.proofs.Columns.{represents_one}
use Rattle.tsb_tree.proofs.Growing.{TreeHas-with, took}
use Rattle.tsb_tree.proofs.KeyPlans.{found_lower, below_next}
use Rattle.tsb_tree.proofs.Laying.{put_other}
use Rattle.tsb_tree.proofs.PlanningLeaf.{more, pushed, splits_leaf}
use Rattle.tsb_tree.proofs.Pushing.{leaf_here, standing, current_is, pushed_represents}
use Rattle.tsb_tree.proofs.Reporting.{get-set_same, get-set_other, shown-set}
use Rattle.tsb_tree.proofs.Roots.{level_is, tree_root}

-- ---- the way to a leaf

module _ (shown : List (List ℕ)) (s : Store) (all : List Version) (first : PagePlace) (are : RepresentNodes shown s.nodes) (represents_all : NodeRepresentsIn s all first.level (keys_at first) first.page) where
  -- what it leads to represents the versions of its keys
  pub way_represents : (place : PagePlace) → LeafWay shown first place → NodeRepresentsIn s all place.level (keys_at place) place.page
  way_represents _ way_here = represents_all
  way_represents _ (way_on place next key way above lower) = (found_lower shown s all key place next are lower above (way_represents place way)).represents_all

  -- where the pages of a tree lead a key
  pub way_of : (key : ℕ) (place : PagePlace) → PageWay shown key first place → LeafWay shown first place
  way_of key _ (here place) = way_here
  way_of key _ (further f place next way led) =
      let before = way_of key place way in
      let k = key_node_of s.nodes s.limit s.blocks s.next all place.level (keys_at place) place.page led.above (way_represents place before) in
      let level : suc k.level ≡ place.level = omega (arith, k.is) in
      way_on place next key before led.above (led.lower k.children (subst (λ (m : ℕ). RepresentsNode shown place.page (KeyNode m (keys_at place) k.children)) level (are place.page _ k.at)))

  -- what takes a version below takes it above
  pub way_splits : (t : Store) (v : Version) (place : PagePlace) → LeafWay shown first place → HasKey place v.key → Splits s t v place.level place.page None → Splits s t v first.level first.page None
  way_splits t v _ way_here has splits = splits
  way_splits t v _ (way_on place next key way above lower) has splits =
      let found = found_lower shown s all key place next are lower above (way_represents place way) in
      let up_to = below_next shown key place next lower v.key has.high in
      way_splits t v place way (record { low = omega (arith, found.low, has.low); high = omega (arith, found.high, has.high) })
      (subst (λ (m : ℕ). Splits s t v m place.page None) lower.level
      (Splits-child s t v next.level place.page (keys_at place) lower.children lower.child.place (record { low = next.low; page = next.page }) found.at lower.child.at has.low up_to splits))

-- ---- another page in the leaf's place

-- a page that represents another kind of node is shown as before
kept : (shown : List (List ℕ)) (n page : ℕ) (octets : List ℕ) (node leaf : PageNode) → (node ≡ leaf → ⊥) → RepresentsNode shown n leaf → RepresentsNode shown page node → RepresentsNode (set shown n octets) page node
kept shown n page octets node leaf ne at_leaf is = record {
  octets = is.octets;
  at = get-set_other shown n page octets (λ e. ne (represents_one shown page node leaf is (subst (λ (p : ℕ). RepresentsNode shown p leaf) (sym e) at_leaf))) ∙ is.at;
  represents_node = is.represents_node;
}

not_key : (level : ℕ) (k k' : Keys) (children : List _) (start : ℕ) (versions : List Version) → KeyNode level k children ≡ CurrentLeaf k' start versions → ⊥
not_key level k k' children start versions e = cc

not_column : (k k' : Keys) (parts : List _) (start current start' : ℕ) (versions : List Version) → ColumnNode k parts start current ≡ CurrentLeaf k' start' versions → ⊥
not_column k k' parts start current start' versions e = cc

pub way_kept : (shown : List (List ℕ)) (first : PagePlace) (n : ℕ) (octets : List ℕ) (k : Keys) (start : ℕ) (versions : List Version) → RepresentsNode shown n (CurrentLeaf k start versions) → (place : PagePlace) → LeafWay shown first place → LeafWay (set shown n octets) first place
way_kept shown first n octets k start versions leaf _ way_here = way_here
way_kept shown first n octets k start versions leaf _ (way_on place next key way above lower) =
    way_on place next key (way_kept shown first n octets k start versions leaf place way) above (record {
      children = lower.children;
      represents_node = kept shown n place.page octets _ _ (not_key place.level (keys_at place) k lower.children start versions) leaf lower.represents_node;
      child = lower.child;
      level = lower.level;
      has = lower.has;
    })

-- ---- the root

-- what the way begins with: the column itself, or a key node
first_step : (shown : List (List ℕ)) (first place : PagePlace) → LeafWay shown first place → (place ≡ first) ⊎ ((children : List Child) × RepresentsNode shown first.page (KeyNode first.level (keys_at first) children))
first_step shown first _ way_here = inl refl
first_step shown first _ (way_on place next key way above lower) = elim (first_step shown first place way) [
  | inl e ↦ inr (lower.children, subst (λ (p : PagePlace). RepresentsNode shown p.page (KeyNode p.level (keys_at p) lower.children)) e lower.represents_node)
  | inr more ↦ inr more
]

first_root : (shown : List (List ℕ)) (root : ℕ) (leaf : OpenLeaf) (is : IsOpen shown root leaf) → IsShownRoot shown root is.first.level
first_root shown root leaf is = elim (first_step shown is.first leaf.column is.way) [
  | inl e ↦ (let c = is.of.column in (
    c.octets,
    ap (slice_get shown) (sym is.page_is ∙ sym (ap (λ (p : PagePlace). p.page) e)) ∙ c.at,
    subst (IsRoot c.octets) (sym is.lowest ∙ ap (λ (p : PagePlace). p.level) e)
        (is_column is.of.parts is.of.start leaf.page (subst (λ (k : Keys). PageRepresents c.octets (ColumnNode k is.of.parts is.of.start leaf.page)) (ap keys_at e ∙ is.keys_are) c.represents_node)),
  ))
  | inr more ↦ (let n = more.1 in (
    n.octets,
    ap (slice_get shown) (sym is.page_is) ∙ n.at,
    is_key_node is.first.level more.0 (subst (λ (k : Keys). PageRepresents n.octets (KeyNode is.first.level k more.0)) is.keys_are n.represents_node),
  ))
]

-- ---- a version is pushed

-- the root of a tree represents what its first place does
pub first_represents : (s : Store) (all : List Version) (root level least : ℕ) (first : PagePlace) → first.page ≡ root → first.level ≡ level → keys_at first ≡ all_keys → TreeHas s all root level least → NodeRepresentsIn s all first.level (keys_at first) first.page
first_represents s all root level least first page_is level_is keys_are has =
    subst (λ (p : ℕ). NodeRepresentsIn s all first.level (keys_at first) p) (sym page_is)
    (subst (λ (k : Keys). NodeRepresentsIn s all first.level k root) (sym keys_are) (subst (λ (l : ℕ). NodeRepresentsIn s all l all_keys root) (sym level_is) has.represents_all.represents_all))

module _ (shown : List (List ℕ)) (s : Store) (all : List Version) (root level least : ℕ) (leaf : OpenLeaf) (is : IsOpen shown root leaf) (are : RepresentNodes shown s.nodes) (has : TreeHas s all root level least) where
  abbrev pub first : PagePlace
  first = is.first

  level_here : first.level ≡ level
  level_here =
      let here = first_root shown root leaf is in
      level_is shown root here.0 first.level level here.1 here.2 (tree_root shown s all root level are has.represents_all)

  pub first_stands : NodeRepresentsIn s all first.level (keys_at first) first.page
  first_stands = first_represents s all root level least first is.page_is level_here is.keys_are has

  pub column_stands : NodeRepresentsIn s all leaf.column.level (keys_at leaf.column) leaf.column.page
  column_stands = way_represents shown s all first are first_stands leaf.column is.way

  abbrev pub stands : ColumnRepresents s.nodes s.limit s.blocks s.next all (keys_at leaf.column) leaf.column.page
  stands = standing s all leaf.column shown is.lowest are column_stands leaf.page leaf.image is.of

  pub page_is : leaf.page ≡ stands.current
  page_is = current_is s all leaf.column shown is.lowest are column_stands leaf.page leaf.image is.of

  leaf_there : s.nodes leaf.page ≡ Some (CurrentLeaf (keys_at leaf.column) stands.start stands.versions)
  leaf_there = ap s.nodes page_is ∙ stands.at_current

  module _ (v : Version) (later : least ≤ v.stamp) (key : v.key + 1 < key_end) (in_time : v.stamp < stamp_end) (of_key : HasKey leaf.column v.key) (image : List ℕ)
      (page : IsLeafPage (with_version (leaf_here s all leaf.column shown is.lowest are column_stands leaf.page leaf.image is.of).leaf v) image) where
    abbrev after : Store
    after = pushed s v all (keys_at leaf.column) leaf.column.page stands

    root_splits : Splits s after v level root None
    root_splits =
        let some : (keys_at leaf.column).low < (keys_at leaf.column).high = (let l = of_key.low in let h = of_key.high in omega (arith, l, h)) in
        let here = splits_leaf s v all (keys_at leaf.column) leaf.column.page stands some in
        let there = way_splits shown s all first are first_stands after v leaf.column is.way of_key (subst (λ (m : ℕ). Splits s after v m leaf.column.page None) (sym is.lowest) here) in
        subst (λ (p : ℕ). Splits s after v level p None) is.page_is (subst (λ (l : ℕ). Splits s after v l first.page None) level_here there)

    reports_after : RepresentNodes (set shown leaf.page image) after.nodes
    reports_after =
        let within = slice_get_within shown leaf.page leaf.image is.of.at in
        let node = pushed_represents s all leaf.column shown is.lowest are column_stands leaf.page leaf.image is.of v image page in
        subst (λ (n : ℕ). RepresentNodes (set shown n image) after.nodes) (sym page_is)
        (shown-set shown s.nodes stands.current image (more s v all (keys_at leaf.column) leaf.column.page stands) (omega (arith, within, page_is)) node are)

    pub leaf_takes : (now : OpenLeaf) → now.page ≡ leaf.page → now.image ≡ image → TakesInLeaf shown s (all ++ v ∷ []) root level (v.stamp + 1) now
    leaf_takes now page_same image_same = rw (page_same, image_same) (record {
      nodes = after.nodes;
      reports = reports_after;
      has = TreeHas-with s after v root level least None later key in_time root_splits all has after root level has.represents_all.some_level has.represents_all.few_levels
          (took s after v root level least None later key in_time root_splits all has);
      silent = λ p none. put_other stands.current (more s v all (keys_at leaf.column) leaf.column.page stands) s.nodes p (λ e. none-some _ (sym none ∙ ap s.nodes e ∙ stands.at_current)) ∙ none;
      others = λ p none. get-set_other shown leaf.page p image (λ e. none-some _ (sym none ∙ ap s.nodes e ∙ leaf_there));
    })

    pub leaf_open : (now : OpenLeaf) → now.column ≡ leaf.column → now.page ≡ leaf.page → now.image ≡ image → IsOpen (set shown now.page now.image) root now
    leaf_open now column_same page_same image_same =
        let there = are leaf.page _ leaf_there in
        let within = slice_get_within shown leaf.page leaf.image is.of.at in
        let k : Keys = keys_at leaf.column in
        rw (column_same, page_same, image_same) (record {
          first = first;
          page_is = is.page_is;
          keys_are = is.keys_are;
          way = way_kept shown first leaf.page image k stands.start stands.versions there leaf.column is.way;
          lowest = is.lowest;
          of = record {
            parts = stands.parts;
            start = stands.start;
            versions = stands.versions ++ v ∷ [];
            column = kept shown leaf.page leaf.column.page image _ _ (not_column k k stands.parts stands.start leaf.page stands.start stands.versions) there
                (subst (λ (n : ℕ). RepresentsNode shown leaf.column.page (ColumnNode k stands.parts stands.start n)) (sym page_is) (are leaf.column.page _ stands.at));
            at = get-set_same shown leaf.page image within;
            represents_node = pushed_represents s all leaf.column shown is.lowest are column_stands leaf.page leaf.image is.of v image page;
          };
        })
