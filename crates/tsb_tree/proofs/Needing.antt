-- How many pages are needed, and used.
use Rattle.std.proofs.Common.{◌≡◌, ℕ, suc, ◌+◌, ◌<◌, ◌≤◌, ◌⊎◌, inl, inr, List, [], ◌∷◌, ◌++◌, length, Option, Some, None, Result, Ok, Err, Bool, slice_get, refl, sym, ◌∙◌, ap, subst, arith}
use Rattle.std.proofs.lemmas.Bool.{cases_lt, false≢true}
use Rattle.std.specs.Prelude.{IsSome, IfOk}
use Rattle.once_store.specs.declared.error.AppendError.{AppendError}
use Rattle.page_journal.specs.Layout.{Image}
use Rattle.page_tx.specs.declared.error.PageError.{PageError}
use Rattle.page_tx.specs.declared.error.PageError.TheVariants as pages
use Rattle.tsb_node.specs.Leaves.{IsLeafPage}
use Rattle.tsb_node.specs.Views.{PageRepresents, represents_leaf}
use Rattle.tsb_node.proofs.api.Pages.{one_decoded}
use Rattle.tsb_walk.specs.declared.page_place.PagePlace.{PagePlace}
use Rattle.tsb_walk.specs.PageWays.{IsLower}
use Rattle.tsb_walk.specs.Shown.{RepresentsNode, keys_at}
use Rattle.version_model.specs.declared.child.Child.{Child}
use Rattle.version_model.specs.Pages.{Keys, ColumnNode, CurrentLeaf}
use Rattle.version_model.specs.Sizes.{octets, entry_octets}
use Rattle.version_model.specs.Versions.{Version}
use Rattle.tsb_tree.specs.declared.change.Change.{Change}
use Rattle.tsb_tree.specs.declared.error.TreeError.{TreeError}
use Rattle.tsb_tree.specs.declared.error.TreeError.TheVariants as errors
use Rattle.tsb_tree.specs.declared.whole.Whole.{Whole}
use Rattle.tsb_tree.specs.Layouts.{LaysOut}
use Rattle.tsb_tree.specs.Needs.{HasLeaf, IsWhatStays, BecomesTwo, split_by_key, split_key_node, StaysOne, split_by_time, above_one, takes_half, NeedsPages, same_root, new_root, NeedsLevel}
use Rattle.tsb_tree.specs.NoRoom.{AtRoot, LeadsToFullLeaf, in_leaf, in_child}
use Rattle.tsb_tree.specs.Outlived.{HasOutlived, IsOutdated}
use Rattle.tsb_tree.specs.Read.{IsLeafOf, IsFilled}
use Rattle.tsb_tree.specs.Raises.{RaiseRefusal, RootRefusal}
use Rattle.tsb_tree.specs.Refusals.{ReadRefusal, LayoutRefusal, of_page}
use Rattle.tsb_tree.specs.Shapes.{leaf_in_page}
use Rattle.tsb_tree.specs.Wholes.{column_node, keys_of_whole, leaf_node}
use Rattle.tsb_tree.specs.inner.Uses.{UsesForLeaf, UsesForHalf, UsesPages, LacksPages}
use Rattle.tsb_tree.proofs.Representing.{KeyNodeOf, key_node_of_page}

-- what a column laid as one, or as two, uses
pub uses_one : (size next unused : ℕ) (o : Option Child) → o ≡ None → unused ≡ next → size ≤ 10821 → UsesForLeaf size next unused o
uses_one size next unused None none same few = (few, same)
uses_one size next unused (Some new) none same few = absurd (cc)

pub uses_two : (size next unused page current : ℕ) (w : Whole) (images : List Image) (o : Option Child) → IsSome o → LaysOut page current next w images unused o → 10821 < size → UsesForLeaf size next unused o
uses_two size next unused page current w images None some laid much = absurd (false≢true some)
uses_two size next unused page current w images (Some new) some laid much = (much, laid.4)

-- what a key node that takes a half uses
pub half_one : (children next unused : ℕ) (o : Option Child) → o ≡ None → unused ≡ next → children < 338 → UsesForHalf children next unused o
half_one children next unused None none same room = (room, same)
half_one children next unused (Some new) none same room = absurd (cc)

pub half_two : (children next unused : ℕ) (new : Child) (o : Option Child) → o ≡ Some new → unused ≡ next + 1 → children ≡ 338 → UsesForHalf children next unused o
half_two children next unused new None some more many = absurd (cc)
half_two children next unused new (Some half) some more many = (many, more)

-- the column that the pages represent
pub leaf_shown : (shown : List (List ℕ)) (place : PagePlace) (page : ℕ) (image : List ℕ) (of : IsLeafOf shown place page image) → HasLeaf shown place of.versions
leaf_shown shown place page image of = record { parts = of.parts; start = of.start; page = page; column = of.column; current = record { octets = image; at = of.at; represents_node = of.represents_node } }

pub column_read : (shown : List (List ℕ)) (place : PagePlace) (w : Whole) (current : ℕ) → RepresentsNode shown place.page (column_node w current) → keys_of_whole w ≡ keys_at place → RepresentsNode shown place.page (ColumnNode (keys_at place) w.parts.items w.start current)
column_read shown place w current represents_node keys = subst (λ (k : Keys). RepresentsNode shown place.page (ColumnNode k w.parts.items w.start current)) keys represents_node

pub leaf_read : (shown : List (List ℕ)) (place : PagePlace) (w : Whole) (current : ℕ) (image : List ℕ) → RepresentsNode shown place.page (column_node w current) → slice_get shown current ≡ Some image → IsLeafPage (leaf_in_page w) image → keys_of_whole w ≡ keys_at place
    → HasLeaf shown place w.leaf
leaf_read shown place w current image represents_node at_leaf leaf keys =
    let decoded : PageRepresents image (CurrentLeaf (keys_of_whole w) w.start w.leaf) = represents_leaf (leaf_in_page w) leaf in
    record {
      parts = w.parts.items;
      start = w.start;
      page = current;
      column = column_read shown place w current represents_node keys;
      current = record { octets = image; at = at_leaf; represents_node = subst (λ (k : Keys). PageRepresents image (CurrentLeaf k w.start w.leaf)) keys decoded };
    }

pub filled_read : (place : PagePlace) (image : List ℕ) (v : Version) (w : Whole) → IsFilled place image v → IsLeafPage (leaf_in_page w) image → 16232 < octets w.leaf + entry_octets v
filled_read place image v w filled leaf =
    let decoded : CurrentLeaf (keys_at place) filled.start filled.versions ≡ leaf_node w = one_decoded image _ _ filled.represents_node (represents_leaf (leaf_in_page w) leaf) in
    let same : filled.versions ≡ w.leaf = cc in
    omega (arith, ap octets same, filled.filled)

pub outdated_read : (place : PagePlace) (image : List ℕ) (v : Version) (w : Whole) → keys_of_whole w ≡ keys_at place → IsLeafPage (leaf_in_page w) image → HasOutlived w.leaf v → IsOutdated place image v
outdated_read place image v w keys leaf out =
    let decoded : PageRepresents image (CurrentLeaf (keys_of_whole w) w.start w.leaf) = represents_leaf (leaf_in_page w) leaf in
    record { start = w.start; versions = w.leaf; represents_node = subst (λ (k : Keys). PageRepresents image (CurrentLeaf k w.start w.leaf)) keys decoded; outlived = out }

pub outdated_whole : (place : PagePlace) (image : List ℕ) (v : Version) (w : Whole) → IsOutdated place image v → IsLeafPage (leaf_in_page w) image → HasOutlived w.leaf v
outdated_whole place image v w outdated leaf =
    let decoded : CurrentLeaf (keys_at place) outdated.start outdated.versions ≡ leaf_node w = one_decoded image _ _ outdated.represents_node (represents_leaf (leaf_in_page w) leaf) in
    let same : outdated.versions ≡ w.leaf = cc in
    subst (λ (l : List Version). HasOutlived l v) same outdated.outlived

-- a column whose leaf has no room
module _ (shown : List (List ℕ)) (v : Version) (place : PagePlace) (leaf stays : List Version) (has : HasLeaf shown place leaf) (filled : 16232 < octets leaf + entry_octets v) (what : IsWhatStays (leaf ++ v ∷ []) v.stamp stays) where
  pub leaf_uses : (next unused : ℕ) (o : Option Child) → UsesForLeaf (octets stays) next unused o → UsesPages shown v place next unused o
  leaf_uses next unused None uses = (0, split_by_time place leaf stays has filled what uses.0, omega (arith, uses.1))
  leaf_uses next unused (Some new) uses = (2, split_by_key place leaf stays has filled what uses.0, uses.1)

  pub leaf_lacks : (homes next : ℕ) → 10821 < octets stays → homes < next + 2 → LacksPages shown v place homes next
  leaf_lacks homes next much few = (2, inr (split_by_key place leaf stays has filled what much), few)

-- a column that takes the version in place
pub uses_none : (shown : List (List ℕ)) (v : Version) (place : PagePlace) (next unused : ℕ) (o : Option Child) → o ≡ None → unused ≡ next → StaysOne shown v place 0 → UsesPages shown v place next unused o
uses_none shown v place next unused None none same one = (0, one, omega (arith, same))
uses_none shown v place next unused (Some new) none same one = absurd (cc)

-- a key node has at most 338 children
pub few_children : (shown : List (List ℕ)) (key : ℕ) (place next : PagePlace) (lower : IsLower shown key place next) → length lower.children ≤ 338
few_children shown key place next lower =
    let of : KeyNodeOf lower.represents_node.octets place.level (keys_at place) lower.children = key_node_of_page lower.represents_node.octets _ place.level (keys_at place) lower.children refl lower.represents_node.represents_node in
    let is = of.is in
    let same : of.node.children ≡ lower.children = cc in
    let fits = of.page.valid.fits in
    omega (arith, fits, ap length same)

-- what is needed below a key node is needed by it
module _ (shown : List (List ℕ)) (v : Version) (place next : PagePlace) (lower : IsLower shown v.key place next) where
  two_up : (n : ℕ) → BecomesTwo shown v next n → (length lower.children < 338) ⊎ (338 ≤ length lower.children) → (homes before : ℕ) → homes < before + n → LacksPages shown v place homes before
  two_up n two (inl room) homes before few = (n, inl (takes_half place next n lower room two), few)
  two_up n two (inr full) homes before few =
      let many : length lower.children ≡ 338 = (let most = few_children shown v.key place next lower in omega (arith, full, most)) in
      (suc n, inr (split_key_node place next n lower many two), omega (arith, few))

  pub lacks_up : (homes before : ℕ) → LacksPages shown v next homes before → LacksPages shown v place homes before
  lacks_up homes before lacks = elim lacks.1 [
    | inl one ↦ (lacks.0, inl (above_one place next lacks.0 lower one), lacks.2)
    | inr two ↦ two_up lacks.0 two (cases_lt (length lower.children) 338) homes before lacks.2
  ]

  -- a key node that takes the new half of its child
  half_up : (before unused n : ℕ) → BecomesTwo shown v next n → unused ≡ before + n → (to : ℕ) (o : Option Child) → UsesForHalf (length lower.children) unused to o → UsesPages shown v place before to o
  half_up before unused n two is to None uses = (n, takes_half place next n lower uses.0 two, omega (arith, is, uses.1))
  half_up before unused n two is to (Some new) uses = (suc n, split_key_node place next n lower uses.0 two, omega (arith, is, uses.1))

  change_up : (before unused : ℕ) (o : Option Child) → UsesPages shown v next before unused o → (put : Change) → (o ≡ None → (put.new ≡ None) × (put.unused ≡ unused)) → (IsSome o → UsesForHalf (length lower.children) unused put.unused put.new) → UsesPages shown v place before put.unused put.new
  change_up before unused None uses put kept half =
      let k = kept refl in
      subst (λ (x : Option Child). UsesPages shown v place before put.unused x) (sym k.0) (uses.0, above_one place next uses.0 lower uses.1, omega (arith, k.1, uses.2))
  change_up before unused (Some new) uses put kept half = half_up before unused uses.0 uses.1 uses.2 put.unused put.new (half refl)

  pub uses_up : (before : ℕ) (change : Change) (r : Result Change TreeError) → (change.new ≡ None → r ≡ Ok change) → (IsSome change.new → IfOk r (λ put. UsesForHalf (length lower.children) change.unused put.unused put.new))
      → UsesPages shown v next before change.unused change.new → IfOk r (λ put. UsesPages shown v place before put.unused put.new)
  uses_up before change (Ok put) kept half uses =
      change_up before change.unused change.new uses put
      (λ none. let same : put ≡ change = (let e = kept none in cc) in (ap (λ (c : Change). c.new) same ∙ none, ap (λ (c : Change). c.unused) same)) half
  uses_up before change (Err e) kept half uses = tt

  -- a key node that is split, where no page is left for its new half
  pub lacks_half : (homes before unused : ℕ) (o : Option Child) → IsSome o → UsesPages shown v next before unused o → length lower.children ≡ 338 → homes ≤ unused → LacksPages shown v place homes before
  lacks_half homes before unused None some uses many few = absurd (false≢true some)
  lacks_half homes before unused (Some new) some uses many few = (suc uses.0, inr (split_key_node place next uses.0 lower many uses.1), omega (arith, uses.2, few))

-- a node that becomes two leads to a leaf without room
pub two_leads : (shown : List (List ℕ)) (v : Version) (place : PagePlace) (n : ℕ) → BecomesTwo shown v place n → LeadsToFullLeaf shown v place
two_leads shown v _ _ (split_by_key column leaf stays has filled what much) =
    in_leaf column has.page has.current.octets (record { parts = has.parts; start = has.start; versions = leaf; column = has.column; at = has.current.at; represents_node = has.current.represents_node })
    (record { start = has.start; versions = leaf; represents_node = has.current.represents_node; filled = filled })
two_leads shown v _ _ (split_key_node place next n lower many rest) = in_child place next lower (two_leads shown v next n rest)

-- what became two needed to
pub half_needed : (shown : List (List ℕ)) (v : Version) (place : PagePlace) (next unused : ℕ) (o : Option Child) → IsSome o → UsesPages shown v place next unused o → (n : ℕ) × BecomesTwo shown v place n × (unused ≡ next + n)
half_needed shown v place next unused None some uses = absurd (false≢true some)
half_needed shown v place next unused (Some new) some uses = uses

pub half_leads : (shown : List (List ℕ)) (v : Version) (place : PagePlace) (next unused : ℕ) (o : Option Child) → UsesPages shown v place next unused o → IsSome o → LeadsToFullLeaf shown v place
half_leads shown v place next unused o uses some = let two = half_needed shown v place next unused o some uses in two_leads shown v place two.0 two.1

pub one_needed : (shown : List (List ℕ)) (v : Version) (place : PagePlace) (next unused : ℕ) (o : Option Child) → o ≡ None → UsesPages shown v place next unused o → (n : ℕ) × StaysOne shown v place n × (unused ≡ next + n)
one_needed shown v place next unused None none uses = uses
one_needed shown v place next unused (Some new) none uses = absurd (cc)

-- what a root needs its tree does
pub tree_lacks : (shown : List (List ℕ)) (v : Version) (root level homes next : ℕ) → AtRoot (λ place. LacksPages shown v place homes next) root level → (n : ℕ) × AtRoot (λ place. NeedsPages shown v place n) root level × (homes < next + n)
tree_lacks shown v root level homes next at =
    let lacks = at.4 in
    elim lacks.1 [
      | inl one ↦ (lacks.0, (at.0, at.1, at.2, at.3, same_root at.0 lacks.0 one), lacks.2)
      | inr two ↦ (suc lacks.0, (at.0, at.1, at.2, at.3, new_root at.0 lacks.0 two), (let few = lacks.2 in omega (arith, few)))
    ]

-- reading needs no pages
pub read_never_full : (e : TreeError) (down : Bool) → ReadRefusal down e → e ≡ errors.Pages pages.PagesFull → ⊥
read_never_full e down refused is = subst (λ (x : TreeError). ReadRefusal down x) is refused

-- where pages are lacking for what is laid out, or for a half
pub layout_full : (e : TreeError) (homes unused : ℕ) → LayoutRefusal homes unused e → e ≡ errors.Pages pages.PagesFull → homes < unused + 2
layout_full e homes unused refused is = subst (λ (x : TreeError). LayoutRefusal homes unused x) is refused

pub raise_full : (e : TreeError) (homes unused : ℕ) (down : Bool) → RaiseRefusal homes unused down e → e ≡ errors.Pages pages.PagesFull → homes ≤ unused
raise_full e homes unused down refused is = subst (λ (x : TreeError). RaiseRefusal homes unused down x) is refused

pub root_full : (e : TreeError) (homes unused level : ℕ) → RootRefusal homes unused level e → e ≡ errors.Pages pages.PagesFull → homes ≤ unused
root_full e homes unused level refused is = subst (λ (x : TreeError). RootRefusal homes unused level x) is refused

-- nor blocks
pub read_never_once : (e : TreeError) (refusal : AppendError) (down : Bool) → ReadRefusal down e → e ≡ errors.Once refusal → ⊥
read_never_once e refusal down refused is = subst (λ (x : TreeError). ReadRefusal down x) is refused

pub raise_never_once : (e : TreeError) (refusal : AppendError) (homes unused : ℕ) (down : Bool) → RaiseRefusal homes unused down e → e ≡ errors.Once refusal → ⊥
raise_never_once e refusal homes unused down refused is = subst (λ (x : TreeError). RaiseRefusal homes unused down x) is refused

pub root_never_once : (e : TreeError) (refusal : AppendError) (homes unused level : ℕ) → RootRefusal homes unused level e → e ≡ errors.Once refusal → ⊥
root_never_once e refusal homes unused level refused is = subst (λ (x : TreeError). RootRefusal homes unused level x) is refused

module _ (shown : List (List ℕ)) (v : Version) (root level next unused : ℕ) (o : Option Child) (at : AtRoot (λ place. UsesPages shown v place next unused o) root level) where
  -- a root that stays one
  pub tree_same_uses : o ≡ None → (n : ℕ) × AtRoot (λ place. NeedsPages shown v place n) root level × (unused ≡ next + n)
  tree_same_uses none =
      let one = one_needed shown v at.0 next unused o none at.4 in
      (one.0, (at.0, at.1, at.2, at.3, same_root at.0 one.0 one.1), one.2)

  module _ (some : IsSome o) where
    -- a root that becomes two
    root_two : (n : ℕ) × BecomesTwo shown v at.0 n × (unused ≡ next + n)
    root_two = half_needed shown v at.0 next unused o some at.4

    pub tree_level : AtRoot (NeedsLevel shown v) root level
    tree_level = (at.0, at.1, at.2, at.3, (root_two.0, root_two.1))

    pub tree_leads : AtRoot (LeadsToFullLeaf shown v) root level
    tree_leads = (at.0, at.1, at.2, at.3, two_leads shown v at.0 root_two.0 root_two.1)

    above : AtRoot (λ place. NeedsPages shown v place (suc root_two.0)) root level
    above = (at.0, at.1, at.2, at.3, new_root at.0 root_two.0 root_two.1)

    pub tree_grown_uses : (made : ℕ) → made ≡ unused + 1 → (n : ℕ) × AtRoot (λ place. NeedsPages shown v place n) root level × (made ≡ next + n)
    tree_grown_uses made is = (suc root_two.0, above, (let used = root_two.2 in omega (arith, is, used)))

    pub tree_grown_lacks : (homes : ℕ) → homes ≤ unused → (n : ℕ) × AtRoot (λ place. NeedsPages shown v place n) root level × (homes < next + n)
    tree_grown_lacks homes few = (suc root_two.0, above, (let used = root_two.2 in omega (arith, few, used)))

pub page_never_once : (e : PageError) (refusal : AppendError) → of_page e ≡ errors.Once refusal → ⊥
page_never_once pages.Fault refusal is = cc
page_never_once pages.NeedsRecovery refusal is = cc
page_never_once pages.TooManyImages refusal is = cc
page_never_once pages.PagesFull refusal is = cc
page_never_once pages.OutOfMemory refusal is = cc
