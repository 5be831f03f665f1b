-- A key leads from a place to one leaf alone, so that what the way ends at is what is found on it.
use Rattle.std.proofs.Common.{◌≡◌, ℕ, ◌+◌, ◌≤◌, List, refl, sym, ◌∙◌, ap, subst, arith, slice_get}
use Rattle.std.proofs.lemmas.Option.{same_Some}
use Rattle.tsb_node.specs.Views.{PageRepresents}
use Rattle.tsb_node.proofs.api.Pages.{one_decoded}
use Rattle.tsb_walk.specs.declared.page_place.PagePlace.{PagePlace}
use Rattle.tsb_walk.specs.PageWays.{IsLower}
use Rattle.tsb_walk.specs.Shown.{RepresentsNode, keys_at}
use Rattle.version_model.specs.Pages.{Keys, ColumnNode, CurrentLeaf, KeyNode, IsChildOf}
use Rattle.version_model.specs.Sizes.{octets, entry_octets}
use Rattle.version_model.specs.Versions.{Version}
use Rattle.tsb_tree.specs.NoRoom.{AtRoot}
use Rattle.tsb_tree.specs.Outlived.{IsOutdated, LeadsToOutdated, outdated_leaf, outdated_below}
use Rattle.tsb_tree.specs.Read.{IsLeafOf, IsFilled}
use Rattle.tsb_tree.proofs.Columns.{represents_one}
use Rattle.tsb_tree.proofs.Excluding.{one_child, one_keys}

-- a leaf without room for a version has none
pub filled_no_room : (shown : List (List ℕ)) (place : PagePlace) (page : ℕ) (image : List ℕ) (v : Version) (of : IsLeafOf shown place page image) → IsFilled place image v → octets of.versions + entry_octets v ≤ 16232 → ⊥
filled_no_room shown place page image v of filled room =
    let decoded : CurrentLeaf (keys_at place) filled.start filled.versions ≡ CurrentLeaf (keys_at place) of.start of.versions = one_decoded image _ _ filled.represents_node of.represents_node in
    let same : filled.versions ≡ of.versions = cc in
    omega (arith, ap octets same, filled.filled, room)

-- from a column the way ends at its own leaf
pub outdated_here : (shown : List (List ℕ)) (v : Version) (place : PagePlace) (page : ℕ) (image : List ℕ) → IsLeafOf shown place page image → LeadsToOutdated shown v place → IsFilled place image v × IsOutdated place image v
outdated_here shown v _ page image of (outdated_leaf place other octets of' filled outdated) =
    let decoded : ColumnNode (keys_at place) of'.parts of'.start other ≡ ColumnNode (keys_at place) of.parts of.start page = represents_one shown place.page _ _ of'.column of.column in
    let same_page : other ≡ page = cc in
    let same : octets ≡ image = same_Some _ _ (sym of'.at ∙ (ap (slice_get shown) same_page ∙ of.at)) in
    (subst (λ (i : List ℕ). IsFilled place i v) same filled, subst (λ (i : List ℕ). IsOutdated place i v) same outdated)
outdated_here shown v _ page image of (outdated_below place next lower rest) =
    let decoded : ColumnNode (keys_at place) of.parts of.start page ≡ KeyNode place.level (keys_at place) lower.children = represents_one shown place.page _ _ of.column lower.represents_node in
    absurd (cc)

-- the way from a place is that from another one of the same page, level and keys
pub outdated_at : (shown : List (List ℕ)) (v : Version) (a b : PagePlace) → a.page ≡ b.page → a.level ≡ b.level → keys_at a ≡ keys_at b → LeadsToOutdated shown v a → LeadsToOutdated shown v b
outdated_at shown v _ b page level keys (outdated_leaf a n image of filled outdated) =
    outdated_leaf b n image
    (record {
      parts = of.parts;
      start = of.start;
      versions = of.versions;
      column = subst (λ (k : Keys). RepresentsNode shown b.page (ColumnNode k of.parts of.start n)) keys (subst (λ (p : ℕ). RepresentsNode shown p (ColumnNode (keys_at a) of.parts of.start n)) page of.column);
      at = of.at;
      represents_node = subst (λ (k : Keys). PageRepresents image (CurrentLeaf k of.start of.versions)) keys of.represents_node;
    })
    (record { start = filled.start; versions = filled.versions; represents_node = subst (λ (k : Keys). PageRepresents image (CurrentLeaf k filled.start filled.versions)) keys filled.represents_node; filled = filled.filled })
    (record { start = outdated.start; versions = outdated.versions; represents_node = subst (λ (k : Keys). PageRepresents image (CurrentLeaf k outdated.start outdated.versions)) keys outdated.represents_node; outlived = outdated.outlived })
outdated_at shown v _ b page level keys (outdated_below a next lower rest) =
    outdated_below b next
    (record {
      children = lower.children;
      represents_node = subst (λ (k : Keys). RepresentsNode shown b.page (KeyNode b.level k lower.children)) keys
          (subst (λ (l : ℕ). RepresentsNode shown b.page (KeyNode l (keys_at a) lower.children)) level (subst (λ (p : ℕ). RepresentsNode shown p (KeyNode a.level (keys_at a) lower.children)) page lower.represents_node));
      child = subst (λ (k : Keys). IsChildOf k lower.children (keys_at next) (record { low = next.low; page = next.page })) keys lower.child;
      level = lower.level ∙ level;
      has = lower.has;
    })
    rest

-- from a key node it goes on from its child that has the key
pub outdated_on : (shown : List (List ℕ)) (v : Version) (place next : PagePlace) → IsLower shown v.key place next → LeadsToOutdated shown v place → LeadsToOutdated shown v next
outdated_on shown v _ next lower (outdated_leaf place page image of filled outdated) =
    let decoded : ColumnNode (keys_at place) of.parts of.start page ≡ KeyNode place.level (keys_at place) lower.children = represents_one shown place.page _ _ of.column lower.represents_node in
    absurd (cc)
outdated_on shown v _ next lower (outdated_below place other lower' rest) =
    let level : other.level ≡ next.level = (let up = lower.level in let up' = lower'.level in omega (arith, up, up')) in
    outdated_at shown v other next (sym (one_child shown v.key place place refl next other lower lower')) level (sym (one_keys shown v.key place place refl next other lower lower')) rest

-- there is one way from a root
pub outdated_root : (shown : List (List ℕ)) (v : Version) (root level : ℕ) → AtRoot (LeadsToOutdated shown v) root level → AtRoot (λ place. LeadsToOutdated shown v place → ⊥) root level → ⊥
outdated_root shown v root level leads never = never.4 (outdated_at shown v leads.0 never.0 (leads.1 ∙ sym never.1) (leads.2 ∙ sym never.2) (leads.3 ∙ sym never.3) leads.4)
