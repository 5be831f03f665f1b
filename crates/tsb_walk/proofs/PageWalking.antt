-- What a page that is shown represents, and the ways through such pages.
use Rattle.std.proofs.Common.{◌≡◌, ℕ, suc, ◌<◌, ◌≤◌, List, length, Some, slice_get, sym, ◌∙◌, subst, arith}
use Rattle.std.proofs.lemmas.Option.{same_Some, none-some, slice_get_past}
use Rattle.version_model.specs.declared.child.Child.{Child}
use Rattle.version_model.specs.Pages.{PageNode, KeyNode}
use Rattle.tsb_node.specs.declared.column.Current.{Current}
use Rattle.tsb_node.specs.Views.{PageRepresents}
use Rattle.tsb_walk.specs.declared.page_looks.ColumnAt.{ColumnAt}
use Rattle.tsb_walk.specs.declared.page_place.PagePlace.{PagePlace}
use Rattle.tsb_walk.specs.declared.page_steps.ColumnSpot.TheVariants.{InLeaf}
use Rattle.tsb_walk.specs.Shown.{RepresentsNode, HasKey, keys_at}
use Rattle.tsb_walk.specs.PageWays.{PageWay, IsLed, IsNoColumn, IsNoLeaf, IsBadKeyNode}
use Rattle.tsb_walk.specs.PageLooks.{IsBadLook, bad_key_node, bad_column, bad_leaf}
use Rattle.tsb_walk.specs.inner.PageSteps.{IsChildAt, IsSpotOf}
use Rattle.tsb_walk.specs.inner.ColumnSpots.{IsThere}

-- a page that there isn't represents nothing
pub represents_nothing : (shown : List (List ℕ)) (homes page : ℕ) → length shown ≡ homes → homes ≤ page → (node : PageNode) → RepresentsNode shown page node → ⊥
represents_nothing shown homes page count past node represents_node = none-some represents_node.octets (sym (slice_get_past shown page (omega (arith, count, past))) ∙ represents_node.at)

-- a page represents what its octets represent
pub decoded_here : (shown : List (List ℕ)) (page : ℕ) (octets : List ℕ) (node : PageNode) → slice_get shown page ≡ Some octets → RepresentsNode shown page node → PageRepresents octets node
decoded_here shown page octets node at represents_node = subst (λ (o : List ℕ). PageRepresents o node) (same_Some _ _ (sym represents_node.at ∙ at)) represents_node.represents_node

-- what is so of a page where it represents this is so of what is shown there
pub led_is : (shown : List (List ℕ)) (octets : List ℕ) (place next : PagePlace) (key : ℕ) → slice_get shown place.page ≡ Some octets
    → ((children : List Child) → PageRepresents octets (KeyNode place.level (keys_at place) children) → IsChildAt place children next) → 1 < place.level → suc next.level ≡ place.level → HasKey next key → IsLed shown key place next
led_is shown octets place next key at is above level has = record {
  lower = λ children represents_node. record { children = children; represents_node = represents_node; child = is children (decoded_here shown place.page octets (KeyNode place.level (keys_at place) children) at represents_node); level = level; has = has };
  above = above;
  level = level;
  has = has;
}

-- ---- where the way comes to

pub bad_way : (shown : List (List ℕ)) (root : PagePlace) (key stamp page : ℕ) → IsBadKeyNode shown root key page → IsBadLook shown root key stamp page
bad_way shown root key stamp page is = subst (IsBadLook shown root key stamp) is.is (bad_key_node is.last is.way is.above is.bad)

pub bad_there : (shown : List (List ℕ)) (root column : PagePlace) (key stamp page : ℕ) → PageWay shown key root column → column.level ≡ 1 → column.page ≡ page → IsNoColumn shown column → IsBadLook shown root key stamp page
bad_there shown root column key stamp page way low is bad = subst (IsBadLook shown root key stamp) is (bad_column column way low bad)

module _ (shown : List (List ℕ)) (root : PagePlace) (key stamp : ℕ) (at : ColumnAt) (is : IsThere shown root key stamp at) where
  pub bad_here : (leaf : Current) (page : ℕ) → at.spot ≡ InLeaf leaf → leaf.page ≡ page → IsNoLeaf shown at.column leaf.start page → IsBadLook shown root key stamp page
  bad_here leaf page e same bad =
      subst (IsBadLook shown root key stamp) same
      (bad_leaf at.column leaf.start leaf.page is.comes (λ parts start current represents_node. subst (IsSpotOf at.column parts start current key stamp) e (is.spot parts start current represents_node)) (subst (IsNoLeaf shown at.column leaf.start) (sym same) bad))
