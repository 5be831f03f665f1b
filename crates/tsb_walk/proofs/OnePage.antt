-- What the octets of one page represent to a key and a stamp.
use Rattle.std.proofs.Common.{◌≡◌, ℕ, ◌<◌, List, Option, Some, None, IfSome, IfNone, sym, ap, subst, arith}
use Rattle.version_model.specs.declared.bounds.Bounds.{Bounds}
use Rattle.version_model.specs.declared.part.Part.{Part}
use Rattle.version_model.specs.declared.part.Place.{Place}
use Rattle.version_model.specs.declared.child.Child.{Child}
use Rattle.version_model.specs.Versions.{Version}
use Rattle.version_model.specs.Ranges.{IsPoint, range_of, high_or, key_end}
use Rattle.version_model.specs.Blocks.{IsPartOf}
use Rattle.version_model.specs.Pages.{Keys, PageNode, CurrentLeaf, ColumnNode, KeyNode, IsChildOf, past_range}
use Rattle.tsb_node.specs.declared.column.PartAt.{PartAt}
use Rattle.tsb_node.specs.declared.column.Spot.TheVariants.{InBlock}
use Rattle.tsb_node.specs.declared.key_node.Under.{Under}
use Rattle.tsb_node.specs.Leaves.{LeafNode, IsLeafPage}
use Rattle.tsb_node.specs.Columns.{ColumnInPage, IsColumnPage}
use Rattle.tsb_node.specs.KeyNodes.{KeyNodeInPage, IsKeyNodePage}
use Rattle.tsb_node.specs.Children.{IsKeyWithin, IsUnder}
use Rattle.tsb_node.specs.Parts.{IsSpot}
use Rattle.tsb_node.specs.Views.{PageRepresents, represents_leaf, represents_column, represents_key_node, keys_between}
use Rattle.tsb_node.proofs.api.Pages.{child_under, part_at_spot}
use Rattle.tsb_walk.specs.declared.page_place.PagePlace.{PagePlace}
use Rattle.tsb_walk.specs.declared.page_steps.ColumnSpot.{ColumnSpot}
use Rattle.tsb_walk.specs.Shown.{keys_at, HasKey}
use Rattle.tsb_walk.specs.inner.PageSteps.{IsChildAt, IsSpotOf}

-- ---- the nodes that pages represent

pub record KeyNodeView (octets : List ℕ) (level : ℕ) (keys : Keys) (children : List Child) : Type 0 where
  pub node : KeyNodeInPage
  pub page : IsKeyNodePage node octets
  pub level_is : node.level ≡ level
  pub keys_are : keys_between node.bounds ≡ keys
  pub same : node.children ≡ children

pub key_node_decoded : (octets : List ℕ) (decoded : PageNode) → PageRepresents octets decoded → (level : ℕ) (keys : Keys) (children : List Child) → decoded ≡ KeyNode level keys children → KeyNodeView octets level keys children
key_node_decoded octets _ (represents_leaf leaf is) level keys children e = absurd (cc)
key_node_decoded octets _ (represents_column column is) level keys children e = absurd (cc)
key_node_decoded octets _ (represents_key_node node is) level keys children e =
    let l : node.level ≡ level = cc in
    let k : keys_between node.bounds ≡ keys = cc in
    let c : node.children ≡ children = cc in
    record { node = node; page = is; level_is = l; keys_are = k; same = c }

pub record ColumnView (octets : List ℕ) (keys : Keys) (parts : List Part) (start current : ℕ) : Type 0 where
  pub column : ColumnInPage
  pub page : IsColumnPage column octets
  pub keys_are : keys_between column.bounds ≡ keys
  pub parts_are : column.parts ≡ parts
  pub start_is : column.current.start ≡ start
  pub page_is : column.current.page ≡ current

pub decoded_column_page : (octets : List ℕ) (decoded : PageNode) → PageRepresents octets decoded → (keys : Keys) (parts : List Part) (start current : ℕ) → decoded ≡ ColumnNode keys parts start current → ColumnView octets keys parts start current
decoded_column_page octets _ (represents_leaf leaf is) keys parts start current e = absurd (cc)
decoded_column_page octets _ (represents_column column is) keys parts start current e =
    let k : keys_between column.bounds ≡ keys = cc in
    let p : column.parts ≡ parts = cc in
    let s : column.current.start ≡ start = cc in
    let c : column.current.page ≡ current = cc in
    record { column = column; page = is; keys_are = k; parts_are = p; start_is = s; page_is = c }
decoded_column_page octets _ (represents_key_node node is) keys parts start current e = absurd (cc)

pub record LeafPageView (octets : List ℕ) (keys : Keys) (start : ℕ) : Type 0 where
  pub leaf : LeafNode
  pub page : IsLeafPage leaf octets
  pub keys_are : keys_between leaf.bounds ≡ keys
  pub start_is : leaf.bounds.start ≡ start

pub decoded_leaf_page : (octets : List ℕ) (decoded : PageNode) → PageRepresents octets decoded → (keys : Keys) (start : ℕ) (versions : List Version) → decoded ≡ CurrentLeaf keys start versions → LeafPageView octets keys start
decoded_leaf_page octets _ (represents_leaf leaf is) keys start versions e =
    let k : keys_between leaf.bounds ≡ keys = cc in
    let s : leaf.bounds.start ≡ start = cc in
    record { leaf = leaf; page = is; keys_are = k; start_is = s }
decoded_leaf_page octets _ (represents_column column is) keys start versions e = absurd (cc)
decoded_leaf_page octets _ (represents_key_node node is) keys start versions e = absurd (cc)

-- ---- key nodes

below_high : (high : Option ℕ) (key : ℕ) → key < high_or high → IfSome high (λ n. key < n)
below_high None key lt = tt
below_high (Some n) key lt = lt

pub above_high : (high : Option ℕ) (key : ℕ) → key < key_end → IfSome high (λ n. key < n) → key < high_or high
above_high None key fits lt = fits
above_high (Some n) key fits lt = lt

pub key_within : (b : Bounds) (place : PagePlace) (key : ℕ) → keys_between b ≡ keys_at place → HasKey place key → IsKeyWithin b key
key_within b place key same has =
    let low : b.low ≡ place.low = ap (λ (k : Keys). k.low) same in
    let high : high_or b.high ≡ high_or place.high = ap (λ (k : Keys). k.high) same in
    record { low = omega (arith, low, has.low); high = below_high b.high key (omega (arith, high, has.high)) }

-- the child under which a key lies is the one at the next place
pub child_is : (node : KeyNodeInPage) (place next : PagePlace) (key : ℕ) (under : Under) → keys_between node.bounds ≡ keys_at place → IsUnder node key under
    → next.page ≡ under.page → next.low ≡ under.low → next.high ≡ under.high → IsChildAt place node.children next
child_is node place next key under keys below page low high =
    let found = child_under node key under below in
    let along = subst (λ (k : Keys). IsChildOf k node.children (record { low = under.low; high = high_or under.high }) (record { low = under.low; page = under.page })) keys found in
    subst (λ (c : Child). IsChildOf (keys_at place) node.children (keys_at next) c) (λ i. record { low = sym low i; page = sym page i })
    (subst (λ (k : Keys). IsChildOf (keys_at place) node.children k (record { low = under.low; page = under.page })) (λ i. record { low = sym low i; high = high_or (sym high i) }) along)

-- and has the key
pub child_has : (node : KeyNodeInPage) (next : PagePlace) (key : ℕ) (under : Under) → key < key_end → IsUnder node key under → next.low ≡ under.low → next.high ≡ under.high → HasKey next key
child_has node next key under fits below low high = record {
  low = omega (arith, low, below.low);
  high = subst (λ (h : Option ℕ). key < high_or h) (sym high) (above_high under.high key fits below.high);
}

-- ---- columns

pub past_is : (column : ColumnInPage) (place : PagePlace) (key stamp : ℕ) (found : PartAt) (past : Place) → keys_between column.bounds ≡ keys_at place → HasKey place key → IsSpot column stamp (InBlock found)
    → past.bounds ≡ record { low = place.low; high = place.high; start = found.part.start; end = Some found.end } → past.part ≡ found.part
    → IsPartOf (past_range (keys_at place) column.current.start) column.parts (range_of past.bounds) past.part × IsPoint (range_of past.bounds) key stamp
past_is column place key stamp found past keys has spot bounds part =
    let of = part_at_spot column stamp found spot in
    let along = subst (λ (k : Keys). IsPartOf (past_range k column.current.start) column.parts (record { low = k.low; high = k.high; start = found.part.start; end = found.end }) found.part) keys of in
    let point : IsPoint (record { low = place.low; high = high_or place.high; start = found.part.start; end = found.end }) key stamp = record { low = has.low; high = has.high; start = spot.start; end = spot.before } in (
      subst (λ (b : Bounds). IsPartOf (past_range (keys_at place) column.current.start) column.parts (range_of b) past.part) (sym bounds)
          (subst (λ (p : Part). IsPartOf (past_range (keys_at place) column.current.start) column.parts (record { low = place.low; high = high_or place.high; start = found.part.start; end = found.end }) p) (sym part) along),
      subst (λ (b : Bounds). IsPoint (range_of b) key stamp) (sym bounds) point,
    )

-- where a column has a stamp, in the words of what its page represents
pub spot_as : (o : Option ColumnSpot) (place : PagePlace) (column : ColumnInPage) (parts : List Part) (start current key stamp : ℕ) → column.parts ≡ parts → column.current.start ≡ start → column.current.page ≡ current
    → IfSome o (IsSpotOf place column.parts column.current.start column.current.page key stamp) → IfSome o (IsSpotOf place parts start current key stamp)
spot_as o place column parts start current key stamp ps s c is =
    subst (λ (n : ℕ). IfSome o (IsSpotOf place parts start n key stamp)) c
    (subst (λ (b : ℕ). IfSome o (IsSpotOf place parts b column.current.page key stamp)) s
    (subst (λ (x : List Part). IfSome o (IsSpotOf place x column.current.start column.current.page key stamp)) ps is))

pub none_as : {X : Type 0} (o : Option X) (P Q : Type 0) → (P → Q) → IfNone o P → IfNone o Q
none_as None P Q f is = f is
none_as (Some x) P Q f is = tt
