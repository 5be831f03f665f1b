-- The routes that a replay of changes keeps. Contracts of private functions alone cite this file.
use Rattle.std.specs.Prelude.{ℕ, List, [], ◌∷◌, ◌++◌, ◌≡◌, ◌<◌, ◌&&◌, Bool, true, not, cond, nat_lt, nat_le, Option, Some, None, IsTrue, if◌then◌else◌}
use Rattle.std.specs.Str.{bytes_eq}
use Rattle.std.specs.Ordering.{ordering_then}
use Rattle.std.specs.declared.cmp.Ordering.{Ordering}
use Rattle.std.specs.BTreeMap.{BTreeMap, get}
use Rattle.route_model.specs.declared.address.Address.{Address}
use Rattle.route_model.specs.declared.peer.Peer.{Peer}
use Rattle.route_model.specs.declared.route.Route.{Route}
use Rattle.route_model.specs.declared.change.Change.{Change}
use Rattle.route_model.specs.declared.change.Change.TheVariants.{Announce, Withdraw, Down}
use Rattle.route_model.specs.Address.{family}
use Rattle.route_model.specs.Prefix.{IpPrefix, IsPrefix, cleared_address}
use Rattle.route_model.specs.Encoding.{IsPeer}
use Rattle.route_model.specs.Keys.{peer_order, prefix_order}
use Rattle.route_meaning.specs.declared.question.Select.{Select}
use Rattle.route_meaning.specs.declared.question.Select.TheVariants.{Route as OneRoute, ByPrefix, Covering, PeerTable, All as Everything}
use Rattle.route_meaning.specs.declared.question.Spot.{Spot}
use Rattle.route_meaning.specs.declared.question.Row.{Row}
use Rattle.route_meaning.specs.declared.question.RowsRange.{RowsRange}
use Rattle.route_meaning.specs.Holds.{same_address, same_peer, same_prefix}
use Rattle.route_meaning.specs.Rows.{spot_number}

-- the route after a change, by the one before it
abbrev pub after_change : Peer → IpPrefix → Option Route → Change → Option Route
after_change peer prefix old (Announce p x route) = if same_peer p peer && same_prefix x prefix then Some route else old
after_change peer prefix old (Withdraw p x) = if same_peer p peer && same_prefix x prefix then None else old
after_change peer prefix old (Down p) = if same_peer p peer then None else old

-- the route after the changes, by the one before them
abbrev pub route_after : Peer → IpPrefix → Option Route → List Change → Option Route
route_after peer prefix old [] = old
route_after peer prefix old (change ∷ changes) = route_after peer prefix (after_change peer prefix old change) changes

abbrev pub spot : Peer → IpPrefix → Spot
spot p x = record { peer = p; prefix = x }

abbrev pub row_at : Spot → Route → Row
row_at s route = record { peer = s.peer; prefix = s.prefix; route = route }

-- the order of spots: by peer, then by prefix
abbrev pub spot_cmp : Spot → Spot → Ordering
spot_cmp s t = ordering_then (peer_order s.peer t.peer) (prefix_order s.prefix t.prefix)

-- a spot of values: only for these is the order of spots that of their numbers
abbrev pub IsSpot : Spot → Type 0
IsSpot s = IsPeer s.peer × IsPrefix s.prefix

-- does the prefix contain the address?
abbrev pub covers : IpPrefix → Address → Bool
covers x address = same_address (cleared_address x.length address) x.address

-- does the question select the prefix of the peer?
abbrev pub selects : Select → Peer → IpPrefix → Bool
selects (OneRoute p x) peer prefix = same_peer peer p && same_prefix prefix x
selects (ByPrefix x) peer prefix = same_prefix prefix x
selects (Covering address) peer prefix = covers prefix address
selects (PeerTable p) peer prefix = same_peer peer p
selects Everything peer prefix = true

abbrev pub is_above : Option Spot → ℕ → Bool
is_above None n = true
is_above (Some low) n = nat_lt (spot_number low) n

abbrev pub is_within : Option Spot → ℕ → Bool
is_within None n = true
is_within (Some high) n = not (nat_lt (spot_number high) n)

-- is the spot selected, above low and not above high?
abbrev pub is_expected : RowsRange → Spot → Bool
is_expected w s = selects w.select s.peer s.prefix && (is_above w.low (spot_number s) && is_within w.high (spot_number s))

-- the table has at each spot asked for the route that is there after the changes, and nothing else; and its spots are values
pub record IsTable (w : RowsRange) (changes : List Change) (table : BTreeMap Spot Route) : Type 0 where
  pub at : (s : Spot) → get spot_cmp table s ≡ cond (is_expected w s) (route_after s.peer s.prefix None changes) None
  pub valid : (s : Spot) (route : Route) → get spot_cmp table s ≡ Some route → IsSpot s
