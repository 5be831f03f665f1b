-- Which route holds for a prefix of a peer at a moment, over admissions in one order.
use Rattle.std.specs.Prelude.{ℕ, List, [], ◌∷◌, ◌++◌, ◌≡◌, ◌==◌, ◌&&◌, Bool, false, filter, nat_le}
use Rattle.std.specs.List.{AllByRecursion}
use Rattle.std.specs.Str.{bytes_eq}
use Rattle.route_model.specs.declared.address.Address.{Address}
use Rattle.route_model.specs.declared.address.Address.TheVariants.{V4, V6}
use Rattle.route_model.specs.declared.peer.Peer.{Peer}
use Rattle.route_model.specs.declared.route.Route.{Route}
use Rattle.route_model.specs.declared.change.Change.{Change}
use Rattle.route_model.specs.declared.change.Change.TheVariants.{Announce, Withdraw, Down}
use Rattle.route_model.specs.Prefix.{IpPrefix}
use Rattle.route_model.specs.Admission.{Admitted}
use Rattle.route_meaning.specs.Merged.{Placed}

-- when it was admitted, in microseconds since 1970-01-01T00:00:00Z
abbrev pub admitted_time : Admitted → ℕ
admitted_time a = a.time

-- the same of an admission with its collector
abbrev pub time_of : Placed Admitted → ℕ
time_of p = p.item.time

-- are the addresses equal?
abbrev pub same_address : Address → Address → Bool
same_address (V4 a) (V4 b) = bytes_eq a b
same_address (V4 a) (V6 b) = false
same_address (V6 a) (V4 b) = false
same_address (V6 a) (V6 b) = bytes_eq a b

-- are the peers equal: of one collector, at one address, with one AS number?
abbrev pub same_peer : Peer → Peer → Bool
same_peer p q = (p.collector == q.collector) && (same_address p.address q.address && (p.as_number == q.as_number))

-- are the prefixes equal?
abbrev pub same_prefix : IpPrefix → IpPrefix → Bool
same_prefix x y = same_address x.address y.address && (x.length == y.length)

-- is the change about the prefix of the peer: does it announce or withdraw it, or end all routes of that peer?
abbrev pub concerns : Peer → IpPrefix → Change → Bool
concerns peer prefix (Announce p x route) = same_peer p peer && same_prefix x prefix
concerns peer prefix (Withdraw p x) = same_peer p peer && same_prefix x prefix
concerns peer prefix (Down p) = same_peer p peer

-- the admissions of the moment and of all moments before it
abbrev pub until : ℕ → List (Placed Admitted) → List (Placed Admitted)
until moment ps = filter (λ p. nat_le (time_of p) moment) ps

-- the changes of the admissions, in their order
abbrev pub changes_of : List (Placed Admitted) → List Change
changes_of [] = []
changes_of (p ∷ ps) = p.item.changes ++ changes_of ps

-- the route holds: of the changes up to the moment one announces it, and none after that one concerns the prefix of the peer
pub record Holds (ps : List (Placed Admitted)) (moment : ℕ) (peer : Peer) (prefix : IpPrefix) (route : Route) : Type 0 where
  pub before : List Change
  pub after : List Change
  pub announced : changes_of (until moment ps) ≡ before ++ Announce peer prefix route ∷ after
  pub stays : AllByRecursion (λ change. concerns peer prefix change ≡ false) after
