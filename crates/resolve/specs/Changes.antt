-- What a message changes.
use Rattle.std.specs.Prelude.{ℕ, Bool, false, not, List, [], ◌∷◌, ◌++◌, map, filter, Option, Some, None}
use Rattle.std.specs.List.{list_any}
use Rattle.route_model.specs.Prefix.{IpPrefix}
use Rattle.route_model.specs.declared.peer.Peer.{Peer}
use Rattle.route_model.specs.declared.change.Change.{Change}
use Rattle.route_model.specs.declared.change.Change.TheVariants as changes
use Rattle.route_meaning.specs.Holds.{same_prefix}
use Rattle.mrt_records.specs.declared.neighbor.Neighbor.{Neighbor}
use Rattle.bgp_update.specs.Messages.{Announced, Changes, Reported, Update, Notification, Other}

-- the neighbor as a peer of the collector
abbrev pub peer_of_neighbor : ℕ → Neighbor → Peer
peer_of_neighbor collector n = record { collector = collector; address = n.address; as_number = n.as_number }

-- is the prefix among those that are announced?
abbrev pub is_among : Option Announced → IpPrefix → Bool
is_among None x = false
is_among (Some a) x = list_any (λ y. same_prefix x y) a.prefixes

-- a withdrawal of each of the prefixes
abbrev pub withdrawals : Peer → List IpPrefix → List Change
withdrawals peer prefixes = map (λ x. changes.Withdraw peer x) prefixes

-- an announcement of each of the prefixes, by the route that they share
abbrev pub announcements : Peer → Option Announced → List Change
announcements peer None = []
announcements peer (Some a) = map (λ x. changes.Announce peer x a.route) a.prefixes

-- the withdrawn field, without what NLRI announces; then MP_UNREACH_NLRI, NLRI and MP_REACH_NLRI, each in its order
abbrev pub update_changes : Peer → Changes → List Change
update_changes peer u =
    withdrawals peer (filter (λ x. not (is_among u.announced x)) u.withdrawn)
    ++ (withdrawals peer u.unreachable ++ (announcements peer u.announced ++ announcements peer u.reachable))

-- a NOTIFICATION ends the peer's routes; messages of other types change nothing
abbrev pub message_changes : Peer → Reported → List Change
message_changes peer (Update u) = update_changes peer u
message_changes peer Notification = changes.Down peer ∷ []
message_changes peer (Other kind) = []
