use Rattle.std.proofs.Common.{List, ℕ, Option}
use Rattle.route_meaning.specs.declared.question.Select.{Select}
use Rattle.route_meaning.specs.declared.question.Select.TheVariants.{Route, ByPrefix, Covering, PeerTable, All}
use Rattle.route_meaning.specs.declared.question.Spot.{Spot}
use Rattle.route_model.specs.declared.address.Address.{Address}
use Rattle.route_model.specs.declared.peer.Peer.{Peer}
use Rattle.route_model.specs.Prefix.{IpPrefix}
use Rattle.service.specs.Requests.{AreRouteWords, ArePrefixWords, AreCoverWords, ArePeerTableWords, AreAllWords, AreSelectWords}
use Rattle.service.proofs.rows_request.read_select.Goals as goal

-- words that ask for rows of no kind
none : (words : List (List ℕ)) → ((spot : Spot) → AreRouteWords words spot → ⊥)
    → ((prefix : IpPrefix) (after : Option Spot) → ArePrefixWords words prefix after → ⊥)
    → ((address : Address) (after : Option Spot) → AreCoverWords words address after → ⊥)
    → ((peer : Peer) (after : Option Spot) → ArePeerTableWords words peer after → ⊥)
    → ((after : Option Spot) → AreAllWords words after → ⊥)
    → (select : Select) (after : Option Spot) → AreSelectWords words select after → ⊥
none words route prefix cover table all (Route peer p) after h = route (record { peer = peer; prefix = p }) h.0
none words route prefix cover table all (ByPrefix p) after h = prefix p after h
none words route prefix cover table all (Covering address) after h = cover address after h
none words route prefix cover table all (PeerTable peer) after h = table peer after h
none words route prefix cover table all All after h = all after h

pub returns-clause-none : goal.returns-clause-none
returns-clause-none c =
    none _ c.in_default.ensures.none c.in_default-read_by_prefix.ensures.none c.in_default-read_covering.ensures.none
    c.in_default-read_peer_table.ensures.none c.in_default-read_all.ensures.none
