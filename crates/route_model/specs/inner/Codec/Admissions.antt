-- Reading an admission: it may accept more than valid encodings.
use Rattle.std.specs.Prelude.{ℕ, ◌+◌, ◌*◌, ◌/◌, ◌-◌, List, ◌++◌, length, replicate, Option, Some, None, nat_lt, ◌==◌, if◌then◌else◌, slice_get}
use Rattle.std.specs.Int.{w16, w64}
use Rattle.route_model.specs.declared.address.Address.{Address}
use Rattle.route_model.specs.declared.address.Address.TheVariants.{V4, V6}
use Rattle.route_model.specs.declared.peer.Peer.{Peer}
use Rattle.route_model.specs.declared.route.Route.{Route}
use Rattle.route_model.specs.declared.change.Change.{Change}
use Rattle.route_model.specs.declared.change.Change.TheVariants.{Announce, Withdraw, Down}
use Rattle.route_model.specs.declared.key.KeyParts.{KeyParts}
use Rattle.route_model.specs.declared.key.KeyParts.TheVariants.{Session, Prefix as OfPrefix}
use Rattle.route_model.specs.Address.{octets}
use Rattle.route_model.specs.Prefix.{IpPrefix, cleared_address}
use Rattle.route_model.specs.Admission.{Admitted}
use Rattle.route_model.specs.inner.Codec.{◌>>=◌, octet_at, octets_at, number_at, repeat, whole, peer_at, route_at, wide_address}

-- the address whose octets begin so and go on with zeros
abbrev pub filled : ℕ → List ℕ → Option Address
filled family front = if family == 4 then Some (V4 (front ++ replicate (4 - length front) 0)) else if family == 6 then Some (V6 (front ++ replicate (16 - length front) 0)) else None

abbrev pub prefix_of : ℕ → ℕ → List ℕ → Option IpPrefix
prefix_of family len front = do
  address ← filled family front
  Some (record { address = cleared_address len address; length = len })

abbrev pub width : ℕ → ℕ
width family = if family == 4 then 32 else 128

unfoldable pub prefix_at : List ℕ → Option (IpPrefix × List ℕ)
prefix_at bytes = do
  family ← octet_at bytes
  len ← octet_at family.1
  if nat_lt (width family.0) len.0 then None else do
    front ← octets_at ((len.0 + 7) / 8) len.1
    prefix ← prefix_of family.0 len.0 front.0
    Some (prefix, front.1)

-- a row of the table of routes
unfoldable pub row_at : List ℕ → Option (Route × List ℕ)
row_at bytes = do
  len ← number_at w16 bytes
  row ← octets_at len.0 len.1
  route ← whole (route_at row.0)
  Some (route, row.1)

unfoldable pub change_at : List Peer → List Route → List ℕ → Option (Change × List ℕ)
change_at peers routes bytes = do
  kind ← octet_at bytes
  place ← number_at w16 kind.1
  peer ← slice_get peers place.0
  if kind.0 == 3 then Some (Down peer, place.1) else do
    prefix ← prefix_at place.1
    if kind.0 == 2 then Some (Withdraw peer prefix.0, prefix.1) else do
      at ← number_at w16 prefix.1
      route ← slice_get routes at.0
      Some (Announce peer prefix.0 route, at.1)

unfoldable pub admission_at : List ℕ → Option (Admitted × List ℕ)
admission_at bytes = do
  time ← number_at w64 bytes
  peer_count ← number_at w16 time.1
  peers ← repeat peer_at peer_count.0 peer_count.1
  route_count ← number_at w16 peers.1
  routes ← repeat row_at route_count.0 route_count.1
  change_count ← number_at w16 routes.1
  changes ← repeat (change_at peers.0 routes.0) change_count.0 change_count.1
  Some (record { time = time.0; changes = changes.0 }, changes.1)

-- what the octets of a key are made of: it may read more than keys
unfoldable pub parts_at : List ℕ → Option KeyParts
parts_at bytes = do
  peer ← peer_at bytes
  kind ← octet_at peer.1
  if kind.0 == 0 then Some (Session peer.0) else do
    wide ← octets_at 16 kind.1
    address ← wide_address kind.0 wide.0
    len ← octet_at wide.1
    if nat_lt (8 * length (octets address)) len.0 then None else Some (OfPrefix peer.0 (record { address = cleared_address len.0 address; length = len.0 }))
