-- Changes and admissions, and an admission's unique encoding.
use Rattle.std.specs.Prelude.{ℕ, ◌<◌, ◌≤◌, List, [], ◌∷◌, ◌++◌, length, map, Any}
use Rattle.std.specs.List.{flat_map, AllByRecursion}
use Rattle.std.specs.Int.{w16, w64, to_be_bytes}
use Rattle.route_model.specs.declared.peer.Peer.{Peer}
use Rattle.route_model.specs.declared.route.Route.{Route}
use Rattle.route_model.specs.declared.change.Change.{Change}
use Rattle.route_model.specs.declared.change.Change.TheVariants.{Announce, Withdraw, Down}
use Rattle.route_model.specs.Octets.{Encodes}
use Rattle.route_model.specs.Moments.{IsMoment}
use Rattle.route_model.specs.Prefix.{IsPrefix, prefix_octets}
use Rattle.route_model.specs.Encoding.{IsPeer, peer_octets, IsRoute, route_octets}
use Rattle.route_model.specs.Tables.{first_uses, place_of}

-- the peer that a change is about
abbrev pub peer_of : Change → Peer
peer_of (Announce p x r) = p
peer_of (Withdraw p x) = p
peer_of (Down p) = p

-- the route that a change announces
abbrev pub announced : Change → List Route
announced (Announce p x r) = r ∷ []
announced (Withdraw p x) = []
announced (Down p) = []

-- what an admission is to a clause
pub record Admitted : Type 0 where
  pub time : ℕ
  pub changes : List Change

-- the peers of the changes, in the order of first use, each once
abbrev pub peer_table : List Change → List Peer
peer_table changes = first_uses peer_octets (map peer_of changes)

-- the routes of the changes, in the order of first use, each once
abbrev pub route_table : List Change → List Route
route_table changes = first_uses route_octets (flat_map announced changes)

-- a change by the places of its peer and its route among the rows of the tables
abbrev pub change_octets : List (List ℕ) → List (List ℕ) → Change → List ℕ
change_octets peers routes (Announce p x r) = 1 ∷ to_be_bytes w16 (place_of peers (peer_octets p)) ++ prefix_octets x ++ to_be_bytes w16 (place_of routes (route_octets r))
change_octets peers routes (Withdraw p x) = 2 ∷ to_be_bytes w16 (place_of peers (peer_octets p)) ++ prefix_octets x
change_octets peers routes (Down p) = 3 ∷ to_be_bytes w16 (place_of peers (peer_octets p))

-- an octet string after its length
abbrev pub sized : List ℕ → List ℕ
sized o = to_be_bytes w16 (length o) ++ o

-- how many, and each in turn
abbrev pub counted : {A : Type 0} → (A → List ℕ) → List A → List ℕ
counted encode xs = to_be_bytes w16 (length xs) ++ flat_map encode xs

-- the encodings of the peers of the table
abbrev pub peer_rows : List Change → List (List ℕ)
peer_rows changes = map peer_octets (peer_table changes)

-- the encodings of the routes of the table
abbrev pub route_rows : List Change → List (List ℕ)
route_rows changes = map route_octets (route_table changes)

-- an admission in octets: its time, its two tables, and its changes by places in them
unfoldable pub admission_octets : Admitted → List ℕ
admission_octets a =
    to_be_bytes w64 a.time
    ++ counted (λ row. row) (peer_rows a.changes)
    ++ counted sized (route_rows a.changes)
    ++ counted (change_octets (peer_rows a.changes) (route_rows a.changes)) a.changes

-- the change announces a route of more than 3,072 octets
abbrev pub IsLarge : Change → Type 0
IsLarge (Announce p x r) = 3072 < length (route_octets r)
IsLarge (Withdraw p x) = ⊥
IsLarge (Down p) = ⊥

-- no route is too large, and the encoding of the whole has more than 131,072 octets
pub record IsTooLarge (a : Admitted) : Type 0 where
  pub routes : Any IsLarge a.changes → ⊥
  pub large : 131072 < length (admission_octets a)

-- each part of the change is a value of its type, and a route has at most 3,072 octets
abbrev pub IsChange : Change → Type 0
IsChange (Announce p x r) = IsPeer p × IsPrefix x × IsRoute r × (length (route_octets r) ≤ 3072)
IsChange (Withdraw p x) = IsPeer p × IsPrefix x
IsChange (Down p) = IsPeer p

-- a moment, such changes, and at most 131,072 octets in all
pub record IsAdmission (a : Admitted) : Type 0 where
  pub time : IsMoment a.time
  pub changes : AllByRecursion IsChange a.changes
  pub small : length (admission_octets a) ≤ 131072

-- the octets are the unique encoding of the admission
abbrev pub EncodesAdmission : Admitted → List ℕ → Type 0
EncodesAdmission = Encodes IsAdmission admission_octets
