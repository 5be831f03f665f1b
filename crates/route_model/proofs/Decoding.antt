-- An admission that was written is read again.
use Rattle.std.proofs.Common.{◌≡◌, ℕ, ◌<◌, ◌≤◌, ◌^◌, true, List, [], ◌∷◌, ◌++◌, length, map, Some, refl, sym, ap, subst, ◌∙◌, arith, append_assoc, inl, inr, suc, add-one}
use Rattle.std.specs.Prelude.{slice_get}
use Rattle.std.specs.List.{flat_map, AllByRecursion}
use Rattle.std.specs.Int.{w16, to_be_bytes}
use Rattle.std.specs.Str.{bytes_eq}
use Rattle.std.proofs.lemmas.List.{append-nil}
use Rattle.std.proofs.lemmas.List.Concat.{flat_map-cons}
use Rattle.route_model.specs.declared.peer.Peer.{Peer}
use Rattle.route_model.specs.declared.route.Route.{Route}
use Rattle.route_model.specs.declared.change.Change.{Change}
use Rattle.route_model.specs.declared.change.Change.TheVariants.{Announce, Withdraw, Down}
use Rattle.route_model.specs.Prefix.{IpPrefix, IsPrefix, prefix_octets}
use Rattle.route_model.specs.Encoding.{IsPeer, peer_octets, IsRoute, route_octets, EncodesRoute}
use Rattle.route_model.specs.Tables.{distinct, place_of, has_row}
use Rattle.route_model.specs.Admission.{change_octets, sized, IsChange}
use Rattle.route_model.specs.inner.Codec.{number_at, whole, peer_at, route_at}
use Rattle.route_model.specs.inner.Codec.Admissions.{prefix_at, row_at, change_at}
use Rattle.route_model.proofs.Fields.{some, some_is, wide16, number_again, octets_again}
use Rattle.route_model.proofs.Peers.{peer_again}
use Rattle.route_model.proofs.Routes.{route_again}
use Rattle.route_model.proofs.TableRows.{bool_cases, same, is_same, has_row-filter}

-- ---- what the tables have

pub has_row-distinct : (rows : List (List ℕ)) (x : List ℕ) → has_row (distinct rows) x ≡ has_row rows x
has_row-distinct [] x = refl
has_row-distinct (r ∷ rows) x = elim (bool_cases (bytes_eq r x)) [
  | inl p ↦ rw p refl
  | inr p ↦ rw p (has_row-filter r x (distinct rows) p ∙ has_row-distinct rows x)
]

pub has_row-append : (front rows : List (List ℕ)) (x : List ℕ) → has_row (front ++ x ∷ rows) x ≡ true
has_row-append [] rows x = rw (same x) refl
has_row-append (y ∷ front) rows x = elim (bool_cases (bytes_eq y x)) [ inl p ↦ rw p refl | inr p ↦ rw p (has_row-append front rows x) ]

-- a value of the table stands at its place
place_get : {A : Type 0} (encode : A → List ℕ) (P : A → Type 0) (x : A) → ((y : A) → P y → encode y ≡ encode x → y ≡ x) → (table : List A) → AllByRecursion P table → has_row (map encode table) (encode x) ≡ true → slice_get table (place_of (map encode table) (encode x)) ≡ Some x
place_get encode P x one [] all has = absurd cc
place_get encode P x one (y ∷ table) all has = elim (bool_cases (bytes_eq (encode y) (encode x))) [
  | inl p ↦ rw p (ap (λ (z : _). Some z) (one y all.0 (is_same (encode y) (encode x) p)))
  | inr p ↦ rw (p, add-one) (place_get encode P x one table all.1 (rw p at has))
]

place_within : (rows : List (List ℕ)) (x : List ℕ) → place_of rows x ≤ length rows
place_within [] x = omega arith
place_within (y ∷ rows) x = elim (bool_cases (bytes_eq y x)) [ inl p ↦ rw p (omega arith) | inr p ↦ rw p (omega (arith, place_within rows x)) ]

-- ---- one encoding, one value

pub whole_route : (r : Route) → IsRoute r → whole (route_at (route_octets r)) ≡ Some r
whole_route r is =
    let e : route_at (route_octets r) ≡ Some (r, []) = subst (λ (t : List ℕ). route_at t ≡ Some (r, [])) (append-nil (route_octets r)) (route_again r [] is) in
    rw e refl

pub route_encoded : (r : Route) (bytes : List ℕ) → EncodesRoute r bytes → whole (route_at bytes) ≡ Some r
route_encoded r bytes is = ap (λ (t : List ℕ). whole (route_at t)) is.encoded ∙ whole_route r is.valid

route_one : (r q : Route) → IsRoute r → IsRoute q → route_octets r ≡ route_octets q → r ≡ q
route_one r q is iq e =
    let f : some r ≡ some q = sym (whole_route r is) ∙ ap (λ (t : List ℕ). whole (route_at t)) e ∙ whole_route q iq in
    some_is r q f

pub peer_one : (p q : Peer) → IsPeer p → IsPeer q → peer_octets p ≡ peer_octets q → p ≡ q
peer_one p q is iq e =
    let a : peer_at (peer_octets p ++ []) ≡ Some (p, []) = peer_again p [] is in
    let b : peer_at (peer_octets q ++ []) ≡ Some (q, []) = peer_again q [] iq in
    let f : some (p, []) ≡ some (q, []) = sym a ∙ ap (λ (t : List ℕ). peer_at (t ++ [])) e ∙ b in
    ap (λ (x : Peer × List ℕ). x.0) (some_is (p, []) (q, []) f)

-- ---- rows

-- a row of the table of routes is read again
pub row_again : (r : Route) (rest : List ℕ) → IsRoute r → length (route_octets r) ≤ 3072 → row_at (sized (route_octets r) ++ rest) ≡ Some (r, rest)
unfolding row_at
row_again r rest is few =
    let row : List ℕ = route_octets r in
    ap row_at (append_assoc (to_be_bytes w16 (length row)) row rest)
    ∙ rw (number_again w16 (2 ^ 16) wide16 (length row) (row ++ rest) (omega arith), octets_again row rest (length row) refl, whole_route r is) refl

pub flat_map-map : {A : Type 0} (encode : A → List ℕ) (xs : List A) → flat_map (λ row. row) (map encode xs) ≡ flat_map encode xs
flat_map-map encode [] = refl
flat_map-map encode (x ∷ xs) = flat_map-cons (λ (row : List ℕ). row) (encode x) (map encode xs) ∙ ap (λ (t : List ℕ). encode x ++ t) (flat_map-map encode xs) ∙ sym (flat_map-cons encode x xs)

pub length-map : {A : Type 0} (encode : A → List ℕ) (xs : List A) → length (map encode xs) ≡ length xs
length-map encode [] = refl
length-map encode (x ∷ xs) = ap suc (length-map encode xs)

-- ---- changes

-- the tables have what the change uses
abbrev pub IsIn : List (List ℕ) → List (List ℕ) → Change → Type 0
IsIn peers routes (Announce p x r) = (has_row peers (peer_octets p) ≡ true) × (has_row routes (route_octets r) ≡ true)
IsIn peers routes (Withdraw p x) = has_row peers (peer_octets p) ≡ true
IsIn peers routes (Down p) = has_row peers (peer_octets p) ≡ true

abbrev pub Fits : List (List ℕ) → List (List ℕ) → Change → Type 0
Fits peers routes c = IsChange c × IsIn peers routes c

-- what the reading of prefixes gives
abbrev pub PrefixAgain : Type 0
PrefixAgain = (x : IpPrefix) (rest : List ℕ) → IsPrefix x → prefix_at (prefix_octets x ++ rest) ≡ Some (x, rest)

place_again : {A : Type 0} (encode : A → List ℕ) (table : List A) (row rest : List ℕ) → length table < 2 ^ 16 → number_at w16 (to_be_bytes w16 (place_of (map encode table) row) ++ rest) ≡ Some (place_of (map encode table) row, rest)
place_again encode table row rest lt = number_again w16 (2 ^ 16) wide16 (place_of (map encode table) row) rest (omega (arith, place_within (map encode table) row, length-map encode table))

peer_get : (peers : List Peer) (p : Peer) → AllByRecursion IsPeer peers → IsPeer p → has_row (map peer_octets peers) (peer_octets p) ≡ true → slice_get peers (place_of (map peer_octets peers) (peer_octets p)) ≡ Some p
peer_get peers p all is has = place_get peer_octets IsPeer p (λ y iy e. peer_one y p iy is e) peers all has

route_get : (routes : List Route) (r : Route) → AllByRecursion IsRoute routes → IsRoute r → has_row (map route_octets routes) (route_octets r) ≡ true → slice_get routes (place_of (map route_octets routes) (route_octets r)) ≡ Some r
route_get routes r all is has = place_get route_octets IsRoute r (λ y iy e. route_one y r iy is e) routes all has

-- what the tables are
pub record AreTables (peers : List Peer) (routes : List Route) : Type 0 where
  pub few_peers : length peers < 2 ^ 16
  pub few_routes : length routes < 2 ^ 16
  pub peers_valid : AllByRecursion IsPeer peers
  pub routes_valid : AllByRecursion IsRoute routes

pub change_again : PrefixAgain → (peers : List Peer) (routes : List Route) → AreTables peers routes → (c : Change) (rest : List ℕ) → Fits (map peer_octets peers) (map route_octets routes) c → change_at peers routes (change_octets (map peer_octets peers) (map route_octets routes) c ++ rest) ≡ Some (c, rest)
unfolding change_at
change_again prefix_again peers routes are (Announce p x r) rest fits =
    let place : ℕ = place_of (map peer_octets peers) (peer_octets p) in
    let at : ℕ = place_of (map route_octets routes) (route_octets r) in
    let tail : List ℕ = to_be_bytes w16 at ++ rest in
    let regrouped : change_octets (map peer_octets peers) (map route_octets routes) (Announce p x r) ++ rest ≡ 1 ∷ (to_be_bytes w16 place ++ (prefix_octets x ++ tail)) =
    ap (λ (t : List ℕ). 1 ∷ t) (append_assoc (to_be_bytes w16 place ++ prefix_octets x) (to_be_bytes w16 at) rest ∙ append_assoc (to_be_bytes w16 place) (prefix_octets x) tail) in
    ap (change_at peers routes) regrouped
    ∙ rw (
      place_again peer_octets peers (peer_octets p) (prefix_octets x ++ tail) are.few_peers,
      peer_get peers p are.peers_valid fits.0.0 fits.1.0,
      prefix_again x tail fits.0.1,
      place_again route_octets routes (route_octets r) rest are.few_routes,
      route_get routes r are.routes_valid fits.0.2 fits.1.1,
    ) refl
change_again prefix_again peers routes are (Withdraw p x) rest fits =
    let place : ℕ = place_of (map peer_octets peers) (peer_octets p) in
    let regrouped : change_octets (map peer_octets peers) (map route_octets routes) (Withdraw p x) ++ rest ≡ 2 ∷ (to_be_bytes w16 place ++ (prefix_octets x ++ rest)) =
    ap (λ (t : List ℕ). 2 ∷ t) (append_assoc (to_be_bytes w16 place) (prefix_octets x) rest) in
    ap (change_at peers routes) regrouped
    ∙ rw (place_again peer_octets peers (peer_octets p) (prefix_octets x ++ rest) are.few_peers, peer_get peers p are.peers_valid fits.0.0 fits.1, prefix_again x rest fits.0.1) refl
change_again prefix_again peers routes are (Down p) rest fits =
    rw (place_again peer_octets peers (peer_octets p) rest are.few_peers, peer_get peers p are.peers_valid fits.0 fits.1) refl
