-- A whole admission that was written is read again.
use Rattle.std.proofs.Common.{◌≡◌, ℕ, ◌+◌, ◌*◌, ◌<◌, ◌≤◌, ◌^◌, Bool, true, not, List, [], ◌∷◌, ◌++◌, length, map, Option, Some, None, refl, sym, ap, subst, ◌∙◌, arith, append_assoc, inl, inr}
use Rattle.std.specs.Prelude.{filter, Result, Ok, Err, IfOk, IfSome, IfNone}
use Rattle.std.specs.declared.alloc.AllocError.{AllocError}
use Rattle.std.specs.List.{flat_map, AllByRecursion}
use Rattle.std.specs.Int.{w16, w32, w64, to_be_bytes}
use Rattle.route_model.specs.Address.{wide}
use Rattle.std.specs.Str.{bytes_eq}
use Rattle.std.proofs.lemmas.List.{append-nil, length-append, map-append}
use Rattle.std.proofs.lemmas.List.Concat.{flat_map-cons, flat_map-append}
use Rattle.route_model.specs.declared.peer.Peer.{Peer}
use Rattle.route_model.specs.declared.route.Route.{Route}
use Rattle.route_model.specs.declared.change.Change.{Change}
use Rattle.route_model.specs.declared.change.Change.TheVariants.{Announce, Withdraw, Down}
use Rattle.route_model.specs.Encoding.{IsPeer, peer_octets, IsRoute, route_octets}
use Rattle.route_model.specs.Tables.{first_uses, has_row}
use Rattle.route_model.specs.Admission.{peer_of, announced, Admitted, peer_table, route_table, change_octets, sized, counted, peer_rows, route_rows, admission_octets, IsChange, IsAdmission, EncodesAdmission}
use Rattle.route_model.specs.inner.Codec.{number_at, repeat, whole, peer_at}
use Rattle.route_model.specs.inner.Codec.Admissions.{row_at, change_at, admission_at}
use Rattle.route_model.proofs.Fields.{wide16, wide64, number_again, repeat_again}
use Rattle.route_model.proofs.Peers.{peer_again}
use Rattle.route_model.proofs.TableRows.{bool_cases, map-first_uses}
use Rattle.route_model.proofs.Decoding.{has_row-distinct, has_row-append, row_again, flat_map-map, length-map, IsIn, Fits, PrefixAgain, AreTables, change_again}

-- ---- what holds of each value holds of each of the table

All-filter : {A : Type 0} (P : A → Type 0) (t : A → Bool) (xs : List A) → AllByRecursion P xs → AllByRecursion P (filter t xs)
All-filter P t [] all = tt
All-filter P t (x ∷ xs) all = elim (bool_cases (t x)) [ inl p ↦ rw p (all.0, All-filter P t xs all.1) | inr p ↦ rw p (All-filter P t xs all.1) ]

All-first_uses : {A : Type 0} (P : A → Type 0) (encode : A → List ℕ) (xs : List A) → AllByRecursion P xs → AllByRecursion P (first_uses encode xs)
All-first_uses P encode [] all = tt
All-first_uses P encode (x ∷ xs) all = (all.0, All-filter P (λ y. not (bytes_eq (encode x) (encode y))) (first_uses encode xs) (All-first_uses P encode xs all.1))

peers_valid : (cs : List Change) → AllByRecursion IsChange cs → AllByRecursion IsPeer (map peer_of cs)
peers_valid [] all = tt
peers_valid (Announce p x r ∷ cs) all = (all.0.0, peers_valid cs all.1)
peers_valid (Withdraw p x ∷ cs) all = (all.0.0, peers_valid cs all.1)
peers_valid (Down p ∷ cs) all = (all.0, peers_valid cs all.1)

abbrev IsShort : Route → Type 0
IsShort r = IsRoute r × (length (route_octets r) ≤ 3072)

routes_short : (cs : List Change) → AllByRecursion IsChange cs → AllByRecursion IsShort (flat_map announced cs)
routes_short [] all = tt
routes_short (Announce p x r ∷ cs) all = subst (AllByRecursion IsShort) (sym (flat_map-cons announced (Announce p x r) cs)) ((all.0.2, all.0.3), routes_short cs all.1)
routes_short (Withdraw p x ∷ cs) all = subst (AllByRecursion IsShort) (sym (flat_map-cons announced (Withdraw p x) cs)) (routes_short cs all.1)
routes_short (Down p ∷ cs) all = subst (AllByRecursion IsShort) (sym (flat_map-cons announced (Down p) cs)) (routes_short cs all.1)

routes_valid : (rs : List Route) → AllByRecursion IsShort rs → AllByRecursion IsRoute rs
routes_valid [] all = tt
routes_valid (r ∷ rs) all = (all.0.0, routes_valid rs all.1)

-- ---- each change finds its peer and its route

peer_in : (whole front cs : List Change) (c : Change) → whole ≡ front ++ c ∷ cs → has_row (peer_rows whole) (peer_octets (peer_of c)) ≡ true
peer_in whole front cs c e =
    let rows : map peer_octets (map peer_of whole) ≡ map peer_octets (map peer_of front) ++ peer_octets (peer_of c) ∷ map peer_octets (map peer_of cs) =
    ap (λ (t : List Change). map peer_octets (map peer_of t)) e ∙ ap (map peer_octets) (map-append peer_of front (c ∷ cs)) ∙ map-append peer_octets (map peer_of front) (peer_of c ∷ map peer_of cs) in
    rw (map-first_uses peer_octets (map peer_of whole), has_row-distinct (map peer_octets (map peer_of whole)) (peer_octets (peer_of c)), rows) (has_row-append (map peer_octets (map peer_of front)) (map peer_octets (map peer_of cs)) (peer_octets (peer_of c)))

route_is_in : (whole front cs : List Change) (c : Change) (r : Route) → announced c ≡ r ∷ [] → whole ≡ front ++ c ∷ cs → has_row (route_rows whole) (route_octets r) ≡ true
route_is_in whole front cs c r a e =
    let used : flat_map announced whole ≡ flat_map announced front ++ r ∷ flat_map announced cs =
    ap (flat_map announced) e ∙ flat_map-append announced front (c ∷ cs) ∙ ap (λ (t : List Route). flat_map announced front ++ t) (flat_map-cons announced c cs ∙ ap (λ (t : List Route). t ++ flat_map announced cs) a) in
    let rows : map route_octets (flat_map announced whole) ≡ map route_octets (flat_map announced front) ++ route_octets r ∷ map route_octets (flat_map announced cs) =
    ap (map route_octets) used ∙ map-append route_octets (flat_map announced front) (r ∷ flat_map announced cs) in
    rw (map-first_uses route_octets (flat_map announced whole), has_row-distinct (map route_octets (flat_map announced whole)) (route_octets r), rows) (has_row-append (map route_octets (flat_map announced front)) (map route_octets (flat_map announced cs)) (route_octets r))

is_in : (whole front cs : List Change) (c : Change) → whole ≡ front ++ c ∷ cs → IsIn (peer_rows whole) (route_rows whole) c
is_in whole front cs (Announce p x r) e = (peer_in whole front cs (Announce p x r) e, route_is_in whole front cs (Announce p x r) r refl e)
is_in whole front cs (Withdraw p x) e = peer_in whole front cs (Withdraw p x) e
is_in whole front cs (Down p) e = peer_in whole front cs (Down p) e

all_fit : (whole front cs : List Change) → whole ≡ front ++ cs → AllByRecursion IsChange cs → AllByRecursion (Fits (peer_rows whole) (route_rows whole)) cs
all_fit whole front [] e all = tt
all_fit whole front (c ∷ cs) e all = ((all.0, is_in whole front cs c e), all_fit whole (front ++ c ∷ []) cs (e ∙ sym (append_assoc front (c ∷ []) cs)) all.1)

-- ---- counts

many : {A : Type 0} (encode : A → List ℕ) (xs : List A) → ((x : A) → 2 ≤ length (encode x)) → 2 * length xs ≤ length (flat_map encode xs)
many encode [] two = omega arith
many encode (x ∷ xs) two = rw flat_map-cons (omega (arith, two x, many encode xs two, length-append (encode x) (flat_map encode xs)))

two_peer : (p : Peer) → 2 ≤ length (peer_octets p)
two_peer p = omega (arith, length-append (wide p.address) (to_be_bytes w32 p.as_number))

two_sized : (row : List ℕ) → 2 ≤ length (sized row)
two_sized row = omega arith

two_change : (peers routes : List (List ℕ)) (c : Change) → 2 ≤ length (change_octets peers routes c)
two_change peers routes (Announce p x r) = omega arith
two_change peers routes (Withdraw p x) = omega arith
two_change peers routes (Down p) = omega arith

record Counts (a : Admitted) : Type 0 where
  peers : length (peer_table a.changes) < 2 ^ 16
  routes : length (route_rows a.changes) < 2 ^ 16
  changes : length a.changes < 2 ^ 16

counts_fit : (a : Admitted) → length (admission_octets a) ≤ 131072 → Counts a
unfolding admission_octets
counts_fit a small =
    let encode_change : Change → List ℕ = change_octets (peer_rows a.changes) (route_rows a.changes) in
    let e0 : List ℕ = to_be_bytes w64 a.time in
    let e1 : List ℕ = counted (λ row. row) (peer_rows a.changes) in
    let e2 : List ℕ = counted sized (route_rows a.changes) in
    let e3 : List ℕ = counted encode_change a.changes in
    let sum_1 = length-append (e0 ++ e1 ++ e2) e3 in
    let sum_2 = length-append (e0 ++ e1) e2 in
    let sum_3 = length-append e0 e1 in
    let of_peers : 2 * length (peer_table a.changes) ≤ length (flat_map (λ row. row) (peer_rows a.changes)) = rw (flat_map-map peer_octets (peer_table a.changes)) (many peer_octets (peer_table a.changes) two_peer) in
    let of_routes = many sized (route_rows a.changes) two_sized in
    let of_changes = many encode_change a.changes (two_change (peer_rows a.changes) (route_rows a.changes)) in
    record { peers = omega arith; routes = omega arith; changes = omega arith }

-- ---- the whole

flat_map-sized : (routes : List Route) → flat_map sized (map route_octets routes) ≡ flat_map (λ r. sized (route_octets r)) routes
flat_map-sized [] = refl
flat_map-sized (r ∷ rs) = flat_map-cons sized (route_octets r) (map route_octets rs) ∙ ap (λ (t : List ℕ). sized (route_octets r) ++ t) (flat_map-sized rs) ∙ sym (flat_map-cons (λ (q : Route). sized (route_octets q)) r rs)

peer_rows_again : (peers : List Peer) (rest : List ℕ) → AllByRecursion IsPeer peers → repeat peer_at (length peers) (flat_map (λ row. row) (map peer_octets peers) ++ rest) ≡ Some (peers, rest)
peer_rows_again peers rest all = rw (flat_map-map peer_octets peers) (repeat_again peer_at peer_octets IsPeer peer_again peers rest all)

route_rows_again : (routes : List Route) (rest : List ℕ) → AllByRecursion IsShort routes → repeat row_at (length routes) (flat_map sized (map route_octets routes) ++ rest) ≡ Some (routes, rest)
route_rows_again routes rest all = rw (flat_map-sized routes) (repeat_again row_at (λ r. sized (route_octets r)) IsShort (λ r more is. row_again r more is.0 is.1) routes rest all)

parts : (a b c d rest : List ℕ) → (a ++ b ++ c ++ d) ++ rest ≡ a ++ (b ++ (c ++ (d ++ rest)))
parts a b c d rest = simp append_assoc

pub admission_again : PrefixAgain → (a : Admitted) (rest : List ℕ) → IsAdmission a → admission_at (admission_octets a ++ rest) ≡ Some (a, rest)
unfolding admission_at admission_octets
admission_again prefix_again a rest is =
    let peers : List Peer = peer_table a.changes in
    let rows : List (List ℕ) = route_rows a.changes in
    let encode_change : Change → List ℕ = change_octets (peer_rows a.changes) rows in
    let valid : AllByRecursion IsPeer peers = All-first_uses IsPeer peer_octets (map peer_of a.changes) (peers_valid a.changes is.changes) in
    let routes : List Route = route_table a.changes in
    let short : AllByRecursion IsShort routes = All-first_uses IsShort route_octets (flat_map announced a.changes) (routes_short a.changes is.changes) in
    let counts = counts_fit a is.small in
    let end_1 : List ℕ = counted encode_change a.changes ++ rest in
    let end_2 : List ℕ = counted sized rows ++ end_1 in
    let whole_is : admission_octets a ++ rest ≡ to_be_bytes w64 a.time ++ (to_be_bytes w16 (length (peer_rows a.changes)) ++ (flat_map (λ row. row) (peer_rows a.changes) ++ end_2)) =
    parts (to_be_bytes w64 a.time) (counted (λ row. row) (peer_rows a.changes)) (counted sized rows) (counted encode_change a.changes) rest
    ∙ ap (λ (t : List ℕ). to_be_bytes w64 a.time ++ t) (append_assoc (to_be_bytes w16 (length (peer_rows a.changes))) (flat_map (λ row. row) (peer_rows a.changes)) end_2) in
    let end_2_is : end_2 ≡ to_be_bytes w16 (length rows) ++ (flat_map sized rows ++ end_1) = append_assoc (to_be_bytes w16 (length rows)) (flat_map sized rows) end_1 in
    let end_1_is : end_1 ≡ to_be_bytes w16 (length a.changes) ++ (flat_map encode_change a.changes ++ rest) = append_assoc (to_be_bytes w16 (length a.changes)) (flat_map encode_change a.changes) rest in
    let time_is : number_at w64 (to_be_bytes w64 a.time ++ (to_be_bytes w16 (length (peer_rows a.changes)) ++ (flat_map (λ row. row) (peer_rows a.changes) ++ end_2))) ≡ Some (a.time, to_be_bytes w16 (length (peer_rows a.changes)) ++ (flat_map (λ row. row) (peer_rows a.changes) ++ end_2)) = number_again w64 (2 ^ 64) wide64 a.time _ (omega (arith, is.time)) in
    let count_is = length-map peer_octets peers in
    let peer_count_is : number_at w16 (to_be_bytes w16 (length (peer_rows a.changes)) ++ (flat_map (λ row. row) (peer_rows a.changes) ++ end_2)) ≡ Some (length peers, flat_map (λ row. row) (peer_rows a.changes) ++ end_2) =
    rw count_is (number_again w16 (2 ^ 16) wide16 (length peers) (flat_map (λ row. row) (peer_rows a.changes) ++ end_2) counts.peers) in
    let peers_are = peer_rows_again peers end_2 valid in
    let row_count_is = length-map route_octets routes in
    let few_routes : length routes < 2 ^ 16 = omega (arith, counts.routes) in
    let tables : AreTables peers routes = record { few_peers = counts.peers; few_routes = few_routes; peers_valid = valid; routes_valid = routes_valid routes short } in
    let route_count_is : number_at w16 end_2 ≡ Some (length routes, flat_map sized rows ++ end_1) = rw (end_2_is, row_count_is) (number_again w16 (2 ^ 16) wide16 (length routes) (flat_map sized rows ++ end_1) few_routes) in
    let routes_are = route_rows_again routes end_1 short in
    let change_count_is : number_at w16 end_1 ≡ Some (length a.changes, flat_map encode_change a.changes ++ rest) = rw end_1_is (number_again w16 (2 ^ 16) wide16 (length a.changes) (flat_map encode_change a.changes ++ rest) counts.changes) in
    let changes_are = repeat_again (change_at peers routes) encode_change (Fits (peer_rows a.changes) rows) (change_again prefix_again peers routes tables) a.changes rest (all_fit a.changes [] a.changes refl is.changes) in
    ap admission_at whole_is ∙ rw (time_is, peer_count_is, peers_are, route_count_is, routes_are, change_count_is, changes_are) refl

pub admission_only : PrefixAgain → (a : Admitted) → IsAdmission a → whole (admission_at (admission_octets a)) ≡ Some a
admission_only prefix_again a is =
    let e : admission_at (admission_octets a) ≡ Some (a, []) = subst (λ (t : List ℕ). admission_at t ≡ Some (a, [])) (append-nil (admission_octets a)) (admission_again prefix_again a [] is) in
    rw e refl

-- what was read is compared with its encoding
pub compared : (r : Result (Option Admitted) AllocError) (x a : Admitted) (octets : List ℕ) → IfOk r (λ o. IfSome o (λ b. b ≡ x)) → IfOk r (λ o. IfNone o (EncodesAdmission x octets → ⊥)) → x ≡ a → EncodesAdmission a octets → IfOk r (λ o. o ≡ Some a)
compared (Err e) x a octets same none xa is = tt
compared (Ok (Some b)) x a octets same none xa is = ap (λ (y : Admitted). Some y) (same ∙ xa)
compared (Ok None) x a octets same none xa is = absurd (none (subst (λ (y : Admitted). EncodesAdmission y octets) (sym xa) is))

pub none_some : {A : Type 0} (read : Option A) (x : A) → read ≡ None → read ≡ Some x → ⊥
none_some None x n e = absurd cc
none_some (Some y) x n e = absurd cc

-- the length in octets of an encoding, table by table
pub length-admission : (a : Admitted) → length (admission_octets a) ≡ 14 + length (flat_map (λ row. row) (peer_rows a.changes)) + length (flat_map sized (route_rows a.changes)) + length (flat_map (change_octets (peer_rows a.changes) (route_rows a.changes)) a.changes)
unfolding admission_octets
length-admission a =
    let encode_change : Change → List ℕ = change_octets (peer_rows a.changes) (route_rows a.changes) in
    let e0 : List ℕ = to_be_bytes w64 a.time in
    let e1 : List ℕ = counted (λ row. row) (peer_rows a.changes) in
    let e2 : List ℕ = counted sized (route_rows a.changes) in
    let e3 : List ℕ = counted encode_change a.changes in
    omega (arith, length-append (e0 ++ e1 ++ e2) e3, length-append (e0 ++ e1) e2, length-append e0 e1)
