-- The tables of an admission, as its changes are gone through; and what its time has no part in.
use Rattle.std.proofs.Common.{◌≡◌, ℕ, ◌+◌, ◌<◌, ◌≤◌, List, [], ◌∷◌, ◌++◌, length, get_or, take, map, refl, sym, ap, ◌∙◌}
use Rattle.std.specs.List.{flat_map}
use Rattle.std.proofs.lemmas.List.{take_more, take_all, map_push, append-nil}
use Rattle.std.proofs.lemmas.List.Concat.{flat_map-append}
use Rattle.route_model.specs.declared.change.Change.{Change}
use Rattle.route_model.specs.declared.route.Route.{Route}
use Rattle.route_model.specs.declared.peer.Peer.{Peer}
use Rattle.route_model.specs.Encoding.{peer_octets, route_octets}
use Rattle.route_model.specs.Tables.{distinct, enter}
use Rattle.route_model.specs.Admission.{Admitted, admission_octets, peer_of, announced, peer_rows, route_rows}
use Rattle.route_model.proofs.TableRows.{distinct-push, map-first_uses}

pub take_item : {A : Type 0} (xs : List A) (i : ℕ) (x : A) → i < length xs → x ≡ get_or xs i x → take (i + 1) xs ≡ take i xs ++ x ∷ []
take_item {A} xs i x lt is = take_more xs i x lt ∙ ap (λ (y : A). take i xs ++ y ∷ []) (sym is)

pub peers_push : (cs : List Change) (i : ℕ) (c : Change) → i < length cs → c ≡ get_or cs i c → distinct (map peer_octets (map peer_of (take (i + 1) cs))) ≡ enter (distinct (map peer_octets (map peer_of (take i cs)))) (peer_octets (peer_of c))
peers_push cs i c lt is =
    ap (λ (t : List Change). distinct (map peer_octets (map peer_of t))) (take_item cs i c lt is)
    ∙ ap (λ (t : List Peer). distinct (map peer_octets t)) (map_push peer_of (take i cs) c)
    ∙ ap distinct (map_push peer_octets (map peer_of (take i cs)) (peer_of c))
    ∙ distinct-push (map peer_octets (map peer_of (take i cs))) (peer_octets (peer_of c))

pub peers_done : (cs : List Change) (i : ℕ) → length cs ≤ i → distinct (map peer_octets (map peer_of (take i cs))) ≡ peer_rows cs
peers_done cs i le = ap (λ (t : List Change). distinct (map peer_octets (map peer_of t))) (take_all i cs le) ∙ sym (map-first_uses peer_octets (map peer_of cs))

routes_more : (cs : List Change) (i : ℕ) (c : Change) → i < length cs → c ≡ get_or cs i c → flat_map announced (take (i + 1) cs) ≡ flat_map announced (take i cs) ++ announced c
routes_more cs i c lt is = ap (flat_map announced) (take_item cs i c lt is) ∙ flat_map-append announced (take i cs) (c ∷ []) ∙ ap (λ (t : List Route). flat_map announced (take i cs) ++ t) (append-nil (announced c))

pub routes_push : (cs : List Change) (i : ℕ) (c : Change) (r : Route) → i < length cs → c ≡ get_or cs i c → announced c ≡ r ∷ [] → distinct (map route_octets (flat_map announced (take (i + 1) cs))) ≡ enter (distinct (map route_octets (flat_map announced (take i cs)))) (route_octets r)
routes_push cs i c r lt is e =
    ap (λ (t : List Route). distinct (map route_octets t)) (routes_more cs i c lt is ∙ ap (λ (t : List Route). flat_map announced (take i cs) ++ t) e)
    ∙ ap distinct (map_push route_octets (flat_map announced (take i cs)) r)
    ∙ distinct-push (map route_octets (flat_map announced (take i cs))) (route_octets r)

pub routes_same : (cs : List Change) (i : ℕ) (c : Change) → i < length cs → c ≡ get_or cs i c → announced c ≡ [] → distinct (map route_octets (flat_map announced (take (i + 1) cs))) ≡ distinct (map route_octets (flat_map announced (take i cs)))
routes_same cs i c lt is e = ap (λ (t : List Route). distinct (map route_octets t)) (routes_more cs i c lt is ∙ ap (λ (t : List Route). flat_map announced (take i cs) ++ t) e ∙ append-nil (flat_map announced (take i cs)))

pub routes_done : (cs : List Change) (i : ℕ) → length cs ≤ i → distinct (map route_octets (flat_map announced (take i cs))) ≡ route_rows cs
routes_done cs i le = ap (λ (t : List Change). distinct (map route_octets (flat_map announced t))) (take_all i cs le) ∙ sym (map-first_uses route_octets (flat_map announced cs))

-- an encoding has as many octets at any time
pub any_time : (a : Admitted) (time : ℕ) → length (admission_octets (record { time = time; changes = a.changes })) ≡ length (admission_octets a)
unfolding admission_octets
any_time a time = refl
