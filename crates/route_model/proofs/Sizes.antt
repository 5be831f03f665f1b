-- How the size of an admission grows with its changes.
use Rattle.std.proofs.Common.{◌≡◌, ℕ, ◌+◌, ◌-◌, ◌<◌, ◌≤◌, Bool, true, false, ◌||◌, List, [], ◌∷◌, ◌++◌, length, get_or, take, drop, map, refl, sym, ap, subst, ◌∙◌, arith, inl, inr, if◌then◌else◌, append_assoc}
use Rattle.std.specs.List.{flat_map}
use Rattle.std.specs.Str.{bytes_eq}
use Rattle.std.proofs.lemmas.List.{append-nil, length-append, map_push, drop_more, take-append-drop}
use Rattle.std.proofs.lemmas.List.Concat.{flat_map-cons, flat_map-append}
use Rattle.route_model.specs.declared.change.Change.{Change}
use Rattle.route_model.specs.declared.change.Change.TheVariants.{Announce, Withdraw, Down}
use Rattle.route_model.specs.declared.peer.Peer.{Peer}
use Rattle.route_model.specs.declared.route.Route.{Route}
use Rattle.route_model.specs.Encoding.{peer_octets, route_octets}
use Rattle.std.specs.Int.{w16, to_be_bytes}
use Rattle.route_model.specs.Prefix.{front_octets}
use Rattle.route_model.specs.Tables.{place_of, distinct, has_row, enter}
use Rattle.route_model.specs.Admission.{peer_of, announced, change_octets, sized, peer_rows, route_rows, admission_octets}
use Rattle.route_model.proofs.TableRows.{bool_cases, distinct-push, map-first_uses}
use Rattle.route_model.proofs.Decoding.{has_row-distinct}
use Rattle.route_model.proofs.Whole.{length-admission}

-- ---- rows that stand among the changes

drop_item : {A : Type 0} (xs : List A) (i : ℕ) (x : A) → i < length xs → x ≡ get_or xs i x → drop i xs ≡ x ∷ drop (i + 1) xs
drop_item {A} xs i x lt is = drop_more xs i x lt ∙ ap (λ (y : A). y ∷ drop (i + 1) xs) (sym is)

-- a row is looked for from the end on
pub has_peer-drop : (cs : List Change) (i : ℕ) (c : Change) (row : List ℕ) → i < length cs → c ≡ get_or cs i c → has_row (map peer_octets (map peer_of (drop i cs))) row ≡ (bytes_eq (peer_octets (peer_of c)) row || has_row (map peer_octets (map peer_of (drop (i + 1) cs))) row)
has_peer-drop cs i c row lt is = ap (λ (t : List Change). has_row (map peer_octets (map peer_of t)) row) (drop_item cs i c lt is)

has_row-append : (front rows : List (List ℕ)) (x : List ℕ) → has_row (front ++ rows) x ≡ (has_row front x || has_row rows x)
has_row-append [] rows x = refl
has_row-append (y ∷ front) rows x = elim (bool_cases (bytes_eq y x)) [ inl p ↦ rw p refl | inr p ↦ rw p (has_row-append front rows x) ]

map-append : {A B : Type 0} (f : A → B) (xs ys : List A) → map f (xs ++ ys) ≡ map f xs ++ map f ys
map-append f [] ys = refl
map-append {B = B} f (x ∷ xs) ys = ap (λ (l : List B). f x ∷ l) (map-append f xs ys)

pub has_route-drop : (cs : List Change) (i : ℕ) (c : Change) (row : List ℕ) → i < length cs → c ≡ get_or cs i c → has_row (map route_octets (flat_map announced (drop i cs))) row ≡ (has_row (map route_octets (announced c)) row || has_row (map route_octets (flat_map announced (drop (i + 1) cs))) row)
has_route-drop cs i c row lt is =
    ap (λ (t : List Change). has_row (map route_octets (flat_map announced t)) row) (drop_item cs i c lt is)
    ∙ ap (λ (t : List Route). has_row (map route_octets t) row) (flat_map-cons announced c (drop (i + 1) cs))
    ∙ ap (λ (t : List (List ℕ)). has_row t row) (map-append route_octets (announced c) (flat_map announced (drop (i + 1) cs)))
    ∙ has_row-append (map route_octets (announced c)) (map route_octets (flat_map announced (drop (i + 1) cs))) row

abbrev pub peers_of : List Change → List (List ℕ)
peers_of cs = map peer_octets (map peer_of cs)

abbrev pub routes_of : List Change → List (List ℕ)
routes_of cs = map route_octets (flat_map announced cs)

-- one step back: the row isn't at this place, and isn't after it
pub peer_not_there : (cs : List Change) (n : ℕ) (c : Change) (row : List ℕ) → 1 ≤ n → n ≤ length cs → c ≡ get_or cs (n - 1) c → bytes_eq (peer_octets (peer_of c)) row ≡ false → has_row (peers_of (drop n cs)) row ≡ false → has_row (peers_of (drop (n - 1) cs)) row ≡ false
peer_not_there cs n c row some le is absent beyond =
    let again : n - 1 + 1 ≡ n = omega arith in
    has_peer-drop cs (n - 1) c row (omega arith) is ∙ rw (absent, again) beyond

pub route_not_there : (cs : List Change) (n : ℕ) (c : Change) (row : List ℕ) → 1 ≤ n → n ≤ length cs → c ≡ get_or cs (n - 1) c → has_row (map route_octets (announced c)) row ≡ false → has_row (routes_of (drop n cs)) row ≡ false → has_row (routes_of (drop (n - 1) cs)) row ≡ false
route_not_there cs n c row some le is absent beyond =
    let again : n - 1 + 1 ≡ n = omega arith in
    has_route-drop cs (n - 1) c row (omega arith) is ∙ rw (absent, again) beyond

or_true : (b : Bool) → (b || true) ≡ true
or_true true = refl
or_true false = refl

-- the row is there
pub peer_there : (cs : List Change) (n : ℕ) (c : Change) (row : List ℕ) → 1 ≤ n → n ≤ length cs → c ≡ get_or cs (n - 1) c → bytes_eq (peer_octets (peer_of c)) row ≡ true → has_row (peers_of cs) row ≡ true
peer_there cs n c row some le is same =
    let i : ℕ = n - 1 in
    let here : has_row (peers_of (drop i cs)) row ≡ true = has_peer-drop cs i c row (omega arith) is ∙ rw same refl in
    let parts : peers_of cs ≡ peers_of (take i cs) ++ peers_of (drop i cs) =
    ap peers_of (sym (take-append-drop i cs)) ∙ ap (map peer_octets) (map-append peer_of (take i cs) (drop i cs)) ∙ map-append peer_octets (map peer_of (take i cs)) (map peer_of (drop i cs)) in
    ap (λ (t : List (List ℕ)). has_row t row) parts ∙ has_row-append (peers_of (take i cs)) (peers_of (drop i cs)) row ∙ ap (λ (b : Bool). has_row (peers_of (take i cs)) row || b) here ∙ or_true (has_row (peers_of (take i cs)) row)

pub route_there : (cs : List Change) (n : ℕ) (c : Change) (row : List ℕ) → 1 ≤ n → n ≤ length cs → c ≡ get_or cs (n - 1) c → has_row (map route_octets (announced c)) row ≡ true → has_row (routes_of cs) row ≡ true
route_there cs n c row some le is same =
    let i : ℕ = n - 1 in
    let here : has_row (routes_of (drop i cs)) row ≡ true = has_route-drop cs i c row (omega arith) is ∙ rw same refl in
    let parts : routes_of cs ≡ routes_of (take i cs) ++ routes_of (drop i cs) =
    ap routes_of (sym (take-append-drop i cs)) ∙ ap (map route_octets) (flat_map-append announced (take i cs) (drop i cs)) ∙ map-append route_octets (flat_map announced (take i cs)) (flat_map announced (drop i cs)) in
    ap (λ (t : List (List ℕ)). has_row t row) parts ∙ has_row-append (routes_of (take i cs)) (routes_of (drop i cs)) row ∙ ap (λ (b : Bool). has_row (routes_of (take i cs)) row || b) here ∙ or_true (has_row (routes_of (take i cs)) row)

-- ---- one more row of a table

enter-size : (encode : List ℕ → List ℕ) (rows : List (List ℕ)) (row : List ℕ) (n : ℕ) → n ≡ (if has_row rows row then 0 else length (encode row)) → length (flat_map encode (enter rows row)) ≡ length (flat_map encode rows) + n
enter-size encode rows row n is = elim (bool_cases (has_row rows row)) [
  | inl p ↦ rw p (omega (arith, rw p at is))
  | inr p ↦ rw (p, flat_map-append encode rows (row ∷ []), append-nil (encode row)) (omega (arith, rw p at is, length-append (flat_map encode rows) (encode row)))
]

table-size : (encode : List ℕ → List ℕ) (rows : List (List ℕ)) (row : List ℕ) (n : ℕ) → n ≡ (if has_row rows row then 0 else length (encode row)) → length (flat_map encode (distinct (rows ++ row ∷ []))) ≡ length (flat_map encode (distinct rows)) + n
table-size encode rows row n is =
    ap (λ (t : List (List ℕ)). length (flat_map encode t)) (distinct-push rows row)
    ∙ enter-size encode (distinct rows) row n (is ∙ ap (λ (b : Bool). if b then 0 else length (encode row)) (sym (has_row-distinct rows row)))

pub peers-size : (cs : List Change) (c : Change) (n : ℕ) → n ≡ (if has_row (peers_of cs) (peer_octets (peer_of c)) then 0 else length (peer_octets (peer_of c))) → length (flat_map (λ row. row) (peer_rows (cs ++ c ∷ []))) ≡ length (flat_map (λ row. row) (peer_rows cs)) + n
peers-size cs c n is =
    ap (λ (t : List (List ℕ)). length (flat_map (λ (r : List ℕ). r) t)) (map-first_uses peer_octets (map peer_of (cs ++ c ∷ [])) ∙ ap (λ (t : List Peer). distinct (map peer_octets t)) (map_push peer_of cs c) ∙ ap distinct (map_push peer_octets (map peer_of cs) (peer_of c)))
    ∙ table-size (λ r. r) (peers_of cs) (peer_octets (peer_of c)) n is
    ∙ ap (λ (t : List (List ℕ)). length (flat_map (λ (r : List ℕ). r) t) + n) (sym (map-first_uses peer_octets (map peer_of cs)))

announced-push : (cs : List Change) (c : Change) → flat_map announced (cs ++ c ∷ []) ≡ flat_map announced cs ++ announced c
announced-push cs c = flat_map-append announced cs (c ∷ []) ∙ ap (λ (t : List Route). flat_map announced cs ++ t) (append-nil (announced c))

pub routes-size : (cs : List Change) (c : Change) (r : Route) (n : ℕ) → announced c ≡ r ∷ [] → n ≡ (if has_row (routes_of cs) (route_octets r) then 0 else length (route_octets r) + 2) → length (flat_map sized (route_rows (cs ++ c ∷ []))) ≡ length (flat_map sized (route_rows cs)) + n
routes-size cs c r n a is =
    let row : List ℕ = route_octets r in
    let size : length row + 2 ≡ length (sized row) = omega arith in
    let table = table-size sized (routes_of cs) row n (is ∙ ap (λ (m : ℕ). if has_row (routes_of cs) row then 0 else m) size) in
    ap (λ (t : List (List ℕ)). length (flat_map sized t)) (map-first_uses route_octets (flat_map announced (cs ++ c ∷ [])) ∙ ap (λ (t : List Route). distinct (map route_octets t)) (announced-push cs c ∙ ap (λ (t : List Route). flat_map announced cs ++ t) a) ∙ ap distinct (map_push route_octets (flat_map announced cs) r))
    ∙ table
    ∙ ap (λ (t : List (List ℕ)). length (flat_map sized t) + n) (sym (map-first_uses route_octets (flat_map announced cs)))

pub routes-same : (cs : List Change) (c : Change) → announced c ≡ [] → length (flat_map sized (route_rows (cs ++ c ∷ []))) ≡ length (flat_map sized (route_rows cs))
routes-same cs c a =
    rw (map-first_uses route_octets (flat_map announced (cs ++ c ∷ [])), map-first_uses route_octets (flat_map announced cs), announced-push cs c, a, append-nil (flat_map announced cs)) refl

-- ---- the tables of one more change

peer_rows-push : (cs : List Change) (c : Change) → peer_rows (cs ++ c ∷ []) ≡ enter (peer_rows cs) (peer_octets (peer_of c))
peer_rows-push cs c =
    map-first_uses peer_octets (map peer_of (cs ++ c ∷ []))
    ∙ ap (λ (t : List Peer). distinct (map peer_octets t)) (map_push peer_of cs c)
    ∙ ap distinct (map_push peer_octets (map peer_of cs) (peer_of c))
    ∙ distinct-push (peers_of cs) (peer_octets (peer_of c))
    ∙ ap (λ (t : List (List ℕ)). enter t (peer_octets (peer_of c))) (sym (map-first_uses peer_octets (map peer_of cs)))

-- the table of these changes, in which the peer of one more is entered
pub peer_entered : (cs : List Change) (c : Change) (old new : List (List ℕ)) (p : Peer) → p ≡ peer_of c → old ≡ peer_rows cs → new ≡ enter old (peer_octets p) → new ≡ peer_rows (cs ++ c ∷ [])
peer_entered cs c old new p is table entered = entered ∙ (rw (is, table) refl ∙ sym (peer_rows-push cs c))

-- and how many octets it adds
pub peer_new : (cs : List Change) (c : Change) (old : List (List ℕ)) (n : ℕ) (p : Peer) → p ≡ peer_of c → old ≡ peer_rows cs → n ≡ (if has_row old (peer_octets p) then 0 else length (peer_octets p))
    → n ≡ (if has_row (peers_of cs) (peer_octets (peer_of c)) then 0 else length (peer_octets (peer_of c)))
peer_new cs c old n p is table len =
    let there : has_row (peer_rows cs) (peer_octets (peer_of c)) ≡ has_row (peers_of cs) (peer_octets (peer_of c)) =
    ap (λ (t : List (List ℕ)). has_row t (peer_octets (peer_of c))) (map-first_uses peer_octets (map peer_of cs)) ∙ has_row-distinct (peers_of cs) (peer_octets (peer_of c)) in
    len ∙ (rw (is, table) refl ∙ ap (λ (b : Bool). if b then 0 else length (peer_octets (peer_of c))) there)

route_rows-push : (cs : List Change) (c : Change) (r : Route) → announced c ≡ r ∷ [] → route_rows (cs ++ c ∷ []) ≡ enter (route_rows cs) (route_octets r)
route_rows-push cs c r a =
    map-first_uses route_octets (flat_map announced (cs ++ c ∷ []))
    ∙ ap (λ (t : List Route). distinct (map route_octets t)) (announced-push cs c ∙ ap (λ (t : List Route). flat_map announced cs ++ t) a)
    ∙ ap distinct (map_push route_octets (flat_map announced cs) r)
    ∙ distinct-push (routes_of cs) (route_octets r)
    ∙ ap (λ (t : List (List ℕ)). enter t (route_octets r)) (sym (map-first_uses route_octets (flat_map announced cs)))

pub route_entered : (cs : List Change) (c : Change) (r : Route) (old new : List (List ℕ)) → announced c ≡ r ∷ [] → old ≡ route_rows cs → new ≡ enter old (route_octets r) → new ≡ route_rows (cs ++ c ∷ [])
route_entered cs c r old new a table entered = entered ∙ (rw table refl ∙ sym (route_rows-push cs c r a))

pub route_new : (cs : List Change) (r : Route) (old : List (List ℕ)) (n : ℕ) → old ≡ route_rows cs → n ≡ (if has_row old (route_octets r) then 0 else length (route_octets r) + 2)
    → n ≡ (if has_row (routes_of cs) (route_octets r) then 0 else length (route_octets r) + 2)
route_new cs r old n table len =
    let there : has_row (route_rows cs) (route_octets r) ≡ has_row (routes_of cs) (route_octets r) =
    ap (λ (t : List (List ℕ)). has_row t (route_octets r)) (map-first_uses route_octets (flat_map announced cs)) ∙ has_row-distinct (routes_of cs) (route_octets r) in
    len ∙ (rw table refl ∙ ap (λ (b : Bool). if b then 0 else length (route_octets r) + 2) there)

pub route_rows-same : (cs : List Change) (c : Change) → announced c ≡ [] → route_rows (cs ++ c ∷ []) ≡ route_rows cs
route_rows-same cs c a =
    rw (map-first_uses route_octets (flat_map announced (cs ++ c ∷ [])), map-first_uses route_octets (flat_map announced cs), announced-push cs c, a, append-nil (flat_map announced cs)) refl

-- ---- changes after any tables

change-size : (p r q s : List (List ℕ)) (c : Change) → length (change_octets p r c) ≡ length (change_octets q s c)
change-size p r q s (Announce a x t) = omega (arith, length-append (front_octets x) (to_be_bytes w16 (place_of r (route_octets t))), length-append (front_octets x) (to_be_bytes w16 (place_of s (route_octets t))))
change-size p r q s (Withdraw a x) = omega arith
change-size p r q s (Down a) = omega arith

changes-size : (p r q s : List (List ℕ)) (cs : List Change) → length (flat_map (change_octets p r) cs) ≡ length (flat_map (change_octets q s) cs)
changes-size p r q s [] = refl
changes-size p r q s (c ∷ cs) =
    rw (flat_map-cons (change_octets p r) c cs, flat_map-cons (change_octets q s) c cs)
    (omega (arith, length-append (change_octets p r c) (flat_map (change_octets p r) cs), length-append (change_octets q s c) (flat_map (change_octets q s) cs), change-size p r q s c, changes-size p r q s cs))

changes-push : (p r q s : List (List ℕ)) (cs : List Change) (c : Change) → length (flat_map (change_octets p r) (cs ++ c ∷ [])) ≡ length (flat_map (change_octets q s) cs) + length (change_octets [] [] c)
changes-push p r q s cs c =
    rw (flat_map-append (change_octets p r) cs (c ∷ []), append-nil (change_octets p r c))
    (omega (arith, length-append (flat_map (change_octets p r) cs) (change_octets p r c), changes-size p r q s cs, change-size p r [] [] c))

-- ---- the whole

-- one more change adds its rows, where they are new, and itself
pub size-push : (time : ℕ) (cs : List Change) (c : Change) (m n : ℕ) → m ≡ (if has_row (peers_of cs) (peer_octets (peer_of c)) then 0 else length (peer_octets (peer_of c)))
    → length (flat_map sized (route_rows (cs ++ c ∷ []))) ≡ length (flat_map sized (route_rows cs)) + n
    → length (admission_octets (record { time = time; changes = cs ++ c ∷ [] })) ≡ length (admission_octets (record { time = time; changes = cs })) + (m + length (change_octets [] [] c) + n)
size-push time cs c m n peers routes =
    let more : List Change = cs ++ c ∷ [] in
    omega (arith, length-admission (record { time = time; changes = more }), length-admission (record { time = time; changes = cs }), peers-size cs c m peers, routes, changes-push (peer_rows more) (route_rows more) (peer_rows cs) (route_rows cs) cs c)

size-grows : (time : ℕ) (cs : List Change) (c : Change) → length (admission_octets (record { time = time; changes = cs })) ≤ length (admission_octets (record { time = time; changes = cs ++ c ∷ [] }))
size-grows time cs (Announce p x r) = omega (arith, size-push time cs (Announce p x r) _ _ refl (routes-size cs (Announce p x r) r _ refl refl))
size-grows time cs (Withdraw p x) = omega (arith, size-push time cs (Withdraw p x) _ 0 refl (omega (arith, routes-same cs (Withdraw p x) refl)))
size-grows time cs (Down p) = omega (arith, size-push time cs (Down p) _ 0 refl (omega (arith, routes-same cs (Down p) refl)))

-- more changes never make it smaller
size-front : (time : ℕ) (front cs : List Change) → length (admission_octets (record { time = time; changes = front })) ≤ length (admission_octets (record { time = time; changes = front ++ cs }))
size-front time front [] = rw (append-nil front) (omega arith)
size-front time front (c ∷ cs) =
    let step : length (admission_octets (record { time = time; changes = front })) ≤ length (admission_octets (record { time = time; changes = front ++ c ∷ [] })) = size-grows time front c in
    let rest : length (admission_octets (record { time = time; changes = front ++ c ∷ [] })) ≤ length (admission_octets (record { time = time; changes = front ++ c ∷ cs })) = subst (λ (t : List Change). length (admission_octets (record { time = time; changes = front ++ c ∷ [] })) ≤ length (admission_octets (record { time = time; changes = t }))) (append_assoc front (c ∷ []) cs) (size-front time (front ++ c ∷ []) cs) in
    omega arith

-- so what is too large at its front is too large
pub size-take : (time : ℕ) (cs : List Change) (i : ℕ) → length (admission_octets (record { time = time; changes = take i cs })) ≤ length (admission_octets (record { time = time; changes = cs }))
size-take time cs i = subst (λ (t : List Change). length (admission_octets (record { time = time; changes = take i cs })) ≤ length (admission_octets (record { time = time; changes = t }))) (take-append-drop i cs) (size-front time (take i cs) (drop i cs))

-- an admission without changes is its time and three counts
pub size-empty : (time : ℕ) → 14 ≡ length (admission_octets (record { time = time; changes = [] }))
size-empty time = omega (arith, length-admission (record { time = time; changes = [] }))
