-- What each change does to the table.
use Rattle.std.proofs.Common.{◌≡◌, ℕ, append_assoc, append-nil, leb, zero, suc, arith, ◌+◌, ◌<◌, ◌≤◌, length, get_or, take, List, [], ◌∷◌, ◌++◌, Bool, true, false, not, cond, ◌&&◌, ◌||◌, ◌⊎◌, refl, sym, ap, ◌∙◌, subst, Some, None, Option}
use Rattle.std.specs.List.{filter, list_any}
use Rattle.std.specs.Map.{lookup, keys_of}
use Rattle.std.specs.Ordering.{is_eq}
use Rattle.std.specs.BTreeMap.{BTreeMap, get}
use Rattle.std.proofs.Common.{inl, inr}
use Rattle.std.proofs.lemmas.Bool.{cases_Bool, false≢true}
use Rattle.std.proofs.lemmas.Option.{none-some}
use Rattle.std.proofs.lemmas.List.{take_more}
use Rattle.std.proofs.lemmas.List.Elements.{filter-append}
use Rattle.route_model.specs.Admission.{Admitted, IsChange}
use Rattle.route_meaning.specs.Holds.{time_of}
use Rattle.route_meaning.specs.Merged.{Placed}
use Rattle.route_model.specs.declared.peer.Peer.{Peer}
use Rattle.route_model.specs.Prefix.{IpPrefix}
use Rattle.route_model.specs.declared.route.Route.{Route}
use Rattle.route_meaning.specs.declared.question.Spot.{Spot}
use Rattle.route_model.specs.declared.change.Change.{Change}
use Rattle.route_model.specs.declared.change.Change.TheVariants.{Announce, Withdraw, Down}
use Rattle.route_meaning.specs.Holds.{same_peer, until, changes_of}
use Rattle.route_meaning.specs.declared.question.RowsRange.{RowsRange}
use Rattle.route_meaning.specs.inner.Replay.{spot_cmp, spot, IsSpot, is_expected, route_after, IsTable}
use Rattle.route_meaning.proofs.Holding.{same_peer-sym, route_after-append}
use Rattle.route_meaning.proofs.Spots.{spot_cmp-eq, same_spot}

-- the spot of a change is one
pub announced_spot : (p : Peer) (x : IpPrefix) (route : Route) → IsChange (Announce p x route) → IsSpot (spot p x)
announced_spot p x route is = (is.0, is.1)

-- where a spot of the new table was found
kept_valid : (hit : Bool) (s : Spot) (before new : Option Route) (route : Route) → ((r : Route) → before ≡ Some r → IsSpot s) → new ≡ cond hit None before → new ≡ Some route → IsSpot s
kept_valid true s before new route v n e = absurd (none-some route (sym n ∙ e))
kept_valid false s before new route v n e = v route (sym n ∙ e)

put_valid : (hit : Bool) (s : Spot) (x before new : Option Route) (route : Route) → (hit ≡ true → IsSpot s) → ((r : Route) → before ≡ Some r → IsSpot s) → new ≡ cond hit x before → new ≡ Some route → IsSpot s
put_valid true s x before new route h v n e = h refl
put_valid false s x before new route h v n e = v route (sym n ∙ e)

put : (hit need : Bool) (x old before new : Option Route) → (hit ≡ true → need ≡ true) → new ≡ cond hit x before → before ≡ cond need old None → new ≡ cond need (cond hit x old) None
put true true x old before new w n b = n
put true false x old before new w n b = absurd (false≢true (w refl))
put false true x old before new w n b = n ∙ b
put false false x old before new w n b = n ∙ b

skip : (hit need : Bool) (x old before : Option Route) → (hit ≡ true → need ≡ false) → before ≡ cond need old None → before ≡ cond need (cond hit x old) None
skip true true x old before w b = absurd (false≢true (sym (w refl)))
skip true false x old before w b = b
skip false need x old before w b = b

clear : (hit need : Bool) (old before new : Option Route) → new ≡ cond hit None before → before ≡ cond need old None → new ≡ cond need (cond hit None old) None
clear true true old before new n b = n
clear true false old before new n b = n
clear false true old before new n b = n ∙ b
clear false false old before new n b = n ∙ b

module _ (w : RowsRange) (changes : List Change) (m n : BTreeMap Spot Route) (t : IsTable w changes m) where
  before : Spot → Option Route
  before s = route_after s.peer s.prefix None changes

  pub announced : (p : Peer) (x : IpPrefix) (route : Route) → IsSpot (spot p x) → is_expected w (spot p x) ≡ true → ((s : Spot) → get spot_cmp n s ≡ cond (is_eq (spot_cmp (spot p x) s)) (Some route) (get spot_cmp m s)) → IsTable w (changes ++ Announce p x route ∷ []) n
  announced p x route is expected u = record {
    at = λ s.
        rw (route_after-append s.peer s.prefix None changes (Announce p x route ∷ []), ← spot_cmp-eq (spot p x) s)
        (put (is_eq (spot_cmp (spot p x) s)) (is_expected w s) (Some route) (route_after s.peer s.prefix None changes) (get spot_cmp m s) (get spot_cmp n s)
        (λ e. ap (is_expected w) (sym (same_spot (spot p x) s e)) ∙ expected) (u s) (t.at s));
    valid = λ s r.
        put_valid (is_eq (spot_cmp (spot p x) s)) s (Some route) (get spot_cmp m s) (get spot_cmp n s) r
        (λ e. subst IsSpot (same_spot (spot p x) s e) is) (t.valid s) (u s);
  }

  pub withdrawn : (p : Peer) (x : IpPrefix) → ((s : Spot) → get spot_cmp n s ≡ cond (is_eq (spot_cmp (spot p x) s)) None (get spot_cmp m s)) → IsTable w (changes ++ Withdraw p x ∷ []) n
  withdrawn p x u = record {
    at = λ s.
        rw (route_after-append s.peer s.prefix None changes (Withdraw p x ∷ []), ← spot_cmp-eq (spot p x) s)
        (clear (is_eq (spot_cmp (spot p x) s)) (is_expected w s) (route_after s.peer s.prefix None changes) (get spot_cmp m s) (get spot_cmp n s) (u s) (t.at s));
    valid = λ s r. kept_valid (is_eq (spot_cmp (spot p x) s)) s (get spot_cmp m s) (get spot_cmp n s) r (t.valid s) (u s);
  }

  pub ended : (p : Peer) → ((s : Spot) → get spot_cmp n s ≡ cond (same_peer p s.peer) None (get spot_cmp m s)) → IsTable w (changes ++ Down p ∷ []) n
  ended p u = record {
    at = λ s.
        rw (route_after-append s.peer s.prefix None changes (Down p ∷ []))
        (clear (same_peer p s.peer) (is_expected w s) (route_after s.peer s.prefix None changes) (get spot_cmp m s) (get spot_cmp n s) (u s) (t.at s));
    valid = λ s r. kept_valid (same_peer p s.peer) s (get spot_cmp m s) (get spot_cmp n s) r (t.valid s) (u s);
  }

pub passed_over : (w : RowsRange) (changes : List Change) (m : BTreeMap Spot Route) (p : Peer) (x : IpPrefix) (route : Route) → is_expected w (spot p x) ≡ false → IsTable w changes m → IsTable w (changes ++ Announce p x route ∷ []) m
passed_over w changes m p x route unwanted t = record {
  at = λ s.
      rw (route_after-append s.peer s.prefix None changes (Announce p x route ∷ []), ← spot_cmp-eq (spot p x) s)
      (skip (is_eq (spot_cmp (spot p x) s)) (is_expected w s) (Some route) (route_after s.peer s.prefix None changes) (get spot_cmp m s)
      (λ e. ap (is_expected w) (sym (same_spot (spot p x) s e)) ∙ unwanted) (t.at s));
  valid = t.valid;
}

abbrev none_of : (X : Type 0) → Option X
none_of X = None

either_false : (a b : Bool) → a ≡ false → b ≡ false → (a || b) ≡ false
either_false a b e f = cc

either_true : (a b : Bool) → b ≡ true → (a || b) ≡ true
either_true true b e = refl
either_true false b e = e

-- a spot of another peer is none of them
pub others_stay : (p : Peer) (q : Spot) → same_peer p q.peer ≡ false → (es : List (Spot × Route)) → list_any (λ s. is_eq (spot_cmp s q)) (filter (λ s. same_peer s.peer p) (keys_of es)) ≡ false
others_stay p q other [] = refl
others_stay p q other (e ∷ es) = elim (cases_Bool (same_peer e.0.peer p)) [
  | inl own ↦ rw own (either_false (is_eq (spot_cmp e.0 q)) _ (elim (cases_Bool (is_eq (spot_cmp e.0 q))) [
    | inl hit ↦ absurd (false≢true (sym other ∙ (same_peer-sym p q.peer ∙ (ap (λ (s : Spot). same_peer s.peer p) (sym (same_spot e.0 q hit)) ∙ own))))
    | inr miss ↦ miss
  ]) (others_stay p q other es))
  | inr foreign ↦ rw foreign (others_stay p q other es)
]

-- a spot of the peer is one of them, or has no route
pub own_go : (p : Peer) (q : Spot) → same_peer p q.peer ≡ true → (es : List (Spot × Route)) → (list_any (λ s. is_eq (spot_cmp s q)) (filter (λ s. same_peer s.peer p) (keys_of es)) ≡ true) ⊎ (lookup (λ k. is_eq (spot_cmp q k)) es ≡ None)
own_go p q own [] = inr refl
own_go p q own (e ∷ es) = elim (cases_Bool (is_eq (spot_cmp q e.0))) [
  | inl hit ↦ inl (
      let same : q ≡ e.0 = same_spot q e.0 hit in
      let mine : same_peer e.0.peer p ≡ true = ap (λ (s : Spot). same_peer s.peer p) (sym same) ∙ (same_peer-sym q.peer p ∙ own) in
      let back : is_eq (spot_cmp e.0 q) ≡ true = ap (λ (s : Spot). is_eq (spot_cmp s q)) (sym same) ∙ (ap (λ (s : Spot). is_eq (spot_cmp q s)) same ∙ hit) in
      rw mine (rw back refl))
  | inr miss ↦ elim (own_go p q own es) [
    | inl found ↦ inl (elim (cases_Bool (same_peer e.0.peer p)) [ inl mine ↦ rw mine (either_true (is_eq (spot_cmp e.0 q)) _ found) | inr foreign ↦ rw foreign found ])
    | inr none ↦ inr (rw miss none)
  ]
]

-- taking them out ends the peer's routes
pub peer_ends : (p : Peer) (q : Spot) (es : List (Spot × Route)) → cond (list_any (λ s. is_eq (spot_cmp s q)) (filter (λ s. same_peer s.peer p) (keys_of es))) None (lookup (λ k. is_eq (spot_cmp q k)) es) ≡ cond (same_peer p q.peer) None (lookup (λ k. is_eq (spot_cmp q k)) es)
peer_ends p q es = elim (cases_Bool (same_peer p q.peer)) [
  | inl own ↦ rw own (elim (own_go p q own es) [ inl found ↦ rw found refl | inr none ↦ rw none (cond_none _) ])
  | inr other ↦ rw (other, others_stay p q other es) refl
]
  where
    cond_none : (b : Bool) → cond b (none_of Route) (none_of Route) ≡ none_of Route
    cond_none true = refl
    cond_none false = refl

list_any-push : (p : Spot → Bool) (xs : List Spot) (x : Spot) → list_any p (xs ++ x ∷ []) ≡ (list_any p xs || p x)
list_any-push p [] x = elim (cases_Bool (p x)) [ inl e ↦ rw e refl | inr e ↦ rw e refl ]
list_any-push p (y ∷ ys) x = elim (cases_Bool (p y)) [ inl e ↦ rw e refl | inr e ↦ rw e (list_any-push p ys x) ]

-- one more spot taken out
pub one_out : (ss : List Spot) (i : ℕ) (x : Spot) → i < length ss → x ≡ get_or ss i x → (q : Spot) (old before new : Option Route) → before ≡ cond (list_any (λ s. is_eq (spot_cmp s q)) (take i ss)) None old → new ≡ cond (is_eq (spot_cmp x q)) None before → new ≡ cond (list_any (λ s. is_eq (spot_cmp s q)) (take (i + 1) ss)) None old
one_out ss i x lt is q old before new b n =
    let more : take (i + 1) ss ≡ take i ss ++ x ∷ [] = take_more ss i x lt ∙ ap (λ (y : Spot). take i ss ++ y ∷ []) (sym is) in
    rw (more, list_any-push (λ s. is_eq (spot_cmp s q)) (take i ss) x)
    (n ∙ (ap (λ (o : Option Route). cond (is_eq (spot_cmp x q)) None o) b ∙ swap (list_any (λ s. is_eq (spot_cmp s q)) (take i ss)) (is_eq (spot_cmp x q))))
  where
    swap : (a c : Bool) → cond c (none_of Route) (cond a (none_of Route) old) ≡ cond (a || c) (none_of Route) old
    swap true true = refl
    swap true false = refl
    swap false true = refl
    swap false false = refl

pub take_whole : {X : Type 0} (n : ℕ) (xs : List X) → length xs ≤ n → take n xs ≡ xs
take_whole zero [] le = refl
take_whole zero (x ∷ xs) le = absurd (omega arith)
take_whole (suc n) [] le = refl
take_whole (suc n) (x ∷ xs) le = ap (λ l. x ∷ l) (take_whole n xs (omega arith))

-- ---- over the admissions

pub IsTable-none : (w : RowsRange) (m : BTreeMap Spot Route) → m.entries ≡ [] → IsTable w [] m
IsTable-none w m e = record {
  at = λ s. ap (lookup (λ k. is_eq (spot_cmp s k))) e ∙ sym (none (is_expected w s));
  valid = λ s r found. absurd (none-some r (sym (ap (lookup (λ k. is_eq (spot_cmp s k))) e) ∙ found));
}
  where
    none : (b : Bool) → cond b (none_of Route) (none_of Route) ≡ none_of Route
    none true = refl
    none false = refl

changes_of-append : (ps qs : List (Placed Admitted)) → changes_of (ps ++ qs) ≡ changes_of ps ++ changes_of qs
changes_of-append [] qs = refl
changes_of-append (p ∷ ps) qs = ap (λ l. p.item.changes ++ l) (changes_of-append ps qs) ∙ sym (append_assoc p.item.changes (changes_of ps) (changes_of qs))

pub changes_more : (moment : ℕ) (ps : List (Placed Admitted)) (i : ℕ) (x : Placed Admitted) → i < length ps → x ≡ get_or ps i x → changes_of (until moment (take (i + 1) ps)) ≡ changes_of (until moment (take i ps)) ++ cond (leb (time_of x) moment) x.item.changes []
changes_more moment ps i x lt is =
    ap (λ l. changes_of (until moment l)) (take_more ps i x lt)
    ∙ (ap (λ y. changes_of (until moment (take i ps ++ y ∷ []))) (sym is)
    ∙ (ap changes_of (filter-append (λ p. leb (time_of p) moment) (take i ps) (x ∷ []))
    ∙ (changes_of-append (until moment (take i ps)) (until moment (x ∷ []))
    ∙ ap (λ l. changes_of (until moment (take i ps)) ++ l) (one (leb (time_of x) moment)))))
  where
    one : (b : Bool) → changes_of (cond b (x ∷ []) []) ≡ cond b x.item.changes []
    one true = append-nil x.item.changes
    one false = refl

pub taken : (w : RowsRange) (moment : ℕ) (ps : List (Placed Admitted)) (i : ℕ) (x : Placed Admitted) (n : BTreeMap Spot Route) → i < length ps → x ≡ get_or ps i x → leb (time_of x) moment ≡ true → IsTable w (changes_of (until moment (take i ps)) ++ x.item.changes) n → IsTable w (changes_of (until moment (take (i + 1) ps))) n
taken w moment ps i x n lt is counts t = rw (changes_more moment ps i x lt is, counts) t

pub left : (w : RowsRange) (moment : ℕ) (ps : List (Placed Admitted)) (i : ℕ) (x : Placed Admitted) (n : BTreeMap Spot Route) → i < length ps → x ≡ get_or ps i x → leb (time_of x) moment ≡ false → IsTable w (changes_of (until moment (take i ps))) n → IsTable w (changes_of (until moment (take (i + 1) ps))) n
left w moment ps i x n lt is late t = rw (changes_more moment ps i x lt is, late, append-nil (changes_of (until moment (take i ps)))) t
