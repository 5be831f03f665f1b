-- The events of a peer's prefix, admission by admission.
use Rattle.std.proofs.Common.{◌≡◌, ℕ, ◌+◌, ◌<◌, ◌≤◌, List, [], ◌∷◌, ◌++◌, length, take, get_or, Bool, true, false, ◌&&◌, cond, leb, refl, sym, ap, ◌∙◌, append_assoc, append-nil, map, inl, inr}
use Rattle.std.specs.List.{filter}
use Rattle.std.proofs.lemmas.Bool.{cases_Bool, false≢true}
use Rattle.std.proofs.lemmas.List.{take_more}
use Rattle.std.proofs.lemmas.List.Elements.{filter-append}
use Rattle.route_model.specs.declared.peer.Peer.{Peer}
use Rattle.route_model.specs.Prefix.{IpPrefix}
use Rattle.route_meaning.specs.declared.question.Event.{Event}
use Rattle.route_model.specs.Admission.{Admitted}
use Rattle.route_meaning.specs.Holds.{time_of}
use Rattle.route_meaning.specs.Merged.{Placed}
use Rattle.route_meaning.specs.Holds.{until, concerns}
use Rattle.route_meaning.proofs.Holding.{both}
use Rattle.route_meaning.specs.Events.{events_in, all_events, between}

all_events-append : (p : Peer) (x : IpPrefix) (ps qs : List (Placed Admitted)) → all_events p x (ps ++ qs) ≡ all_events p x ps ++ all_events p x qs
all_events-append p x [] qs = refl
all_events-append p x (q ∷ ps) qs = ap (λ l. events_in p x q ++ l) (all_events-append p x ps qs) ∙ sym (append_assoc (events_in p x q) (all_events p x ps) (all_events p x qs))

between_more : (from to : ℕ) (ps : List (Placed Admitted)) (i : ℕ) (q : Placed Admitted) → i < length ps → q ≡ get_or ps i q → between from to (take (i + 1) ps) ≡ between from to (take i ps) ++ between from to (q ∷ [])
between_more from to ps i q lt is =
    ap (between from to) (take_more ps i q lt)
    ∙ (ap (λ y. between from to (take i ps ++ y ∷ [])) (sym is)
    ∙ (ap (filter (λ p. leb from (time_of p))) (filter-append (λ p. leb (time_of p) to) (take i ps) (q ∷ []))
    ∙ filter-append (λ p. leb from (time_of p)) (until to (take i ps)) (until to (q ∷ []))))

events_more : (p : Peer) (x : IpPrefix) (from to : ℕ) (ps : List (Placed Admitted)) (i : ℕ) (q : Placed Admitted) → i < length ps → q ≡ get_or ps i q → all_events p x (between from to (take (i + 1) ps)) ≡ all_events p x (between from to (take i ps)) ++ all_events p x (between from to (q ∷ []))
events_more p x from to ps i q lt is = ap (all_events p x) (between_more from to ps i q lt is) ∙ all_events-append p x (between from to (take i ps)) (between from to (q ∷ []))

-- is it of a moment of the span?
abbrev in_span : ℕ → ℕ → Placed Admitted → Bool
in_span from to q = leb from (time_of q) && leb (time_of q) to

inside : (from to : ℕ) (q : Placed Admitted) → in_span from to q ≡ true → between from to (q ∷ []) ≡ q ∷ []
inside from to q e =
    let h = both (leb from (time_of q)) (leb (time_of q) to) e in
    let low : leb from (time_of q) ≡ true = h.0 in
    let high : leb (time_of q) to ≡ true = h.1 in
    rw high (rw low refl)

outside : (from to : ℕ) (q : Placed Admitted) → in_span from to q ≡ false → between from to (q ∷ []) ≡ []
outside from to q e = elim (cases_Bool (leb (time_of q) to)) [
  | inl early ↦ rw early (rw (other (leb from (time_of q)) (leb (time_of q) to) e early) refl)
  | inr late ↦ rw late refl
]
  where
    other : (a b : Bool) → (a && b) ≡ false → b ≡ true → a ≡ false
    other true b e' t = absurd (false≢true (sym e' ∙ t))
    other false b e' t = refl

pub reported_in : (p : Peer) (x : IpPrefix) (from to : ℕ) (ps : List (Placed Admitted)) (i : ℕ) (q : Placed Admitted) → i < length ps → q ≡ get_or ps i q → in_span from to q ≡ true → (old new : List Event) → old ≡ all_events p x (between from to (take i ps)) → new ≡ old ++ events_in p x q → new ≡ all_events p x (between from to (take (i + 1) ps))
reported_in p x from to ps i q lt is counts old new o n =
    n ∙ (ap (λ l. l ++ events_in p x q) o ∙ sym (events_more p x from to ps i q lt is ∙ ap (λ l. all_events p x (between from to (take i ps)) ++ l) one))
  where
    one : all_events p x (between from to (q ∷ [])) ≡ events_in p x q
    one = ap (all_events p x) (inside from to q counts) ∙ append-nil (events_in p x q)

pub reported_out : (p : Peer) (x : IpPrefix) (from to : ℕ) (ps : List (Placed Admitted)) (i : ℕ) (q : Placed Admitted) → i < length ps → q ≡ get_or ps i q → in_span from to q ≡ false → (old : List Event) → old ≡ all_events p x (between from to (take i ps)) → old ≡ all_events p x (between from to (take (i + 1) ps))
reported_out p x from to ps i q lt is counts old o = o ∙ sym (events_more p x from to ps i q lt is ∙ (ap (λ l. all_events p x (between from to (take i ps)) ++ all_events p x l) (outside from to q counts) ∙ append-nil _))

pub plus_item : (p : Peer) (x : IpPrefix) (old new : List Event) (reported : Admitted) (q : Placed Admitted) → reported ≡ q.item → new ≡ old ++ map (λ change. record { time = reported.time; change = change }) (filter (concerns p x) reported.changes) → new ≡ old ++ events_in p x q
plus_item p x old new reported q e n = n ∙ ap (λ (t : Admitted). old ++ map (λ change. record { time = t.time; change = change }) (filter (concerns p x) t.changes)) e
