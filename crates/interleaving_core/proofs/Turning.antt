-- A question in progress has exactly the first of what it asks for, and goes on so by each turn.
use Rattle.std.proofs.Common.{◌≡◌, ℕ, ◌<◌, ◌≤◌, ◌⊎◌, List, [], ◌∷◌, ◌++◌, length, take, drop, Bool, true, refl, sym, ap, ◌∙◌, inl, inr, arith, subst, Some, None, Option, append-nil, append_assoc, length-append}
use Rattle.std.specs.Prelude.{nat_lt}
use Rattle.std.proofs.lemmas.Bool.{cases_Bool, lt-ltb, ltb-true}
use Rattle.std.proofs.lemmas.List.{take-append-le, take-append-drop}
use Rattle.route_model.specs.Admission.{Admitted}
use Rattle.route_meaning.specs.declared.question.Row.{Row}
use Rattle.route_meaning.specs.declared.question.Spot.{Spot}
use Rattle.route_meaning.specs.declared.question.Event.{Event}
use Rattle.route_meaning.specs.Merged.{Placed}
use Rattle.route_meaning.specs.Holds.{until}
use Rattle.route_meaning.specs.Rows.{spot_number, IsRange, AreRows, IsAnswer, most_rows}
use Rattle.route_meaning.specs.Events.{events, IsEventsAnswer}
use Rattle.route_meaning.specs.History.{History, IsHistory, Begins, applied, settled}
use Rattle.route_meaning.proofs.api.Agreeing.{AreRows-until, events-until, until-later}
use Rattle.route_meaning.proofs.api.Beginning.{Begins-refl, Begins-trans}
use Rattle.route_meaning.proofs.api.Ranges.{AreRows-joined}
use Rattle.interleaving_core.specs.declared.query.Query.{Query}
use Rattle.interleaving_core.specs.declared.query.Query.TheVariants.{Rows, Events}
use Rattle.interleaving_core.specs.declared.query.Answer.{Answer}
use Rattle.interleaving_core.specs.declared.query.Answer.TheVariants.{Rows as RowsReported, Events as EventsReported}
use Rattle.interleaving_core.specs.declared.step.Reach.{Reach}
use Rattle.interleaving_core.specs.declared.step.Reach.TheVariants.{UpTo, Further, End}
use Rattle.interleaving_core.specs.declared.reply.Reply.{Reply}
use Rattle.interleaving_core.specs.declared.reply.Reply.TheVariants.{Again, Done}
use Rattle.interleaving_core.specs.declared.question.Question.{Question}
use Rattle.interleaving_core.specs.declared.question.Question.TheVariants.{OfRows, OfEvents, Ended}
use Rattle.interleaving_core.specs.SoFar.{RowsSoFar, EventsSoFar}
use Rattle.interleaving_core.specs.World.{asked, started}
use Rattle.interleaving_core.specs.Turns.{is_further, rows_up_to, added_rows, come_to, added_events, IsDone, RowsTurn, EventsTurn, AreLeft, TakesTurn}
use Rattle.interleaving_core.specs.Does.{last_moment}
use Rattle.interleaving_core.specs.Headline.{IsAnswered}
use Rattle.interleaving_core.proofs.Filtering.{up_to_spot, added_first}

-- it holds of what was applied in an earlier history, below whose settled watermark the moment was
pub record Sure (h : History) (moment : ℕ) (P : List (Placed Admitted) → Type 0) : Type 0 where
  pub earlier : History
  pub right : IsHistory earlier
  pub begins : Begins earlier h
  pub below : moment < settled earlier
  pub is : P (applied earlier)

pub sure_later : (h g : History) (moment : ℕ) (P : List (Placed Admitted) → Type 0) → Begins h g → Sure h moment P → Sure g moment P
sure_later h g moment P b s = record { earlier = s.earlier; right = s.right; begins = Begins-trans s.earlier h g s.begins b; below = s.below; is = s.is }

sure_now : (h : History) (moment : ℕ) (P : List (Placed Admitted) → Type 0) → IsHistory h → moment < settled h → P (applied h) → Sure h moment P
sure_now h moment P right lt is = record { earlier = h; right = right; begins = Begins-refl h; below = lt; is = is }

until_now : (earlier h : History) (moment : ℕ) → IsHistory earlier → Begins earlier h → moment < settled earlier → IsHistory h → moment < settled h → until moment (applied earlier) ≡ until moment (applied h)
until_now earlier h moment was begins below right lt = until-later earlier h moment was begins below ∙ sym (until-later h h moment right (Begins-refl h) lt)

-- ---- what is enough for an answer

enough : {X : Type 0} (reach : Reach) (all later : List X) → IsDone reach (length all) → (reach ≡ End → later ≡ []) → (take most_rows all ≡ take most_rows (all ++ later)) × (nat_lt most_rows (length all) ≡ nat_lt most_rows (length (all ++ later)))
enough {X} reach all later (inl many) none =
    let le : 256 ≤ length all = omega arith in
    let longer : 256 < length (all ++ later) = omega (arith, length-append all later) in
    (sym (take-append-le 256 all later le), lt-ltb 256 (length all) many ∙ sym (lt-ltb 256 (length (all ++ later)) longer))
enough {X} reach all later (inr end) none =
    let same : all ≡ all ++ later = sym (append-nil all) ∙ ap (λ (l : List X). all ++ l) (sym (none end)) in
    (ap (take most_rows) same, ap (λ (l : List X). nat_lt most_rows (length l)) same)

-- ---- rows

-- the rows so far are those up to a spot
pub record RowsTo (h : History) (g : RowsSoFar) : Type 0 where
  pub spot : Spot
  pub low : g.low ≡ Some spot
  pub range : IsRange g.question.after (Some spot)
  pub sure : Sure h g.question.moment (λ ps. AreRows ps g.question.moment g.question.select g.question.after (Some spot) g.rows)

-- nothing is gathered yet, or the rows up to a spot
abbrev pub IsRowsSoFar : History → RowsSoFar → Type 0
IsRowsSoFar h g = ((g.low ≡ g.question.after) × (g.rows ≡ [])) ⊎ RowsTo h g

module _ (h : History) (g : RowsSoFar) (left : List Row) (right : IsHistory h) (lt : g.question.moment < settled h) (are : AreLeft (applied h) g left) where
  rows_now : (r : RowsTo h g) → AreRows (applied h) g.question.moment g.question.select g.question.after (Some r.spot) g.rows
  rows_now r = AreRows-until (applied r.sure.earlier) (applied h) g.question.moment g.question.select g.question.after (Some r.spot) g.rows
      (until_now r.sure.earlier h g.question.moment r.sure.right r.sure.begins r.sure.below right lt) r.sure.is

  left_from : (low : Option Spot) → g.low ≡ low → AreRows (applied h) g.question.moment g.question.select low None left
  left_from low e = subst (λ (l : Option Spot). AreRows (applied h) g.question.moment g.question.select l None left) e are

  -- the rows so far and those that are left are all
  all_rows : IsRowsSoFar h g → AreRows (applied h) g.question.moment g.question.select g.question.after None (g.rows ++ left)
  all_rows (inl e) = subst (λ (rows : List Row). AreRows (applied h) g.question.moment g.question.select g.question.after None (rows ++ left)) (sym e.1) (left_from g.question.after e.0)
  all_rows (inr r) = AreRows-joined (applied h) g.question.moment g.question.select g.question.after r.spot None g.rows left r.range tt (rows_now r) (left_from (Some r.spot) r.low)

  further_is : (low : Option Spot) (spot : Spot) → is_further low spot ≡ true → IsRange low (Some spot)
  further_is None spot is_so = tt
  further_is (Some low) spot is_so = let lt' = ltb-true (spot_number low) (spot_number spot) is_so in omega arith

  range_on : (after : Option Spot) (mid spot : Spot) → IsRange after (Some mid) → IsRange (Some mid) (Some spot) → IsRange after (Some spot)
  range_on None mid spot a b = tt
  range_on (Some low) mid spot a b = let a' : spot_number low ≤ spot_number mid = a in let b' : spot_number mid ≤ spot_number spot = b in omega arith

  -- up to a spot beyond
  rows_further : (spot : Spot) → is_further g.low spot ≡ true → IsRowsSoFar h g → RowsTo h (record { question = g.question; low = Some spot; rows = g.rows ++ rows_up_to spot left })
  rows_further spot is_so (inl e) = record {
    spot = spot;
    low = refl;
    range = subst (λ (l : Option Spot). IsRange l (Some spot)) e.0 (further_is g.low spot is_so);
    sure = sure_now h g.question.moment _ right lt
        (subst (λ (rows : List Row). AreRows (applied h) g.question.moment g.question.select g.question.after (Some spot) (rows ++ rows_up_to spot left)) (sym e.1)
        (up_to_spot (applied h) g.question.moment g.question.select g.question.after spot left (left_from g.question.after e.0)));
  }
  rows_further spot is_so (inr r) =
      let further : IsRange (Some r.spot) (Some spot) = subst (λ (l : Option Spot). IsRange l (Some spot)) r.low (further_is g.low spot is_so) in
      record {
        spot = spot;
        low = refl;
        range = range_on g.question.after r.spot spot r.range further;
        sure = sure_now h g.question.moment _ right lt
            (AreRows-joined (applied h) g.question.moment g.question.select g.question.after r.spot (Some spot) g.rows (rows_up_to spot left) r.range further (rows_now r)
            (up_to_spot (applied h) g.question.moment g.question.select (Some r.spot) spot left (left_from (Some r.spot) r.low)));
      }

  rows_same : IsRowsSoFar h g → IsRowsSoFar h (record { question = g.question; low = g.low; rows = g.rows ++ [] })
  rows_same so = subst (λ (rows : List Row). IsRowsSoFar h (record { question = g.question; low = g.low; rows = rows })) (sym (append-nil g.rows)) so

  rows_again : (reach : Reach) → (reach ≡ End → ⊥) → IsRowsSoFar h g → IsRowsSoFar h (record { question = g.question; low = come_to g.low reach; rows = g.rows ++ added_rows g.low reach left })
  rows_again (UpTo spot) open_ so = elim (cases_Bool (is_further g.low spot)) [
    | inl is_so ↦ rw is_so (inr (rows_further spot is_so so))
    | inr not_so ↦ rw not_so (rows_same so)
  ]
  rows_again (Further n) open_ so = rows_same so
  rows_again End open_ so = absurd (open_ refl)

  rows_done : (reach : Reach) (rows : List Row) (more : Bool) → IsRowsSoFar h g → IsDone reach (length (g.rows ++ added_rows g.low reach left)) → rows ≡ take most_rows (g.rows ++ added_rows g.low reach left)
      → more ≡ nat_lt most_rows (length (g.rows ++ added_rows g.low reach left)) → IsAnswer (applied h) g.question rows more
  rows_done reach rows more so done first rest =
      let added = added_rows g.low reach left in
      let parts = added_first g.low reach left are.rising in
      let whole : g.rows ++ left ≡ (g.rows ++ added) ++ parts.0 = ap (λ (l : List Row). g.rows ++ l) parts.1 ∙ sym (append_assoc g.rows added parts.0) in
      let same = enough reach (g.rows ++ added) parts.0 done parts.2 in
      record {
        all = g.rows ++ left;
        are = all_rows so;
        first = first ∙ same.0 ∙ ap (take most_rows) (sym whole);
        rest = rest ∙ same.1 ∙ ap (λ (l : List Row). nat_lt most_rows (length l)) (sym whole);
      }

-- ---- events

-- nothing is gathered yet, or the first events
abbrev pub IsEventsSoFar : History → EventsSoFar → Type 0
IsEventsSoFar h g = (g.events ≡ []) ⊎ Sure h g.question.to (λ ps. (later : List Event) × (events ps g.question ≡ g.events ++ later))

drop_front : (xs ys : List Event) → drop (length xs) (xs ++ ys) ≡ ys
drop_front [] ys = refl
drop_front (x ∷ xs) ys = drop_front xs ys

added_events_first : (reach : Reach) (left : List Event) → (later : List Event) × (left ≡ added_events reach left ++ later) × (reach ≡ End → later ≡ [])
added_events_first (UpTo spot) left = (left, refl, λ e. absurd (cc))
added_events_first (Further n) left = (drop n left, sym (take-append-drop n left), λ e. absurd (cc))
added_events_first End left = ([], sym (append-nil left), λ e. refl)

module _ (h : History) (g : EventsSoFar) (right : IsHistory h) (lt : g.question.to < settled h) where
  all_events : IsEventsSoFar h g → (later : List Event) × (events (applied h) g.question ≡ g.events ++ later)
  all_events (inl e) = (events (applied h) g.question, ap (λ (l : List Event). l ++ events (applied h) g.question) (sym e))
  all_events (inr s) = (s.is.0, sym (events-until (applied s.earlier) (applied h) g.question (until_now s.earlier h g.question.to s.right s.begins s.below right lt)) ∙ s.is.1)

-- what there is, is what is gathered, what a turn adds, and what comes later
pub record EventsParts (ps : List (Placed Admitted)) (g : EventsSoFar) (reach : Reach) : Type 0 where
  pub later : List Event
  pub whole : events ps g.question ≡ (g.events ++ added_events reach (drop (length g.events) (events ps g.question))) ++ later
  pub none : reach ≡ End → later ≡ []

events_parts : (ps : List (Placed Admitted)) (g : EventsSoFar) (reach : Reach) (later : List Event) → events ps g.question ≡ g.events ++ later → EventsParts ps g reach
events_parts ps g reach later e =
    let left = drop (length g.events) (events ps g.question) in
    let left_is : left ≡ later = ap (drop (length g.events)) e ∙ drop_front g.events later in
    let parts = added_events_first reach left in
    record {
      later = parts.0;
      whole = e ∙ (ap (λ (l : List Event). g.events ++ l) (sym left_is ∙ parts.1) ∙ sym (append_assoc g.events (added_events reach left) parts.0));
      none = parts.2;
    }

events_again : (h : History) (g : EventsSoFar) (reach : Reach) → IsHistory h → g.question.to < settled h → IsEventsSoFar h g → IsEventsSoFar h (record { question = g.question; events = g.events ++ added_events reach (drop (length g.events) (events (applied h) g.question)) })
events_again h g reach right lt so =
    let all = all_events h g right lt so in
    let parts = events_parts (applied h) g reach all.0 all.1 in
    inr (sure_now h g.question.to _ right lt (parts.later, parts.whole))

events_done : (h : History) (g : EventsSoFar) (reach : Reach) (reported : List Event) (more : Bool) → IsHistory h → g.question.to < settled h → IsEventsSoFar h g → IsDone reach (length (g.events ++ added_events reach (drop (length g.events) (events (applied h) g.question))))
    → reported ≡ take most_rows (g.events ++ added_events reach (drop (length g.events) (events (applied h) g.question)))
    → more ≡ nat_lt most_rows (length (g.events ++ added_events reach (drop (length g.events) (events (applied h) g.question)))) → IsEventsAnswer (applied h) g.question reported more
events_done h g reach reported more right lt so done first rest =
    let all = all_events h g right lt so in
    let parts = events_parts (applied h) g reach all.0 all.1 in
    let same = enough reach (g.events ++ added_events reach (drop (length g.events) (events (applied h) g.question))) parts.later done parts.none in
    record {
      first = first ∙ same.0 ∙ ap (take most_rows) (sym parts.whole);
      rest = rest ∙ same.1 ∙ ap (λ (l : List Event). nat_lt most_rows (length l)) (sym parts.whole);
    }

-- ---- questions

abbrev pub IsSoFar : History → Question → Type 0
IsSoFar h (OfRows g) = IsRowsSoFar h g
IsSoFar h (OfEvents g) = IsEventsSoFar h g
IsSoFar h (Ended query) = Unit {0}

pub started_so : (h : History) (query : Query) → IsSoFar h (started query)
started_so h (Rows q) = inl (refl, refl)
started_so h (Events q) = inl refl

pub asked_started : (query : Query) → asked (started query) ≡ query
asked_started (Rows q) = refl
asked_started (Events q) = refl

rows_later : (h f : History) (g : RowsSoFar) → Begins h f → IsRowsSoFar h g → IsRowsSoFar f g
rows_later h f g b (inl e) = inl e
rows_later h f g b (inr r) = inr (record { spot = r.spot; low = r.low; range = r.range; sure = sure_later h f g.question.moment _ b r.sure })

events_later : (h f : History) (g : EventsSoFar) → Begins h f → IsEventsSoFar h g → IsEventsSoFar f g
events_later h f g b (inl e) = inl e
events_later h f g b (inr s) = inr (sure_later h f g.question.to _ b s)

pub so_far_later : (h f : History) (q : Question) → Begins h f → IsSoFar h q → IsSoFar f q
so_far_later h f (OfRows g) b so = rows_later h f g b so
so_far_later h f (OfEvents g) b so = events_later h f g b so
so_far_later h f (Ended query) b so = tt

-- the question goes on so, and asks the same
pub record TurnsOn (h : History) (q new : Question) : Type 0 where
  pub so : IsSoFar h new
  pub same : asked new ≡ asked q

not_end : (reach : Reach) (count : ℕ) → (IsDone reach count → ⊥) → reach ≡ End → ⊥
not_end reach count never e = never (inr e)

rows_turn : (h : History) (g : RowsSoFar) (reach : Reach) (left : List Row) (reply : Reply) (new : Question) → IsHistory h → g.question.moment < settled h → IsRowsSoFar h g → AreLeft (applied h) g left → RowsTurn g reach (g.rows ++ added_rows g.low reach left) reply new → TurnsOn h (OfRows g) new
rows_turn h g reach left (Done (RowsReported a)) new right lt so are t = subst (TurnsOn h (OfRows g)) (sym t.3) (record { so = tt; same = refl })
rows_turn h g reach left (Done (EventsReported a)) new right lt so are t = absurd t
rows_turn h g reach left Again new right lt so are t = subst (TurnsOn h (OfRows g)) (sym t.1) (record { so = rows_again h g left right lt are reach (not_end reach _ t.0) so; same = refl })
rows_turn h g reach left _ new right lt so are t = absurd t

events_turn : (h : History) (g : EventsSoFar) (reach : Reach) (reply : Reply) (new : Question) → IsHistory h → g.question.to < settled h → IsEventsSoFar h g → EventsTurn g reach (g.events ++ added_events reach (drop (length g.events) (events (applied h) g.question))) reply new → TurnsOn h (OfEvents g) new
events_turn h g reach (Done (RowsReported a)) new right lt so t = absurd t
events_turn h g reach (Done (EventsReported a)) new right lt so t = subst (TurnsOn h (OfEvents g)) (sym t.3) (record { so = tt; same = refl })
events_turn h g reach Again new right lt so t = subst (TurnsOn h (OfEvents g)) (sym t.1) (record { so = events_again h g reach right lt so; same = refl })
events_turn h g reach _ new right lt so t = absurd t

pub turn_on : (h : History) (reach : Reach) (q new : Question) (reply : Reply) → IsHistory h → last_moment (asked q) < settled h → IsSoFar h q → TakesTurn (applied h) reach q reply new → TurnsOn h q new
turn_on h reach (OfRows g) new reply right lt so t = rows_turn h g reach t.0 reply new right lt so t.1 t.2
turn_on h reach (OfEvents g) new reply right lt so t = events_turn h g reach reply new right lt so t
turn_on h reach (Ended query) new reply right lt so t = absurd t

rows_reported : (h : History) (g : RowsSoFar) (reach : Reach) (left : List Row) (answer : Answer) (new : Question) → IsHistory h → g.question.moment < settled h → IsRowsSoFar h g → AreLeft (applied h) g left → RowsTurn g reach (g.rows ++ added_rows g.low reach left) (Done answer) new → IsAnswered (applied h) (Rows g.question) answer
rows_reported h g reach left (RowsReported a) new right lt so are t = rows_done h g left right lt are reach a.rows.items a.more so t.0 t.1 t.2
rows_reported h g reach left (EventsReported a) new right lt so are t = t

events_reported : (h : History) (g : EventsSoFar) (reach : Reach) (answer : Answer) (new : Question) → IsHistory h → g.question.to < settled h → IsEventsSoFar h g → EventsTurn g reach (g.events ++ added_events reach (drop (length g.events) (events (applied h) g.question))) (Done answer) new → IsAnswered (applied h) (Events g.question) answer
events_reported h g reach (RowsReported a) new right lt so t = t
events_reported h g reach (EventsReported a) new right lt so t = events_done h g reach a.events.items a.more right lt so t.0 t.1 t.2

-- a question that is done has its answer over what is applied
pub turn_done : (h : History) (reach : Reach) (q new : Question) (answer : Answer) → IsHistory h → last_moment (asked q) < settled h → IsSoFar h q → TakesTurn (applied h) reach q (Done answer) new → IsAnswered (applied h) (asked q) answer
turn_done h reach (OfRows g) new answer right lt so t = rows_reported h g reach t.0 answer new right lt so t.1 t.2
turn_done h reach (OfEvents g) new answer right lt so t = events_reported h g reach answer new right lt so t
turn_done h reach (Ended query) new answer right lt so t = absurd t
