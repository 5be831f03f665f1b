-- Below the settled watermark a turn over what is wholly applied is one over all that is applied.
use Rattle.std.proofs.Common.{◌≡◌, ℕ, ◌<◌, List, [], ◌++◌, length, take, drop, min, refl, sym, ap, ◌∙◌, inl, inr, arith, subst, append-nil, leb, ◌⊎◌}
use Rattle.std.proofs.lemmas.Bool.{cases_lt}
use Rattle.std.proofs.lemmas.List.{take-append-drop}
use Rattle.std.proofs.lemmas.List.Elements.{filter-append}
use Rattle.route_model.specs.Admission.{Admitted}
use Rattle.route_meaning.specs.declared.question.Row.{Row}
use Rattle.route_meaning.specs.declared.question.Event.{Event}
use Rattle.route_meaning.specs.Holds.{time_of, until}
use Rattle.route_meaning.specs.Merged.{Placed}
use Rattle.route_meaning.specs.History.{History, all_of, waiting, applied, settled}
use Rattle.route_meaning.proofs.api.Settling.{until-applied, until-late, waiting_after_settled}
use Rattle.route_meaning.proofs.api.Agreeing.{AreRows-until, events-until}
use Rattle.interleaving_core.specs.declared.query.Answer.{Answer}
use Rattle.interleaving_core.specs.declared.reply.Reply.{Reply}
use Rattle.interleaving_core.specs.declared.reply.Reply.TheVariants.{Again, Done}
use Rattle.interleaving_core.specs.declared.step.Reach.{Reach}
use Rattle.interleaving_core.specs.declared.question.Question.{Question}
use Rattle.interleaving_core.specs.declared.question.Question.TheVariants.{OfRows, OfEvents, Ended}
use Rattle.interleaving_core.specs.SoFar.{RowsSoFar, EventsSoFar}
use Rattle.interleaving_core.specs.World.{World, asked}
use Rattle.interleaving_core.specs.Turns.{added_events, RowsTurn, EventsTurn, TakesTurn}
use Rattle.interleaving_core.specs.Does.{last_moment, Turns, DoesTurn}
use Rattle.interleaving_core.proofs.NextChanges.{past_all}
use Rattle.interleaving_core.proofs.Settled.{take_all}

pub taken_min : (m n : ℕ) (ps : List (Placed Admitted)) → m ≡ min n (length ps) → take m ps ≡ take n ps
taken_min m n ps e = elim (cases_lt n (length ps)) [
  | inl lt ↦ ap (λ (k : ℕ). take k ps) (let same : m ≡ n = omega (arith, e, lt) in same)
  | inr ge ↦ take_all m ps (omega (arith, e, ge)) ∙ sym (take_all n ps ge)
]

pub dropped_min : (m n : ℕ) (ps : List (Placed Admitted)) → m ≡ min n (length ps) → drop m ps ≡ drop n ps
dropped_min m n ps e = elim (cases_lt n (length ps)) [
  | inl lt ↦ ap (λ (k : ℕ). drop k ps) (let same : m ≡ n = omega (arith, e, lt) in same)
  | inr ge ↦ past_all m ps (omega (arith, e, ge)) ∙ sym (past_all n ps ge)
]

-- what is applied in part isn't below the settled watermark
until_whole : (h : History) (moment : ℕ) → moment < settled h → until moment (take h.whole (all_of h)) ≡ until moment (applied h)
until_whole h moment lt =
    let front = take h.whole (all_of h) in
    let none : until moment (waiting h) ≡ [] = until-late moment (waiting h) (waiting_after_settled h moment lt) in
    let all : until moment (all_of h) ≡ until moment front =
    ap (until moment) (sym (take-append-drop h.whole (all_of h)))
    ∙ (filter-append (λ p. leb (time_of p) moment) front (waiting h) ∙ (ap (λ (l : List (Placed Admitted)). until moment front ++ l) none ∙ append-nil (until moment front))) in
    sym (until-applied h moment lt ∙ all)

pub turn_whole : (h : History) (reach : Reach) (q : Question) (reply : Reply) (new : Question) → last_moment (asked q) < settled h → TakesTurn (take h.whole (all_of h)) reach q reply new → TakesTurn (applied h) reach q reply new
turn_whole h reach (OfRows g) reply new lt t =
    (t.0, AreRows-until (take h.whole (all_of h)) (applied h) g.question.moment g.question.select g.low _ t.0 (until_whole h g.question.moment lt) t.1, t.2)
turn_whole h reach (OfEvents g) reply new lt t =
    subst (λ (es : List Event). EventsTurn g reach (g.events ++ added_events reach (drop (length g.events) es)) reply new)
    (events-until (take h.whole (all_of h)) (applied h) g.question (until_whole h g.question.to lt)) t
turn_whole h reach (Ended query) reply new lt t = absurd t

-- ---- what a turn answers

rows_reported : (g : RowsSoFar) (reach : Reach) (all : List Row) (reply : Reply) (new : Question) → RowsTurn g reach all reply new → (reply ≡ Again) ⊎ ((answer : Answer) × (reply ≡ Done answer))
rows_reported g reach all (Done answer) new t = inr (answer, refl)
rows_reported g reach all Again new t = inl refl
rows_reported g reach all _ new t = absurd t

events_reported : (g : EventsSoFar) (reach : Reach) (all : List Event) (reply : Reply) (new : Question) → EventsTurn g reach all reply new → (reply ≡ Again) ⊎ ((answer : Answer) × (reply ≡ Done answer))
events_reported g reach all (Done answer) new t = inr (answer, refl)
events_reported g reach all Again new t = inl refl
events_reported g reach all _ new t = absurd t

reported : (ps : List (Placed Admitted)) (reach : Reach) (q : Question) (reply : Reply) (new : Question) → TakesTurn ps reach q reply new → (reply ≡ Again) ⊎ ((answer : Answer) × (reply ≡ Done answer))
reported ps reach (OfRows g) reply new t = rows_reported g reach _ reply new t.2
reported ps reach (OfEvents g) reply new t = events_reported g reach _ reply new t
reported ps reach (Ended query) reply new t = absurd t

-- a turn is what the step of a turn does
pub does_turn : (w : World) (i : ℕ) (reach : Reach) (reply : Reply) (v : World) → Turns w i reach reply v → DoesTurn w i reach reply v
does_turn w i reach reply v t = elim (reported (applied w.history) reach t.question reply t.new t.turn) [
  | inl e ↦ subst (λ (r : Reply). DoesTurn w i reach r v) (sym e) (subst (λ (r : Reply). Turns w i reach r v) e t)
  | inr d ↦ subst (λ (r : Reply). DoesTurn w i reach r v) (sym d.1) (subst (λ (r : Reply). Turns w i reach r v) d.1 t)
]
