-- An answer that is right is given by one turn to its end.
use Rattle.std.proofs.Common.{◌≡◌, ◌<◌, ℕ, List, Some, false, inl, inr, refl, sym, subst}
use Rattle.std.specs.List.{slice_get, slice_set}
use Rattle.route_model.specs.Admission.{Admitted}
use Rattle.route_meaning.specs.Merged.{Placed}
use Rattle.route_meaning.specs.History.{applied, settled}
use Rattle.interleaving_core.specs.declared.query.Query.{Query}
use Rattle.interleaving_core.specs.declared.query.Query.TheVariants.{Rows, Events}
use Rattle.interleaving_core.specs.declared.query.Answer.{Answer}
use Rattle.interleaving_core.specs.declared.query.Answer.TheVariants.{Rows as RowsReported, Events as EventsReported}
use Rattle.interleaving_core.specs.declared.reply.Reply.TheVariants.{Done}
use Rattle.interleaving_core.specs.declared.step.Reach.TheVariants.{End}
use Rattle.interleaving_core.specs.declared.step.Step.TheVariants.{Turn}
use Rattle.interleaving_core.specs.declared.question.Question.TheVariants.{Ended}
use Rattle.interleaving_core.specs.Headline.{IsAnswered}
use Rattle.interleaving_core.specs.Turns.{TakesTurn}
use Rattle.interleaving_core.specs.Does.{Does, last_moment}
use Rattle.interleaving_core.specs.World.{World, asked, started, with_questions}

asks_it : (query : Query) → asked (started query) ≡ query
asks_it (Rows q) = refl
asks_it (Events q) = refl

turn_to_the_end : (ps : List (Placed Admitted)) (query : Query) (answer : Answer) → IsAnswered ps query answer → TakesTurn ps End (started query) (Done answer) (Ended query)
turn_to_the_end ps (Rows q) (RowsReported a) is = (is.all, is.are, (inr refl, is.first, is.rest, refl))
turn_to_the_end ps (Events q) (EventsReported a) is = (inr refl, is.first, is.rest, refl)
turn_to_the_end ps (Rows q) (EventsReported a) is = absurd is
turn_to_the_end ps (Events q) (RowsReported a) is = absurd is

pub answered_in_one : (w : World) (i : ℕ) (query : Query) (answer : Answer) → w.down ≡ false → slice_get w.questions i ≡ Some (started query) → last_moment query < settled w.history → IsAnswered (applied w.history) query answer → Does w (Turn i End) (Done answer) (with_questions w (slice_set w.questions i (Ended query)))
answered_in_one w i query answer up here below is = inl (
  up,
  record {
    question = started query;
    here = here;
    below = subst (λ q. last_moment q < settled w.history) (sym (asks_it query)) below;
    new = Ended query;
    turn = turn_to_the_end (applied w.history) query answer is;
    after = refl;
  },
)
