-- What was answered of a settled moment stays the answer.
use Rattle.std.proofs.Common.{ℕ, zero, suc, ◌<◌, ◌≤◌, List, [], ◌∷◌, sym, ◌∙◌, arith, le_refl, zero-le}
use Rattle.std.specs.Prelude.{slice_index}
use Rattle.route_meaning.specs.History.{History, IsHistory, Begins, applied, settled}
use Rattle.route_meaning.proofs.api.Front.{settled_stays}
use Rattle.route_meaning.proofs.api.Settling.{until-applied}
use Rattle.route_meaning.proofs.api.Agreeing.{IsAnswer-until, IsEventsAnswer-until, until-later}
use Rattle.route_meaning.proofs.api.Ranges.{rows-one, events-one}
use Rattle.interleaving_core.specs.declared.query.Query.{Query}
use Rattle.interleaving_core.specs.declared.query.Query.TheVariants.{Rows, Events}
use Rattle.interleaving_core.specs.declared.query.Answer.{Answer}
use Rattle.interleaving_core.specs.declared.query.Answer.TheVariants.{Rows as RowsReported, Events as EventsReported}
use Rattle.interleaving_core.specs.Does.{last_moment}
use Rattle.interleaving_core.specs.Headline.{IsAnswered}
use Rattle.board.specs.Views.{View, BeginsView, Within, with_number, with_seen}
use Rattle.query_threads.specs.Asking.{IsSameAnswer}

answered_later : (query : Query) (answer : Answer) (h g : History) → IsHistory h → Begins h g → last_moment query < settled h → IsAnswered (applied h) query answer → IsAnswered (applied g) query answer
answered_later (Rows q) (RowsReported a) h g right begins low is =
    let e = until-later h g q.moment right begins low ∙ sym (until-applied g q.moment (settled_stays h g q.moment right begins low)) in
    IsAnswer-until (applied h) (applied g) q a.rows.items a.more e is
answered_later (Rows q) (EventsReported a) h g right begins low is = absurd is
answered_later (Events q) (RowsReported a) h g right begins low is = absurd is
answered_later (Events q) (EventsReported a) h g right begins low is =
    let e = until-later h g q.to right begins low ∙ sym (until-applied g q.to (settled_stays h g q.to right begins low)) in
    IsEventsAnswer-until (applied h) (applied g) q a.events.items a.more e is

one_answer : (g : History) (query : Query) (a b : Answer) → IsAnswered (applied g) query a → IsAnswered (applied g) query b → IsSameAnswer a b
one_answer g (Rows q) (RowsReported a) (RowsReported b) is other = rows-one (applied g) q a.rows.items b.rows.items a.more b.more is other
one_answer g (Rows q) (RowsReported a) (EventsReported b) is other = absurd other
one_answer g (Rows q) (EventsReported a) b is other = absurd is
one_answer g (Events q) (RowsReported a) b is other = absurd is
one_answer g (Events q) (EventsReported a) (RowsReported b) is other = absurd other
one_answer g (Events q) (EventsReported a) (EventsReported b) is other = events-one (applied g) q a.events.items b.events.items a.more b.more is other

pub answer_stays : (v w : View) (query : Query) (answer : Answer) → BeginsView v w → last_moment query < settled v.past.history → IsAnswered (applied v.past.history) query answer → IsAnswered (applied w.past.history) query answer
answer_stays v w query answer begins low is = answered_later query answer v.past.history w.past.history begins.past.right begins.past.begins low is

pub same_answer : (v w : View) (query : Query) (first later : Answer) → BeginsView v w → last_moment query < settled v.past.history → IsAnswered (applied v.past.history) query first → IsAnswered (applied w.past.history) query later → IsSameAnswer first later
same_answer v w query first later begins low is other = one_answer w.past.history query first later (answer_stays v w query first begins low is) other

rises_at : (xs : List ℕ) (i n : ℕ) → slice_index xs i ≤ n → Within xs (with_number xs i n)
rises_at [] i n le j = zero-le
rises_at (x ∷ xs) zero n le zero = le
rises_at (x ∷ xs) zero n le (suc j) = le_refl (slice_index xs j)
rises_at (x ∷ xs) (suc i) n le zero = le_refl x
rises_at (x ∷ xs) (suc i) n le (suc j) = rises_at xs i n le j

pub load_goes_on : (v w : View) (i n : ℕ) → BeginsView v w → slice_index w.numbers i ≤ n → BeginsView v (with_seen w i n)
load_goes_on v w i n begins le = record { past = begins.past; numbers = λ j. let a = begins.numbers j in let b = rises_at w.numbers i n le j in omega (arith, a, b) }
