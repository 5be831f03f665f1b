-- Calls that follow one another, up to what an archive represents when it is closed.
use Rattle.std.proofs.Common.{◌≡◌, ◌<◌, ◌+◌, ◌++◌, ℕ, List, [], ◌∷◌, length, take, get_or, Option, Some, IfSome, IsSome, Result, Ok, Err, IfOk, IfErr, OnOk, inl, inr, refl, sym, ◌∙◌, ap, subst, zero-le}
use Rattle.std.specs.Prelude.{is_ok, if◌then◌else◌}
use Rattle.std.specs.Global.{Vec}
use Rattle.std.specs.List.{AllZip}
use Rattle.std.proofs.lemmas.List.{take_more}
use Rattle.route_meaning.specs.History.{History, applied, settled}
use Rattle.interleaving_core.specs.declared.query.Query.{Query}
use Rattle.interleaving_core.specs.declared.query.Answer.{Answer}
use Rattle.interleaving_core.specs.Does.{last_moment}
use Rattle.interleaving_core.specs.Headline.{IsAnswered}
use Rattle.board.specs.Past.{Past, GoesOnAs}
use Rattle.board.specs.Views.{View, IsFrontOf}
use Rattle.query_threads.specs.Seeing.{Since}
use Rattle.query_threads.specs.Turns.{IsReported}
use Rattle.query_threads.specs.declared.refusal.AskError.{AskError}
use Rattle.query_threads.proofs.Answering.{answer_stays}
use Rattle.query_threads.proofs.Seen.{goes_on_then}
use Rattle.shared_archive.specs.Held.{HeldRepresents}
use Rattle.thread_tests.specs.declared.works.Work.{Work}
use Rattle.thread_tests.specs.declared.works.Work.TheVariants.{Admit, Mark, Apply, Ask}
use Rattle.thread_tests.specs.declared.sharing.Played.{Played}
use Rattle.thread_tests.specs.declared.works.Returned.{Returned}
use Rattle.thread_tests.specs.declared.works.Returned.TheVariants.{Admitted, Marked, Applied, Answered}
use Rattle.thread_tests.specs.Works.{Follows, IsAnswerOf, IsPlayed, IsReplied, IsReplyOver, IsWork}

-- a disk is named
pub named_some : {D : Type 0} (disk : Option D) (d : D) → disk ≡ Some d → IsSome disk
named_some disk d is = subst (λ (o : Option _). IsSome o) (sym is) refl

pub at_some : {T : Type 0} (o : Option T) (P : T → Type 0) (x : T) → o ≡ Some x → IfSome o P → P x
at_some o P x is p = subst (λ (k : Option _). IfSome k P) is p

-- ---- one call

-- what a question returned, by the clauses of `ask`
pub reply_over : (h : History) (query : Query) (r : Result Answer AskError) → IfOk r (λ answer. IsAnswered (applied h) query answer) → OnOk r (last_moment query < settled h) → IfErr r (λ e. IsReported e h query) → IsReplyOver h query r
reply_over h query (Ok answer) is below refused = (is, below)
reply_over h query (Err refusal) is below refused = refused

since_of : (work : Work) (one : Returned) (v w : View) → IsReplied work one v w → Since v w
since_of (Admit c batch) (Admitted result) v w is = inr is.begins
since_of (Mark c mark) (Marked result) v w is = inr is.begins
since_of Apply (Applied result) v w is = inr is.begins
since_of (Ask query) (Answered result) v w is = is.0
since_of _ _ v w is = absurd is

-- ---- calls one after another

pub follows_none : (works : List Work) (returned : List Returned) (v : View) → returned ≡ [] → Follows (take 0 works) returned v v
follows_none works returned v none = subst (λ (rs : List Returned). Follows (take 0 works) rs v v) (sym none) refl

follows_then : (works : List Work) (returned : List Returned) (work : Work) (one : Returned) (v u w : View) → Follows works returned v u → IsReplied work one u w → Follows (works ++ work ∷ []) (returned ++ one ∷ []) v w
follows_then [] [] work one v u w f is = (w, subst (λ (x : View). IsReplied work one x w) f is, refl)
follows_then [] (r ∷ rs) work one v u w f is = absurd f
follows_then (k ∷ ks) [] work one v u w f is = absurd f
follows_then (k ∷ ks) (r ∷ rs) work one v u w f is = (f.0, f.1, follows_then ks rs work one f.0 u w f.2 is)

-- the same in a loop over calls
pub follows_more : (works : List Work) (i : ℕ) (work : Work) (returned all : List Returned) (one : Returned) (v u w : View) → i < length works → work ≡ get_or works i work → all ≡ returned ++ one ∷ []
    → Follows (take i works) returned v u → IsReplied work one u w → Follows (take (i + 1) works) all v w
follows_more works i work returned all one v u w within here is f replied =
    let more = take_more works i work within ∙ ap (λ (k : Work). take i works ++ k ∷ []) (sym here) in
    subst (λ (ks : List Work). Follows ks all v w) (sym more)
    (subst (λ (rs : List Returned). Follows (take i works ++ work ∷ []) rs v w) (sym is) (follows_then (take i works) returned work one v u w f replied))

-- ---- up to a last past

leads : (p : Past) (v w : View) → Since v w → GoesOnAs w.past p → GoesOnAs v.past p
leads p v w (inl e) on = subst (λ (x : View). GoesOnAs x.past p) e on
leads p v w (inr b) on = goes_on_then v.past w.past p b.past on

goes_on_from : (works : List Work) (returned : List Returned) (v w : View) (p : Past) → Follows works returned v w → GoesOnAs w.past p → GoesOnAs v.past p
goes_on_from [] [] v w p f on = subst (λ (x : View). GoesOnAs x.past p) f on
goes_on_from [] (r ∷ rs) v w p f on = absurd f
goes_on_from (k ∷ ks) [] v w p f on = absurd f
goes_on_from (k ∷ ks) (r ∷ rs) v w p f on = leads p v f.0 (since_of k r v f.0 f.1) (goes_on_from ks rs f.0 w p f.2 on)

-- an answer is that of each later past
stays : (p q : Past) (query : Query) (answer : Answer) → GoesOnAs p q → last_moment query < settled p.history → IsAnswered (applied p.history) query answer → IsAnswered (applied q.history) query answer
stays p q query answer on = answer_stays (record { past = p; numbers = [] }) (record { past = q; numbers = [] }) query answer (record { past = on; numbers = λ i. zero-le })

answer_of : (work : Work) (one : Returned) (v w : View) (p : Past) → IsReplied work one v w → GoesOnAs w.past p → IsAnswerOf p.history work one
answer_of (Ask query) (Answered (Ok answer)) v w p is on = stays w.past p query answer on is.1.1 is.1.0
answer_of _ _ v w p is on = tt

answers_of : (works : List Work) (returned : List Returned) (v w : View) (p : Past) → Follows works returned v w → GoesOnAs w.past p → AllZip (IsAnswerOf p.history) works returned
answers_of [] [] v w p f on = tt
answers_of [] (r ∷ rs) v w p f on = absurd f
answers_of (k ∷ ks) [] v w p f on = absurd f
answers_of (k ∷ ks) (r ∷ rs) v w p f on = (answer_of k r v f.0 p f.1 (goes_on_from ks rs f.0 w p f.2 on), answers_of ks rs f.0 w p f.2 on)

is_work : (works : List Work) (returned : List Returned) (v w : View) (last : Past) → Follows works returned v w → IsFrontOf last w → IsWork works returned v last
is_work works returned v w last follows front = record { seen = w; follows = follows; front = front; answers = answers_of works returned v w last follows front.past }

-- ---- two threads

-- two passes are pushed
pushed : {V X E : Type 0} (reported : Result X E) (x : X) (old new : List V) (v : V) → new ≡ (if is_ok reported then old ++ v ∷ [] else old) → reported ≡ Ok x → new ≡ old ++ v ∷ []
pushed reported x old new v is ok = is ∙ ap (λ (r : Result _ _). if is_ok r then old ++ v ∷ [] else old) ok

pub two_pushed : {V X E : Type 0} (a b : Result X E) (x y : X) (none one both : List V) (v w : V) → none ≡ [] → one ≡ (if is_ok a then none ++ v ∷ [] else none) → both ≡ (if is_ok b then one ++ w ∷ [] else one) → a ≡ Ok x → b ≡ Ok y → both ≡ v ∷ w ∷ []
two_pushed a b x y none one both v w empty first second ok_a ok_b =
    pushed b y one both w second ok_b ∙ ap (λ (l : List _). l ++ w ∷ []) (pushed a x none one v first ok_a ∙ ap (λ (l : List _). l ++ v ∷ []) empty)

-- both threads began with one view, and all is there in the end
pub is_played : (works others : List Work) (v from also to end : View) (closed : Option _) (ran too : Option (Vec Returned)) (played : Played)
    → from ≡ v → also ≡ v → closed ≡ Some played.store → ran ≡ Some played.one → too ≡ Some played.two
    → IfSome closed (λ s. (last : Past) × HeldRepresents s.archive last × IsFrontOf last to × IsFrontOf last end)
    → IfSome ran (λ r. Follows works r.items from to) → IfSome too (λ r. Follows others r.items also end)
    → IsPlayed v works others played
is_played works others v from also to end closed ran too played same as_well is_closed is_ran is_too ends first second =
    let last = at_some closed (λ s. (last : Past) × HeldRepresents s.archive last × IsFrontOf last to × IsFrontOf last end) played.store is_closed ends in
    let front = at_some ran (λ r. Follows works r.items from to) played.one is_ran first in
    let other = at_some too (λ r. Follows others r.items also end) played.two is_too second in
    record {
      last = last.0;
      represented = last.1;
      one = is_work works played.one.items v to last.0 (subst (λ (x : View). Follows works played.one.items x to) same front) last.2;
      two = is_work others played.two.items v end last.0 (subst (λ (x : View). Follows others played.two.items x end) as_well other) last.3;
    }
