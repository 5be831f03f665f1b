-- What the steps of uses promise is promised of the uses.
use Rattle.std.proofs.Common.{◌≡◌, inl, inr, ℕ, zero, suc, ◌+◌, List, [], ◌∷◌, ◌++◌, length, Bool, true, false, cond, ◌==◌, if◌then◌else◌, refl, sym, ◌∙◌, ap, subst, arith, append_assoc, append-nil, Some}
use Rattle.std.specs.List.{slice_get}
use Rattle.std.specs.Global.{Vec}
use Rattle.std.proofs.lemmas.Option.{none-some, same_Some}
use Rattle.std.proofs.lemmas.List.{length-append}
use Rattle.route_model.specs.Admission.{Admitted}
use Rattle.route_meaning.specs.Holds.{admitted_time}
use Rattle.route_meaning.specs.History.{History}
use Rattle.sequencer.specs.Late.{is_late, timely}
use Rattle.interleaving_core.specs.declared.query.Query.{Query}
use Rattle.interleaving_core.specs.declared.query.Answer.{Answer}
use Rattle.interleaving_core.specs.declared.reply.Reply.{Reply}
use Rattle.interleaving_core.specs.declared.reply.Reply.TheVariants.{Taken, Begun, Done, Crashed, Recovered}
use Rattle.interleaving_core.specs.declared.step.Reach.TheVariants.{End}
use Rattle.interleaving_core.specs.declared.step.Step.{Step}
use Rattle.interleaving_core.specs.declared.step.Step.TheVariants.{Admit, Mark, Apply, Flush, Begin, Turn, Crash, Recover}
use Rattle.interleaving_core.specs.Headline.{WasDone, taken_by, taken_of, reported_by}
use Rattle.archive_uses.specs.Use.{AllStepsOf, AreBroken, AreSteps, Call, StepsOf, Use}
use Rattle.archive_uses.specs.Use.Call.{admit, mark, apply, flush, ask}
use Rattle.archive_uses.specs.Use.Use.{called, cut, looked, cut_looking, begun, finished, closed, lost, found, opened, shut, cut_opening}
use Rattle.archive_uses.specs.Use.Verdict.{replied, quiet, failed}
use Rattle.archive_uses.specs.Runs.{AreRun}
use Rattle.archive_uses.specs.Promises.{IsPartOf, IsPromised, offered_by, offered_in}

-- ---- places

at_end : {X : Type 0} (xs : List X) (y : X) (ys : List X) → slice_get (xs ++ y ∷ ys) (length xs) ≡ Some y
at_end [] y ys = refl
at_end (x ∷ xs) y ys = at_end xs y ys

after_end : {X : Type 0} (xs : List X) (y z : X) (ys : List X) → slice_get (xs ++ y ∷ z ∷ ys) (suc (length xs)) ≡ Some z
after_end [] y z ys = refl
after_end (x ∷ xs) y z ys = after_end xs y z ys

-- as many steps as replies
call_count : (call : Call) (reply : Reply) (steps : List Step) (replies : List Reply) → AreSteps call reply steps replies → length steps ≡ length replies
call_count (admit c batch) reply steps replies are = ap length are.0 ∙ sym (ap length are.1)
call_count (mark c m) reply steps replies are = ap length are.0 ∙ sym (ap length are.1)
call_count apply reply steps replies are = ap length are.1 ∙ sym (ap length are.2)
call_count flush reply steps replies are = ap length are.0 ∙ sym (ap length are.1)
call_count (ask query) reply steps replies are = ap length are.1 ∙ sym (ap length are.2)

broken_count : (call : Call) (steps : List Step) (replies : List Reply) → AreBroken call steps replies → length steps ≡ length replies
broken_count call steps replies (inl are) = ap length are.0 ∙ sym (ap length are.1)
broken_count call steps replies (inr is) =
    let one = call_count call is.0 is.1 is.2 is.3 in
    ap length is.4 ∙ length-append is.1 (Crash ∷ []) ∙ ap (λ n. n + 1) one ∙ sym (length-append is.2 (Crashed ∷ [])) ∙ sym (ap length is.5)

same_count : (u : Use) (steps : List Step) (replies : List Reply) → StepsOf u steps replies → length steps ≡ length replies
same_count (called call (replied reply)) steps replies are = call_count call reply steps replies are
same_count (called call failed) steps replies are = broken_count call steps replies are
same_count (cut call) steps replies are = broken_count call steps replies are
same_count _ steps replies are = ap length are.0 ∙ sym (ap length are.1)

-- the steps of one of the uses, and those before and after it
pub record Placed (u : Use) (steps : List Step) (replies : List Reply) : Type 0 where
  pub before : List Step
  pub its : List Step
  pub after : List Step
  pub earlier : List Reply
  pub answers : List Reply
  pub later : List Reply
  pub are : StepsOf u its answers
  pub same : length before ≡ length earlier
  pub steps_are : steps ≡ before ++ (its ++ after)
  pub replies_are : replies ≡ earlier ++ (answers ++ later)

placed : (us : List Use) (steps : List Step) (replies : List Reply) (k : ℕ) (u : Use) → AllStepsOf us steps replies → slice_get us k ≡ Some u → Placed u steps replies
placed [] steps replies k u all at = absurd (none-some u at)
placed (v ∷ us) steps replies zero u all at = record {
  before = [];
  its = all.0;
  after = all.1;
  earlier = [];
  answers = all.2;
  later = all.3;
  are = subst (λ x. StepsOf x all.0 all.2) (same_Some v u at) all.4;
  same = refl;
  steps_are = all.6;
  replies_are = all.7;
}
placed (v ∷ us) steps replies (suc k) u all at =
    let p = placed us all.1 all.3 k u all.5 at in
    record {
      before = all.0 ++ p.before;
      its = p.its;
      after = p.after;
      earlier = all.2 ++ p.earlier;
      answers = p.answers;
      later = p.later;
      are = p.are;
      same = (let a = length-append all.0 p.before in let b = length-append all.2 p.earlier in let c = same_count v all.0 all.2 all.4 in let d = p.same in omega (arith, a, b, c, d));
      steps_are = all.6 ∙ ap (λ (x : List Step). all.0 ++ x) p.steps_are ∙ sym (append_assoc all.0 p.before (p.its ++ p.after));
      replies_are = all.7 ∙ ap (λ (x : List Reply). all.2 ++ x) p.replies_are ∙ sym (append_assoc all.2 p.earlier (p.answers ++ p.later));
    }

-- ---- answers and receipts

was_done : (query : Query) (answer : Answer) (steps : List Step) (replies : List Reply) → Placed (called (ask query) (replied (Done answer))) steps replies → WasDone steps replies query answer
was_done query answer steps replies p =
    let i = p.are.0 in
    let there : steps ≡ p.before ++ (Begin query ∷ Turn i End ∷ p.after) = p.steps_are ∙ ap (λ (x : List Step). p.before ++ (x ++ p.after)) p.are.1 in
    let said : replies ≡ p.earlier ++ (Begun i ∷ Done answer ∷ p.later) = p.replies_are ∙ ap (λ (x : List Reply). p.earlier ++ (x ++ p.later)) p.are.2 in
    record {
      number = i;
      began = length p.before;
      begin = ap (λ (x : List Step). slice_get x (length p.before)) there ∙ at_end p.before (Begin query) (Turn i End ∷ p.after);
      begun = ap (λ (x : List Reply). slice_get x (length p.before)) said ∙ ap (λ n. slice_get (p.earlier ++ (Begun i ∷ Done answer ∷ p.later)) n) p.same ∙ at_end p.earlier (Begun i) (Done answer ∷ p.later);
      place = suc (length p.before);
      reach = End;
      turn = ap (λ (x : List Step). slice_get x (suc (length p.before))) there ∙ after_end p.before (Begin query) (Turn i End) p.after;
      done = ap (λ (x : List Reply). slice_get x (suc (length p.before))) said ∙ ap (λ n. slice_get (p.earlier ++ (Begun i ∷ Done answer ∷ p.later)) (suc n)) p.same ∙ after_end p.earlier (Begun i) (Done answer) p.later;
    }

-- ---- what is in a history

part_none : {X : Type 0} (ys : List X) → IsPartOf [] ys
part_none [] = refl
part_none (y ∷ ys) = inl (part_none ys)

part_append : {X : Type 0} (xs ys vs ws : List X) → IsPartOf xs ys → IsPartOf vs ws → IsPartOf (xs ++ vs) (ys ++ ws)
part_append xs [] vs ws p q = subst (λ l. IsPartOf (l ++ vs) ws) (sym p) q
part_append xs (y ∷ ys) vs ws (inl p) q = inl (part_append xs ys vs ws p q)
part_append xs (y ∷ ys) vs ws (inr p) q = inr (p.0 ++ vs, ap (λ l. l ++ vs) p.1, part_append p.0 ys vs ws p.2 q)

part_cond : (late : Bool) (x : Admitted) (xs ys : List Admitted) → IsPartOf xs ys → IsPartOf (cond late xs (x ∷ xs)) (x ∷ ys)
part_cond true x xs ys p = inl p
part_cond false x xs ys p = inr (xs, refl, p)

part_timely : (earlier : List ℕ) (xs : List Admitted) → IsPartOf (timely admitted_time 0 earlier xs) xs
part_timely earlier [] = refl
part_timely earlier (x ∷ xs) =
    let later = earlier ++ admitted_time x ∷ [] in
    part_cond (is_late 0 earlier (admitted_time x)) x (timely admitted_time 0 later xs) xs (part_timely later xs)

part_if : (b : Bool) (xs ys : List Admitted) → IsPartOf xs ys → IsPartOf (if b then xs else []) (if b then ys else [])
part_if true xs ys p = p
part_if false xs ys p = refl

part_batch : (c : ℕ) (earlier : List ℕ) (d : ℕ) (batch : Vec Admitted) (reply : Reply) → IsPartOf (taken_by c earlier (Admit d batch) reply) (if d == c then batch.items else [])
part_batch c earlier d batch (Taken receipt) = part_if (d == c) (timely admitted_time 0 earlier batch.items) batch.items (part_timely earlier batch.items)
part_batch c earlier d batch _ = part_none (if d == c then batch.items else [])

-- what these steps took for the collector is part of this
abbrev TakenIs : ℕ → List ℕ → List Admitted → List Step → List Reply → Type 0
TakenIs c earlier offered steps replies = IsPartOf (taken_of c earlier steps replies) offered

at_steps : (c : ℕ) (earlier : List ℕ) (offered : List Admitted) (steps ss : List Step) (replies rs : List Reply) → steps ≡ ss → replies ≡ rs → TakenIs c earlier offered ss rs → TakenIs c earlier offered steps replies
at_steps c earlier offered steps ss replies rs same_steps same_replies p =
    subst (λ (x : List Step). TakenIs c earlier offered x replies) (sym same_steps) (subst (λ (x : List Reply). TakenIs c earlier offered ss x) (sym same_replies) p)

part_reply : (c : ℕ) (earlier : List ℕ) (d : ℕ) (batch : Vec Admitted) (reply : Reply) → IsPartOf (taken_by c earlier (Admit d batch) reply) (offered_by c (called (admit d batch) (replied reply)))
part_reply c earlier d batch (Taken receipt) = part_batch c earlier d batch (Taken receipt)
part_reply c earlier d batch _ = refl

part_call : (c : ℕ) (earlier : List ℕ) (call : Call) (reply : Reply) (steps : List Step) (replies : List Reply) → AreSteps call reply steps replies → TakenIs c earlier (offered_by c (called call (replied reply))) steps replies
part_call c earlier (admit d batch) reply steps replies are = at_steps c earlier (offered_by c (called (admit d batch) (replied reply))) steps (Admit d batch ∷ []) replies (reply ∷ []) are.0 are.1
    (subst (λ l. IsPartOf l (offered_by c (called (admit d batch) (replied reply)))) (sym (append-nil (taken_by c earlier (Admit d batch) reply))) (part_reply c earlier d batch reply))
part_call c earlier (mark d m) reply steps replies are = at_steps c earlier [] steps (Mark d m ∷ []) replies (reply ∷ []) are.0 are.1 refl
part_call c earlier apply reply steps replies are = at_steps c earlier [] steps (Apply are.0 ∷ []) replies (reply ∷ []) are.1 are.2 refl
part_call c earlier flush reply steps replies are = at_steps c earlier [] steps (Flush ∷ []) replies (reply ∷ []) are.0 are.1 refl
part_call c earlier (ask query) reply steps replies are = at_steps c earlier [] steps (Begin query ∷ Turn are.0 End ∷ []) replies (Begun are.0 ∷ reply ∷ []) are.1 are.2 refl

part_broken : (c : ℕ) (earlier : List ℕ) (call : Call) (steps : List Step) (replies : List Reply) → AreBroken call steps replies → TakenIs c earlier (offered_by c (cut call)) steps replies
part_broken c earlier call steps replies (inl are) = at_steps c earlier (offered_by c (cut call)) steps (Crash ∷ []) replies (Crashed ∷ []) are.0 are.1 (part_none (offered_by c (cut call)))
part_broken c earlier call steps replies (inr is) = at_steps c earlier (offered_by c (cut call)) steps (is.1 ++ Crash ∷ []) replies (is.2 ++ Crashed ∷ []) is.4 is.5 (go call is.1 is.2 is.3)
  where
    go : (call : Call) (before : List Step) (answers : List Reply) → AreSteps call is.0 before answers → TakenIs c earlier (offered_by c (cut call)) (before ++ Crash ∷ []) (answers ++ Crashed ∷ [])
    go (admit d batch) before answers are = at_steps c earlier (offered_by c (cut (admit d batch))) (before ++ Crash ∷ []) (Admit d batch ∷ Crash ∷ []) (answers ++ Crashed ∷ []) (is.0 ∷ Crashed ∷ [])
        (ap (λ (x : List Step). x ++ Crash ∷ []) are.0) (ap (λ (x : List Reply). x ++ Crashed ∷ []) are.1)
        (subst (λ l. IsPartOf l (offered_by c (cut (admit d batch)))) (sym (append-nil (taken_by c earlier (Admit d batch) is.0))) (part_batch c earlier d batch is.0))
    go (mark d m) before answers are = at_steps c earlier [] (before ++ Crash ∷ []) (Mark d m ∷ Crash ∷ []) (answers ++ Crashed ∷ []) (is.0 ∷ Crashed ∷ []) (ap (λ (x : List Step). x ++ Crash ∷ []) are.0) (ap (λ (x : List Reply). x ++ Crashed ∷ []) are.1) refl
    go apply before answers are = at_steps c earlier [] (before ++ Crash ∷ []) (Apply are.0 ∷ Crash ∷ []) (answers ++ Crashed ∷ []) (is.0 ∷ Crashed ∷ []) (ap (λ (x : List Step). x ++ Crash ∷ []) are.1) (ap (λ (x : List Reply). x ++ Crashed ∷ []) are.2) refl
    go flush before answers are = at_steps c earlier [] (before ++ Crash ∷ []) (Flush ∷ Crash ∷ []) (answers ++ Crashed ∷ []) (is.0 ∷ Crashed ∷ []) (ap (λ (x : List Step). x ++ Crash ∷ []) are.0) (ap (λ (x : List Reply). x ++ Crashed ∷ []) are.1) refl
    go (ask query) before answers are = at_steps c earlier [] (before ++ Crash ∷ []) (Begin query ∷ Turn are.0 End ∷ Crash ∷ []) (answers ++ Crashed ∷ []) (Begun are.0 ∷ is.0 ∷ Crashed ∷ []) (ap (λ (x : List Step). x ++ Crash ∷ []) are.1) (ap (λ (x : List Reply). x ++ Crashed ∷ []) are.2) refl

failed_as_cut : (c : ℕ) (call : Call) → offered_by c (called call failed) ≡ offered_by c (cut call)
failed_as_cut c (admit d batch) = refl
failed_as_cut c _ = refl

part_use : (c : ℕ) (earlier : List ℕ) (u : Use) (steps : List Step) (replies : List Reply) → StepsOf u steps replies → TakenIs c earlier (offered_by c u) steps replies
part_use c earlier (called call (replied reply)) steps replies are = part_call c earlier call reply steps replies are
part_use c earlier (called call quiet) steps replies are = at_steps c earlier (offered_by c (called call quiet)) steps [] replies [] are.0 are.1 (part_none (offered_by c (called call quiet)))
part_use c earlier (called call failed) steps replies are = subst (λ l. TakenIs c earlier l steps replies) (sym (failed_as_cut c call)) (part_broken c earlier call steps replies are)
part_use c earlier (cut call) steps replies are = part_broken c earlier call steps replies are
part_use c earlier looked steps replies are = at_steps c earlier [] steps [] replies [] are.0 are.1 refl
part_use c earlier cut_looking steps replies are = at_steps c earlier [] steps (Crash ∷ []) replies (Crashed ∷ []) are.0 are.1 refl
part_use c earlier begun steps replies are = at_steps c earlier [] steps [] replies [] are.0 are.1 refl
part_use c earlier finished steps replies are = at_steps c earlier [] steps [] replies [] are.0 are.1 refl
part_use c earlier closed steps replies are = at_steps c earlier [] steps (Crash ∷ []) replies (Crashed ∷ []) are.0 are.1 refl
part_use c earlier lost steps replies are = at_steps c earlier [] steps (Crash ∷ []) replies (Crashed ∷ []) are.0 are.1 refl
part_use c earlier found steps replies are = at_steps c earlier [] steps [] replies [] are.0 are.1 refl
part_use c earlier opened steps replies are = at_steps c earlier [] steps (Recover ∷ []) replies (Recovered ∷ []) are.0 are.1 refl
part_use c earlier shut steps replies are = at_steps c earlier [] steps [] replies [] are.0 are.1 refl
part_use c earlier cut_opening steps replies are = at_steps c earlier [] steps (Crash ∷ []) replies (Crashed ∷ []) are.0 are.1 refl

taken_split : (c : ℕ) (earlier : List ℕ) (ss ts : List Step) (rs qs : List Reply) → length ss ≡ length rs → (later : List ℕ) × (taken_of c earlier (ss ++ ts) (rs ++ qs) ≡ taken_of c earlier ss rs ++ taken_of c later ts qs)
taken_split c earlier [] ts [] qs same = (earlier, refl)
taken_split c earlier [] ts (r ∷ rs) qs same = absurd (omega (arith, same))
taken_split c earlier (s ∷ ss) ts [] qs same = absurd (omega (arith, same))
taken_split c earlier (s ∷ ss) ts (r ∷ rs) qs same =
    let rest = taken_split c (earlier ++ reported_by c s r) ss ts rs qs (omega (arith, same)) in
    (rest.0, ap (λ (l : List Admitted). taken_by c earlier s r ++ l) rest.1 ∙ sym (append_assoc (taken_by c earlier s r) (taken_of c (earlier ++ reported_by c s r) ss rs) (taken_of c rest.0 ts qs)))

part_uses : (c : ℕ) (earlier : List ℕ) (us : List Use) (steps : List Step) (replies : List Reply) → AllStepsOf us steps replies → IsPartOf (taken_of c earlier steps replies) (offered_in c us)
part_uses c earlier [] steps replies none = at_steps c earlier [] steps [] replies [] none.0 none.1 refl
part_uses c earlier (u ∷ us) steps replies all =
    let split = taken_split c earlier all.0 all.1 all.2 all.3 (same_count u all.0 all.2 all.4) in
    at_steps c earlier (offered_in c (u ∷ us)) steps (all.0 ++ all.1) replies (all.2 ++ all.3) all.6 all.7
    (subst (λ l. IsPartOf l (offered_in c (u ∷ us))) (sym split.1)
    (part_append (taken_of c earlier all.0 all.2) (offered_by c u) (taken_of c split.0 all.1 all.3) (offered_in c us) (part_use c earlier u all.0 all.2 all.4) (part_uses c split.0 us all.1 all.3 all.5)))

-- ---- all of it

promised_at_last : (n : ℕ) (us : List Use) (down : Bool) (h : History) (r : AreRun n us down h) → IsPromised us r.last.history
promised_at_last n us down h r = record {
  right = r.headline.right;
  answers = λ k query answer at. r.headline.answers query answer (was_done query answer r.steps r.replies (placed us r.steps r.replies k (called (ask query) (replied (Done answer))) r.steps_of at));
  settled = λ k query answer at. r.headline.settled query answer (was_done query answer r.steps r.replies (placed us r.steps r.replies k (called (ask query) (replied (Done answer))) r.steps_of at));
  receipts = λ k c batch reply at. (
      let p = placed us r.steps r.replies k (called (admit c batch) (replied (Taken reply))) r.steps_of at in
      let there : r.steps ≡ p.before ++ (Admit c batch ∷ p.after) = p.steps_are ∙ ap (λ (x : List Step). p.before ++ (x ++ p.after)) p.are.0 in
      let said : r.replies ≡ p.earlier ++ (Taken reply ∷ p.later) = p.replies_are ∙ ap (λ (x : List Reply). p.earlier ++ (x ++ p.later)) p.are.1 in (
        _,
        _,
        _,
        r.headline.receipts (length p.before) (Admit c batch) (Taken reply)
            (ap (λ (x : List Step). slice_get x (length p.before)) there ∙ at_end p.before (Admit c batch) p.after)
            (ap (λ (x : List Reply). slice_get x (length p.before)) said ∙ ap (λ m. slice_get (p.earlier ++ (Taken reply ∷ p.later)) m) p.same ∙ at_end p.earlier (Taken reply) p.later),
      )
      );
  only = λ c i at. subst (λ l. IsPartOf l (offered_in c us)) (sym (r.headline.only c i at).admitted) (part_uses c [] us r.steps r.replies r.steps_of);
}

pub run_promised : (n : ℕ) (us : List Use) (down : Bool) (h : History) → AreRun n us down h → IsPromised us h
run_promised n us down h r = subst (IsPromised us) r.history (promised_at_last n us down h r)
