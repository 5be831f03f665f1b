-- Turns that are made one after another.
use Rattle.std.proofs.Common.{◌≡◌, ℕ, ◌+◌, ◌-◌, ◌<◌, List, [], ◌∷◌, ◌++◌, length, zero, suc, get_or, Some, None, Option, Result, Ok, Err, Bool, true, false, refl, sym, ap, ◌∙◌, subst, append_assoc, length-append, arith}
use Rattle.std.specs.List.{flat_map, slice_get}
use Rattle.service.specs.Outputs.{OutputState, Reports}
use Rattle.service.proofs.Outputs.{Reports-trans}
use Rattle.std.proofs.lemmas.List.{append-nil}
use Rattle.route_model.specs.Admission.{Admitted, admission_octets}
use Rattle.route_meaning.specs.Holds.{admitted_time}
use Rattle.route_meaning.specs.History.{Intake, History}
use Rattle.sequencer.specs.Late.{lates}
use Rattle.interleaving_core.specs.Does.{IsReply}
use Rattle.interleaving_core.specs.Steps.{changed, with_batch, given}
use Rattle.archive_calls.specs.Limits.{batch_octets}
use Rattle.interleaving_core.specs.declared.reply.BatchReply.{BatchReply as Reply}
use Rattle.resolve.specs.declared.fault.ResolveFault.{ResolveFault}
use Rattle.service.specs.Faults.{of_record}
use Rattle.service.specs.FeedLines.{admitted_text, batch_line, late_line}
use Rattle.service.specs.Refusals.{refused_record_line}
use Rattle.service.specs.Turns.{Turn, Offer, Refuse, offered, refusals, admissions_of, is_crowded, is_full, offer_where, wait_unless, waiting_with, turns_at, waits_after, turns_for, waits_beyond, last_turns, feed_turns}
use Rattle.service.specs.FeedTexts.{capped, intake_in, admitted_of, batch_text, turns_text}
use Rattle.service.specs.inner.Feeding.{HasDone}
use Rattle.service.specs.inner.Taking.{IsTaken}
use Rattle.std.proofs.lemmas.Option.{slice_get_within}
use Rattle.service.specs.declared.feed_lines.FeedCounts.{FeedCounts}
use Rattle.interleaving_core.proofs.api.Joining.{timely_both, lates_both, with_both, with_none, given_both}
use Rattle.service.specs.declared.limits.BatchLimits.{BatchLimits}
use Rattle.service.specs.Represented.{Represented, HasIntakes}

pub offered_both : (xs ys : List Turn) → offered (xs ++ ys) ≡ offered xs ++ offered ys
offered_both [] ys = refl
offered_both (Offer batch ∷ xs) ys = ap (λ (t : List Admitted). batch ++ t) (offered_both xs ys) ∙ sym (append_assoc batch (offered xs) (offered ys))
offered_both (Refuse place fault ∷ xs) ys = offered_both xs ys

pub refusals_both : (xs ys : List Turn) → refusals (xs ++ ys) ≡ refusals xs + refusals ys
refusals_both [] ys = omega arith
refusals_both (Offer batch ∷ xs) ys = refusals_both xs ys
refusals_both (Refuse place fault ∷ xs) ys = let ih = refusals_both xs ys in omega (arith, ih)

pub turns_text_both : (i : Intake) (xs ys : List Turn) → turns_text i (xs ++ ys) ≡ turns_text i xs ++ turns_text (with_batch (offered xs) i) ys
turns_text_both i [] ys = ap (λ (j : Intake). turns_text j ys) (sym (with_none i))
turns_text_both i (Offer batch ∷ xs) ys =
    ap (λ (t : List ℕ). batch_text i batch ++ t) (turns_text_both (with_batch batch i) xs ys ∙ ap (λ (j : Intake). turns_text (with_batch batch i) xs ++ turns_text j ys) (with_both batch (offered xs) i))
    ∙ sym (append_assoc (batch_text i batch) (turns_text (with_batch batch i) xs) (turns_text (with_batch (batch ++ offered xs) i) ys))
turns_text_both i (Refuse place fault ∷ xs) ys =
    let line = refused_record_line (of_record fault) (capped place) in
    ap (λ (t : List ℕ). line ++ t) (turns_text_both i xs ys) ∙ sym (append_assoc line (turns_text i xs) (turns_text (with_batch (offered xs) i) ys))

-- the collector's intake, once it was changed
pub changed_there : (c : ℕ) (f : Intake → Intake) (is : List Intake) (d : Intake) → c < length is → slice_get (changed c f is) c ≡ Some (f (get_or is c d))
changed_there c f [] d lt = absurd (omega (arith, lt))
changed_there zero f (i ∷ is) d lt = refl
changed_there (suc c) f (i ∷ is) d lt = changed_there c f is d (omega (arith, lt))

pub as_many : (c : ℕ) (f : Intake → Intake) (is : List Intake) → length (changed c f is) ≡ length is
as_many c f [] = refl
as_many zero f (i ∷ is) = refl
as_many (suc c) f (i ∷ is) = ap suc (as_many c f is)

pub capped_more : (a b : ℕ) → capped (capped a + b) ≡ capped (a + b)
capped_more a b = omega arith

-- what is answered to a batch, as lines
pub reply_text : (i : Intake) (c : ℕ) (batch : List Admitted) (reply : Reply) → IsReply i c batch reply → admitted_text reply ≡ batch_text i batch
reply_text i c batch reply r = λ k. batch_line (r.from k) (r.to k) (r.offered k) ++ flat_map late_line (r.late k)

-- this many of a batch are counted as admitted
pub kept_count : (i : Intake) (c : ℕ) (batch : List Admitted) (reply : Reply) → IsReply i c batch reply → reply.receipt.to - reply.receipt.from ≡ length (admitted_of i batch)
kept_count i c batch reply r = let to = r.to in let from = r.from in omega (arith, to, from)

-- a batch of a collector that had these intakes is offered, wherever they are applied
given_alike : (b c : ℕ) (batch given_ : List Admitted) (old new : List Intake) → b ≡ c → given_ ≡ batch → old ≡ new → changed b (with_batch given_) old ≡ changed c (with_batch batch) new
given_alike b c batch given_ old new one same alike = λ k. changed (one k) (with_batch (same k)) (alike k)

one_intake : (i j : Intake) → Some i ≡ Some j → i ≡ j
one_intake i j e = cc

-- a batch more
pub done_offer : (b c : ℕ) (h : History) (turns : List Turn) (batch given_ : List Admitted) (old new : FeedCounts) (reply : Reply) (archive later : Represented) (was mid now : OutputState)
    → b ≡ c → given_ ≡ batch
    → ((g : History) → archive g → IsTaken later b given_ (Ok reply) g)
    → Reports mid now (admitted_text reply)
    → new.admitted ≡ capped (old.admitted + (reply.receipt.to - reply.receipt.from)) → new.late ≡ capped (old.late + length reply.late.items) → new.refused ≡ old.refused
    → HasDone c h turns old archive was mid → HasDone c h (turns ++ Offer batch ∷ []) new later was now
done_offer b c h turns batch given_ old new reply archive later was mid now one same takes wrote admitted late refused d =
    let g = given h c (offered turns) in
    let i = intake_in h.intakes c in
    let j = with_batch (offered turns) i in
    let all : offered (turns ++ Offer batch ∷ []) ≡ offered turns ++ batch = offered_both turns (Offer batch ∷ []) ∙ ap (λ (t : List Admitted). offered turns ++ t) (append-nil batch) in
    let w = d.represented in
    let t = takes w.now w.represented in
    let alike : t.at.intakes ≡ g.intakes = t.intakes ∙ w.are in
    let in_all : slice_get g.intakes b ≡ Some t.done.intake = ap (λ (is : List Intake). slice_get is b) (sym alike) ∙ t.done.here in
    let within : c < length h.intakes = let n = slice_get_within g.intakes b t.done.intake in_all in let m = as_many c (with_batch (offered turns)) h.intakes in omega (arith, n, m, one) in
    let there : slice_get g.intakes b ≡ Some j = ap (slice_get g.intakes) one ∙ changed_there c (with_batch (offered turns)) h.intakes _ within in
    let is = one_intake t.done.intake j (sym in_all ∙ there) in
    let r : IsReply j b batch reply = subst (λ (l : List Admitted). IsReply j b l reply) same (subst (λ (k : Intake). IsReply k b given_ reply) is t.done.reply_is) in
    let kept = kept_count j b batch reply r in
    let gone = ap length r.late in
    record {
      represented = record {
        now = t.after;
        are = ap (λ (x : History). x.intakes) t.done.after ∙ given_alike b c batch given_ t.at.intakes g.intakes one same alike ∙ ap (λ (x : History). x.intakes) (given_both h c (offered turns) batch ∙ ap (given h c) (sym all));
        represented = t.represented;
      };
      wrote =
          subst (λ (t : List ℕ). Reports was now t) (ap (λ (t : List ℕ). turns_text i turns ++ t) (reply_text j b batch reply r ∙ sym (append-nil (batch_text j batch))) ∙ sym (turns_text_both i turns (Offer batch ∷ [])))
          (Reports-trans was mid now (turns_text i turns) (admitted_text reply) d.wrote wrote);
      admitted =
          let sum : length (admitted_of i (offered (turns ++ Offer batch ∷ []))) ≡ length (admitted_of i (offered turns)) + length (admitted_of j batch) =
          ap (λ (t : List Admitted). length (admitted_of i t)) all ∙ ap length (timely_both admitted_time i.mark (offered turns) batch) ∙ length-append _ _ in
          let before = d.admitted in
          admitted ∙ (λ k. capped (before k + kept k)) ∙ capped_more _ _ ∙ ap capped (sym sum);
      late =
          let sum : length (lates admitted_time i.mark [] 0 (offered (turns ++ Offer batch ∷ []))) ≡ length (lates admitted_time i.mark [] 0 (offered turns)) + length (lates admitted_time j.mark [] 0 batch) =
          ap (λ (t : List Admitted). length (lates admitted_time i.mark [] 0 t)) all ∙ lates_both admitted_time i.mark (offered turns) batch in
          let before = d.late in
          late ∙ (λ k. capped (before k + gone k)) ∙ capped_more _ _ ∙ ap capped (sym sum);
      refused = let sum = refusals_both turns (Offer batch ∷ []) in let before = d.refused in omega (arith, refused, sum, before);
      there = λ some. within;
    }

-- nothing more is done
pub done_no_more : (c : ℕ) (h : History) (turns : List Turn) (counts : FeedCounts) (archive : Represented) (was now : OutputState)
    → HasDone c h turns counts archive was now → HasDone c h (turns ++ []) counts archive was now
done_no_more c h turns counts archive was now d = subst (λ (t : List Turn). HasDone c h t counts archive was now) (sym (append-nil turns)) d

-- a record more is refused
pub done_refuse : (c : ℕ) (h : History) (turns : List Turn) (old new : FeedCounts) (archive : Represented) (was mid now : OutputState) (place n : ℕ) (fault : ResolveFault)
    → place ≡ capped n → Reports mid now (refused_record_line (of_record fault) place)
    → new.admitted ≡ old.admitted → new.late ≡ old.late → new.refused ≡ capped (old.refused + 1)
    → HasDone c h turns old archive was mid → HasDone c h (turns ++ Refuse n fault ∷ []) new archive was now
done_refuse c h turns old new archive was mid now place n fault is wrote admitted late refused d =
    let i = intake_in h.intakes c in
    let line = refused_record_line (of_record fault) (capped n) in
    let same : offered (turns ++ Refuse n fault ∷ []) ≡ offered turns = offered_both turns (Refuse n fault ∷ []) ∙ append-nil (offered turns) in
    record {
      represented = subst (λ (t : List Admitted). HasIntakes (given h c t).intakes archive) (sym same) d.represented;
      wrote =
          subst (λ (t : List ℕ). Reports was now t) (ap (λ (t : List ℕ). turns_text i turns ++ t) (ap (refused_record_line (of_record fault)) is ∙ sym (append-nil line)) ∙ sym (turns_text_both i turns (Refuse n fault ∷ [])))
          (Reports-trans was mid now (turns_text i turns) (refused_record_line (of_record fault) place) d.wrote wrote);
      admitted = admitted ∙ d.admitted ∙ ap (λ (t : List Admitted). capped (length (admitted_of i t))) (sym same);
      late = late ∙ d.late ∙ ap (λ (t : List Admitted). capped (length (lates admitted_time i.mark [] 0 t))) (sym same);
      refused = let sum = refusals_both turns (Refuse n fault ∷ []) in let before = d.refused in omega (arith, refused, sum, before);
      there = λ some. d.there (λ none. some (same ∙ none));
    }

pub octets_more : (waiting : List Admitted) (a : Admitted) → batch_octets (waiting ++ a ∷ []) ≡ batch_octets waiting + (4 + length (admission_octets a))
octets_more [] a = omega arith
octets_more (b ∷ waiting) a = let ih = octets_more waiting a in omega (arith, ih)

-- what is offered and what waits still, whether it is offered or not
offer_wait : (b : Bool) (waiting : List Admitted) → offered (offer_where b waiting) ++ wait_unless b waiting ≡ waiting
offer_wait true waiting = append-nil (waiting ++ []) ∙ append-nil waiting
offer_wait false waiting = refl

admission_turns : (limit : BatchLimits) (place : ℕ) (waiting : List Admitted) (a : Admitted) → offered (turns_at limit place waiting (Ok (Some a))) ++ waits_after limit waiting (Ok (Some a)) ≡ waiting ++ a ∷ []
admission_turns limit place waiting a =
    let b = is_crowded limit waiting a in
    let j = waiting_with limit waiting a in
    ap (λ (t : List Admitted). t ++ wait_unless (is_full limit j) j) (offered_both (offer_where b waiting) (offer_where (is_full limit j) j))
    ∙ append_assoc (offered (offer_where b waiting)) (offered (offer_where (is_full limit j) j)) (wait_unless (is_full limit j) j)
    ∙ ap (λ (t : List Admitted). offered (offer_where b waiting) ++ t) (offer_wait (is_full limit j) j)
    ∙ sym (append_assoc (offered (offer_where b waiting)) (wait_unless b waiting) (a ∷ []))
    ∙ ap (λ (t : List Admitted). t ++ a ∷ []) (offer_wait b waiting)

-- what is offered and what waits still are what waited and what came
pub offered_turns : (limit : BatchLimits) (place : ℕ) (waiting : List Admitted) (results : List (Result (Option Admitted) ResolveFault))
    → offered (turns_for limit place waiting results) ++ waits_beyond limit waiting results ≡ waiting ++ admissions_of results
offered_turns limit place waiting [] = sym (append-nil waiting)
offered_turns limit place waiting (Ok (Some a) ∷ results) =
    let r : Result (Option Admitted) ResolveFault = Ok (Some a) in
    let next = waits_after limit waiting r in
    let here = turns_at limit place waiting r in
    ap (λ (t : List Admitted). t ++ waits_beyond limit next results) (offered_both here (turns_for limit (suc place) next results))
    ∙ append_assoc (offered here) (offered (turns_for limit (suc place) next results)) (waits_beyond limit next results)
    ∙ ap (λ (t : List Admitted). offered here ++ t) (offered_turns limit (suc place) next results)
    ∙ sym (append_assoc (offered here) next (admissions_of results))
    ∙ ap (λ (t : List Admitted). t ++ admissions_of results) (admission_turns limit place waiting a)
    ∙ append_assoc waiting (a ∷ []) (admissions_of results)
offered_turns limit place waiting (Ok None ∷ results) = offered_turns limit (suc place) waiting results
offered_turns limit place waiting (Err fault ∷ results) = offered_turns limit (suc place) waiting results

offered_last : (waiting : List Admitted) → offered (last_turns waiting) ≡ waiting
offered_last [] = refl
offered_last (a ∷ waiting) = append-nil (a ∷ waiting)

-- a feed offers its admissions, in their order
pub offered_feed : (limit : BatchLimits) (results : List (Result (Option Admitted) ResolveFault)) → offered (feed_turns limit results) ≡ admissions_of results
offered_feed limit results =
    offered_both (turns_for limit 0 [] results) (last_turns (waits_beyond limit [] results))
    ∙ ap (λ (t : List Admitted). offered (turns_for limit 0 [] results) ++ t) (offered_last (waits_beyond limit [] results))
    ∙ offered_turns limit 0 [] results
