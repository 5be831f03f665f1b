-- Turns that are made one after another.
use Rattle.std.proofs.Common.{◌≡◌, ℕ, ◌+◌, ◌≤◌, List, [], ◌∷◌, ◌++◌, length, ltb, Option, Some, None, Ok, Err, inl, inr, refl, sym, ap, ◌∙◌, subst, append-nil, arith}
use Rattle.std.specs.Prelude.{sum_by}
use Rattle.std.proofs.lemmas.List.Sums.{sum_by_push}
use Rattle.route_model.specs.Admission.{Admitted, admission_octets}
use Rattle.archive_calls.specs.Limits.{batch_octets}
use Rattle.archive_calls.specs.declared.refusal.Trouble.TheVariants as troubles
use Rattle.server.specs.Troubles.{of_shared}
use Rattle.board.specs.Views.{View, BeginsView}
use Rattle.interleaving_core.specs.declared.reply.BatchReply.{BatchReply}
use Rattle.query_threads.specs.Seeing.{Sees, Since}
use Rattle.query_threads.specs.Steps.{DoesAdmit}
use Rattle.query_threads.specs.declared.refusal.AdmitError.{AdmitError}
use Rattle.query_threads.specs.declared.refusal.AdmitError.TheVariants as admits
use Rattle.query_threads.proofs.Seen.{since_then}
use Rattle.resolve.specs.declared.fault.ResolveFault.{ResolveFault}
use Rattle.service.specs.Faults.{of_record}
use Rattle.service.specs.FeedLines.{admitted_text}
use Rattle.service.specs.FeedTexts.{capped}
use Rattle.service.specs.Outputs.{OutputState, Reports}
use Rattle.service.specs.Refusals.{refused_record_line}
use Rattle.service.specs.Turns.{Turn, Offer, Refuse, refusals}
use Rattle.service.specs.declared.faults.FeedStop.{FeedStop}
use Rattle.service.specs.declared.faults.FeedStop.TheVariants as stops
use Rattle.service.specs.declared.feed_lines.FeedCounts.{FeedCounts}
use Rattle.service.specs.declared.limits.BatchLimits.{BatchLimits}
use Rattle.service.proofs.Turning.{octets_more, refusals_both}
use Rattle.server.specs.Marks.{AppliesUntilIdle}
use Rattle.shared_feed.specs.Offers.{Admits, Refuses, StaysFull, IsNotTaken, Makes, Begun, Offered, Refused, admitted_in, late_in}
use Rattle.shared_feed.specs.inner.Feeding.{of_admit, stop_unless_full, HasDone, IsCounted}
use Rattle.shared_feed.specs.declared.feeding.Feeding.{Feeding}

-- what is since another is since what that is since
pub since_both : (u v w : View) → Since u v → Since v w → Since u w
since_both u v w (inl e) b = subst (λ (x : View). Since x w) e b
since_both u v w (inr a) (inl e) = subst (λ (x : View). Since u x) (sym e) (inr a)
since_both u v w (inr a) (inr b) = inr (since_then u v w (inr a) b)

-- why a batch isn't taken that was refused at last
pub not_taken : (promised : Type 0) (c : ℕ) (batch : List Admitted) (v full room w : View) (refusal : AdmitError)
    → Refuses promised c batch admits.IntakeFull v full → (promised → AppliesUntilIdle full room) → Since v room → (promised → Sees (DoesAdmit c batch (Err refusal)) room w)
    → IsNotTaken promised c batch v w (of_admit refusal)
not_taken promised c batch v full room w admits.NoCollector first applied since sees = record { at = room; since = since; sees = sees }
not_taken promised c batch v full room w admits.BatchTooLarge first applied since sees = tt
not_taken promised c batch v full room w admits.CounterFull first applied since sees = record { at = room; since = since; sees = sees }
not_taken promised c batch v full room w admits.IntakeFull first applied since sees = record { full = full; room = room; first = first; applied = applied; second = record { at = room; since = inl refl; sees = sees } }
not_taken promised c batch v full room w (admits.Trouble trouble) first applied since sees = tt

-- why a batch isn't taken that was refused at once, for another reason than that the ring is full
pub not_taken_first : (promised : Type 0) (c : ℕ) (batch : List Admitted) (v w : View) (refusal : AdmitError) (stop : FeedStop) → Some stop ≡ stop_unless_full refusal → (promised → Sees (DoesAdmit c batch (Err refusal)) v w) → IsNotTaken promised c batch v w stop
not_taken_first promised c batch v w admits.NoCollector stop is sees = let same : stops.NoCollector ≡ stop = cc in subst (λ (s : FeedStop). IsNotTaken promised c batch v w s) same (record { at = v; since = inl refl; sees = sees })
not_taken_first promised c batch v w admits.BatchTooLarge stop is sees = let same : stops.Trouble troubles.OutOfMemory ≡ stop = cc in subst (λ (s : FeedStop). IsNotTaken promised c batch v w s) same tt
not_taken_first promised c batch v w admits.CounterFull stop is sees = let same : stops.CounterFull ≡ stop = cc in subst (λ (s : FeedStop). IsNotTaken promised c batch v w s) same (record { at = v; since = inl refl; sees = sees })
not_taken_first promised c batch v w admits.IntakeFull stop is sees = absurd cc
not_taken_first promised c batch v w (admits.Trouble trouble) stop is sees = let same : stops.Trouble (of_shared trouble) ≡ stop = cc in subst (λ (s : FeedStop). IsNotTaken promised c batch v w s) same tt

-- it was refused as the ring is full
pub full_first : (refusal : AdmitError) → ◌≡◌ {A = Option FeedStop} None (stop_unless_full refusal) → refusal ≡ admits.IntakeFull
full_first admits.NoCollector is = absurd cc
full_first admits.BatchTooLarge is = absurd cc
full_first admits.CounterFull is = absurd cc
full_first admits.IntakeFull is = refl
full_first (admits.Trouble trouble) is = absurd cc

pub refused_full : (promised : Type 0) (c : ℕ) (batch : List Admitted) (v w : View) (refusal : AdmitError) → refusal ≡ admits.IntakeFull → (promised → Sees (DoesAdmit c batch (Err refusal)) v w) → Refuses promised c batch admits.IntakeFull v w
refused_full promised c batch v w refusal is sees = record { at = v; since = inl refl; sees = subst (λ (e : AdmitError). promised → Sees (DoesAdmit c batch (Err e)) v w) is sees }

pub capped_more : (a b : ℕ) → capped (capped a + b) ≡ capped (a + b)
capped_more a b = omega arith

-- a batch more
pub done_offer : (promised : Type 0) (b c : ℕ) (v : View) (turns : List Turn) (batch given : List Admitted) (old new : FeedCounts) (reply : BatchReply) (w u : View) (was mid now : OutputState)
    → b ≡ c → given ≡ batch → Admits promised b given reply w u → Since w u → Reports mid now (admitted_text reply)
    → new.admitted ≡ capped (old.admitted + admitted_in reply) → new.late ≡ capped (old.late + late_in reply) → new.refused ≡ old.refused
    → HasDone promised c v turns old w was mid → HasDone promised c v (turns ++ Offer batch ∷ []) new u was now
done_offer promised b c v turns batch given old new reply w u was mid now one same admits_ since reports admitted late refused d =
    let sums = sum_by_push admitted_in d.replies reply in
    let lates = sum_by_push late_in d.replies reply in
    record {
      replies = d.replies ++ reply ∷ [];
      makes = Offered turns d.replies w u mid now batch reply d.makes (subst (λ (k : ℕ). Admits promised k batch reply w u) one (subst (λ (t : List Admitted). Admits promised b t reply w u) same admits_)) reports;
      since = since_both v w u d.since since;
      admitted = let before = d.admitted in admitted ∙ ap (λ (n : ℕ). capped (n + admitted_in reply)) before ∙ capped_more _ _ ∙ ap capped (sym sums);
      late = let before = d.late in late ∙ ap (λ (n : ℕ). capped (n + late_in reply)) before ∙ capped_more _ _ ∙ ap capped (sym lates);
      refused = let sum = refusals_both turns (Offer batch ∷ []) in let before = d.refused in omega (arith, refused, sum, before);
    }

-- nothing more is done
pub done_no_more : (promised : Type 0) (c : ℕ) (v : View) (turns : List Turn) (counts : FeedCounts) (w : View) (was now : OutputState)
    → HasDone promised c v turns counts w was now → HasDone promised c v (turns ++ []) counts w was now
done_no_more promised c v turns counts w was now d = subst (λ (t : List Turn). HasDone promised c v t counts w was now) (sym (append-nil turns)) d

-- a record more is refused
pub done_refuse : (promised : Type 0) (c : ℕ) (v : View) (turns : List Turn) (old new : FeedCounts) (w : View) (was mid now : OutputState) (place n : ℕ) (fault : ResolveFault)
    → place ≡ capped n → Reports mid now (refused_record_line (of_record fault) place)
    → new.admitted ≡ old.admitted → new.late ≡ old.late → new.refused ≡ capped (old.refused + 1)
    → HasDone promised c v turns old w was mid → HasDone promised c v (turns ++ Refuse n fault ∷ []) new w was now
done_refuse promised c v turns old new w was mid now place n fault is reports admitted late refused d = record {
  replies = d.replies;
  makes = Refused turns d.replies w mid now n fault d.makes (subst (λ (k : ℕ). Reports mid now (refused_record_line (of_record fault) k)) is reports);
  since = d.since;
  admitted = admitted ∙ d.admitted;
  late = late ∙ d.late;
  refused = let sum = refusals_both turns (Refuse n fault ∷ []) in let before = d.refused in omega (arith, refused, sum, before);
}

-- counts of records and skipped ones don't matter for what was done
pub done_counted : (promised : Type 0) (c : ℕ) (v : View) (turns : List Turn) (old new : FeedCounts) (w : View) (was now : OutputState)
    → new.admitted ≡ old.admitted → new.late ≡ old.late → new.refused ≡ old.refused → HasDone promised c v turns old w was now → HasDone promised c v turns new w was now
done_counted promised c v turns old new w was now admitted late refused d = record { replies = d.replies; makes = d.makes; since = d.since; admitted = admitted ∙ d.admitted; late = late ∙ d.late; refused = refused ∙ d.refused }

-- nothing is done yet
pub done_none : (promised : Type 0) (c : ℕ) (v : View) (counts : FeedCounts) (was : OutputState) → counts ≡ record { records = 0; admitted = 0; late = 0; refused = 0; skipped = 0 } → HasDone promised c v [] counts v was was
done_none promised c v counts was is = record {
  replies = [];
  makes = Begun;
  since = inl refl;
  admitted = ap (λ (t : FeedCounts). t.admitted) is;
  late = ap (λ (t : FeedCounts). t.late) is;
  refused = ap (λ (t : FeedCounts). t.refused) is;
}

-- with one more admission, for which there is room, the octets of what waits are counted still
pub counted_more : (old new : Feeding) (a : Admitted) (n : ℕ) → IsCounted old → n ≡ length (admission_octets a) → new.limit ≡ old.limit → old.octets + (n + 4) ≤ old.limit.octets
    → new.gathered.items ≡ old.gathered.items ++ a ∷ [] → new.octets ≡ old.octets + (n + 4) → IsCounted new
counted_more old new a n counted len limits fits gathered octets =
    let more = octets_more old.gathered.items a in
    let same = ap batch_octets gathered in
    let was = counted.octets in
    record { octets = let e : new.octets ≡ batch_octets new.gathered.items = omega (arith, octets, more, same, was, len) in e; fit = let l = ap (λ (b : BatchLimits). b.octets) limits in omega (arith, octets, fits, l); one = let l = ap (λ (b : BatchLimits). b.octets) limits in let o = counted.one in omega (arith, o, l); few = let l = ap (λ (b : BatchLimits). b.octets) limits in let o = counted.few in omega (arith, o, l) }

-- a refused record changes nothing of what waits
pub refused_counted : (old new : Feeding) → new.octets ≡ old.octets → new.gathered.items ≡ old.gathered.items → new.limit ≡ old.limit → IsCounted old → IsCounted new
refused_counted old new octets gathered limits counted =
    let l = ap (λ (b : BatchLimits). b.octets) limits in
    record {
      octets = octets ∙ counted.octets ∙ sym (ap batch_octets gathered);
      fit = let f = counted.fit in omega (arith, octets, f, l);
      one = let o = counted.one in omega (arith, o, l);
      few = let o = counted.few in omega (arith, o, l);
    }
