-- A feed that is taken in record by record.
use Rattle.std.proofs.Common.{◌≡◌, ℕ, ◌+◌, ◌≤◌, length, length-append, suc, List, [], ◌∷◌, ◌++◌, Option, None, Result, Ok, Err, OnOk, inl, refl, sym, ap, ◌∙◌, subst, arith}
use Rattle.route_model.specs.Admission.{Admitted}
use Rattle.archive_calls.specs.Limits.{batch_octets}
use Rattle.board.specs.Views.{View}
use Rattle.mrt_records.specs.Values.{Reported}
use Rattle.resolve.specs.Tables.{Feed, LastTable}
use Rattle.resolve.specs.Records.{Gives}
use Rattle.resolve.specs.declared.fault.ResolveFault.{ResolveFault}
use Rattle.resolve.specs.declared.fault.ResolveFault.TheVariants as faults
use Rattle.resolve.specs.declared.without_hop.WithoutHop.TheVariants as rules
use Rattle.resolve.proofs.api.Feeds.{one_more}
use Rattle.service.specs.FeedTexts.{capped, skips}
use Rattle.service.specs.Outputs.{OutputState}
use Rattle.service.specs.Turns.{Turn, turns_at, waits_after, turns_for}
use Rattle.service.specs.declared.faults.FeedStop.{FeedStop}
use Rattle.service.specs.declared.feed_lines.FeedCounts.{FeedCounts}
use Rattle.service.specs.declared.limits.BatchLimits.{BatchLimits}
use Rattle.service.proofs.Following.{turns_snoc, waits_snoc, skips_both}
use Rattle.shared_feed.specs.inner.Feeding.{HasDone, IsCounted, IsAfter, TakesNext}
use Rattle.shared_feed.specs.declared.feeding.Feeding.{Feeding}
use Rattle.shared_feed.proofs.Making.{done_none}

-- what follows one more record, once its turns are made
pub after_more : (promised : Type 0) (c : ℕ) (limit : BatchLimits) (v : View) (records : List Reported) (r : Reported) (x : Result (Option Admitted) ResolveFault) (next : Feed) (old new : Feeding) (w u : View) (was mid now : OutputState)
    (b : IsAfter promised c limit v records old w was mid)
    → new.collector ≡ old.collector → new.limit ≡ old.limit → new.resolver ≡ next
    → TakesNext old.resolver next r x → (x ≡ Err faults.OutOfMemory → ⊥)
    → new.gathered.items ≡ waits_after old.limit old.gathered.items x → IsCounted new
    → HasDone promised c v (turns_for limit 0 [] b.results ++ turns_at old.limit (length b.results) old.gathered.items x) new.counts u was now
    → new.counts.records ≡ capped (suc old.counts.records) → new.counts.skipped ≡ capped (old.counts.skipped + skips (r ∷ []))
    → IsAfter promised c limit v (records ++ r ∷ []) new u was now
after_more promised c limit v records r x next old new w u was mid now b collector limits follows takes enough waits counted done counts skipped =
    let n = length b.results in
    record {
      results = b.results ++ x ∷ [];
      collector = collector ∙ b.collector;
      limited = limits ∙ b.limited;
      fed = ap (λ (t : Feed). t.collector) follows ∙ takes.collector ∙ b.fed;
      known = subst (λ (t : Feed). LastTable (records ++ r ∷ []) t.table) (sym follows) (takes.table enough records b.known);
      means = one_more rules.Refused c records b.results r x b.means (record { table = old.resolver.table; last = b.known; gives = subst (λ (t : ℕ). Gives rules.Refused t old.resolver.table r x) b.fed takes.gives; lacking = enough });
      waits = waits ∙ (λ k. waits_after (b.limited k) (b.waits k) x) ∙ sym (waits_snoc limit [] b.results x);
      counted = counted;
      done =
          subst (λ (t : List Turn). HasDone promised c v t new.counts u was now)
          ((λ k. turns_for limit 0 [] b.results ++ turns_at (b.limited k) (let e : n ≡ 0 + n = omega arith in e k) (b.waits k) x) ∙ sym (turns_snoc limit 0 [] b.results x))
          done;
      recorded = let sum = length-append records (r ∷ []) in let before = b.recorded in omega (arith, counts, sum, before);
      skipped = let sum = skips_both records (r ∷ []) in let before = b.skipped in omega (arith, skipped, sum, before);
    }

-- the same where the turns may fail
pub after_where : (t : Result (Unit {0}) FeedStop) (promised : Type 0) (c : ℕ) (limit : BatchLimits) (v : View) (records : List Reported) (r : Reported) (x : Result (Option Admitted) ResolveFault) (next : Feed) (old new : Feeding) (w u : View) (was mid now : OutputState)
    (b : IsAfter promised c limit v records old w was mid)
    → new.collector ≡ old.collector → new.limit ≡ old.limit → new.resolver ≡ next
    → TakesNext old.resolver next r x → OnOk t (x ≡ Err faults.OutOfMemory → ⊥)
    → OnOk t (new.gathered.items ≡ waits_after old.limit old.gathered.items x) → OnOk t (IsCounted new)
    → OnOk t (HasDone promised c v (turns_for limit 0 [] b.results ++ turns_at old.limit (length b.results) old.gathered.items x) new.counts u was now)
    → new.counts.records ≡ capped (suc old.counts.records) → new.counts.skipped ≡ capped (old.counts.skipped + skips (r ∷ []))
    → OnOk t (IsAfter promised c limit v (records ++ r ∷ []) new u was now)
after_where (Ok done_) promised c limit v records r x next old new w u was mid now b collector limits follows takes enough waits counted done counts skipped =
    after_more promised c limit v records r x next old new w u was mid now b collector limits follows takes enough waits counted done counts skipped
after_where (Err e) promised c limit v records r x next old new w u was mid now b collector limits follows takes enough waits counted done counts skipped = tt

-- the place of the next record
pub place_of : (promised : Type 0) (c : ℕ) (limit : BatchLimits) (v : View) (records : List Reported) (old : Feeding) (w : View) (was mid : OutputState) (b : IsAfter promised c limit v records old w was mid) → old.counts.records ≡ capped (length b.results)
place_of promised c limit v records old w was mid b = b.recorded ∙ ap capped (sym b.means.count)

-- no record came yet
pub after_none : (promised : Type 0) (c : ℕ) (limit : BatchLimits) (v : View) (feeding : Feeding) (was : OutputState)
    → feeding.collector ≡ c → feeding.limit ≡ limit → feeding.resolver.collector ≡ c → feeding.resolver.table ≡ None → feeding.gathered.items ≡ [] → feeding.octets ≡ 0
    → feeding.counts ≡ record { records = 0; admitted = 0; late = 0; refused = 0; skipped = 0 }
    → 131076 ≤ limit.octets → limit.octets ≤ 262144
    → IsAfter promised c limit v [] feeding v was was
after_none promised c limit v feeding was collector limits fed none empty octets counts one few =
    let l = ap (λ (b : BatchLimits). b.octets) limits in
    record {
      results = [];
      collector = collector;
      limited = limits;
      fed = fed;
      known = inl (tt, none);
      means = record { count = refl; each = λ n next result e f. absurd cc };
      waits = empty;
      counted = record { octets = octets ∙ sym (ap batch_octets empty); fit = omega (arith, octets, one, l); one = omega (arith, one, l); few = omega (arith, few, l) };
      done = done_none promised c v feeding.counts was counts;
      recorded = ap (λ (t : FeedCounts). t.records) counts;
      skipped = ap (λ (t : FeedCounts). t.skipped) counts;
    }
