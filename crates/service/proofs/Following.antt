-- A feed that is taken in record by record.
use Rattle.resolve.specs.declared.without_hop.WithoutHop.{WithoutHop}
use Rattle.service.specs.Outputs.{OutputState}
use Rattle.std.proofs.Common.{◌≡◌, ℕ, ◌+◌, ◌<◌, ◌≤◌, length, length-append, take, get_or, map, suc, List, [], ◌∷◌, ◌++◌, Option, None, Result, Ok, Err, OnOk, inl, refl, sym, ap, ◌∙◌, subst, append_assoc, arith}
use Rattle.std.proofs.lemmas.List.{append-nil, map-append}
use Rattle.service.proofs.Outputs.{Reports-nil}
use Rattle.route_model.proofs.api.Admissions.{take_item}
use Rattle.route_model.specs.Admission.{Admitted}
use Rattle.route_meaning.specs.History.{History}
use Rattle.mrt_records.specs.Values.{Reported, reported, Read, Skipped, Malformed}
use Rattle.mrt_records.specs.declared.item.Item.{Item}
use Rattle.resolve.specs.Tables.{Feed, LastTable}
use Rattle.resolve.specs.Records.{Gives}
use Rattle.resolve.specs.declared.fault.ResolveFault.{ResolveFault}
use Rattle.resolve.specs.declared.fault.ResolveFault.TheVariants as faults
use Rattle.service.proofs.Dropping.{meant_more, drops_more, still_out_of_memory, taken_count}
use Rattle.service.proofs.LeftOut.{lost_more}
use Rattle.archive_calls.specs.Limits.{batch_octets}
use Rattle.service.specs.Turns.{Turn, turns_at, waits_after, turns_for, waits_beyond}
use Rattle.service.specs.FeedTexts.{capped, skips}
use Rattle.service.specs.inner.Feeding.{HasDone, IsCounted, IsAfter, TakesNext}
use Rattle.service.specs.declared.feed_lines.FeedCounts.{FeedCounts}
use Rattle.service.specs.declared.feeding.Feeding.{Feeding}
use Rattle.service.specs.declared.faults.FeedStop.{FeedStop}
use Rattle.interleaving_core.proofs.api.Joining.{given_none}
use Rattle.service.specs.declared.limits.BatchLimits.{BatchLimits}
use Rattle.service.specs.Represented.{Represented}
use Rattle.service.specs.Resuming.{taken_at}

pub turns_snoc : (limit : BatchLimits) (place : ℕ) (waiting : List Admitted) (results : List (Result (Option Admitted) ResolveFault)) (r : Result (Option Admitted) ResolveFault)
    → turns_for limit place waiting (results ++ r ∷ []) ≡ turns_for limit place waiting results ++ turns_at limit (place + length results) (waits_beyond limit waiting results) r
turns_snoc limit place waiting [] r =
    append-nil (turns_at limit place waiting r) ∙ ap (λ (n : ℕ). turns_at limit n waiting r) (let e : place ≡ place + 0 = omega arith in e)
turns_snoc limit place waiting (q ∷ results) r =
    ap (λ (t : List Turn). turns_at limit place waiting q ++ t)
    (turns_snoc limit (suc place) (waits_after limit waiting q) results r
    ∙ ap (λ (n : ℕ). turns_for limit (suc place) (waits_after limit waiting q) results ++ turns_at limit n (waits_beyond limit (waits_after limit waiting q) results) r)
    (let e : suc place + length results ≡ place + suc (length results) = omega arith in e))
    ∙ sym (append_assoc (turns_at limit place waiting q) (turns_for limit (suc place) (waits_after limit waiting q) results) _)

pub waits_snoc : (limit : BatchLimits) (waiting : List Admitted) (results : List (Result (Option Admitted) ResolveFault)) (r : Result (Option Admitted) ResolveFault)
    → waits_beyond limit waiting (results ++ r ∷ []) ≡ waits_after limit (waits_beyond limit waiting results) r
waits_snoc limit waiting [] r = refl
waits_snoc limit waiting (q ∷ results) r = waits_snoc limit (waits_after limit waiting q) results r

pub skips_both : (xs ys : List Reported) → skips (xs ++ ys) ≡ skips xs + skips ys
skips_both [] ys = omega arith
skips_both (Skipped kind subtype ∷ xs) ys = let ih = skips_both xs ys in omega (arith, ih)
skips_both (Read reading ∷ xs) ys = skips_both xs ys
skips_both (Malformed kind subtype ∷ xs) ys = skips_both xs ys

-- what comes after one more record, once its turns are made
pub after_more : (rule : WithoutHop) (c dropped : ℕ) (limit : BatchLimits) (h : History) (records : List Reported) (r : Reported) (x : Result (Option Admitted) ResolveFault) (next : Feed) (left : ℕ) (old new : Feeding) (archive later : Represented) (was mid now : OutputState)
    (b : IsAfter rule c dropped limit h records old archive was mid)
    → new.collector ≡ old.collector → new.limit ≡ old.limit → new.rule ≡ old.rule → new.resolver ≡ next → new.dropping ≡ left
    → TakesNext old.rule old.resolver next old.dropping left r x → (x ≡ Err faults.OutOfMemory → ⊥)
    → new.gathered.items ≡ waits_after old.limit old.gathered.items x → IsCounted new
    → HasDone c h (turns_for limit 0 [] b.results ++ turns_at old.limit (length b.results) old.gathered.items x) new.counts later was now
    → new.counts.records ≡ capped (suc old.counts.records) → new.counts.skipped ≡ capped (old.counts.skipped + skips (r ∷ []))
    → IsAfter rule c dropped limit h (records ++ r ∷ []) new later was now
after_more rule c dropped limit h records r x next left old new archive later was mid now b collector limits rules follows leaves takes enough waits counted done counts skipped =
    let some : takes.meaning ≡ Err faults.OutOfMemory → ⊥ = λ e. enough (takes.taken_is ∙ still_out_of_memory old.dropping takes.meaning e) in
    let n = length b.results in
    record {
      results = b.results ++ x ∷ [];
      collector = collector ∙ b.collector;
      limited = limits ∙ b.limited;
      ruled = rules ∙ b.ruled;
      fed = ap (λ (t : Feed). t.collector) follows ∙ takes.collector ∙ b.fed;
      known = subst (λ (t : Feed). LastTable (records ++ r ∷ []) t.table) (sym follows) (takes.table some records b.known);
      means =
          meant_more rule c dropped records b.results r takes.meaning x b.means
          (record {
            table = old.resolver.table;
            last = b.known;
            gives = subst (λ (w : WithoutHop). Gives w c old.resolver.table r takes.meaning) b.ruled (subst (λ (t : ℕ). Gives old.rule t old.resolver.table r takes.meaning) b.fed takes.gives);
            lacking = some;
          })
          (takes.taken_is ∙ ap (λ (t : ℕ). taken_at t takes.meaning) b.drops);
      drops = drops_more dropped old.dropping new.dropping b.means.meanings takes.meaning b.drops (leaves ∙ takes.left_is);
      lost = ap (λ (t : Feed). t.left_out) follows ∙ lost_more records b.means.meanings r takes.meaning old.resolver.left_out next.left_out b.means.means.count b.lost takes.lost;
      waits = waits ∙ (λ k. waits_after (b.limited k) (b.waits k) x) ∙ sym (waits_snoc limit [] b.results x);
      counted = counted;
      done =
          subst (λ (t : List Turn). HasDone c h t new.counts later was now)
          ((λ k. turns_for limit 0 [] b.results ++ turns_at (b.limited k) (let e : n ≡ 0 + n = omega arith in e k) (b.waits k) x) ∙ sym (turns_snoc limit 0 [] b.results x))
          done;
      recorded = let sum = length-append records (r ∷ []) in let before = b.recorded in omega (arith, counts, sum, before);
      skipped = let sum = skips_both records (r ∷ []) in let before = b.skipped in omega (arith, skipped, sum, before);
    }

-- the same where the turns may fail
pub after_where : (t : Result (Unit {0}) FeedStop) (rule : WithoutHop) (c dropped : ℕ) (limit : BatchLimits) (h : History) (records : List Reported) (r : Reported) (x : Result (Option Admitted) ResolveFault) (next : Feed) (left : ℕ) (old new : Feeding) (archive later : Represented) (was mid now : OutputState)
    (b : IsAfter rule c dropped limit h records old archive was mid)
    → new.collector ≡ old.collector → new.limit ≡ old.limit → new.rule ≡ old.rule → new.resolver ≡ next → new.dropping ≡ left
    → TakesNext old.rule old.resolver next old.dropping left r x → OnOk t (x ≡ Err faults.OutOfMemory → ⊥)
    → OnOk t (new.gathered.items ≡ waits_after old.limit old.gathered.items x) → OnOk t (IsCounted new)
    → OnOk t (HasDone c h (turns_for limit 0 [] b.results ++ turns_at old.limit (length b.results) old.gathered.items x) new.counts later was now)
    → new.counts.records ≡ capped (suc old.counts.records) → new.counts.skipped ≡ capped (old.counts.skipped + skips (r ∷ []))
    → OnOk t (IsAfter rule c dropped limit h (records ++ r ∷ []) new later was now)
after_where (Ok done_) rule c dropped limit h records r x next left old new archive later was mid now b collector limits rules follows leaves takes enough waits counted done counts skipped =
    after_more rule c dropped limit h records r x next left old new archive later was mid now b collector limits rules follows leaves takes enough waits counted done counts skipped
after_where (Err e) rule c dropped limit h records r x next left old new archive later was mid now b collector limits rules follows leaves takes enough waits counted done counts skipped = tt

-- the place of the next record
pub place_of : (rule : WithoutHop) (c dropped : ℕ) (limit : BatchLimits) (h : History) (records : List Reported) (old : Feeding) (archive : Represented) (was mid : OutputState) (b : IsAfter rule c dropped limit h records old archive was mid) → old.counts.records ≡ capped (length b.results)
place_of rule c dropped limit h records old archive was mid b = b.recorded ∙ ap capped (sym (taken_count rule c dropped records b.results b.means))

-- counts of records and skipped ones say nothing of what was done
pub done_counted : (c : ℕ) (h : History) (turns : List Turn) (old new : FeedCounts) (archive : Represented) (was now : OutputState)
    → new.admitted ≡ old.admitted → new.late ≡ old.late → new.refused ≡ old.refused → HasDone c h turns old archive was now → HasDone c h turns new archive was now
done_counted c h turns old new archive was now admitted late refused d = record { represented = d.represented; wrote = d.wrote; admitted = admitted ∙ d.admitted; late = late ∙ d.late; refused = refused ∙ d.refused; there = d.there }

-- no record came yet
pub after_none : (rule : WithoutHop) (c dropped : ℕ) (limit : BatchLimits) (h : History) (archive : Represented) (feeding : Feeding) (was : OutputState)
    → feeding.collector ≡ c → feeding.limit ≡ limit → feeding.rule ≡ rule → feeding.resolver.collector ≡ c → feeding.resolver.table ≡ None → feeding.resolver.left_out ≡ 0 → feeding.gathered.items ≡ [] → feeding.octets ≡ 0 → feeding.dropping ≡ dropped
    → feeding.counts ≡ record { records = 0; admitted = 0; late = 0; refused = 0; skipped = 0 }
    → 131076 ≤ feeding.limit.octets → feeding.limit.octets ≤ 262144
    → archive h → IsAfter rule c dropped limit h [] feeding archive was was
after_none rule c dropped limit h archive feeding was collector limits rules fed none unlost empty octets drops counts one few represented = record {
  results = [];
  collector = collector;
  limited = limits;
  ruled = rules;
  fed = fed;
  known = inl (tt, none);
  means = record { meanings = []; means = record { count = refl; each = λ n next result e f. absurd cc }; taken = refl };
  drops = drops;
  lost = unlost;
  waits = empty;
  counted = record { octets = octets ∙ sym (ap batch_octets empty); fit = omega (arith, octets, one); one = one; few = few };
  done = record {
    represented = record { now = h; are = ap (λ (t : History). t.intakes) (sym (given_none h c)); represented = represented };
    wrote = Reports-nil was;
    admitted = ap (λ (t : FeedCounts). t.admitted) counts;
    late = ap (λ (t : FeedCounts). t.late) counts;
    refused = ap (λ (t : FeedCounts). t.refused) counts;
    there = λ some. absurd (some refl);
  };
  recorded = ap (λ (t : FeedCounts). t.records) counts;
  skipped = ap (λ (t : FeedCounts). t.skipped) counts;
}

pub on_ok : {E : Type 0} (P : Type 0) (r : Result (Unit {0}) E) → P → OnOk r P
on_ok P (Ok x) p = p
on_ok P (Err e) p = tt

pub on_ok_more : {E : Type 0} (P Q : Type 0) (r : Result (Unit {0}) E) → OnOk r P → (P → Q) → OnOk r Q
on_ok_more P Q (Ok x) p f = f p
on_ok_more P Q (Err e) p f = tt

pub both_ok : {E : Type 0} (P Q : Type 0) (r : Result (Unit {0}) E) → OnOk r P → OnOk r Q → OnOk r (P × Q)
both_ok P Q (Ok x) p q = (p, q)
both_ok P Q (Err e) p q = tt

-- a refused record changes nothing of what waits
pub refused_counted : (old new : Feeding) → new.octets ≡ old.octets → new.gathered.items ≡ old.gathered.items → new.limit ≡ old.limit → IsCounted old → IsCounted new
refused_counted old new octets gathered limits counted =
    let l = ap (λ (b : BatchLimits). b.octets) limits in
    record {
      octets = octets ∙ counted.octets ∙ sym (ap batch_octets gathered);
      fit = let f = counted.fit in omega (arith, octets, f, l);
      one = let o = counted.one in omega (arith, o, l);
      few = let o = counted.few in omega (arith, o, l);
    }

pub ok_is_none : (o : Option Admitted) → (◌≡◌ {A = Result (Option Admitted) ResolveFault} (Ok o) (Err faults.OutOfMemory)) → ⊥
ok_is_none o e = absurd cc

-- what is refused for lack of memory isn't reported as the record's fault
pub remembered : (t : Result (Unit {0}) FeedStop) (fault : ResolveFault) → OnOk t (fault ≡ faults.OutOfMemory → ⊥) → OnOk t ((◌≡◌ {A = Result (Option Admitted) ResolveFault} (Err fault) (Err faults.OutOfMemory)) → ⊥)
remembered (Ok x) fault enough = λ e. enough cc
remembered (Err x) fault enough = tt

-- what one more record is reported as
pub reported_more : (items : List Item) (i : ℕ) (item : Item) (before : List Reported) → i < length items → item ≡ get_or items i item
    → (before ++ map reported (take i items)) ++ reported item ∷ [] ≡ before ++ map reported (take (i + 1) items)
reported_more items i item before h is =
    append_assoc before (map reported (take i items)) (reported item ∷ [])
    ∙ ap (λ (t : List Reported). before ++ t) (sym (ap (map reported) (take_item items i item h is) ∙ map-append reported (take i items) (item ∷ [])))
