-- Feeds that are given up.
use Rattle.std.proofs.Common.{◌≡◌, ℕ, ◌+◌, ◌<◌, ◌≤◌, List, [], ◌∷◌, ◌++◌, length, map, take, drop, get_or, Option, None, Result, Ok, Err, IfErr, OnErr, inl, refl, sym, ap, ◌∙◌, subst, append_assoc, arith}
use Rattle.std.specs.List.{AllByRecursion, slice_get}
use Rattle.resolve.specs.declared.without_hop.WithoutHop.{WithoutHop}
use Rattle.service.specs.Outputs.{OutputState, Reports}
use Rattle.service.proofs.Outputs.{Reports-trans}
use Rattle.std.proofs.lemmas.List.{append-nil, map-append, take-append-drop}
use Rattle.route_model.specs.Admission.{Admitted}
use Rattle.route_model.specs.Sequence.{Each, joined}
use Rattle.route_model.proofs.api.Sequences.{joined-append}
use Rattle.route_model.proofs.api.Admissions.{take_item}
use Rattle.route_meaning.specs.History.{History}
use Rattle.mrt_records.specs.Values.{Reported, reported}
use Rattle.mrt_records.specs.Records.{IsRecord}
use Rattle.mrt_records.specs.Streams.{IsItem, GainsFrames}
use Rattle.mrt_records.specs.declared.item.Item.{Item}
use Rattle.mrt_records.proofs.api.Streams.{part_begins_none}
use Rattle.interleaving_core.specs.Steps.{with_batch, given, NothingToApply}
use Rattle.archive_calls.specs.Limits.{batch_octets}
use Rattle.service.specs.inner.Taking.{IsTaken}
use Rattle.archive_calls.specs.Does.{IsRefusal}
use Rattle.archive_calls.specs.declared.refusal.AdmitError.{AdmitError}
use Rattle.archive_calls.specs.declared.refusal.AdmitError.TheVariants as admits
use Rattle.resolve.specs.Records.{Gives}
use Rattle.resolve.specs.declared.fault.ResolveFault.{ResolveFault}
use Rattle.resolve.specs.declared.fault.ResolveFault.TheVariants as faults
use Rattle.resolve.specs.Tables.{Feed}
use Rattle.service.proofs.Dropping.{meant_more, still_out_of_memory}
use Rattle.service.specs.Resuming.{MeansFrom, taken_at}
use Rattle.service.specs.Faults.{of_stop}
use Rattle.service.specs.Turns.{Turn, Offer, offered, turns_at, turns_for, waits_beyond, last_turns}
use Rattle.service.specs.Refusals.{refusal_line}
use Rattle.service.specs.Feeds.{IsReason, IsGivenUp, Sums}
use Rattle.service.specs.inner.Feeding.{of_admit, HasDone, IsAfter, TakesNext, Reads, GivesUp, StopsAmong, StopsWithin}
use Rattle.service.specs.declared.feed_lines.FeedCounts.{FeedCounts}
use Rattle.service.specs.declared.feeding.Feeding.{Feeding}
use Rattle.service.specs.declared.faults.FeedStop.{FeedStop}
use Rattle.service.specs.declared.faults.FeedStop.TheVariants as stops
use Rattle.service.proofs.Turning.{as_many}
use Rattle.service.proofs.Following.{turns_snoc}
use Rattle.service.specs.declared.limits.BatchLimits.{BatchLimits}
use Rattle.service.specs.Represented.{Represented}
use Rattle.archive_calls.specs.declared.refusal.Trouble.TheVariants as troubles

-- a reason stays one where more turns would have followed
reason_more : (c : ℕ) (h : History) (made unmade later : List Turn) (why : FeedStop) → IsReason c h made unmade why → IsReason c h made (unmade ++ later) why
reason_more c h made unmade later stops.NoCollector r = r
reason_more c h made unmade later stops.CounterFull r = (r.0, r.1 ++ later, ap (λ (t : List Turn). t ++ later) r.2, r.3)
reason_more c h made unmade later stops.IntakeFull r = r
reason_more c h made unmade later (stops.Trouble trouble) r = tt
reason_more c h made unmade later stops.Outside r = tt

pub gives_more : (c : ℕ) (h : History) (turns later : List Turn) (archive : Represented) (was now : OutputState) (why : FeedStop) → GivesUp c h turns archive was now why → GivesUp c h (turns ++ later) archive was now why
gives_more c h turns later archive was now why g = record {
  made = g.made;
  unmade = g.unmade ++ later;
  parts = ap (λ (t : List Turn). t ++ later) g.parts ∙ append_assoc g.made g.unmade later;
  represented = g.represented;
  reason = reason_more c h g.made g.unmade later why g.reason;
  wrote = g.wrote;
  there = g.there;
}

-- all of these turns were made and written, and memory ran out for what comes then, or the device failed
pub gives_all : (c : ℕ) (h : History) (turns : List Turn) (counts : FeedCounts) (archive : Represented) (was now : OutputState) (why : FeedStop) → IsReason c h turns [] why → HasDone c h turns counts archive was now → GivesUp c h turns archive was now why
gives_all c h turns counts archive was now why reason d = record { made = turns; unmade = []; parts = sym (append-nil turns); represented = d.represented; reason = reason; wrote = d.wrote; there = d.there }

-- memory ran out for a record that is refused: its line isn't written
pub gives_out_of_memory : (t : Result (Unit {0}) FeedStop) (c : ℕ) (h : History) (turns : List Turn) (counts : FeedCounts) (archive : Represented) (was mid now : OutputState)
    → IfErr t (λ why. why ≡ stops.Trouble troubles.OutOfMemory) → OnErr t (now ≡ mid) → HasDone c h turns counts archive was mid → IfErr t (GivesUp c h turns archive was now)
gives_out_of_memory (Ok done_) c h turns counts archive was mid now lacking unreported d = tt
gives_out_of_memory (Err why) c h turns counts archive was mid now lacking unreported d =
    subst (λ (e : FeedStop). GivesUp c h turns archive was now e) (sym lacking) (subst (λ (o : OutputState). GivesUp c h turns archive was o (stops.Trouble troubles.OutOfMemory)) (sym unreported) (gives_all c h turns counts archive was mid (stops.Trouble troubles.OutOfMemory) tt d))

not_outside : (◌≡◌ {A = FeedStop} (stops.Trouble troubles.OutOfMemory) stops.Outside) → ⊥
not_outside e = absurd cc

pub never_outside : (t : Result (Unit {0}) FeedStop) → IfErr t (λ why. why ≡ stops.Trouble troubles.OutOfMemory) → t ≡ Err stops.Outside → ⊥
never_outside (Ok done_) lacking e = absurd cc
never_outside (Err why) lacking e = let is : why ≡ stops.Outside = cc in not_outside (sym lacking ∙ is)

-- why a batch wasn't taken
why_not : (b c : ℕ) (h : History) (turns : List Turn) (batch given_ : List Admitted) (at after : History) (e : AdmitError) → b ≡ c → given_ ≡ batch → batch_octets batch ≤ 262144
    → at.intakes ≡ (given h c (offered turns)).intakes → IsRefusal at b given_ e → (e ≡ admits.IntakeFull → NothingToApply at)
    → IsReason c h turns (Offer batch ∷ []) (of_admit e)
why_not b c h turns batch given_ at after admits.NoCollector one same fit alike r full = λ here. r (let n = as_many c (with_batch (offered turns)) h.intakes in let m = ap length alike in omega (arith, n, m, here, one))
why_not b c h turns batch given_ at after admits.BatchTooLarge one same fit alike r full = let n = ap batch_octets same in absurd (omega (arith, r, fit, n))
why_not b c h turns batch given_ at after admits.CounterFull one same fit alike r full = (
  batch,
  [],
  refl,
  record { intake = r.intake; here = (λ k. slice_get (sym alike k) (sym one k)) ∙ r.here; above = let n = ap length same in let over = r.above in omega (arith, over, n) },
)
why_not b c h turns batch given_ at after admits.IntakeFull one same fit alike r full = ((let n = as_many c (with_batch (offered turns)) h.intakes in let m = ap length alike in omega (arith, n, m, r, one)), at, alike, full refl)
why_not b c h turns batch given_ at after (admits.Trouble trouble) one same fit alike r full = tt

-- a batch wasn't taken
pub gives_refused : (b c : ℕ) (h : History) (turns : List Turn) (batch given_ : List Admitted) (counts : FeedCounts) (archive later : Represented) (was now : OutputState) (e : AdmitError)
    → b ≡ c → given_ ≡ batch → batch_octets batch ≤ 262144
    → ((g : History) → archive g → IsTaken later b given_ (Err e) g)
    → HasDone c h turns counts archive was now → GivesUp c h (turns ++ Offer batch ∷ []) later was now (of_admit e)
gives_refused b c h turns batch given_ counts archive later was now e one same fit takes d =
    let w = d.represented in
    let t = takes w.now w.represented in
    let alike = t.intakes ∙ w.are in
    record {
      made = turns;
      unmade = Offer batch ∷ [];
      parts = refl;
      represented = record { now = t.after; are = ap (λ (x : History). x.intakes) t.done.0 ∙ alike; represented = t.represented };
      reason = why_not b c h turns batch given_ t.at t.after e one same fit alike t.done.1 (λ is. t.full (ap Err is));
      wrote = d.wrote;
      there = d.there;
    }

-- the feed is given up at this record, whose meaning is known
pub stops_at : (t : Result (Unit {0}) FeedStop) (rule : WithoutHop) (c dropped : ℕ) (limit : BatchLimits) (h : History) (records : List Reported) (item : Item) (x : Result (Option Admitted) ResolveFault) (next : Feed) (left : ℕ) (old : Feeding) (archive later : Represented) (was mid now : OutputState)
    (b : IsAfter rule c dropped limit h records old archive was mid)
    → TakesNext old.rule old.resolver next old.dropping left (reported item) x → (x ≡ Err faults.OutOfMemory → ⊥)
    → IfErr t (GivesUp c h (turns_for limit 0 [] b.results ++ turns_at old.limit (length b.results) old.gathered.items x) later was now)
    → IfErr t (StopsAmong rule c dropped limit h records (item ∷ []) later was now)
stops_at (Ok done_) rule c dropped limit h records item x next left old archive later was mid now b takes enough g = tt
stops_at (Err why) rule c dropped limit h records item x next left old archive later was mid now b takes enough g =
    let n = length b.results in
    record {
      front = item ∷ [];
      back = [];
      parts = refl;
      results = b.results ++ x ∷ [];
      means =
          meant_more rule c dropped records b.results (reported item) takes.meaning x b.means
          (record {
            table = old.resolver.table;
            last = b.known;
            gives = subst (λ (w : WithoutHop). Gives w c old.resolver.table (reported item) takes.meaning) b.ruled (subst (λ (k : ℕ). Gives old.rule k old.resolver.table (reported item) takes.meaning) b.fed takes.gives);
            lacking = λ e. enough (takes.taken_is ∙ still_out_of_memory old.dropping takes.meaning e);
          })
          (takes.taken_is ∙ ap (λ (k : ℕ). taken_at k takes.meaning) b.drops);
      gives_up =
          subst (λ (k : List Turn). GivesUp c h k later was now why)
          ((λ k. turns_for limit 0 [] b.results ++ turns_at (b.limited k) (let e : n ≡ 0 + n = omega arith in e k) (b.waits k) x) ∙ sym (turns_snoc limit 0 [] b.results x)) g;
    }

-- the feed is given up before this record has a meaning
pub stops_before : (t : Result (Unit {0}) FeedStop) (rule : WithoutHop) (c dropped : ℕ) (limit : BatchLimits) (h : History) (records : List Reported) (item : Item) (old : Feeding) (archive later : Represented) (was mid now : OutputState)
    (b : IsAfter rule c dropped limit h records old archive was mid)
    → IfErr t (GivesUp c h (turns_for limit 0 [] b.results) later was now) → IfErr t (StopsAmong rule c dropped limit h records (item ∷ []) later was now)
stops_before (Ok done_) rule c dropped limit h records item old archive later was mid now b g = tt
stops_before (Err why) rule c dropped limit h records item old archive later was mid now b g =
    record { front = []; back = item ∷ []; parts = refl; results = b.results; means = subst (λ (t : List Reported). MeansFrom rule c dropped t b.results) (sym (append-nil records)) b.means; gives_up = g }

-- the feed is given up at one of the items, after those that were taken
pub stops_among : (rule : WithoutHop) (c dropped : ℕ) (limit : BatchLimits) (h : History) (records : List Reported) (items : List Item) (i : ℕ) (item : Item) (archive : Represented) (was now : OutputState) (why : FeedStop)
    → i < length items → item ≡ get_or items i item → StopsAmong rule c dropped limit h (records ++ map reported (take i items)) (item ∷ []) archive was now why → StopsAmong rule c dropped limit h records items archive was now why
stops_among rule c dropped limit h records items i item archive was now why lt is s =
    let first = take i items in
    let rest = drop (i + 1) items in
    record {
      front = first ++ s.front;
      back = s.back ++ rest;
      parts =
          sym (take-append-drop (i + 1) items) ∙ ap (λ (t : List Item). t ++ rest) (take_item items i item lt is) ∙ append_assoc first (item ∷ []) rest
          ∙ ap (λ (t : List Item). first ++ (t ++ rest)) s.parts ∙ ap (λ (t : List Item). first ++ t) (append_assoc s.front s.back rest) ∙ sym (append_assoc first s.front (s.back ++ rest));
      results = s.results;
      means =
          subst (λ (t : List Reported). MeansFrom rule c dropped t s.results)
          (append_assoc records (map reported first) (map reported s.front) ∙ ap (λ (t : List Reported). records ++ t) (sym (map-append reported first s.front))) s.means;
      gives_up = s.gives_up;
    }

each_front : {A B : Type 0} (R : A → B → Type 0) (xs : List A) (ys zs : List B) → Each R xs (ys ++ zs) → (us vs : List A) × (xs ≡ us ++ vs) × Each R us ys
each_front R xs [] zs e = ([], xs, refl, tt)
each_front R [] (y ∷ ys) zs e = absurd e
each_front R (x ∷ xs) (y ∷ ys) zs e = let r = each_front R xs ys zs e.1 in (x ∷ r.0, r.1, ap (λ (t : List _). x ∷ t) r.2, (e.0, r.3))

all_front : {A : Type 0} (P : A → Type 0) (xs ys : List A) → AllByRecursion P (xs ++ ys) → AllByRecursion P xs
all_front P [] ys p = tt
all_front P (x ∷ xs) ys p = (p.0, all_front P xs ys p.1)

-- the octets of the first items are whole records
framed_front : (bytes rest : List ℕ) (front back : List Item) → GainsFrames bytes rest [] (front ++ back) → (seen later : List ℕ) × (bytes ≡ seen ++ later) × GainsFrames seen [] [] front
framed_front bytes rest front back g =
    let f = each_front IsItem g.0 front back (subst (λ (t : List Item). Each IsItem g.0 t) (sym g.2.2) g.2.1) in
    let us = f.0 in
    let vs = f.1 in (
      joined us,
      joined vs ++ rest,
      g.1.whole ∙ ap (λ (t : List (List ℕ)). joined t ++ rest) f.2 ∙ ap (λ (t : List ℕ). t ++ rest) (joined-append us vs) ∙ append_assoc (joined us) (joined vs) rest,
      (us, record { whole = sym (append-nil (joined us)); each = all_front IsRecord us vs (subst (λ (t : List (List ℕ)). AllByRecursion IsRecord t) f.2 g.1.each); ended = part_begins_none [] (inl (omega arith)) }, (front, f.3, refl)),
    )

-- the feed is given up among the items of the whole records of the octets
pub stops_within : (rule : WithoutHop) (c dropped : ℕ) (limit : BatchLimits) (h : History) (bytes rest : List ℕ) (before items : List Item) (archive : Represented) (was now : OutputState) (why : FeedStop)
    → GainsFrames bytes rest [] (before ++ items) → StopsAmong rule c dropped limit h (map reported before) items archive was now why → StopsWithin rule c dropped limit h bytes archive was now why
stops_within rule c dropped limit h bytes rest before items archive was now why framed s =
    let f = framed_front bytes rest (before ++ s.front) s.back (subst (λ (t : List Item). GainsFrames bytes rest [] t) (ap (λ (t : List Item). before ++ t) s.parts ∙ sym (append_assoc before s.front s.back)) framed) in
    record {
      seen = f.0;
      later = f.1;
      parts = f.2;
      items = before ++ s.front;
      framed = f.3;
      results = s.results;
      means = subst (λ (t : List Reported). MeansFrom rule c dropped t s.results) (sym (map-append reported before s.front)) s.means;
      gives_up = gives_more c h (turns_for limit 0 [] s.results) (last_turns (waits_beyond limit [] s.results)) archive was now why s.gives_up;
    }

-- what comes after is left too
pub within_more : (rule : WithoutHop) (c dropped : ℕ) (limit : BatchLimits) (h : History) (bytes more : List ℕ) (archive : Represented) (was now : OutputState) (why : FeedStop) → StopsWithin rule c dropped limit h bytes archive was now why → StopsWithin rule c dropped limit h (bytes ++ more) archive was now why
within_more rule c dropped limit h bytes more archive was now why s =
    record { seen = s.seen; later = s.later ++ more; parts = ap (λ (t : List ℕ). t ++ more) s.parts ∙ append_assoc s.seen s.later more; items = s.items; framed = s.framed; results = s.results; means = s.means; gives_up = s.gives_up }

-- the feed is given up after all that was read, and nothing of it is unreported
pub stops_after : (rule : WithoutHop) (c dropped : ℕ) (limit : BatchLimits) (h : History) (bytes rest : List ℕ) (feeding : Feeding) (archive : Represented) (was now : OutputState) (why : FeedStop)
    → ((made : List Turn) → IsReason c h made [] why) → Reads rule c dropped limit h bytes rest feeding archive was now → StopsWithin rule c dropped limit h bytes archive was now why
stops_after rule c dropped limit h bytes rest feeding archive was now why reason r =
    let f = framed_front bytes rest r.items [] (subst (λ (t : List Item). GainsFrames bytes rest [] t) (sym (append-nil r.items)) r.framed) in
    let b = r.beyond in
    let turns = turns_for limit 0 [] b.results in
    record {
      seen = f.0;
      later = f.1;
      parts = f.2;
      items = r.items;
      framed = f.3;
      results = b.results;
      means = b.means;
      gives_up = gives_more c h turns (last_turns (waits_beyond limit [] b.results)) archive was now why (gives_all c h turns feeding.counts archive was now why (reason turns) b.done);
    }

-- the feed is given up while its last batch is offered, or its end reported
pub stops_last : (rule : WithoutHop) (c dropped : ℕ) (limit : BatchLimits) (h : History) (bytes rest : List ℕ) (feeding : Feeding) (archive later : Represented) (was mid now : OutputState) (why : FeedStop)
    (r : Reads rule c dropped limit h bytes rest feeding archive was mid)
    → GivesUp c h (turns_for limit 0 [] r.beyond.results ++ last_turns feeding.gathered.items) later was now why → StopsWithin rule c dropped limit h bytes later was now why
stops_last rule c dropped limit h bytes rest feeding archive later was mid now why r g =
    let f = framed_front bytes rest r.items [] (subst (λ (t : List Item). GainsFrames bytes rest [] t) (sym (append-nil r.items)) r.framed) in
    let b = r.beyond in
    record {
      seen = f.0;
      later = f.1;
      parts = f.2;
      items = r.items;
      framed = f.3;
      results = b.results;
      means = b.means;
      gives_up = subst (λ (t : List Turn). GivesUp c h t later was now why) (ap (λ (t : List Admitted). turns_for limit 0 [] b.results ++ last_turns t) b.waits) g;
    }

-- the feed is given up, and the refusal was written
pub given_up_reported : (rule : WithoutHop) (c dropped : ℕ) (limit : BatchLimits) (h : History) (bytes : List ℕ) (sums : Sums) (archive : Represented) (was mid now : OutputState) (why : FeedStop)
    → StopsWithin rule c dropped limit h bytes archive was mid why → Reports mid now (refusal_line (of_stop why)) → sums.counts ≡ None → IsGivenUp rule c dropped limit h bytes why sums archive was now
given_up_reported rule c dropped limit h bytes sums archive was mid now why s line none =
    let g = s.gives_up in
    record {
      seen = s.seen;
      later = s.later;
      parts = s.parts;
      records = map reported s.items;
      results = s.results;
      feed = record { items = s.items; framed = s.framed; reported_are = refl; means = s.means };
      made = g.made;
      unmade = g.unmade;
      turns = g.parts;
      represented = g.represented;
      reason = g.reason;
      wrote = Reports-trans was mid now _ (refusal_line (of_stop why)) g.wrote line;
      uncounted = none;
      there = g.there;
    }
