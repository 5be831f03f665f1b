-- Feeds that are given up.
use Rattle.std.proofs.Common.{◌≡◌, ℕ, ◌+◌, ◌<◌, List, [], ◌∷◌, ◌++◌, length, map, take, drop, get_or, Option, Result, Ok, Err, IfErr, OnErr, inl, inr, refl, sym, ap, ◌∙◌, subst, append_assoc, append-nil, arith}
use Rattle.std.specs.List.{AllByRecursion}
use Rattle.std.proofs.lemmas.List.{map-append, take-append-drop}
use Rattle.route_model.specs.Admission.{Admitted}
use Rattle.route_model.specs.Sequence.{Each, joined}
use Rattle.route_model.proofs.api.Sequences.{joined-append}
use Rattle.route_model.proofs.api.Admissions.{take_item}
use Rattle.archive_calls.specs.declared.refusal.Trouble.TheVariants as troubles
use Rattle.board.specs.Views.{View}
use Rattle.mrt_records.specs.Values.{Reported, reported}
use Rattle.mrt_records.specs.Records.{IsRecord}
use Rattle.mrt_records.specs.Streams.{IsItem, GainsFrames}
use Rattle.mrt_records.specs.declared.item.Item.{Item}
use Rattle.mrt_records.proofs.api.Streams.{part_begins_none}
use Rattle.query_threads.specs.Seeing.{Since}
use Rattle.resolve.specs.Tables.{Feed}
use Rattle.resolve.specs.Records.{Gives}
use Rattle.resolve.specs.Meanings.{Means}
use Rattle.resolve.specs.declared.fault.ResolveFault.{ResolveFault}
use Rattle.resolve.specs.declared.fault.ResolveFault.TheVariants as faults
use Rattle.resolve.specs.declared.without_hop.WithoutHop.TheVariants as rules
use Rattle.resolve.proofs.api.Feeds.{one_more}
use Rattle.service.specs.Faults.{of_stop}
use Rattle.service.specs.Outputs.{OutputState, Reports}
use Rattle.service.specs.Refusals.{refusal_line}
use Rattle.service.specs.Resuming.{MeansFrom}
use Rattle.service.specs.Turns.{Turn, Offer, turns_at, turns_for, waits_beyond, last_turns}
use Rattle.service.specs.declared.faults.FeedStop.{FeedStop}
use Rattle.service.specs.declared.faults.FeedStop.TheVariants as stops
use Rattle.service.specs.declared.feed_lines.FeedCounts.{FeedCounts}
use Rattle.service.specs.declared.limits.BatchLimits.{BatchLimits}
use Rattle.service.proofs.Dropping.{all_taken}
use Rattle.service.proofs.Following.{turns_snoc}
use Rattle.shared_feed.specs.Offers.{IsNotTaken}
use Rattle.shared_feed.specs.SharedFeeds.{IsReason, IsGivenUp}
use Rattle.shared_feed.specs.inner.Feeding.{HasDone, IsAfter, TakesNext, Reads, GivesUp, StopsAmong, StopsWithin}
use Rattle.shared_feed.specs.declared.feeding.Feeding.{Feeding}
use Rattle.shared_feed.proofs.Making.{since_both}

-- a reason stays one where more turns would have followed
reason_more : (promised : Type 0) (c : ℕ) (unmade later : List Turn) (v w : View) (why : FeedStop) → IsReason promised c unmade v w why → IsReason promised c (unmade ++ later) v w why
reason_more promised c unmade later v w stops.NoCollector r = (r.0, r.1 ++ later, ap (λ (t : List Turn). t ++ later) r.2, r.3)
reason_more promised c unmade later v w stops.CounterFull r = (r.0, r.1 ++ later, ap (λ (t : List Turn). t ++ later) r.2, r.3)
reason_more promised c unmade later v w stops.IntakeFull r = (r.0, r.1 ++ later, ap (λ (t : List Turn). t ++ later) r.2, r.3)
reason_more promised c unmade later v w (stops.Trouble trouble) r = tt
reason_more promised c unmade later v w stops.Outside r = tt

-- why the next turns aren't made where the next batch isn't taken
pub reason_of : (promised : Type 0) (c : ℕ) (batch : List Admitted) (v w : View) (why : FeedStop) → IsNotTaken promised c batch v w why → IsReason promised c (Offer batch ∷ []) v w why
reason_of promised c batch v w stops.NoCollector r = (batch, [], refl, r)
reason_of promised c batch v w stops.CounterFull r = (batch, [], refl, r)
reason_of promised c batch v w stops.IntakeFull r = (batch, [], refl, r)
reason_of promised c batch v w (stops.Trouble trouble) r = tt
reason_of promised c batch v w stops.Outside r = tt

pub gives_more : (promised : Type 0) (c : ℕ) (v : View) (turns later : List Turn) (w : View) (was now : OutputState) (why : FeedStop) → GivesUp promised c v turns w was now why → GivesUp promised c v (turns ++ later) w was now why
gives_more promised c v turns later w was now why g = record {
  made = g.made;
  unmade = g.unmade ++ later;
  parts = ap (λ (t : List Turn). t ++ later) g.parts ∙ append_assoc g.made g.unmade later;
  replies = g.replies;
  last = g.last;
  makes = g.makes;
  reason = reason_more promised c g.unmade later g.last w why g.reason;
  since = g.since;
}

-- all of these turns were made, and memory ran out for what comes then, or a reader or a writer failed
pub gives_all : (promised : Type 0) (c : ℕ) (v : View) (turns : List Turn) (counts : FeedCounts) (w : View) (was now : OutputState) (why : FeedStop) → IsReason promised c [] w w why → HasDone promised c v turns counts w was now → GivesUp promised c v turns w was now why
gives_all promised c v turns counts w was now why reason d = record { made = turns; unmade = []; parts = sym (append-nil turns); replies = d.replies; last = w; makes = d.makes; reason = reason; since = d.since }

-- memory ran out for a record that is refused: its line isn't written
pub gives_out_of_memory : (t : Result (Unit {0}) FeedStop) (promised : Type 0) (c : ℕ) (v : View) (turns : List Turn) (counts : FeedCounts) (w : View) (was mid now : OutputState)
    → IfErr t (λ why. why ≡ stops.Trouble troubles.OutOfMemory) → OnErr t (now ≡ mid) → HasDone promised c v turns counts w was mid → IfErr t (GivesUp promised c v turns w was now)
gives_out_of_memory (Ok done_) promised c v turns counts w was mid now lacking unreported d = tt
gives_out_of_memory (Err why) promised c v turns counts w was mid now lacking unreported d =
    subst (λ (e : FeedStop). GivesUp promised c v turns w was now e) (sym lacking) (subst (λ (o : OutputState). GivesUp promised c v turns w was o (stops.Trouble troubles.OutOfMemory)) (sym unreported) (gives_all promised c v turns counts w was mid (stops.Trouble troubles.OutOfMemory) tt d))

-- a batch wasn't taken
pub gives_refused : (promised : Type 0) (b c : ℕ) (v : View) (turns : List Turn) (batch given : List Admitted) (counts : FeedCounts) (w u : View) (was now : OutputState) (why : FeedStop)
    → b ≡ c → given ≡ batch → IsNotTaken promised b given w u why → Since w u → HasDone promised c v turns counts w was now → GivesUp promised c v (turns ++ Offer batch ∷ []) u was now why
gives_refused promised b c v turns batch given counts w u was now why one same refused since d = record {
  made = turns;
  unmade = Offer batch ∷ [];
  parts = refl;
  replies = d.replies;
  last = w;
  makes = d.makes;
  reason = reason_of promised c batch w u why (subst (λ (k : ℕ). IsNotTaken promised k batch w u why) one (subst (λ (t : List Admitted). IsNotTaken promised b t w u why) same refused));
  since = since_both v w u d.since since;
}

-- the feed is given up at this record, whose meaning is known
pub stops_at : (t : Result (Unit {0}) FeedStop) (promised : Type 0) (c : ℕ) (limit : BatchLimits) (v : View) (records : List Reported) (item : Item) (x : Result (Option Admitted) ResolveFault) (next : Feed) (old : Feeding) (w u : View) (was mid now : OutputState)
    (b : IsAfter promised c limit v records old w was mid)
    → TakesNext old.resolver next (reported item) x → (x ≡ Err faults.OutOfMemory → ⊥)
    → IfErr t (GivesUp promised c v (turns_for limit 0 [] b.results ++ turns_at old.limit (length b.results) old.gathered.items x) u was now)
    → IfErr t (StopsAmong promised c limit v records (item ∷ []) u was now)
stops_at (Ok done_) promised c limit v records item x next old w u was mid now b takes enough g = tt
stops_at (Err why) promised c limit v records item x next old w u was mid now b takes enough g =
    let n = length b.results in
    record {
      front = item ∷ [];
      back = [];
      parts = refl;
      results = b.results ++ x ∷ [];
      means = one_more rules.Refused c records b.results (reported item) x b.means (record { table = old.resolver.table; last = b.known; gives = subst (λ (k : ℕ). Gives rules.Refused k old.resolver.table (reported item) x) b.fed takes.gives; lacking = enough });
      gives_up =
          subst (λ (k : List Turn). GivesUp promised c v k u was now why)
          ((λ k. turns_for limit 0 [] b.results ++ turns_at (b.limited k) (let e : n ≡ 0 + n = omega arith in e k) (b.waits k) x) ∙ sym (turns_snoc limit 0 [] b.results x)) g;
    }

-- the feed is given up before this record has a meaning
pub stops_before : (t : Result (Unit {0}) FeedStop) (promised : Type 0) (c : ℕ) (limit : BatchLimits) (v : View) (records : List Reported) (item : Item) (old : Feeding) (w u : View) (was mid now : OutputState)
    (b : IsAfter promised c limit v records old w was mid)
    → IfErr t (GivesUp promised c v (turns_for limit 0 [] b.results) u was now) → IfErr t (StopsAmong promised c limit v records (item ∷ []) u was now)
stops_before (Ok done_) promised c limit v records item old w u was mid now b g = tt
stops_before (Err why) promised c limit v records item old w u was mid now b g =
    record { front = []; back = item ∷ []; parts = refl; results = b.results; means = subst (λ (t : List Reported). Means rules.Refused c t b.results) (sym (append-nil records)) b.means; gives_up = g }

-- the feed is given up at one of the items, after those that were taken
pub stops_among : (promised : Type 0) (c : ℕ) (limit : BatchLimits) (v : View) (records : List Reported) (items : List Item) (i : ℕ) (item : Item) (w : View) (was now : OutputState) (why : FeedStop)
    → i < length items → item ≡ get_or items i item → StopsAmong promised c limit v (records ++ map reported (take i items)) (item ∷ []) w was now why → StopsAmong promised c limit v records items w was now why
stops_among promised c limit v records items i item w was now why lt is s =
    let first = take i items in
    let rest = drop (i + 1) items in
    record {
      front = first ++ s.front;
      back = s.back ++ rest;
      parts =
          sym (take-append-drop (i + 1) items) ∙ ap (λ (t : List Item). t ++ rest) (take_item items i item lt is) ∙ append_assoc first (item ∷ []) rest
          ∙ ap (λ (t : List Item). first ++ (t ++ rest)) s.parts ∙ ap (λ (t : List Item). first ++ t) (append_assoc s.front s.back rest) ∙ sym (append_assoc first s.front (s.back ++ rest));
      results = s.results;
      means =
          subst (λ (t : List Reported). Means rules.Refused c t s.results)
          (append_assoc records (map reported first) (map reported s.front) ∙ ap (λ (t : List Reported). records ++ t) (sym (map-append reported first s.front))) s.means;
      gives_up = s.gives_up;
    }

each_front : {A B : Type 0} (R : A → B → Type 0) (xs : List A) (ys zs : List B) → Each R xs (ys ++ zs) → (us vs : List A) × (xs ≡ us ++ vs) × Each R us ys
each_front R xs [] zs e = ([], xs, refl, tt)
each_front R [] (y ∷ ys) zs e = absurd e
each_front R (x ∷ xs) (y ∷ ys) zs e = let r = each_front R xs ys zs e.1 in (x ∷ r.0, r.1, ap (λ (t : List _). x ∷ t) r.2, (e.0, r.3))

all_front : {A : Type 0} (P : A → Type 0) (xs ys : List A) → AllByRecursion P (xs ++ ys) → AllByRecursion P xs
all_front P [] ys p = tt
all_front P (x ∷ xs) ys p = (p.0, all_front P xs ys p.1)

-- the octets of the first items are whole records
framed_front : (bytes rest : List ℕ) (front back : List Item) → GainsFrames bytes rest [] (front ++ back) → (seen later : List ℕ) × (bytes ≡ seen ++ later) × GainsFrames seen [] [] front
framed_front bytes rest front back g =
    let f = each_front IsItem g.0 front back (subst (λ (t : List Item). Each IsItem g.0 t) (sym g.2.2) g.2.1) in
    let us = f.0 in
    let vs = f.1 in (
      joined us,
      joined vs ++ rest,
      g.1.whole ∙ ap (λ (t : List (List ℕ)). joined t ++ rest) f.2 ∙ ap (λ (t : List ℕ). t ++ rest) (joined-append us vs) ∙ append_assoc (joined us) (joined vs) rest,
      (us, record { whole = sym (append-nil (joined us)); each = all_front IsRecord us vs (subst (λ (t : List (List ℕ)). AllByRecursion IsRecord t) f.2 g.1.each); ended = part_begins_none [] (inl (omega arith)) }, (front, f.3, refl)),
    )

-- the feed is given up among the items of the whole records of the octets
pub stops_within : (promised : Type 0) (c : ℕ) (limit : BatchLimits) (v : View) (bytes rest : List ℕ) (before items : List Item) (w : View) (was now : OutputState) (why : FeedStop)
    → GainsFrames bytes rest [] (before ++ items) → StopsAmong promised c limit v (map reported before) items w was now why → StopsWithin promised c limit v bytes w was now why
stops_within promised c limit v bytes rest before items w was now why framed s =
    let f = framed_front bytes rest (before ++ s.front) s.back (subst (λ (t : List Item). GainsFrames bytes rest [] t) (ap (λ (t : List Item). before ++ t) s.parts ∙ sym (append_assoc before s.front s.back)) framed) in
    record {
      seen = f.0;
      later = f.1;
      parts = f.2;
      items = before ++ s.front;
      framed = f.3;
      results = s.results;
      means = subst (λ (t : List Reported). Means rules.Refused c t s.results) (sym (map-append reported before s.front)) s.means;
      gives_up = gives_more promised c v (turns_for limit 0 [] s.results) (last_turns (waits_beyond limit [] s.results)) w was now why s.gives_up;
    }

-- what comes after it is left too
pub within_more : (promised : Type 0) (c : ℕ) (limit : BatchLimits) (v : View) (bytes more : List ℕ) (w : View) (was now : OutputState) (why : FeedStop) → StopsWithin promised c limit v bytes w was now why → StopsWithin promised c limit v (bytes ++ more) w was now why
within_more promised c limit v bytes more w was now why s =
    record { seen = s.seen; later = s.later ++ more; parts = ap (λ (t : List ℕ). t ++ more) s.parts ∙ append_assoc s.seen s.later more; items = s.items; framed = s.framed; results = s.results; means = s.means; gives_up = s.gives_up }

-- the feed is given up after all that was read, and no line of it is missing
pub stops_after : (promised : Type 0) (c : ℕ) (limit : BatchLimits) (v : View) (bytes rest : List ℕ) (feeding : Feeding) (w : View) (was now : OutputState) (why : FeedStop)
    → IsReason promised c [] w w why → Reads promised c limit v bytes rest feeding w was now → StopsWithin promised c limit v bytes w was now why
stops_after promised c limit v bytes rest feeding w was now why reason r =
    let f = framed_front bytes rest r.items [] (subst (λ (t : List Item). GainsFrames bytes rest [] t) (sym (append-nil r.items)) r.framed) in
    let b = r.beyond in
    let turns = turns_for limit 0 [] b.results in
    record {
      seen = f.0;
      later = f.1;
      parts = f.2;
      items = r.items;
      framed = f.3;
      results = b.results;
      means = b.means;
      gives_up = gives_more promised c v turns (last_turns (waits_beyond limit [] b.results)) w was now why (gives_all promised c v turns feeding.counts w was now why reason b.done);
    }

-- the feed is given up while its last batch is offered, or its end written
pub stops_last : (promised : Type 0) (c : ℕ) (limit : BatchLimits) (v : View) (bytes rest : List ℕ) (feeding : Feeding) (w u : View) (was mid now : OutputState) (why : FeedStop)
    (r : Reads promised c limit v bytes rest feeding w was mid)
    → GivesUp promised c v (turns_for limit 0 [] r.beyond.results ++ last_turns feeding.gathered.items) u was now why → StopsWithin promised c limit v bytes u was now why
stops_last promised c limit v bytes rest feeding w u was mid now why r g =
    let f = framed_front bytes rest r.items [] (subst (λ (t : List Item). GainsFrames bytes rest [] t) (sym (append-nil r.items)) r.framed) in
    let b = r.beyond in
    record {
      seen = f.0;
      later = f.1;
      parts = f.2;
      items = r.items;
      framed = f.3;
      results = b.results;
      means = b.means;
      gives_up = subst (λ (t : List Turn). GivesUp promised c v t u was now why) (ap (λ (t : List Admitted). turns_for limit 0 [] b.results ++ last_turns t) b.waits) g;
    }

-- what a feed's records mean is taken of them where nothing is dropped
pub means_from : (c : ℕ) (records : List Reported) (results : List (Result (Option Admitted) ResolveFault)) → Means rules.Refused c records results → MeansFrom rules.Refused c 0 records results
means_from c records results m = record { meanings = results; means = m; taken = sym (all_taken results) }

-- the feed is given up, and the refusal was written
pub given_up_reported : (promised : Type 0) (c : ℕ) (limit : BatchLimits) (v : View) (bytes : List ℕ) (w : View) (was mid now : OutputState) (why : FeedStop)
    → StopsWithin promised c limit v bytes w was mid why → Reports mid now (refusal_line (of_stop why)) → IsGivenUp promised c limit bytes why v was w now
given_up_reported promised c limit v bytes w was mid now why s line =
    let g = s.gives_up in
    record {
      seen = s.seen;
      later = s.later;
      parts = s.parts;
      records = map reported s.items;
      results = s.results;
      feed = record { items = s.items; framed = s.framed; reported_are = refl; means = means_from c (map reported s.items) s.results s.means };
      made = g.made;
      unmade = g.unmade;
      turns = g.parts;
      replies = g.replies;
      last = g.last;
      then = mid;
      makes = g.makes;
      reason = g.reason;
      reports = line;
      since = g.since;
    }
