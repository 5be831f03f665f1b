-- A stream that is read piece by piece.
use Rattle.std.proofs.Common.{◌≡◌, ℕ, List, [], ◌++◌, Option, Some, None, Bool, true, false, map, arith, inl, refl, sym, ap, ◌∙◌, subst, append_assoc, append-nil}
use Rattle.std.specs.Io.KnownBytes.{Consumes, IsAtEnd}
use Rattle.std.proofs.KnownBytes.{Consumes-nil, Consumes-trans}
use Rattle.std.proofs.lemmas.List.{map-append}
use Rattle.route_model.specs.Admission.{Admitted}
use Rattle.board.specs.Views.{View}
use Rattle.mrt_records.specs.Values.{Reported, reported}
use Rattle.mrt_records.specs.Records.{Over}
use Rattle.mrt_records.specs.Streams.{GainsFrames, EndsOver}
use Rattle.mrt_records.specs.declared.item.Item.{Item}
use Rattle.mrt_records.proofs.api.Pieces.{frames_then}
use Rattle.mrt_records.proofs.api.Streams.{frames_none, part_begins_none, over_begins_none, over-append}
use Rattle.service.specs.Feeds.{IsCut, MayGive}
use Rattle.service.specs.FeedLines.{counts_line}
use Rattle.service.specs.FeedTexts.{cut_line}
use Rattle.service.specs.Outputs.{OutputState, Reports}
use Rattle.service.specs.Turns.{Turn, turns_for, last_turns, feed_turns}
use Rattle.service.specs.declared.faults.FeedCut.{FeedCut}
use Rattle.service.specs.declared.faults.FeedCut.TheVariants as cuts
use Rattle.service.specs.declared.faults.FeedStop.{FeedStop}
use Rattle.service.specs.declared.faults.FeedStop.TheVariants as stops
use Rattle.service.specs.declared.intake.End.TheVariants as ends
use Rattle.service.specs.declared.limits.BatchLimits.{BatchLimits}
use Rattle.shared_feed.specs.SharedFeeds.{IsReason, IsTakenIn, counts_by}
use Rattle.shared_feed.specs.inner.Feeding.{HasDone, IsAfter, Reads, IsHeld, IsRead, IsReadOut, IsSameFeed, StopsWithin}
use Rattle.shared_feed.specs.declared.feeding.Feeding.{Feeding}
use Rattle.shared_feed.proofs.GivingUp.{within_more, stops_after, means_from}

-- the same items after others
gains_after : (bytes now : List ℕ) (none items mid : List Item) → none ≡ [] → GainsFrames bytes now none items → GainsFrames bytes now mid (mid ++ items)
gains_after bytes now none items mid e p = (p.0, p.1, (p.2.0, p.2.1, ap (λ (t : List Item). mid ++ t) (p.2.2 ∙ ap (λ (t : List Item). t ++ p.2.0) e)))

-- one more piece, after which this rest is left
pub piece_read : (promised : Type 0) (c : ℕ) (limit : BatchLimits) (v : View) (bytes held piece rest : List ℕ) (old new : Feeding) (w u : View) (was mid now : OutputState) (none items got : List Item)
    → none ≡ [] → got ≡ items → GainsFrames (held ++ piece) rest none items
    → ((records : List Reported) → IsAfter promised c limit v records old w was mid → IsAfter promised c limit v (records ++ map reported got) new u was now)
    → Reads promised c limit v bytes held old w was mid → Reads promised c limit v (bytes ++ piece) rest new u was now
piece_read promised c limit v bytes held piece rest old new w u was mid now none items got empty same gains beyond r =
    let both : map reported r.items ++ map reported got ≡ map reported (r.items ++ items) = ap (λ (t : List Item). map reported r.items ++ map reported t) same ∙ sym (map-append reported r.items items) in
    record {
      items = r.items ++ items;
      framed = frames_then bytes held piece rest [] r.items (r.items ++ items) r.framed (gains_after (held ++ piece) rest none items r.items empty gains);
      beyond = subst (λ (t : List Reported). IsAfter promised c limit v t new u was now) both (beyond (map reported r.items) r.beyond);
    }

-- one more piece, and the feed goes on
pub piece_goes : (promised : Type 0) (c : ℕ) (limit : BatchLimits) (v : View) (bytes held piece now_held : List ℕ) (old new : Feeding) (w u : View) (was mid now : OutputState) (none items got : List Item) (on : Bool)
    → on ≡ true → none ≡ [] → got ≡ items → GainsFrames (held ++ piece) now_held none items
    → ((records : List Reported) → IsAfter promised c limit v records old w was mid → IsAfter promised c limit v (records ++ map reported got) new u was now)
    → Reads promised c limit v bytes held old w was mid → IsRead promised c limit v (bytes ++ piece) now_held on new u was now
piece_goes promised c limit v bytes held piece now_held old new w u was mid now none items got on goes_on empty same gains beyond r =
    subst (λ (t : Bool). IsRead promised c limit v (bytes ++ piece) now_held t new u was now) (sym goes_on)
    (record { rest = now_held; holds = refl; reads = piece_read promised c limit v bytes held piece now_held old new w u was mid now none items got empty same gains beyond r })

-- one more piece, and a Length above the limit follows its records
pub piece_stops : (promised : Type 0) (c : ℕ) (limit : BatchLimits) (v : View) (bytes held piece now_held : List ℕ) (old new : Feeding) (w u : View) (was mid now : OutputState) (none items got : List Item) (on : Bool)
    → on ≡ false → none ≡ [] → got ≡ items → EndsOver (held ++ piece) now_held none items
    → ((records : List Reported) → IsAfter promised c limit v records old w was mid → IsAfter promised c limit v (records ++ map reported got) new u was now)
    → Reads promised c limit v bytes held old w was mid → IsRead promised c limit v (bytes ++ piece) now_held on new u was now
piece_stops promised c limit v bytes held piece now_held old new w u was mid now none items got on stops empty same ends beyond r =
    subst (λ (t : Bool). IsRead promised c limit v (bytes ++ piece) now_held t new u was now) (sym stops)
    (record {
      rest = now_held ++ ends.0;
      holds = (ends.0, refl, ends.2);
      reads = piece_read promised c limit v bytes held piece (now_held ++ ends.0) old new w u was mid now none items got empty same ends.1 beyond r;
    })

-- what a reader still has, where that is known
left_of : Option (List ℕ) → List ℕ
left_of None = []
left_of (Some rest) = rest

-- what was read and what is left are what the reader would give
may_give : (known now : Option (List ℕ)) (done : List ℕ) → Consumes known now done → MayGive known (done ++ left_of now)
unfolding left_of
may_give None now done gone = tt
may_give (Some all) None done gone = absurd gone
may_give (Some all) (Some rest) done gone = sym gone

none_left : (now : Option (List ℕ)) → IsAtEnd now → left_of now ≡ []
unfolding left_of
none_left None end = refl
none_left (Some rest) end = end

pieces_join : (bytes done piece rest : List ℕ) → ((bytes ++ done) ++ piece) ++ rest ≡ bytes ++ ((done ++ piece) ++ rest)
pieces_join bytes done piece rest = append_assoc (bytes ++ done) piece rest ∙ append_assoc bytes done (piece ++ rest) ∙ ap (λ (t : List ℕ). bytes ++ t) (sym (append_assoc done piece rest))

-- of what a reader gives, known beforehand or not, these octets are read
pub record Taken (promised : Type 0) (c : ℕ) (limit : BatchLimits) (v : View) (bytes : List ℕ) (known reader : Option (List ℕ)) (held : List ℕ) (feeding : Feeding) (w : View) (was now : OutputState) : Type 0 where
  pub done : List ℕ
  pub gone : Consumes known reader done
  pub reads : Reads promised c limit v (bytes ++ done) held feeding w was now

pub taken_first : (promised : Type 0) (c : ℕ) (limit : BatchLimits) (v : View) (bytes : List ℕ) (reader : Option (List ℕ)) (held : List ℕ) (feeding : Feeding) (w : View) (was now : OutputState)
    → Reads promised c limit v bytes held feeding w was now → Taken promised c limit v bytes reader reader held feeding w was now
taken_first promised c limit v bytes reader held feeding w was now r = record {
  done = [];
  gone = Consumes-nil reader;
  reads = subst (λ (t : List ℕ). Reads promised c limit v t held feeding w was now) (sym (append-nil bytes)) r;
}

-- the reader is at its end
pub taken_none : (promised : Type 0) (c : ℕ) (limit : BatchLimits) (v : View) (bytes : List ℕ) (known reader new : Option (List ℕ)) (held : List ℕ) (feeding : Feeding) (w : View) (was now : OutputState)
    → Consumes reader new [] → IsAtEnd new → Taken promised c limit v bytes known reader held feeding w was now
    → (more : List ℕ) × MayGive known more × IsReadOut promised c limit v (bytes ++ more) held feeding w was now
taken_none promised c limit v bytes known reader new held feeding w was now gone end l =
    let gives = may_give known new (l.done ++ []) (Consumes-trans known reader new l.done [] l.gone gone) in
    let same : (l.done ++ []) ++ left_of new ≡ l.done = ap (λ (t : List ℕ). (l.done ++ []) ++ t) (none_left new end) ∙ append-nil (l.done ++ []) ∙ append-nil l.done in
    (l.done, subst (MayGive known) same gives, (true, record { rest = held; holds = refl; reads = l.reads }))

-- some more is read and taken, and the feed goes on
pub taken_more : (promised : Type 0) (c : ℕ) (limit : BatchLimits) (v : View) (bytes piece : List ℕ) (known reader next : Option (List ℕ)) (held left : List ℕ) (old new : Feeding) (w u : View) (was mid now : OutputState) (on : Bool)
    → on ≡ true → Consumes reader next piece → Taken promised c limit v bytes known reader held old w was mid
    → ((seen : List ℕ) → Reads promised c limit v seen held old w was mid → IsRead promised c limit v (seen ++ piece) left on new u was now)
    → Taken promised c limit v bytes known next left new u was now
taken_more promised c limit v bytes piece known reader next held left old new w u was mid now on goes_on gone l takes =
    let read = subst (λ (t : Bool). IsRead promised c limit v ((bytes ++ l.done) ++ piece) left t new u was now) goes_on (takes (bytes ++ l.done) l.reads) in
    record {
      done = l.done ++ piece;
      gone = Consumes-trans known reader next l.done piece l.gone gone;
      reads = subst (λ (t : List ℕ). Reads promised c limit v t left new u was now) (append_assoc bytes l.done piece)
          (subst (λ (t : List ℕ). Reads promised c limit v ((bytes ++ l.done) ++ piece) t new u was now) (sym read.holds) read.reads);
    }

-- the feed is given up where nothing more is read
pub taken_gives : (promised : Type 0) (c : ℕ) (limit : BatchLimits) (v : View) (bytes : List ℕ) (known reader : Option (List ℕ)) (held : List ℕ) (feeding : Feeding) (w : View) (was now : OutputState)
    → (why : FeedStop) → IsReason promised c [] w w why → Taken promised c limit v bytes known reader held feeding w was now
    → (more : List ℕ) × MayGive known more × StopsWithin promised c limit v (bytes ++ more) w was now why
taken_gives promised c limit v bytes known reader held feeding w was now why reason l =
    let rest = left_of reader in (
      l.done ++ rest,
      may_give known reader l.done l.gone,
      subst (λ (t : List ℕ). StopsWithin promised c limit v t w was now why) (append_assoc bytes l.done rest)
          (within_more promised c limit v (bytes ++ l.done) rest w was now why (stops_after promised c limit v (bytes ++ l.done) held feeding w was now why reason l.reads)),
    )

-- the feed is given up in the next piece
pub taken_piece_gives : (promised : Type 0) (c : ℕ) (limit : BatchLimits) (v : View) (bytes piece : List ℕ) (known reader next : Option (List ℕ)) (held : List ℕ) (feeding : Feeding) (w u : View) (was mid now : OutputState) (why : FeedStop)
    → Consumes reader next piece → Taken promised c limit v bytes known reader held feeding w was mid
    → ((seen : List ℕ) → Reads promised c limit v seen held feeding w was mid → StopsWithin promised c limit v (seen ++ piece) u was now why)
    → (more : List ℕ) × MayGive known more × StopsWithin promised c limit v (bytes ++ more) u was now why
taken_piece_gives promised c limit v bytes piece known reader next held feeding w u was mid now why gone l stops_ =
    let rest = left_of next in (
      (l.done ++ piece) ++ rest,
      may_give known next (l.done ++ piece) (Consumes-trans known reader next l.done piece l.gone gone),
      subst (λ (t : List ℕ). StopsWithin promised c limit v t u was now why) (pieces_join bytes l.done piece rest)
          (within_more promised c limit v ((bytes ++ l.done) ++ piece) rest u was now why (stops_ (bytes ++ l.done) l.reads)),
    )

-- the next piece is taken, and the feed is given up after it
pub taken_failed : (promised : Type 0) (c : ℕ) (limit : BatchLimits) (v : View) (bytes piece : List ℕ) (known reader next : Option (List ℕ)) (held left : List ℕ) (old new : Feeding) (w u : View) (was mid now : OutputState) (on : Bool)
    → Consumes reader next piece → Taken promised c limit v bytes known reader held old w was mid
    → ((seen : List ℕ) → Reads promised c limit v seen held old w was mid → IsRead promised c limit v (seen ++ piece) left on new u was now)
    → (more : List ℕ) × MayGive known more × StopsWithin promised c limit v (bytes ++ more) u was now stops.Outside
taken_failed promised c limit v bytes piece known reader next held left old new w u was mid now on gone l takes =
    let rest = left_of next in
    let read = takes (bytes ++ l.done) l.reads in (
      (l.done ++ piece) ++ rest,
      may_give known next (l.done ++ piece) (Consumes-trans known reader next l.done piece l.gone gone),
      subst (λ (t : List ℕ). StopsWithin promised c limit v t u was now stops.Outside) (pieces_join bytes l.done piece rest)
          (within_more promised c limit v ((bytes ++ l.done) ++ piece) rest u was now stops.Outside
          (stops_after promised c limit v ((bytes ++ l.done) ++ piece) read.rest new u was now stops.Outside tt read.reads)),
    )

-- what follows a Length above the limit is left with it
over_more : (bytes rest more : List ℕ) (items : List Item) → Over rest → GainsFrames bytes rest [] items → GainsFrames (bytes ++ more) (rest ++ more) [] items
over_more bytes rest more items over g = (g.0, record { whole = ap (λ (t : List ℕ). t ++ more) g.1.whole ∙ append_assoc _ rest more; each = g.1.each; ended = over_begins_none (rest ++ more) (over-append rest more over) }, g.2)

-- some more is read and taken, and the feed stops
pub taken_stops : (promised : Type 0) (c : ℕ) (limit : BatchLimits) (v : View) (bytes piece : List ℕ) (known reader next : Option (List ℕ)) (held left : List ℕ) (old new : Feeding) (w u : View) (was mid now : OutputState) (on : Bool)
    → on ≡ false → Consumes reader next piece → Taken promised c limit v bytes known reader held old w was mid
    → ((seen : List ℕ) → Reads promised c limit v seen held old w was mid → IsRead promised c limit v (seen ++ piece) left on new u was now)
    → (more : List ℕ) × MayGive known more × IsReadOut promised c limit v (bytes ++ more) left new u was now
taken_stops promised c limit v bytes piece known reader next held left old new w u was mid now on ends gone l takes =
    let rest = left_of next in
    let read = subst (λ (t : Bool). IsRead promised c limit v ((bytes ++ l.done) ++ piece) left t new u was now) ends (takes (bytes ++ l.done) l.reads) in
    let held_ = read.holds in
    let over : Over read.rest = subst Over (sym held_.1) (over-append left held_.0 held_.2) in (
      (l.done ++ piece) ++ rest,
      may_give known next (l.done ++ piece) (Consumes-trans known reader next l.done piece l.gone gone),
      (
        false,
        record {
          rest = read.rest ++ rest;
          holds = (held_.0 ++ rest, ap (λ (t : List ℕ). t ++ rest) held_.1 ∙ append_assoc left held_.0 rest, held_.2);
          reads = record {
            items = read.reads.items;
            framed = subst (λ (t : List ℕ). GainsFrames t (read.rest ++ rest) [] read.reads.items) (pieces_join bytes l.done piece rest) (over_more ((bytes ++ l.done) ++ piece) read.rest rest read.reads.items over read.reads.framed);
            beyond = read.reads.beyond;
          };
        },
      ),
    )

-- nothing is read yet
pub reads_none : (promised : Type 0) (c : ℕ) (limit : BatchLimits) (v : View) (held : List ℕ) (feeding : Feeding) (w : View) (was : OutputState)
    → held ≡ [] → IsAfter promised c limit v [] feeding w was was → Reads promised c limit v [] held feeding w was was
reads_none promised c limit v held feeding w was empty b = record {
  items = [];
  framed = subst (λ (t : List ℕ). GainsFrames [] t [] []) (sym empty) (frames_none [] [] (part_begins_none [] (inl (omega arith))));
  beyond = b;
}

-- why a feed is cut that has this rest, by what the framer holds of it
pub cut_short : (held rest : List ℕ) (on : Bool) (cut : Option FeedCut) → IsHeld held rest on → IsCut held cut → IsCut rest cut
cut_short held rest true cut same is = subst (λ (t : List ℕ). IsCut t cut) same is
cut_short held rest false None over is = let long = (subst (λ (t : List ℕ). Over t) is over.2).header in absurd (omega (arith, long))
cut_short held rest false (Some cuts.Truncated) over is = absurd (is.1 over.2)
cut_short held rest false (Some cuts.TooLong) over is = subst Over (sym over.1) (over-append held over.0 over.2)

-- all is read, and its end is written
pub all_taken_in : (promised : Type 0) (c : ℕ) (limit : BatchLimits) (v : View) (bytes held : List ℕ) (cut : Option FeedCut) (old new : Feeding) (w u : View) (was mid then now : OutputState)
    → IsReadOut promised c limit v bytes held old w was mid → IsCut held cut → IsSameFeed old new
    → ((turns : List Turn) → old.collector ≡ c → HasDone promised c v turns old.counts w was mid → HasDone promised c v (turns ++ last_turns old.gathered.items) new.counts u was then)
    → Reports then now (cut_line cut new.counts.records ++ counts_line new.counts)
    → IsTakenIn promised c limit bytes cut v was u now
all_taken_in promised c limit v bytes held cut old new w u was mid then now out is same rest reported_ =
    let read = out.1 in
    let b = read.reads.beyond in
    let records = map reported read.reads.items in
    let d = rest _ b.collector b.done in
    let turns : turns_for limit 0 [] b.results ++ last_turns old.gathered.items ≡ feed_turns limit b.results = ap (λ (t : List Admitted). turns_for limit 0 [] b.results ++ last_turns t) b.waits in
    let done = subst (λ (t : List Turn). HasDone promised c v t new.counts u was then) turns d in
    let counted : new.counts ≡ counts_by records (feed_turns limit b.results) done.replies =
    λ k. record { records = (same.records ∙ b.recorded) k; admitted = done.admitted k; late = done.late k; refused = done.refused k; skipped = (same.skipped ∙ b.skipped) k } in
    record {
      rest = read.rest;
      records = records;
      results = b.results;
      feed = record { items = read.reads.items; framed = read.reads.framed; reported_are = refl; means = means_from c records b.results b.means };
      cut_is = cut_short held read.rest out.0 cut read.holds is;
      replies = done.replies;
      then = then;
      makes = done.makes;
      reports = subst (λ (t : List ℕ). Reports then now t) (λ k. cut_line cut ((same.records ∙ b.recorded) k) ++ counts_line (counted k)) reported_;
      since = done.since;
    }
