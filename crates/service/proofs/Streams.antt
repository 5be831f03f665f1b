-- A stream that is read piece by piece.
use Rattle.std.proofs.Common.{◌≡◌, ℕ, List, [], ◌++◌, Option, Some, None, Bool, true, false, map, arith, inl, refl, sym, ap, ◌∙◌, subst, append_assoc}
use Rattle.std.specs.Io.KnownBytes.{Consumes, IsAtEnd}
use Rattle.resolve.specs.Tables.{Feed}
use Rattle.resolve.specs.declared.without_hop.WithoutHop.{WithoutHop}
use Rattle.service.specs.Outputs.{OutputState, Reports}
use Rattle.std.proofs.KnownBytes.{Consumes-nil, Consumes-trans}
use Rattle.service.proofs.Outputs.{Reports-trans}
use Rattle.std.proofs.lemmas.List.{append-nil, map-append}
use Rattle.route_model.specs.Admission.{Admitted}
use Rattle.route_meaning.specs.History.{History}
use Rattle.mrt_records.specs.Values.{Reported, reported}
use Rattle.mrt_records.specs.Records.{Over}
use Rattle.mrt_records.specs.Streams.{GainsFrames, EndsOver}
use Rattle.mrt_records.specs.declared.item.Item.{Item}
use Rattle.mrt_records.proofs.api.Pieces.{frames_then}
use Rattle.mrt_records.proofs.api.Streams.{frames_none, part_begins_none, over_begins_none, over-append}
use Rattle.interleaving_core.specs.Steps.{given}
use Rattle.service.specs.Feeds.{IsCut, IsFed, IsReason, MayGive}
use Rattle.service.specs.Turns.{Turn, admissions_of, turns_for, last_turns, feed_turns}
use Rattle.service.specs.FeedTexts.{intake_in, cut_line, counts_of}
use Rattle.service.specs.FeedLines.{counts_line}
use Rattle.service.specs.inner.Feeding.{IsAfter, HasDone, Reads, IsHeld, IsRead, IsReadOut, IsSameFeed, StopsWithin}
use Rattle.service.specs.declared.faults.FeedCut.{FeedCut}
use Rattle.service.specs.declared.faults.FeedCut.TheVariants as cuts
use Rattle.service.specs.declared.faults.FeedStop.{FeedStop}
use Rattle.service.specs.declared.faults.FeedStop.TheVariants as stops
use Rattle.service.proofs.GivingUp.{within_more, stops_after}
use Rattle.service.specs.declared.feeding.Feeding.{Feeding}
use Rattle.service.proofs.Turning.{offered_feed}
use Rattle.service.specs.declared.limits.BatchLimits.{BatchLimits}
use Rattle.service.specs.Represented.{Represented, HasIntakes}

-- the same items after others
gains_after : (bytes now : List ℕ) (none items mid : List Item) → none ≡ [] → GainsFrames bytes now none items → GainsFrames bytes now mid (mid ++ items)
gains_after bytes now none items mid e p = (p.0, p.1, (p.2.0, p.2.1, ap (λ (t : List Item). mid ++ t) (p.2.2 ∙ ap (λ (t : List Item). t ++ p.2.0) e)))

-- one more piece, after which this rest is left
pub piece_read : (rule : WithoutHop) (c dropped : ℕ) (limit : BatchLimits) (h : History) (bytes held piece rest : List ℕ) (old new : Feeding) (archive later : Represented) (was mid now : OutputState) (none items got : List Item)
    → none ≡ [] → got ≡ items → GainsFrames (held ++ piece) rest none items
    → ((records : List Reported) → IsAfter rule c dropped limit h records old archive was mid → IsAfter rule c dropped limit h (records ++ map reported got) new later was now)
    → Reads rule c dropped limit h bytes held old archive was mid → Reads rule c dropped limit h (bytes ++ piece) rest new later was now
piece_read rule c dropped limit h bytes held piece rest old new archive later was mid now none items got empty same gains beyond r =
    let both : map reported r.items ++ map reported got ≡ map reported (r.items ++ items) = ap (λ (t : List Item). map reported r.items ++ map reported t) same ∙ sym (map-append reported r.items items) in
    record {
      items = r.items ++ items;
      framed = frames_then bytes held piece rest [] r.items (r.items ++ items) r.framed (gains_after (held ++ piece) rest none items r.items empty gains);
      beyond = subst (λ (t : List Reported). IsAfter rule c dropped limit h t new later was now) both (beyond (map reported r.items) r.beyond);
    }

-- the records with one more piece
pub piece_framed : (bytes held piece rest : List ℕ) (before none items got : List Item) → none ≡ [] → got ≡ items → GainsFrames (held ++ piece) rest none items → GainsFrames bytes held [] before → GainsFrames (bytes ++ piece) rest [] (before ++ got)
piece_framed bytes held piece rest before none items got empty same gains framed =
    subst (λ (t : List Item). GainsFrames (bytes ++ piece) rest [] (before ++ t)) (sym same) (frames_then bytes held piece rest [] before (before ++ items) framed (gains_after (held ++ piece) rest none items before empty gains))

-- one more piece, and the feed goes on
pub piece_goes : (rule : WithoutHop) (c dropped : ℕ) (limit : BatchLimits) (h : History) (bytes held piece now_held : List ℕ) (old new : Feeding) (archive later : Represented) (was mid now : OutputState) (none items got : List Item) (on : Bool)
    → on ≡ true → none ≡ [] → got ≡ items → GainsFrames (held ++ piece) now_held none items
    → ((records : List Reported) → IsAfter rule c dropped limit h records old archive was mid → IsAfter rule c dropped limit h (records ++ map reported got) new later was now)
    → Reads rule c dropped limit h bytes held old archive was mid → IsRead rule c dropped limit h (bytes ++ piece) now_held on new later was now
piece_goes rule c dropped limit h bytes held piece now_held old new archive later was mid now none items got on goes_on empty same gains beyond r =
    subst (λ (t : Bool). IsRead rule c dropped limit h (bytes ++ piece) now_held t new later was now) (sym goes_on)
    (record { rest = now_held; holds = refl; reads = piece_read rule c dropped limit h bytes held piece now_held old new archive later was mid now none items got empty same gains beyond r })

-- one more piece, and after its records stands a Length above the limit
pub piece_stops : (rule : WithoutHop) (c dropped : ℕ) (limit : BatchLimits) (h : History) (bytes held piece now_held : List ℕ) (old new : Feeding) (archive later : Represented) (was mid now : OutputState) (none items got : List Item) (on : Bool)
    → on ≡ false → none ≡ [] → got ≡ items → EndsOver (held ++ piece) now_held none items
    → ((records : List Reported) → IsAfter rule c dropped limit h records old archive was mid → IsAfter rule c dropped limit h (records ++ map reported got) new later was now)
    → Reads rule c dropped limit h bytes held old archive was mid → IsRead rule c dropped limit h (bytes ++ piece) now_held on new later was now
piece_stops rule c dropped limit h bytes held piece now_held old new archive later was mid now none items got on stops empty same ends beyond r =
    subst (λ (t : Bool). IsRead rule c dropped limit h (bytes ++ piece) now_held t new later was now) (sym stops)
    (record {
      rest = now_held ++ ends.0;
      holds = (ends.0, refl, ends.2);
      reads = piece_read rule c dropped limit h bytes held piece (now_held ++ ends.0) old new archive later was mid now none items got empty same ends.1 beyond r;
    })

-- what a reader still has, where it says that
pub left_of : Option (List ℕ) → List ℕ
left_of None = []
left_of (Some rest) = rest

-- what was read and what is left are what the reader would give
may_give : (known now : Option (List ℕ)) (done : List ℕ) → Consumes known now done → MayGive known (done ++ left_of now)
unfolding left_of
may_give None now done gone = tt
may_give (Some all) None done gone = absurd gone
may_give (Some all) (Some rest) done gone = sym gone

-- there are octets that the reader may give
pub some_given : (known : Option (List ℕ)) → (bytes : List ℕ) × MayGive known bytes
some_given known = (left_of known, may_give known known [] (Consumes-nil known))

none_left : (now : Option (List ℕ)) → IsAtEnd now → left_of now ≡ []
unfolding left_of
none_left None end = refl
none_left (Some rest) end = end

pieces_join : (bytes done piece rest : List ℕ) → ((bytes ++ done) ++ piece) ++ rest ≡ bytes ++ ((done ++ piece) ++ rest)
pieces_join bytes done piece rest = append_assoc (bytes ++ done) piece rest ∙ append_assoc bytes done (piece ++ rest) ∙ ap (λ (t : List ℕ). bytes ++ t) (sym (append_assoc done piece rest))

-- of what a reader gives, known beforehand or not, these octets are read
pub record Taken (rule : WithoutHop) (c dropped : ℕ) (limit : BatchLimits) (h : History) (bytes : List ℕ) (known reader : Option (List ℕ)) (held : List ℕ) (feeding : Feeding) (archive : Represented) (was now : OutputState) : Type 0 where
  pub done : List ℕ
  pub gone : Consumes known reader done
  pub reads : Reads rule c dropped limit h (bytes ++ done) held feeding archive was now

pub taken_first : (rule : WithoutHop) (c dropped : ℕ) (limit : BatchLimits) (h : History) (bytes : List ℕ) (reader : Option (List ℕ)) (held : List ℕ) (feeding : Feeding) (archive : Represented) (was now : OutputState)
    → Reads rule c dropped limit h bytes held feeding archive was now → Taken rule c dropped limit h bytes reader reader held feeding archive was now
taken_first rule c dropped limit h bytes reader held feeding archive was now r = record {
  done = [];
  gone = Consumes-nil reader;
  reads = subst (λ (t : List ℕ). Reads rule c dropped limit h t held feeding archive was now) (sym (append-nil bytes)) r;
}

-- the reader is at its end
pub taken_none : (rule : WithoutHop) (c dropped : ℕ) (limit : BatchLimits) (h : History) (bytes : List ℕ) (known reader new : Option (List ℕ)) (held : List ℕ) (feeding : Feeding) (archive : Represented) (was now : OutputState)
    → Consumes reader new [] → IsAtEnd new → Taken rule c dropped limit h bytes known reader held feeding archive was now
    → (more : List ℕ) × MayGive known more × IsReadOut rule c dropped limit h (bytes ++ more) held feeding archive was now
taken_none rule c dropped limit h bytes known reader new held feeding archive was now gone end l =
    let gives = may_give known new (l.done ++ []) (Consumes-trans known reader new l.done [] l.gone gone) in
    let same : (l.done ++ []) ++ left_of new ≡ l.done = ap (λ (t : List ℕ). (l.done ++ []) ++ t) (none_left new end) ∙ append-nil (l.done ++ []) ∙ append-nil l.done in
    (l.done, subst (MayGive known) same gives, (true, record { rest = held; holds = refl; reads = l.reads }))

-- some more is read and taken, and the feed goes on
pub taken_more : (rule : WithoutHop) (c dropped : ℕ) (limit : BatchLimits) (h : History) (bytes piece : List ℕ) (known reader next : Option (List ℕ)) (held left : List ℕ) (old new : Feeding) (archive later : Represented) (was mid now : OutputState) (on : Bool)
    → on ≡ true → Consumes reader next piece → Taken rule c dropped limit h bytes known reader held old archive was mid
    → ((seen : List ℕ) → Reads rule c dropped limit h seen held old archive was mid → IsRead rule c dropped limit h (seen ++ piece) left on new later was now)
    → Taken rule c dropped limit h bytes known next left new later was now
taken_more rule c dropped limit h bytes piece known reader next held left old new archive later was mid now on goes_on gone l takes =
    let read = subst (λ (t : Bool). IsRead rule c dropped limit h ((bytes ++ l.done) ++ piece) left t new later was now) goes_on (takes (bytes ++ l.done) l.reads) in
    record {
      done = l.done ++ piece;
      gone = Consumes-trans known reader next l.done piece l.gone gone;
      reads = subst (λ (t : List ℕ). Reads rule c dropped limit h t left new later was now) (append_assoc bytes l.done piece)
          (subst (λ (t : List ℕ). Reads rule c dropped limit h ((bytes ++ l.done) ++ piece) t new later was now) (sym read.holds) read.reads);
    }

-- the feed is given up where nothing more is read
pub taken_gives : (rule : WithoutHop) (c dropped : ℕ) (limit : BatchLimits) (h : History) (bytes : List ℕ) (known reader : Option (List ℕ)) (held : List ℕ) (feeding : Feeding) (archive : Represented) (was now : OutputState)
    → (why : FeedStop) → ((made : List Turn) → IsReason c h made [] why) → Taken rule c dropped limit h bytes known reader held feeding archive was now
    → (more : List ℕ) × MayGive known more × StopsWithin rule c dropped limit h (bytes ++ more) archive was now why
taken_gives rule c dropped limit h bytes known reader held feeding archive was now why reason l =
    let rest = left_of reader in (
      l.done ++ rest,
      may_give known reader l.done l.gone,
      subst (λ (t : List ℕ). StopsWithin rule c dropped limit h t archive was now why) (append_assoc bytes l.done rest)
          (within_more rule c dropped limit h (bytes ++ l.done) rest archive was now why (stops_after rule c dropped limit h (bytes ++ l.done) held feeding archive was now why reason l.reads)),
    )

-- the feed is given up in the next piece
pub taken_piece_gives : (rule : WithoutHop) (c dropped : ℕ) (limit : BatchLimits) (h : History) (bytes piece : List ℕ) (known reader next : Option (List ℕ)) (held : List ℕ) (feeding : Feeding) (archive later : Represented) (was mid now : OutputState) (why : FeedStop)
    → Consumes reader next piece → Taken rule c dropped limit h bytes known reader held feeding archive was mid
    → ((seen : List ℕ) → Reads rule c dropped limit h seen held feeding archive was mid → StopsWithin rule c dropped limit h (seen ++ piece) later was now why)
    → (more : List ℕ) × MayGive known more × StopsWithin rule c dropped limit h (bytes ++ more) later was now why
taken_piece_gives rule c dropped limit h bytes piece known reader next held feeding archive later was mid now why gone l stops_ =
    let rest = left_of next in (
      (l.done ++ piece) ++ rest,
      may_give known next (l.done ++ piece) (Consumes-trans known reader next l.done piece l.gone gone),
      subst (λ (t : List ℕ). StopsWithin rule c dropped limit h t later was now why) (pieces_join bytes l.done piece rest)
          (within_more rule c dropped limit h ((bytes ++ l.done) ++ piece) rest later was now why (stops_ (bytes ++ l.done) l.reads)),
    )

-- the next piece is taken, and the feed is given up after it
pub taken_failed : (rule : WithoutHop) (c dropped : ℕ) (limit : BatchLimits) (h : History) (bytes piece : List ℕ) (known reader next : Option (List ℕ)) (held left : List ℕ) (old new : Feeding) (archive later : Represented) (was mid now : OutputState) (on : Bool)
    → Consumes reader next piece → Taken rule c dropped limit h bytes known reader held old archive was mid
    → ((seen : List ℕ) → Reads rule c dropped limit h seen held old archive was mid → IsRead rule c dropped limit h (seen ++ piece) left on new later was now)
    → (more : List ℕ) × MayGive known more × StopsWithin rule c dropped limit h (bytes ++ more) later was now stops.Outside
taken_failed rule c dropped limit h bytes piece known reader next held left old new archive later was mid now on gone l takes =
    let rest = left_of next in
    let read = takes (bytes ++ l.done) l.reads in (
      (l.done ++ piece) ++ rest,
      may_give known next (l.done ++ piece) (Consumes-trans known reader next l.done piece l.gone gone),
      subst (λ (t : List ℕ). StopsWithin rule c dropped limit h t later was now stops.Outside) (pieces_join bytes l.done piece rest)
          (within_more rule c dropped limit h ((bytes ++ l.done) ++ piece) rest later was now stops.Outside
          (stops_after rule c dropped limit h ((bytes ++ l.done) ++ piece) read.rest new later was now stops.Outside (λ made. tt) read.reads)),
    )

-- what stands after a Length above the limit is left with it
over_more : (bytes rest more : List ℕ) (items : List Item) → Over rest → GainsFrames bytes rest [] items → GainsFrames (bytes ++ more) (rest ++ more) [] items
over_more bytes rest more items over g = (g.0, record { whole = ap (λ (t : List ℕ). t ++ more) g.1.whole ∙ append_assoc _ rest more; each = g.1.each; ended = over_begins_none (rest ++ more) (over-append rest more over) }, g.2)

-- some more is read and taken, and the feed stops
pub taken_stops : (rule : WithoutHop) (c dropped : ℕ) (limit : BatchLimits) (h : History) (bytes piece : List ℕ) (known reader next : Option (List ℕ)) (held left : List ℕ) (old new : Feeding) (archive later : Represented) (was mid now : OutputState) (on : Bool)
    → on ≡ false → Consumes reader next piece → Taken rule c dropped limit h bytes known reader held old archive was mid
    → ((seen : List ℕ) → Reads rule c dropped limit h seen held old archive was mid → IsRead rule c dropped limit h (seen ++ piece) left on new later was now)
    → (more : List ℕ) × MayGive known more × IsReadOut rule c dropped limit h (bytes ++ more) left new later was now
taken_stops rule c dropped limit h bytes piece known reader next held left old new archive later was mid now on ends gone l takes =
    let rest = left_of next in
    let read = subst (λ (t : Bool). IsRead rule c dropped limit h ((bytes ++ l.done) ++ piece) left t new later was now) ends (takes (bytes ++ l.done) l.reads) in
    let held_ = read.holds in
    let over : Over read.rest = subst Over (sym held_.1) (over-append left held_.0 held_.2) in (
      (l.done ++ piece) ++ rest,
      may_give known next (l.done ++ piece) (Consumes-trans known reader next l.done piece l.gone gone),
      (
        false,
        record {
          rest = read.rest ++ rest;
          holds = (held_.0 ++ rest, ap (λ (t : List ℕ). t ++ rest) held_.1 ∙ append_assoc left held_.0 rest, held_.2);
          reads = record {
            items = read.reads.items;
            framed = subst (λ (t : List ℕ). GainsFrames t (read.rest ++ rest) [] read.reads.items) (pieces_join bytes l.done piece rest) (over_more ((bytes ++ l.done) ++ piece) read.rest rest read.reads.items over read.reads.framed);
            beyond = read.reads.beyond;
          };
        },
      ),
    )

-- nothing is read yet
pub reads_none : (rule : WithoutHop) (c dropped : ℕ) (limit : BatchLimits) (h : History) (held : List ℕ) (feeding : Feeding) (archive : Represented) (was : OutputState)
    → held ≡ [] → IsAfter rule c dropped limit h [] feeding archive was was → Reads rule c dropped limit h [] held feeding archive was was
reads_none rule c dropped limit h held feeding archive was empty b = record {
  items = [];
  framed = subst (λ (t : List ℕ). GainsFrames [] t [] []) (sym empty) (frames_none [] [] (part_begins_none [] (inl (omega arith))));
  beyond = b;
}

-- why a feed is cut that has this rest, by what the framer holds of it
pub cut_short : (held rest : List ℕ) (on : Bool) (cut : Option FeedCut) → IsHeld held rest on → IsCut held cut → IsCut rest cut
cut_short held rest true cut same is = subst (λ (t : List ℕ). IsCut t cut) same is
cut_short held rest false None over is = let long = (subst (λ (t : List ℕ). Over t) is over.2).header in absurd (omega (arith, long))
cut_short held rest false (Some cuts.Truncated) over is = absurd (is.1 over.2)
cut_short held rest false (Some cuts.TooLong) over is = subst Over (sym over.1) (over-append held over.0 over.2)

-- all is read, and its end is reported
pub all_fed : (rule : WithoutHop) (c dropped lost : ℕ) (limit : BatchLimits) (h : History) (bytes held : List ℕ) (cut : Option FeedCut) (old new : Feeding) (archive later : Represented) (was mid then now : OutputState)
    → IsReadOut rule c dropped limit h bytes held old archive was mid → IsCut held cut → IsSameFeed old new
    → ((turns : List Turn) → old.collector ≡ c → HasDone c h turns old.counts archive was mid → HasDone c h (turns ++ last_turns old.gathered.items) new.counts later was then)
    → Reports then now (cut_line cut new.counts.records ++ counts_line new.counts) → lost ≡ new.resolver.left_out
    → (mark : ℕ) × IsFed rule c dropped limit h bytes cut (record { counts = Some new.counts; left_out = lost; left = new.dropping; mark = mark }) later was now
all_fed rule c dropped lost limit h bytes held cut old new archive later was mid then now out is same rest reported_ losing =
    let read = out.1 in
    let b = read.reads.beyond in
    let records = map reported read.reads.items in
    let d = rest _ b.collector b.done in
    let i = intake_in h.intakes c in
    let turns : turns_for limit 0 [] b.results ++ last_turns old.gathered.items ≡ feed_turns limit b.results = ap (λ (t : List Admitted). turns_for limit 0 [] b.results ++ last_turns t) b.waits in
    let done = subst (λ (t : List Turn). HasDone c h t new.counts later was then) turns d in
    let counted : new.counts ≡ counts_of i records (feed_turns limit b.results) =
    λ k. record { records = (same.records ∙ b.recorded) k; admitted = done.admitted k; late = done.late k; refused = done.refused k; skipped = (same.skipped ∙ b.skipped) k } in (
      (intake_in (given h c (admissions_of b.results)).intakes c).mark,
      record {
        rest = read.rest;
        records = records;
        results = b.results;
        feed = record { items = read.reads.items; framed = read.reads.framed; reported_are = refl; means = b.means };
        cut_is = cut_short held read.rest out.0 cut read.holds is;
        represented = subst (λ (t : List Admitted). HasIntakes (given h c t).intakes later) (offered_feed limit b.results) done.represented;
        there = λ some. done.there (λ none. some (sym (offered_feed limit b.results) ∙ none));
        wrote =
            Reports-trans was then now _ _ done.wrote
            (subst (λ (t : List ℕ). Reports then now t) (λ k. cut_line cut ((same.records ∙ b.recorded) k) ++ counts_line (counted k)) reported_);
        summed = record { counted = λ k. Some (counted k); lost = losing ∙ ap (λ (t : Feed). t.left_out) same.resolver ∙ b.lost; drops = same.dropping ∙ b.drops; marks = refl };
      },
    )
