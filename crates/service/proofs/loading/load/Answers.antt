use Rattle.std.proofs.Common.{◌≡◌, ◌∙◌, ◌<◌, ◌+◌, ◌≢◌, ℕ, nat_eq, List, [], length, drop, map, arith, refl, sym, subst, inl, inr}
use Rattle.std.proofs.lemmas.List.{length-map, length-set, map-set, nil_from_length}
use Rattle.std.proofs.Math.Seq.{map-set_same}
use Rattle.std.proofs.lemmas.Bool.{eqb-true, eqb-false}
use Rattle.service.specs.FeedTexts.{intake_in}
use Rattle.service.specs.FileLoads.{FileState, IsLoadedTo}
use Rattle.service.specs.Resuming.{dropped_where}
use Rattle.service.specs.declared.status.Status.TheVariants as statuses
use Rattle.service.proofs.Files.{IsAt, at_first, at_next, done_next, ended_at, file_at, marked_by, next_file, no_files, none_after, none_loaded}
use Rattle.service.proofs.loading.load.Goals as goal

pub loop-place-init : goal.loop-place-init
loop-place-init g c = record {
  goes = λ some. some;
  as_many = refl;
  reads = refl;
  most = refl;
  stands = λ h represented.
      subst (λ (n : ℕ). IsAt c.args.how (g.A.RouteArchive.most c.args.archive.now) (dropped_where c.args.how.resume (intake_in h.intakes c.args.how.feed.collector)) n h (map (λ f. record { input = f.input; report = f.report }) c.args.files.now) (map (λ f. record { input = f.input; report = f.report }) c.args.files.now) 0 (g.A.RouteSource.represents c.args.archive.now) c.args.out.now c.args.out.now c.args.err.now c.args.err.now)
      (sym (c.dropped_where-dropping.ensures.dropped h represented)) (at_first _ _ _ h _ _ _ _ represented);
}

pub returns-then-not-goes_on-clause-ended : goal.returns-then-not-goes_on-clause-ended
returns-then-not-goes_on-clause-ended g c = λ h represented.
    let inv = c.loop-place.invariant in
    let k = c.loop-place.place in
    let files : List FileState = map (λ f. record { input = f.input; report = f.report }) c.args.files.now in
    let a = inv.stands h represented in
    let counted : length files ≡ length c.args.files.now = length-map c.args.files.now (λ f. record { input = f.input; report = f.report }) in
    let test = c.loop-place-test.true in
    let lt : k < length files = omega (arith, test, counted) in
    let there = next_file _ _ _ _ h files _ k _ _ _ _ _ _ _ a lt (file_at (λ f. record { input = f.input; report = f.report }) c.loop-place.files k c.index-files-place.result) in
    let marked = marked_by (nat_eq (k + 1) (length c.args.files.now)) c.args.how c.with_mark_if.result k files (record { input = c.load_next-status.new.file.input; report = c.load_next-status.new.file.report }) c.with_mark_if.ensures.last c.with_mark_if.ensures.other
    (λ e. eqb-true (k + 1) (length c.args.files.now) e ∙ sym counted) (λ e. let other = eqb-false (k + 1) (length c.args.files.now) e in omega (arith, other, counted, test)) in
    let last : c.load_next-status.result ≡ statuses.Done → drop (k + 1) files ≡ [] = λ done. none_after k files (eqb-true (k + 1) (length c.args.files.now) (c.goes_on.ensures.ends c.if-not-goes_on.true done) ∙ sym counted) in
    inr
    (subst (λ (t : List FileState). IsLoadedTo c.args.how (g.A.RouteArchive.most c.args.archive.now) (dropped_where c.args.how.resume (intake_in h.intakes c.args.how.feed.collector)) h files t c.load_next-status.result (g.A.RouteSource.represents c.load_next-status.new.archive) c.args.out.now c.load_next-status.new.out c.args.err.now c.load_next-status.new.err)
    (sym (map-set (λ f. record { input = f.input; report = f.report }) c.loop-place.files k c.load_next-status.new.file))
    (ended_at c.args.how c.with_mark_if.result _ _ _ _ _ h files _ k _ _ c.load_next-status.result _ _ _ _ _ _ _ _ a there marked inv.most last (c.load_next-status.ensures.ended a.next a.represented)))

pub returns-then-not-goes_on-clause-sound : goal.returns-then-not-goes_on-clause-sound
returns-then-not-goes_on-clause-sound g c = λ done.
    map-set_same (λ f. f.input.failed) c.loop-place.files c.loop-place.place c.load_next-status.new.file c.index-files-place.result (c.load_next-status.ensures.sound done) ∙ c.loop-place.invariant.reads

pub loop-place-preserved : goal.loop-place-preserved
loop-place-preserved g c =
    let inv = c.loop-place.invariant in
    let k = c.loop-place.place in
    let files : List FileState = map (λ f. record { input = f.input; report = f.report }) c.args.files.now in
    let counted : length files ≡ length c.args.files.now = length-map c.args.files.now (λ f. record { input = f.input; report = f.report }) in
    let test = c.loop-place-test.true in
    let on = c.goes_on.ensures.on c.if-not-goes_on.false in
    let other : k + 1 ≢ length c.args.files.now = eqb-false (k + 1) (length c.args.files.now) on.0 in
    let done = on.1 in
    record {
      goes = λ some. omega (arith, test, other);
      as_many = length-set c.loop-place.files k c.load_next-status.new.file ∙ inv.as_many;
      reads = map-set_same (λ f. f.input.failed) c.loop-place.files k c.load_next-status.new.file c.index-files-place.result (c.load_next-status.ensures.sound done) ∙ inv.reads;
      most = c.load_next-status.ensures.most ∙ inv.most;
      stands = λ h represented.
          let a = inv.stands h represented in
          let lt : k < length files = omega (arith, test, counted) in
          let there = next_file _ _ _ _ h files _ k _ _ _ _ _ _ _ a lt (file_at (λ f. record { input = f.input; report = f.report }) c.loop-place.files k c.index-files-place.result) in
          let e = c.load_next-status.ensures.ended a.next a.represented in
          subst (λ (t : List FileState). IsAt c.args.how (g.A.RouteArchive.most c.args.archive.now) (dropped_where c.args.how.resume (intake_in h.intakes c.args.how.feed.collector)) c.load_next-status.new.dropping h files t (k + 1) (g.A.RouteSource.represents c.load_next-status.new.archive) c.args.out.now c.load_next-status.new.out c.args.err.now c.load_next-status.new.err)
          (sym (map-set (λ f. record { input = f.input; report = f.report }) c.loop-place.files k c.load_next-status.new.file))
          (at_next c.args.how _ _ _ _ h files _ k _ _ _ _ _ _ _ _ _ _ a lt there (e.0, e.1, done_next c.load_next-status.result c.args.how c.with_mark_if.result _ _ _ _ _ _ _ _ _ _ _ _ _ _ (c.with_mark_if.ensures.other on.0) inv.most done e.2));
    }

pub returns-clause-ended : goal.returns-clause-ended
returns-clause-ended g c = λ h represented.
    let inv = c.loop-place.invariant in
    let files : List FileState = map (λ f. record { input = f.input; report = f.report }) c.args.files.now in
    let counted : length files ≡ length c.args.files.now = length-map c.args.files.now (λ f. record { input = f.input; report = f.report }) in
    let ended = c.loop-place-test.false in
    let empty = no_files (length c.args.files.now) c.loop-place.place inv.goes (omega (arith, ended)) in
    let none : files ≡ [] = nil_from_length files (counted ∙ empty) in
    let a = none_loaded _ _ _ _ h files _ _ _ _ _ _ _ none (inv.stands h represented) in
    inl (none, refl, a.0, a.1, a.2)

pub returns-clause-sound : goal.returns-clause-sound
returns-clause-sound g c = λ done. c.loop-place.invariant.reads
