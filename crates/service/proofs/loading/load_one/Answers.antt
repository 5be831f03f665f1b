use Rattle.std.proofs.Common.{◌∙◌, ℕ, Bool, IsTrue, ◌↔◌, Option, None, arith, inl, subst, sym, ap, refl}
use Rattle.route_meaning.specs.History.{History}
use Rattle.interleaving_core.specs.Steps.{IsCollector}
use Rattle.service.specs.Loads.{IsSettled, marked_if}
use Rattle.service.specs.Doubts.{IsHeld}
use Rattle.service.specs.FileLoads.{mark_unless, refused_if}
use Rattle.service.specs.Feeds.{Sums, limits_for}
use Rattle.service.specs.Outputs.{Reports}
use Rattle.service.specs.FeedLines.{settled_line}
use Rattle.service.specs.declared.intake.End.{End}
use Rattle.service.specs.Faults.{of_load}
use Rattle.service.specs.Refusals.{ReportsError}
use Rattle.service.specs.inner.Loading.{HasNotSettled, first_of, mark_after, status_after, reported_as}
use Rattle.service.specs.declared.refusal.Refusal.{Refusal}
use Rattle.service.proofs.Streams.{some_given}
use Rattle.service.proofs.Unloading.{done_inside, done_plain, first_unsettled, load_ends, load_stops, load_nowhere, refused_undone, weighed}
use Rattle.service.proofs.loading.load_one.Goals as goal

pub returns-then-collector-collectors : goal.returns-then-collector-collectors
returns-then-collector-collectors g c = record {
  ended = λ h represented.
      let how = c.args.how in
      let count = c.collectors.ensures.count h represented in
      let few = c.if-collector-collectors.true in
      let given = some_given c.args.reader.now.left in
      let most = g.A.RouteArchive.most c.args.archive.now in
      let sums : Sums = record { counts = None; left_out = 0; left = c.args.dropping.now; mark = 0 } in (
        given.0,
        given.1,
        record {
          sums = sums;
          drops = refl;
          reported = record {
            begun = c.new.ensures.begun;
            counts = c.new.ensures.counts;
            left_out = c.new.ensures.left_out;
            drops = let none = c.new.ensures.dropped in omega (arith, none);
            held = subst (λ (b : Bool). IsTrue b ↔ IsHeld how.strict how.mark None 0 0) (sym c.new.ensures.held) (λ e. absurd cc, λ e. absurd e);
          };
          plain = c.reported.result;
          status_is = ap (λ (b : Bool). refused_if b c.reported.result) (sym c.new.ensures.held);
          ended =
              load_nowhere c.reported.result how.feed.rule how.feed.collector c.args.dropping.now (limits_for how.feed most) _ h given.0 sums c.args.reader.now.failed (g.A.RouteSource.represents c.args.archive.now) c.args.out.now c.args.err.now c.write_error.new.out c.reported.new.err (λ here. absurd (omega (arith, here, count, few))) represented refl c.reported.ensures.status (record { reported = c.reported.ensures.reported; quiet = c.reported.ensures.quiet })
              (inl (rw c.from.ensures at c.write_error.ensures.line));
        },
      );
  most = refl;
  sound = λ done. refl;
}

pub returns-in-Ok : goal.returns-in-Ok
returns-in-Ok g c = record {
  ended = λ h represented.
      let how = c.args.how in
      let k = how.feed.collector in
      let limit = limits_for how.feed (g.A.RouteArchive.most c.args.archive.now) in
      let count = c.collectors.ensures.count h represented in
      let some = c.if-collector-collectors.false in
      let here : IsCollector h k = omega (arith, count, some) in
      let fed = c.feed-end.ensures.ended h represented in
      let held = c.is_held-held.result in
      let less = c.saturating_sub-dropped.result in
      let sums : Sums = record { counts = c.feed-end.new.counts; left_out = c.feed-end.new.left_out; left = c.feed-end.new.dropping; mark = fed.4 } in (
        fed.0,
        fed.1,
        record {
          sums = sums;
          drops = refl;
          reported = record {
            begun = c.new.ensures.begun;
            counts = refl;
            left_out = refl;
            drops = c.saturating_sub-dropped.ensures;
            held = weighed fed.2 how.strict held how.mark less how.feed.rule k c.args.dropping.now limit h fed.0 sums (g.A.RouteSource.represents c.feed-end.new.archive) c.args.out.now c.feed-end.new.out fed.5
                (λ past stands. subst (λ (n : ℕ). IsTrue held ↔ IsHeld how.strict how.mark c.feed-end.new.counts less n) (c.present_mark-present.ensures.present past stands) c.is_held-held.ensures.held);
          };
          plain = c.reported-in-Ok.result;
          status_is = c.refused_if.ensures.status;
          ended =
              load_ends fed.2 c.reported-in-Ok.result how.feed.rule k c.args.dropping.now limit (mark_unless held how.mark) h fed.0 sums c.args.reader.now.failed c.feed-end.new.reader.failed (g.A.RouteSource.represents c.feed-end.new.archive) (g.A.RouteSource.represents c.settle.new.archive) c.args.out.now c.feed-end.new.out c.write_settled.new.out c.args.err.now c.reported-in-Ok.new.err here fed.5 fed.6
              (subst (λ (m : Option ℕ). (past : History) → g.A.RouteSource.represents c.feed-end.new.archive past → IsSettled (marked_if k m past).intakes (g.A.RouteSource.represents c.settle.new.archive))
              (c.mark_after.ensures.mark ∙ ap (mark_after c.feed-end.result) c.mark_unless-mark.ensures.mark ∙ ap (λ (e : End). mark_after e (mark_unless held how.mark)) fed.3) c.in-Ok.ensures.settled)
              (λ past stands. subst (λ (n : ℕ). Reports c.feed-end.new.out c.write_settled.new.out (settled_line n)) (c.settled.ensures.settled past stands) c.write_settled.ensures.line)
              (c.reported-in-Ok.ensures.status ∙ ap (reported_as c.write_settled.new.out.failed c.args.err.now.failed) (c.status_after.ensures.status ∙ ap status_after fed.3)) (record { reported = c.reported-in-Ok.ensures.reported; quiet = c.reported-in-Ok.ensures.quiet });
        },
      );
  most = c.settle.ensures.most ∙ c.feed-end.ensures.most;
  sound = λ done. c.feed-end.ensures.sound
      (λ up. done_inside _ _ c.feed-end.result (ap (reported_as c.write_settled.new.out.failed c.args.err.now.failed) (sym c.status_after.ensures.status) ∙ sym c.reported-in-Ok.ensures.status ∙ done_plain c.is_held-held.result _ _ c.refused_if.ensures.status done) up);
}

pub returns-in-Err : goal.returns-in-Err
returns-in-Err g c = record {
  ended = λ h represented.
      let how = c.args.how in
      let rule = how.feed.rule in
      let k = how.feed.collector in
      let limit = limits_for how.feed (g.A.RouteArchive.most c.args.archive.now) in
      let count = c.collectors.ensures.count h represented in
      let some = c.if-collector-collectors.false in
      let here : IsCollector h k = omega (arith, count, some) in
      let fed = c.feed-end.ensures.ended h represented in
      let held = c.is_held-held.result in
      let less = c.saturating_sub-dropped.result in
      let sums : Sums = record { counts = c.feed-end.new.counts; left_out = c.feed-end.new.left_out; left = c.feed-end.new.dropping; mark = fed.4 } in (
        fed.0,
        fed.1,
        record {
          sums = sums;
          drops = refl;
          reported = record {
            begun = c.new.ensures.begun;
            counts = refl;
            left_out = refl;
            drops = c.saturating_sub-dropped.ensures;
            held = weighed fed.2 how.strict held how.mark less rule k c.args.dropping.now limit h fed.0 sums (g.A.RouteSource.represents c.feed-end.new.archive) c.args.out.now c.feed-end.new.out fed.5
                (λ past stands. subst (λ (n : ℕ). IsTrue held ↔ IsHeld how.strict how.mark c.feed-end.new.counts less n) (c.present_mark-present.ensures.present past stands) c.is_held-held.ensures.held);
          };
          plain = c.reported-in-Err.result;
          status_is = c.refused_if-in-Err.ensures.status;
          ended =
              load_stops fed.2 c.reported-in-Err.result rule k c.args.dropping.now limit (mark_unless held how.mark) h fed.0 sums c.args.reader.now.failed c.feed-end.new.reader.failed (g.A.RouteSource.represents c.feed-end.new.archive) (g.A.RouteSource.represents c.settle.new.archive) c.args.out.now c.feed-end.new.out c.args.err.now c.report_trouble.new.err c.reported-in-Err.new.err (first_of c.feed-end.result c.in-Err.why) here fed.5 fed.6
              (subst (λ (m : Option ℕ). (past : History) → g.A.RouteSource.represents c.feed-end.new.archive past → HasNotSettled k m past (g.A.RouteSource.represents c.settle.new.archive) (first_of c.feed-end.result c.in-Err.why))
              (c.mark_after.ensures.mark ∙ ap (mark_after c.feed-end.result) c.mark_unless-mark.ensures.mark ∙ ap (λ (e : End). mark_after e (mark_unless held how.mark)) fed.3) (λ past stands. first_unsettled c.feed-end.result c.in-Err.why _ _ _ _ (c.in-Err.ensures.unsettled past stands)))
              c.reported-in-Err.ensures.status (record { reported = c.reported-in-Err.ensures.reported; quiet = c.reported-in-Err.ensures.quiet })
              (subst (λ (r : Refusal). ReportsError r c.args.err.now c.report_trouble.new.err) (c.from-refusal.ensures ∙ ap of_load c.first_of.ensures.first) c.report_trouble.ensures.reported);
        },
      );
  most = c.settle.ensures.most ∙ c.feed-end.ensures.most;
  sound = λ done. absurd (refused_undone _ _ (sym c.reported-in-Err.ensures.status ∙ done_plain c.is_held-held.result _ _ c.refused_if-in-Err.ensures.status done));
}
