use Rattle.std.proofs.Common.{◌≡◌, ◌∙◌, Bool, true, false, Option, Result, Err, inl, inr, ap, refl, ⊎_elim}
use Rattle.service.specs.declared.intake.End.{End}
use Rattle.service.specs.declared.intake.End.TheVariants.{Well, Cut, Refused}
use Rattle.service.specs.Feeds.{as_reported, limits_for}
use Rattle.service.specs.declared.faults.FeedCut.{FeedCut}
use Rattle.service.specs.declared.faults.FeedStop.{FeedStop}
use Rattle.service.specs.declared.faults.FeedStop.TheVariants.{Outside}
use Rattle.service.proofs.GivingUp.{given_up_reported}
use Rattle.service.proofs.intake.feed.Goals as goal

same_stop : (why : FeedStop) → ◌≡◌ {A = End} (Refused why) (Refused Outside) → why ≡ Outside
same_stop why e = cc

-- what was given up for what is outside is reported so
reported_outside : (failed : Bool) (why : FeedStop) → why ≡ Outside → as_reported failed (Refused why) ≡ Refused Outside
reported_outside true why is = refl
reported_outside false why is = ap (λ (t : FeedStop). Refused t) is

err_is : (why : FeedStop) → ◌≡◌ {A = Result (Option FeedCut) FeedStop} (Err why) (Err Outside) → why ≡ Outside
err_is why e = cc

not_well : ◌≡◌ {A = End} Well (Refused Outside) → ⊥
not_well e = absurd cc

not_cut : ◌≡◌ {A = End} Cut (Refused Outside) → ⊥
not_cut e = absurd cc

pub returns-in-Ok-None : goal.returns-in-Ok-None
returns-in-Ok-None g c = record {
  ended = λ h represented. let fed = rw c.in-Ok-None.field-0-is at (c.in-Ok-None.ensures.fed h represented) in (fed.0, fed.1, Well, c.as_reported.ensures.reported, fed.2, fed.3, record { outside = λ e. absurd (not_well e); inside = λ none. c.in-Ok-None.ensures.sound (λ e. absurd cc) });
  most = c.in-Ok-None.ensures.most;
  outside = λ e. ⊎_elim (λ failed. inr failed) (λ same. absurd (not_well same)) (c.as_reported.ensures.outside e);
  sound = λ none. c.in-Ok-None.ensures.sound (λ e. absurd cc);
}

pub returns-in-Ok-Some : goal.returns-in-Ok-Some
returns-in-Ok-Some g c = record {
  ended = λ h represented. let fed = rw c.in-Ok-Some.field-0-is at (c.in-Ok-Some.ensures.fed h represented) in (fed.0, fed.1, Cut, c.as_reported-in-Ok-Some.ensures.reported, fed.2, (_, fed.3), record { outside = λ e. absurd (not_cut e); inside = λ none. c.in-Ok-Some.ensures.sound (λ e. absurd cc) });
  most = c.in-Ok-Some.ensures.most;
  outside = λ e. ⊎_elim (λ failed. inr failed) (λ same. absurd (not_cut same)) (c.as_reported-in-Ok-Some.ensures.outside e);
  sound = λ none. c.in-Ok-Some.ensures.sound (λ e. absurd cc);
}

pub returns-in-Err : goal.returns-in-Err
returns-in-Err g c = record {
  ended = λ h represented.
      let up = c.in-Err.ensures.given_up h represented in (
        up.0,
        up.1,
        Refused c.in-Err.why,
        c.as_reported-in-Err.ensures.reported,
        0,
        given_up_reported c.args.how.rule c.args.how.collector c.args.dropping.now (limits_for c.args.how (g.A.RouteArchive.most c.args.archive.now)) h up.0 _ (g.A.RouteSource.represents c.take_in.new.archive) _ _ _ c.in-Err.why up.2 c.report_stop.ensures.reported c.in-Err.ensures.uncounted,
        record {
          outside = λ e. ⊎_elim (λ failed. inl failed) (λ failed. inr (c.report_stop.ensures.reported.stays failed).0) (c.in-Err.ensures.outside (ap Err (same_stop c.in-Err.why e)));
          inside = λ none. c.in-Err.ensures.sound (λ e. none (ap (λ (t : FeedStop). Refused t) (err_is c.in-Err.why e)));
        },
      );
  most = c.in-Err.ensures.most;
  outside = λ e.
      ⊎_elim (λ failed. inr failed)
      (λ same. ⊎_elim (λ failed. inl failed) (λ failed. inr (c.report_stop.ensures.reported.stays failed).0) (c.in-Err.ensures.outside (ap Err (same_stop c.in-Err.why same))))
      (c.as_reported-in-Err.ensures.outside e);
  sound = λ none. c.in-Err.ensures.sound (λ e. none (c.as_reported-in-Err.ensures.reported ∙ reported_outside _ c.in-Err.why (err_is c.in-Err.why e)));
}
