use Rattle.std.proofs.Common.{inl, inr, refl, sym, subst}
use Rattle.std.specs.Prelude.{IsSome}
use Rattle.service.specs.declared.faults.FeedStop.{FeedStop}
use Rattle.shared_feed.specs.Offers.{IsNotTaken}
use Rattle.shared_feed.proofs.Making.{since_both, not_taken, not_taken_first, full_first, refused_full}
use Rattle.shared_feed.proofs.making_room.admit_with_room.Goals as goal

pub returns-in-Ok-clause-taken : goal.returns-in-Ok-clause-taken
returns-in-Ok-clause-taken g c = record { at = c.args.pass.now; since = inl refl; sees = c.in-Ok.ensures.sees }

pub returns-in-Some-clause-refused : goal.returns-in-Some-clause-refused
returns-in-Some-clause-refused g c = not_taken_first (IsSome g.N.OnDisk.disk) c.args.collector c.args.batch.now c.args.pass.now c.admit.new.pass c.in-Err.refusal c.in-Some.stop c.in-Some.ensures.stop c.in-Err.ensures.sees

pub returns-in-Err-apply_all-clause-since : goal.returns-in-Err-apply_all-clause-since
returns-in-Err-apply_all-clause-since g c = since_both c.args.pass.now c.admit.new.pass c.apply_all.new.pass (inr c.admit.ensures.begins) (inr c.apply_all.ensures.begins)

pub returns-in-Ok-admit-clause-since : goal.returns-in-Ok-admit-clause-since
returns-in-Ok-admit-clause-since g c =
    since_both c.args.pass.now c.apply_all.new.pass c.admit-2.new.pass (since_both c.args.pass.now c.admit.new.pass c.apply_all.new.pass (inr c.admit.ensures.begins) (inr c.apply_all.ensures.begins)) (inr c.admit-2.ensures.begins)

pub returns-in-Ok-admit-clause-taken : goal.returns-in-Ok-admit-clause-taken
returns-in-Ok-admit-clause-taken g c = record {
  at = c.apply_all.new.pass;
  since = since_both c.args.pass.now c.admit.new.pass c.apply_all.new.pass (inr c.admit.ensures.begins) (inr c.apply_all.ensures.begins);
  sees = c.in-Ok-admit.ensures.sees;
}

pub returns-in-Err-admit-clause-since : goal.returns-in-Err-admit-clause-since
returns-in-Err-admit-clause-since g c =
    since_both c.args.pass.now c.apply_all.new.pass c.admit-2.new.pass (since_both c.args.pass.now c.admit.new.pass c.apply_all.new.pass (inr c.admit.ensures.begins) (inr c.apply_all.ensures.begins)) (inr c.admit-2.ensures.begins)

pub returns-in-Err-admit-clause-refused : goal.returns-in-Err-admit-clause-refused
returns-in-Err-admit-clause-refused g c =
    let p = IsSome g.N.OnDisk.disk in
    let batch = c.args.batch.now in
    let v = c.args.pass.now in
    let full = c.admit.new.pass in
    let room = c.apply_all.new.pass in
    subst (λ (stop : FeedStop). IsNotTaken p c.args.collector batch v c.admit-2.new.pass stop) (sym c.stop_of.ensures.stop)
    (not_taken p c.args.collector batch v full room c.admit-2.new.pass c.in-Err-admit.refusal
    (refused_full p c.args.collector batch v full c.in-Err.refusal (full_first c.in-Err.refusal c.in_default.ensures.stop) c.in-Err.ensures.sees)
    c.in_default-apply_all.ensures.idle
    (since_both v full room (inr c.admit.ensures.begins) (inr c.apply_all.ensures.begins)) c.in-Err-admit.ensures.sees)
