use Rattle.std.proofs.Common.{subst, List, ℕ}
use Rattle.mrt_records.specs.inner.Front.{IsFront, IsPart}
use Rattle.mrt_records.specs.Records.{Over}
use Rattle.mrt_records.specs.declared.front.Front.TheVariants as fronts
use Rattle.mrt_records.proofs.api.Streams.{filled_record, filled_part, filled_beyond}
use Rattle.mrt_records.proofs.feeding.feed_held.Goals as goal

pub feed_whole-requires : goal.feed_whole-requires
feed_whole-requires c =
    filled_record _ _ _ _ c.in-Whole.field-0 c.in_ok-moved.ensures.ok (subst (λ (t : List ℕ). IsFront t (fronts.Whole c.in-Whole.field-0)) c.deref.ensures.value c.in-Whole.ensures)

pub returns-in-Part-clause-ok : goal.returns-in-Part-clause-ok
returns-in-Part-clause-ok c = filled_part _ _ _ _ _ c.in_ok-moved.ensures.ok (subst (λ (t : List ℕ). IsPart t) c.deref.ensures.value c.in-Part.ensures)

pub returns-in-Over-clause-ok : goal.returns-in-Over-clause-ok
returns-in-Over-clause-ok c = filled_beyond _ _ _ _ _ c.in_ok-moved.ensures.ok (subst (λ (t : List ℕ). Over t) c.deref.ensures.value c.in-Over.ensures)
