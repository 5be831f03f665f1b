use Rattle.std.proofs.Common.{ℕ, List, rules, ◌≡◌, ◌∙◌, Err, refl, sym, subst, arith}
use Rattle.once_store.specs.declared.error.BlockError.TheVariants.{Damaged}
use Rattle.once_store.specs.Readers.{reader_disk}
use Rattle.tsb_walk.specs.BlockWays.{here, further}
use Rattle.tsb_walk.specs.Knowing.{IsKnown}
use Rattle.tsb_walk.specs.inner.Steps.{IsStep, GoesDown}
use Rattle.tsb_walk.proofs.Walking.{known_along, only_kept, place_block, place_fit, represents_all_on, has_leaf, honest_on}
use Rattle.tsb_walk.proofs.walk.leaf_place.Goals as goal

pub loop-at-init : goal.loop-at-init
loop-at-init g c = record {
  point = c.requires.point;
  low = omega arith;
  walked = λ well known. (here c.args.place.now, well);
  represents_all = λ all represents_all. represents_all;
  inside = λ k. k;
  same = λ h. refl;
  disk = refl;
  capacity = refl;
  honest = (λ h. h, λ h. h);
  faults = refl;
}

pub returns-in_err-take_step-clause-reads : goal.returns-in_err-take_step-clause-reads
returns-in_err-take_step-clause-reads g c = λ all represents_all.
    let now = c.loop-at.invariant.represents_all all represents_all in
    let fit = place_block g.O.OnceDisk c.loop-at.reader c.take_step.new.reader c.loop-at.seen c.take_step.new.seen all c.loop-at.at now in
    c.take_step.ensures.reads now.well fit.0 fit.1

pub returns-in_err-take_step-clause-never : goal.returns-in_err-take_step-clause-never
returns-in_err-take_step-clause-never g c = λ all represents_all m e.
    let now = c.loop-at.invariant.represents_all all represents_all in
    let fit = place_fit g.O.OnceDisk c.loop-at.reader c.take_step.new.reader c.loop-at.seen c.take_step.new.seen all c.loop-at.at now c.args.key c.args.stamp c.loop-at.invariant.point in
    let d : c.take_step.result ≡ Err (Damaged m) = search rules in
    c.take_step.ensures.unfit now.well fit.0 fit.1 m d fit.2

pub returns-in-InLeaf-clause-leaf : goal.returns-in-InLeaf-clause-leaf
returns-in-InLeaf-clause-leaf g c = λ all represents_all.
    let now = c.loop-at.invariant.represents_all all represents_all in
    has_leaf g.O.OnceDisk c.loop-at.reader c.take_step.new.reader c.loop-at.seen c.take_step.new.seen all c.loop-at.at now c.args.key c.args.stamp c.loop-at.invariant.point (c.take_step.ensures.same now.well.honest)
    (λ octets is fit. subst (IsStep c.loop-at.at octets c.args.key c.args.stamp) c.in-InLeaf.is (c.in_ok-take_step.ensures.step now.well octets is fit))
    (λ octets is. c.take_step.ensures.reads now.well octets is)

pub returns-in-InLeaf-clause-reads : goal.returns-in-InLeaf-clause-reads
returns-in-InLeaf-clause-reads g c = λ all represents_all.
    let now = c.loop-at.invariant.represents_all all represents_all in
    let fit = place_block g.O.OnceDisk c.loop-at.reader c.take_step.new.reader c.loop-at.seen c.take_step.new.seen all c.loop-at.at now in
    c.take_step.ensures.reads now.well fit.0 fit.1

pub loop-at-preserved : goal.loop-at-preserved
loop-at-preserved g c =
    let i = c.loop-at.invariant in
    let H = g.O.OnceDisk.honest_seen in
    let down = subst (GoesDown c.loop-at.at c.args.key c.args.stamp) c.in-Further.is c.in_ok-take_step.ensures.down in
    record {
      point = down.1;
      low = omega (arith, down.0, i.low);
      walked = λ well known.
          let w = i.walked well known in
          let K = g.O.OnceDisk.known c.args.seen.now in
          let N = g.O.OnceDisk.block_count (reader_disk c.args.reader.now) in
          let k = known c.loop-at.at.part.block i.low in
          let on : (octets : List ℕ) → IsKnown K N c.loop-at.at.part.block octets → IsKnown (g.O.OnceDisk.known c.loop-at.seen) (g.O.OnceDisk.block_count (reader_disk c.loop-at.reader)) c.loop-at.at.part.block octets =
          λ octets is. known_along g.O.OnceDisk c.args.reader.now c.loop-at.reader c.args.seen.now c.loop-at.seen (i.same well.honest) i.disk c.loop-at.at.part.block octets is in (
            further c.args.place.now c.loop-at.at c.in-Further.next w.0 (record {
              leads = λ octets is fit. subst (IsStep c.loop-at.at octets c.args.key c.args.stamp) c.in-Further.is (c.in_ok-take_step.ensures.step w.1 octets (on octets is) fit);
              lower = down.0;
              point = down.1;
            }),
            c.take_step.ensures.reads w.1 k.0 (on k.0 k.1),
          );
      represents_all = λ all represents_all.
          let now = i.represents_all all represents_all in
          represents_all_on g.O.OnceDisk c.loop-at.reader c.take_step.new.reader c.loop-at.seen c.take_step.new.seen all c.loop-at.at now c.args.key c.args.stamp c.in-Further.next i.point (c.take_step.ensures.same now.well.honest) c.take_step.ensures.disk
          (λ octets is fit. subst (IsStep c.loop-at.at octets c.args.key c.args.stamp) c.in-Further.is (c.in_ok-take_step.ensures.step now.well octets is fit))
          (λ octets is. c.take_step.ensures.reads now.well octets is);
      inside = λ k. c.take_step.ensures.inside (i.inside k);
      same = λ h. c.take_step.ensures.same (subst (λ d. H d c.loop-at.seen) (sym i.disk) (i.honest.0 h)) ∙ i.same h;
      disk = c.take_step.ensures.disk ∙ i.disk;
      capacity = c.take_step.ensures.capacity ∙ i.capacity;
      honest = honest_on H (reader_disk c.args.reader.now) (reader_disk c.loop-at.reader) c.args.seen.now c.loop-at.seen c.take_step.new.seen i.disk i.honest c.take_step.ensures.honest;
      faults = c.in_ok-take_step.ensures.quiet (λ e. absurd (cc)) ∙ i.faults;
    }

pub returns-in_err-take_step-clause-inside : goal.returns-in_err-take_step-clause-inside
returns-in_err-take_step-clause-inside g c = λ k. c.take_step.ensures.inside (c.loop-at.invariant.inside k)

pub returns-in-InLeaf-clause-inside : goal.returns-in-InLeaf-clause-inside
returns-in-InLeaf-clause-inside g c = λ k. c.take_step.ensures.inside (c.loop-at.invariant.inside k)

pub returns-in_err-take_step-clause-damaged : goal.returns-in_err-take_step-clause-damaged
returns-in_err-take_step-clause-damaged g c = λ well known m e.
    let d : c.take_step.result ≡ Err (Damaged m) = search rules in
    let i = c.loop-at.invariant in
    let w = i.walked well known in
    record {
      last = c.loop-at.at;
      way = w.0;
      is = sym (c.take_step.ensures.number m d);
      bad = λ octets is fit. c.take_step.ensures.unfit w.1 octets (known_along g.O.OnceDisk c.args.reader.now c.loop-at.reader c.args.seen.now c.loop-at.seen (i.same well.honest) i.disk c.loop-at.at.part.block octets is) m d fit;
    }

pub returns-in-InLeaf-clause-arrives : goal.returns-in-InLeaf-clause-arrives
returns-in-InLeaf-clause-arrives g c = λ well known.
    let i = c.loop-at.invariant in
    let w = i.walked well known in
    record {
      way = w.0;
      kind = subst (GoesDown c.loop-at.at c.args.key c.args.stamp) c.in-InLeaf.is c.in_ok-take_step.ensures.down;
      only = λ octets is block kept.
          let on = known_along g.O.OnceDisk c.args.reader.now c.loop-at.reader c.args.seen.now c.loop-at.seen (i.same well.honest) i.disk c.loop-at.at.part.block octets is in
          only_kept g.O.OnceDisk c.loop-at.reader c.take_step.new.reader c.loop-at.seen c.take_step.new.seen c.loop-at.at.part.block octets (c.take_step.ensures.reads w.1 octets on) (c.take_step.ensures.same w.1.honest) on block kept;
    }
