use Rattle.std.proofs.Common.{rules, ◌≡◌, ◌∙◌, ◌<◌, ◌≤◌, ℕ, List, inl, inr, refl, sym, subst, arith}
use Rattle.once_store.specs.Readers.{reader_disk}
use Rattle.version_model.specs.Ranges.{high_or}
use Rattle.tsb_walk.specs.Touched.{AreTouched}
use Rattle.tsb_walk.proofs.Untouched.{reads_none, reads_then, reads_as}
use Rattle.tsb_walk.proofs.Walking.{honest_on}
use Rattle.tree_questions.proofs.TouchedEntries.{ends_at, not_before}
use Rattle.tree_questions.proofs.touched.touched_keys.Goals as goal

pub parts-init : goal.parts-init
parts-init g c = record {
  pages = reads_none g.P.Pages c.args.pages.now ⊥ (λ never. never);
  stays = λ all r. r;
  from = c.new-gathering.ensures.from;
  inside = omega (arith, c.new-gathering.ensures.from, c.new-gathering.ensures.high, c.key_fits.ensures.fits);
  begun = omega (arith, c.new-gathering.ensures.first);
  upto = inr c.new-gathering.ensures.first;
  gathered = λ all r. c.new-gathering.ensures.nothing all;
  on_disk = λ k. k;
  known = λ h. refl;
  disk = refl;
  capacity = refl;
  honest = (λ h. h, λ h. h);
  faults = refl;
}

pub parts-preserved : goal.parts-preserved
parts-preserved g c =
    let i = c.parts.invariant in
    let H = g.O.OnceDisk.honest_seen in
    let before : c.parts.gathering.at < c.args.end = c.is_before.ensures.0 c.parts-test.true in
    record {
      pages = reads_then g.P.Pages c.args.pages.now c.parts.pages c.take_part.new.pages ⊥ ⊥ i.pages (λ never. never) (reads_as g.P.Pages c.parts.pages c.take_part.new.pages _ ⊥ c.in_ok-take_part.ensures.same (λ e. absurd (cc)) (λ never. absurd never));
      stays = λ all r. c.in_ok-take_part.ensures.stays all (i.stays all r);
      from = c.in_ok-take_part.ensures.from ∙ i.from;
      inside = subst (λ (n : ℕ). n < high_or c.take_part.new.gathering.high) (sym c.in_ok-take_part.ensures.from) (c.in_ok-take_part.ensures.inside i.inside);
      begun = (let on = c.in_ok-take_part.ensures.onward before in omega (arith, on, i.begun));
      upto = inl c.in_ok-take_part.ensures.upto;
      gathered = λ all r. c.in_ok-take_part.ensures.gathered all c.args.first (i.stays all r) i.begun (omega (arith, before)) (i.gathered all r);
      on_disk = λ k. c.in_ok-take_part.ensures.on_disk (i.on_disk k);
      known = λ h. c.in_ok-take_part.ensures.known (subst (λ d. H d c.parts.seen) (sym i.disk) (i.honest.0 h)) ∙ i.known h;
      disk = c.in_ok-take_part.ensures.disk ∙ i.disk;
      capacity = c.in_ok-take_part.ensures.capacity ∙ i.capacity;
      honest = honest_on H (reader_disk c.args.reader.now) (reader_disk c.parts.reader) c.args.seen.now c.parts.seen c.take_part.new.seen i.disk i.honest c.in_ok-take_part.ensures.honest;
      faults = c.in_ok-take_part.ensures.quiet (λ e. absurd (cc)) ∙ i.faults;
    }

pub parts-smaller : goal.parts-smaller
parts-smaller g c = (let before : c.parts.gathering.at < c.args.end = c.is_before.ensures.0 c.parts-test.true in let on = c.in_ok-take_part.ensures.onward before in omega (arith, on, before))

pub returns-clause-keys : goal.returns-clause-keys
returns-clause-keys g c = λ all r.
    let i = c.parts.invariant in
    let high = high_or c.in_ok-touched.touched.high in
    let keys = c.in_ok-touched.touched.keys.items in
    let past : c.args.end ≤ c.parts.gathering.at = not_before c.parts.gathering.at c.args.end c.is_before.result c.is_before.ensures c.parts-test.false in
    let t = c.in_ok-touched.ensures.keys all c.args.first (omega (arith, i.inside)) (i.gathered all r) in
    ends_at all c.args.first c.parts.gathering.at c.args.end c.args.from high keys past i.upto (subst (λ (n : ℕ). AreTouched all c.args.first c.parts.gathering.at n high keys) i.from t)

pub returns-in_err-take_part-clause-on_disk : goal.returns-in_err-take_part-clause-on_disk
returns-in_err-take_part-clause-on_disk g c k = c.take_part.ensures.on_disk (c.parts.invariant.on_disk k)

pub returns-in_err-take_part-clause-blames : goal.returns-in_err-take_part-clause-blames
returns-in_err-take_part-clause-blames g c = λ all r.
    let b = c.take_part.ensures.blames all (c.parts.invariant.stays all r) in
    search (rules, b)
