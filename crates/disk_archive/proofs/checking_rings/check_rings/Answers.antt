use Rattle.std.proofs.Common.{rules, ◌≡◌, ◌≢◌, ◌<◌, ℕ, Result, Ok, Err, IfErr, sym, ◌∙◌, ap, subst, arith, ⊎_elim}
use Rattle.std.proofs.lemmas.Bool.{cases_eq}
use Rattle.std.proofs.lemmas.Option.{slice_get_within}
use Rattle.archive_head.specs.declared.lane.Lane.{Lane}
use Rattle.archive_pages.specs.Batches.{HasLane}
use Rattle.archive_pages.specs.Places.{ring_of}
use Rattle.intake.proofs.Untouched.{reads_as, reads_then}
use Rattle.disk_archive.specs.declared.check_error.CheckError.{CheckError}
use Rattle.disk_archive.specs.declared.check_error.CheckError.TheVariants as checks
use Rattle.disk_archive.specs.Rings.{IsReadRing}
use Rattle.disk_archive.specs.inner.Checking.{FindsNone}
use Rattle.disk_archive.proofs.Plans.{lane_at}
use Rattle.disk_archive.proofs.checking_rings.check_rings.Goals as goal

-- what is done failed no device
no_fault : {T : Type 0} (r : Result T CheckError) (x : T) → r ≡ Ok x → r ≡ Err checks.Fault → ⊥
no_fault r x was is = cc

pub returns-in_err-check_ring-clause-finds : goal.returns-in_err-check_ring-clause-finds
returns-in_err-check_ring-clause-finds g c start shown are rings =
    let i = c.loop-collector.invariant in
    let k = c.loop-collector.collector in
    let all = c.requires.lanes in
    let lane = lane_at k c.args.head.now.lanes (omega (arith, all)) in
    let f = c.check_ring.ensures.finds start shown lane.0 (i.same.shown start shown are) lane.1 (rings k lane.0 lane.1) in
    search (rules, f)

pub loop-collector-preserved : goal.loop-collector-preserved
loop-collector-preserved g c =
    let i = c.loop-collector.invariant in
    let at = c.loop-collector.collector in
    record {
      read = λ start shown k lane are lt has. ⊎_elim
          (λ (e : k ≡ at).
          let here : HasLane c.args.head.now at lane = subst (λ (n : ℕ). HasLane c.args.head.now n lane) e has in
          subst (λ (n : ℕ). IsReadRing shown (ring_of c.args.settings n lane)) (sym e) (c.in_ok-check_ring.ensures.read start shown lane (i.same.shown start shown are) here))
          (λ (ne : k ≢ at). i.read start shown k lane are (omega (arith, lt, ne)) has)
          (cases_eq k at);
      same = reads_as g.P.Pages c.args.pages.now c.check_ring.new.pages _ ⊥ (reads_then g.P.Pages c.args.pages.now c.loop-collector.pages c.check_ring.new.pages ⊥ _ i.same (λ no. no) c.check_ring.ensures.same) (λ e. no_fault c.check_ring.result c.in_ok-check_ring.field-0 c.in_ok-check_ring.was e) (λ no. absurd no);
    }

pub returns-clause-read : goal.returns-clause-read
returns-clause-read g c start shown are collector lane has =
    let i = c.loop-collector.invariant in
    let all = c.requires.lanes in
    let low = slice_get_within c.args.head.now.lanes collector lane has in
    let end = c.loop-collector-test.false in
    i.read start shown collector lane are (omega (arith, all, low, end)) has
