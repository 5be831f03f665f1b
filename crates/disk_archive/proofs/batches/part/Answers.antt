use Rattle.std.proofs.Common.{rules, ◌≡◌, ◌∙◌, refl, ap, sym, subst, map, List, ℕ, Some, slice_get}
use Rattle.sequencer.specs.Lanes.{marks}
use Rattle.route_meaning.specs.Holds.{admitted_time}
use Rattle.sequencer.specs.Late.{greatest}
use Rattle.interleaving_core.proofs.api.Batches.{lates_of}
use Rattle.disk_archive.proofs.batches.part.Goals as goal

pub returns-clause-kept : goal.returns-clause-kept
returns-clause-kept c mark here =
    let same : c.from.result ≡ c.args.collector = search rules in
    let sieved = c.in_ok-sieved.ensures.sieved mark (subst (λ n. slice_get (marks c.args.sequencer.now) n ≡ Some mark) (sym same) here) in
    let times : c.deref.result.now ≡ map admitted_time c.args.batch.now = c.deref.ensures.value ∙ c.in_ok-times.ensures.times in
    record {
      items = c.in_ok-timely.ensures.timely mark (c.deref-2.ensures.value ∙ lates_of admitted_time mark c.args.batch.now c.deref.result.now c.in_ok-sieved.sieved.late.items times sieved.late);
      count = refl;
      mark = sieved.mark ∙ ap (λ (l : List ℕ). greatest mark l) times;
    }
