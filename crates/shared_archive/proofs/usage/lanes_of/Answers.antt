use Rattle.std.proofs.Common.{◌∙◌, ◌+◌, map, ap}
use Rattle.std.specs.List.{slice_get}
use Rattle.interleaving_core.specs.World.{resume_of}
use Rattle.query_threads.specs.declared.usage.Lane.{Lane}
use Rattle.shared_archive.proofs.Lanes.{each_after, length_after}
use Rattle.shared_archive.proofs.Reporting.{honest_of}
use Rattle.shared_archive.proofs.usage.lanes_of.Goals as goal

pub loop-collector-preserved : goal.loop-collector-preserved
loop-collector-preserved g c =
    let before = c.loop-collector.lanes.items in
    let after = c.push.new.self.items in
    let number = c.loop-collector.invariant.number in
    record {
      number = length_after before after _ c.in_ok-push.ensures.items ∙ ap (λ n. n + 1) number;
      each = λ p past. (
          let resumes = map resume_of p.history.intakes in
          let here = c.resume.ensures.resume (honest_of c.args.archive.now p.history past.goes_on) p.history (λ honest. past.goes_on) in
          each_after (λ (l : Lane). l.resume) before after _ resumes c.in_ok-push.ensures.items (c.loop-collector.invariant.each p past) (ap (λ n. slice_get resumes n) number ∙ here));
    }
