use Rattle.std.proofs.Common.{◌≡◌, ◌++◌, ◌+◌, ◌∙◌, [], List, length, map, ap, subst, refl, arith}
use Rattle.route_model.specs.Admission.{Admitted}
use Rattle.route_meaning.specs.Holds.{admitted_time}
use Rattle.route_meaning.specs.History.{Intake}
use Rattle.sequencer.specs.Late.{greatest, timely, lates}
use Rattle.interleaving_core.specs.Steps.{with_batch}
use Rattle.interleaving_core.specs.Does.{IsReply}
use Rattle.interleaving_core.proofs.api.Batches.{lates_of}
use Rattle.interleaving_core.proofs.given.Given.take_in.Goals as goal

pub returns-clause-taken : goal.returns-clause-taken
returns-clause-taken c =
    let g = c.self.inside in
    let batch = c.args.batch.now in
    let times : c.deref.result.now ≡ map admitted_time batch = c.deref.ensures.value ∙ c.in_ok-times.ensures.times in
    let late = lates_of admitted_time g.mark batch c.deref.result.now c.in_ok-sieved.sieved.late.items times c.in_ok-sieved.ensures.late in
    let kept = c.in_ok-kept.ensures.timely g.mark (c.deref-2.ensures.value ∙ late) in
    let admitted : c.append.new.self.items ≡ g.admitted.items ++ timely admitted_time g.mark [] batch = c.in_ok-append.ensures.items ∙ ap (λ (l : List Admitted). g.admitted.items ++ l) kept in
    let mark : c.in_ok-sieved.sieved.mark ≡ greatest g.mark (map admitted_time batch) = c.in_ok-sieved.ensures.mark ∙ ap (greatest g.mark) times in
    let offered : c.in-Some.offered ≡ g.offered + length batch = omega (arith, c.in-Some.ensures.1) in
    (λ i. record { admitted = admitted i; mark = mark i; offered = offered i }) ∙ ap (with_batch batch) c.self.view_is

pub returns-clause-reply : goal.returns-clause-reply
returns-clause-reply c =
    let g = c.self.inside in
    let batch = c.args.batch.now in
    let times : c.deref.result.now ≡ map admitted_time batch = c.deref.ensures.value ∙ c.in_ok-times.ensures.times in
    let late : c.in_ok-sieved.sieved.late.items ≡ lates admitted_time g.mark [] 0 batch = lates_of admitted_time g.mark batch c.deref.result.now c.in_ok-sieved.sieved.late.items times c.in_ok-sieved.ensures.late in
    let kept = ap length (c.in_ok-kept.ensures.timely g.mark (c.deref-2.ensures.value ∙ late)) in
    subst (λ (x : Intake). IsReply x c.args.collector batch (record { receipt = record { collector = c.args.collector; from = c.len-from.result; to = c.len.result }; offered = c.in-Some.offered; late = c.in_ok-sieved.sieved.late })) c.self.view_is (record {
      collector = refl;
      from = omega (arith, c.len-from.ensures, g.admitted.ok.0);
      to = omega (arith, c.len.ensures, c.in_ok-append.ensures.len, kept, g.admitted.ok.0, c.in_ok-kept.kept.ok.0);
      offered = omega (arith, c.in-Some.ensures.1);
      late = late;
    })
