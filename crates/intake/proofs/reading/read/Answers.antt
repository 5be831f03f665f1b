use Rattle.std.proofs.Common.{◌≡◌, ◌+◌, ◌++◌, take, drop, arith, sym, ap, ◌∙◌}
use Rattle.std.proofs.Math.Seq.{take-add}
use Rattle.std.proofs.lemmas.List.{drop-drop}
use Rattle.intake.proofs.Untouched.{reads_then, reads_as}
use Rattle.intake.proofs.reading.read.Goals as goal

pub loop-done-preserved : goal.loop-done-preserved
loop-done-preserved g c =
    let i = c.loop-done.invariant in
    let r = c.in_ok-read_piece.ensures.read in
    let n = r.0 in
    let few = r.2 in
    let len = r.3 in
    let is = i.is in
    let was = c.in_ok-read_piece.was in
    let done : c.len-done.result ≡ c.loop-done.done + n = omega (arith, c.len-done.ensures) in
    record {
      is = omega (arith, c.len-done.ensures);
      few = omega (arith, i.few);
      read = λ start shown stood are used stand.
          r.4 start shown stood (i.same.shown start shown are) used stand
          ∙ (ap (λ l. l ++ take n (drop (c.args.from + c.loop-done.done) stood)) (i.read start shown stood are used stand)
          ∙ (ap (λ l. take c.loop-done.done (drop c.args.from stood) ++ take n l) (sym (drop-drop c.loop-done.done c.args.from stood))
          ∙ (sym (take-add c.loop-done.done n (drop c.args.from stood)) ∙ ap (λ k. take k (drop c.args.from stood)) (sym done))));
      same = reads_as g.P.Pages c.args.pages.now c.read_piece.new.pages _ ⊥ (reads_then g.P.Pages c.args.pages.now c.loop-done.pages c.read_piece.new.pages ⊥ _ i.same (λ no. no) c.read_piece.ensures.same) (λ e. cc) (λ no. absurd no);
    }
