use Rattle.std.proofs.Common.{ℕ, ◌≤◌, List, ◌++◌, take, sym, ap, ◌∙◌, arith}
use Rattle.line_reader.proofs.Windows.{grown}
use Rattle.line_reader.proofs.window.Window.read_from.Goals as goal

pub returns-clause-read : goal.returns-clause-read
returns-clause-read g c =
    let w = c.self.inside in
    let few : w.len ≤ 4096 = c.self.invariant in
    let piece = c.read_through.new.piece in
    let n = c.in_ok-count.count in
    let bound = c.in_ok-count.ensures.bound in (
      take n piece,
      sym bound.1,
      grown w.octets piece w.len _ n (omega (arith, few, c.self.told)) bound.0 ∙ ap (λ (l : List ℕ). l ++ take n piece) c.self.view_is,
      c.in_ok-count.ensures.bytes.0,
    )
