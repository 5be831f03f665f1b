use Rattle.std.proofs.Common.{ℕ, ◌-◌, ◌≤◌, List, take, drop, ap, ◌∙◌, length, arith}
use Rattle.std.proofs.lemmas.List.{length-take}
use Rattle.line_reader.proofs.Windows.{shifted}
use Rattle.line_reader.proofs.window.Window.consume.Goals as goal

pub returns : goal.returns
returns c =
    let w = c.self.inside in
    let few : w.len ≤ 4096 = c.self.invariant in
    let within : c.args.count ≤ w.len = omega (arith, ap length c.self.view_is, length-take w.len w.octets, c.requires.within) in
    record {
      rest =
          ap (λ (l : List ℕ). take (w.len - c.args.count) l) c.copy_within.ensures.after
          ∙ shifted w.octets w.len c.args.count within (omega (arith, few, c.self.told))
          ∙ ap (λ (l : List ℕ). drop c.args.count l) c.self.view_is;
    }
