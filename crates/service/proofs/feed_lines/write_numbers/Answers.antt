use Rattle.std.proofs.Common.{◌++◌, ℕ, List, arith, codes, decimal, flat_map, subst, take_all}
use Rattle.service.specs.Outputs.{Reports}
use Rattle.service.proofs.Lines.{more_line}
use Rattle.service.proofs.Outputs.{Reports-nil, Reports-trans}
use Rattle.service.proofs.feed_lines.write_numbers.Goals as goal

pub loop-number-init : goal.loop-number-init
loop-number-init g c = Reports-nil _

pub loop-number-preserved : goal.loop-number-preserved
loop-number-preserved g c =
    more_line (λ n. codes "|" ++ decimal n) c.args.numbers.now c.loop-number.number-index 0 c.text.new.self _ c.number.new.self (omega arith) c.loop-number.invariant
    (Reports-trans _ _ _ _ _ c.text-in-loop-number.ensures.reports c.number.ensures.reports)

pub returns : goal.returns
returns g c = record {
  line = Reports-trans _ _ _ _ _
      (Reports-trans _ _ _ _ _ c.text.ensures.reports
      (subst (λ (t : List ℕ). Reports c.text.new.self c.loop-number.out (flat_map (λ n. codes "|" ++ decimal n) t)) (take_all c.loop-number.number-index c.args.numbers.now (omega arith)) c.loop-number.invariant))
      c.text-2.ensures.reports;
}
