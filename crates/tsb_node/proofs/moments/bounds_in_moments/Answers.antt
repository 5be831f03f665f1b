use Rattle.std.proofs.Common.{ℕ, Option, ◌+◌, ◌^◌, ◌<◌, sym, subst}
use Rattle.std.specs.Option.{option_map, IfSome}
use Rattle.tsb_node.specs.Scaling.{scaled}
use Rattle.tsb_node.proofs.ScalingLaws.{scaled_rises}
use Rattle.tsb_node.proofs.moments.bounds_in_moments.Goals as goal

pub returns-clause-fits : goal.returns-clause-fits
returns-clause-fits c =
    let b = c.args.bounds.now in
    let k = c.args.k in
    let valid = c.requires.valid in
    let last = subst (λ (o : Option ℕ). IfSome o (λ n. (n + 1 < 256 ^ 16) × (b.start < n))) c.in-Some.is valid.order.end in
    let up = scaled_rises k b.start c.in-Some.end c.requires.some last.1 in
    record {
      low = valid.low;
      start = c.in_ok-start.ensures.fits;
      order = record {
        high = valid.order.high;
        end = subst (λ (o : Option ℕ). IfSome (option_map (scaled k) o) (λ n. (n + 1 < 256 ^ 16) × (scaled k b.start < n))) (sym c.in-Some.is) (c.in_ok-end.ensures.fits, up);
      };
    }
