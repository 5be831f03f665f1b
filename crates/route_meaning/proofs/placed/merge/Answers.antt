use Rattle.std.proofs.Common.{rules, ◌≡◌, ap, ◌∙◌}
use Rattle.route_meaning.specs.Merged.{by_time}
use Rattle.route_meaning.specs.Holds.{time_of}
use Rattle.route_meaning.proofs.Stable.{sorted-by_time}
use Rattle.route_meaning.proofs.placed.merge.Goals as goal

pub returns : goal.returns
returns c = record {
  merged =
      sorted-by_time time_of _ _ c.in_ok-sort_by_key.ensures.sorted c.sort_by_key.ensures.stable (λ a r f' k. search rules) ∙ ap (by_time time_of) c.in_ok-all.ensures;
}
