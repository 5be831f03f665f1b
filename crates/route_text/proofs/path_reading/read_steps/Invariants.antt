use Rattle.std.proofs.Common.{◌≡◌, ◌<◌, ◌++◌, List, length, map}
use Rattle.std.specs.List.{AllByRecursion, join_with_byte}
use denote.Shadow.{shadow}
use denote.Text.{Utf8}
use Rattle.route_text.specs.declared.step.Step.{Step}
use Rattle.route_text.specs.inner.Steps.{IsStep, step_text, steps, run, IsBuilt}
use Rattle.route_text.proofs.Separated.{Left}
use Rattle.route_text.proofs.path_reading.read_steps.Given as goal

abbrev pub invariant-loop-word : goal.invariant-loop-word
invariant-loop-word l = record {
  utf8 : shadow (Utf8 l.rest);
  left : (all : List Step) → 0 < length all → AllByRecursion IsStep all → l.text ≡ join_with_byte 32 (map step_text all) → Left 32 step_text IsStep all (steps (l.builder.closed.items ++ run l.builder.run.items)) l.rest;
  built : IsBuilt l.builder.closed.items l.builder.run.items;
}

abbrev pub decreases-loop-word : goal.decreases-loop-word
decreases-loop-word l = length l.rest
