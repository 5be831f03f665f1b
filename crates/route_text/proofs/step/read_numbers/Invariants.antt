use Rattle.std.proofs.Common.{◌≡◌, ℕ, ◌<◌, ◌^◌, List, length, decimal}
use Rattle.std.specs.List.{AllByRecursion}
use denote.Shadow.{shadow}
use denote.Text.{Utf8}
use Rattle.route_text.specs.RouteText.{numbers_text}
use Rattle.route_text.proofs.Separated.{Left}
use Rattle.route_text.proofs.step.read_numbers.Given as goal

abbrev pub invariant-loop-word : goal.invariant-loop-word
invariant-loop-word l = record {
  utf8 : shadow (Utf8 l.rest);
  left : (all : List ℕ) → 0 < length all → AllByRecursion (λ n. n < 2 ^ 32) all → l.text ≡ numbers_text 44 all → Left 44 decimal (λ n. n < 2 ^ 32) all l.numbers.items l.rest;
  valid : AllByRecursion (λ n. n < 2 ^ 32) l.numbers.items;
}

abbrev pub decreases-loop-word : goal.decreases-loop-word
decreases-loop-word l = length l.rest
