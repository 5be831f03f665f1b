use Rattle.std.proofs.Common.{◌≡◌, ◌<◌, List, length}
use Rattle.std.specs.List.{AllByRecursion}
use denote.Shadow.{shadow}
use denote.Text.{Utf8}
use Rattle.route_model.specs.declared.attribute.Attribute.{Attribute}
use Rattle.route_model.specs.Encoding.{IsAttribute}
use Rattle.route_text.specs.RouteText.{attribute_text, attributes_text}
use Rattle.route_text.proofs.Separated.{Left}
use Rattle.route_text.proofs.attribute_reading.read_each_attribute.Given as goal

abbrev pub invariant-loop-word : goal.invariant-loop-word
invariant-loop-word l = record {
  utf8 : shadow (Utf8 l.rest);
  left : (all : List Attribute) → 0 < length all → AllByRecursion IsAttribute all → l.text ≡ attributes_text all → Left 32 attribute_text IsAttribute all l.items.items l.rest;
  valid : AllByRecursion IsAttribute l.items.items;
}

abbrev pub decreases-loop-word : goal.decreases-loop-word
decreases-loop-word l = length l.rest
