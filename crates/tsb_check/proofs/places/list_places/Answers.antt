use Rattle.std.proofs.Common.{◌++◌, List, [], ap, arith}
use Rattle.version_model.specs.declared.part.Place.{Place}
use Rattle.tsb_check.specs.Counted.{places_of}
use Rattle.tsb_check.proofs.Placed.{placed_more, placed_all}
use Rattle.tsb_check.proofs.places.list_places.Goals as goal

pub loop-i-init : goal.loop-i-init
loop-i-init c = ap (λ (xs : List Place). xs ++ places_of c.args.bounds.now c.args.parts.now) c.new-places.ensures.items

pub loop-i-preserved : goal.loop-i-preserved
loop-i-preserved c =
    placed_more c.args.bounds.now c.args.parts.now c.loop-i.i c.place_at.result.part c.place_at.result c.loop-i.places.items c.keep.new.kept.items (places_of c.args.bounds.now c.args.parts.now)
    c.place_at.ensures.part (λ j. record { bounds = c.place_at.ensures.bounds j; part = c.place_at.result.part }) c.in_ok-keep.ensures c.loop-i.invariant

pub returns : goal.returns
returns c = placed_all c.args.bounds.now c.args.parts.now c.loop-i.i c.loop-i.places.items (places_of c.args.bounds.now c.args.parts.now) (omega arith) c.loop-i.invariant
