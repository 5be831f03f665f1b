use Rattle.std.proofs.Common.{arith, string_bytes}
use Rattle.route_text.specs.RouteText.{attribute_text}
use Rattle.route_text.proofs.Joins.{join_all}
use Rattle.route_text.proofs.route_writing.write_attributes.Goals as goal

pub returns : goal.returns
returns c =
    let h = c.in-Some.ensures.cases in
    record {
      text = join_all 32 attribute_text (string_bytes c.args.out.now) (string_bytes c.write_attribute.new.out) (string_bytes c.loop-attribute.out) c.args.attributes.now c.in-Some.others.now c.in-Some.first.now c.loop-attribute.attribute-index (cc) c.in_ok-write_attribute.ensures.text (omega arith) c.loop-attribute.invariant;
    }
