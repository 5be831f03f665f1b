use Rattle.tsb_node.specs.inner.PartReading.{AreParts}
use Rattle.tsb_node.proofs.Refusals.{refusal_match, if_ok_map}
use Rattle.tsb_node.proofs.column_reading.parts_in.Goals as goal

pub returns-then-not-are_parts : goal.returns-then-not-are_parts
returns-then-not-are_parts c = record { parts = λ parts are. absurd (cc (c.are_parts.ensures.1 (parts, are), c.if-not-are_parts.true)) }

pub returns : goal.returns
returns c =
    let yes = c.are_parts.ensures.0 (cc c.if-not-are_parts.false) in
    record {
      parts = refusal_match (λ v. v.items) (AreParts c.args.start c.args.end c.args.count c.args.bytes.now) yes.0 yes.1 c.parts_kept.result
          (if_ok_map c.parts_kept.result _ _ (λ x each. each c.args.start c.args.end yes.0 yes.1) c.parts_kept.ensures.parts)
          (c.parts_kept.ensures.refused c.args.start c.args.end yes.0 yes.1);
    }
