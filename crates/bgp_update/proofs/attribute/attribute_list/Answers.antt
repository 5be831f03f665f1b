use Rattle.std.proofs.Common.{rules, ◌≡◌, ◌<◌, length, sym, ap, subst, false, true, ◌∙◌, List, arith}
use Rattle.std.proofs.lemmas.List.{length-replicate}
use Rattle.std.proofs.Math.ListN.{length-set}
use Rattle.bgp_update.specs.declared.attribute.PathAttribute.{PathAttribute}
use Rattle.bgp_update.specs.AttributeFields.{IsAttributeField, NoneTwice}
use Rattle.route_model.proofs.api.Sequences.{ReadSoFar, read_start, read_on, read_none}
use Rattle.bgp_update.proofs.AttributeFields.{attributes_free, Has, none_twice_push, read_twice}
use Rattle.bgp_update.proofs.ByType.{seen_init, seen_step}
use Rattle.bgp_update.proofs.attribute.attribute_list.Goals as goal

pub loop-rest-init : goal.loop-rest-init
loop-rest-init c =
    let none = c.in_ok-attributes.ensures.items in
    record {
      reads = subst (λ (t : List PathAttribute). ReadSoFar IsAttributeField c.args.bytes.now c.args.bytes.now t) (sym none) (read_start IsAttributeField c.args.bytes.now);
      distinct = subst (λ (t : List PathAttribute). NoneTwice t) (sym none) tt;
      many = length-replicate 256 false;
      seen = λ k lt. seen_init k lt ∙ sym (ap (λ (t : List PathAttribute). Has k t) none);
    }

pub returns-in_default : goal.returns-in_default
returns-in_default c = λ ws q.
    let some : 0 < length c.loop-rest.rest.now = search rules in
    read_none IsAttributeField attributes_free c.args.bytes.now c.loop-rest.rest.now c.loop-rest.attributes.items c.loop-rest.invariant.reads c.in_default.ensures some ws q.fields

pub returns-then-seen-kind : goal.returns-then-seen-kind
returns-then-seen-kind c =
    let lt : c.in-Some.attribute.kind < 256 = search rules in
    let has : Has c.in-Some.attribute.kind c.loop-rest.attributes.items ≡ true = sym (c.loop-rest.invariant.seen c.in-Some.attribute.kind lt) ∙ c.if-seen-kind.true in
    read_twice c.args.bytes.now c.loop-rest.rest.now c.loop-rest.attributes.items c.in-Some.attribute c.in-Some.size c.loop-rest.invariant.reads c.in-Some.ensures.2 has

pub loop-rest-preserved : goal.loop-rest-preserved
loop-rest-preserved c =
    let lt : c.in-Some.attribute.kind < 256 = search rules in
    let none : Has c.in-Some.attribute.kind c.loop-rest.attributes.items ≡ false = sym (c.loop-rest.invariant.seen c.in-Some.attribute.kind lt) ∙ c.if-seen-kind.false in
    record {
      reads = rw (c.split_at.ensures.back, c.in_ok-push.ensures.items)
          (read_on IsAttributeField c.args.bytes.now c.loop-rest.rest.now c.loop-rest.attributes.items c.in-Some.attribute c.in-Some.size c.loop-rest.invariant.reads c.in-Some.ensures.2);
      distinct = rw c.in_ok-push.ensures.items (none_twice_push c.loop-rest.attributes.items c.in-Some.attribute c.loop-rest.invariant.distinct none);
      many = length-set c.loop-rest.seen _ true ∙ c.loop-rest.invariant.many;
      seen = λ k below.
          seen_step c.loop-rest.seen c.loop-rest.attributes.items c.in-Some.attribute k below c.loop-rest.invariant.many (c.loop-rest.invariant.seen k below)
          ∙ sym (ap (λ (t : List PathAttribute). Has k t) c.in_ok-push.ensures.items);
    }
