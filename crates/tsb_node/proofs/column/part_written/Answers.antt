use Rattle.std.proofs.Common.{arith, ◌≡◌, ◌∙◌, ◌+◌, ℕ, List, drop, ap, sym, subst}
use Rattle.version_model.specs.declared.part.Part.{Part}
use Rattle.tsb_node.specs.inner.Fields.{number_in}
use Rattle.tsb_node.specs.inner.PartReading.{IsPlaceBefore}
use Rattle.tsb_node.specs.Parts.{IsPartAt}
use Rattle.tsb_node.specs.inner.Reading.{area}
use Rattle.tsb_node.proofs.ColumnLaws.{ok_is, old_count, old_there, old_last, old_next}
use Rattle.tsb_node.proofs.column.part_written.Goals as goal

pub returns-then-count-eq0 : goal.returns-then-count-eq0
returns-then-count-eq0 c = record { part = λ column is ends from. absurd (omega (arith, (old_count column c.args.octets.now c.number2-count.result is c.number2-count.ensures.number).0, c.if-count-eq0.true)) }

pub returns-then-count-gt-PLACES : goal.returns-then-count-gt-PLACES
returns-then-count-gt-PLACES c = record { part = λ column is ends from. absurd (omega (arith, (old_count column c.args.octets.now c.number2-count.result is c.number2-count.ensures.number).1, c.if-count-gt-PLACES.true)) }

pub returns-in_default : goal.returns-in_default
returns-in_default c =
    let there : c.split_at-2.result.1.now ≡ area c.args.octets.now = c.split_at-2.ensures.back ∙ ap (drop 120) c.split_at.ensures.front in
    let before = subst (λ (t : List ℕ). IsPlaceBefore c.number2-count.result t c.args.stamp c.place_before-at.result) there c.place_before-at.ensures.place in
    record {
      part = λ column is ends from.
          let p = old_there column c.args.octets.now c.number2-count.result c.args.stamp c.place_before-at.result is c.number2-count.ensures.number before in
          absurd (c.in_default.not-Ok p.0 (c.part_in.ensures.part p.0 p.1 p.2 (ap (drop c.place_before-at.result) there ∙ p.4)));
    }

pub returns-then-at-count : goal.returns-then-at-count
returns-then-at-count c =
    let there : c.split_at-2.result.1.now ≡ area c.args.octets.now = c.split_at-2.ensures.back ∙ ap (drop 120) c.split_at.ensures.front in
    let before = subst (λ (t : List ℕ). IsPlaceBefore c.number2-count.result t c.args.stamp c.place_before-at.result) there c.place_before-at.ensures.place in
    record {
      part = λ column is ends from lt.
          let p = old_there column c.args.octets.now c.number2-count.result c.args.stamp c.place_before-at.result is c.number2-count.ensures.number before in
          let same : c.in-Ok.part ≡ p.0 = ok_is c.in-Ok.part p.0 (sym c.in-Ok.is ∙ c.part_in.ensures.part p.0 p.1 p.2 (ap (drop c.place_before-at.result) there ∙ p.4)) in
          subst (λ (q : Part). IsPartAt column.parts c.args.end c.args.stamp (record { part = q; end = c.args.end })) (sym same)
          (old_last column c.args.octets.now c.number2-count.result c.args.stamp c.place_before-at.result c.args.end p.0 is c.number2-count.ensures.number before c.if-at-count.true from lt p.3);
    }

pub returns : goal.returns
returns c =
    let there : c.split_at-2.result.1.now ≡ area c.args.octets.now = c.split_at-2.ensures.back ∙ ap (drop 120) c.split_at.ensures.front in
    let before = subst (λ (t : List ℕ). IsPlaceBefore c.number2-count.result t c.args.stamp c.place_before-at.result) there c.place_before-at.ensures.place in
    record {
      part = λ column is ends from lt.
          let p = old_there column c.args.octets.now c.number2-count.result c.args.stamp c.place_before-at.result is c.number2-count.ensures.number before in
          let same : c.in-Ok.part ≡ p.0 = ok_is c.in-Ok.part p.0 (sym c.in-Ok.is ∙ c.part_in.ensures.part p.0 p.1 p.2 (ap (drop c.place_before-at.result) there ∙ p.4)) in
          subst (λ (q : Part). IsPartAt column.parts c.args.end c.args.stamp (record { part = q; end = c.stamp_at.result })) (sym same)
          (old_next column c.args.octets.now c.number2-count.result c.args.stamp c.place_before-at.result c.args.end c.stamp_at.result p.0 is c.number2-count.ensures.number before c.if-at-count.false from
          (c.stamp_at.ensures.number ∙ ap (number_in 16 (c.place_before-at.result + 25)) there) p.3);
    }
