use Rattle.std.proofs.Common.{arith, ◌≡◌, ◌∙◌, ◌+◌, ℕ, List, drop, ap, sym, subst}
use Rattle.version_model.specs.declared.part.Part.{Part}
use Rattle.tsb_node.specs.inner.Fields.{number_in}
use Rattle.tsb_node.specs.inner.PartReading.{IsPlaceBefore}
use Rattle.tsb_node.specs.Parts.{IsPartAt}
use Rattle.tsb_node.specs.inner.Reading.{area}
use Rattle.tsb_node.proofs.ColumnLaws.{ok_is, column_count, spot_page, spot_block, part_there}
use Rattle.tsb_node.proofs.column.spot_written.Goals as goal

pub returns-then-count-eq0 : goal.returns-then-count-eq0
returns-then-count-eq0 c = record { spot = λ column is. absurd (omega (arith, (column_count column c.args.octets.now c.number2-count.result is c.number2-count.ensures.number).0, c.if-count-eq0.true)) }

pub returns-then-count-gt-PLACES : goal.returns-then-count-gt-PLACES
returns-then-count-gt-PLACES c = record { spot = λ column is. absurd (omega (arith, (column_count column c.args.octets.now c.number2-count.result is c.number2-count.ensures.number).1, c.if-count-gt-PLACES.true)) }

pub returns-then-at-count : goal.returns-then-at-count
returns-then-at-count c =
    let there : c.split_at-2.result.1.now ≡ area c.args.octets.now = c.split_at-2.ensures.back ∙ ap (drop 120) c.split_at.ensures.front in
    let before = subst (λ (t : List ℕ). IsPlaceBefore c.number2-count.result t c.args.stamp c.place_before-at.result) there c.place_before-at.ensures.place in
    record {
      spot = λ column is. spot_page column c.args.octets.now c.number2-count.result c.args.stamp c.place_before-at.result c.stamp_at.result c.number8.result is c.number2-count.ensures.number before c.if-at-count.true
          (c.stamp_at.ensures.number ∙ ap (number_in 16 c.place_before-at.result) there) (c.number8.ensures.number ∙ ap (number_in 8 (c.place_before-at.result + 17)) there);
    }

pub returns-in_default : goal.returns-in_default
returns-in_default c =
    let there : c.split_at-2.result.1.now ≡ area c.args.octets.now = c.split_at-2.ensures.back ∙ ap (drop 120) c.split_at.ensures.front in
    let before = subst (λ (t : List ℕ). IsPlaceBefore c.number2-count.result t c.args.stamp c.place_before-at.result) there c.place_before-at.ensures.place in
    record {
      spot = λ column is.
          let p = part_there column c.args.octets.now c.number2-count.result c.args.stamp c.place_before-at.result is c.number2-count.ensures.number before c.if-at-count.false in
          absurd (c.in_default.not-Ok p.0 (c.part_in.ensures.part p.0 p.1 p.2 (ap (drop c.place_before-at.result) there ∙ p.4)));
    }

pub returns : goal.returns
returns c =
    let there : c.split_at-2.result.1.now ≡ area c.args.octets.now = c.split_at-2.ensures.back ∙ ap (drop 120) c.split_at.ensures.front in
    let before = subst (λ (t : List ℕ). IsPlaceBefore c.number2-count.result t c.args.stamp c.place_before-at.result) there c.place_before-at.ensures.place in
    record {
      spot = λ column is.
          let p = part_there column c.args.octets.now c.number2-count.result c.args.stamp c.place_before-at.result is c.number2-count.ensures.number before c.if-at-count.false in
          let same : c.in-Ok.part ≡ p.0 = ok_is c.in-Ok.part p.0 (sym c.in-Ok.is ∙ c.part_in.ensures.part p.0 p.1 p.2 (ap (drop c.place_before-at.result) there ∙ p.4)) in
          subst (λ (q : Part). IsPartAt column.parts column.current.start c.args.stamp (record { part = q; end = c.stamp_at-2.result })) (sym same)
          (spot_block column c.args.octets.now c.number2-count.result c.args.stamp c.place_before-at.result c.stamp_at-2.result p.0 is c.number2-count.ensures.number before p.3
          (c.stamp_at-2.ensures.number ∙ ap (number_in 16 (c.place_before-at.result + 25)) there));
    }
