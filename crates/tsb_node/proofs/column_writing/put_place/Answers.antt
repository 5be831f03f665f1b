use Rattle.std.proofs.Common.{◌∙◌, ◌+◌, ◌∷◌, [], ℕ, List, length, ap, arith}
use Rattle.tsb_node.specs.Numbers.{octets_of}
use Rattle.tsb_node.specs.inner.Laying.{laid}
use Rattle.tsb_node.proofs.Laying.{laid_is}
use Rattle.tsb_node.proofs.ColumnWriting.{place_laid}
use Rattle.tsb_node.proofs.column_writing.put_place.Goals as goal

pub returns-clause-laid : goal.returns-clause-laid
returns-clause-laid g c =
    let at = c.args.at in
    let old = c.args.sheet.now in
    let e1 = laid_is at c.stamp_octets.result old c.put.new.self c.put.ensures ∙ ap (λ (t : List ℕ). laid at t old) c.stamp_octets.ensures in
    let e2 = laid_is (at + 16) (c.args.kind ∷ []) c.put.new.self c.put-2.new.self c.put-2.ensures ∙ ap (laid (at + 16) (c.args.kind ∷ [])) e1 in
    let e3 = laid_is (at + 17) c.eight_octets.result c.put-2.new.self c.put-3.new.self c.put-3.ensures ∙ ap (λ (t : List ℕ). laid (at + 17) t c.put-2.new.self) c.eight_octets.ensures.octets
    ∙ ap (laid (at + 17) (octets_of 8 c.args.number)) e2 in
    e3 ∙ place_laid at c.args.start c.args.kind c.args.number old (omega (arith, c.requires.room, c.octets-octets.ensures.size, ap length c.octets-octets.ensures.value))
