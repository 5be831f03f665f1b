use Rattle.std.proofs.Common.{◌∙◌, ◌∷◌, [], ℕ, List, length, ap, arith}
use Rattle.route_model.specs.Units.{unit_number}
use Rattle.tsb_node.specs.Nodes.{unit_now}
use Rattle.tsb_node.specs.inner.Laying.{laid}
use Rattle.tsb_node.proofs.Laying.{laid_is, header_laid}
use Rattle.tsb_node.proofs.writing.put_header.Goals as goal

pub returns : goal.returns
returns g c =
    let old = c.args.page.now in
    let e1 = laid_is 0 (c.args.kind ∷ c.number-unit.result ∷ c.args.level ∷ 0 ∷ []) old c.put.new.self c.put.ensures ∙ ap (λ (u : ℕ). laid 0 (c.args.kind ∷ u ∷ c.args.level ∷ 0 ∷ []) old) (c.number-unit.ensures ∙ ap unit_number c.written.ensures) in
    let e2 = laid_is 4 c.two_octets.result c.put.new.self c.put-2.new.self c.put-2.ensures ∙ ap (λ (t : List ℕ). laid 4 t c.put.new.self) c.two_octets.ensures in
    let e3 = laid_is 6 c.two_octets-2.result c.put-2.new.self c.put-3.new.self c.put-3.ensures ∙ ap (λ (t : List ℕ). laid 6 t c.put-2.new.self) c.two_octets-2.ensures in
    let e4 = laid_is 8 c.key_octets.result c.put-3.new.self c.put-4.new.self c.put-4.ensures ∙ ap (λ (t : List ℕ). laid 8 t c.put-3.new.self) c.key_octets.ensures in
    let e5 = laid_is 48 c.high_octets.result c.put-4.new.self c.put-5.new.self c.put-5.ensures ∙ ap (λ (t : List ℕ). laid 48 t c.put-4.new.self) c.high_octets.ensures in
    let e6 = laid_is 88 c.stamp_octets.result c.put-5.new.self c.put-6.new.self c.put-6.ensures ∙ ap (λ (t : List ℕ). laid 88 t c.put-5.new.self) c.stamp_octets.ensures in
    let e7 = laid_is 104 c.end_octets.result c.put-6.new.self c.put-7.new.self c.put-7.ensures ∙ ap (λ (t : List ℕ). laid 104 t c.put-6.new.self) c.end_octets.ensures in
    rw (e7, e6, e5, e4, e3, e2, e1) (header_laid unit_now c.args.kind c.args.level c.args.count c.args.used c.args.bounds.now old
    (omega (arith, c.octets-octets.ensures.size, ap length c.octets-octets.ensures.value)))
