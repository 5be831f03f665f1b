use Rattle.std.proofs.Common.{◌∙◌, ◌+◌, ◌∷◌, [], ℕ, List, length, ap, arith}
use Rattle.tsb_node.specs.Numbers.{octets_of}
use Rattle.tsb_node.specs.inner.Laying.{laid}
use Rattle.tsb_node.proofs.Laying.{laid_is, entry_laid}
use Rattle.tsb_node.proofs.writing.put_entry.Goals as goal

pub returns : goal.returns
returns c =
    let at = c.args.at in
    let old = c.args.page.now in
    let o = c.octets_in-octets.ensures.value in
    let e1 = laid_is at c.key_octets.result old c.put.new.self c.put.ensures ∙ ap (λ (t : List ℕ). laid at t old) c.key_octets.ensures in
    let e2 = laid_is (at + 40) c.stamp_octets.result c.put.new.self c.put-2.new.self c.put-2.ensures ∙ ap (λ (t : List ℕ). laid (at + 40) t c.put.new.self) c.stamp_octets.ensures
    ∙ ap (laid (at + 40) (octets_of 16 c.args.stamp)) e1 in
    let e3 = laid_is (at + 56) (c.tag_of.result ∷ []) c.put-2.new.self c.put-3.new.self c.put-3.ensures ∙ ap (λ (t : ℕ). laid (at + 56) (t ∷ []) c.put-2.new.self) c.tag_of.ensures in
    let e4 = laid_is (at + 57) c.two_octets.result c.put-3.new.self c.put-4.new.self c.put-4.ensures ∙ ap (λ (t : List ℕ). laid (at + 57) t c.put-3.new.self) (c.two_octets.ensures ∙ ap (λ (t : List ℕ). octets_of 2 (length t)) o) in
    let e5 = laid_is (at + 59) c.octets_in-octets.result.now c.put-4.new.self c.put-5.new.self c.put-5.ensures ∙ ap (λ (t : List ℕ). laid (at + 59) t c.put-4.new.self) o in
    rw (e5, e4, e3, e2) (entry_laid at _ old (omega (arith, c.requires.room, c.octets-octets.ensures.size, ap length c.octets-octets.ensures.value)))
