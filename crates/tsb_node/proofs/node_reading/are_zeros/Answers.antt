use Rattle.std.proofs.Common.{arith, ◌≡◌, ◌∙◌, ℕ, ap, subst, All, slice_index_or, bit_or}
use Rattle.std.proofs.lemmas.Bool.{eqb-true, eq-eqb}
use Rattle.std.proofs.lemmas.List.{take_all}
use Rattle.std.proofs.lemmas.List.Elements.{All-more}
use Rattle.std.proofs.lemmas.Nat.{le_or_l, le_or_r}
use Rattle.std.specs.Int.Bits.{or_zero_l}
use Rattle.tsb_node.proofs.node_reading.are_zeros.Goals as goal

pub loop-octet-preserved : goal.loop-octet-preserved
loop-octet-preserved c =
    let before = c.loop-octet.seen in
    let octets = c.args.octets.now in
    let next = slice_index_or octets c.loop-octet.octet-index 0 in (
      λ none. (let old : before ≡ 0 = omega (arith, le_or_l before next, none) in
          let new : next ≡ 0 = omega (arith, le_or_r before next, none) in
          All-more (λ octet. octet ≡ 0) octets c.loop-octet.octet-index 0 c.loop-octet-test.true (c.loop-octet.invariant.0 old) new),
      λ all. ap (λ (n : ℕ). bit_or n next) (c.loop-octet.invariant.1 all) ∙ or_zero_l next ∙ all c.loop-octet.octet-index 0 c.loop-octet-test.true,
    )

pub returns : goal.returns
returns c = (
  λ yes. subst (All (λ octet. octet ≡ 0)) (take_all c.loop-octet.octet-index c.args.octets.now c.loop-octet-test.false) (c.loop-octet.invariant.0 (eqb-true c.loop-octet.seen 0 yes)),
  λ all. eq-eqb c.loop-octet.seen 0 (c.loop-octet.invariant.1 all),
)
