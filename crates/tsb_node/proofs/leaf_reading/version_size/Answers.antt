use Rattle.std.proofs.Common.{arith, ◌≡◌, ◌∙◌, ◌<◌, ◌≤◌, sym, refl, inl, inr, slice_index}
use Rattle.std.proofs.lemmas.Bool.{cases_order, cases_lt}
use Rattle.tsb_node.specs.inner.Fields.{number_in}
use Rattle.tsb_node.specs.inner.Reading.{value_size, version_in}
use Rattle.tsb_node.proofs.Scanning.{key_decoded}
use Rattle.tsb_node.proofs.CheckingLaws.{encoded_here, encoded_reads, tag-le, end_is_empty, high_along}
use Rattle.tsb_node.proofs.leaf_reading.version_size.Goals as goal

pub returns-then-size-clause-none : goal.returns-then-size-clause-none
returns-then-size-clause-none c = λ sp.
    let r = encoded_reads c.args.bounds.now c.args.bytes.now sp in
    omega (arith, r.1, sp.valid.short.size, c.in_ok-size.ensures.found.0, c.if-size.true)

pub returns-then-bytes-gt1-clause-none : goal.returns-then-bytes-gt1-clause-none
returns-then-bytes-gt1-clause-none c = λ sp.
    let r = encoded_reads c.args.bounds.now c.args.bytes.now sp in
    omega (arith, r.0, tag-le (version_in c.args.bytes.now).value, c.if-bytes-gt1.true)

pub returns-then-is_end_with_octets-clause-none : goal.returns-then-is_end_with_octets-clause-none
returns-then-is_end_with_octets-clause-none c = λ sp.
    let r = encoded_reads c.args.bounds.now c.args.bytes.now sp in
    let is = c.if-is_end_with_octets.ensures.0 refl in
    omega (arith, r.1, end_is_empty (version_in c.args.bytes.now).value (sym r.0 ∙ is.0), is.1, c.in_ok-size.ensures.found.0)

pub returns-then-is_key_below-clause-none : goal.returns-then-is_key_below-clause-none
returns-then-is_key_below-clause-none c = λ sp.
    omega (arith, c.if-is_key_below.ensures.0 refl, sp.valid.short.low, c.key_at-key.ensures.number, key_decoded c.args.bytes.now)

pub returns-then-not-is_below_high-clause-none : goal.returns-then-not-is_below_high-clause-none
returns-then-not-is_below_high-clause-none c = λ sp.
    let yes = c.is_below_high.ensures.1 (high_along (version_in c.args.bytes.now).key c.key_at-key.result c.args.bounds.now.high (key_decoded c.args.bytes.now ∙ sym c.key_at-key.ensures.number) sp.valid.short.high) in
    absurd (cc (yes, c.if-not-is_below_high.true))

pub returns-clause-found : goal.returns-clause-found
returns-clause-found c =
    let found = c.in_ok-size.ensures.found in
    let b = c.args.bounds.now in
    let bytes = c.args.bytes.now in
    let small : value_size bytes ≤ 3072 = omega (arith, found.0, c.if-size.false) in
    let end : slice_index bytes 56 ≡ 0 → value_size bytes ≡ 0 = λ zero_tag. elim (cases_order (value_size bytes) 0) [
      | inl none ↦ none
      | inr other ↦ absurd (cc (c.is_end_with_octets.ensures.1 (zero_tag, (let lt : 59 < c.in_ok-size.size = omega (arith, found.0, other) in lt)), c.if-is_end_with_octets.false))
    ] in
    let low : b.low ≤ number_in 40 0 bytes = elim (cases_lt c.key_at-key.result b.low) [
      | inl lt ↦ absurd (cc (c.is_key_below.ensures.1 lt, c.if-is_key_below.false))
      | inr ge ↦ omega (arith, ge, c.key_at-key.ensures.number)
    ] in
    let high = high_along c.key_at-key.result (number_in 40 0 bytes) b.high c.key_at-key.ensures.number (c.is_below_high.ensures.0 (cc c.if-not-is_below_high.false)) in
    (found.0, encoded_here b bytes (λ i. let lt = c.type_inv.bytes i in omega arith) found.1 small (omega (arith, c.if-bytes-gt1.false)) end low high)
