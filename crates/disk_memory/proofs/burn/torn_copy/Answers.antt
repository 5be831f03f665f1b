use Rattle.std.proofs.Common.{◌≡◌, ⊎_elim, ◌≤◌, ◌<◌, ◌+◌, ◌∙◌, ◌++◌, ℕ, List, [], length, take, drop, min, sym, ap, arith, take_all, append-nil, length-append}
use Rattle.std.proofs.lemmas.List.{length-replicate, length-take, length-drop, take-append-le, drop_all}
use Rattle.std.proofs.lemmas.Bool.{cases_lt}
use Rattle.disk_models.specs.Octets.{zeros}
use Rattle.disk_models.specs.Lending.{refilled}
use Rattle.disk_memory.specs.Torn.{torn_octets}
use Rattle.disk_memory.proofs.burn.torn_copy.Goals as goal

long_zeros : (n : ℕ) → length (zeros n) ≡ n
unfolding zeros
long_zeros n = length-replicate n 0

-- octets laid from the start on are those that refill a block, cut off where they are too many
laid_refills : (n size : ℕ) (old octets : List ℕ) → length old ≡ n → size ≡ min (length octets) n
    → take size octets ++ drop (length (take size octets)) old ≡ take n (octets ++ drop (length octets) old)
laid_refills n size old octets long is = ⊎_elim
    (λ (few : length octets < n).
    let whole : take size octets ≡ octets = take_all size octets (omega (arith, is, few)) in
    ap (λ (l : List ℕ). l ++ drop (length l) old) whole
    ∙ sym (take_all n (octets ++ drop (length octets) old) (omega (arith, length-append octets (drop (length octets) old), length-drop (length octets) old, long))))
    (λ (many : n ≤ length octets).
    let front : take size octets ≡ take n octets = ap (λ k. take k octets) (omega (arith, is, many)) in
    let rest : drop (length (take n octets)) old ≡ [] = drop_all (length (take n octets)) old (omega (arith, length-take n octets, many, long)) in
    ap (λ (l : List ℕ). l ++ drop (length l) old) front
    ∙ ap (λ (l : List ℕ). take n octets ++ l) rest
    ∙ append-nil (take n octets)
    ∙ sym (take-append-le n octets (drop (length octets) old) many))
    (cases_lt (length octets) n)

pub returns : goal.returns
unfolding refilled
returns c =
    let octets : List ℕ = c.in_ok-octets.octets.items in
    let size : ℕ = c.min-size.result in
    let blank : List ℕ = zeros 16384 in
    let whole : size ≡ min (length octets) 16384 =
    c.min-size.ensures ∙ ap (λ n. min n 16384) (c.len.ensures ∙ sym c.deref.ensures.len ∙ ap length c.deref.ensures.value) in
    let from : 0 + length (take size octets) ≡ length (take size octets) = omega arith in
    c.put.ensures
    ∙ ap (λ (l : List ℕ). take size l ++ drop (0 + length (take size l)) c.in_ok-block.block) c.deref.ensures.value
    ∙ ap (λ (l : List ℕ). take size octets ++ drop (0 + length (take size octets)) l) c.in_ok-block.ensures
    ∙ ap (λ k. take size octets ++ drop k blank) from
    ∙ laid_refills 16384 size blank octets (long_zeros 16384) whole
    ∙ ap (λ (l : List ℕ). take 16384 (l ++ drop (length l) blank))
    (c.in_ok-octets.ensures ∙ ap (λ (new : List ℕ). torn_octets c.args.torn.now new) c.octets.ensures.value)
