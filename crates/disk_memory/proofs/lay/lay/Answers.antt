use Rattle.std.proofs.Common.{⊎_elim, ◌≡◌, ◌≤◌, ◌<◌, ◌+◌, ◌-◌, ◌++◌, ◌∙◌, ℕ, List, length, take, drop, min, max, get_or, sym, ap, arith}
use Rattle.std.proofs.lemmas.List.{get_or-take, get_or-drop, length-take, length-drop}
use Rattle.std.proofs.lemmas.Bool.{cases_lt}
use Rattle.disk_models.specs.Octets.{octets}
use Rattle.disk_models.proofs.api.OctetLemmas.{octets-put, octets_agree}
use Rattle.disk_memory.specs.Writing.{Writing}
use Rattle.disk_memory.specs.Replay.{written}
use Rattle.disk_memory.proofs.Laying.{written_low, written_high, written_in}
use Rattle.disk_memory.proofs.lay.lay.Goals as goal

-- the part of a write that is read
part_of : (w : Writing) (f : ℕ → ℕ) (x q m at k : ℕ) → m ≡ min (length w.octets) w.length → x + q ≤ m → at ≡ w.at + x → k < q
    → get_or (take q (drop x (take m w.octets))) k 0 ≡ written w f (at + k)
part_of w f x q m at k short fits place lt =
    let j : at + k - w.at ≡ x + k = omega (arith, place) in
    get_or-take q (drop x (take m w.octets)) k 0 lt ∙ get_or-drop x (take m w.octets) k 0 ∙ get_or-take m w.octets (x + k) 0 (omega (arith, fits, lt))
    ∙ sym (written_in w f (at + k) (omega (arith, place)) (omega (arith, place, short, fits, lt)) ∙ ap (λ i. get_or w.octets i 0) j)

-- what a write and a range have in common
meet : (w : Writing) (f : ℕ → ℕ) (into new : List ℕ) (at m start end : ℕ) → m ≡ min (length w.octets) w.length
    → start ≡ max w.at at → end ≡ min (min (w.at + m) 18446744073709551615) (at + length into) → at + length into < 18446744073709551616 → start < end
    → into ≡ octets f at (length into)
    → new ≡ take (start - at) into ++ take (end - w.at - (start - w.at)) (drop (start - w.at) (take m w.octets))
    ++ drop (start - at + length (take (end - w.at - (start - w.at)) (drop (start - w.at) (take m w.octets)))) into
    → new ≡ octets (written w f) at (length into)
meet w f into new at m start end short starts ends small some is after =
    let p : ℕ = end - w.at - (start - w.at) in
    let part : List ℕ = take p (drop (start - w.at) (take m w.octets)) in
    let all : length (take m w.octets) ≡ m = length-take m w.octets ∙ omega (arith, short) in
    let long : length part ≡ p =
    length-take p (drop (start - w.at) (take m w.octets)) ∙ omega (arith, length-drop (start - w.at) (take m w.octets), all, short, starts, ends, some) in
    octets-put f (written w f) at (start - at) p (length into) part into new
    (omega (arith, starts, ends, some)) long is
    (λ k lt.
    let place : at + (start - at) ≡ start = omega (arith, starts) in
    part_of w f (start - w.at) p m start k short (omega (arith, starts, ends, some)) (omega (arith, starts)) lt
    ∙ ap (λ i. written w f (i + k)) (sym place))
    (λ i low high. sym (written_low w f i (omega (arith, starts, low, high))))
    (λ i above inside. sym (written_high w f i (omega (arith, short, starts, ends, some, small, above, inside))))
    (after ∙ ap (λ n. take (start - at) into ++ part ++ drop (start - at + n) into) long)

-- where they have nothing in common
apart : (w : Writing) (f : ℕ → ℕ) (at n m start end : ℕ) → m ≡ min (length w.octets) w.length
    → start ≡ max w.at at → end ≡ min (min (w.at + m) 18446744073709551615) (at + n) → at + n < 18446744073709551616 → end ≤ start
    → octets f at n ≡ octets (written w f) at n
apart w f at n m start end short starts ends small none = octets_agree f (written w f) at n (λ i inside. ⊎_elim
    (λ (low : i < w.at). sym (written_low w f i low))
    (λ (low : w.at ≤ i). sym (written_high w f i (omega (arith, short, starts, ends, small, none, low, inside.0, inside.1))))
    (cases_lt i w.at))

pub returns-then-start-end : goal.returns-then-start-end
returns-then-start-end c f is =
    let w : Writing = c.args.write.now in
    let first : c.at-first.result ≡ w.at = c.at-first.ensures in
    let kept : c.octets-kept.result.now ≡ w.octets = c.octets-kept.ensures in
    let m : ℕ = c.min.result in
    let short : m ≡ min (length w.octets) w.length = c.min.ensures ∙ ap (λ (l : List ℕ). min (length l) c.length.result) kept ∙ ap (λ n. min (length w.octets) n) c.length.ensures in
    let all : length (take m c.octets-kept.result.now) ≡ m = length-take m c.octets-kept.result.now ∙ omega (arith, short, ap length kept) in
    meet w f c.args.into.now c.put.new.into c.args.at m c.max-start.result c.min-end.result short
    (c.max-start.ensures ∙ ap (λ n. max n c.args.at) first)
    (c.min-end.ensures ∙ ap (λ n. min n (c.args.at + length c.args.into.now)) (c.saturating_add.ensures ∙ ap (λ n. min (c.at-first.result + n) 18446744073709551615) all ∙ ap (λ n. min (n + m) 18446744073709551615) first))
    c.requires c.if-start-end.true is
    (c.put.ensures
    ∙ ap (λ n. take (c.max-start.result - c.args.at) c.args.into.now ++ take (c.min-end.result - n - (c.max-start.result - n)) (drop (c.max-start.result - n) (take m c.octets-kept.result.now))
    ++ drop (c.max-start.result - c.args.at + length (take (c.min-end.result - n - (c.max-start.result - n)) (drop (c.max-start.result - n) (take m c.octets-kept.result.now)))) c.args.into.now) first
    ∙ ap (λ (l : List ℕ). take (c.max-start.result - c.args.at) c.args.into.now ++ take (c.min-end.result - w.at - (c.max-start.result - w.at)) (drop (c.max-start.result - w.at) (take m l))
    ++ drop (c.max-start.result - c.args.at + length (take (c.min-end.result - w.at - (c.max-start.result - w.at)) (drop (c.max-start.result - w.at) (take m l)))) c.args.into.now) kept)

pub returns-else-start-end : goal.returns-else-start-end
returns-else-start-end c f is =
    let w : Writing = c.args.write.now in
    let first : c.at-first.result ≡ w.at = c.at-first.ensures in
    let kept : c.octets-kept.result.now ≡ w.octets = c.octets-kept.ensures in
    let m : ℕ = c.min.result in
    let short : m ≡ min (length w.octets) w.length = c.min.ensures ∙ ap (λ (l : List ℕ). min (length l) c.length.result) kept ∙ ap (λ n. min (length w.octets) n) c.length.ensures in
    let all : length (take m c.octets-kept.result.now) ≡ m = length-take m c.octets-kept.result.now ∙ omega (arith, short, ap length kept) in
    is ∙ apart w f c.args.at (length c.args.into.now) m c.max-start.result c.min-end.result short
    (c.max-start.ensures ∙ ap (λ n. max n c.args.at) first)
    (c.min-end.ensures ∙ ap (λ n. min n (c.args.at + length c.args.into.now)) (c.saturating_add.ensures ∙ ap (λ n. min (c.at-first.result + n) 18446744073709551615) all ∙ ap (λ n. min (n + m) 18446744073709551615) first))
    c.requires c.if-start-end.false
