-- One more admission that is gathered.
use Rattle.std.proofs.Common.{◌≡◌, ℕ, ◌+◌, ◌≤◌, List, [], ◌∷◌, ◌++◌, length, ltb, Bool, true, false, inl, inr, sym, ap, ◌∙◌, arith}
use Rattle.std.proofs.lemmas.Bool.{cases_lt, lt-ltb}
use Rattle.route_model.specs.Admission.{Admitted, admission_octets}
use Rattle.archive_calls.specs.Limits.{batch_octets}
use Rattle.service.specs.Turns.{is_crowded, wait_unless, waiting_with}
use Rattle.service.specs.declared.limits.BatchLimits.{BatchLimits}
use Rattle.service.specs.inner.Feeding.{IsCounted}
use Rattle.service.specs.declared.feeding.Feeding.{Feeding}
use Rattle.service.proofs.Turning.{octets_more}

pub crowded_is : (limit : BatchLimits) (waiting : List Admitted) (a : Admitted) (octets n : ℕ) → octets ≡ batch_octets waiting → n ≡ length (admission_octets a) → ltb limit.octets (octets + (n + 4)) ≡ is_crowded limit waiting a
crowded_is limit waiting a octets n counted len = ap (ltb limit.octets) (let more = octets_more waiting a in let e : octets + (n + 4) ≡ batch_octets (waiting ++ a ∷ []) = omega (arith, more, counted, len) in e)

pub joined_is : (limit : BatchLimits) (waiting left now : List Admitted) (a : Admitted) (b : Bool) → b ≡ is_crowded limit waiting a → left ≡ wait_unless b waiting → now ≡ left ++ a ∷ [] → now ≡ waiting_with limit waiting a
joined_is limit waiting left now a b crowded stays more = more ∙ ap (λ (t : List Admitted). t ++ a ∷ []) (stays ∙ ap (λ (t : Bool). wait_unless t waiting) crowded)

pub not_above : (most n : ℕ) → ltb most n ≡ false → n ≤ most
not_above most n e = elim (cases_lt most n) [ inl lt ↦ let t = lt-ltb most n lt in absurd cc | inr ge ↦ ge ]

-- there is room for one more
pub room_made : (most : ℕ) (b : Bool) (waiting left : List Admitted) (octets now k : ℕ) → 131076 ≤ most → ltb most (octets + k) ≡ b → left ≡ wait_unless b waiting → octets ≡ batch_octets waiting → now ≡ batch_octets left → k ≤ 131076 → now + k ≤ most
room_made most true waiting left octets now k one over none was is few = let zero : now ≡ 0 = is ∙ ap batch_octets none in omega (arith, zero, few, one)
room_made most false waiting left octets now k one over none was is few =
    let same : now ≡ octets = is ∙ ap batch_octets none ∙ sym was in let room = not_above most (octets + k) over in omega (arith, same, room)

pub counted_more : (old new : Feeding) (a : Admitted) (n : ℕ) → IsCounted old → n ≡ length (admission_octets a) → new.limit ≡ old.limit → old.octets + (n + 4) ≤ old.limit.octets
    → new.gathered.items ≡ old.gathered.items ++ a ∷ [] → new.octets ≡ old.octets + (n + 4) → IsCounted new
counted_more old new a n counted len limits fits gathered octets =
    let more = octets_more old.gathered.items a in
    let same = ap batch_octets gathered in
    let was = counted.octets in
    record { octets = let e : new.octets ≡ batch_octets new.gathered.items = omega (arith, octets, more, same, was, len) in e; fit = let l = ap (λ (b : BatchLimits). b.octets) limits in omega (arith, octets, fits, l); one = let l = ap (λ (b : BatchLimits). b.octets) limits in let o = counted.one in omega (arith, o, l); few = let l = ap (λ (b : BatchLimits). b.octets) limits in let o = counted.few in omega (arith, o, l) }
