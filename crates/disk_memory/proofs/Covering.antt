-- A read needs the calls from the last write on that covers its range.
use Rattle.std.proofs.Common.{◌≡◌, ◌<◌, ◌≤◌, ℕ, ◌+◌, min, List, [], ◌∷◌, ◌++◌, length, take, drop, get_or, replicate, zero, suc, refl, sym, ◌∙◌, ap}
use Rattle.std.proofs.lemmas.List.{take-append-drop, drop_more}
use Rattle.disk_models.specs.Octets.{octets, Within}
use Rattle.disk_memory.specs.declared.call.Call.{Call}
use Rattle.disk_memory.specs.Writing.{Writing}
use Rattle.disk_memory.specs.Replay.{written}
use Rattle.disk_memory.specs.inner.Replaying.{replayed}
use Rattle.disk_memory.proofs.Laying.{written_in}
use Rattle.disk_memory.proofs.Replaying.{replayed-append, replayed_agree}

-- what a write leaves inside it depends on nothing below
pub written_covers : (w : Writing) (f g : ℕ → ℕ) (i : ℕ) → w.at ≤ i → i < w.at + min w.length (length w.octets) → written w f i ≡ written w g i
written_covers w f g i low high = written_in w f i low high ∙ sym (written_in w g i low high)

pub cover_enough : (calls : List Call) (j at n : ℕ) (call : Call) → j < length calls → call ≡ get_or calls j call
    → ((f g : ℕ → ℕ) (i : ℕ) → Within at n i → replayed (call ∷ []) f i ≡ replayed (call ∷ []) g i)
    → (i : ℕ) → Within at n i → replayed (drop j calls) (λ _. 0) i ≡ replayed calls (λ _. 0) i
cover_enough calls j at n call lt is covers i inn =
    let rest : drop j calls ≡ (call ∷ []) ++ drop (j + 1) calls = drop_more calls j call lt ∙ ap (λ (c : Call). c ∷ drop (j + 1) calls) (sym is) in
    let below : ℕ → ℕ = replayed (take j calls) (λ _. 0) in
    ap (λ (l : List Call). replayed l (λ _. 0) i) rest
    ∙ ap (λ (f : ℕ → ℕ). f i) (replayed-append (call ∷ []) (drop (j + 1) calls) (λ _. 0))
    ∙ replayed_agree (drop (j + 1) calls) (replayed (call ∷ []) (λ _. 0)) (replayed (call ∷ []) below) i (covers (λ _. 0) below i inn)
    ∙ sym (ap (λ (f : ℕ → ℕ). f i) (replayed-append (call ∷ []) (drop (j + 1) calls) below))
    ∙ sym (ap (λ (l : List Call). replayed l below i) rest)
    ∙ sym (ap (λ (f : ℕ → ℕ). f i) (replayed-append (take j calls) (drop j calls) (λ _. 0)))
    ∙ ap (λ (l : List Call). replayed l (λ _. 0) i) (take-append-drop j calls)

pub octets_zeros : (at n : ℕ) → replicate n 0 ≡ octets (λ _. 0) at n
unfolding octets
octets_zeros at zero = refl
octets_zeros at (suc n) = ap (λ (l : List ℕ). 0 ∷ l) (octets_zeros (suc at) n)
