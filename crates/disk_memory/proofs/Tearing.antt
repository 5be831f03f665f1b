-- What a crash leaves by a choice.
use Rattle.std.proofs.Common.{◌≡◌, inl, inr, ⊎_elim, ◌<◌, ℕ, ◌+◌, List, [], ◌∷◌, ◌++◌, length, replicate, take, drop, map, get_or, Option, None, Some, refl, sym, ◌∙◌, ap, subst, arith, append_assoc, append-nil, slice_get}
use Rattle.std.proofs.lemmas.List.{take_more, length-map, length-take}
use Rattle.disk_models.specs.Erase.{MayLeave, WritesWithin}
use Rattle.disk_models.specs.Left.{EraseFound}
use Rattle.disk_memory.specs.declared.torn.Torn.{Torn}
use Rattle.disk_memory.specs.declared.call.Call.{Call}
use Rattle.disk_memory.specs.declared.call.Call.TheVariants.{Write, Sync}
use Rattle.disk_memory.specs.Writing.{Writing}
use Rattle.disk_memory.specs.Torn.{torn_octets}
use Rattle.disk_memory.specs.Replay.{written, all_written, Image, image_after, image_of, octet_of, IsWithinSome, IsUnsynced, state_of, torn_writing, torn_writings, left_by, torn_call, LeavesTorn}
use Rattle.disk_memory.specs.inner.Replaying.{torn_calls, SplitsAtSync}
use Rattle.disk_memory.proofs.Laying.{written_out, all_written_out}
use Rattle.disk_memory.proofs.Replaying.{image_after-append, sync_octet, sync_unsynced, same_within, more_within}

-- one call more
torn_calls-append : (choice : List Torn) (calls : List Call) (call : Call) → torn_calls choice (calls ++ call ∷ []) ≡ torn_calls choice calls ++ torn_call (slice_get choice (length calls)) call ∷ []
torn_calls-append [] [] call = refl
torn_calls-append (torn ∷ choice) [] call = refl
torn_calls-append [] (first ∷ calls) call = ap (λ (l : List Call). torn_call None first ∷ l) (torn_calls-append [] calls call)
torn_calls-append (torn ∷ choice) (first ∷ calls) call = ap (λ (l : List Call). torn_call (Some torn) first ∷ l) (torn_calls-append choice calls call)

pub torn_calls_next : (choice : List Torn) (calls into old : List Call) (i : ℕ) (call : Call) → i < length calls → call ≡ get_or calls i call
    → into ≡ old ++ torn_calls choice (take i calls) → into ++ torn_call (slice_get choice i) call ∷ [] ≡ old ++ torn_calls choice (take (i + 1) calls)
torn_calls_next choice calls into old i call lt is so =
    let long : length (take i calls) ≡ i = length-take i calls ∙ omega (arith, lt) in
    ap (λ (l : List Call). l ++ torn_call (slice_get choice i) call ∷ []) so
    ∙ append_assoc old (torn_calls choice (take i calls)) (torn_call (slice_get choice i) call ∷ [])
    ∙ ap (λ (l : List Call). old ++ l)
    (ap (λ n. torn_calls choice (take i calls) ++ torn_call (slice_get choice n) call ∷ []) (sym long)
    ∙ sym (torn_calls-append choice (take i calls) call)
    ∙ ap (λ (l : List Call). torn_calls choice l) (ap (λ (c : Call). take i calls ++ c ∷ []) is ∙ sym (take_more calls i call lt)))

torn_calls-writes : (choice : List Torn) (ws : List Writing) → torn_calls choice (map Write ws) ≡ map Write (torn_writings choice ws)
torn_calls-writes [] [] = refl
torn_calls-writes (torn ∷ choice) [] = refl
torn_calls-writes [] (w ∷ ws) = ap (λ (l : List Call). torn_call None (Write w) ∷ l) (torn_calls-writes [] ws)
torn_calls-writes (torn ∷ choice) (w ∷ ws) = ap (λ (l : List Call). torn_call (Some torn) (Write w) ∷ l) (torn_calls-writes choice ws)

-- writes alone wait
image_writes : (ws : List Writing) (m : Image) → image_after (map Write ws) m ≡ record { synced = m.synced; waiting = m.waiting ++ ws }
image_writes [] m = ap (λ (l : List Writing). record { synced = m.synced; waiting = l }) (sym (append-nil m.waiting))
image_writes (w ∷ ws) m =
    image_writes ws (record { synced = m.synced; waiting = m.waiting ++ w ∷ [] })
    ∙ ap (λ (l : List Writing). record { synced = m.synced; waiting = l }) (append_assoc m.waiting (w ∷ []) ws)

-- the disk that begins again has what the choice says
pub crash_begins : (choice : List Torn) (calls after : List Call) (count : ℕ) → SplitsAtSync count calls
    → after ≡ take count calls ++ torn_calls choice (drop count calls) ++ Sync ∷ [] → EraseFound (left_by choice calls) (state_of after)
crash_begins choice calls after count split is =
    let ws : List Writing = torn_writings choice (image_of calls).waiting in
    let front : List Call = take count calls ++ map Write ws in
    let same : after ≡ front ++ Sync ∷ [] = is ∙ ap (λ (l : List Call). take count calls ++ l ++ Sync ∷ [])
    (ap (λ (l : List Call). torn_calls choice l) split.since ∙ torn_calls-writes choice (image_of calls).waiting) in
    let image : image_of front ≡ record { synced = (image_of calls).synced; waiting = ws } =
    image_after-append (take count calls) (map Write ws) (record { synced = λ _. 0; waiting = [] })
    ∙ ap (λ (m : Image). image_after (map Write ws) m) split.synced
    ∙ image_writes ws (record { synced = (image_of calls).synced; waiting = [] }) in
    record {
      reads = ap octet_of same ∙ sync_octet front ∙ ap (λ (m : Image). all_written m.waiting m.synced) image;
      synced = λ i un. sync_unsynced front i (subst (λ (l : List Call). IsUnsynced l i) same un);
    }

-- the same of one way for all
torn_calls_all : (torn : Torn) (calls : List Call) → map (torn_call (Some torn)) calls ≡ torn_calls (replicate (length calls) torn) calls
torn_calls_all torn [] = refl
torn_calls_all torn (call ∷ calls) = ap (λ (l : List Call). torn_call (Some torn) call ∷ l) (torn_calls_all torn calls)

-- each write since the last sync in one way
pub all_calls : (torn : Torn) (calls : List Call) (count : ℕ) → SplitsAtSync count calls → map (torn_call (Some torn)) (drop count calls) ≡ torn_calls (replicate (length (image_of calls).waiting) torn) (drop count calls)
all_calls torn calls count split =
    let long : length (drop count calls) ≡ length (image_of calls).waiting = ap length split.since ∙ length-map (image_of calls).waiting Write in
    torn_calls_all torn (drop count calls) ∙ ap (λ n. torn_calls (replicate n torn) (drop count calls)) long

torn_writings_out : (choice : List Torn) (ws : List Writing) (f : ℕ → ℕ) (i : ℕ) → ¬ IsWithinSome ws i → all_written (torn_writings choice ws) f i ≡ f i
torn_writings_out [] [] f i out = refl
torn_writings_out (torn ∷ choice) [] f i out = refl
torn_writings_out [] (w ∷ ws) f i out =
    torn_writings_out [] ws (written (torn_writing None w) f) i (λ inn. out (inr inn)) ∙ written_out (torn_writing None w) f i (λ inn. out (inl inn))
torn_writings_out (torn ∷ choice) (w ∷ ws) f i out =
    torn_writings_out choice ws (written (torn_writing (Some torn) w) f) i (λ inn. out (inr inn)) ∙ written_out (torn_writing (Some torn) w) f i (λ inn. out (inl inn))

-- and a crash may leave it
pub crash_allowed : (choice : List Torn) (calls : List Call) → MayLeave (state_of calls) (left_by choice calls)
crash_allowed choice calls i settled =
    torn_writings_out choice (image_of calls).waiting (image_of calls).synced i settled
    ∙ sym (all_written_out (image_of calls).waiting (image_of calls).synced i settled)

-- a write that failed stays in its range
pub torn_within : (at : ℕ) (from : List ℕ) (torn : Option Torn) (old new : List Call) → LeavesTorn at from torn old new → WritesWithin at (length from) (state_of old) (state_of new)
torn_within at from None old new is = same_within at (length from) old new is
torn_within at from (Some torn) old new is = ⊎_elim
    (λ same. same_within at (length from) old new same)
    (λ more. more_within (record { at = at; length = length from; octets = torn_octets torn from }) old new more)
    is
