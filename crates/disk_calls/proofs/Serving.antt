-- What an archive on any two disks returns as one that feeds and questions use.
use Rattle.std.proofs.Common.{◌≡◌, ◌∙◌, ◌↔◌, ◌<◌, ◌≤◌, ◌+◌, ℕ, Bool, false, List, [], ◌∷◌, length, map, sum_by, Option, Some, None, Ok, Err, IfOk, Result, inl, inr, refl, sym, ap, subst, arith, ⊎_elim}
use Rattle.std.specs.List.{slice_get}
use Rattle.std.specs.Option.{option_map}
use Rattle.std.specs.Result.{result_ok}
use Rattle.std.proofs.lemmas.Bool.{cases_lt}
use Rattle.std.proofs.lemmas.List.Sums.{sum_by-cons}
use Rattle.std.proofs.lemmas.Option.{slice_get_cases, slice_get-map, slice_get_past}
use Rattle.disk_models.specs.declared.erase.EraseDisk.{Ghosts as EraseGhosts}
use Rattle.disk_models.specs.declared.once.OnceDisk.{Ghosts as OnceGhosts}
use Rattle.disk_models.specs.Once.{OnceState, settled_in}
use Rattle.once_store.specs.declared.reader.ShelfReader.{ShelfReader}
use Rattle.once_store.specs.Readers.{IsCached, reader_disk}
use Rattle.route_model.specs.Admission.{Admitted}
use Rattle.route_meaning.specs.History.{History, Intake, settled}
use Rattle.interleaving_core.specs.Does.{IsReply, last_moment}
use Rattle.interleaving_core.specs.Steps.{given, IsCollector, IsMarkAbove}
use Rattle.interleaving_core.specs.World.{resume_of}
use Rattle.interleaving_core.specs.declared.query.Query.{Query}
use Rattle.interleaving_core.specs.declared.query.Answer.{Answer}
use Rattle.route_meaning.specs.declared.question.ChangedAnswer.{ChangedAnswer}
use Rattle.route_meaning.specs.declared.question.ChangedQuestion.{ChangedQuestion}
use Rattle.interleaving_core.specs.declared.reply.BatchReply.{BatchReply}
use Rattle.intake.specs.Ring.{entry_octets}
use Rattle.archive_calls.specs.Does.{IsAnswerOf, IsChangedAnswerOf, IsRefusal, IsTaken, IsUnchecked, DoesMark, AppliesSome}
use Rattle.archive_calls.specs.Limits.{batch_octets, IsCounterFull as IsCountFull}
use Rattle.disk_archive.specs.declared.archive.Archive.{Archive}
use Rattle.disk_archive.specs.declared.error.AdmitError.{AdmitError}
use Rattle.disk_archive.specs.declared.error.AdmitError.TheVariants as admits
use Rattle.disk_archive.specs.declared.mark_error.MarkError.{MarkError}
use Rattle.disk_archive.specs.declared.mark_error.MarkError.TheVariants as marks
use Rattle.disk_archive.specs.declared.ask_error.AskError.{AskError}
use Rattle.disk_archive.specs.declared.ask_error.AskError.TheVariants as asks
use Rattle.disk_archive.specs.declared.check_error.CheckError.{CheckError}
use Rattle.disk_archive.specs.declared.check_error.CheckError.TheVariants as checks
use Rattle.disk_archive.specs.Archives.{GoesOn, IsHonest, once_of, once_state, settings_of}
use Rattle.disk_archive.specs.Limits.{IsCounterFull}
use Rattle.disk_archive.specs.Moves.{Moves}
use Rattle.disk_calls.specs.Represented.{KeepsFrom}
use Rattle.disk_calls.specs.inner.Refusals.{of_admit, of_ask, of_check, of_mark}

-- an archive goes on with a history only on disks that follow their models
pub honest_of : {E O Pen Seen : Type 0} {erase : EraseGhosts E} {once : OnceGhosts O Pen Seen} (a : Archive E O Pen Seen erase once) (h : History) → GoesOn a h → IsHonest a
honest_of a h (inl represents) = represents.honest
honest_of a h (inr waits) = waits.honest

-- the history has as many collectors as the archive was made with
pub number_of : {E O Pen Seen : Type 0} {erase : EraseGhosts E} {once : OnceGhosts O Pen Seen} (a : Archive E O Pen Seen erase once) (h : History) → GoesOn a h → length h.intakes ≡ (settings_of a).collectors
number_of a h (inl represents) = represents.head_represents.number
number_of a h (inr waits) = waits.reported.number

-- what is true of each value is true of that of a success
pub if_ok : {T E : Type 0} (r : Result T E) (P Q : T → Type 0) → ((x : T) → P x → Q x) → IfOk r P → IfOk r Q
if_ok (Ok x) P Q each p = each x p
if_ok (Err e) P Q each p = tt

-- a new reader is of the archive's blocks, and keeps none
pub own_of : {E O Pen Seen X : Type 0} {erase : EraseGhosts E} {once : OnceGhosts O Pen Seen} (a : Archive E O Pen Seen erase once) (r : Result (ShelfReader O Pen Seen once) X) (o : Option (ShelfReader O Pen Seen once))
    → IfOk r (λ s. reader_disk s ≡ once_of a) → IfOk r (λ s. (n : ℕ) (block : List ℕ) → IsCached s n block → ⊥) → o ≡ result_ok r → KeepsFrom a o
own_of a (Ok s) o disk none is = subst (λ x. KeepsFrom a x) (sym is) (record { disk = disk; kept = λ n block kept. absurd (none n block kept) })
own_of a (Err e) o disk none is = subst (λ x. KeepsFrom a x) (sym is) tt

-- the blocks that a reader keeps are the archive's where more of them are settled
pub grown_reads : {E O Pen Seen : Type 0} {erase : EraseGhosts E} {once : OnceGhosts O Pen Seen} (a z : Archive E O Pen Seen erase once) (o : Option (ShelfReader O Pen Seen once))
    → once_of z ≡ once_of a → ((n : ℕ) (block : List ℕ) → settled_in (once_state a) n block → settled_in (once_state z) n block) → KeepsFrom a o → KeepsFrom z o
grown_reads a z None disk grows reads = tt
grown_reads a z (Some s) disk grows reads = record { disk = reads.disk ∙ sym disk; kept = λ n block kept. grows n block (reads.kept n block kept) }

-- and where the same are
pub same_reads : {E O Pen Seen : Type 0} {erase : EraseGhosts E} {once : OnceGhosts O Pen Seen} (a z : Archive E O Pen Seen erase once) (o : Option (ShelfReader O Pen Seen once))
    → once_of z ≡ once_of a → once_state z ≡ once_state a → KeepsFrom a o → KeepsFrom z o
same_reads a z o disk state = grown_reads a z o disk (λ n block here. subst (λ (x : OnceState). settled_in x n block) (sym state) here)

-- a batch has as many octets as its entries take
pub batch_is : (batch : List Admitted) → sum_by entry_octets batch ≡ batch_octets batch
batch_is [] = refl
batch_is (a ∷ batch) = sum_by-cons entry_octets a batch ∙ ap (λ (n : ℕ). entry_octets a + n) (batch_is batch)

-- where a collector goes on that there isn't
pub none_resumed : (h : History) (c : ℕ) → length h.intakes ≤ c → slice_get (map resume_of h.intakes) c ≡ None
none_resumed h c past = slice_get-map resume_of h.intakes c ∙ ap (option_map resume_of) (slice_get_past h.intakes c past)

-- the same collectors
pub here : (n c count : ℕ) → count ≡ n → (n ≤ c → ⊥) → c < count
here n c count same inside = ⊎_elim (λ lt. omega (arith, lt, same)) (λ ge. absurd (inside ge)) (cases_lt c n)

-- a batch that was taken is one of a collector
pub taken : (h : History) (c : ℕ) (batch : List Admitted) (reply : BatchReply) → IsCollector h c
    → ((i : Intake) → slice_get h.intakes c ≡ Some i → IsReply i c batch reply)
    → IsTaken h c batch reply (given h c batch)
taken h c batch reply at replies =
    ⊎_elim (λ found. record { intake = found.0; here = found.2; reply_is = replies found.0 found.2; after = refl })
    (λ none. let past = none.0 in absurd (omega (arith, at, past)))
    (slice_get_cases h.intakes c).1

count_full : (h : History) (c more : ℕ) → IsCounterFull h c more → IsCountFull h c more
count_full h c more full = record { intake = full.intake; here = full.here; above = full.above }

-- why a batch wasn't taken
pub not_taken : {R : Type 0} (down : Bool) (n : ℕ) (h : History) (c : ℕ) (batch : List Admitted) (e : AdmitError) → length h.intakes ≡ n
    → (◌≡◌ {A = Result R AdmitError} (Err e) (Err admits.NoCollector)) ↔ ((down ≡ false) × (n ≤ c))
    → (◌≡◌ {A = Result R AdmitError} (Err e) (Err admits.BatchTooLarge)) ↔ ((down ≡ false) × (c < n) × (262144 < sum_by entry_octets batch))
    → (◌≡◌ {A = Result R AdmitError} (Err e) (Err admits.CounterFull)) ↔ ((down ≡ false) × (sum_by entry_octets batch ≤ 262144) × IsCounterFull h c (length batch))
    → (e ≡ admits.IntakeFull → IsCollector h c)
    → IsRefusal h c batch (of_admit e)
not_taken down n h c batch admits.NeedsRecovery same none large count full = tt
not_taken down n h c batch admits.NoCollector same none large count full = let past = (none.0 refl).1 in λ at. omega (arith, at, past, same)
not_taken down n h c batch admits.BatchTooLarge same none large count full = let above = (large.0 refl).2 in let b = batch_is batch in omega (arith, above, b)
not_taken down n h c batch admits.CounterFull same none large count full = count_full h c (length batch) (count.0 refl).2
not_taken down n h c batch admits.IntakeFull same none large count full = full refl
not_taken down n h c batch (admits.BadNode page) same none large count full = tt
not_taken down n h c batch admits.Fault same none large count full = tt
not_taken down n h c batch admits.OutOfMemory same none large count full = tt

-- why a mark wasn't set
pub not_marked : {R : Type 0} (down : Bool) (n : ℕ) (h : History) (c mark : ℕ) (e : MarkError) → length h.intakes ≡ n
    → (◌≡◌ {A = Result R MarkError} (Err e) (Err marks.NoCollector)) ↔ ((down ≡ false) × (n ≤ c))
    → (◌≡◌ {A = Result R MarkError} (Err e) (Err marks.MarkBack)) ↔ ((down ≡ false) × IsMarkAbove h c mark)
    → DoesMark c mark (Err (of_mark e)) h h
not_marked down n h c mark marks.NeedsRecovery same none back = refl
not_marked down n h c mark marks.NoCollector same none back = let past = (none.0 refl).1 in ((λ at. omega (arith, at, past, same)), refl)
not_marked down n h c mark marks.MarkBack same none back = ((back.0 refl).1, refl)
not_marked down n h c mark marks.Fault same none back = refl
not_marked down n h c mark marks.OutOfMemory same none back = refl

-- why a question isn't answered
pub not_answered : (down : Bool) (h : History) (query : Query) (e : AskError)
    → ((mark : ℕ) → (◌≡◌ {A = Result Answer AskError} (Err e) (Err (asks.AboveWatermark mark))) ↔ ((down ≡ false) × (mark ≡ settled h) × (settled h ≤ last_moment query)))
    → IsAnswerOf h query (Err (of_ask e))
not_answered down h query asks.NeedsRecovery above = tt
not_answered down h query (asks.AboveWatermark mark) above = let reported = (above mark).0 refl in (reported.1, reported.2)
not_answered down h query (asks.BadNode page) above = tt
not_answered down h query (asks.Damaged block) above = tt
not_answered down h query asks.Fault above = tt
not_answered down h query asks.OutOfMemory above = tt

-- the same of what changed
pub not_changed : (h : History) (q : ChangedQuestion) (e : AskError) → ((mark : ℕ) → ◌≡◌ {A = Result ChangedAnswer AskError} (Err e) (Err (asks.AboveWatermark mark)) → (mark ≡ settled h) × (settled h ≤ q.to)) → IsChangedAnswerOf h q (Err (of_ask e))
not_changed h q asks.NeedsRecovery above = tt
not_changed h q (asks.AboveWatermark mark) above = above mark refl
not_changed h q (asks.BadNode page) above = tt
not_changed h q (asks.Damaged block) above = tt
not_changed h q asks.Fault above = tt
not_changed h q asks.OutOfMemory above = tt

-- why the changes that are applied aren't counted
pub not_checked : (h : History) (e : CheckError) → ((page : ℕ) → e ≡ checks.BadNode page → ⊥) → ((block : ℕ) → e ≡ checks.Damaged block → ⊥) → IsUnchecked h (of_check e)
not_checked h checks.NeedsRecovery bad damaged = tt
not_checked h (checks.BadNode page) bad damaged = bad page refl
not_checked h (checks.Damaged block) bad damaged = damaged block refl
not_checked h checks.Fault bad damaged = tt
not_checked h checks.OutOfMemory bad damaged = tt

-- some of the history is applied
pub moves_some : (h g : History) → Moves h g → AppliesSome h g
moves_some h g m = record { first = m.first; next = m.next; more = m.more; others = m.others }
