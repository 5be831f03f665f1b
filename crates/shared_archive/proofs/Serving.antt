-- What calls do to a past that an archive represents.
use Rattle.std.proofs.Common.{◌≡◌, ◌∙◌, ◌↔◌, ◌<◌, ◌≤◌, ◌+◌, ◌*◌, ℕ, Bool, false, List, [], length, map, sum_by, Option, Some, None, Err, Result, refl, sym, ap, subst, arith, ⊎_elim}
use Rattle.std.specs.List.{slice_get}
use Rattle.std.specs.Option.{option_map}
use Rattle.std.proofs.lemmas.Bool.{cases_lt}
use Rattle.std.proofs.lemmas.Option.{same_Some, slice_get_cases, slice_get-map, slice_get_past}
use Rattle.disk_models.specs.declared.erase.EraseDisk.{Ghosts as EraseGhosts}
use Rattle.disk_models.specs.declared.once.OnceDisk.{Ghosts as OnceGhosts}
use Rattle.disk_models.specs.Once.{OnceState, Grows}
use Rattle.route_model.specs.Admission.{Admitted}
use Rattle.sequencer.specs.Late.{timely}
use Rattle.route_meaning.specs.Holds.{admitted_time}
use Rattle.route_meaning.specs.Merged.{part}
use Rattle.route_meaning.specs.History.{History, Intake, IsHistory, Begins, waiting}
use Rattle.route_meaning.proofs.api.Beginning.{Begins-trans}
use Rattle.interleaving_core.specs.declared.reply.BatchReply.{BatchReply}
use Rattle.interleaving_core.specs.declared.reply.Resume.{Resume}
use Rattle.interleaving_core.specs.Does.{IsReply}
use Rattle.interleaving_core.specs.Steps.{given, IsCollector, IsMarkAbove}
use Rattle.interleaving_core.specs.World.{resume_of}
use Rattle.interleaving_core.proofs.api.GoingOn.{begins_applied}
use Rattle.interleaving_core.proofs.api.Right.{goes_more, right_applied}
use Rattle.intake.specs.Ring.{entry_octets, octets_for}
use Rattle.intake.proofs.Unique.{octets_sum}
use Rattle.board.specs.Past.{Past, GoesOnAs, count_in, count_of}
use Rattle.query_threads.specs.Looks.{AreTheSettled}
use Rattle.query_threads.specs.Steps.{AppliesSome, DoesMark, IsCounterFull as IsCountFull, IsCrowded, IsRefusal, IsTaken}
use Rattle.query_threads.specs.Troubles.{BlamesNone, IsOutside}
use Rattle.query_threads.specs.declared.refusal.AdmitError.TheVariants as refusals
use Rattle.once_store.specs.declared.error.BlockError.{BlockError}
use Rattle.once_store.specs.declared.error.BlockError.TheVariants as blocks
use Rattle.disk_archive.specs.declared.archive.Archive.{Archive}
use Rattle.disk_archive.specs.declared.error.AdmitError.{AdmitError}
use Rattle.disk_archive.specs.declared.error.AdmitError.TheVariants as admits
use Rattle.disk_archive.specs.declared.mark_error.MarkError.{MarkError}
use Rattle.disk_archive.specs.declared.mark_error.MarkError.TheVariants as marks
use Rattle.disk_archive.specs.declared.apply_error.ApplyError.{ApplyError}
use Rattle.disk_archive.specs.declared.apply_error.ApplyError.TheVariants as applies
use Rattle.disk_archive.specs.declared.flush_error.FlushError.{FlushError}
use Rattle.disk_archive.specs.declared.flush_error.FlushError.TheVariants as flushes
use Rattle.disk_archive.specs.Archives.{GoesOn, IsHonest, once_of, once_state, settings_of}
use Rattle.disk_archive.specs.Limits.{IsCounterFull, IsRingFull}
use Rattle.disk_archive.specs.Moves.{Moves}
use Rattle.shared_archive.specs.Represented.{RepresentsPast}
use Rattle.shared_archive.specs.inner.StoreCalls.{of_admit, of_apply, of_block, of_flush, of_mark}
use Rattle.shared_archive.proofs.Blocks.{listed, listed_are}

module _ {E O Pen Seen : Type 0} {erase : EraseGhosts E} {once : OnceGhosts O Pen Seen} (a : Archive E O Pen Seen erase once) (p : Past) (k : RepresentsPast a p) where
  -- an archive goes on with a history only on disks that follow their models
  pub honest_of : IsHonest a
  honest_of = ⊎_elim (λ represents. represents.honest) (λ waits. waits.honest) k.goes_on

  -- the history is right
  pub right_of : IsHistory p.history
  right_of = ⊎_elim (λ represents. represents.head_represents.right) (λ waits. waits.reported.right) k.goes_on

  -- and has as many collectors as the archive was made with
  pub number_of : length p.history.intakes ≡ (settings_of a).collectors
  number_of = ⊎_elim (λ represents. represents.head_represents.number) (λ waits. waits.reported.number) k.goes_on

  -- the archive goes on with a history that this one begins, and with the same blocks
  pub same_blocks : (z : Archive E O Pen Seen erase once) (g : History) → once_of z ≡ once_of a → once_state z ≡ once_state a → GoesOn z g → RepresentsPast z (record { history = g; blocks = p.blocks })
  same_blocks z g disk state on = record {
    goes_on = on;
    blocks = subst (λ (s : OnceState). AreTheSettled (once.block_count (once_of z)) s.settled p.blocks) (sym state) (subst (λ (d : O). AreTheSettled (once.block_count d) (once_state a).settled p.blocks) (sym disk) k.blocks);
  }

  pub on_same_blocks : (g : History) → Begins p.history g → GoesOnAs p (record { history = g; blocks = p.blocks })
  on_same_blocks g begins = record { right = right_of; begins = begins; blocks = λ n octets b. b }

  -- the same with more blocks
  pub more_blocks : (z : Archive E O Pen Seen erase once) (g : History) → GoesOn z g → RepresentsPast z (record { history = g; blocks = listed (once.block_count (once_of z)) (once_state z).settled })
  more_blocks z g on = record { goes_on = on; blocks = listed_are (once.block_count (once_of z)) (once_state z).settled }

  pub on_more_blocks : (z : Archive E O Pen Seen erase once) (g : History) → once_of z ≡ once_of a → Grows (once_state a) (once_state z) → Begins p.history g → GoesOnAs p (record { history = g; blocks = listed (once.block_count (once_of z)) (once_state z).settled })
  on_more_blocks z g disk grows begins = record {
    right = right_of;
    begins = begins;
    blocks = λ n octets b.
        let was = (k.blocks n octets).0 b in
        (listed_are (once.block_count (once_of z)) (once_state z).settled n octets).1 (subst (λ (d : O). n < once.block_count d) (sym disk) was.0, grows.settled n octets was.1);
  }

-- ---- admissions

-- the same collectors
pub here : (n c count : ℕ) → count ≡ n → (n ≤ c → ⊥) → c < count
here n c count same inside = ⊎_elim (λ lt. omega (arith, lt, same)) (λ ge. absurd (inside ge)) (cases_lt c n)

-- a batch that was taken is one of a collector
pub taken : (h : History) (c : ℕ) (batch : List Admitted) (reply : BatchReply) → IsCollector h c
    → ((i : Intake) → slice_get h.intakes c ≡ Some i → IsReply i c batch reply)
    → IsTaken h c batch reply (given h c batch)
taken h c batch reply at replies =
    ⊎_elim (λ found. record { intake = found.0; here = found.2; reply_is = replies found.0 found.2; after = refl })
    (λ none. let past = none.0 in absurd (omega (arith, at, past)))
    (slice_get_cases h.intakes c).1

count_full : (h : History) (c more : ℕ) → IsCounterFull h c more → IsCountFull h c more
count_full h c more full = record { intake = full.intake; here = full.here; above = full.above }

-- a ring that is full has too little room
pub crowded : {E O Pen Seen : Type 0} {erase : EraseGhosts E} {once : OnceGhosts O Pen Seen} (a : Archive E O Pen Seen erase once) (h : History) (c : ℕ) (batch : List Admitted) → IsRingFull (settings_of a) h c batch → IsCrowded (settings_of a).ring h c batch
crowded a h c batch full = record {
  intake = full.intake;
  here = full.here;
  crowded =
      let ones = part c (waiting h) in
      let more = timely admitted_time full.intake.mark [] batch in
      subst (λ (n : ℕ). 16384 * (settings_of a).ring < n + sum_by entry_octets more) (octets_sum ones) (subst (λ (n : ℕ). 16384 * (settings_of a).ring < octets_for ones + n) (octets_sum more) full.above);
}

-- why a batch wasn't taken
pub not_taken : {R : Type 0} (down : Bool) (n : ℕ) (h : History) (c : ℕ) (batch : List Admitted) (e : AdmitError) → length h.intakes ≡ n
    → (◌≡◌ {A = Result R AdmitError} (Err e) (Err admits.NoCollector)) ↔ ((down ≡ false) × (n ≤ c))
    → (◌≡◌ {A = Result R AdmitError} (Err e) (Err admits.BatchTooLarge)) ↔ ((down ≡ false) × (c < n) × (262144 < sum_by entry_octets batch))
    → (◌≡◌ {A = Result R AdmitError} (Err e) (Err admits.CounterFull)) ↔ ((down ≡ false) × (sum_by entry_octets batch ≤ 262144) × IsCounterFull h c (length batch))
    → (e ≡ admits.IntakeFull → IsCollector h c)
    → ((page : ℕ) → e ≡ admits.BadNode page → ⊥)
    → IsRefusal h c batch (of_admit e)
not_taken down n h c batch admits.NeedsRecovery same none large count full sound = tt
not_taken down n h c batch admits.NoCollector same none large count full sound = let past = (none.0 refl).1 in λ at. omega (arith, at, past, same)
not_taken down n h c batch admits.BatchTooLarge same none large count full sound = (large.0 refl).2
not_taken down n h c batch admits.CounterFull same none large count full sound = count_full h c (length batch) (count.0 refl).2
not_taken down n h c batch admits.IntakeFull same none large count full sound = full refl
not_taken down n h c batch (admits.BadNode page) same none large count full sound = sound page refl
not_taken down n h c batch admits.Fault same none large count full sound = tt
not_taken down n h c batch admits.OutOfMemory same none large count full sound = tt

-- a ring is reported full only by the refusal of this name
pub only_full : (e : AdmitError) → of_admit e ≡ refusals.IntakeFull → e ≡ admits.IntakeFull
only_full admits.NeedsRecovery is = cc
only_full admits.NoCollector is = cc
only_full admits.BatchTooLarge is = cc
only_full admits.CounterFull is = cc
only_full admits.IntakeFull is = refl
only_full (admits.BadNode page) is = cc
only_full admits.Fault is = cc
only_full admits.OutOfMemory is = cc

-- ---- marks

pub not_marked : {R : Type 0} (down : Bool) (n : ℕ) (h : History) (c mark : ℕ) (e : MarkError) → length h.intakes ≡ n
    → (◌≡◌ {A = Result R MarkError} (Err e) (Err marks.NoCollector)) ↔ ((down ≡ false) × (n ≤ c))
    → (◌≡◌ {A = Result R MarkError} (Err e) (Err marks.MarkBack)) ↔ ((down ≡ false) × IsMarkAbove h c mark)
    → DoesMark c mark (Err (of_mark e)) h h
not_marked down n h c mark marks.NeedsRecovery same none back = (tt, refl)
not_marked down n h c mark marks.NoCollector same none back = let past = (none.0 refl).1 in ((λ at. omega (arith, at, past, same)), refl)
not_marked down n h c mark marks.MarkBack same none back = ((back.0 refl).1, refl)
not_marked down n h c mark marks.Fault same none back = (tt, refl)
not_marked down n h c mark marks.OutOfMemory same none back = (tt, refl)

-- ---- applications

pub moves_some : (h g : History) → Moves h g → AppliesSome h g
moves_some h g m = record { first = m.first; next = m.next; more = m.more; others = m.others }

pub moves_on : (h g : History) → IsHistory h → Moves h g → Begins h g
moves_on h g right m = Begins-trans h m.first g (begins_applied h m.first m.next) (goes_more m.more m.first g (right_applied h m.first right m.next) m.others).begins

-- ---- troubles

-- an application that fails blames no page
pub applying_blames_none : (e : ApplyError) → ((page : ℕ) → e ≡ applies.BadNode page → ⊥) → BlamesNone (of_apply e)
applying_blames_none applies.NeedsRecovery sound = tt
applying_blames_none applies.CounterFull sound = tt
applying_blames_none applies.TooHigh sound = tt
applying_blames_none applies.PagesFull sound = tt
applying_blames_none applies.OnceFull sound = tt
applying_blames_none (applies.BadNode page) sound = sound page refl
applying_blames_none applies.Fault sound = tt
applying_blames_none applies.OutOfMemory sound = tt

pub flushing_is_outside : (e : FlushError) → IsOutside (of_flush e)
flushing_is_outside flushes.NeedsRecovery = tt
flushing_is_outside flushes.Fault = tt

-- reading blocks fails only for a reason from outside
pub reading_is_outside : (e : BlockError) → ((block : ℕ) → e ≡ blocks.Damaged block → ⊥) → IsOutside (of_block e)
reading_is_outside blocks.Fault sound = tt
reading_is_outside (blocks.Damaged block) sound = sound block refl
reading_is_outside blocks.OutOfMemory sound = tt

-- ---- what is returned of a collector

count_resumed : (r : Resume) (o : Option Intake) → option_map resume_of o ≡ Some r → r.admitted ≡ count_in o
count_resumed r None e = absurd cc
count_resumed r (Some i) e = ap (λ (x : Resume). x.admitted) (sym (same_Some (resume_of i) r e))

pub resumed : (h : History) (c : ℕ) (r : Resume) → slice_get (map resume_of h.intakes) c ≡ Some r → r.admitted ≡ count_of h c
resumed h c r e = count_resumed r (slice_get h.intakes c) (sym (slice_get-map resume_of h.intakes c) ∙ e)

pub none_admitted : (h : History) (c : ℕ) → length h.intakes ≤ c → 0 ≡ count_of h c
none_admitted h c past = ap count_in (sym (slice_get_past h.intakes c past))
