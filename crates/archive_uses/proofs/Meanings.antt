-- What a call of an archive that represents a history means.
use Rattle.std.proofs.Common.{◌≡◌, ◌<◌, ◌≤◌, inl, inr, ⊎_elim, ℕ, zero, suc, List, [], ◌∷◌, length, Bool, true, false, refl, ◌∙◌, subst, arith, Some, Result, Ok, Err}
use Rattle.std.specs.List.{slice_get}
use Rattle.std.specs.Global.{Vec}
use Rattle.std.proofs.lemmas.Bool.{cases_Bool, cases_lt}
use Rattle.disk_models.specs.declared.erase.EraseDisk.{Ghosts as EraseGhosts}
use Rattle.disk_models.specs.declared.once.OnceDisk.{Ghosts as OnceGhosts}
use Rattle.route_model.specs.Admission.{Admitted}
use Rattle.route_meaning.specs.History.{Intake, History, applied, settled}
use Rattle.interleaving_core.specs.declared.query.Answer.{Answer}
use Rattle.interleaving_core.specs.declared.query.Query.{Query}
use Rattle.interleaving_core.specs.declared.reply.BatchReply.{BatchReply}
use Rattle.interleaving_core.specs.Steps.{given, marked}
use Rattle.disk_archive.specs.declared.archive.Archive.{Archive}
use Rattle.disk_archive.specs.declared.error.AdmitError.{AdmitError}
use Rattle.disk_archive.specs.declared.error.AdmitError.TheVariants as admits
use Rattle.disk_archive.specs.declared.mark_error.MarkError.{MarkError}
use Rattle.disk_archive.specs.declared.mark_error.MarkError.TheVariants as marks
use Rattle.disk_archive.specs.declared.apply_error.ApplyError.{ApplyError}
use Rattle.disk_archive.specs.declared.apply_error.ApplyError.TheVariants as applies
use Rattle.disk_archive.specs.declared.applying.Step.{Step}
use Rattle.disk_archive.specs.declared.applying.Step.TheVariants as steps
use Rattle.disk_archive.specs.declared.flush_error.FlushError.{FlushError}
use Rattle.disk_archive.specs.declared.flush_error.FlushError.TheVariants as flushes
use Rattle.disk_archive.specs.declared.flushing.Flush.{Flush}
use Rattle.disk_archive.specs.declared.ask_error.AskError.{AskError}
use Rattle.disk_archive.specs.declared.ask_error.AskError.TheVariants as asks
use Rattle.interleaving_core.specs.Does.{last_moment}
use Rattle.interleaving_core.specs.Headline.{IsAnswered}
use Rattle.disk_archive.specs.declared.cursor.Cursor.{Cursor}
use Rattle.disk_archive.specs.declared.descending.Descent.{Descent}
use Rattle.disk_archive.specs.declared.descending.Descent.TheVariants as descents
use Rattle.disk_archive.specs.Cursors.{asks as query_of, IsGathered}
use Rattle.disk_archive.specs.Archives.{Represents, RepresentsIfHonest, IsHonest, is_down}
use Rattle.archive_uses.specs.Use.{Call, Verdict}
use Rattle.archive_uses.specs.Use.Call.{admit, mark, apply, flush, ask}
use Rattle.archive_uses.specs.Use.Verdict.{replied, quiet, failed}
use Rattle.archive_uses.specs.Verdicts.{ended, of_admit, of_mark, of_apply, of_flush, of_ask, of_turn}
use Rattle.archive_uses.specs.Calls.{Admits, Marks, Steps, Flushes, Asks, Turns}
use Rattle.archive_uses.proofs.Machine.{Answers}

-- what the call means where the archive represents a history
abbrev pub Means : {E O Pen Seen : Type 0} {erase : EraseGhosts E} {once : OnceGhosts O Pen Seen} → (History → Type 0) → Call → Archive E O Pen Seen erase once → Archive E O Pen Seen erase once → Verdict → Type 0
Means P call a z (replied reply) = (h : History) → P h → Represents a h → (g : History) × Answers call reply h g × Represents z g
Means P call a z quiet = (h : History) → Represents a h → Represents z h
Means P call a z failed = is_down z ≡ true

-- ---- archives that are up

pub is_up : {E O Pen Seen : Type 0} {erase : EraseGhosts E} {once : OnceGhosts O Pen Seen} (a : Archive E O Pen Seen erase once) (h : History) → Represents a h → is_down a ≡ false
is_up a h k = k.maps.keeps.usable

pub holds : {E O Pen Seen : Type 0} {erase : EraseGhosts E} {once : OnceGhosts O Pen Seen} (a : Archive E O Pen Seen erase once) (h : History) → Represents a h → RepresentsIfHonest a h
holds a h k honest = inl k

pub up_represents : {E O Pen Seen : Type 0} {erase : EraseGhosts E} {once : OnceGhosts O Pen Seen} (z : Archive E O Pen Seen erase once) (g : History) → RepresentsIfHonest z g → IsHonest z → is_down z ≡ false → Represents z g
up_represents z g holds honest up = ⊎_elim (λ k. k) (λ w. absurd (let e : is_down z ≡ true = w.unusable in cc)) (holds honest)

-- an error that the machine doesn't know
means_ended : {E O Pen Seen : Type 0} {erase : EraseGhosts E} {once : OnceGhosts O Pen Seen} (P : History → Type 0) (call : Call) (a z : Archive E O Pen Seen erase once) (d : Bool) → is_down z ≡ d → ((h : History) → Represents a h → is_down z ≡ false → Represents z h) → Means P call a z (ended d)
means_ended P call a z true is up = is
means_ended P call a z false is up = λ h k. up h k is

-- the collector of this number, where its number isn't too high
pub found : (is : List Intake) (c : ℕ) → c < length is → (i : Intake) × (slice_get is c ≡ Some i)
found [] c lt = absurd (omega arith)
found (i ∷ is) zero lt = (i, refl)
found (i ∷ is) (suc c) lt = found is c (omega arith)

-- ---- a batch

pub means_admit : {E O Pen Seen : Type 0} {erase : EraseGhosts E} {once : OnceGhosts O Pen Seen} (P : History → Type 0) (a z : Archive E O Pen Seen erase once) (c : ℕ) (batch : Vec Admitted) (result : Result BatchReply AdmitError) → Admits a z c batch.items result → Means P (admit c batch) a z (of_admit result (is_down z))
means_admit P a z c batch (Ok reply) m = λ h p k.
    let here = found h.intakes c (elim (cases_lt c a.settings.collectors) [
      | inl lt ↦ omega (arith, lt, k.head_represents.number)
      | inr ge ↦ absurd (let e : Ok reply ≡ Err admits.NoCollector = m.no_collector.1 (is_up a h k, ge) in cc)
    ]) in (
      given h c batch.items,
      record { intake = here.0; here = here.1; reply = m.reply k.honest h (holds a h k) here.0 here.1; after = refl },
      up_represents z (given h c batch.items) (m.ok h (holds a h k)) (m.keeps.honest.0 k.honest) m.still_usable,
    )
means_admit P a z c batch (Err admits.NoCollector) m = λ h p k.
    let ge = (m.no_collector.0 refl).1 in (
      h,
      ((λ lt. omega (arith, lt, ge, k.head_represents.number)), refl),
      up_represents z h (m.err h (holds a h k)) (m.keeps.honest.0 k.honest)
          (elim (cases_Bool (is_down z)) [ inl down ↦ absurd (let e : Err admits.NoCollector ≡ Err admits.Fault = m.falls (is_up a h k) down in cc) | inr up ↦ up ]),
    )
means_admit P a z c batch (Err admits.NeedsRecovery) m = λ h p k. absurd (let down : is_down a ≡ true = m.recovery.0 refl in let up : is_down a ≡ false = is_up a h k in cc)
means_admit P a z c batch (Err _) m = means_ended P (admit c batch) a z (is_down z) refl (λ h k. up_represents z h (m.err h (holds a h k)) (m.keeps.honest.0 k.honest))

-- ---- a mark

pub means_mark : {E O Pen Seen : Type 0} {erase : EraseGhosts E} {once : OnceGhosts O Pen Seen} (P : History → Type 0) (a z : Archive E O Pen Seen erase once) (c at : ℕ) (result : Result (Unit {0}) MarkError) → Marks a z c at result → Means P (mark c at) a z (of_mark result (is_down z))
means_mark P a z c at (Ok done) m = λ h p k. (
  marked h c at,
  (
    elim (cases_lt c a.settings.collectors) [
      | inl lt ↦ omega (arith, lt, k.head_represents.number)
      | inr ge ↦ absurd (let e : Ok done ≡ Err marks.NoCollector = m.no_collector.1 (is_up a h k, ge) in cc)
    ],
    (λ above. let e : Ok done ≡ Err marks.MarkBack = (m.mark_back k.honest h (holds a h k)).1 (is_up a h k, above) in cc),
    refl,
  ),
  up_represents z (marked h c at) (m.ok h (holds a h k)) (m.keeps.honest.0 k.honest) m.still_usable,
)
means_mark P a z c at (Err marks.NoCollector) m = λ h p k.
    let ge = (m.no_collector.0 refl).1 in (
      h,
      ((λ lt. omega (arith, lt, ge, k.head_represents.number)), refl),
      up_represents z h (m.err h (holds a h k)) (m.keeps.honest.0 k.honest)
          (elim (cases_Bool (is_down z)) [ inl down ↦ absurd (let e : Err marks.NoCollector ≡ Err marks.Fault = m.falls (is_up a h k) down in cc) | inr up ↦ up ]),
    )
means_mark P a z c at (Err marks.MarkBack) m = λ h p k. (
  h,
  (((m.mark_back k.honest h (holds a h k)).0 refl).1, refl),
  up_represents z h (m.err h (holds a h k)) (m.keeps.honest.0 k.honest)
      (elim (cases_Bool (is_down z)) [ inl down ↦ absurd (let e : Err marks.MarkBack ≡ Err marks.Fault = m.falls (is_up a h k) down in cc) | inr up ↦ up ]),
)
means_mark P a z c at (Err marks.NeedsRecovery) m = λ h p k. absurd (let down : is_down a ≡ true = m.recovery.0 refl in let up : is_down a ≡ false = is_up a h k in cc)
means_mark P a z c at (Err _) m = means_ended P (mark c at) a z (is_down z) refl (λ h k. up_represents z h (m.err h (holds a h k)) (m.keeps.honest.0 k.honest))

-- ---- a step of applying

pub means_apply : {E O Pen Seen : Type 0} {erase : EraseGhosts E} {once : OnceGhosts O Pen Seen} (P : History → Type 0) (a z : Archive E O Pen Seen erase once) (result : Result Step ApplyError) → Steps a z result → Means P apply a z (of_apply result (is_down z))
means_apply P a z (Ok steps.Applied) m = λ h p k.
    let did = m.applied refl k.honest h (holds a h k) in
    (did.0, did.1, up_represents z did.0 did.2 (m.keeps.honest.0 k.honest) m.still_usable)
means_apply P a z (Ok steps.Idle) m = λ h p k.
    (h, ((m.idle k.honest h (holds a h k)).0 refl, refl), up_represents z h (m.idle_same refl h (holds a h k)) (m.keeps.honest.0 k.honest) m.still_usable)
means_apply P a z (Err applies.NeedsRecovery) m = λ h p k. absurd (let down : is_down a ≡ true = m.recovery.0 refl in let up : is_down a ≡ false = is_up a h k in cc)
means_apply P a z (Err _) m = means_ended P apply a z (is_down z) refl (λ h k. up_represents z h (m.err h (holds a h k)) (m.keeps.honest.0 k.honest))

-- ---- a step of flushing

pub means_flush : {E O Pen Seen : Type 0} {erase : EraseGhosts E} {once : OnceGhosts O Pen Seen} (P : History → Type 0) (a z : Archive E O Pen Seen erase once) (result : Result Flush FlushError) → Flushes a z result → Means P flush a z (of_flush result (is_down z))
means_flush P a z (Ok step) m = λ h p k. (h, refl, up_represents z h (m.holds h (holds a h k)) (m.keeps.honest.0 k.honest) m.usable.1)
means_flush P a z (Err flushes.NeedsRecovery) m = λ h p k. absurd (let down : is_down a ≡ true = m.recovery.0 refl in let up : is_down a ≡ false = is_up a h k in cc)
means_flush P a z (Err flushes.Fault) m = means_ended P flush a z (is_down z) refl (λ h k. up_represents z h (m.holds h (holds a h k)) (m.keeps.honest.0 k.honest))

-- ---- a question

pub means_ask : {E O Pen Seen : Type 0} {erase : EraseGhosts E} {once : OnceGhosts O Pen Seen} (P : History → Type 0) (a z : Archive E O Pen Seen erase once) (query : Query) (result : Result Answer AskError) → Asks a z query result → Means P (ask query) a z (of_ask result (is_down z))
means_ask P a z query (Ok answer) m = λ h p k.
    (h, (m.below k.honest h (holds a h k), m.answered k.honest h (holds a h k), refl), up_represents z h (m.looks.holds h (holds a h k)) (m.looks.keeps.honest.0 k.honest) (m.looks.down ∙ is_up a h k))
means_ask P a z query (Err (asks.AboveWatermark at)) m = λ h p k.
    let above = (m.above k.honest h (holds a h k) at).0 refl in
    (h, (above.1, above.2, refl), up_represents z h (m.looks.holds h (holds a h k)) (m.looks.keeps.honest.0 k.honest) (m.looks.down ∙ is_up a h k))
means_ask P a z query (Err asks.NeedsRecovery) m = λ h p k. absurd (let down : is_down a ≡ true = m.recovery.0 refl in let up : is_down a ≡ false = is_up a h k in cc)
means_ask P a z query (Err _) m = means_ended P (ask query) a z (is_down z) refl (λ h k. up_represents z h (m.looks.holds h (holds a h k)) (m.looks.keeps.honest.0 k.honest))

-- a turn of a question that has gathered so far over the history
pub means_turn : {E O Pen Seen : Type 0} {erase : EraseGhosts E} {once : OnceGhosts O Pen Seen} (P : History → Type 0) (a z : Archive E O Pen Seen erase once) (query : Query) (c d : Cursor) (result : Result Descent AskError) → ((h : History) → P h → IsGathered c h) → query_of c ≡ query → Turns a z c d result → Means P (ask query) a z (of_turn result (is_down z))
means_turn P a z query c d (Ok (descents.Done answer)) gathered same m = λ h p k.
    (h, (subst (λ q. last_moment q < settled h) same (m.below k.honest h (holds a h k)), subst (λ q. IsAnswered (applied h) q answer) same (m.descends k.honest h (holds a h k) (gathered h p)), refl), up_represents z h (m.looks.holds h (holds a h k)) (m.looks.keeps.honest.0 k.honest) (m.looks.down ∙ is_up a h k))
means_turn P a z query c d (Ok descents.Again) gathered same m = λ h k. up_represents z h (m.looks.holds h (holds a h k)) (m.looks.keeps.honest.0 k.honest) (m.looks.down ∙ is_up a h k)
means_turn P a z query c d (Ok (descents.Historical errand)) gathered same m = λ h k. up_represents z h (m.looks.holds h (holds a h k)) (m.looks.keeps.honest.0 k.honest) (m.looks.down ∙ is_up a h k)
means_turn P a z query c d (Err (asks.AboveWatermark at)) gathered same m = λ h p k.
    let above = (m.above k.honest h (holds a h k) at).0 refl in
    (h, (above.1, subst (λ q. settled h ≤ last_moment q) same above.2, refl), up_represents z h (m.looks.holds h (holds a h k)) (m.looks.keeps.honest.0 k.honest) (m.looks.down ∙ is_up a h k))
means_turn P a z query c d (Err asks.NeedsRecovery) gathered same m = λ h p k. absurd (let down : is_down a ≡ true = m.recovery.0 refl in let up : is_down a ≡ false = is_up a h k in cc)
means_turn P a z query c d (Err _) gathered same m = means_ended P (ask query) a z (is_down z) refl (λ h k. up_represents z h (m.looks.holds h (holds a h k)) (m.looks.keeps.honest.0 k.honest))
