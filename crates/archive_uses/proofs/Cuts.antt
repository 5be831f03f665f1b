-- What a crash inside a call leaves of an archive that represents a history.
use Rattle.std.proofs.Common.{◌≡◌, ◌<◌, ◌≤◌, ◌⊎◌, inl, inr, ⊎_elim, ℕ, zero, suc, List, [], ◌∷◌, length, true, false, refl, ap, subst, arith, Result}
use Rattle.std.specs.Global.{Vec}
use Rattle.std.proofs.lemmas.Bool.{cases_lt}
use Rattle.disk_models.specs.declared.erase.EraseDisk.{Ghosts as EraseGhosts}
use Rattle.disk_models.specs.declared.once.OnceDisk.{Ghosts as OnceGhosts}
use Rattle.disk_models.specs.Left.{Left}
use Rattle.route_model.specs.Admission.{Admitted}
use Rattle.route_meaning.specs.History.{Intake, History, IsHistory}
use Rattle.interleaving_core.specs.declared.reply.BatchReply.{BatchReply}
use Rattle.interleaving_core.specs.declared.reply.Reply.{Reply}
use Rattle.interleaving_core.specs.declared.reply.Reply.TheVariants.{Taken, Marked, NoCollector, Applied}
use Rattle.interleaving_core.specs.declared.step.Step.TheVariants.{Admit}
use Rattle.interleaving_core.specs.Steps.{changed, given, marked, with_batch, with_mark}
use Rattle.interleaving_core.specs.World.{World}
use Rattle.interleaving_core.specs.Does.{Does, DoesAdmit}
use Rattle.interleaving_core.proofs.Answered.{step_answered}
use Rattle.disk_archive.specs.declared.archive.Archive.{Archive}
use Rattle.disk_archive.specs.declared.error.AdmitError.{AdmitError}
use Rattle.disk_archive.specs.declared.mark_error.MarkError.{MarkError}
use Rattle.disk_archive.specs.declared.apply_error.ApplyError.{ApplyError}
use Rattle.disk_archive.specs.declared.applying.Step.{Step}
use Rattle.disk_archive.specs.Archives.{Represents, site_of}
use Rattle.disk_archive.specs.Crashes.{Crashes}
use Rattle.disk_archive.specs.Moves.{Moves}
use Rattle.disk_archive.specs.Sites.{LeftRepresents, Site}
use Rattle.archive_uses.specs.Use.{Call}
use Rattle.archive_uses.specs.Use.Call.{admit, mark, apply}
use Rattle.archive_uses.specs.Calls.{Admits, Marks, Steps}
use Rattle.archive_uses.proofs.Machine.{Answers}

-- what was left represents the history of before, or one to which the call leads, answered somehow
abbrev pub LeftDone : Call → Site → History → Left → Type 0
LeftDone call site h left = LeftRepresents site h left ⊎ ((g : History) × (reply : Reply) × Answers call reply h g × LeftRepresents site g left)

-- where there is no such collector nothing changes
changed_none : (c : ℕ) (f : Intake → Intake) (is : List Intake) → length is ≤ c → changed c f is ≡ is
changed_none c f [] out = refl
changed_none zero f (i ∷ is) out = absurd (omega (arith, out))
changed_none (suc c) f (i ∷ is) out = ap (λ (js : List Intake). i ∷ js) (changed_none c f is (omega (arith, out)))

given_none : (h : History) (c : ℕ) (batch : List Admitted) → length h.intakes ≤ c → given h c batch ≡ h
given_none h c batch out = λ k. record { intakes = changed_none c (with_batch batch) h.intakes out k; whole = h.whole; some = h.some }

marked_none : (h : History) (c m : ℕ) → length h.intakes ≤ c → marked h c m ≡ h
marked_none h c m out = λ k. record { intakes = changed_none c (with_mark m) h.intakes out k; whole = h.whole; some = h.some }

-- a batch of a collector may always be taken
taken_from : (w : World) (c : ℕ) (batch : Vec Admitted) (reply : Reply) (v : World) → w.down ≡ false → c < length w.history.intakes → Does w (Admit c batch) reply v → (receipt : BatchReply) × Answers (admit c batch) (Taken receipt) w.history (given w.history c batch.items)
taken_from w c batch reply v up lt (inl is) = go reply is.1
  where
    go : (reply : Reply) → DoesAdmit w c batch.items reply v → (receipt : BatchReply) × Answers (admit c batch) (Taken receipt) w.history (given w.history c batch.items)
    go (Taken receipt) does = (receipt, record { intake = does.intake; here = does.here; reply = does.reply; after = refl })
    go NoCollector does = absurd (does.0 lt)
    go _ does = absurd does
taken_from w c batch reply v up lt (inr down) = absurd (let e : w.down ≡ true = down.0 in cc)

taken : (h : History) (c : ℕ) (batch : Vec Admitted) → IsHistory h → c < length h.intakes → (receipt : BatchReply) × Answers (admit c batch) (Taken receipt) h (given h c batch.items)
taken h c batch right lt =
    let w : World = record { history = h; questions = []; down = false } in
    let s = step_answered w (Admit c batch) right in
    taken_from w c batch s.0 s.1 refl lt s.2

pub cuts_admit : {E O Pen Seen : Type 0} {erase : EraseGhosts E} {once : OnceGhosts O Pen Seen} (a z : Archive E O Pen Seen erase once) (c : ℕ) (batch : Vec Admitted) (result : Result BatchReply AdmitError) → Admits a z c batch.items result → (h : History) → Represents a h → Crashes a z (LeftDone (admit c batch) (site_of a) h)
cuts_admit a z c batch result m h k =
    let crash = m.crash h k in
    record {
      later = crash.later;
      each = λ left pair. ⊎_elim inl
          (λ is. elim (cases_lt c (length h.intakes)) [
            | inl lt ↦ (let t = taken h c batch k.head_represents.right lt in inr (given h c batch.items, Taken t.0, t.1, is))
            | inr ge ↦ inl (subst (λ x. LeftRepresents (site_of a) x left) (given_none h c batch.items ge) is)
          ])
          (crash.each left pair);
    }

pub cuts_mark : {E O Pen Seen : Type 0} {erase : EraseGhosts E} {once : OnceGhosts O Pen Seen} (a z : Archive E O Pen Seen erase once) (c at : ℕ) (result : Result (Unit {0}) MarkError) → Marks a z c at result → (h : History) → Represents a h → Crashes a z (LeftDone (mark c at) (site_of a) h)
cuts_mark a z c at result m h k =
    let crash = m.crash h k in
    record {
      later = crash.later;
      each = λ left pair. ⊎_elim inl
          (λ is. elim (cases_lt c (length h.intakes)) [
            | inl lt ↦ inr (marked h c at, Marked, (lt, is.0, refl), is.1)
            | inr ge ↦ inl (subst (λ x. LeftRepresents (site_of a) x left) (marked_none h c at ge) is.1)
          ])
          (crash.each left pair);
    }

moves_or : (site : Site) (h g : History) (left : Left) → (g ≡ h) ⊎ Moves h g → LeftRepresents site g left → LeftDone apply site h left
moves_or site h g left (inl same) is = inl (subst (λ x. LeftRepresents site x left) same is)
moves_or site h g left (inr moves) is = inr (g, Applied, moves, is)

pub cuts_apply : {E O Pen Seen : Type 0} {erase : EraseGhosts E} {once : OnceGhosts O Pen Seen} (a z : Archive E O Pen Seen erase once) (result : Result Step ApplyError) → Steps a z result → (h : History) → Represents a h → Crashes a z (LeftDone apply (site_of a) h)
cuts_apply a z result m h k =
    let crash = m.crash h k in
    record { later = crash.2.later; each = λ left pair. ⊎_elim inl (λ is. moves_or (site_of a) h crash.0 left crash.1 is) (crash.2.each left pair) }

-- a call that leads to no other history
pub cuts_still : {E O Pen Seen : Type 0} {erase : EraseGhosts E} {once : OnceGhosts O Pen Seen} (call : Call) (a z : Archive E O Pen Seen erase once) (h : History) → Crashes a z (LeftRepresents (site_of a) h) → Crashes a z (LeftDone call (site_of a) h)
cuts_still call a z h crash = record { later = crash.later; each = λ left pair. inl (crash.each left pair) }
