-- Calls as their records say.
use Rattle.std.proofs.Common.{◌≡◌, ◌≤◌, ◌↔◌, true, refl, sym, ◌∙◌, ap, subst, arith, Result, Ok, Err, IfOk, IfErr}
use Rattle.disk_models.specs.declared.erase.EraseDisk.{Ghosts as EraseGhosts}
use Rattle.disk_models.specs.declared.once.OnceDisk.{Ghosts as OnceGhosts}
use Rattle.disk_models.specs.Erase.{DiskState}
use Rattle.disk_models.specs.Once.{Grows, OnceState}
use Rattle.disk_models.specs.Left.{TriedWithin}
use Rattle.route_meaning.specs.History.{History, applied}
use Rattle.interleaving_core.specs.declared.query.Answer.{Answer}
use Rattle.interleaving_core.specs.declared.query.Query.{Query}
use Rattle.interleaving_core.specs.Headline.{IsAnswered}
use Rattle.disk_archive.specs.declared.archive.Archive.{Archive}
use Rattle.disk_archive.specs.declared.ask_error.AskError.{AskError}
use Rattle.disk_archive.specs.declared.open_error.OpenError.{OpenError}
use Rattle.disk_archive.specs.declared.refused.Refused.{Refused}
use Rattle.disk_archive.specs.Archives.{RepresentsIfHonest, IsHonest, erase_of, erase_state, is_down, once_of, once_state, settings_of}
use Rattle.archive_uses.specs.Calls.{Keeps, Looks}
use Rattle.archive_uses.specs.Openings.{Opens}
use Rattle.archive_uses.proofs.Following.{grows_none}
use Rattle.archive_uses.proofs.Resting.{AllSound, represented_is_left}

-- a call that leaves the erasable disk, and all that is tried or settled, is one that only reads
pub looks_by : {E O Pen Seen : Type 0} {erase : EraseGhosts E} {once : OnceGhosts O Pen Seen} → AllSound erase → (a z : Archive E O Pen Seen erase once) → ((h : History) → RepresentsIfHonest a h → RepresentsIfHonest z h) → erase_of z ≡ erase_of a → is_down z ≡ is_down a → settings_of z ≡ settings_of a → IsHonest a ↔ IsHonest z → once_of z ≡ once_of a → (IsHonest a → once_state z ≡ once_state a) → Looks a z
looks_by {erase = erase} sound a z holds pages down settings honest disk blocks =
    let same : erase_state z ≡ erase_state a = ap erase.model pages in
    record {
      holds = holds;
      crash = λ h k. record {
        later = subst (λ (x : DiskState). (erase_state a).clock ≤ x.clock) (sym same) (omega arith);
        each = λ left pair. represented_is_left a h k left (record {
          erase = (sound (erase_of a) k.honest.0).only_now left.erase (subst (λ (x : DiskState). x.left_since (erase_state a).clock left.erase) same pair.erase);
          tried = pair.tried;
          within = subst (λ (x : OnceState). TriedWithin x left) (blocks k.honest) pair.within;
          settled = pair.settled;
        });
      };
      down = down;
      keeps = record {
        settings = settings;
        honest = honest;
        disk = disk;
        grows = λ is. subst (λ (x : OnceState). Grows (once_state a) x) (sym (blocks is)) (grows_none (once_state a));
        idle = λ is was. (pages, blocks is, down ∙ was);
      };
    }

-- so is one that leaves all that is tried or settled, and both disks where the archive must be opened again
pub keeps_by : {E O Pen Seen : Type 0} {erase : EraseGhosts E} {once : OnceGhosts O Pen Seen} (a z : Archive E O Pen Seen erase once) → settings_of z ≡ settings_of a → IsHonest a ↔ IsHonest z → once_of z ≡ once_of a → (IsHonest a → once_state z ≡ once_state a) → (is_down a ≡ true → (erase_of z ≡ erase_of a) × (once_state z ≡ once_state a) × (is_down z ≡ true)) → Keeps a z
keeps_by a z settings honest disk blocks idle = record {
  settings = settings;
  honest = honest;
  disk = disk;
  grows = λ is. subst (λ (x : OnceState). Grows (once_state a) x) (sym (blocks is)) (grows_none (once_state a));
  idle = λ is down. idle down;
}

-- an answer that is right where R is so
pub answered_where : {E O Pen Seen : Type 0} {erase : EraseGhosts E} {once : OnceGhosts O Pen Seen} (a : Archive E O Pen Seen erase once) (query : Query) (R : Type 0) (result : Result Answer AskError) → R → IfOk result (λ answer. IsHonest a → (h : History) → RepresentsIfHonest a h → R → IsAnswered (applied h) query answer)
    → IfOk result (λ answer. IsHonest a → (h : History) → RepresentsIfHonest a h → IsAnswered (applied h) query answer)
answered_where a query R (Ok answer) is right = λ honest h held. right honest h held is
answered_where a query R (Err e) is right = right

-- both disks are opened, or handed back
pub opens_ok : {E O Pen Seen : Type 0} {erase : EraseGhosts E} {once : OnceGhosts O Pen Seen} (e : E) (o : O) (pen : Pen) (r : Result (Archive E O Pen Seen erase once) (Refused E O OpenError Pen Seen)) → Opens {erase = erase} {once = once} e o pen r → IfOk r (λ a. Opens {erase = erase} {once = once} e o pen (Ok a))
opens_ok e o pen (Ok a) m = m
opens_ok e o pen (Err back) m = tt

pub opens_err : {E O Pen Seen : Type 0} {erase : EraseGhosts E} {once : OnceGhosts O Pen Seen} (e : E) (o : O) (pen : Pen) (r : Result (Archive E O Pen Seen erase once) (Refused E O OpenError Pen Seen)) → Opens {erase = erase} {once = once} e o pen r
    → IfErr r (λ back. (refused : Refused E O OpenError Pen Seen) × Opens {erase = erase} {once = once} e o pen (Err refused) × (back.erase ≡ refused.erase) × (back.once.value ≡ refused.once.value) × (back.pen ≡ refused.pen))
opens_err e o pen (Ok a) m = tt
opens_err e o pen (Err back) m = (back, m, refl, refl, refl)
