-- Crashes at rest and inside calls, and what is opened after them.
use Rattle.std.proofs.Common.{◌≡◌, ◌≤◌, ℕ, List, [], ◌∷◌, arith, ⊎_elim, refl, sym, ◌∙◌, ap, subst}
use Rattle.std.proofs.Math.Nat.{le_refl}
use Rattle.std.specs.List.{AllByRecursion}
use Rattle.disk_models.specs.declared.erase.EraseDisk.{Ghosts as EraseGhosts}
use Rattle.disk_models.specs.declared.once.OnceDisk.{Ghosts as OnceGhosts}
use Rattle.disk_models.specs.Erase.{IsSound, MayLeave}
use Rattle.disk_models.specs.Once.{OnceState}
use Rattle.disk_models.specs.Left.{Left, LeftNow}
use Rattle.disk_models.proofs.api.Growing.{grows_none}
use Rattle.disk_models.proofs.api.Pairs.{now_is_pair}
use Rattle.route_meaning.specs.History.{History}
use Rattle.archive_pages.specs.declared.settings.Settings.{Settings}
use Rattle.disk_archive.specs.declared.archive.Archive.{Archive}
use Rattle.disk_archive.specs.Archives.{Represents, IsHonest, erase_of, erase_state, once_state, pen_in}
use Rattle.archive_uses.specs.Use.Use.{closed, cut, lost, found, opened}
use Rattle.archive_uses.specs.Calls.{Admits, IsCut, Keeps, Steps}
use Rattle.archive_uses.specs.Uses.{Leads, Uses}
use Rattle.archive_uses.specs.Uses.Stage.{gone, off, on}
use Rattle.archive_uses.specs.Lives.{LeftByCreation, Lives, Starts}
use Rattle.uses_tests.specs.inner.Taking.{IsSomewhere, Loses, Reopens, Takes, alone, apart, fallen}
use Rattle.uses_tests.specs.declared.acts.Returned.{Returned}
use Rattle.std.proofs.Common.{Option, Some, None, Result}
use Rattle.std.specs.Prelude.{IfSome}
use Rattle.std.specs.Global.{Vec}
use Rattle.disk_memory.specs.Replay.{state_of}
use Rattle.disk_memory.specs.declared.call.Call.{Call as DiskCall}
use Rattle.page_journal.specs.Identity.{HasNoJournal}
use Rattle.page_journal.proofs.Creating.{other_none}
use Rattle.route_model.specs.Admission.{Admitted, IsAdmission}
use Rattle.interleaving_core.specs.declared.reply.BatchReply.{BatchReply}
use Rattle.disk_archive.specs.declared.error.AdmitError.{AdmitError}
use Rattle.disk_archive.specs.declared.apply_error.ApplyError.{ApplyError}
use Rattle.disk_archive.specs.declared.applying.Step.{Step}
use Rattle.archive_uses.specs.Use.Call.{admit, apply}
use Rattle.uses_tests.specs.declared.acts.Act.TheVariants.{Crash, CutAdmit, CutApply}
use Rattle.uses_tests.specs.declared.acts.Batch.{Batch}
use Rattle.uses_tests.specs.declared.acts.Stop.{Stop}
use Rattle.uses_tests.specs.declared.acts.Tear.{Tear}
use Rattle.uses_tests.proofs.Going.{uses_on}

-- both disks begin again after a crash
pub loses_found : {E O Pen Seen : Type 0} (erase : EraseGhosts E) (once : OnceGhosts O Pen Seen) (e : E) (o : O) (pen : Pen) (f : E) (p : O) (new : Pen) (l : Loses erase once e o pen f p new)
    → Uses (fallen erase once o l.left) (found ∷ []) (apart erase once f p new)
loses_found erase once e o pen f p new l = (apart erase once f p new, ((l.begins, l.count, l.honest_erase, l.honest_once), refl), refl)

pub loses_uses : {E O Pen Seen : Type 0} (erase : EraseGhosts E) (once : OnceGhosts O Pen Seen) (e : E) (o : O) (pen : Pen) (f : E) (p : O) (new : Pen) → Loses erase once e o pen f p new
    → Uses (apart erase once e o pen) (lost ∷ found ∷ []) (apart erase once f p new)
loses_uses erase once e o pen f p new l = (fallen erase once o l.left, ((l.now, refl), refl), loses_found erase once e o pen f p new l)

-- What a crash leaves of both disks that were taken out after a call is left inside the call.
pub cut_left : {E O Pen Seen : Type 0} (erase : EraseGhosts E) (once : OnceGhosts O Pen Seen) → ((d : E) → IsSound (erase.model d)) → (a z : Archive E O Pen Seen erase once) (e : E) (pen : Pen) (left : Left) → Keeps a z → IsHonest a → IsSomewhere a
    → ((h : History) → Represents a h → (erase_state a).clock ≤ (erase_state z).clock) → e ≡ erase_of z → pen ≡ pen_in z → LeftNow (erase.model e) (once.model pen) left → IsCut a z left
cut_left {E} {O} {Pen} erase once sound a z e pen left keeps honest is later same_erase same_pen now =
    let clock : (erase_state a).clock ≤ (erase_state z).clock = ⊎_elim
    (λ up. later up.0 up.1)
    (λ down. subst (λ (x : E). (erase_state a).clock ≤ (erase.model x).clock) (sym (keeps.idle honest down).0) (le_refl (erase_state a).clock))
    is in
    let then : LeftNow (erase_state z) (once_state z) left = subst (λ (x : E). LeftNow (erase.model x) (once_state z) left) same_erase (subst (λ (x : Pen). LeftNow (erase.model e) (once.model x) left) same_pen now) in
    now_is_pair (erase_state a) (erase_state z) (once_state a) (once_state z) (once_state z) (sound (erase_of z)) clock (keeps.grows honest) (grows_none (once_state z)) left then

-- what is true of what an option has
pub some_then : {X : Type 0} (o : Option X) (P Q : X → Type 0) → ((x : X) → P x → Q x) → IfSome o P → IfSome o Q
some_then (Some x) P Q then' p = then' x p
some_then None P Q then' p = tt

-- both disks are taken out, and opened after a crash
pub takes_crash : {E O Pen Seen : Type 0} (erase : EraseGhosts E) (once : OnceGhosts O Pen Seen) (a b : Archive E O Pen Seen erase once) (e : E) (o : O) (pen : Pen) (tear : Tear) (stop : Stop) (returned : Returned)
    → Leads {erase = erase} {once = once} closed (on a) (off e o pen) → Reopens erase once e o pen returned b → Takes a b (Crash tear stop) returned
takes_crash erase once a b e o pen tear stop returned closes r = record {
  uses = closed ∷ lost ∷ r.rest;
  are = (r.rest, r.are, refl);
  valid = (tt, (tt, r.valid));
  leads = (apart erase once e o pen, (closes, refl), (fallen erase once o r.left, ((r.now, refl), refl), r.leads));
}

-- they are taken out after a batch, inside whose call the crash came
pub takes_cut_admit : {E O Pen Seen : Type 0} (erase : EraseGhosts E) (once : OnceGhosts O Pen Seen) → ((d : E) → IsSound (erase.model d)) → (a z b : Archive E O Pen Seen erase once) (e : E) (o : O) (pen : Pen) (c : ℕ) (batch : Batch) (given : Vec Admitted) (tear : Tear) (result : Result BatchReply AdmitError) (returned : Returned)
    → AllByRecursion IsAdmission given.items → Admits a z c given.items result → Leads {erase = erase} {once = once} closed (on z) (off e o pen) → Reopens erase once e o pen returned b → IsHonest a → IsSomewhere a → Takes a b (CutAdmit c batch tear) returned
takes_cut_admit erase once sound a z b e o pen c batch given tear result returned valid did closes r honest is = record {
  uses = cut (admit c given) ∷ r.rest;
  are = (given, r.rest, r.are, refl);
  valid = (valid, r.valid);
  leads = (
    fallen erase once o r.left,
    (((z, result, did, cut_left erase once sound a z e pen r.left did.keeps honest is (λ h k. (did.crash h k).later) closes.0 closes.2 r.now), ap once.block_count (closes.1 ∙ did.keeps.disk)), refl),
    r.leads,
  );
}

-- the same of a step of applying
pub takes_cut_apply : {E O Pen Seen : Type 0} (erase : EraseGhosts E) (once : OnceGhosts O Pen Seen) → ((d : E) → IsSound (erase.model d)) → (a z b : Archive E O Pen Seen erase once) (e : E) (o : O) (pen : Pen) (tear : Tear) (result : Result Step ApplyError) (returned : Returned)
    → Steps a z result → Leads {erase = erase} {once = once} closed (on z) (off e o pen) → Reopens erase once e o pen returned b → IsHonest a → IsSomewhere a → Takes a b (CutApply tear) returned
takes_cut_apply erase once sound a z b e o pen tear result returned did closes r honest is = record {
  uses = cut apply ∷ r.rest;
  are = (r.rest, r.are, refl);
  valid = (tt, r.valid);
  leads = (
    fallen erase once o r.left,
    (((z, result, did, cut_left erase once sound a z e pen r.left did.keeps honest is (λ h k. (did.crash h k).2.later) closes.0 closes.2 r.now), ap once.block_count (closes.1 ∙ did.keeps.disk)), refl),
    r.leads,
  );
}

-- ---- an archive is created

-- a crash leaves no journal on a new disk
pub none_at_first : (calls : List DiskCall) (o : OnceState) (left : Left) → calls ≡ [] → LeftNow (state_of calls) o left → HasNoJournal left.erase
none_at_first calls o left none now =
    let zero : left.erase 0 ≡ 0 = (subst (λ (l : List DiskCall). MayLeave (state_of l) left.erase) none now.erase) 0 (λ is. is) in
    other_none left.erase (λ r. omega (arith, r, zero))

pub lives_first : {E O Pen Seen : Type 0} {erase : EraseGhosts E} {once : OnceGhosts O Pen Seen} (made : Settings) (a : Archive E O Pen Seen erase once) → Starts made [] (on a) → Lives made [] (alone a)
lives_first made a starts = record { start = []; first = on a; begins = starts; later = []; valid = tt; leads = refl; are = refl }

opened_leads : {E O Pen Seen : Type 0} (erase : EraseGhosts E) (once : OnceGhosts O Pen Seen) (e : E) (o : O) (pen : Pen) (a : Archive E O Pen Seen erase once) → Uses (apart erase once e o pen) (opened ∷ []) (alone a) → Leads {erase = erase} {once = once} opened (off e o pen) (on a)
opened_leads erase once e o pen a uses = subst (λ s. Leads {erase = erase} {once = once} opened (off e o pen) s.stage) (sym uses.2) uses.1.0

-- A crash came inside that, on disks where it left no journal before, and both were opened then.
pub cut_lives : {E O Pen Seen : Type 0} (erase : EraseGhosts E) (once : OnceGhosts O Pen Seen) (made : Settings) (e : E) (o : O) (pen : Pen) (f : E) (p : O) (new : Pen) (g : E) (q : O) (newer : Pen) (a : Archive E O Pen Seen erase once)
    → ((left : Left) → LeftNow (erase.model e) (once.model pen) left → HasNoJournal left.erase)
    → ((left : Left) → LeftNow (erase.model f) (once.model new) left → LeftByCreation erase once made e o pen left) → p ≡ o
    → (l : Loses erase once f p new g q newer) → Uses (apart erase once g q newer) (opened ∷ []) (alone a)
    → (HasNoJournal l.left.erase → Leads {Seen = Seen} {erase = erase} {once = once} found (gone (once.block_count p) l.left) (off g q newer) → Leads {erase = erase} {once = once} opened (off g q newer) (on a) → ⊥)
    → Lives made (lost ∷ found ∷ opened ∷ []) (alone a)
cut_lives {E} {O} {Pen} {Seen} erase once made e o pen f p new g q newer a blank leaves same l opens law =
    let no : HasNoJournal l.left.erase → ⊥ = λ none. law none (l.begins, l.count, l.honest_erase, l.honest_once) (opened_leads erase once g q newer a opens) in
    ⊎_elim
    (λ before. absurd (no (blank l.left before.0)))
    (λ other. ⊎_elim
    (λ none. absurd (no none))
    (λ starts. record {
      start = lost ∷ [];
      first = gone (once.block_count p) l.left;
      begins = subst (λ (x : O). Starts {E = E} {O = O} {Pen = Pen} {Seen = Seen} {erase = erase} {once = once} made (lost ∷ []) (gone (once.block_count x) l.left)) (sym same) starts;
      later = found ∷ opened ∷ [];
      valid = (tt, (tt, tt));
      leads = uses_on (found ∷ []) (opened ∷ []) (fallen erase once p l.left) (apart erase once g q newer) (alone a) (loses_found erase once f p new g q newer l) opens;
      are = refl;
    })
    other)
    (leaves l.left l.now)
