-- Each use leads from what is true before it to what is true after it.
use Rattle.std.proofs.Common.{◌≡◌, ◌⊎◌, inl, inr, ⊎_elim, ℕ, List, [], ◌∷◌, ◌++◌, true, false, refl, sym, ◌∙◌, ap, subst, Result, Ok, Err}
use Rattle.disk_models.specs.declared.erase.EraseDisk.{Ghosts as EraseGhosts}
use Rattle.disk_models.specs.declared.once.OnceDisk.{Ghosts as OnceGhosts}
use Rattle.disk_models.specs.Once.{Grows, OnceState}
use Rattle.disk_models.specs.Left.{CrashPair, Left, LeftNow, TriedWithin}
use Rattle.disk_models.proofs.api.Pairs.{now_is_pair}
use Rattle.route_meaning.specs.History.{History}
use Rattle.interleaving_core.specs.declared.reply.Reply.{Reply}
use Rattle.interleaving_core.specs.declared.reply.Reply.TheVariants.{Crashed, NeedsRecovery}
use Rattle.interleaving_core.specs.declared.step.Step.TheVariants.{Crash}
use Rattle.archive_pages.specs.declared.settings.Settings.{Settings}
use Rattle.disk_archive.specs.declared.archive.Archive.{Archive}
use Rattle.disk_archive.specs.declared.open_error.OpenError.{OpenError}
use Rattle.disk_archive.specs.declared.refused.Refused.{Refused}
use Rattle.disk_archive.specs.Archives.{Represents, IsHonest, erase_of, erase_state, is_down, once_of, once_state, pen_in, settings_of, site_of}
use Rattle.disk_archive.specs.Crashes.{Crashes}
use Rattle.disk_archive.specs.Outcome.{erase_after, pen_after}
use Rattle.disk_archive.specs.Sites.{LeftRepresents, Site}
use Rattle.archive_uses.specs.Use.{AreBroken, Call, IsCall, StepsOf, IsUse, Use, Verdict}
use Rattle.archive_uses.specs.Use.Call.{admit, mark, apply, flush, ask}
use Rattle.archive_uses.specs.Use.Use.{called, cut, looked, cut_looking, closed, lost, found, opened, shut, cut_opening}
use Rattle.archive_uses.specs.Use.Verdict.{replied, quiet, failed}
use Rattle.archive_uses.specs.Verdicts.{of_admit, of_mark, of_apply, of_flush, of_ask}
use Rattle.archive_uses.specs.Calls.{IsCut, Keeps, Looks}
use Rattle.archive_uses.specs.Openings.{Opens}
use Rattle.archive_uses.specs.Uses.{CallCut, CallEnds, Leads, LookCut, Stage}
use Rattle.archive_uses.specs.Uses.Stage.{on, off, gone}
use Rattle.archive_uses.proofs.Ran.{Ran, Stays, ran_answered, ran_crash, ran_down, ran_opened, ran_still, ran_whole}
use Rattle.archive_uses.proofs.Meanings.{Means, holds, is_up, up_represents, means_admit, means_apply, means_ask, means_flush, means_mark}
use Rattle.archive_uses.proofs.Cuts.{LeftDone, cuts_admit, cuts_apply, cuts_mark, cuts_still}
use Rattle.archive_uses.proofs.Resting.{AllSound, Lying, Resting, represented_rests, lying_found, rests_left, rests_on, rests_reads}

-- what is true of a stage after these uses
abbrev pub Inv : {E O Pen Seen : Type 0} (erase : EraseGhosts E) (once : OnceGhosts O Pen Seen) → Settings → (History → Type 0) → List Use → Stage E O Pen Seen erase once → Type 0
Inv erase once made Q past (on a) = ((h : History) × Ran made.collectors Q past false h × Represents a h × (settings_of a ≡ made)) ⊎ ((is_down a ≡ true) × Resting erase once made Q past (erase_of a) (once_of a) (pen_in a))
Inv erase once made Q past (off e o pen) = Resting erase once made Q past e o pen
Inv erase once made Q past (gone blocks left) = Lying made Q past blocks left

-- ---- calls

pub grows_none : (o : OnceState) → Grows o o
grows_none o = record { tried = λ n t. t; settled = λ n b s. s }

-- what was left by a call that went down
left_done : (made : Settings) (Q : History → Type 0) (stays : Stays Q) (past : List Use) (u : Use) (call : Call) (site : Site) (h : History) (left : Left) → IsCall call → ((ss : List _) (rs : List _) → AreBroken call ss rs → StepsOf u ss rs) → Ran made.collectors Q past false h → LeftDone call site h left → (g : History) × Ran made.collectors Q (past ++ u ∷ []) true g × LeftRepresents site g left
left_done made Q stays past u call site h left valid represents_node run (inl was) = (h, ran_crash made.collectors Q past u false h (represents_node _ _ (inl (refl, refl))) run, was)
left_done made Q stays past u call site h left valid represents_node run (inr is) = (is.0, ran_whole made.collectors Q stays past u call is.1 h is.0 valid represents_node is.2 run, is.3)

-- a call on an archive that must be opened again
rests_idle : {E O Pen Seen : Type 0} (erase : EraseGhosts E) (once : OnceGhosts O Pen Seen) (made : Settings) (Q : History → Type 0) (past : List Use) (a z : Archive E O Pen Seen erase once) → Keeps a z → is_down a ≡ true → Resting erase once made Q past (erase_of a) (once_of a) (pen_in a) → Resting erase once made Q past (erase_of z) (once_of z) (pen_in z)
rests_idle {E} erase once made Q past a z keeps down r =
    let honest : IsHonest z = keeps.honest.0 (r.honest_erase, r.honest_once) in
    let idle = keeps.idle (r.honest_erase, r.honest_once) down in
    record {
      honest_erase = honest.0;
      honest_once = honest.1;
      site = r.site;
      noted = r.noted;
      settings = r.settings;
      count = r.count ∙ ap once.block_count (sym keeps.disk);
      rests = λ left now. r.rests left
          (subst (λ (o : OnceState). LeftNow (erase_state a) o left) idle.1
          (subst (λ (e : E). LeftNow (erase.model e) (once_state z) left) idle.0 now));
    }

abbrev reply_of : Verdict → Reply
reply_of (replied reply) = reply
reply_of quiet = NeedsRecovery
reply_of failed = NeedsRecovery

pub call_ends : {E O Pen Seen : Type 0} (erase : EraseGhosts E) (once : OnceGhosts O Pen Seen) → AllSound erase → (made : Settings) (Q : History → Type 0) (stays : Stays Q) (past : List Use) (call : Call) (v : Verdict) (a z : Archive E O Pen Seen erase once) → IsCall call → Keeps a z → (is_down a ≡ true → v ≡ replied NeedsRecovery) → Means Q call a z v → ((h : History) → Represents a h → Crashes a z (LeftDone call (site_of a) h))
    → Inv erase once made Q past (on a) → Inv erase once made Q (past ++ called call v ∷ []) (on z)
call_ends erase once sound made Q stays past call (replied reply) a z valid keeps needs means cuts (inl up) =
    let t = means up.0 up.1.held up.2 in
    inl (t.0, ran_answered made.collectors Q stays past call reply up.0 t.0 valid t.1 up.1, t.2, keeps.settings ∙ up.3)
call_ends erase once sound made Q stays past call quiet a z valid keeps needs means cuts (inl up) =
    inl (up.0, ran_still made.collectors Q past (called call quiet) false up.0 (refl, refl) up.1, means up.0 up.2, keeps.settings ∙ up.3)
call_ends {E} erase once sound made Q stays past call failed a z valid keeps needs means cuts (inl up) =
    let h = up.0 in
    let k = up.2 in
    let honest : IsHonest z = keeps.honest.0 k.honest in
    let cut = cuts h k in
    inr (
      means,
      record {
        honest_erase = honest.0;
        honest_once = honest.1;
        site = site_of a;
        noted = k.noted;
        settings = up.3;
        count = ap once.block_count (sym keeps.disk);
        rests = λ left now. left_done made Q stays past (called call failed) call (site_of a) h left valid (λ ss rs b. b) up.1
            (cut.each left (now_is_pair (erase_state a) (erase_state z) (once_state a) (once_state z) (once_state z) (sound (erase_of z) honest.0) cut.later (keeps.grows k.honest) (grows_none (once_state z)) left now));
      },
    )
call_ends erase once sound made Q stays past call (replied reply) a z valid keeps needs means cuts (inr down) =
    let is : reply ≡ NeedsRecovery = ap reply_of (needs down.0) in
    let idle = keeps.idle (down.1.honest_erase, down.1.honest_once) down.0 in
    inr (
      idle.2,
      rests_on erase once made Q past (past ++ called call (replied reply) ∷ []) (erase_of z) (once_of z) (pen_in z)
          (λ g run. subst (λ (r : Reply). Ran made.collectors Q (past ++ called call (replied r) ∷ []) true g) (sym is) (ran_down made.collectors Q past call g valid run))
          (rests_idle erase once made Q past a z keeps down.0 down.1),
    )
call_ends erase once sound made Q stays past call quiet a z valid keeps needs means cuts (inr down) = absurd (let e : quiet ≡ replied NeedsRecovery = needs down.0 in cc)
call_ends erase once sound made Q stays past call failed a z valid keeps needs means cuts (inr down) = absurd (let e : failed ≡ replied NeedsRecovery = needs down.0 in cc)

-- a crash inside a call on such an archive
cut_down : {E O Pen Seen : Type 0} (erase : EraseGhosts E) (once : OnceGhosts O Pen Seen) → AllSound erase → (made : Settings) (Q : History → Type 0) (past : List Use) (u : Use) (a z : Archive E O Pen Seen erase once) (left : Left) → StepsOf u (Crash ∷ []) (Crashed ∷ []) → Keeps a z → IsCut a z left → is_down a ≡ true
    → Resting erase once made Q past (erase_of a) (once_of a) (pen_in a) → Lying made Q (past ++ u ∷ []) (once.block_count (once_of a)) left
cut_down {E} erase once sound made Q past u a z left represents_node keeps pair down r =
    let idle = keeps.idle (r.honest_erase, r.honest_once) down in
    let since : (erase_state a).left_since (erase_state a).clock left.erase = subst (λ (e : E). (erase.model e).left_since (erase_state a).clock left.erase) idle.0 pair.erase in
    let now : LeftNow (erase_state a) (once_state a) left = record {
      erase = (sound (erase_of a) r.honest_erase).only_now left.erase since;
      tried = pair.tried;
      within = subst (λ (o : OnceState). TriedWithin o left) idle.1 pair.within;
      settled = pair.settled;
    } in
    let f = r.rests left now in
    record { site = r.site; noted = r.noted; settings = r.settings; count = r.count; history = f.0; run = ran_crash made.collectors Q past u true f.0 represents_node f.1; represents = f.2 }

-- a crash inside a call
pub call_cut : {E O Pen Seen : Type 0} (erase : EraseGhosts E) (once : OnceGhosts O Pen Seen) → AllSound erase → (made : Settings) (Q : History → Type 0) (stays : Stays Q) (past : List Use) (call : Call) (a z : Archive E O Pen Seen erase once) (left : Left) → IsCall call → Keeps a z → ((h : History) → Represents a h → Crashes a z (LeftDone call (site_of a) h)) → IsCut a z left
    → Inv erase once made Q past (on a) → Lying made Q (past ++ cut call ∷ []) (once.block_count (once_of a)) left
call_cut erase once sound made Q stays past call a z left valid keeps cuts pair (inl up) =
    let f = left_done made Q stays past (cut call) call (site_of a) up.0 left valid (λ ss rs b. b) up.1 ((cuts up.0 up.2).each left pair) in
    record { site = site_of a; noted = up.2.noted; settings = up.3; count = refl; history = f.0; run = f.1; represents = f.2 }
call_cut erase once sound made Q stays past call a z left valid keeps cuts pair (inr down) = cut_down erase once sound made Q past (cut call) a z left (inl (refl, refl)) keeps pair down.0 down.1

-- ---- calls that only read, which the machine doesn't have

look_ends : {E O Pen Seen : Type 0} (erase : EraseGhosts E) (once : OnceGhosts O Pen Seen) (made : Settings) (Q : History → Type 0) (past : List Use) (a z : Archive E O Pen Seen erase once) → Looks a z → Inv erase once made Q past (on a) → Inv erase once made Q (past ++ looked ∷ []) (on z)
look_ends erase once made Q past a z m (inl up) =
    inl (up.0, ran_still made.collectors Q past looked false up.0 (refl, refl) up.1, up_represents z up.0 (m.holds up.0 (holds a up.0 up.2)) (m.keeps.honest.0 up.2.honest) (m.down ∙ is_up a up.0 up.2), m.keeps.settings ∙ up.3)
look_ends erase once made Q past a z m (inr down) = inr (
  m.down ∙ down.0,
  rests_on erase once made Q past (past ++ looked ∷ []) (erase_of z) (once_of z) (pen_in z) (λ g run. ran_still made.collectors Q past looked true g (refl, refl) run) (rests_idle erase once made Q past a z m.keeps down.0 down.1),
)

look_cut : {E O Pen Seen : Type 0} (erase : EraseGhosts E) (once : OnceGhosts O Pen Seen) → AllSound erase → (made : Settings) (Q : History → Type 0) (past : List Use) (a : Archive E O Pen Seen erase once) (left : Left) → LookCut a left → Inv erase once made Q past (on a) → Lying made Q (past ++ cut_looking ∷ []) (once.block_count (once_of a)) left
look_cut erase once sound made Q past a left c (inl up) = record { site = site_of a; noted = up.2.noted; settings = up.3; count = refl; history = up.0; run = ran_crash made.collectors Q past cut_looking false up.0 (refl, refl) up.1; represents = (c.1.crash up.0 up.2).each left c.2 }
look_cut erase once sound made Q past a left c (inr down) = cut_down erase once sound made Q past cut_looking a c.0 left (refl, refl) c.1.keeps c.2 down.0 down.1

-- ---- each call

pub ends : {E O Pen Seen : Type 0} (erase : EraseGhosts E) (once : OnceGhosts O Pen Seen) → AllSound erase → (made : Settings) (Q : History → Type 0) (stays : Stays Q) (past : List Use) (call : Call) (v : Verdict) (a z : Archive E O Pen Seen erase once) → IsCall call → CallEnds call v a z → Inv erase once made Q past (on a) → Inv erase once made Q (past ++ called call v ∷ []) (on z)
ends erase once sound made Q stays past (admit c batch) v a z valid did inv =
    let m = did.1 in
    call_ends erase once sound made Q stays past (admit c batch) v a z valid m.keeps
    (λ down. did.2 ∙ ap (λ r. of_admit r (is_down z)) (m.recovery.1 down))
    (subst (Means Q (admit c batch) a z) (sym did.2) (means_admit Q a z c batch did.0 m)) (cuts_admit a z c batch did.0 m) inv
ends erase once sound made Q stays past (mark c at) v a z valid did inv =
    let m = did.1 in
    call_ends erase once sound made Q stays past (mark c at) v a z valid m.keeps
    (λ down. did.2 ∙ ap (λ r. of_mark r (is_down z)) (m.recovery.1 down))
    (subst (Means Q (mark c at) a z) (sym did.2) (means_mark Q a z c at did.0 m)) (cuts_mark a z c at did.0 m) inv
ends erase once sound made Q stays past apply v a z valid did inv =
    let m = did.1 in
    call_ends erase once sound made Q stays past apply v a z valid m.keeps
    (λ down. did.2 ∙ ap (λ r. of_apply r (is_down z)) (m.recovery.1 down))
    (subst (Means Q apply a z) (sym did.2) (means_apply Q a z did.0 m)) (cuts_apply a z did.0 m) inv
ends erase once sound made Q stays past flush v a z valid did inv =
    let m = did.1 in
    call_ends erase once sound made Q stays past flush v a z valid m.keeps
    (λ down. did.2 ∙ ap (λ r. of_flush r (is_down z)) (m.recovery.1 down))
    (subst (Means Q flush a z) (sym did.2) (means_flush Q a z did.0 m)) (λ h k. cuts_still flush a z h (m.crash h k)) inv
ends erase once sound made Q stays past (ask query) v a z valid did inv =
    let m = did.1 in
    call_ends erase once sound made Q stays past (ask query) v a z valid m.looks.keeps
    (λ down. did.2 ∙ ap (λ r. of_ask r (is_down z)) (m.recovery.1 down))
    (subst (Means Q (ask query) a z) (sym did.2) (means_ask Q a z query did.0 m)) (λ h k. cuts_still (ask query) a z h (m.looks.crash h k)) inv

pub cuts_off : {E O Pen Seen : Type 0} (erase : EraseGhosts E) (once : OnceGhosts O Pen Seen) → AllSound erase → (made : Settings) (Q : History → Type 0) (stays : Stays Q) (past : List Use) (call : Call) (a : Archive E O Pen Seen erase once) (left : Left) → IsCall call → CallCut call a left → Inv erase once made Q past (on a) → Lying made Q (past ++ cut call ∷ []) (once.block_count (once_of a)) left
cuts_off erase once sound made Q stays past (admit c batch) a left valid did inv = call_cut erase once sound made Q stays past (admit c batch) a did.0 left valid did.2.keeps (cuts_admit a did.0 c batch did.1 did.2) did.3 inv
cuts_off erase once sound made Q stays past (mark c at) a left valid did inv = call_cut erase once sound made Q stays past (mark c at) a did.0 left valid did.2.keeps (cuts_mark a did.0 c at did.1 did.2) did.3 inv
cuts_off erase once sound made Q stays past apply a left valid did inv = call_cut erase once sound made Q stays past apply a did.0 left valid did.2.keeps (cuts_apply a did.0 did.1 did.2) did.3 inv
cuts_off erase once sound made Q stays past flush a left valid did inv = call_cut erase once sound made Q stays past flush a did.0 left valid did.2.keeps (λ h k. cuts_still flush a did.0 h (did.2.crash h k)) did.3 inv
cuts_off erase once sound made Q stays past (ask query) a left valid did inv = call_cut erase once sound made Q stays past (ask query) a did.0 left valid did.1.keeps (λ h k. cuts_still (ask query) a did.0 h (did.1.crash h k)) did.2 inv

-- ---- both disks

-- an archive is given up, or a crash comes while it makes no call: it rests after a use that is a crash
on_rests : {E O Pen Seen : Type 0} (erase : EraseGhosts E) (once : OnceGhosts O Pen Seen) (made : Settings) (Q : History → Type 0) (past : List Use) (u : Use) (a : Archive E O Pen Seen erase once) → StepsOf u (Crash ∷ []) (Crashed ∷ []) → Inv erase once made Q past (on a) → Resting erase once made Q (past ++ u ∷ []) (erase_of a) (once_of a) (pen_in a)
on_rests erase once made Q past u a represents_node (inl up) = represented_rests erase once made Q (past ++ u ∷ []) a up.0 up.3 (ran_crash made.collectors Q past u false up.0 represents_node up.1) up.2
on_rests erase once made Q past u a represents_node (inr down) = rests_on erase once made Q past (past ++ u ∷ []) (erase_of a) (once_of a) (pen_in a) (λ g run. ran_crash made.collectors Q past u true g represents_node run) down.1

-- both disks are opened
on_opened : {E O Pen Seen : Type 0} (erase : EraseGhosts E) (once : OnceGhosts O Pen Seen) (made : Settings) (Q : History → Type 0) (past : List Use) (e : E) (o : O) (pen : Pen) (a : Archive E O Pen Seen erase once) → Opens {erase = erase} {once = once} e o pen (Ok a) → Resting erase once made Q past e o pen → Inv erase once made Q (past ++ opened ∷ []) (on a)
on_opened erase once made Q past e o pen a m r =
    let f = rests_reads erase once made Q past e o pen r in
    inl (f.0, ran_opened made.collectors Q past f.0 f.1, m.opened r.honest_erase r.honest_once r.site f.0 f.2, ap (λ (x : Site). x.settings) (m.site r.honest_erase r.site f.0 f.2) ∙ r.settings)

-- an opening is refused
on_shut : {E O Pen Seen : Type 0} (erase : EraseGhosts E) (once : OnceGhosts O Pen Seen) (made : Settings) (Q : History → Type 0) (past : List Use) (e : E) (o : O) (pen : Pen) (back : Refused E O OpenError Pen Seen) → Opens {erase = erase} {once = once} e o pen (Err back) → Resting erase once made Q past e o pen → Resting erase once made Q (past ++ shut ∷ []) back.erase back.once.value back.pen
on_shut {E} {O} {Pen} {Seen} erase once made Q past e o pen back m r =
    let f = rests_reads erase once made Q past e o pen r in
    record {
      honest_erase = m.of_erase.0 r.honest_erase;
      honest_once = subst (λ (p : O). once.honest p back.pen) (sym m.disk) (m.of_once.0 r.honest_once);
      site = r.site;
      noted = r.noted;
      settings = r.settings;
      count = r.count ∙ ap once.block_count (sym m.disk);
      rests = λ left now. ⊎_elim
          (λ was. (let b = r.rests left was in (b.0, ran_still made.collectors Q past shut true b.0 (refl, refl) b.1, b.2)))
          (λ is. (f.0, ran_still made.collectors Q past shut true f.0 (refl, refl) f.1, is))
          (m.after r.honest_erase r.honest_once r.site f.0 f.2 left now);
    }

-- a crash comes inside an opening
off_cut : {E O Pen Seen : Type 0} (erase : EraseGhosts E) (once : OnceGhosts O Pen Seen) (made : Settings) (Q : History → Type 0) (past : List Use) (e : E) (o : O) (pen : Pen) (result : Result (Archive E O Pen Seen erase once) (Refused E O OpenError Pen Seen)) (left : Left) → Opens e o pen result
    → CrashPair (erase.model e) (erase.model (erase_after result)) (once.model pen) (once.model pen) (once.model (pen_after result)) left → Resting erase once made Q past e o pen → Lying made Q (past ++ cut_opening ∷ []) (once.block_count o) left
off_cut erase once made Q past e o pen result left m pair r =
    let f = rests_reads erase once made Q past e o pen r in
    let b : (g : History) × Ran made.collectors Q past true g × LeftRepresents r.site g left = ⊎_elim (λ was. r.rests left was) (λ is. (f.0, f.1, is)) (m.inside r.honest_erase r.honest_once r.site f.0 f.2 left pair) in
    record { site = r.site; noted = r.noted; settings = r.settings; count = r.count; history = b.0; run = ran_crash made.collectors Q past cut_opening true b.0 (refl, refl) b.1; represents = b.2 }

-- ---- all of them

lying_at : (made : Settings) (Q : History → Type 0) (past : List Use) (j k : ℕ) (left : Left) → j ≡ k → Lying made Q past k left → Lying made Q past j left
lying_at made Q past j k left same l = subst (λ x. Lying made Q past x left) (sym same) l

pub lead : {E O Pen Seen : Type 0} (erase : EraseGhosts E) (once : OnceGhosts O Pen Seen) → AllSound erase → (made : Settings) (Q : History → Type 0) (stays : Stays Q) (past : List Use) (u : Use) (s t : Stage E O Pen Seen erase once) → IsUse u → Leads u s t → Inv erase once made Q past s → Inv erase once made Q (past ++ u ∷ []) t
lead erase once sound made Q stays past (called call v) (on a) (on z) valid l inv = ends erase once sound made Q stays past call v a z valid l inv
lead erase once sound made Q stays past (cut call) (on a) (gone k left) valid l inv = lying_at made Q (past ++ cut call ∷ []) k (once.block_count (once_of a)) left l.1 (cuts_off erase once sound made Q stays past call a left valid l.0 inv)
lead erase once sound made Q stays past looked (on a) (on z) valid l inv = look_ends erase once made Q past a z l inv
lead erase once sound made Q stays past cut_looking (on a) (gone k left) valid l inv = lying_at made Q (past ++ cut_looking ∷ []) k (once.block_count (once_of a)) left l.1 (look_cut erase once sound made Q past a left l.0 inv)
lead {E} {O} {Pen} {Seen} erase once sound made Q stays past closed (on a) (off e o pen) valid l inv =
    subst (λ (x : E). Resting erase once made Q (past ++ closed ∷ []) x o pen) (sym l.0)
    (subst (λ (x : O). Resting erase once made Q (past ++ closed ∷ []) (erase_of a) x pen) (sym l.1)
    (subst (λ (x : Pen). Resting erase once made Q (past ++ closed ∷ []) (erase_of a) (once_of a) x) (sym l.2)
    (on_rests erase once made Q past closed a (refl, refl) inv)))
lead erase once sound made Q stays past lost (on a) (gone k left) valid l inv =
    lying_at made Q (past ++ lost ∷ []) k (once.block_count (once_of a)) left l.1 (rests_left erase once made Q (past ++ lost ∷ []) (erase_of a) (once_of a) (pen_in a) left (on_rests erase once made Q past lost a (refl, refl) inv) l.0)
lead erase once sound made Q stays past lost (off e o pen) (gone k left) valid l inv =
    lying_at made Q (past ++ lost ∷ []) k (once.block_count o) left l.1 (rests_left erase once made Q (past ++ lost ∷ []) e o pen left
    (rests_on erase once made Q past (past ++ lost ∷ []) e o pen (λ g run. ran_crash made.collectors Q past lost true g (refl, refl) run) inv) l.0)
lead erase once sound made Q stays past found (gone k left) (off e o pen) valid l inv =
    rests_on erase once made Q past (past ++ found ∷ []) e o pen (λ g run. ran_still made.collectors Q past found true g (refl, refl) run)
    (lying_found erase once made Q past k e o pen left inv l.0 l.1 l.2 l.3)
lead erase once sound made Q stays past opened (off e o pen) (on a) valid l inv = on_opened erase once made Q past e o pen a l inv
lead {E} {O} {Pen} {Seen} erase once sound made Q stays past shut (off e o pen) (off f p new) valid l inv =
    subst (λ (x : E). Resting erase once made Q (past ++ shut ∷ []) x p new) (sym l.2)
    (subst (λ (x : O). Resting erase once made Q (past ++ shut ∷ []) l.0.erase x new) (sym l.3)
    (subst (λ (x : Pen). Resting erase once made Q (past ++ shut ∷ []) l.0.erase l.0.once.value x) (sym l.4)
    (on_shut erase once made Q past e o pen l.0 l.1 inv)))
lead erase once sound made Q stays past cut_opening (off e o pen) (gone k left) valid l inv =
    lying_at made Q (past ++ cut_opening ∷ []) k (once.block_count o) left l.3 (off_cut erase once made Q past e o pen l.0 left l.1 l.2 inv)
lead erase once sound made Q stays past _ _ _ valid l inv = absurd l
