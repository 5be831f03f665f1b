-- What is promised of uses.
use Rattle.std.proofs.Common.{◌≡◌, inl, inr, ⊎_elim, ℕ, List, [], ◌∷◌, ◌++◌, Bool, true, false, refl, sym, subst}
use Rattle.std.specs.List.{AllByRecursion}
use Rattle.disk_models.specs.declared.erase.EraseDisk.{Ghosts as EraseGhosts}
use Rattle.disk_models.specs.declared.once.OnceDisk.{Ghosts as OnceGhosts}
use Rattle.disk_models.specs.Left.{Left, LeftNow}
use Rattle.route_meaning.specs.History.{Begins, History}
use Rattle.route_meaning.proofs.api.Beginning.{Begins-refl, Begins-trans}
use Rattle.interleaving_core.specs.Steps.{empty}
use Rattle.interleaving_core.proofs.Promised.{promised}
use Rattle.archive_pages.specs.declared.settings.Settings.{Settings}
use Rattle.disk_archive.specs.declared.archive.Archive.{Archive}
use Rattle.disk_archive.specs.Archives.{Represents, erase_of, is_down, once_of, pen_in}
use Rattle.archive_uses.specs.Use.{Use, IsUse}
use Rattle.archive_uses.specs.Use.Use.{lost}
use Rattle.archive_uses.specs.Uses.{Asked, Scene, Stage, Uses}
use Rattle.archive_uses.specs.Uses.Stage.{on, off, gone}
use Rattle.archive_uses.specs.Lives.{Lives, Starts}
use Rattle.archive_uses.specs.Runs.{AreRun, EndsInRun, EndsWith, LeftWith}
use Rattle.archive_uses.proofs.Ran.{Ran, Stays, ran_crash, ran_none, ran_with}
use Rattle.archive_uses.proofs.Resting.{AllSound, Resting}
use Rattle.archive_uses.proofs.Following.{Inv}
use Rattle.archive_uses.proofs.Scenes.{InvOf, With, follow}

is_run : (n : ℕ) (Q : History → Type 0) (us : List Use) (down : Bool) (h : History) → Ran n Q us down h → AreRun n us down h
is_run n Q us down h r = record {
  steps = r.steps;
  replies = r.replies;
  last = r.last;
  steps_of = r.steps_of;
  runs = r.runs;
  is_down = r.is_down;
  history = r.history;
  headline = promised n r.steps r.replies r.last r.valid r.runs;
}

rests_by : {E O Pen Seen : Type 0} (erase : EraseGhosts E) (once : OnceGhosts O Pen Seen) (made : Settings) (Q : History → Type 0) (us : List Use) (e : E) (o : O) (pen : Pen) → Resting erase once made Q us e o pen → (left : Left) → LeftNow (erase.model e) (once.model pen) left → LeftWith made (AreRun made.collectors us true) (once.block_count o) left
rests_by erase once made Q us e o pen r left now =
    let f = r.rests left now in
    record { site = r.site; noted = r.noted; settings = r.settings; count = r.count; history = f.0; holds = is_run made.collectors Q us true f.0 f.1; represents = f.2 }

ends_in : {E O Pen Seen : Type 0} (erase : EraseGhosts E) (once : OnceGhosts O Pen Seen) (made : Settings) (Q : History → Type 0) (us : List Use) (s : Stage E O Pen Seen erase once) → Inv erase once made Q us s → EndsInRun made us s
ends_in erase once made Q us (on a) inv = ⊎_elim
    (λ up. inl (up.0, is_run made.collectors Q us false up.0 up.1, up.2, up.3))
    (λ down. inr (down.0, rests_by erase once made Q us (erase_of a) (once_of a) (pen_in a) down.1))
    inv
ends_in erase once made Q us (off e o pen) inv = rests_by erase once made Q us e o pen inv
ends_in erase once made Q us (gone k left) inv = record { site = inv.site; noted = inv.noted; settings = inv.settings; count = inv.count; history = inv.history; holds = is_run made.collectors Q us true inv.history inv.run; represents = inv.represents }

-- what follows of each history
left_weaker : (made : Settings) (P Q : Bool → History → Type 0) (blocks : ℕ) (left : Left) → ((down : Bool) (h : History) → P down h → Q down h) → LeftWith made (P true) blocks left → LeftWith made (Q true) blocks left
left_weaker made P Q blocks left so l = record { site = l.site; noted = l.noted; settings = l.settings; count = l.count; history = l.history; holds = so true l.history l.holds; represents = l.represents }

pub ends_weaker : {E O Pen Seen : Type 0} {erase : EraseGhosts E} {once : OnceGhosts O Pen Seen} (made : Settings) (P Q : Bool → History → Type 0) (s : Stage E O Pen Seen erase once) → ((down : Bool) (h : History) → P down h → Q down h) → EndsWith made P s → EndsWith made Q s
ends_weaker {once = once} made P Q (on a) so ends = ⊎_elim (λ up. inl (up.0, so false up.0 up.1, up.2, up.3)) (λ down. inr (down.0, λ left now. left_weaker made P Q (once.block_count (once_of a)) left so (down.1 left now))) ends
ends_weaker {once = once} made P Q (off e o pen) so ends = λ left now. left_weaker made P Q (once.block_count o) left so (ends left now)
ends_weaker made P Q (gone k left) so ends = left_weaker made P Q k left so ends

-- nothing else is asked of a history
abbrev pub Any : History → Type 0
Any h = Unit {0}

pub any_on : Stays Any
any_on h g begins any = tt

-- where a life begins
pub started : {E O Pen Seen : Type 0} (erase : EraseGhosts E) (once : OnceGhosts O Pen Seen) (made : Settings) (start : List Use) (s : Stage E O Pen Seen erase once) → Starts made start s → Inv erase once made (With Any []) start s
started erase once made [] (on a) k = inl (empty made.collectors, ran_none made.collectors (With Any []) (tt, tt), k.0, k.1)
started erase once made (lost ∷ []) (gone k left) c = record {
  site = c.0;
  noted = c.1;
  settings = c.2;
  count = c.3;
  history = empty made.collectors;
  run = ran_crash made.collectors (With Any []) [] lost false (empty made.collectors) (refl, refl) (ran_none made.collectors (With Any []) (tt, tt));
  represents = c.4;
}
started erase once made _ _ c = absurd c

-- where its uses lead
pub reached : {E O Pen Seen : Type 0} (erase : EraseGhosts E) (once : OnceGhosts O Pen Seen) → AllSound erase → (made : Settings) (us : List Use) (last : Scene E O Pen Seen erase once) → Lives made us last → InvOf erase once made Any us last
reached erase once sound made us last l =
    subst (λ (all : List Use). InvOf erase once made Any all last) (sym l.are)
    (follow erase once sound made Any any_on l.start l.later (record { stage = l.first; hand = [] }) last l.valid l.leads (started erase once made l.start l.first l.begins))

pub uses_run : {E O Pen Seen : Type 0} (erase : EraseGhosts E) (once : OnceGhosts O Pen Seen) → AllSound erase → (made : Settings) (us : List Use) (last : Scene E O Pen Seen erase once) → Lives made us last → EndsInRun made us last.stage
uses_run erase once sound made us last l = ends_in erase once made (With Any last.hand) us last.stage (reached erase once sound made us last l)

-- ---- a history that was represented begins each later one

ends_held : {E O Pen Seen : Type 0} (erase : EraseGhosts E) (once : OnceGhosts O Pen Seen) (made : Settings) (Q : History → Type 0) (us : List Use) (s : Stage E O Pen Seen erase once) → Inv erase once made Q us s → EndsWith made (λ down. Q) s
ends_held erase once made Q us (on a) inv = ⊎_elim
    (λ up. inl (up.0, up.1.held, up.2, up.3))
    (λ down. inr (down.0, λ left now. (let f = down.1.rests left now in record { site = down.1.site; noted = down.1.noted; settings = down.1.settings; count = down.1.count; history = f.0; holds = f.1.held; represents = f.2 })))
    inv
ends_held erase once made Q us (off e o pen) inv = λ left now. (let f = inv.rests left now in record { site = inv.site; noted = inv.noted; settings = inv.settings; count = inv.count; history = f.0; holds = f.1.held; represents = f.2 })
ends_held erase once made Q us (gone k left) inv = record { site = inv.site; noted = inv.noted; settings = inv.settings; count = inv.count; history = inv.history; holds = inv.run.held; represents = inv.represents }

-- from an archive that represents a history on
pub represented_on : {E O Pen Seen : Type 0} (erase : EraseGhosts E) (once : OnceGhosts O Pen Seen) → AllSound erase → (made : Settings) (past us : List Use) (a : Archive E O Pen Seen erase once) (hand : List Asked) (last : Scene E O Pen Seen erase once) → is_down a ≡ false → AllByRecursion IsUse us → Uses (record { stage = on a; hand = hand }) us last
    → Inv erase once made (With Any hand) past (on a) → (h : History) × Represents a h × EndsWith made (λ down. Begins h) last.stage
represented_on erase once sound made past us a hand last up valid uses (inl is) =
    let h = is.0 in
    let on_from : Stays (Begins h) = λ g k begins was. Begins-trans h g k was begins in
    let inv : Inv erase once made (With (Begins h) hand) past (on a) = inl (h, ran_with made.collectors (With Any hand) (With (Begins h) hand) past false h (Begins-refl h, is.1.held.1) is.1, is.2, is.3) in (
      h,
      is.2,
      ends_weaker made (λ down. With (Begins h) last.hand) (λ down. Begins h) last.stage (λ down g both. both.0)
          (ends_held erase once made (With (Begins h) last.hand) (past ++ us) last.stage (follow erase once sound made (Begins h) on_from past us (record { stage = on a; hand = hand }) last valid uses inv)),
    )
represented_on erase once sound made past us a hand last up valid uses (inr down) = absurd (let is : is_down a ≡ true = down.0 in cc)
