-- A block that is settled stays so, whatever comes.
use Rattle.std.proofs.Common.{⊎_elim, ℕ, List, [], ◌∷◌, ◌++◌, sym, subst}
use Rattle.std.specs.List.{AllByRecursion}
use Rattle.disk_models.specs.declared.erase.EraseDisk.{Ghosts as EraseGhosts}
use Rattle.disk_models.specs.declared.once.OnceDisk.{Ghosts as OnceGhosts}
use Rattle.disk_models.specs.Once.{OnceState, settled_in}
use Rattle.disk_models.specs.Left.{Left}
use Rattle.route_meaning.specs.History.{History}
use Rattle.archive_pages.specs.declared.settings.Settings.{Settings}
use Rattle.disk_archive.specs.declared.archive.Archive.{Archive}
use Rattle.disk_archive.specs.Archives.{IsHonest, once_state}
use Rattle.archive_uses.specs.Use.{Call, IsUse, Use, Verdict}
use Rattle.archive_uses.specs.Use.Call.{admit, mark, apply, flush, ask}
use Rattle.archive_uses.specs.Use.Use.{called, cut, looked, cut_looking, begun, finished, closed, lost, found, opened, shut, cut_opening}
use Rattle.archive_uses.specs.Calls.{Keeps}
use Rattle.archive_uses.specs.Uses.{Asked, CallCut, CallEnds, Goes, Leads, Scene, Stage, Uses}
use Rattle.archive_uses.specs.Uses.Stage.{on, off, gone}
use Rattle.archive_uses.specs.Settling.{IsSettledAt}
use Rattle.archive_uses.proofs.Resting.{AllSound}
use Rattle.archive_uses.proofs.Following.{Inv}
use Rattle.archive_uses.proofs.Ran.{Stays}
use Rattle.archive_uses.proofs.Scenes.{InvOf, With, go}

keeps_of : {E O Pen Seen : Type 0} {erase : EraseGhosts E} {once : OnceGhosts O Pen Seen} (call : Call) (v : Verdict) (a z : Archive E O Pen Seen erase once) → CallEnds call v a z → Keeps a z
keeps_of (admit c batch) v a z did = did.1.keeps
keeps_of (mark c m) v a z did = did.1.keeps
keeps_of apply v a z did = did.1.keeps
keeps_of flush v a z did = did.1.keeps
keeps_of (ask query) v a z did = did.1.looks.keeps

cut_settled : {E O Pen Seen : Type 0} {erase : EraseGhosts E} {once : OnceGhosts O Pen Seen} (call : Call) (a : Archive E O Pen Seen erase once) (left : Left) → CallCut call a left → (n : ℕ) (block : List ℕ) → settled_in (once_state a) n block → settled_in left.once n block
cut_settled (admit c batch) a left did = did.3.settled
cut_settled (mark c m) a left did = did.3.settled
cut_settled apply a left did = did.3.settled
cut_settled flush a left did = did.3.settled
cut_settled (ask query) a left did = did.2.settled

honest_of : {E O Pen Seen : Type 0} (erase : EraseGhosts E) (once : OnceGhosts O Pen Seen) (made : Settings) (Q : History → Type 0) (past : List Use) (a : Archive E O Pen Seen erase once) → Inv erase once made Q past (on a) → IsHonest a
honest_of erase once made Q past a inv = ⊎_elim (λ up. up.2.honest) (λ down. (down.1.honest_erase, down.1.honest_once)) inv

stays : {E O Pen Seen : Type 0} (erase : EraseGhosts E) (once : OnceGhosts O Pen Seen) (made : Settings) (Q : History → Type 0) (past : List Use) (u : Use) (s t : Stage E O Pen Seen erase once) → Leads u s t → Inv erase once made Q past s → (b : ℕ) (block : List ℕ) → IsSettledAt s b block → IsSettledAt t b block
stays erase once made Q past (called call v) (on a) (on z) l inv b block is = ((keeps_of call v a z l).grows (honest_of erase once made Q past a inv)).settled b block is
stays erase once made Q past (cut call) (on a) (gone k left) l inv b block is = cut_settled call a left l.0 b block is
stays erase once made Q past looked (on a) (on z) l inv b block is = (l.keeps.grows (honest_of erase once made Q past a inv)).settled b block is
stays erase once made Q past cut_looking (on a) (gone k left) l inv b block is = l.0.2.settled b block is
stays {E} {O} {Pen} {Seen} erase once made Q past closed (on a) (off e o pen) l inv b block is = subst (λ (p : Pen). settled_in (once.model p) b block) (sym l.2) is
stays erase once made Q past lost (on a) (gone k left) l inv b block is = l.0.settled b block is
stays erase once made Q past lost (off e o pen) (gone k left) l inv b block is = l.0.settled b block is
stays erase once made Q past found (gone k left) (off e o pen) l inv b block is = l.0.once.settled b block is
stays erase once made Q past opened (off e o pen) (on a) l inv b block is = subst (λ (x : OnceState). settled_in x b block) (sym (l.unburnt inv.honest_once)) is
stays {E} {O} {Pen} {Seen} erase once made Q past shut (off e o pen) (off f p new) l inv b block is =
    subst (λ (x : Pen). settled_in (once.model x) b block) (sym l.4) (subst (λ (x : OnceState). settled_in x b block) (sym (l.1.unburnt inv.honest_once)) is)
stays erase once made Q past cut_opening (off e o pen) (gone k left) l inv b block is = l.2.settled b block is
stays erase once made Q past _ _ _ l inv b block is = absurd l

-- with the questions in hand
stays_so : {E O Pen Seen : Type 0} (erase : EraseGhosts E) (once : OnceGhosts O Pen Seen) (made : Settings) (Q : History → Type 0) (past : List Use) (u : Use) (s t : Stage E O Pen Seen erase once) (hand next : List Asked) → Goes u s t hand next → Inv erase once made Q past s → (b : ℕ) (block : List ℕ) → IsSettledAt s b block → IsSettledAt t b block
stays_so erase once made Q past (called (ask query) v) (on a) (on z) hand next g inv b block is = ⊎_elim
    (λ k. stays erase once made Q past (called (ask query) v) (on a) (on z) k.0 inv b block is)
    (λ t. (t.turns.looks.keeps.grows (honest_of erase once made Q past a inv)).settled b block is)
    g
stays_so erase once made Q past begun s t hand next g inv b block is = subst (λ x. IsSettledAt x b block) (sym g.0) is
stays_so erase once made Q past finished s t hand next g inv b block is = subst (λ x. IsSettledAt x b block) (sym g.0) is
stays_so erase once made Q past (cut call) s t hand next g inv b block is = stays erase once made Q past (cut call) s t g.0 inv b block is
stays_so erase once made Q past cut_looking s t hand next g inv b block is = stays erase once made Q past cut_looking s t g.0 inv b block is
stays_so erase once made Q past lost s t hand next g inv b block is = stays erase once made Q past lost s t g.0 inv b block is
stays_so erase once made Q past cut_opening s t hand next g inv b block is = stays erase once made Q past cut_opening s t g.0 inv b block is
stays_so erase once made Q past u s t hand next g inv b block is = stays erase once made Q past u s t g.0 inv b block is

pub stay : {E O Pen Seen : Type 0} (erase : EraseGhosts E) (once : OnceGhosts O Pen Seen) → AllSound erase → (made : Settings) (R : History → Type 0) → Stays R → (past us : List Use) (s t : Scene E O Pen Seen erase once) → AllByRecursion IsUse us → Uses s us t → InvOf erase once made R past s → (b : ℕ) (block : List ℕ) → IsSettledAt s.stage b block → IsSettledAt t.stage b block
stay erase once sound made R keeps past [] s t valid uses inv b block is = subst (λ x. IsSettledAt x.stage b block) (sym uses) is
stay erase once sound made R keeps past (u ∷ us) s t valid uses inv b block is =
    stay erase once sound made R keeps (past ++ u ∷ []) us uses.0 t valid.1 uses.2 (go erase once sound made R keeps past u s.stage uses.0.stage s.hand uses.0.hand valid.0 uses.1 inv) b block
    (stays_so erase once made (With R s.hand) past u s.stage uses.0.stage s.hand uses.0.hand uses.1 inv b block is)
