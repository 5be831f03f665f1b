-- Each use leads from what is true of the scene before it to what is true of the one after it.
use Rattle.std.proofs.Common.{◌≡◌, inl, inr, ⊎_elim, List, [], ◌∷◌, ◌++◌, true, false, refl, sym, ◌∙◌, ap, subst, append_assoc, append-nil}
use Rattle.std.specs.List.{AllByRecursion}
use Rattle.disk_models.specs.declared.erase.EraseDisk.{Ghosts as EraseGhosts}
use Rattle.disk_models.specs.declared.once.OnceDisk.{Ghosts as OnceGhosts}
use Rattle.route_meaning.specs.History.{History}
use Rattle.sequencer.proofs.api.Setting.{all_at}
use Rattle.interleaving_core.specs.declared.query.Query.{Query}
use Rattle.archive_pages.specs.declared.settings.Settings.{Settings}
use Rattle.disk_archive.specs.declared.archive.Archive.{Archive}
use Rattle.disk_archive.specs.Archives.{erase_of, is_down, once_of, pen_in}
use Rattle.archive_uses.specs.Use.{StepsOf, IsUse, Use, Verdict}
use Rattle.archive_uses.specs.Use.Call.{ask}
use Rattle.archive_uses.specs.Use.Use.{called, cut, cut_looking, begun, finished, lost, cut_opening}
use Rattle.archive_uses.specs.Verdicts.{of_turn}
use Rattle.archive_uses.specs.Uses.{Asked, Goes, Leads, Scene, Stage, TurnEnds, Uses}
use Rattle.archive_uses.specs.Uses.Stage.{on, off, gone}
use Rattle.archive_uses.proofs.Ran.{Stays, ran_still, ran_with}
use Rattle.archive_uses.proofs.Meanings.{Means, means_turn}
use Rattle.archive_uses.proofs.Cuts.{cuts_still}
use Rattle.archive_uses.proofs.Resting.{AllSound, Resting}
use Rattle.archive_uses.proofs.Following.{Inv, call_ends, lead}
use Rattle.archive_uses.proofs.Held.{AllHeld, IsHeld, held_begun, held_down, held_finished, held_on, held_turned}

-- ---- what else is true of each history

rests_with : {E O Pen Seen : Type 0} (erase : EraseGhosts E) (once : OnceGhosts O Pen Seen) (made : Settings) (P Q : History → Type 0) (past : List Use) (e : E) (o : O) (pen : Pen) → ((g : History) → P g → Q g) → Resting erase once made P past e o pen → Resting erase once made Q past e o pen
rests_with erase once made P Q past e o pen so r = record {
  honest_erase = r.honest_erase;
  honest_once = r.honest_once;
  site = r.site;
  noted = r.noted;
  settings = r.settings;
  count = r.count;
  rests = λ left now. (let f = r.rests left now in (f.0, ran_with made.collectors P Q past true f.0 (so f.0 f.1.held) f.1, f.2));
}

pub inv_with : {E O Pen Seen : Type 0} (erase : EraseGhosts E) (once : OnceGhosts O Pen Seen) (made : Settings) (P Q : History → Type 0) (past : List Use) (s : Stage E O Pen Seen erase once) → ((g : History) → P g → Q g) → Inv erase once made P past s → Inv erase once made Q past s
inv_with erase once made P Q past (on a) so inv = ⊎_elim
    (λ up. inl (up.0, ran_with made.collectors P Q past false up.0 (so up.0 up.1.held) up.1, up.2, up.3))
    (λ down. inr (down.0, rests_with erase once made P Q past (erase_of a) (once_of a) (pen_in a) so down.1))
    inv
inv_with erase once made P Q past (off e o pen) so inv = rests_with erase once made P Q past e o pen so inv
inv_with erase once made P Q past (gone k left) so inv = record { site = inv.site; noted = inv.noted; settings = inv.settings; count = inv.count; history = inv.history; run = ran_with made.collectors P Q past true inv.history (so inv.history inv.run.held) inv.run; represents = inv.represents }

-- a use that does nothing
rests_still : {E O Pen Seen : Type 0} (erase : EraseGhosts E) (once : OnceGhosts O Pen Seen) (made : Settings) (Q : History → Type 0) (past : List Use) (u : Use) (e : E) (o : O) (pen : Pen) → StepsOf u [] [] → Resting erase once made Q past e o pen → Resting erase once made Q (past ++ u ∷ []) e o pen
rests_still erase once made Q past u e o pen represents_node r = record {
  honest_erase = r.honest_erase;
  honest_once = r.honest_once;
  site = r.site;
  noted = r.noted;
  settings = r.settings;
  count = r.count;
  rests = λ left now. (let f = r.rests left now in (f.0, ran_still made.collectors Q past u true f.0 represents_node f.1, f.2));
}

inv_still : {E O Pen Seen : Type 0} (erase : EraseGhosts E) (once : OnceGhosts O Pen Seen) (made : Settings) (Q : History → Type 0) (past : List Use) (u : Use) (s : Stage E O Pen Seen erase once) → StepsOf u [] [] → Inv erase once made Q past s → Inv erase once made Q (past ++ u ∷ []) s
inv_still erase once made Q past u (on a) represents_node inv = ⊎_elim
    (λ up. inl (up.0, ran_still made.collectors Q past u false up.0 represents_node up.1, up.2, up.3))
    (λ down. inr (down.0, rests_still erase once made Q past u (erase_of a) (once_of a) (pen_in a) represents_node down.1))
    inv
inv_still erase once made Q past u (off e o pen) represents_node inv = rests_still erase once made Q past u e o pen represents_node inv
inv_still erase once made Q past u (gone k left) represents_node inv = record { site = inv.site; noted = inv.noted; settings = inv.settings; count = inv.count; history = inv.history; run = ran_still made.collectors Q past u true inv.history represents_node inv.run; represents = inv.represents }

-- R is true of the history, and so is what is true of the questions in hand
abbrev pub With : (History → Type 0) → List Asked → History → Type 0
With R hand h = R h × AllHeld hand h

with_on : (R : History → Type 0) → Stays R → (hand : List Asked) → Stays (With R hand)
with_on R stays hand h g begins both = (stays h g begins both.0, held_on hand h g begins both.1)

-- ---- a turn of a question in hand

abbrev Both : (History → Type 0) → (History → Type 0) → History → Type 0
Both P Q h = P h × Q h

both_on : (P Q : History → Type 0) → Stays P → Stays Q → Stays (Both P Q)
both_on P Q p q h g begins both = (p h g begins both.0, q h g begins both.1)

turned : {E O Pen Seen : Type 0} (erase : EraseGhosts E) (once : OnceGhosts O Pen Seen) → AllSound erase → (made : Settings) (R : History → Type 0) → Stays R → (past : List Use) (query : Query) (v : Verdict) (a z : Archive E O Pen Seen erase once) (hand next : List Asked) → TurnEnds query v a z hand next → Inv erase once made (With R hand) past (on a) → Inv erase once made (With R next) (past ++ called (ask query) v ∷ []) (on z)
turned erase once sound made R stays past query v a z hand next t inv =
    let P = With R hand in
    let Q = With R next in
    let B = Both P Q in
    let m = t.turns in
    let both : Inv erase once made B past (on a) = ⊎_elim
    (λ up. inl (up.0, ran_with made.collectors P B past false up.0 (up.1.held, (up.1.held.0, held_turned a z hand next up.0 t.number t.question t.cursor t.result t.here m t.after up.2 up.1.held.1)) up.1, up.2, up.3))
    (λ down. inr (down.0, rests_with erase once made P B past (erase_of a) (once_of a) (pen_in a) (λ g p. (p, (p.0, held_down a z hand next g t.number t.question t.cursor t.result t.here m t.after down.0 p.1))) down.1))
    inv in
    inv_with erase once made B Q (past ++ called (ask query) v ∷ []) (on z) (λ g b. b.1)
    (call_ends erase once sound made B (both_on P Q (with_on R stays hand) (with_on R stays next)) past (ask query) v a z tt m.looks.keeps
    (λ down. t.verdict ∙ ap (λ r. of_turn r (is_down z)) (m.recovery.1 down))
    (subst (Means B (ask query) a z) (sym t.verdict) (means_turn B a z query t.question.cursor t.cursor t.result (λ h b. (all_at (IsHeld h) hand t.number t.question b.0.1 t.here).gathered) t.asks m))
    (λ h k. cuts_still (ask query) a z h (m.looks.crash h k)) both)

-- ---- all uses

-- the questions in hand stay
kept : {E O Pen Seen : Type 0} (erase : EraseGhosts E) (once : OnceGhosts O Pen Seen) → AllSound erase → (made : Settings) (R : History → Type 0) → Stays R → (past : List Use) (u : Use) (s t : Stage E O Pen Seen erase once) (hand next : List Asked) → IsUse u → Leads u s t × (next ≡ hand) → Inv erase once made (With R hand) past s → Inv erase once made (With R next) (past ++ u ∷ []) t
kept erase once sound made R stays past u s t hand next valid g inv =
    subst (λ (l : List Asked). Inv erase once made (With R l) (past ++ u ∷ []) t) (sym g.1) (lead erase once sound made (With R hand) (with_on R stays hand) past u s t valid g.0 inv)

-- a crash ends them
dropped : {E O Pen Seen : Type 0} (erase : EraseGhosts E) (once : OnceGhosts O Pen Seen) → AllSound erase → (made : Settings) (R : History → Type 0) → Stays R → (past : List Use) (u : Use) (s t : Stage E O Pen Seen erase once) (hand next : List Asked) → IsUse u → Leads u s t × (next ≡ []) → Inv erase once made (With R hand) past s → Inv erase once made (With R next) (past ++ u ∷ []) t
dropped erase once sound made R stays past u s t hand next valid g inv =
    subst (λ (l : List Asked). Inv erase once made (With R l) (past ++ u ∷ []) t) (sym g.1)
    (lead erase once sound made (With R []) (with_on R stays []) past u s t valid g.0 (inv_with erase once made (With R hand) (With R []) past s (λ h both. (both.0, tt)) inv))

pub go : {E O Pen Seen : Type 0} (erase : EraseGhosts E) (once : OnceGhosts O Pen Seen) → AllSound erase → (made : Settings) (R : History → Type 0) → Stays R → (past : List Use) (u : Use) (s t : Stage E O Pen Seen erase once) (hand next : List Asked) → IsUse u → Goes u s t hand next → Inv erase once made (With R hand) past s → Inv erase once made (With R next) (past ++ u ∷ []) t
go erase once sound made R stays past (called (ask query) v) (on a) (on z) hand next valid g inv = ⊎_elim
    (λ k. kept erase once sound made R stays past (called (ask query) v) (on a) (on z) hand next valid k inv)
    (λ t. turned erase once sound made R stays past query v a z hand next t inv)
    g
go erase once sound made R stays past begun s t hand next valid g inv =
    subst (λ x. Inv erase once made (With R next) (past ++ begun ∷ []) x) (sym g.0)
    (inv_still erase once made (With R next) past begun s (refl, refl) (inv_with erase once made (With R hand) (With R next) past s (λ h both. (both.0, held_begun hand next g.1 h both.1)) inv))
go erase once sound made R stays past finished s t hand next valid g inv =
    subst (λ x. Inv erase once made (With R next) (past ++ finished ∷ []) x) (sym g.0)
    (inv_still erase once made (With R next) past finished s (refl, refl) (inv_with erase once made (With R hand) (With R next) past s (λ h both. (both.0, held_finished once hand next g.1 h both.1)) inv))
go erase once sound made R stays past (cut call) s t hand next valid g inv = dropped erase once sound made R stays past (cut call) s t hand next valid g inv
go erase once sound made R stays past cut_looking s t hand next valid g inv = dropped erase once sound made R stays past cut_looking s t hand next valid g inv
go erase once sound made R stays past lost s t hand next valid g inv = dropped erase once sound made R stays past lost s t hand next valid g inv
go erase once sound made R stays past cut_opening s t hand next valid g inv = dropped erase once sound made R stays past cut_opening s t hand next valid g inv
go erase once sound made R stays past u s t hand next valid g inv = kept erase once sound made R stays past u s t hand next valid g inv

-- what is true of a scene
abbrev pub InvOf : {E O Pen Seen : Type 0} (erase : EraseGhosts E) (once : OnceGhosts O Pen Seen) → Settings → (History → Type 0) → List Use → Scene E O Pen Seen erase once → Type 0
InvOf erase once made R past s = Inv erase once made (With R s.hand) past s.stage

pub follow : {E O Pen Seen : Type 0} (erase : EraseGhosts E) (once : OnceGhosts O Pen Seen) → AllSound erase → (made : Settings) (R : History → Type 0) → Stays R → (past us : List Use) (s t : Scene E O Pen Seen erase once) → AllByRecursion IsUse us → Uses s us t → InvOf erase once made R past s → InvOf erase once made R (past ++ us) t
follow erase once sound made R stays past [] s t valid uses inv =
    subst (λ (us : List Use). InvOf erase once made R us t) (sym (append-nil past)) (subst (λ x. InvOf erase once made R past x) (sym uses) inv)
follow erase once sound made R stays past (u ∷ us) s t valid uses inv =
    subst (λ (all : List Use). InvOf erase once made R all t) (append_assoc past (u ∷ []) us)
    (follow erase once sound made R stays (past ++ u ∷ []) us uses.0 t valid.1 uses.2 (go erase once sound made R stays past u s.stage uses.0.stage s.hand uses.0.hand valid.0 uses.1 inv))
