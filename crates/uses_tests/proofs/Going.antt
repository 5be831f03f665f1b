-- Uses after uses, and turns after turns.
use Rattle.std.proofs.Common.{◌≡◌, ◌<◌, ◌+◌, ℕ, List, [], ◌∷◌, ◌++◌, length, map, take, get_or, inl, inr, ⊎_elim, refl, sym, ◌∙◌, ap, subst, append_assoc, append-nil}
use Rattle.std.proofs.lemmas.List.{map-append, take_more}
use Rattle.std.specs.List.{AllByRecursion}
use Rattle.disk_models.specs.declared.erase.EraseDisk.{Ghosts as EraseGhosts}
use Rattle.disk_models.specs.declared.once.OnceDisk.{Ghosts as OnceGhosts}
use Rattle.archive_pages.specs.declared.settings.Settings.{Settings}
use Rattle.disk_archive.specs.declared.archive.Archive.{Archive}
use Rattle.archive_uses.specs.Use.{IsUse, Use}
use Rattle.archive_uses.specs.Runs.{EndsInRun}
use Rattle.archive_uses.specs.Uses.{Scene, Uses}
use Rattle.archive_uses.specs.Uses.Stage.{on}
use Rattle.archive_uses.specs.Lives.{Lives}
use Rattle.uses_tests.specs.declared.acts.Act.{Act}
use Rattle.uses_tests.specs.declared.acts.Returned.{Returned}
use Rattle.uses_tests.specs.declared.acts.Turn.{Turn}
use Rattle.uses_tests.specs.Turns.{AreTurns, AreUses, act_of}
use Rattle.uses_tests.specs.inner.Taking.{Follows, IsSomewhere, Takes, alone}

pub uses_on : {E O Pen Seen : Type 0} {erase : EraseGhosts E} {once : OnceGhosts O Pen Seen} (us vs : List Use) (s t v : Scene E O Pen Seen erase once) → Uses s us t → Uses t vs v → Uses s (us ++ vs) v
uses_on [] vs s t v first later = subst (λ x. Uses x vs v) first later
uses_on (u ∷ us) vs s t v first later = (first.0, first.1, uses_on us vs first.0 t v first.2 later)

valid_on : (us vs : List Use) → AllByRecursion IsUse us → AllByRecursion IsUse vs → AllByRecursion IsUse (us ++ vs)
valid_on [] vs first later = later
valid_on (u ∷ us) vs first later = (first.0, valid_on us vs first.1 later)

-- a life goes on
pub lives_on : {E O Pen Seen : Type 0} {erase : EraseGhosts E} {once : OnceGhosts O Pen Seen} (made : Settings) (us vs : List Use) (s t : Scene E O Pen Seen erase once) → Lives made us s → AllByRecursion IsUse vs → Uses s vs t → Lives made (us ++ vs) t
lives_on made us vs s t l valid leads = record {
  start = l.start;
  first = l.first;
  begins = l.begins;
  later = l.later ++ vs;
  valid = valid_on l.later vs l.valid valid;
  leads = uses_on l.later vs (record { stage = l.first; hand = [] }) s t l.leads leads;
  are = ap (λ (x : List Use). x ++ vs) l.are ∙ append_assoc l.start l.later vs;
}

turns_on : (turns : List Turn) (turn : Turn) (us vs : List Use) → AreTurns turns us → AreUses turn.act turn.returned vs → AreTurns (turns ++ turn ∷ []) (us ++ vs)
turns_on [] turn us vs are next = (vs, [], next, refl, ap (λ (x : List Use). x ++ vs) are ∙ sym (append-nil vs))
turns_on (t ∷ turns) turn us vs are next =
    (are.0, are.1 ++ vs, are.2, turns_on turns turn are.1 vs are.3 next, ap (λ (x : List Use). x ++ vs) are.4 ∙ append_assoc are.0 are.1 vs)

-- nothing was made of it
pub follows_none : {E O Pen Seen : Type 0} {erase : EraseGhosts E} {once : OnceGhosts O Pen Seen} (a : Archive E O Pen Seen erase once) (turns : List Turn) → turns ≡ [] → Follows a a turns
follows_none a turns none = record { uses = []; are = subst (λ (ts : List Turn). AreTurns ts []) (sym none) refl; valid = tt; leads = refl }

-- a turn after others
follows_on : {E O Pen Seen : Type 0} {erase : EraseGhosts E} {once : OnceGhosts O Pen Seen} (a b c : Archive E O Pen Seen erase once) (turns : List Turn) (turn : Turn) → Follows a b turns → Takes b c turn.act turn.returned → Follows a c (turns ++ turn ∷ [])
follows_on a b c turns turn f t = record {
  uses = f.uses ++ t.uses;
  are = turns_on turns turn f.uses t.uses f.are t.are;
  valid = valid_on f.uses t.uses f.valid t.valid;
  leads = uses_on f.uses t.uses (alone a) (alone b) (alone c) f.leads t.leads;
}

-- the same in a loop over a script
pub goes_on : {E O Pen Seen : Type 0} {erase : EraseGhosts E} {once : OnceGhosts O Pen Seen} (a b c : Archive E O Pen Seen erase once) (turns all : List Turn) (act : Act) (returned : Returned)
    → Follows a b turns → Takes b c act returned → all ≡ turns ++ record { act = act; returned = returned } ∷ [] → Follows a c all
goes_on a b c turns all act returned follows takes is =
    subst (λ (ts : List Turn). Follows a c ts) (sym is) (follows_on a b c turns (record { act = act; returned = returned }) follows takes)

pub played_on : (turns all : List Turn) (script : List Act) (i : ℕ) (d : Act) (returned : Returned) → map act_of turns ≡ take i script → i < length script
    → all ≡ turns ++ record { act = get_or script i d; returned = returned } ∷ [] → map act_of all ≡ take (i + 1) script
played_on turns all script i d returned played within is =
    ap (map act_of) is ∙ map-append act_of turns (record { act = get_or script i d; returned = returned } ∷ []) ∙ ap (λ (acts : List Act). acts ++ get_or script i d ∷ []) played ∙ sym (take_more script i d within)

-- what a run leaves of an archive
pub somewhere : {E O Pen Seen : Type 0} {erase : EraseGhosts E} {once : OnceGhosts O Pen Seen} (made : Settings) (us : List Use) (a : Archive E O Pen Seen erase once) → EndsInRun made us (on a) → IsSomewhere a
somewhere made us a ends = ⊎_elim (λ up. inl (up.0, up.2)) (λ down. inr down.0) ends
