-- Which uses of an archive the acts of a script are.
use Rattle.std.specs.Prelude.{◌≡◌, ◌*◌, Bool, List, [], ◌∷◌, ◌++◌}
use Rattle.std.specs.Global.{Vec}
use Rattle.disk_models.specs.declared.erase.EraseDisk.{Ghosts as EraseGhosts}
use Rattle.disk_models.specs.declared.once.OnceDisk.{Ghosts as OnceGhosts}
use Rattle.route_model.specs.Admission.{Admitted}
use Rattle.route_model.specs.Moments.{micros_a_second}
use Rattle.interleaving_core.specs.declared.query.Query.{Query}
use Rattle.archive_pages.specs.declared.settings.Settings.{Settings}
use Rattle.disk_archive.specs.declared.archive.Archive.{Archive}
use Rattle.archive_uses.specs.Use.{Use}
use Rattle.archive_uses.specs.Use.Call.{admit, mark, apply, flush, ask}
use Rattle.archive_uses.specs.Use.Use.{called, cut, looked, closed, lost, found, opened, shut}
use Rattle.archive_uses.specs.Uses.Stage.{on}
use Rattle.archive_uses.specs.Verdicts.{of_admit, of_mark, of_apply, of_flush, of_ask}
use Rattle.archive_uses.specs.Runs.{EndsInRun, EndsWith}
use Rattle.archive_uses.specs.Promises.{IsPromised}
use Rattle.uses_tests.specs.declared.acts.Act.{Act}
use Rattle.uses_tests.specs.declared.acts.Act.TheVariants.{Admit, Mark, Apply, Flush, Ask, Check, Crash, CutAdmit, CutApply}
use Rattle.uses_tests.specs.declared.acts.Birth.{Birth}
use Rattle.uses_tests.specs.declared.acts.Birth.TheVariants.{Created, CutOff}
use Rattle.uses_tests.specs.declared.acts.Returned.{Returned}
use Rattle.uses_tests.specs.declared.acts.Returned.TheVariants.{Admitted as admitted, Marked, Applied, Flushed, Answered, Checked, Opened, Reopened}
use Rattle.uses_tests.specs.declared.acts.Turn.{Turn}

-- the uses with which an archive comes to be
abbrev pub AreFirst : Birth → List Use → Type 0
AreFirst Created uses = uses ≡ []
AreFirst (CutOff tear stop) uses = uses ≡ lost ∷ found ∷ opened ∷ []

-- the uses after a crash: both disks are opened, or that is refused, another crash comes, and they are opened
abbrev pub AreOpenings : Returned → List Use → Type 0
AreOpenings Opened uses = uses ≡ found ∷ opened ∷ []
AreOpenings Reopened uses = uses ≡ found ∷ shut ∷ lost ∷ found ∷ opened ∷ []
AreOpenings _ uses = ⊥

-- The uses that an act is which returned this. Each call's use ends with the verdict of what the call returned.
abbrev pub AreUses : Act → Returned → List Use → Type 0
AreUses (Admit c b) (admitted result) uses = (batch : Vec Admitted) × (down : Bool) × (uses ≡ called (admit c batch) (of_admit result down) ∷ [])
AreUses (Mark c second) (Marked result) uses = (down : Bool) × (uses ≡ called (mark c (second * micros_a_second)) (of_mark result down) ∷ [])
AreUses Apply (Applied result) uses = (down : Bool) × (uses ≡ called apply (of_apply result down) ∷ [])
AreUses Flush (Flushed result) uses = (down : Bool) × (uses ≡ called flush (of_flush result down) ∷ [])
AreUses (Ask second) (Answered result) uses = (query : Query) × (down : Bool) × (uses ≡ called (ask query) (of_ask result down) ∷ [])
AreUses Check (Checked result) uses = uses ≡ looked ∷ []
AreUses (Crash tear stop) returned uses = (rest : List Use) × AreOpenings returned rest × (uses ≡ closed ∷ lost ∷ rest)
AreUses (CutAdmit c b tear) returned uses = (batch : Vec Admitted) × (rest : List Use) × AreOpenings returned rest × (uses ≡ cut (admit c batch) ∷ rest)
AreUses (CutApply tear) returned uses = (rest : List Use) × AreOpenings returned rest × (uses ≡ cut apply ∷ rest)
AreUses _ _ _ = ⊥

-- the uses that the turns are, one after another
abbrev pub AreTurns : List Turn → List Use → Type 0
AreTurns [] uses = uses ≡ []
AreTurns (turn ∷ turns) uses = (first later : List Use) × AreUses turn.act turn.returned first × AreTurns turns later × (uses ≡ first ++ later)

-- the act of a turn
abbrev pub act_of : Turn → Act
act_of turn = turn.act

-- An archive of these settings came to be so, and that and the turns are uses that end in a run of the pure machine; and all that is promised
-- of uses is true of them.
pub record EndsSo {E O Pen Seen : Type 0} {erase : EraseGhosts E} {once : OnceGhosts O Pen Seen} (made : Settings) (birth : Birth) (turns : List Turn) (last : Archive E O Pen Seen erase once) : Type 0 where
  pub first : List Use
  pub born : AreFirst birth first
  pub uses : List Use
  pub are : AreTurns turns uses
  pub run : EndsInRun made (first ++ uses) (on last)
  pub promised : EndsWith made (λ down. IsPromised (first ++ uses)) (on last)
