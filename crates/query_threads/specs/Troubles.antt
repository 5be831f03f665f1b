-- Which troubles come to calls on an archive that represents a past, and what holds of the one that a call returns.
use Rattle.std.specs.Prelude.{⊤}
use Rattle.query_threads.specs.declared.refusal.Trouble.{Trouble}
use Rattle.query_threads.specs.declared.refusal.Trouble.TheVariants.{Fault, NeedsRecovery, DamagedPage, DamagedBlock, CounterFull, TooHigh, PagesFull, OnceFull, OutOfMemory}
use Rattle.query_threads.specs.declared.refusal.AdmitError.{AdmitError}
use Rattle.query_threads.specs.declared.refusal.AdmitError.TheVariants as admits
use Rattle.query_threads.specs.declared.refusal.MarkError.{MarkError}
use Rattle.query_threads.specs.declared.refusal.MarkError.TheVariants as marks
use Rattle.query_threads.specs.declared.refusal.AskError.{AskError}
use Rattle.query_threads.specs.declared.refusal.AskError.TheVariants as asks

-- no page and no block is reported as damaged
abbrev pub BlamesNone : Trouble → Type 0
BlamesNone Fault = ⊤
BlamesNone NeedsRecovery = ⊤
BlamesNone (DamagedPage page) = ⊥
BlamesNone (DamagedBlock block) = ⊥
BlamesNone CounterFull = ⊤
BlamesNone TooHigh = ⊤
BlamesNone PagesFull = ⊤
BlamesNone OnceFull = ⊤
BlamesNone OutOfMemory = ⊤

-- it reports a device that failed, an archive that must be opened again, or that memory ran out: no damage, and nothing that is full
abbrev pub IsOutside : Trouble → Type 0
IsOutside Fault = ⊤
IsOutside NeedsRecovery = ⊤
IsOutside (DamagedPage page) = ⊥
IsOutside (DamagedBlock block) = ⊥
IsOutside CounterFull = ⊥
IsOutside TooHigh = ⊥
IsOutside PagesFull = ⊥
IsOutside OnceFull = ⊥
IsOutside OutOfMemory = ⊤

-- where a batch isn't taken for a trouble, this holds of it
abbrev pub OnAdmitTrouble : (Trouble → Type 0) → AdmitError → Type 0
OnAdmitTrouble so admits.NoCollector = ⊤
OnAdmitTrouble so admits.BatchTooLarge = ⊤
OnAdmitTrouble so admits.CounterFull = ⊤
OnAdmitTrouble so admits.IntakeFull = ⊤
OnAdmitTrouble so (admits.Trouble trouble) = so trouble

-- where a mark isn't set for a trouble, this holds of it
abbrev pub OnMarkTrouble : (Trouble → Type 0) → MarkError → Type 0
OnMarkTrouble so marks.NoCollector = ⊤
OnMarkTrouble so marks.MarkBack = ⊤
OnMarkTrouble so (marks.Trouble trouble) = so trouble

-- where a question isn't answered for a trouble, this holds of it
abbrev pub OnAskTrouble : (Trouble → Type 0) → AskError → Type 0
OnAskTrouble so (asks.AboveWatermark mark) = ⊤
OnAskTrouble so (asks.Trouble trouble) = so trouble
