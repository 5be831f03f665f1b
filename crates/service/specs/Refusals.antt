-- Refusals by number and name, and their lines. Each line ends in LF.
use Rattle.std.specs.Prelude.{◌≡◌, ◌⊎◌, ℕ, Bool, true, false, List, [], ◌∷◌, ◌++◌, codes, decimal}
use Rattle.route_text.specs.MomentText.{moment_text}
use Rattle.service.specs.Outputs.{OutputState, Reports}
use Rattle.service.specs.declared.refusal.Refusal.{Refusal}
use Rattle.service.specs.declared.refusal.Refusal.TheVariants as refusals

-- its number, 1 to 29
abbrev pub number_of : Refusal → ℕ
number_of refusals.Fault = 1
number_of refusals.NotAJournal = 4
number_of refusals.NeedsRecovery = 5
number_of refusals.PagesFull = 6
number_of refusals.OnceFull = 7
number_of (refusals.Damaged block) = 8
number_of (refusals.BadNode page) = 9
number_of refusals.TooHigh = 11
number_of refusals.BadText = 12
number_of refusals.Truncated = 13
number_of refusals.TooLong = 14
number_of refusals.Malformed = 15
number_of refusals.RouteTooLarge = 16
number_of refusals.NoPeerTable = 17
number_of refusals.BadPeerIndex = 18
number_of refusals.AdmissionTooLarge = 19
number_of refusals.MarkBack = 21
number_of refusals.NoCollector = 22
number_of refusals.IntakeFull = 23
number_of (refusals.AboveWatermark settled) = 24
number_of refusals.BatchTooLarge = 25
number_of refusals.CounterFull = 26
number_of refusals.OutOfMemory = 27
number_of refusals.BadRequest = 28
number_of refusals.Outside = 29

-- its name
abbrev pub name_of : Refusal → List ℕ
name_of refusals.Fault = codes "Fault"
name_of refusals.NotAJournal = codes "NotAJournal"
name_of refusals.NeedsRecovery = codes "NeedsRecovery"
name_of refusals.PagesFull = codes "PagesFull"
name_of refusals.OnceFull = codes "OnceFull"
name_of (refusals.Damaged block) = codes "Damaged"
name_of (refusals.BadNode page) = codes "BadNode"
name_of refusals.TooHigh = codes "TooHigh"
name_of refusals.BadText = codes "BadText"
name_of refusals.Truncated = codes "Truncated"
name_of refusals.TooLong = codes "TooLong"
name_of refusals.Malformed = codes "Malformed"
name_of refusals.RouteTooLarge = codes "RouteTooLarge"
name_of refusals.NoPeerTable = codes "NoPeerTable"
name_of refusals.BadPeerIndex = codes "BadPeerIndex"
name_of refusals.AdmissionTooLarge = codes "AdmissionTooLarge"
name_of refusals.MarkBack = codes "MarkBack"
name_of refusals.NoCollector = codes "NoCollector"
name_of refusals.IntakeFull = codes "IntakeFull"
name_of (refusals.AboveWatermark settled) = codes "AboveWatermark"
name_of refusals.BatchTooLarge = codes "BatchTooLarge"
name_of refusals.CounterFull = codes "CounterFull"
name_of refusals.OutOfMemory = codes "OutOfMemory"
name_of refusals.BadRequest = codes "BadRequest"
name_of refusals.Outside = codes "Outside"

-- the end of a line: LF
abbrev pub line_end : List ℕ
line_end = 10 ∷ []

-- what the line of a refusal has after its name: the watermark of AboveWatermark, the block of Damaged, the page of BadNode
abbrev pub reported_of : Refusal → List ℕ
reported_of (refusals.AboveWatermark settled) = codes "|" ++ moment_text settled
reported_of (refusals.Damaged block) = codes "|" ++ decimal block
reported_of (refusals.BadNode page) = codes "|" ++ decimal page
reported_of _ = []

-- X, the number and the name
abbrev pub refusal_head : Refusal → List ℕ
refusal_head r = codes "X|" ++ decimal (number_of r) ++ codes "|" ++ name_of r

-- the same, and what comes after it
abbrev pub refusal_line : Refusal → List ℕ
refusal_line r = refusal_head r ++ reported_of r ++ line_end

-- the same of a refused record, by its place in the feed, the first place being 0
abbrev pub refused_record_line : Refusal → ℕ → List ℕ
refused_record_line r place = refusal_head r ++ codes "|" ++ decimal place ++ line_end

-- how standard error shows a refusal
abbrev pub error_head : Refusal → List ℕ
error_head r = codes "rha: " ++ decimal (number_of r) ++ codes " " ++ name_of r

-- one that is alone on its line
abbrev pub error_line : Refusal → List ℕ
error_line r = error_head r ++ line_end

-- one after which the same line has what failed, and why
abbrev pub reason_line : Refusal → List ℕ → List ℕ
reason_line r why = error_head r ++ codes ": " ++ why ++ line_end

-- standard error has the refusal, alone or with some reason after it
abbrev pub ReportsError : Refusal → OutputState → OutputState → Type 0
ReportsError r was now = Reports was now (error_line r) ⊎ ((why : List ℕ) × Reports was now (reason_line r why))

-- standard error shows that lines couldn't be written if it is so, and nothing if it isn't
pub record ReportsFailure (failed : Bool) (err_was err_now : OutputState) : Type 0 where
  pub reported : failed ≡ true → ReportsError refusals.Outside err_was err_now
  pub quiet : failed ≡ false → err_now ≡ err_was
