-- The refusals of each call, in the list of all.
use Rattle.page_journal.specs.declared.error.CreateError.{CreateError}
use Rattle.page_journal.specs.declared.error.CreateError.TheVariants as creations
use Rattle.page_journal.specs.declared.error.OpenError.{OpenError}
use Rattle.page_journal.specs.declared.error.OpenError.TheVariants as openings
use Rattle.page_journal.specs.declared.error.PostError.{PostError}
use Rattle.page_journal.specs.declared.error.PostError.TheVariants as posts
use Rattle.page_journal.specs.declared.error.UseError.{UseError}
use Rattle.page_journal.specs.declared.error.UseError.TheVariants as uses
use Rattle.page_journal.specs.declared.journal_error.JournalError.{JournalError}
use Rattle.page_journal.specs.declared.journal_error.JournalError.TheVariants as refusals

-- why no journal was created
abbrev pub of_creation : CreateError → JournalError
of_creation creations.Fault = refusals.Fault
of_creation creations.PagesFull = refusals.PagesFull
of_creation creations.OutOfMemory = refusals.OutOfMemory

-- why none was opened
abbrev pub of_opening : OpenError → JournalError
of_opening openings.Fault = refusals.Fault
of_opening openings.NotAJournal = refusals.NotAJournal
of_opening (openings.BadNode page) = refusals.BadNode page
of_opening openings.OutOfMemory = refusals.OutOfMemory

-- why a post was refused
abbrev pub of_post : PostError → JournalError
of_post posts.Fault = refusals.Fault
of_post posts.TooManyImages = refusals.TooManyImages
of_post posts.JournalFull = refusals.JournalFull
of_post posts.NeedsRecovery = refusals.NeedsRecovery

-- why another call was refused
abbrev pub of_use : UseError → JournalError
of_use uses.Fault = refusals.Fault
of_use uses.NeedsRecovery = refusals.NeedsRecovery
