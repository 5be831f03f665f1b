-- Why no archive is made or opened, as a refusal.
use Rattle.service.specs.declared.refusal.Refusal.{Refusal}
use Rattle.service.specs.declared.refusal.Refusal.TheVariants as refusals
use Rattle.disk_archive.specs.declared.create_error.CreateError.{CreateError}
use Rattle.disk_archive.specs.declared.create_error.CreateError.TheVariants as creates
use Rattle.disk_archive.specs.declared.open_error.OpenError.{OpenError}
use Rattle.disk_archive.specs.declared.open_error.OpenError.TheVariants as opens
use Rattle.serving.specs.declared.serving.ServeError.{ServeError}
use Rattle.serving.specs.declared.serving.ServeError.TheVariants as serves
use Rattle.query_threads.specs.declared.refusal.Trouble.{Trouble}
use Rattle.query_threads.specs.declared.refusal.Trouble.TheVariants as shared
use Rattle.server.specs.Troubles.{of_shared}
use Rattle.service.specs.Faults.{of_trouble}

-- why it isn't written to its files
abbrev pub of_create : CreateError → Refusal
of_create creates.PagesFull = refusals.PagesFull
of_create creates.Fault = refusals.Fault
of_create creates.OutOfMemory = refusals.OutOfMemory

-- why it isn't read from its files; the page of a slot is a page of the disk, and the other one a home page
abbrev pub of_open : OpenError → Refusal
of_open opens.Fault = refusals.Fault
of_open opens.NotAJournal = refusals.NotAJournal
of_open (opens.BadSlot page) = refusals.BadNode page
of_open (opens.BadNode page) = refusals.BadNode page
of_open opens.OutOfMemory = refusals.OutOfMemory

-- a trouble that ended a server; if the archive must be opened again, a device failed before
abbrev pub of_served : Trouble → Refusal
of_served shared.NeedsRecovery = refusals.Fault
of_served trouble = of_trouble (of_shared trouble)

-- why a server that no client stopped ended
abbrev pub of_serve : ServeError → Refusal
of_serve serves.OutOfMemory = refusals.OutOfMemory
of_serve serves.Threads = refusals.Outside
of_serve (serves.Trouble trouble) = of_served trouble
