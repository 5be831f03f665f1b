-- Why no archive is created, or opened.
use Rattle.std.specs.Prelude.{◌≡◌, ◌≢◌, ◌⊎◌}
use Rattle.disk_archive.specs.Openings.{IsFaultOrMemory}
use Rattle.disk_archive.specs.declared.create_error.CreateError.TheVariants as creations
use Rattle.disk_files.specs.declared.error.FileError.{FileError}
use Rattle.disk_files.specs.declared.error.Part.TheVariants.{Pages}
use Rattle.disk_files.specs.declared.failure.Reason.TheVariants.{Shared}
use Rattle.disk_files.specs.Refusals.{AreBlocksUnmade, AreBlocksUnopened, ArePagesUnopened, IsUnmade}
use Rattle.file_archive.specs.declared.faults.CreateFault.{CreateFault}
use Rattle.file_archive.specs.declared.faults.CreateFault.TheVariants as creating
use Rattle.file_archive.specs.declared.faults.OpenFault.{OpenFault}
use Rattle.file_archive.specs.declared.faults.OpenFault.TheVariants as faults

-- why the files of both disks aren't made, but for their sizes
abbrev pub AreFilesUnmade : FileError → Type 0
AreFilesUnmade why = IsUnmade Pages why ⊎ AreBlocksUnmade why

-- why they aren't opened
abbrev pub AreFilesUnopened : FileError → Type 0
AreFilesUnopened why = ArePagesUnopened why ⊎ AreBlocksUnopened why

-- Why an archive isn't created whose pages and blocks are neither too few nor too many: its folder or a file isn't made, a device failed, or
-- memory ran out.
abbrev pub IsUncreated : CreateFault → Type 0
IsUncreated (creating.Folder why) = Unit {0}
IsUncreated (creating.File why) = AreFilesUnmade why
IsUncreated (creating.Archive why) = why ≢ creations.PagesFull
IsUncreated (creating.Failed failure) = Unit {0}

-- why an archive isn't opened: a file isn't, or both disks hold none that can be read, or a device failed
abbrev pub IsUnopened : OpenFault → Type 0
IsUnopened (faults.File why) = AreFilesUnopened why
IsUnopened (faults.Archive why) = Unit {0}
IsUnopened (faults.Failed failure) = Unit {0}

-- why one isn't opened that stands on the disks: a device failed, or memory ran out
abbrev pub IsUnread : OpenFault → Type 0
IsUnread (faults.File why) = ⊥
IsUnread (faults.Archive why) = IsFaultOrMemory why
IsUnread (faults.Failed failure) = Unit {0}

-- a file was to be written that is shared
abbrev pub NeedsAlone : OpenFault → Type 0
NeedsAlone (faults.Failed failure) = failure.reason ≡ Shared
NeedsAlone (faults.File why) = ⊥
NeedsAlone (faults.Archive why) = ⊥
