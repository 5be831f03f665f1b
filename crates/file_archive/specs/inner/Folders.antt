-- Why a folder isn't made.
use Rattle.disk_files.specs.declared.error.FileError.TheVariants.{OutOfMemory}
use Rattle.file_archive.specs.declared.faults.CreateFault.{CreateFault}
use Rattle.file_archive.specs.declared.faults.CreateFault.TheVariants.{Folder, File}

-- the system doesn't make it, or there is no memory for a name
abbrev pub IsOfFolder : CreateFault → Type 0
IsOfFolder (Folder why) = Unit {0}
IsOfFolder (File OutOfMemory) = Unit {0}
IsOfFolder _ = ⊥
