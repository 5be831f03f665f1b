-- What calls leave of a file that follows its model.
use Rattle.std.specs.Prelude.{◌≡◌, ◌↔◌, ℕ}
use Rattle.disk_models.specs.Erase.{Lingers, Stays}
use Rattle.disk_files.specs.declared.file.Access.{Access}
use Rattle.disk_files.specs.declared.file.OctetFile.{Ghosts}

-- Looks at it, and its lock, taken or not: nothing is written, nothing is settled, and it has its size.
pub record FileStays {F : Type 0} (file : Ghosts F) (old new : F) : Type 0 where
  pub follows : file.follows old ↔ file.follows new
  pub size : file.follows old → file.octet_count new ≡ file.octet_count old
  pub stays : file.follows old → Stays (file.model old) (file.model new)

-- The same with a sync, done or failed: nothing is written, and it has its size. What was unsynced may be lost by a sync that failed.
pub record FileLingers {F : Type 0} (file : Ghosts F) (old new : F) : Type 0 where
  pub follows : file.follows old ↔ file.follows new
  pub size : file.follows old → file.octet_count new ≡ file.octet_count old
  pub lingers : file.follows old → Lingers (file.model old) (file.model new)

-- a disk may use it: it is held so, and what is read of it is on the device
pub record IsReady {F : Type 0} (file : Ghosts F) (access : Access) (old new : F) : Type 0 where
  pub held : file.follows old → file.is_held new access
  pub settled : file.follows old → (i : ℕ) → ¬ (file.model new).unsynced i
