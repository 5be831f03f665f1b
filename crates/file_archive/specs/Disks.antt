-- Both disks over the files of a folder.
use Rattle.std.specs.Prelude.{◌≡◌}
use Rattle.disk_files.specs.declared.blocks.FileOnce.{FileOnce}
use Rattle.disk_files.specs.declared.pages.FileErase.{FileErase}
use Rattle.disk_files.specs.declared.file.Access.{Access}
use Rattle.disk_files.specs.declared.noting.NotedFile.{NotedFile}
use Rattle.disk_files.specs.Blocks.{count_of, identity_of}
use Rattle.disk_files.specs.Pages.{IsFresh, access_of, size_of}
use Rattle.disk_files.specs.Pens.{IsFreshPen, pen_access, pen_identity}
use Rattle.disk_files.specs.Sizes.{AreBlocks, ArePages}
use Rattle.file_archive.specs.declared.disks.FileDisks.{FileDisks}

-- the erasable disk
abbrev pub erase_in : FileDisks → FileErase NotedFile
erase_in disks = disks.disks.erase

-- the write-once disk
abbrev pub once_in : FileDisks → FileOnce NotedFile
once_in disks = disks.disks.once.value

-- They have sizes that such disks can have, the pen is the write-once disk's, and nothing has failed yet.
pub record AreDisks (disks : FileDisks) : Type 0 where
  pub pages : ArePages (size_of (erase_in disks))
  pub blocks : AreBlocks (count_of (once_in disks))
  pub own : pen_identity disks.disks.pen ≡ identity_of (once_in disks)
  pub fresh : IsFresh (erase_in disks)
  pub fresh_pen : IsFreshPen disks.disks.pen

-- the files of both are held so
pub record AreHeld (access : Access) (disks : FileDisks) : Type 0 where
  pub pages : access_of (erase_in disks) ≡ access
  pub blocks : pen_access disks.disks.pen ≡ access
