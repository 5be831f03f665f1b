use Rattle.std.proofs.Common.{◌≡◌}
use Rattle.interleaving_core.specs.Steps.{empty}
use Rattle.disk_archive.specs.Archives.{settings_of}
use Rattle.thread_tests.proofs.sharing.share_new.Given as goal

-- a past to which nothing was given
abbrev pub ghosts-share : goal.ghosts-share
ghosts-share g a = record { fits = λ p. p.history ≡ empty (settings_of a.archive).collectors }
