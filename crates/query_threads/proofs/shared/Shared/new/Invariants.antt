use Rattle.std.proofs.Common.{◌≡◌, length}
use Rattle.std.specs.Prelude.{IsSome, IsNone}
use Rattle.query_threads.specs.inner.Unpromised.{ReachesAll}
use Rattle.query_threads.proofs.shared.Shared.new.Given as goal

-- a past that the archive represents and the caller knew; or one that reaches all
abbrev pub ghosts-start : goal.ghosts-start
ghosts-start g a = record { fits = λ p. (IsSome g.N.OnDisk.disk → g.A.Store.represents a._about.now p × g.X.Target.fits p) × (IsNone g.N.OnDisk.disk → ReachesAll p.history) × (length p.history.intakes ≡ a.self.collectors) }
