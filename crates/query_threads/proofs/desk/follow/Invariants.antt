use Rattle.std.specs.Prelude.{IsSome, IsNone}
use Rattle.query_threads.specs.inner.Unpromised.{ReachesAll}
use Rattle.query_threads.proofs.desk.follow.Given as goal

-- a past that fits, which the archive represents; or one that reaches all
abbrev pub ghosts-advance : goal.ghosts-advance
ghosts-advance g a = record { fits = λ q. (IsSome g.N.OnDisk.disk → g.A.Store.represents a._about.now q × g.X.Target.fits q) × (IsNone g.N.OnDisk.disk → ReachesAll q.history) }
