-- How many records of a collector are admitted, by where it goes on.
use Rattle.std.proofs.Common.{◌≡◌, ℕ, zero, suc, ◌<◌, List, [], ◌∷◌, Option, Some, None, length, map, refl, ap, arith}
use Rattle.std.specs.List.{slice_get}
use Rattle.route_meaning.specs.History.{Intake}
use Rattle.interleaving_core.specs.declared.reply.Resume.{Resume}
use Rattle.interleaving_core.specs.World.{resume_of}

-- where it goes on, this many are admitted
pub counted : (intakes : List Intake) (c : ℕ) (resume : Resume) → Some resume ≡ slice_get (map resume_of intakes) c
    → (intake : Intake) × (slice_get intakes c ≡ Some intake) × (resume.admitted ≡ length intake.admitted)
counted [] c resume e = absurd cc
counted (x ∷ xs) zero resume e = let same : resume ≡ resume_of x = cc in (x, refl, ap (λ (r : Resume). r.admitted) same)
counted (x ∷ xs) (suc c) resume e = counted xs c resume e

-- where nothing goes on, there is no such collector
pub uncounted : (intakes : List Intake) (c : ℕ) → ◌≡◌ {A = Option Resume} None (slice_get (map resume_of intakes) c) → c < length intakes → ⊥
uncounted [] c e h = absurd (omega (arith, h))
uncounted (x ∷ xs) zero e h = absurd cc
uncounted (x ∷ xs) (suc c) e h = uncounted xs c e (omega (arith, h))
