-- Why a change is refused as too much.
use Rattle.std.proofs.Common.{◌≡◌, ◌<◌, ◌+◌, ℕ, min, sym, subst, arith, Result, Ok, Err}
use Rattle.std.specs.Prelude.{IfErr, IsErrAnd}
use Rattle.std.proofs.Math.Nat.{min-le_left}
use Rattle.disk_archive.specs.declared.apply_error.ApplyError.{ApplyError}
use Rattle.disk_archive.specs.declared.apply_error.ApplyError.TheVariants as applies
use Rattle.page_journal.specs.declared.error.UseError.{UseError}
use Rattle.page_journal.specs.declared.error.UseError.TheVariants as uses
use Rattle.disk_archive.specs.inner.Applications.{LimitRefusal, apply_of_use}

-- what holds of a refusal holds of the result that returns it
pub on_reported : {X E : Type 0} (r : Result X E) (e : E) (P : E → Type 0) → IsErrAnd r (λ y. y ≡ e) → P e → IfErr r P
on_reported (Ok x) e P is p = absurd is
on_reported (Err y) e P is p = subst P (sym is) p

-- the same over the same pages and the same count
pub limits_as : (homes homes' next next' count count' : ℕ) (e : ApplyError) → homes' ≡ homes → next' ≡ next → count' ≡ count → LimitRefusal homes' next' count' e → LimitRefusal homes next count e
limits_as homes homes' next next' count count' e h n c l =
    subst (λ m. LimitRefusal m next count e) h (subst (λ m. LimitRefusal homes' m count e) n (subst (λ m. LimitRefusal homes' next' m e) c l))

-- where the first page that was never used is the one that the head names, or all pages are in use
pub limits_fresh : (homes fresh count : ℕ) (e : ApplyError) → LimitRefusal homes (min fresh homes) count e → LimitRefusal homes fresh count e
limits_fresh homes fresh count applies.NeedsRecovery l = tt
limits_fresh homes fresh count applies.CounterFull l = l
limits_fresh homes fresh count applies.TooHigh l = tt
limits_fresh homes fresh count applies.PagesFull l = let le = min-le_left fresh homes in omega (arith, l, le)
limits_fresh homes fresh count applies.OnceFull l = tt
limits_fresh homes fresh count (applies.BadNode page) l = tt
limits_fresh homes fresh count applies.Fault l = tt
limits_fresh homes fresh count applies.OutOfMemory l = tt

-- a commit reports neither
pub limits_commit : (homes next count : ℕ) (e : UseError) → LimitRefusal homes next count (apply_of_use e)
limits_commit homes next count uses.Fault = tt
limits_commit homes next count uses.NeedsRecovery = tt

pub commit_not_high : (e : UseError) → apply_of_use e ≡ applies.TooHigh → ⊥
commit_not_high uses.Fault is = cc
commit_not_high uses.NeedsRecovery is = cc

pub counter_of : {X : Type 0} (homes next count : ℕ) (r : Result X ApplyError) → IfErr r (LimitRefusal homes next count) → r ≡ Err applies.CounterFull → count ≡ 18446744073709551615
counter_of homes next count (Ok x) l is = absurd cc
counter_of homes next count (Err e) l is = let same : e ≡ applies.CounterFull = cc in subst (LimitRefusal homes next count) same l

pub pages_of : {X : Type 0} (homes next count : ℕ) (r : Result X ApplyError) → IfErr r (LimitRefusal homes next count) → r ≡ Err applies.PagesFull → homes < next + 9
pages_of homes next count (Ok x) l is = absurd cc
pages_of homes next count (Err e) l is = let same : e ≡ applies.PagesFull = cc in subst (LimitRefusal homes next count) same l
