-- What two facts on one result give.
use Rattle.std.proofs.Common.{◌≡◌, Result, Ok, Err, ◌∙◌, subst}
use Rattle.std.specs.Result.{IsErrAnd, IsErrOf}
use Rattle.std.proofs.lemmas.Result.{err_from_is_err_and}
use Rattle.route_text.specs.declared.fault.TextError.{TextError}
use Rattle.route_text.specs.declared.fault.TextError.TheVariants as faults
use Rattle.route_text.specs.Reads.{ReadsBy}

module _ {A E : Type 0} (r : Result A E) where
  pub ok_or_err : (x : A) (e : E) → r ≡ Ok x → r ≡ Err e → ⊥
  ok_or_err x e h k = cc

  pub ok_same : (x y : A) → r ≡ Ok x → r ≡ Ok y → x ≡ y
  ok_same x y h k = cc

module _ {A B : Type 0} (view : A → B) (r : Result A TextError) (v : B) where
  pub reads_ok : (x : A) → r ≡ Ok x → ReadsBy view r v → view x ≡ v
  reads_ok x is h = let P : Result A TextError → Type 0 = λ s. ReadsBy view s v in subst P is h

  pub reads_err : (e : TextError) → r ≡ Err e → ReadsBy view r v → e ≡ faults.OutOfMemory
  reads_err e is h = let P : Result A TextError → Type 0 = λ s. ReadsBy view s v in subst P is h

  -- the error that a `?` passed on
  pub reads_passed : (e : TextError) → IsErrAnd r (λ x. x ≡ e) → e ≡ faults.OutOfMemory → ReadsBy view r v
  reads_passed e passed memory = let p = err_from_is_err_and r passed in reads_at r p.0 p.1 (p.2 ∙ memory)
    where
      reads_at : (s : Result A TextError) (y : TextError) → s ≡ Err y → y ≡ faults.OutOfMemory → ReadsBy view s v
      reads_at (Ok x) y is memory = absurd (let bad : ⊥ = cc in bad)
      reads_at (Err x) y is memory = cc

-- an error passed on because memory ran out says nothing about the text
pub passed_memory : {A : Type 0} (r : Result A TextError) (e : TextError) → IsErrAnd r (λ x. x ≡ e) → e ≡ faults.OutOfMemory → IsErrOf r faults.BadText → ⊥
passed_memory (Ok x) e passed memory bad = passed
passed_memory (Err y) e passed memory bad = cc
