-- What a reader that allocates memory returns.
use Rattle.std.specs.Prelude.{◌≡◌, Result, Ok, Err}
use Rattle.route_text.specs.declared.fault.TextError.{TextError}
use Rattle.route_text.specs.declared.fault.TextError.TheVariants as faults

-- the result is this value, seen by view, unless memory was refused
abbrev pub ReadsBy : {A B : Type 0} → (A → B) → Result A TextError → B → Type 0
ReadsBy view (Ok x) value = view x ≡ value
ReadsBy view (Err e) value = e ≡ faults.OutOfMemory

-- the result is this value, unless memory was refused
abbrev pub Reads : {A : Type 0} → Result A TextError → A → Type 0
Reads result value = ReadsBy (λ x. x) result value
