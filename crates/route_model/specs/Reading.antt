-- What a reader returns, against a relation that says what octets read as.
use Rattle.std.specs.Prelude.{◌≡◌, ℕ, ◌≤◌, ◌<◌, List, ◌++◌, length, take, Option, Some, None, Result, Ok, Err}
use Rattle.route_model.specs.declared.octets.ReadFault.{ReadFault}
use Rattle.route_model.specs.declared.octets.ReadFault.TheVariants as faults

-- Malformed only if no value has the relation
abbrev pub NoReading : {V : Type 0} → (V → Type 0) → ReadFault → Type 0
NoReading {V = V} Reads faults.Malformed = (v : V) → Reads v → ⊥
NoReading {V = V} Reads faults.OutOfMemory = Unit {0}

-- the value, seen by view, has the relation
abbrev pub Exactly : {X V : Type 0} → (X → V) → (V → Type 0) → Result X ReadFault → Type 0
Exactly view Reads (Ok x) = Reads (view x)
Exactly view Reads (Err e) = NoReading Reads e

-- some field stands at the front
pub record BeginsWith {V : Type 0} (Field : List ℕ → V → Type 0) (bytes : List ℕ) : Type 0 where
  pub field : List ℕ
  pub value : V
  pub more : List ℕ
  pub is_field : Field field value
  pub parts : bytes ≡ field ++ more

-- the field at the front and its size, or none if no field stands there
abbrev pub AtFront : {V : Type 0} → (List ℕ → V → Type 0) → List ℕ → Option (V × ℕ) → Type 0
AtFront Field bytes None = BeginsWith Field bytes → ⊥
AtFront Field bytes (Some found) = (found.1 ≤ length bytes) × (0 < found.1) × Field (take found.1 bytes) found.0

-- Malformed only if no field stands at the front
abbrev pub NoFront : {V : Type 0} → (List ℕ → V → Type 0) → List ℕ → ReadFault → Type 0
NoFront Field bytes faults.Malformed = BeginsWith Field bytes → ⊥
NoFront Field bytes faults.OutOfMemory = Unit {0}

-- the same for a reader that may run out of memory
abbrev pub AtFrontOr : {X V : Type 0} → (X → V) → (List ℕ → V → Type 0) → List ℕ → Result (X × ℕ) ReadFault → Type 0
AtFrontOr view Field bytes (Ok found) = (found.1 ≤ length bytes) × (0 < found.1) × Field (take found.1 bytes) (view found.0)
AtFrontOr view Field bytes (Err e) = NoFront Field bytes e

-- the same for a value that is seen by view
abbrev pub AtFrontBy : {X V : Type 0} → (X → V) → (List ℕ → V → Type 0) → List ℕ → Option (X × ℕ) → Type 0
AtFrontBy view Field bytes None = BeginsWith Field bytes → ⊥
AtFrontBy view Field bytes (Some found) = (found.1 ≤ length bytes) × (0 < found.1) × Field (take found.1 bytes) (view found.0)
