-- Values that may be absent, and readings of parts.
use Rattle.std.proofs.Common.{◌≡◌, Option, Some, None, refl, sym, ap, subst}
use Rattle.route_model.specs.Reading.{NoReading}
use Rattle.route_model.specs.declared.octets.ReadFault.{ReadFault}
use Rattle.route_model.specs.declared.octets.ReadFault.TheVariants as faults
use Rattle.bgp_update.specs.Values.{Optionally}

some_none : {A B : Type 0} (R : A → B → Type 0) (x : A) → ((y : B) → R x y → ⊥) → (w : Option B) → Optionally R (Some x) w → ⊥
some_none R x none None q = q
some_none R x none (Some y) q = none y q

-- where the value that stands has no reading, there is none
pub optional_none : {A B : Type 0} (R : A → B → Type 0) (x : A) (o : Option A) → Some x ≡ o → ((y : B) → R x y → ⊥) → (w : Option B) → Optionally R o w → ⊥
optional_none {A} R x o e none w q = some_none R x none w (subst (λ (t : Option A). Optionally R t w) (sym e) q)

-- the whole has no reading where each reading of it has one of the part, and the part has none
pub none_of_part : {V W : Type 0} (Part : V → Type 0) (Whole : W → Type 0) → ((w : W) → Whole w → (v : V) × Part v) → (e : ReadFault) → NoReading Part e → NoReading Whole e
none_of_part Part Whole h faults.OutOfMemory none = tt
none_of_part Part Whole h faults.Malformed none = λ w q. let part = h w q in none part.0 part.1

-- where a value has one reading, so has one that may be absent
pub optional_one : {A B : Type 0} (R : A → B → Type 0) → ((x : A) (v w : B) → R x v → R x w → v ≡ w) → (o : Option A) (v w : Option B) → Optionally R o v → Optionally R o w → v ≡ w
optional_one R one None None None p q = refl
optional_one R one None None (Some w) p q = absurd q
optional_one R one None (Some v) w p q = absurd p
optional_one R one (Some x) None w p q = absurd p
optional_one R one (Some x) (Some v) None p q = absurd q
optional_one {A} {B} R one (Some x) (Some v) (Some w) p q = ap (λ (t : B). Some t) (one x v w p q)

-- what was read once isn't malformed the second time
pub read_before : {V W : Type 0} (Part : V → Type 0) (Whole : W → Type 0) (v : V) → Part v → (e : ReadFault) → NoReading Part e → NoReading Whole e
read_before Part Whole v is faults.OutOfMemory none = tt
read_before Part Whole v is faults.Malformed none = absurd (none v is)
