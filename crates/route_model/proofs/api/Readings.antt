-- Laws of reading.
use Rattle.route_model.specs.Reading.{NoReading}
use Rattle.route_model.specs.declared.octets.ReadFault.{ReadFault}
use Rattle.route_model.specs.declared.octets.ReadFault.TheVariants as faults

-- the whole has no reading where a part of it has none
pub no_reading_of_part : {V W : Type 0} (Part : V → Type 0) (Whole : W → Type 0) (part : W → V) → ((w : W) → Whole w → Part (part w))
    → (e : ReadFault) → NoReading Part e → NoReading Whole e
no_reading_of_part Part Whole part h faults.OutOfMemory none = tt
no_reading_of_part Part Whole part h faults.Malformed none = λ w q. none (part w) (h w q)
