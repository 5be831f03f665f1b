-- Facts about a given result, in other words.
use Rattle.std.proofs.Common.{Result, Ok, Err, IfOk}

pub if_ok : {T E : Type 0} (r : Result T E) (P Q : T → Type 0) → ((t : T) → P t → Q t) → IfOk r P → IfOk r Q
if_ok (Ok t) P Q f is = f t is
if_ok (Err e) P Q f is = tt
