-- What is found in octets of a node, or that nothing is, holds of that node.
use Rattle.std.proofs.Common.{Option, Some, None, IfSome, IfNone}

pub some_along : {X Y : Type 0} (o : Option Y) (P Q : X → Type 0) (IsOf : X → Y → Type 0) → ((x : X) → P x → Q x) → IfSome o (λ y. (x : X) × P x × IsOf x y) → IfSome o (λ y. (x : X) × Q x × IsOf x y)
some_along None P Q IsOf f is = tt
some_along (Some y) P Q IsOf f is = (is.0, f is.0 is.1, is.2)

pub none_along : {X Y : Type 0} (o : Option Y) (P Q : X → Type 0) → ((x : X) → Q x → P x) → IfNone o ((x : X) → P x → ⊥) → IfNone o ((x : X) → Q x → ⊥)
none_along None P Q f never = λ x is. never x (f x is)
none_along (Some y) P Q f never = tt
