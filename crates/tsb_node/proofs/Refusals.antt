-- Readers that answer a node or a refusal.
use Rattle.std.proofs.Common.{◌≡◌, refl, sym, subst}
use Rattle.std.specs.declared.result.Result.{Result}
use Rattle.std.specs.declared.result.Result.TheVariants.{Ok, Err}
use Rattle.std.specs.Result.{MatchResult, IfOk}
use Rattle.tsb_node.specs.declared.leaf_part.ReadFault.{ReadFault}
use Rattle.tsb_node.specs.declared.leaf_part.ReadFault.TheVariants.{NotANode, Memory}
use Rattle.tsb_node.specs.Decoded.{IsRefusal}

-- there is one, and what is answered is it
pub refusal_match : {X Y : Type 0} (view : X → Y) (Reads : Y → Type 0) (y : Y) → Reads y → (r : Result X ReadFault) → IfOk r (λ x. view x ≡ y) → (r ≡ Err NotANode → ⊥) → MatchResult r (λ x. Reads (view x)) (IsRefusal Reads)
refusal_match view Reads y is (Ok x) ok never = subst Reads (sym ok) is
refusal_match view Reads y is (Err NotANode) ok never = absurd (never refl)
refusal_match view Reads y is (Err Memory) ok never = (y, is)

-- the same of another relation that holds of the same
pub refusal_map : {X Y : Type 0} (P : X → Type 0) (Q : Y → Type 0) → ((x : X) → P x → (y : Y) × Q y) → ((y : Y) → Q y → (x : X) × P x) → (fault : ReadFault) → IsRefusal P fault → IsRefusal Q fault
refusal_map P Q f g NotANode none = λ y is. (let x = g y is in none x.0 x.1)
refusal_map P Q f g Memory one = f one.0 one.1

pub refusal_along : {X Y : Type 0} (view : X → Y) (P Q : Y → Type 0) → ((y : Y) → P y → Q y) → ((y : Y) → Q y → P y) → (r : Result X ReadFault) → MatchResult r (λ x. P (view x)) (IsRefusal P) → MatchResult r (λ x. Q (view x)) (IsRefusal Q)
refusal_along view P Q f g (Ok x) is = f (view x) is
refusal_along view P Q f g (Err fault) is = refusal_map P Q (λ y p. (y, f y p)) (λ y q. (y, g y q)) fault is

pub if_ok_map : {X E : Type 0} (r : Result X E) (P Q : X → Type 0) → ((x : X) → P x → Q x) → IfOk r P → IfOk r Q
if_ok_map (Ok x) P Q f p = f x p
if_ok_map (Err e) P Q f p = p

-- where there is a reading the error is Memory
pub refusal_of : {Y T : Type 0} (Reads : Y → Type 0) (y : Y) → Reads y → (fault : ReadFault) → (◌≡◌ {A = Result T ReadFault} (Err fault) (Err NotANode) → ⊥) → IsRefusal Reads fault
refusal_of Reads y is NotANode never = absurd (never refl)
refusal_of Reads y is Memory never = (y, is)
