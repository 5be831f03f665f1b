-- The law of a write-once disk, of the one in memory.
use Rattle.std.proofs.Common.{◌≡◌, ℕ, List, [], ◌∷◌, ◌++◌, true, false, ◌&&◌, ◌==◌, if◌then◌else◌, Option, None, Some, is_some, OnSome, subst, refl}
use Rattle.disk_models.specs.Once.{IsOnceSound}
use Rattle.disk_memory.specs.Burning.{Burning, burnt_in, tried_block_in, once_state_of}

-- nothing isn't something
none_burnt : (block : List ℕ) → ◌≡◌ {A = Option (List ℕ)} None (Some block) → ⊥
none_burnt block is = subst (λ (o : Option (List ℕ)). OnSome o ⊥) is tt

-- what is burnt stays burnt so
pub burnt_still : (bs more : List Burning) (n : ℕ) (block : List ℕ) → burnt_in n bs ≡ Some block → burnt_in n (bs ++ more) ≡ Some block
burnt_still [] more n block is = absurd (none_burnt block is)
burnt_still (b ∷ bs) more n block is =
    let go = elim (b.whole && (b.number == n)) as (λ t. (if t then Some b.block else burnt_in n bs) ≡ Some block → (if t then Some b.block else burnt_in n (bs ++ more)) ≡ Some block)
    [ true ↦ (λ same. same) | false ↦ (λ later. burnt_still bs more n block later) ] in
    go is

-- what is burnt is tried
pub burnt_tried : (bs : List Burning) (n : ℕ) (block : List ℕ) → burnt_in n bs ≡ Some block → is_some (tried_block_in n bs) ≡ true
burnt_tried [] n block is = absurd (none_burnt block is)
burnt_tried (b ∷ bs) n block is =
    let go = elim (b.number == n) as (λ t. (if b.whole && t then Some b.block else burnt_in n bs) ≡ Some block → is_some (if t then Some b.block else tried_block_in n bs) ≡ true) [
      | true ↦ (λ here. refl)
      | false ↦ elim b.whole as (λ w. (if w && false then Some b.block else burnt_in n bs) ≡ Some block → is_some (tried_block_in n bs) ≡ true)
          [ true ↦ (λ later. burnt_tried bs n block later) | false ↦ (λ later. burnt_tried bs n block later) ]
    ] in
    go is

-- (a lemma) the state that is made of burns is sound
pub once_is_sound : (settled waiting : List Burning) → IsOnceSound (once_state_of settled waiting)
once_is_sound settled waiting = record {
  burnt = λ n block is. burnt_still settled waiting n block is;
  tried = λ n block is. burnt_tried (settled ++ waiting) n block is;
}
