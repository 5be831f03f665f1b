-- A block that is settled besides others.
use Rattle.std.proofs.Common.{◌≡◌, ℕ, ◌<◌, Bool, true, false, cond, nat_eq, List, Option, Some, None, Ok, Err, IfOk, Result, refl, sym, ◌∙◌, ap, subst, eq-eqb}
use Rattle.std.proofs.lemmas.Bool.{eqb-true, false≢true}
use Rattle.std.proofs.lemmas.Option.{same_Some, none-some}
use Rattle.disk_models.specs.Once.{OnceState, Grows, IsOnceSound, settled_in}
use Rattle.disk_models.specs.declared.once.OnceDisk.{Ghosts}
use Rattle.once_store.specs.declared.shelf.Shelf.{Shelf}
use Rattle.once_store.specs.Shelves.{IsFirstBlank, disk_of, pen_of}
use Rattle.version_model.specs.Blocks.{BlockNode, Grows as BlocksGrow}
use Rattle.tsb_node.specs.Views.{BlockRepresents}
use Rattle.worm_migration.specs.declared.error.MigrationError.{MigrationError}
use Rattle.worm_migration.specs.Settled.{IsSettledAs, AreSettled, with_block}
use Rattle.worm_migration.specs.Shelves.{KeepsShelf, SettlesAs}

-- what is settled was tried, so no node is stated for a blank block
none_decoded : (o : OnceState) (count from n : ℕ) (blocks : ℕ → Option BlockNode) → IsOnceSound o → IsFirstBlank o count from n → n < count → AreSettled o count blocks → (decoded : Option BlockNode) → blocks n ≡ decoded → blocks n ≡ None
none_decoded o count from n blocks sound first inside are None e = e
none_decoded o count from n blocks sound first inside are (Some node) e =
    let s = are.each n node e in
    absurd (false≢true (sym (first.blank inside) ∙ sound.tried n s.octets (sound.burnt n s.octets s.settled)))

-- what is settled stays so
settled_on : (old new : OnceState) (count : ℕ) (blocks : ℕ → Option BlockNode) → Grows old new → AreSettled old count blocks → AreSettled new count blocks
settled_on old new count blocks grows are = record {
  each = λ n node e.
      (let s = are.each n node e in
      record { inside = s.inside; octets = s.octets; settled = grows.settled n s.octets s.settled; represents_node = s.represents_node });
}

-- the block itself, or another one
decoded_of : (o : OnceState) (count n : ℕ) (node : BlockNode) (blocks : ℕ → Option BlockNode) → IsSettledAs o count n node → AreSettled o count blocks → (m : ℕ) (other : BlockNode) (same : Bool) → nat_eq m n ≡ same → cond same (Some node) (blocks m) ≡ Some other → IsSettledAs o count m other
decoded_of o count n node blocks is are m other true e decoded =
    subst (λ (x : BlockNode). IsSettledAs o count m x) (same_Some node other decoded) (subst (λ (k : ℕ). IsSettledAs o count k node) (sym (eqb-true m n e)) is)
decoded_of o count n node blocks is are m other false e decoded = are.each m other decoded

kept_of : (n : ℕ) (node : BlockNode) (blocks : ℕ → Option BlockNode) → blocks n ≡ None → (m : ℕ) (other : BlockNode) (same : Bool) → nat_eq m n ≡ same → blocks m ≡ Some other → cond same (Some node) (blocks m) ≡ Some other
kept_of n node blocks none m other true e was = absurd (none-some other (sym none ∙ ap blocks (sym (eqb-true m n e)) ∙ was))
kept_of n node blocks none m other false e was = was

-- with one block more the others represent what they represented
pub with_grows : (n : ℕ) (node : BlockNode) (blocks : ℕ → Option BlockNode) → blocks n ≡ None → BlocksGrow blocks (with_block n node blocks)
with_grows n node blocks none = λ m other was. kept_of n node blocks none m other (nat_eq m n) refl was

-- and that block represents its node
pub with_at : (n : ℕ) (node : BlockNode) (blocks : ℕ → Option BlockNode) → with_block n node blocks n ≡ Some node
with_at n node blocks = ap (λ (b : Bool). cond b (Some node) (blocks n)) (eq-eqb n n refl)

-- a block that was put on a shelf, and is settled there, represents its node besides what the others represent
pub settles : {O Pen Seen : Type 0} (device : Ghosts O Pen Seen) (old new : Shelf O Pen Seen) (n : ℕ) (node : BlockNode) (octets : List ℕ) → IsOnceSound (device.model (pen_of old)) → device.honest (disk_of old) (pen_of old)
    → KeepsShelf device old new (Ok n) → settled_in (device.model (pen_of new)) n octets → BlockRepresents octets node → SettlesAs device old new n node
settles device old new n node octets sound honest keeps settled represents_node =
    let puts = keeps.puts honest in
    let inside : n < device.block_count (disk_of new) = rw keeps.disk keeps.number in
    let is : IsSettledAs (device.model (pen_of new)) (device.block_count (disk_of new)) n node = record { inside = inside; octets = octets; settled = settled; represents_node = represents_node } in
    let none : (blocks : ℕ → Option BlockNode) → AreSettled (device.model (pen_of old)) (device.block_count (disk_of old)) blocks → blocks n ≡ None = λ blocks are.
    none_decoded (device.model (pen_of old)) (device.block_count (disk_of old)) _ n blocks sound puts.blank keeps.number are (blocks n) refl in
    record {
      settled = is;
      fresh = none;
      represents_node = λ blocks are. record {
        each = λ m other e. decoded_of (device.model (pen_of new)) (device.block_count (disk_of new)) n node blocks is
            (rw keeps.disk (settled_on (device.model (pen_of old)) (device.model (pen_of new)) (device.block_count (disk_of old)) blocks puts.grows are)) m other (nat_eq m n) refl e;
      };
      grows = λ blocks are. with_grows n node blocks (none blocks are);
    }

-- the same of a call's answer, where it is one
pub settles_if : {O Pen Seen : Type 0} (device : Ghosts O Pen Seen) (old new : Shelf O Pen Seen) (result : Result ℕ MigrationError) (node : BlockNode) (octets : List ℕ) → IsOnceSound (device.model (pen_of old)) → device.honest (disk_of old) (pen_of old)
    → KeepsShelf device old new result → IfOk result (λ n. settled_in (device.model (pen_of new)) n octets) → BlockRepresents octets node → IfOk result (λ n. SettlesAs device old new n node)
settles_if device old new (Ok n) node octets sound honest keeps settled represents_node = settles device old new n node octets sound honest keeps settled represents_node
settles_if device old new (Err e) node octets sound honest keeps settled represents_node = tt
