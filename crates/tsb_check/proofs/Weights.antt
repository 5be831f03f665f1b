-- What is left to read grows less.
use Rattle.std.proofs.Common.{◌≡◌, ℕ, suc, ◌+◌, ◌*◌, ◌^◌, ◌<◌, ◌≤◌, List, [], ◌∷◌, ◌++◌, length, arith}
use Rattle.std.proofs.Math.Nat.{pow-suc, one-le-pow, pow-le-pow_right, mul-le-mul_right, add-mul}
use Rattle.version_model.specs.declared.bounds.Bounds.{Bounds}
use Rattle.version_model.specs.declared.part.Part.{Part}
use Rattle.version_model.specs.declared.part.Place.{Place}
use Rattle.tsb_check.specs.Counted.{AreLower, places_of}
use Rattle.tsb_check.specs.inner.Reported.{weight}

pub weight_both : (xs ys : List Place) → weight (xs ++ ys) ≡ weight xs + weight ys
weight_both [] ys = omega arith
weight_both (x ∷ xs) ys = omega (arith, weight_both xs ys)

weight_lower : (bounds : Bounds) (block : ℕ) (parts : List Part) → AreLower block parts → weight (places_of bounds parts) ≤ length parts * 650 ^ block
weight_lower bounds block [] lower = omega arith
weight_lower bounds block (p ∷ ps) lower =
    let some : 0 < 650 = omega arith in
    let one : 650 ^ suc p.block ≤ 650 ^ block = pow-le-pow_right some lower.0 in
    let more : (1 + length ps) * 650 ^ block ≡ 1 * 650 ^ block + length ps * 650 ^ block = add-mul 1 (length ps) (650 ^ block) in
    omega (arith, one, more, weight_lower bounds block ps lower.1)

-- a place gives way to those of its column's parts
pub falls : (place : Place) (rest : List Place) (bounds : Bounds) (parts : List Part) → AreLower place.part.block parts → length parts ≤ 649 → weight (rest ++ places_of bounds parts) < weight (rest ++ place ∷ [])
falls place rest bounds parts lower few =
    let block = place.part.block in
    let some : 1 ≤ 650 ^ block = one-le-pow block 650 (omega arith) in
    let inner = weight_lower bounds block parts lower in
    let most : length parts * 650 ^ block ≤ 649 * 650 ^ block = mul-le-mul_right (650 ^ block) few in
    let power : 650 ^ suc block ≡ 650 ^ block * 650 = pow-suc 650 block in
    omega (arith, some, inner, most, power, weight_both rest (places_of bounds parts), weight_both rest (place ∷ []))

-- or is read to its end
pub ends : (place : Place) (rest : List Place) → weight rest < weight (rest ++ place ∷ [])
ends place rest =
    let some : 1 ≤ 650 ^ suc place.part.block = one-le-pow (suc place.part.block) 650 (omega arith) in
    omega (arith, some, weight_both rest (place ∷ []))
