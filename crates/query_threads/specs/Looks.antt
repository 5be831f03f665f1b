-- What a look at a write-once disk found, by the numbers of the blocks.
use Rattle.std.specs.Prelude.{◌≡◌, ◌<◌, ◌↔◌, ℕ, List, Option, Some}
use Rattle.board.specs.Past.{Past, IsBlock}

-- on a disk of `count` blocks, block `n` was found settled with these octets
abbrev pub IsSettled : ℕ → (ℕ → Option (List ℕ)) → ℕ → List ℕ → Type 0
IsSettled count known n octets = (n < count) × (known n ≡ Some octets)

-- each of these blocks was found settled, with its octets
abbrev pub AreSettled : ℕ → (ℕ → Option (List ℕ)) → List (ℕ × List ℕ) → Type 0
AreSettled count known blocks = (n : ℕ) (octets : List ℕ) → IsBlock n octets blocks → IsSettled count known n octets

-- these are exactly the blocks that were found settled
abbrev pub AreTheSettled : ℕ → (ℕ → Option (List ℕ)) → List (ℕ × List ℕ) → Type 0
AreTheSettled count known blocks = (n : ℕ) (octets : List ℕ) → IsBlock n octets blocks ↔ IsSettled count known n octets

-- An errand of a turn over a past, and a look that was got with it, on this disk: the errand lies over the past, and the look is
-- honest and found the past's blocks.
pub record IsErrandOn {D E S : Type 0} (located : E → D → Past → Type 0) (honest : D → S → Type 0) (count : D → ℕ) (known : S → ℕ → Option (List ℕ)) (p : Past) (errand : E) (seen : S) (d : D) : Type 0 where
  pub represents_all : located errand d p
  pub follows : honest d seen
  pub found : AreTheSettled (count d) (known seen) p.blocks
