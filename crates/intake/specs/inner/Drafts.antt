-- Images of a ring's pages, before they are laid.
use Rattle.std.specs.Prelude.{◌≡◌, ◌<◌, ◌≤◌, ℕ, zero, suc, ◌+◌, ◌-◌, ◌*◌, ◌/◌, List, [], ◌∷◌, ◌++◌, length, nat_lt, cond}
use Rattle.page_journal.specs.Layout.{Image}
use Rattle.page_journal.specs.Recovers.{laid}
use Rattle.intake.specs.declared.ring.Ring.{Ring}
use Rattle.intake.specs.Ring.{page_at, wrapped, size_of, HasOctets}

-- the numbers of n pages of a ring, from one on
abbrev pub numbers_from : ℕ → ℕ → ℕ → ℕ → List ℕ
numbers_from low count page zero = []
numbers_from low count page (suc n) = (low + wrapped count page) ∷ numbers_from low count (suc page) n

-- which of the images of pages from one on is that of a page
abbrev pub image_of : ℕ → ℕ → ℕ → ℕ
image_of count begun page = cond (nat_lt page begun) (page + count - begun) (page - begun)

-- the numbers are those of pages of a ring, from this one on, each once
pub record AreFrom (low count begun : ℕ) (ns : List ℕ) : Type 0 where
  pub few : length ns ≤ count
  pub are : ns ≡ numbers_from low count begun (length ns)

-- each of the first `octets` octets after the used ones lies on one of n pages from this one on
abbrev pub Covers : Ring → ℕ → ℕ → ℕ → Type 0
Covers ring begun n octets = (k : ℕ) → k < octets → image_of ring.count begun (wrapped (size_of ring) (ring.first + (ring.used + k)) / 16384) < n

-- If octets are in a ring with the old images laid over its pages, these follow them with the new ones.
abbrev pub Writes : Ring → List ℕ → List Image → List Image → Type 0
Writes ring octets old new = (pages : List (List ℕ)) (stood : List ℕ) → ring.low + ring.count ≤ length pages → length stood ≡ ring.used
    → HasOctets (laid old pages) ring stood → HasOctets (laid new pages) ring (stood ++ octets)

-- octets are all that the k-th page has on which they lie, from a place in the first of these pages on
abbrev pub Fills : ℕ → ℕ → ℕ → Type 0
Fills from octets k = (from ≤ 16384 * k) × (16384 * (k + 1) ≤ from + octets)

-- pages with used octets are the same
abbrev pub KeepsUsed : Ring → List (List ℕ) → List (List ℕ) → Type 0
KeepsUsed ring old new = (j : ℕ) → j < ring.used → page_at new (ring.low + wrapped (size_of ring) (ring.first + j) / 16384) ≡ page_at old (ring.low + wrapped (size_of ring) (ring.first + j) / 16384)
