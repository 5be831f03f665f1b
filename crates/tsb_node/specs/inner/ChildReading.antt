-- What octets represent if they are a key node.
use Rattle.std.specs.Prelude.{◌≡◌, ℕ, zero, suc, ◌*◌, ◌<◌, ◌≤◌, ◌⊎◌, List, [], ◌∷◌, length, drop}
use Rattle.std.specs.List.{flat_map}
use Rattle.version_model.specs.declared.bounds.Bounds.{Bounds}
use Rattle.tsb_node.specs.declared.header.Header.{Header}
use Rattle.tsb_node.specs.KeyNodes.{KeyNodeInPage, IsKeyNode, IsChildEntry, child_octets}
use Rattle.tsb_node.specs.inner.Rows.{AreRows}
use Rattle.tsb_node.specs.inner.Fields.{number_in}
use Rattle.version_model.specs.declared.child.Child.{Child}

-- the child at the front
unfoldable pub child_in : List ℕ → Child
child_in bytes = record { low = number_in 40 0 bytes; page = number_in 8 40 bytes }

-- n children, one after another
unfoldable pub children_in : ℕ → List ℕ → List Child
children_in zero bytes = []
children_in (suc n) bytes = child_in bytes ∷ children_in n (drop 48 bytes)

-- the place is that of the last child whose keys begin at or below the key, or of the first if none do
pub record IsChildBefore (count : ℕ) (bytes : List ℕ) (key place : ℕ) : Type 0 where
  pub below : place < count
  pub passed : (number_in 40 (48 * place) bytes ≤ key) ⊎ (place ≡ 0)
  pub next : suc place < count → key < number_in 40 (48 * suc place) bytes

-- the octets are exactly these children, `count` of them, which follow one another from the lowest key on
abbrev pub AreChildrenOf : Bounds → ℕ → List ℕ → List Child → Type 0
AreChildrenOf b count bytes children = AreRows child_octets (IsChildEntry b) (λ c. c.low) b.low count bytes children

-- the header and the octets of the entries are those of a key node
pub record IsKeyNodeOf (h : Header) (entries : List ℕ) (node : KeyNodeInPage) : Type 0 where
  pub kind : h.kind ≡ 3
  pub level : h.level ≡ node.level
  pub bounds : node.bounds ≡ h.bounds
  pub count : h.count ≡ length node.children
  pub valid : IsKeyNode node
  pub encoded : entries ≡ flat_map child_octets node.children
