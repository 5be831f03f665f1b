-- What looks answer of a current leaf, by what it represents.
use Rattle.std.proofs.Common.{◌≡◌, ℕ, ◌<◌, List, arith}
use Rattle.version_model.specs.Versions.{Version, IsRising}
use Rattle.version_model.specs.Ranges.{Range, IsPoint, stamp_end}
use Rattle.version_model.specs.LeafVersions.{LeafRepresents}
use Rattle.version_model.specs.Pages.{PageNode, CurrentLeaf, Keys}
use Rattle.tsb_node.specs.Leaves.{LeafNode, BeginsAsLeaf}
use Rattle.tsb_node.specs.Views.{PageRepresents, represents_leaf, represents_column, represents_key_node}
use Rattle.tsb_node.proofs.api.Pages.{leaf_begins}

pub record BegunLeaf (octets : List ℕ) (versions : List Version) : Type 0 where
  pub leaf : LeafNode
  pub begins : BeginsAsLeaf leaf octets
  pub same : leaf.versions ≡ versions
  pub rising : IsRising leaf.versions

pub begun_leaf : (octets : List ℕ) (node : PageNode) → PageRepresents octets node → (keys : Keys) (start : ℕ) (versions : List Version) → node ≡ CurrentLeaf keys start versions → BegunLeaf octets versions
begun_leaf octets _ (represents_leaf leaf is) keys start versions e =
    let v : leaf.versions ≡ versions = cc in
    record { leaf = leaf; begins = leaf_begins leaf octets is; same = v; rising = is.valid.rising }
begun_leaf octets _ (represents_column column is) keys start versions e = absurd (cc)
begun_leaf octets _ (represents_key_node node is) keys start versions e = absurd (cc)

-- all keys below a high one, at all stamps
abbrev pub all_below : ℕ → Range
all_below high = record { low = 0; high = high; start = 0; end = stamp_end }

-- versions show themselves
pub shows_itself : (versions : List Version) (high : ℕ) → LeafRepresents versions (all_below high) versions
shows_itself versions high = record {
  whole = λ v has key from before. has;
  true_ones = λ v has key before. has;
  copies = λ v has key before. absurd (omega (arith, before));
  spanning = λ v key before as_of some. absurd (omega (arith, before));
}

pub point_below : (high key stamp : ℕ) → key < high → stamp < stamp_end → IsPoint (all_below high) key stamp
point_below high key stamp lt fits = record { low = omega arith; high = lt; start = omega arith; end = fits }
