-- A leaf is read from the header and the entries of a node exactly where these are one.
use Rattle.std.proofs.Common.{◌≡◌, ℕ, List, ◌++◌, length, replicate, Option, Some, None, IsSome, refl, sym, ap, subst, ◌∙◌, arith}
use Rattle.std.specs.Option.{IfSome, IfNone}
use Rattle.sha2.specs.Sha256.{sha256}
use Rattle.version_model.specs.declared.bounds.Bounds.{Bounds}
use Rattle.tsb_node.specs.declared.header.Header.{Header}
use Rattle.tsb_node.specs.Nodes.{body}
use Rattle.tsb_node.specs.Leaves.{LeafNode, IsLeaf, BeginsAsWrittenLeaf, IsWrittenLeafPage, IsWrittenLeafBlock, entries}
use Rattle.tsb_node.specs.inner.Checking.{AreEntries, IsLeafOf}
use Rattle.tsb_node.specs.inner.NodeReading.{IsNode, node_body, BeginsAsNode, IsNodePage, IsNodeBlock}
use Rattle.tsb_node.proofs.Leaves.{few_versions}
use Rattle.tsb_node.proofs.NodeLaws.{nodes_same, entries_same, page_begins, block_begins}

pub leaf_from : (h : Header) (es : List ℕ) → IsNode h es → h.kind ≡ 1 → h.level ≡ 0 → AreEntries h.bounds h.count es → (leaf : LeafNode) × IsLeafOf h es leaf × (leaf.bounds ≡ h.bounds)
leaf_from h es node kind level are = (
  record { bounds = h.bounds; versions = are.versions },
  record {
    kind = kind;
    level = level;
    bounds = refl;
    count = sym are.counted;
    valid = record { bounds = node.bounds; each = are.each; rising = are.rising; fits = omega (arith, node.fits, ap length are.encoded) };
    encoded = are.encoded;
  },
  refl,
)

pub leaf_entries : (h : Header) (es : List ℕ) (leaf : LeafNode) → IsLeafOf h es leaf → AreEntries h.bounds h.count es
leaf_entries h es leaf of =
    subst (λ (b : Bounds). AreEntries b h.count es) of.bounds (record { versions = leaf.versions; each = of.valid.each; rising = of.valid.rising; counted = sym of.count; encoded = of.encoded })

abbrev pub leaf_header : ℕ → LeafNode → Header
leaf_header unit leaf = record { kind = 1; unit = unit; level = 0; count = length leaf.versions; used = length (entries leaf.versions); bounds = leaf.bounds }

leaf_node : (unit : ℕ) (leaf : LeafNode) → IsLeaf leaf → IsNode (leaf_header unit leaf) (entries leaf.versions)
leaf_node unit leaf valid = record { bounds = valid.bounds; count = few_versions leaf valid; used = refl; fits = valid.fits }

pub leaf_begun : (leaf : LeafNode) (octets : List ℕ) → (is : BeginsAsWrittenLeaf leaf octets) → BeginsAsNode (leaf_header is.unit leaf) (entries leaf.versions) octets
leaf_begun leaf octets is = record { valid = leaf_node is.unit leaf is.valid; last = is.last; encoded = is.encoded }

pub leaf_page : (leaf : LeafNode) (page : List ℕ) → (is : IsWrittenLeafPage leaf page) → IsNodePage (leaf_header is.unit leaf) (entries leaf.versions) page
leaf_page leaf page is = record { valid = leaf_node is.unit leaf is.valid; page = record { current = is.page.current; encoded = is.page.encoded } }

pub leaf_block : (leaf : LeafNode) (block : List ℕ) → (is : IsWrittenLeafBlock leaf block) → IsNodeBlock (leaf_header is.unit leaf) (entries leaf.versions) block
leaf_block leaf block is = record { valid = leaf_node is.unit leaf is.valid; block = record { ended = is.block.ended; encoded = is.block.encoded } }

body_of : (h : Header) (es : List ℕ) (leaf : LeafNode) → IsLeafOf h es leaf → node_body h es ≡ node_body (leaf_header h.unit leaf) (entries leaf.versions)
body_of h es leaf of =
    ap (λ (k : ℕ). body h.unit k h.level h.count h.bounds es) of.kind ∙ ap (λ (l : ℕ). body h.unit 1 l h.count h.bounds es) of.level ∙ ap (λ (n : ℕ). body h.unit 1 0 n h.bounds es) of.count
    ∙ ap (λ (b : Bounds). body h.unit 1 0 (length leaf.versions) b es) (sym of.bounds) ∙ ap (body h.unit 1 0 (length leaf.versions) leaf.bounds) of.encoded

of_begun : (h : Header) (es octets : List ℕ) (leaf : LeafNode) (unit : ℕ) → BeginsAsNode h es octets → IsLeaf leaf → BeginsAsNode (leaf_header unit leaf) (entries leaf.versions) octets → IsLeafOf h es leaf
of_begun h es octets leaf unit begun valid other =
    let same = nodes_same h (leaf_header unit leaf) es (entries leaf.versions) octets begun other in
    record { kind = same.kind; level = same.level; bounds = sym same.bounds; count = same.count; valid = valid; encoded = entries_same h (leaf_header unit leaf) es (entries leaf.versions) octets begun other }

pub begins_of : (h : Header) (es octets : List ℕ) (leaf : LeafNode) → BeginsAsNode h es octets → IsLeafOf h es leaf → BeginsAsWrittenLeaf leaf octets
begins_of h es octets leaf is of = record { unit = h.unit; valid = of.valid; last = is.last; encoded = is.encoded ∙ ap (λ (t : List ℕ). t ++ is.last) (body_of h es leaf of) }

pub of_begins : (h : Header) (es octets : List ℕ) (leaf : LeafNode) → BeginsAsNode h es octets → BeginsAsWrittenLeaf leaf octets → IsLeafOf h es leaf
of_begins h es octets leaf is leaf_is = of_begun h es octets leaf leaf_is.unit is leaf_is.valid (leaf_begun leaf octets leaf_is)

pub page_of : (h : Header) (es page : List ℕ) (leaf : LeafNode) → IsNodePage h es page → IsLeafOf h es leaf → IsWrittenLeafPage leaf page
page_of h es page leaf is of = record {
  unit = h.unit;
  valid = of.valid;
  page = record { current = ap (λ (b : Bounds). b.end) of.bounds ∙ is.page.current; encoded = is.page.encoded ∙ ap (λ (t : List ℕ). t ++ replicate 32 0) (body_of h es leaf of) };
}

pub of_page : (h : Header) (es page : List ℕ) (leaf : LeafNode) → IsNodePage h es page → IsWrittenLeafPage leaf page → IsLeafOf h es leaf
of_page h es page leaf is leaf_is = of_begun h es page leaf leaf_is.unit (page_begins h es page is) leaf_is.valid (page_begins (leaf_header leaf_is.unit leaf) (entries leaf.versions) page (leaf_page leaf page leaf_is))

pub block_of : (h : Header) (es block : List ℕ) (leaf : LeafNode) → IsNodeBlock h es block → IsLeafOf h es leaf → IsWrittenLeafBlock leaf block
block_of h es block leaf is of = record {
  unit = h.unit;
  valid = of.valid;
  block = record { ended = subst (λ (b : Bounds). IsSome b.end) (sym of.bounds) is.block.ended; encoded = is.block.encoded ∙ ap (λ (t : List ℕ). t ++ sha256 t) (body_of h es leaf of) };
}

pub of_block : (h : Header) (es block : List ℕ) (leaf : LeafNode) → IsNodeBlock h es block → IsWrittenLeafBlock leaf block → IsLeafOf h es leaf
of_block h es block leaf is leaf_is = of_begun h es block leaf leaf_is.unit (block_begins h es block is) leaf_is.valid (block_begins (leaf_header leaf_is.unit leaf) (entries leaf.versions) block (leaf_block leaf block leaf_is))

-- another predicate for a leaf that is found, and for none
pub some_leaf : (o : Option Bounds) (P Q : LeafNode → Type 0) → ((leaf : LeafNode) → P leaf → Q leaf) → IfSome o (λ b. (leaf : LeafNode) × P leaf × (leaf.bounds ≡ b)) → IfSome o (λ b. (leaf : LeafNode) × Q leaf × (leaf.bounds ≡ b))
some_leaf None P Q f is = tt
some_leaf (Some b) P Q f is = (is.0, f is.0 is.1, is.2)

pub none_leaf : (o : Option Bounds) (P Q : LeafNode → Type 0) → ((leaf : LeafNode) → Q leaf → P leaf) → IfNone o ((leaf : LeafNode) → P leaf → ⊥) → IfNone o ((leaf : LeafNode) → Q leaf → ⊥)
none_leaf None P Q f never = λ leaf is. never leaf (f leaf is)
none_leaf (Some b) P Q f never = tt

-- leaves that begin the same octets have the same bounds
pub begun_one : (a b : LeafNode) (octets : List ℕ) → BeginsAsWrittenLeaf a octets → BeginsAsWrittenLeaf b octets → a.bounds ≡ b.bounds
begun_one a b octets p q = (nodes_same (leaf_header p.unit a) (leaf_header q.unit b) (entries a.versions) (entries b.versions) octets (leaf_begun a octets p) (leaf_begun b octets q)).bounds
