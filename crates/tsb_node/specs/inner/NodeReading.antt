-- What all nodes have in common, whatever their entries represent.
use Rattle.std.specs.Prelude.{◌≡◌, ℕ, ◌<◌, ◌≤◌, ◌^◌, List, ◌++◌, length}
use Rattle.tsb_node.specs.Nodes.{IsBounds, body, IsInPage, IsInBlock}
use Rattle.tsb_node.specs.declared.header.Header.{Header}

-- the header and the octets of the entries are those of a node
pub record IsNode (h : Header) (entries : List ℕ) : Type 0 where
  pub bounds : IsBounds h.bounds
  pub count : h.count < 256 ^ 2
  pub used : h.used ≡ length entries
  pub fits : length entries ≤ 16232

-- a node but for its last 32 octets
abbrev pub node_body : Header → List ℕ → List ℕ
node_body h entries = body h.unit h.kind h.level h.count h.bounds entries

-- the octets begin as a page or a block of the node does
pub record BeginsAsNode (h : Header) (entries octets : List ℕ) : Type 0 where
  pub valid : IsNode h entries
  pub last : List ℕ
  pub encoded : octets ≡ node_body h entries ++ last

-- the octets are the page of the node
pub record IsNodePage (h : Header) (entries octets : List ℕ) : Type 0 where
  pub valid : IsNode h entries
  pub page : IsInPage h.bounds (node_body h entries) octets

-- the octets are the block of the node
pub record IsNodeBlock (h : Header) (entries octets : List ℕ) : Type 0 where
  pub valid : IsNode h entries
  pub block : IsInBlock h.bounds (node_body h entries) octets
