-- Octets are one node at most, whatever its entries represent.
use Rattle.std.proofs.Common.{◌≡◌, ℕ, ◌≤◌, List, ◌++◌, length, take, drop, replicate, None, IsSome, refl, sym, ap, subst, ◌∙◌, arith}
use Rattle.std.specs.List.{All}
use Rattle.std.proofs.lemmas.List.{length-take, length-drop}
use Rattle.std.proofs.lemmas.List.Elements.{All-replicate}
use Rattle.sha2.specs.Sha256.{sha256}
use Rattle.tsb_node.specs.declared.header.Header.{Header}
use Rattle.tsb_node.specs.Nodes.{header}
use Rattle.tsb_node.specs.Headers.{HasHeader}
use Rattle.tsb_node.specs.inner.Reading.{area}
use Rattle.tsb_node.specs.inner.NodeReading.{node_body, BeginsAsNode, IsNodePage, IsNodeBlock}
use Rattle.tsb_node.proofs.ReadingLaws.{SameHeader, header_one, Parts, node_parts, parts_node, node_last, all_zeros}

pub begun_parts : (h : Header) (es octets : List ℕ) → BeginsAsNode h es octets → Parts h.unit h.kind h.level h.count h.bounds es octets
begun_parts h es octets is = node_parts h.unit h.kind h.level h.count h.bounds es is.last octets is.valid.fits is.encoded

pub begun_header : (h : Header) (es octets : List ℕ) → BeginsAsNode h es octets → HasHeader h octets
begun_header h es octets is = record {
  bounds = is.valid.bounds;
  count = is.valid.count;
  used = omega (arith, is.valid.used, is.valid.fits);
  encoded = (begun_parts h es octets is).front ∙ ap (λ (n : ℕ). header h.kind h.unit h.level h.count n h.bounds) (sym is.valid.used);
}

-- what a header that is read represents of the node
pub begun_same : (h g : Header) (es octets : List ℕ) → BeginsAsNode h es octets → HasHeader g octets → SameHeader g h
begun_same h g es octets is has = header_one g h octets has (begun_header h es octets is)

pub begun_used : (h g : Header) (es octets : List ℕ) → BeginsAsNode h es octets → HasHeader g octets → g.used ≡ length es
begun_used h g es octets is has = (begun_same h g es octets is has).used ∙ is.valid.used

pub begun_rest : (h g : Header) (es octets : List ℕ) → BeginsAsNode h es octets → HasHeader g octets → All (λ octet. octet ≡ 0) (drop g.used (area octets))
begun_rest h g es octets is has =
    subst (All (λ octet. octet ≡ 0)) (sym (ap (λ (m : ℕ). drop m (area octets)) (begun_used h g es octets is has) ∙ (begun_parts h es octets is).rest_is))
    (All-replicate (λ (octet : ℕ). octet ≡ 0) _ 0 refl)

pub begun_entries : (h g : Header) (es octets : List ℕ) → BeginsAsNode h es octets → HasHeader g octets → take g.used (area octets) ≡ es
begun_entries h g es octets is has = ap (λ (m : ℕ). take m (area octets)) (begun_used h g es octets is has) ∙ (begun_parts h es octets is).entries_are

pub begun_is : (h : Header) (octets : List ℕ) → HasHeader h octets → length octets ≡ 16384 → h.used ≤ 16232 → All (λ octet. octet ≡ 0) (drop h.used (area octets))
    → BeginsAsNode h (take h.used (area octets)) octets
begun_is h octets has size fits zeros_all =
    let es : List ℕ = take h.used (area octets) in
    let used : h.used ≡ length es = sym (omega (arith, length-take h.used (area octets), length-drop 120 (take 16352 octets), length-take 16352 octets)) in
    record {
      valid = record { bounds = has.bounds; count = has.count; used = used; fits = omega (arith, used) };
      last = drop 16352 octets;
      encoded = parts_node h.unit h.kind h.level h.count h.used h.bounds es octets size used fits has.encoded refl zeros_all;
    }

-- nodes that begin the same octets are one
pub nodes_same : (h g : Header) (es fs octets : List ℕ) → BeginsAsNode h es octets → BeginsAsNode g fs octets → SameHeader h g
nodes_same h g es fs octets a b = header_one h g octets (begun_header h es octets a) (begun_header g fs octets b)

pub entries_same : (h g : Header) (es fs octets : List ℕ) → BeginsAsNode h es octets → BeginsAsNode g fs octets → es ≡ fs
entries_same h g es fs octets a b = sym (begun_entries h h es octets a (begun_header h es octets a)) ∙ begun_entries g h fs octets b (begun_header h es octets a)

-- ---- pages

pub page_begins : (h : Header) (es octets : List ℕ) → IsNodePage h es octets → BeginsAsNode h es octets
page_begins h es octets page = record { valid = page.valid; last = replicate 32 0; encoded = page.page.encoded }

pub page_made : (h : Header) (es octets : List ℕ) → BeginsAsNode h es octets → length octets ≡ 16384 → h.bounds.end ≡ None → All (λ octet. octet ≡ 0) (drop 16352 octets) → IsNodePage h es octets
page_made h es octets is size current zeros_all =
    let n = node_last h.unit h.kind h.level h.count h.bounds es is.last octets is.valid.fits is.encoded in
    let long : length (drop 16352 octets) ≡ 32 = omega (arith, length-drop 16352 octets) in
    record {
      valid = is.valid;
      page = record {
        current = current;
        encoded = is.encoded ∙ ap (λ (t : List ℕ). node_body h es ++ t) (sym n.1 ∙ all_zeros (drop 16352 octets) zeros_all ∙ ap (λ (k : ℕ). replicate k 0) long);
      };
    }

pub page_zeros : (h : Header) (es octets : List ℕ) → IsNodePage h es octets → All (λ octet. octet ≡ 0) (drop 16352 octets)
page_zeros h es octets page =
    let n = node_last h.unit h.kind h.level h.count h.bounds es (replicate 32 0) octets page.valid.fits page.page.encoded in
    subst (All (λ octet. octet ≡ 0)) (sym n.1) (All-replicate (λ (octet : ℕ). octet ≡ 0) 32 0 refl)

-- ---- blocks

pub block_begins : (h : Header) (es octets : List ℕ) → IsNodeBlock h es octets → BeginsAsNode h es octets
block_begins h es octets block = record { valid = block.valid; last = sha256 (node_body h es); encoded = block.block.encoded }

pub block_made : (h : Header) (es octets : List ℕ) → BeginsAsNode h es octets → IsSome h.bounds.end → drop 16352 octets ≡ sha256 (take 16352 octets) → IsNodeBlock h es octets
block_made h es octets is ended digest =
    let n = node_last h.unit h.kind h.level h.count h.bounds es is.last octets is.valid.fits is.encoded in
    record { valid = is.valid; block = record { ended = ended; encoded = is.encoded ∙ ap (λ (t : List ℕ). node_body h es ++ t) (sym n.1 ∙ digest ∙ ap sha256 n.0) } }

pub block_digest : (h : Header) (es octets : List ℕ) → IsNodeBlock h es octets → drop 16352 octets ≡ sha256 (take 16352 octets)
block_digest h es octets block =
    let n = node_last h.unit h.kind h.level h.count h.bounds es (sha256 (node_body h es)) octets block.valid.fits block.block.encoded in
    n.1 ∙ ap sha256 (sym n.0)
