-- A block of a leaf is its page, with an end and a digest.
use Rattle.std.proofs.Common.{◌≡◌, ℕ, ◌+◌, ◌-◌, ◌^◌, ◌<◌, List, [], ◌∷◌, ◌++◌, length, take, replicate, Some, refl, sym, ap, ◌∙◌, append_assoc, arith}
use Rattle.std.specs.List.{AllByRecursion}
use Rattle.std.proofs.lemmas.List.{length-append, take_at}
use Rattle.sha2.specs.Sha256.{sha256}
use Rattle.once_store.specs.Digests.{sealed}
use Rattle.tsb_node.specs.Numbers.{octets_of, bound_octets}
use Rattle.version_model.specs.declared.bounds.Bounds.{Bounds}
use Rattle.version_model.specs.Versions.{Version}
use Rattle.tsb_node.specs.Nodes.{header, body}
use Rattle.tsb_node.specs.Leaves.{LeafNode, IsLeaf, IsLeafBlock, entries, IsVersionOf}
use Rattle.tsb_node.specs.inner.Fresh.{IsFreshLeafPage}
use Rattle.tsb_node.specs.inner.Laying.{laid}
use Rattle.tsb_node.specs.Sealing.{ended}
use Rattle.tsb_node.proofs.NumberLaws.{octets_of-size}
use Rattle.tsb_node.proofs.Leaves.{bound_octets-size, body-size}
use Rattle.tsb_node.proofs.WrittenNow.{block_now}
use Rattle.tsb_node.proofs.Laying.{put_field}

abbrev pub ending : Bounds → ℕ → Bounds
ending b end = record { low = b.low; high = b.high; start = b.start; end = Some end }

-- a node that is sealed, whatever follows it
pub sealed_is : (node sheet : List ℕ) → length node ≡ 16352 → sheet ≡ node ++ replicate 32 0 → sealed sheet ≡ node ++ sha256 node
sealed_is node sheet size is = ap (λ (t : List ℕ). t ++ sha256 t) (ap (take 16352) is ∙ take_at node (replicate 32 0) 16352 size)

-- another end in a header
header_ended : (kind unit level count used : ℕ) (b : Bounds) (end : ℕ) (rest : List ℕ) → laid 104 (octets_of 16 end) (header kind unit level count used b ++ rest) ≡ header kind unit level count used (ending b end) ++ rest
unfolding header bound_octets
header_ended kind unit level count used b end rest =
    let front : List ℕ = (((((kind ∷ unit ∷ level ∷ 0 ∷ []) ++ octets_of 2 count) ++ octets_of 2 used) ++ octets_of 40 b.low) ++ bound_octets 40 b.high) ++ octets_of 16 b.start in
    let old : List ℕ = bound_octets 16 b.end in
    let e0 : List ℕ = kind ∷ unit ∷ level ∷ 0 ∷ [] in
    let z1 : length (e0 ++ octets_of 2 count) ≡ 6 = omega (arith, length-append e0 (octets_of 2 count), octets_of-size 2 count) in
    let z2 : length ((e0 ++ octets_of 2 count) ++ octets_of 2 used) ≡ 8 = omega (arith, z1, length-append (e0 ++ octets_of 2 count) (octets_of 2 used), octets_of-size 2 used) in
    let z3 : length (((e0 ++ octets_of 2 count) ++ octets_of 2 used) ++ octets_of 40 b.low) ≡ 48 = omega (arith, z2, length-append ((e0 ++ octets_of 2 count) ++ octets_of 2 used) (octets_of 40 b.low), octets_of-size 40 b.low) in
    let z4 : length ((((e0 ++ octets_of 2 count) ++ octets_of 2 used) ++ octets_of 40 b.low) ++ bound_octets 40 b.high) ≡ 88 =
    omega (arith, z3, length-append (((e0 ++ octets_of 2 count) ++ octets_of 2 used) ++ octets_of 40 b.low) (bound_octets 40 b.high), bound_octets-size 40 b.high) in
    let size : length front ≡ 104 = omega (arith, z4, length-append ((((e0 ++ octets_of 2 count) ++ octets_of 2 used) ++ octets_of 40 b.low) ++ bound_octets 40 b.high) (octets_of 16 b.start), octets_of-size 16 b.start) in
    let same : length old ≡ length (octets_of 16 end) = bound_octets-size 16 b.end ∙ sym (octets_of-size 16 end) in
    ap (laid 104 (octets_of 16 end)) (append_assoc front old rest) ∙ put_field 104 front old rest (octets_of 16 end) size same ∙ sym (append_assoc front (octets_of 16 end) rest)

body_ended : (unit kind level count : ℕ) (b : Bounds) (es last : List ℕ) (end : ℕ) → laid 104 (octets_of 16 end) (body unit kind level count b es ++ last) ≡ body unit kind level count (ending b end) es ++ last
unfolding body
body_ended unit kind level count b es last end =
    let h : List ℕ = header kind unit level count (length es) b in
    let h' : List ℕ = header kind unit level count (length es) (ending b end) in
    let p : List ℕ = replicate (16232 - length es) 0 in
    ap (laid 104 (octets_of 16 end)) (append_assoc (h ++ es) p last ∙ append_assoc h es (p ++ last)) ∙ header_ended kind unit level count (length es) b end (es ++ (p ++ last))
    ∙ sym (append_assoc (h' ++ es) p last ∙ append_assoc h' es (p ++ last))

-- what is kept of versions, where only the end changes
versions_along : (b : Bounds) (end : ℕ) (vs : List Version) → AllByRecursion (IsVersionOf b) vs → AllByRecursion (IsVersionOf (ending b end)) vs
versions_along b end [] all = tt
versions_along b end (v ∷ vs) all = (record { short = record { low = all.0.short.low; high = all.0.short.high; size = all.0.short.size }; key = all.0.key; stamp = all.0.stamp; octets = all.0.octets }, versions_along b end vs all.1)

pub leaf_ended : (leaf : LeafNode) (end : ℕ) → IsLeaf leaf → end + 1 < 256 ^ 16 → leaf.bounds.start < end → IsLeaf (ended leaf end)
leaf_ended leaf end valid lt after = record {
  bounds = record { low = valid.bounds.low; start = valid.bounds.start; order = record { high = valid.bounds.order.high; end = (lt, after) } };
  each = versions_along leaf.bounds end leaf.versions valid.each;
  rising = valid.rising;
  fits = valid.fits;
}

pub block_made : (leaf : LeafNode) (page : List ℕ) (end : ℕ) → IsFreshLeafPage leaf page → end + 1 < 256 ^ 16 → leaf.bounds.start < end
    → IsLeafBlock (ended leaf end) (sealed (laid 104 (octets_of 16 end) page))
block_made leaf page end fresh lt after =
    let is = fresh.page in
    let n : ℕ = length leaf.versions in
    let es : List ℕ = entries leaf.versions in
    let node : List ℕ = body is.unit 1 0 n (ending leaf.bounds end) es in
    let whole : laid 104 (octets_of 16 end) page ≡ node ++ replicate 32 0 = ap (laid 104 (octets_of 16 end)) is.page.encoded ∙ body_ended is.unit 1 0 n leaf.bounds es (replicate 32 0) end in
    block_now (ended leaf end) _ (record {
      unit = is.unit;
      valid = leaf_ended leaf end is.valid lt after;
      block = record { ended = refl; encoded = sealed_is node (laid 104 (octets_of 16 end) page) (body-size is.unit 1 0 n (ending leaf.bounds end) es is.valid.fits) whole };
    }) fresh.now
