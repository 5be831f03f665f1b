-- What stands where in the octets of a node.
use Rattle.std.proofs.Common.{◌≡◌, ℕ, ◌-◌, ◌*◌, ◌^◌, ◌<◌, ◌≤◌, List, [], ◌∷◌, ◌++◌, length, take, drop, replicate, slice_index, Option, Some, None, refl, sym, ap, subst, ◌∙◌, append_assoc, arith}
use Rattle.std.proofs.lemmas.List.{length-append, length-replicate, take_at, drop_at}
use Rattle.sha2.specs.Sha256.{sha256}
use Rattle.tsb_node.specs.Numbers.{octets_of, bound_octets}
use Rattle.tsb_node.specs.inner.Fields.{number_in}
use Rattle.version_model.specs.Versions.{Version}
use Rattle.tsb_node.specs.Nodes.{header, body}
use Rattle.version_model.specs.declared.bounds.Bounds.{Bounds}
use Rattle.tsb_node.specs.Leaves.{LeafNode, IsLeaf, leaf_body, BeginsAsWrittenLeaf, IsWrittenLeafPage, IsWrittenLeafBlock, entry, entries}
use Rattle.tsb_node.specs.inner.Reading.{versions_in, area}
use Rattle.tsb_node.proofs.NumberLaws.{octets_of-size, octets_of-number, field_in}
use Rattle.tsb_node.proofs.Entries.{entry-size, entries_read}

pub bound_octets-size : (size : ℕ) (n : Option ℕ) → length (bound_octets size n) ≡ size
unfolding bound_octets
bound_octets-size size None = length-replicate size 255
bound_octets-size size (Some n) = octets_of-size size n

pub header-size : (kind unit level count used : ℕ) (b : Bounds) → length (header kind unit level count used b) ≡ 120
unfolding header
header-size kind unit level count used b =
    let s1 = octets_of-size 2 count in
    let s2 = octets_of-size 2 used in
    let s3 = octets_of-size 40 b.low in
    let s4 = bound_octets-size 40 b.high in
    let s5 = octets_of-size 16 b.start in
    let s6 = bound_octets-size 16 b.end in
    let f0 : List ℕ = kind ∷ unit ∷ level ∷ 0 ∷ [] in
    let p1 : List ℕ = f0 ++ octets_of 2 count in
    let p2 : List ℕ = p1 ++ octets_of 2 used in
    let p3 : List ℕ = p2 ++ octets_of 40 b.low in
    let p4 : List ℕ = p3 ++ bound_octets 40 b.high in
    let p5 : List ℕ = p4 ++ octets_of 16 b.start in
    let e0 : length f0 ≡ 4 = refl in
    let e1 : length p1 ≡ 6 = omega (arith, e0, s1, length-append f0 (octets_of 2 count)) in
    let e2 : length p2 ≡ 8 = omega (arith, e1, s2, length-append p1 (octets_of 2 used)) in
    let e3 : length p3 ≡ 48 = omega (arith, e2, s3, length-append p2 (octets_of 40 b.low)) in
    let e4 : length p4 ≡ 88 = omega (arith, e3, s4, length-append p3 (bound_octets 40 b.high)) in
    let e5 : length p5 ≡ 104 = omega (arith, e4, s5, length-append p4 (octets_of 16 b.start)) in
    omega (arith, e5, s6, length-append p5 (bound_octets 16 b.end))

-- what a header represents, with anything after it
pub record HasHeaderOf (kind unit level count used : ℕ) (b : Bounds) (octets : List ℕ) : Type 0 where
  pub kind_is : slice_index octets 0 ≡ kind
  pub unit_is : slice_index octets 1 ≡ unit
  pub level_is : slice_index octets 2 ≡ level
  pub zero_is : slice_index octets 3 ≡ 0
  pub count_is : number_in 2 4 octets ≡ count
  pub used_is : number_in 2 6 octets ≡ used
  pub low_is : number_in 40 8 octets ≡ b.low
  pub high_is : take 40 (drop 48 octets) ≡ bound_octets 40 b.high
  pub start_is : number_in 16 88 octets ≡ b.start
  pub end_is : take 16 (drop 104 octets) ≡ bound_octets 16 b.end

part : (size place : ℕ) (front field rest : List ℕ) → length front ≡ place → length field ≡ size → take size (drop place (front ++ (field ++ rest))) ≡ field
part size place front field rest at len =
    ap (take size) (drop_at front (field ++ rest) place at) ∙ take_at field rest size len

pub header_represents : (kind unit level count used : ℕ) (b : Bounds) (rest : List ℕ) → count < 256 ^ 2 → used < 256 ^ 2 → b.low < 256 ^ 40 → b.start < 256 ^ 16
    → HasHeaderOf kind unit level count used b (header kind unit level count used b ++ rest)
unfolding header
header_represents kind unit level count used b rest count_lt used_lt low_lt start_lt =
    let f0 : List ℕ = kind ∷ unit ∷ level ∷ 0 ∷ [] in
    let f1 : List ℕ = octets_of 2 count in
    let f2 : List ℕ = octets_of 2 used in
    let f3 : List ℕ = octets_of 40 b.low in
    let f4 : List ℕ = bound_octets 40 b.high in
    let f5 : List ℕ = octets_of 16 b.start in
    let f6 : List ℕ = bound_octets 16 b.end in
    let s1 : length f1 ≡ 2 = octets_of-size 2 count in
    let s2 : length f2 ≡ 2 = octets_of-size 2 used in
    let s3 : length f3 ≡ 40 = octets_of-size 40 b.low in
    let s4 : length f4 ≡ 40 = bound_octets-size 40 b.high in
    let s5 : length f5 ≡ 16 = octets_of-size 16 b.start in
    let s6 : length f6 ≡ 16 = bound_octets-size 16 b.end in
    let all : List ℕ = ((((((f0 ++ f1) ++ f2) ++ f3) ++ f4) ++ f5) ++ f6) ++ rest in
    let e6 : all ≡ (((((f0 ++ f1) ++ f2) ++ f3) ++ f4) ++ f5) ++ (f6 ++ rest) = append_assoc (((((f0 ++ f1) ++ f2) ++ f3) ++ f4) ++ f5) f6 rest in
    let e5 : all ≡ ((((f0 ++ f1) ++ f2) ++ f3) ++ f4) ++ (f5 ++ (f6 ++ rest)) = e6 ∙ append_assoc ((((f0 ++ f1) ++ f2) ++ f3) ++ f4) f5 (f6 ++ rest) in
    let e4 : all ≡ (((f0 ++ f1) ++ f2) ++ f3) ++ (f4 ++ (f5 ++ (f6 ++ rest))) = e5 ∙ append_assoc (((f0 ++ f1) ++ f2) ++ f3) f4 (f5 ++ (f6 ++ rest)) in
    let e3 : all ≡ ((f0 ++ f1) ++ f2) ++ (f3 ++ (f4 ++ (f5 ++ (f6 ++ rest)))) = e4 ∙ append_assoc ((f0 ++ f1) ++ f2) f3 (f4 ++ (f5 ++ (f6 ++ rest))) in
    let e2 : all ≡ (f0 ++ f1) ++ (f2 ++ (f3 ++ (f4 ++ (f5 ++ (f6 ++ rest))))) = e3 ∙ append_assoc (f0 ++ f1) f2 (f3 ++ (f4 ++ (f5 ++ (f6 ++ rest)))) in
    let e1 : all ≡ f0 ++ (f1 ++ (f2 ++ (f3 ++ (f4 ++ (f5 ++ (f6 ++ rest)))))) = e2 ∙ append_assoc f0 f1 (f2 ++ (f3 ++ (f4 ++ (f5 ++ (f6 ++ rest))))) in
    let z1 : length f0 ≡ 4 = refl in
    let z2 : length (f0 ++ f1) ≡ 6 = omega (arith, length-append f0 f1) in
    let z3 : length ((f0 ++ f1) ++ f2) ≡ 8 = omega (arith, length-append (f0 ++ f1) f2) in
    let z4 : length (((f0 ++ f1) ++ f2) ++ f3) ≡ 48 = omega (arith, length-append ((f0 ++ f1) ++ f2) f3) in
    let z5 : length ((((f0 ++ f1) ++ f2) ++ f3) ++ f4) ≡ 88 = omega (arith, length-append (((f0 ++ f1) ++ f2) ++ f3) f4) in
    let z6 : length (((((f0 ++ f1) ++ f2) ++ f3) ++ f4) ++ f5) ≡ 104 = omega (arith, length-append ((((f0 ++ f1) ++ f2) ++ f3) ++ f4) f5) in
    record {
      kind_is = refl;
      unit_is = refl;
      level_is = refl;
      zero_is = refl;
      count_is = ap (number_in 2 4) e1 ∙ field_in 2 4 f0 f1 (f2 ++ (f3 ++ (f4 ++ (f5 ++ (f6 ++ rest))))) z1 s1 ∙ octets_of-number 2 count count_lt;
      used_is = ap (number_in 2 6) e2 ∙ field_in 2 6 (f0 ++ f1) f2 (f3 ++ (f4 ++ (f5 ++ (f6 ++ rest)))) z2 s2 ∙ octets_of-number 2 used used_lt;
      low_is = ap (number_in 40 8) e3 ∙ field_in 40 8 ((f0 ++ f1) ++ f2) f3 (f4 ++ (f5 ++ (f6 ++ rest))) z3 s3 ∙ octets_of-number 40 b.low low_lt;
      high_is = ap (λ (t : List ℕ). take 40 (drop 48 t)) e4 ∙ part 40 48 (((f0 ++ f1) ++ f2) ++ f3) f4 (f5 ++ (f6 ++ rest)) z4 s4;
      start_is = ap (number_in 16 88) e5 ∙ field_in 16 88 ((((f0 ++ f1) ++ f2) ++ f3) ++ f4) f5 (f6 ++ rest) z5 s5 ∙ octets_of-number 16 b.start start_lt;
      end_is = ap (λ (t : List ℕ). take 16 (drop 104 t)) e6 ∙ part 16 104 (((((f0 ++ f1) ++ f2) ++ f3) ++ f4) ++ f5) f6 rest z6 s6;
    }

-- the octets of a node after its header
pub body-size : (unit kind level count : ℕ) (b : Bounds) (es : List ℕ) → length es ≤ 16232 → length (body unit kind level count b es) ≡ 16352
unfolding body
body-size unit kind level count b es fits =
    let h : List ℕ = header kind unit level count (length es) b in
    let size = header-size kind unit level count (length es) b in
    let pad : List ℕ = replicate (16232 - length es) 0 in
    let e3 : length pad ≡ 16232 - length es = length-replicate (16232 - length es) 0 in
    omega (arith, size, e3, length-append h es, length-append (h ++ es) pad)

pub body_area : (unit kind level count : ℕ) (b : Bounds) (es last : List ℕ) → length es ≤ 16232 → area (body unit kind level count b es ++ last) ≡ es ++ replicate (16232 - length es) 0
unfolding body
body_area unit kind level count b es last fits =
    let whole : List ℕ = body unit kind level count b es in
    let first : take 16352 (whole ++ last) ≡ whole = take_at whole last 16352 (body-size unit kind level count b es fits) in
    let h : List ℕ = header kind unit level count (length es) b in
    let pad : List ℕ = replicate (16232 - length es) 0 in
    ap (drop 120) (first ∙ append_assoc h es pad) ∙ drop_at h (es ++ pad) 120 (header-size kind unit level count (length es) b)

pub body_represents : (unit kind level count : ℕ) (b : Bounds) (es last : List ℕ) → count < 256 ^ 2 → length es ≤ 16232 → b.low < 256 ^ 40 → b.start < 256 ^ 16
    → HasHeaderOf kind unit level count (length es) b (body unit kind level count b es ++ last)
unfolding body
body_represents unit kind level count b es last few fits low start =
    let h : List ℕ = header kind unit level count (length es) b in
    let pad : List ℕ = replicate (16232 - length es) 0 in
    let e : ((h ++ es) ++ pad) ++ last ≡ h ++ (es ++ (pad ++ last)) = append_assoc (h ++ es) pad last ∙ append_assoc h es (pad ++ last) in
    subst (HasHeaderOf kind unit level count (length es) b) (sym e)
    (header_represents kind unit level count (length es) b (es ++ (pad ++ last)) few (omega arith) low start)

-- ---- leaves

pub entries-count : (vs : List Version) → 59 * length vs ≤ length (entries vs)
unfolding entries
entries-count [] = omega arith
entries-count (v ∷ vs) = omega (arith, entries-count vs, entry-size v, length-append (entry v) (entries vs))

pub few_versions : (leaf : LeafNode) → IsLeaf leaf → length leaf.versions < 256 ^ 2
few_versions leaf valid = omega (arith, entries-count leaf.versions, valid.fits)

abbrev pub pad_of : LeafNode → List ℕ
pad_of leaf = replicate (16232 - length (entries leaf.versions)) 0

pub leaf_represents : (leaf : LeafNode) (octets : List ℕ) → (is : BeginsAsWrittenLeaf leaf octets) → HasHeaderOf 1 is.unit 0 (length leaf.versions) (length (entries leaf.versions)) leaf.bounds octets
leaf_represents leaf octets is =
    subst (HasHeaderOf 1 is.unit 0 (length leaf.versions) (length (entries leaf.versions)) leaf.bounds) (sym is.encoded)
    (body_represents is.unit 1 0 (length leaf.versions) leaf.bounds (entries leaf.versions) is.last (few_versions leaf is.valid) is.valid.fits is.valid.bounds.low is.valid.bounds.start)

pub leaf_area : (leaf : LeafNode) (octets : List ℕ) → BeginsAsWrittenLeaf leaf octets → area octets ≡ entries leaf.versions ++ pad_of leaf
leaf_area leaf octets is = ap area is.encoded ∙ body_area is.unit 1 0 (length leaf.versions) leaf.bounds (entries leaf.versions) is.last is.valid.fits

-- a leaf has the versions that its octets represent
pub leaf_versions : (leaf : LeafNode) (octets : List ℕ) → BeginsAsWrittenLeaf leaf octets → versions_in (number_in 2 4 octets) (area octets) ≡ leaf.versions
leaf_versions leaf octets is =
    let represents_node = leaf_represents leaf octets is in
    ap (λ (n : ℕ). versions_in n (area octets)) represents_node.count_is ∙ ap (versions_in (length leaf.versions)) (leaf_area leaf octets is)
    ∙ entries_read leaf.bounds leaf.versions (pad_of leaf) is.valid.each

abbrev pub begins_page : (leaf : LeafNode) (octets : List ℕ) → IsWrittenLeafPage leaf octets → BeginsAsWrittenLeaf leaf octets
begins_page leaf octets page = record { unit = page.unit; valid = page.valid; last = replicate 32 0; encoded = page.page.encoded }

abbrev pub begins_block : (leaf : LeafNode) (octets : List ℕ) → IsWrittenLeafBlock leaf octets → BeginsAsWrittenLeaf leaf octets
begins_block leaf octets block = record { unit = block.unit; valid = block.valid; last = sha256 (leaf_body block.unit leaf); encoded = block.block.encoded }
