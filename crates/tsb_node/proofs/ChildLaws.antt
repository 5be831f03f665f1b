-- A key node is read from the header and the entries of a node exactly where these are one.
use Rattle.std.proofs.Common.{◌≡◌, ℕ, ◌<◌, ◌≤◌, List, [], ◌∷◌, ◌++◌, length, drop, replicate, refl, sym, ap, subst, ◌∙◌, arith}
use Rattle.std.specs.List.{flat_map}
use Rattle.std.specs.Option.{IfSome}
use Rattle.std.proofs.lemmas.List.{length-append, take-append-drop}
use Rattle.route_model.specs.Octets.{AreOctets}
use Rattle.version_model.specs.declared.bounds.Bounds.{Bounds}
use Rattle.version_model.specs.declared.child.Child.{Child}
use Rattle.tsb_node.specs.declared.header.Header.{Header}
use Rattle.tsb_node.specs.Nodes.{body}
use Rattle.tsb_node.specs.Columns.{BeginsAt}
use Rattle.tsb_node.specs.KeyNodes.{KeyNodeInPage, IsKeyNode, IsWrittenKeyNodePage, IsChildEntry, lows_of, child_octets}
use Rattle.tsb_node.specs.inner.Fields.{number_in}
use Rattle.tsb_node.specs.inner.Rows.{IsEncoding, IsFront, StartsAt}
use Rattle.tsb_node.specs.inner.ChildReading.{child_in, AreChildrenOf, IsKeyNodeOf}
use Rattle.tsb_node.specs.inner.NodeReading.{IsNode, node_body, BeginsAsNode, IsNodePage}
use Rattle.tsb_node.proofs.HeaderLaws.{again_in, number_in-lt, take_on}
use Rattle.tsb_node.proofs.KeyNodeLaws.{child-size, child_read, children-count}
use Rattle.tsb_node.proofs.NodeLaws.{nodes_same, entries_same, page_begins}

child_apart : (b : Bounds) (c d : Child) (x y : List ℕ) → IsChildEntry b c → IsChildEntry b d → child_octets c ++ x ≡ child_octets d ++ y → c ≡ d
child_apart b c d x y is_c is_d e = sym (child_read b c x is_c) ∙ ap child_in e ∙ child_read b d y is_d

pub children_encoded : (b : Bounds) → IsEncoding child_octets (IsChildEntry b) 48
children_encoded b = record { some = omega arith; size_is = child-size; apart = child_apart b }

pub child_front-size : (b : Bounds) (bytes : List ℕ) (c : Child) → IsFront child_octets (IsChildEntry b) 48 bytes c → 48 ≤ length bytes
child_front-size b bytes c front = omega (arith, ap length front.encoded, length-append (child_octets c) (drop 48 bytes), child-size c)

-- the child that is read at the front
pub child_is : (b : Bounds) (low page : ℕ) (bytes : List ℕ) → AreOctets bytes → 48 ≤ length bytes → low ≡ number_in 40 0 bytes → page ≡ number_in 8 40 bytes → IfSome b.high (λ n. low < n)
    → IsFront child_octets (IsChildEntry b) 48 bytes (record { low = low; page = page })
unfolding child_octets
child_is b low page bytes are le l p high =
    let k = again_in 40 0 bytes are (omega (arith, le)) in
    let n = again_in 8 40 bytes are (omega (arith, le)) in
    record {
      valid_is = record { low = rw l (number_in-lt 40 0 bytes are (omega (arith, le))); high = high; page = rw p (number_in-lt 8 40 bytes are (omega (arith, le))) };
      encoded = sym (take-append-drop 48 bytes) ∙ ap (λ (t : List ℕ). t ++ drop 48 bytes) (take_on 40 8 bytes ∙ rw (l, p, k, n) refl);
    }

-- what is read at the front of a child
pub child_there : (b : Bounds) (low : ℕ) (bytes : List ℕ) (c : Child) → IsFront child_octets (IsChildEntry b) 48 bytes c → low ≡ number_in 40 0 bytes → low ≡ c.low
unfolding child_in
child_there b low bytes c front l = l ∙ ap (number_in 40 0) front.encoded ∙ ap (λ (x : Child). x.low) (child_read b c (drop 48 bytes) front.valid_is)

-- ---- in a page

begins : (low count : ℕ) (cs : List Child) → StartsAt low (lows_of cs) → length cs ≡ count → 0 < count → BeginsAt low (lows_of cs)
begins low count [] first e some = absurd (omega (arith, e, some))
begins low count (c ∷ cs) first e some = first

starts : (low : ℕ) (cs : List Child) → BeginsAt low (lows_of cs) → StartsAt low (lows_of cs)
starts low [] first = tt
starts low (c ∷ cs) first = first

pub key_node_from : (h : Header) (es : List ℕ) (cs : List Child) → IsNode h es → h.kind ≡ 3 → 2 ≤ h.level → h.level ≤ 7 → h.bounds.start ≡ 0 → 0 < h.count → AreChildrenOf h.bounds h.count es cs
    → IsKeyNodeOf h es (record { level = h.level; bounds = h.bounds; children = cs })
key_node_from h es cs node kind lowest highest from_first some are = record {
  kind = kind;
  level = refl;
  bounds = refl;
  count = sym are.counted;
  valid = record {
    lowest = lowest;
    highest = highest;
    bounds = node.bounds;
    from_first = from_first;
    each = are.each;
    first = begins h.bounds.low h.count cs are.from_first are.counted some;
    rising = are.rising;
    fits = omega (arith, node.fits, ap length are.encoded, children-count cs);
  };
  encoded = are.encoded;
}

pub key_node_children : (h : Header) (es : List ℕ) (k : KeyNodeInPage) → IsKeyNodeOf h es k → AreChildrenOf h.bounds h.count es k.children
key_node_children h es k of =
    let along : AreChildrenOf k.bounds h.count es k.children = record {
      each = of.valid.each;
      from_first = starts k.bounds.low k.children of.valid.first;
      rising = of.valid.rising;
      counted = sym of.count;
      encoded = of.encoded;
    } in
    subst (λ (b : Bounds). AreChildrenOf b h.count es k.children) of.bounds along

key_node_some : (h : Header) (es : List ℕ) (k : KeyNodeInPage) → IsKeyNodeOf h es k → 0 < h.count
key_node_some h es k of = has k.children of.valid.first of.count
  where
    has : (cs : List Child) → BeginsAt k.bounds.low (lows_of cs) → h.count ≡ length cs → 0 < h.count
    has [] first e = absurd first
    has (c ∷ cs) first e = omega (arith, e)

pub key_node_start : (h : Header) (es : List ℕ) (k : KeyNodeInPage) → IsKeyNodeOf h es k → h.bounds.start ≡ 0
key_node_start h es k of = ap (λ (b : Bounds). b.start) (sym of.bounds) ∙ of.valid.from_first

pub key_node_kind : (h : Header) (es : List ℕ) (k : KeyNodeInPage) → IsKeyNodeOf h es k → (h.kind ≡ 3) × (2 ≤ h.level) × (h.level ≤ 7) × (0 < h.count)
key_node_kind h es k of = (of.kind, omega (arith, of.level, of.valid.lowest), omega (arith, of.level, of.valid.highest), key_node_some h es k of)

abbrev pub key_node_header : ℕ → KeyNodeInPage → Header
key_node_header unit k = record { kind = 3; unit = unit; level = k.level; count = length k.children; used = length (flat_map child_octets k.children); bounds = k.bounds }

pub key_node_node : (unit : ℕ) (k : KeyNodeInPage) → IsKeyNode k → IsNode (key_node_header unit k) (flat_map child_octets k.children)
key_node_node unit k valid = record { bounds = valid.bounds; count = omega (arith, valid.fits); used = refl; fits = omega (arith, children-count k.children, valid.fits) }

pub body_of : (h : Header) (es : List ℕ) (k : KeyNodeInPage) → IsKeyNodeOf h es k → node_body h es ≡ node_body (key_node_header h.unit k) (flat_map child_octets k.children)
body_of h es k of =
    ap (λ (n : ℕ). body h.unit n h.level h.count h.bounds es) of.kind ∙ ap (λ (l : ℕ). body h.unit 3 l h.count h.bounds es) of.level ∙ ap (λ (n : ℕ). body h.unit 3 k.level n h.bounds es) of.count
    ∙ ap (λ (b : Bounds). body h.unit 3 k.level (length k.children) b es) (sym of.bounds) ∙ ap (body h.unit 3 k.level (length k.children) k.bounds) of.encoded

pub key_node_of_begun : (h : Header) (es octets : List ℕ) (k : KeyNodeInPage) (unit : ℕ) → BeginsAsNode h es octets → IsKeyNode k → BeginsAsNode (key_node_header unit k) (flat_map child_octets k.children) octets → IsKeyNodeOf h es k
key_node_of_begun h es octets k unit begun valid other =
    let same = nodes_same h (key_node_header unit k) es (flat_map child_octets k.children) octets begun other in
    record { kind = same.kind; level = same.level; bounds = sym same.bounds; count = same.count; valid = valid; encoded = entries_same h (key_node_header unit k) es (flat_map child_octets k.children) octets begun other }

abbrev pub key_node_made : (h : Header) (es page : List ℕ) (k : KeyNodeInPage) → IsNodePage h es page → IsKeyNodeOf h es k → IsWrittenKeyNodePage k page
key_node_made h es page k is of = record {
  unit = h.unit;
  valid = of.valid;
  page = record { current = ap (λ (b : Bounds). b.end) of.bounds ∙ is.page.current; encoded = is.page.encoded ∙ ap (λ (t : List ℕ). t ++ replicate 32 0) (body_of h es k of) };
}

pub key_node_page : (k : KeyNodeInPage) (page : List ℕ) → (is : IsWrittenKeyNodePage k page) → IsNodePage (key_node_header is.unit k) (flat_map child_octets k.children) page
key_node_page k page is = record { valid = key_node_node is.unit k is.valid; page = record { current = is.page.current; encoded = is.page.encoded } }

pub key_node_back : (h : Header) (es page : List ℕ) (k : KeyNodeInPage) → IsNodePage h es page → IsWrittenKeyNodePage k page → IsKeyNodeOf h es k
key_node_back h es page k is node =
    key_node_of_begun h es page k node.unit (page_begins h es page is) node.valid (page_begins (key_node_header node.unit k) (flat_map child_octets k.children) page (key_node_page k page node))
