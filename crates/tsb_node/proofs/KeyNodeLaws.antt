-- The children of a key node, and which of them a key lies under.
use Rattle.std.proofs.Common.{◌≡◌, ℕ, zero, suc, ◌+◌, ◌-◌, ◌*◌, ◌^◌, ◌<◌, ◌≤◌, ◌⊎◌, inl, inr, List, [], ◌∷◌, ◌++◌, length, take, drop, replicate, slice_get, Option, Some, None, refl, sym, ap, subst, ◌∙◌, append_assoc, arith}
use Rattle.std.specs.List.{flat_map, AllByRecursion}
use Rattle.std.specs.Option.{IfSome}
use Rattle.std.proofs.lemmas.List.{length-append, take_at, drop_at}
use Rattle.std.proofs.lemmas.Bool.{cases_order}
use Rattle.std.proofs.lemmas.Option.{same_Some}
use Rattle.route_model.specs.Keys.{number_of}
use Rattle.tsb_node.specs.Numbers.{octets_of, bound_octets}
use Rattle.tsb_node.specs.inner.Fields.{number_in}
use Rattle.version_model.specs.declared.bounds.Bounds.{Bounds}
use Rattle.version_model.specs.declared.child.Child.{Child}
use Rattle.tsb_node.specs.Columns.{BeginsAt}
use Rattle.tsb_node.specs.KeyNodes.{KeyNodeInPage, IsKeyNode, IsChildEntry, child_octets, lows_of}
use Rattle.tsb_node.specs.Children.{BeginsAsWrittenKeyNode, IsKeyWithin, IsUnder, high_of}
use Rattle.tsb_node.specs.inner.ChildReading.{child_in, children_in, IsChildBefore}
use Rattle.tsb_node.specs.inner.Reading.{area}
use Rattle.tsb_node.proofs.NumberLaws.{octets_of-size, octets_of-number, field_in, drop_twice}
use Rattle.tsb_node.proofs.HeaderLaws.{bound_one, first_some}
use Rattle.tsb_node.proofs.Leaves.{HasHeaderOf, body_represents, body_area}

pub child-size : (c : Child) → length (child_octets c) ≡ 48
unfolding child_octets
child-size c = omega (arith, octets_of-size 40 c.low, octets_of-size 8 c.page, length-append (octets_of 40 c.low) (octets_of 8 c.page))

pub child_read : (b : Bounds) (c : Child) (rest : List ℕ) → IsChildEntry b c → child_in (child_octets c ++ rest) ≡ c
unfolding child_in child_octets
child_read b c rest is =
    let k : List ℕ = octets_of 40 c.low in
    let p : List ℕ = octets_of 8 c.page in
    let e : (k ++ p) ++ rest ≡ k ++ (p ++ rest) = append_assoc k p rest in
    let low : number_in 40 0 ((k ++ p) ++ rest) ≡ c.low = ap (number_in 40 0) e ∙ ap number_of (take_at k (p ++ rest) 40 (octets_of-size 40 c.low)) ∙ octets_of-number 40 c.low is.low in
    let page : number_in 8 40 ((k ++ p) ++ rest) ≡ c.page = ap (number_in 8 40) e ∙ field_in 8 40 k p rest (octets_of-size 40 c.low) (octets_of-size 8 c.page) ∙ octets_of-number 8 c.page is.page in
    λ i. record { low = low i; page = page i }

pub children_read : (b : Bounds) (cs : List Child) (rest : List ℕ) → AllByRecursion (IsChildEntry b) cs → children_in (length cs) (flat_map child_octets cs ++ rest) ≡ cs
unfolding children_in
children_read b [] rest all = refl
children_read b (c ∷ cs) rest all =
    let e : flat_map child_octets (c ∷ cs) ++ rest ≡ child_octets c ++ (flat_map child_octets cs ++ rest) = append_assoc (child_octets c) (flat_map child_octets cs) rest in
    let beyond : drop 48 (child_octets c ++ (flat_map child_octets cs ++ rest)) ≡ flat_map child_octets cs ++ rest = drop_at (child_octets c) (flat_map child_octets cs ++ rest) 48 (child-size c) in
    let head = child_read b c (flat_map child_octets cs ++ rest) all.0 in
    let tail = children_read b cs rest all.1 in
    rw (e, head, beyond, tail) refl

pub child_at : (count i : ℕ) (bytes : List ℕ) → i < count → slice_get (children_in count bytes) i ≡ Some (child_in (drop (48 * i) bytes))
unfolding children_in
child_at zero i bytes lt = absurd (omega arith)
child_at (suc n) zero bytes lt = ap (λ (k : ℕ). Some (child_in (drop k bytes))) (let e : 0 ≡ 48 * 0 = omega arith in e)
child_at (suc n) (suc i) bytes lt =
    let e : 48 + 48 * i ≡ 48 * suc i = omega arith in
    child_at n i (drop 48 bytes) (omega arith) ∙ ap (λ (t : List ℕ). Some (child_in t)) (drop_twice 48 (48 * i) bytes) ∙ ap (λ (k : ℕ). Some (child_in (drop k bytes))) e

pub child_past : (count : ℕ) (bytes : List ℕ) → slice_get (children_in count bytes) count ≡ None
unfolding children_in
child_past zero bytes = refl
child_past (suc n) bytes = child_past n (drop 48 bytes)

-- ---- in a node

pub children-count : (cs : List Child) → length (flat_map child_octets cs) ≡ 48 * length cs
children-count [] = omega arith
children-count (c ∷ cs) = omega (arith, children-count cs, child-size c, length-append (child_octets c) (flat_map child_octets cs))

few : (node : KeyNodeInPage) → IsKeyNode node → length (flat_map child_octets node.children) ≤ 16232
few node valid = omega (arith, children-count node.children, valid.fits)

pub key_node_represents : (node : KeyNodeInPage) (octets : List ℕ) → (is : BeginsAsWrittenKeyNode node octets) → HasHeaderOf 3 is.unit node.level (length node.children) (length (flat_map child_octets node.children)) node.bounds octets
key_node_represents node octets is =
    subst (HasHeaderOf 3 is.unit node.level (length node.children) (length (flat_map child_octets node.children)) node.bounds) (sym is.encoded)
    (body_represents is.unit 3 node.level (length node.children) node.bounds (flat_map child_octets node.children) is.last (omega (arith, is.valid.fits)) (few node is.valid) is.valid.bounds.low is.valid.bounds.start)

pub children_are : (node : KeyNodeInPage) (octets : List ℕ) (count : ℕ) → BeginsAsWrittenKeyNode node octets → count ≡ number_in 2 4 octets → children_in count (area octets) ≡ node.children
children_are node octets count is e =
    let represents_node = key_node_represents node octets is in
    let here = ap area is.encoded ∙ body_area is.unit 3 node.level (length node.children) node.bounds (flat_map child_octets node.children) is.last (few node is.valid) in
    ap (λ (n : ℕ). children_in n (area octets)) (e ∙ represents_node.count_is) ∙ ap (children_in (length node.children)) here ∙ children_read node.bounds node.children (replicate (16232 - length (flat_map child_octets node.children)) 0) is.valid.each

-- a key node has a child, and at most 338
pub some_child : (node : KeyNodeInPage) (octets : List ℕ) (count : ℕ) → BeginsAsWrittenKeyNode node octets → count ≡ number_in 2 4 octets → (0 < count) × (count ≤ 338)
some_child node octets count is e =
    let represents_node = key_node_represents node octets is in
    (omega (arith, e, represents_node.count_is, first node.children node.bounds.low is.valid.first), omega (arith, e, represents_node.count_is, is.valid.fits))
  where
    first : (cs : List Child) (low : ℕ) → BeginsAt low (lows_of cs) → 0 < length cs
    first [] low b = absurd b
    first (c ∷ cs) low b = omega arith

-- a search among children by binary search: what is before `first` is passed, what is from `end` on lies above the key
pub record IsBetween (count key : ℕ) (bytes : List ℕ) (first end : ℕ) : Type 0 where
  pub some : first < end
  pub within : end ≤ count
  pub passed : (number_in 40 (48 * first) bytes ≤ key) ⊎ (first ≡ 0)
  pub above : end < count → key < number_in 40 (48 * end) bytes

decoded : (i : ℕ) (bytes : List ℕ) (low page : ℕ) → low ≡ number_in 40 (48 * i) bytes → page ≡ number_in 8 (48 * i + 40) bytes → child_in (drop (48 * i) bytes) ≡ record { low = low; page = page }
unfolding child_in
decoded i bytes low page l p =
    let q : number_in 8 40 (drop (48 * i) bytes) ≡ page = ap (λ (t : List ℕ). number_of (take 8 t)) (drop_twice (48 * i) 40 bytes) ∙ sym p in
    λ j. record { low = sym l j; page = q j }

lowest : (cs : List Child) (low : ℕ) (c : Child) → BeginsAt low (lows_of cs) → slice_get cs 0 ≡ Some c → c.low ≡ low
lowest [] low c b e = absurd b
lowest (d ∷ cs) low c b e = ap (λ (x : Child). x.low) (sym (same_Some d c e)) ∙ b

module _ (node : KeyNodeInPage) (octets : List ℕ) (count key place low page : ℕ) (is : BeginsAsWrittenKeyNode node octets) (within : IsKeyWithin node.bounds key) (counted : count ≡ number_in 2 4 octets)
    (before : IsChildBefore count (area octets) key place) (l : low ≡ number_in 40 (48 * place) (area octets)) (p : page ≡ number_in 8 (48 * place + 40) (area octets)) where
  same : children_in count (area octets) ≡ node.children
  same = children_are node octets count is counted

  here : slice_get node.children place ≡ Some (record { low = low; page = page })
  here = ap (λ (t : List Child). slice_get t place) (sym same) ∙ child_at count place (area octets) before.below ∙ ap Some (decoded place (area octets) low page l p)

  low_le : low ≤ key
  low_le = elim before.passed [
    | inl le ↦ omega (arith, le, l)
    | inr first ↦ omega (arith, within.low, lowest node.children node.bounds.low (record { low = low; page = page }) is.valid.first (ap (slice_get node.children) (sym first) ∙ here))
  ]

  pub under_next : (next : ℕ) → (place + 1 ≡ count → ⊥) → next ≡ number_in 40 (48 * place + 48) (area octets) → IsUnder node key (record { low = low; high = Some next; page = page })
  unfolding child_in
  under_next next never n =
      let lt : suc place < count = elim (cases_order (suc place) count) [
        | inl done ↦ absurd (never (omega (arith, done)))
        | inr other ↦ omega (arith, other, before.below)
      ] in
      let to : 48 * place + 48 ≡ 48 * suc place = omega arith in
      let n' : next ≡ number_in 40 (48 * suc place) (area octets) = n ∙ ap (λ (k : ℕ). number_in 40 k (area octets)) to in
      let beyond : slice_get node.children (suc place) ≡ Some (child_in (drop (48 * suc place) (area octets))) = ap (λ (t : List Child). slice_get t (suc place)) (sym same) ∙ child_at count (suc place) (area octets) lt in
      record { place = place; at = here; to_high = ap Some n' ∙ sym (ap (high_of node.bounds.high) beyond); low = low_le; high = omega (arith, n', before.next lt) }

  pub under_last : (high : Option ℕ) → place + 1 ≡ count → bound_octets 40 high ≡ take 40 (drop 48 octets) → IfSome high (λ n. n + 1 < 256 ^ 40) → IsUnder node key (record { low = low; high = high; page = page })
  under_last high done encoded apart =
      let to : suc place ≡ count = omega (arith, done) in
      let past : slice_get node.children (suc place) ≡ None = ap (slice_get node.children) to ∙ ap (λ (t : List Child). slice_get t count) (sym same) ∙ child_past count (area octets) in
      let top : high ≡ node.bounds.high =
      bound_one 40 high node.bounds.high apart (first_some (λ n. n + 1 < 256 ^ 40) (λ n. node.bounds.low < n) node.bounds.high is.valid.bounds.order.high) (encoded ∙ (key_node_represents node octets is).high_is) in
      record {
        place = place;
        at = here;
        to_high = top ∙ sym (ap (high_of node.bounds.high) past);
        low = low_le;
        high = subst (λ (o : Option ℕ). IfSome o (λ n. key < n)) (sym top) within.high;
      }
