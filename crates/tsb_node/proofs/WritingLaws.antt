-- Entries are written one after another on zeros.
use Rattle.std.proofs.Common.{◌≡◌, ℕ, zero, suc, ◌+◌, ◌-◌, ◌*◌, ◌^◌, ◌<◌, ◌≤◌, List, [], ◌∷◌, ◌++◌, length, take, replicate, slice_get, Some, None, refl, sym, ap, subst, ◌∙◌, append_assoc, arith}
use Rattle.std.specs.List.{flat_map, AllByRecursion}
use Rattle.std.specs.Option.{IfSome}
use Rattle.std.proofs.lemmas.List.{append-nil, length-append, length-replicate, take_all}
use Rattle.std.proofs.lemmas.Grind.{flat_map-append}
use Rattle.tsb_node.specs.Numbers.{octets_of}
use Rattle.version_model.specs.declared.bounds.Bounds.{Bounds}
use Rattle.version_model.specs.declared.child.Child.{Child}
use Rattle.tsb_node.specs.Nodes.{IsBounds, header, body, unit_now}
use Rattle.tsb_node.specs.KeyNodes.{KeyNodeInPage, IsKeyNode, CanBeKeyNode, IsKeyNodePage, IsChildEntry, child_octets}
use Rattle.tsb_node.specs.inner.Laying.{laid, IsFilling}
use Rattle.tsb_node.proofs.WrittenNow.{key_node_now}
use Rattle.tsb_node.proofs.Leaves.{header-size}
use Rattle.tsb_node.proofs.NumberLaws.{octets_of-size}
use Rattle.std.proofs.lemmas.List.{length-take}
use Rattle.std.proofs.lemmas.Option.{same_Some, none-some}
use Rattle.tsb_node.proofs.KeyNodeLaws.{child-size, children-count}
use Rattle.tsb_node.proofs.Laying.{put_field, put_two, replicate_add, all_push}

pub filling_start : (unit kind level count used : ℕ) (b : Bounds) (page : List ℕ) → page ≡ laid 0 (header kind unit level count used b) (replicate 16384 0) → IsFilling (header kind unit level count used b) [] page
filling_start unit kind level count used b page is =
    let h : List ℕ = header kind unit level count used b in
    let size : length h ≡ 120 = header-size kind unit level count used b in
    let split : replicate 16384 0 ≡ replicate 120 0 ++ replicate 16264 0 = replicate_add 120 16264 0 in
    record {
      size = size;
      encoded = is ∙ ap (laid 0 h) split ∙ put_field 0 [] (replicate 120 0) (replicate 16264 0) h refl (length-replicate {A = ℕ} 120 0 ∙ sym size) ∙ ap (λ (t : List ℕ). t ++ replicate 16264 0) (sym (append-nil h));
    }

pub filling_on : (h es new page : List ℕ) (at : ℕ) → IsFilling h es page → at ≡ 120 + length es → length es + length new ≤ 16264 → IsFilling h (es ++ new) (laid at new page)
filling_on h es new page at f here fits =
    let left : ℕ = 16264 - length (es ++ new) in
    let both = length-append es new in
    let sum : 16264 - length es ≡ length new + left = omega (arith, both) in
    let zeros_part : replicate (16264 - length es) 0 ≡ replicate (length new) 0 ++ replicate left 0 = ap (λ (n : ℕ). replicate n 0) sum ∙ replicate_add (length new) left 0 in
    let front : length (h ++ es) ≡ at = omega (arith, length-append h es, f.size, here) in
    record {
      size = f.size;
      encoded = ap (laid at new) (f.encoded ∙ ap (λ (t : List ℕ). (h ++ es) ++ t) zeros_part)
          ∙ put_field at (h ++ es) (replicate (length new) 0) (replicate left 0) new front (length-replicate {A = ℕ} (length new) 0)
          ∙ sym (append_assoc (h ++ es) new (replicate left 0)) ∙ ap (λ (t : List ℕ). t ++ replicate left 0) (append_assoc h es new);
    }

pub filled : (unit kind level count : ℕ) (b : Bounds) (es page : List ℕ) → IsFilling (header kind unit level count (length es) b) es page → length es ≤ 16232 → page ≡ body unit kind level count b es ++ replicate 32 0
unfolding body
filled unit kind level count b es page f fits =
    let h : List ℕ = header kind unit level count (length es) b in
    let n : ℕ = 16232 - length es in
    let sum : 16264 - length es ≡ n + 32 = omega arith in
    f.encoded ∙ ap (λ (t : List ℕ). (h ++ es) ++ t) (ap (λ (k : ℕ). replicate k 0) sum ∙ replicate_add n 32 0) ∙ sym (append_assoc (h ++ es) (replicate n 0) (replicate 32 0))

-- ---- key nodes

pub child_laid : (at : ℕ) (c : Child) (page : List ℕ) → at + 40 ≤ length page → laid (at + 40) (octets_of 8 c.page) (laid at (octets_of 40 c.low) page) ≡ laid at (child_octets c) page
unfolding child_octets
child_laid at c page le =
    let size : length (octets_of 40 c.low) ≡ 40 = octets_of-size 40 c.low in
    ap (λ (n : ℕ). laid n (octets_of 8 c.page) (laid at (octets_of 40 c.low) page)) (let e : at + 40 ≡ at + length (octets_of 40 c.low) = omega (arith, size) in e)
    ∙ put_two at (octets_of 40 c.low) (octets_of 8 c.page) page (omega (arith, size))

pub filling-size : (h es page : List ℕ) → IsFilling h es page → length es ≤ 16264 → length page ≡ 16384
filling-size h es page f le =
    let z : length (replicate {A = ℕ} (16264 - length es) 0) ≡ 16264 - length es = length-replicate {A = ℕ} (16264 - length es) 0 in
    ap length f.encoded ∙ omega (arith, f.size, z, length-append (h ++ es) (replicate (16264 - length es) 0), length-append h es)

-- a child is as wide as its type is
abbrev pub ChildFits : Child → Type 0
ChildFits c = (c.low < 256 ^ 40) × (c.page < 256 ^ 8)

-- the first n children have been written
pub record HasWritten (h : List ℕ) (cs : List Child) (n at : ℕ) (page : List ℕ) : Type 0 where
  pub at_is : at ≡ 120 + 48 * n
  pub each : AllByRecursion ChildFits (take n cs)
  pub filling : IsFilling h (flat_map child_octets (take n cs)) page

pub take_more : {X : Type 0} (cs : List X) (n : ℕ) (c : X) → slice_get cs n ≡ Some c → take (n + 1) cs ≡ take n cs ++ c ∷ []
take_more [] n c e = absurd (none-some c e)
take_more (d ∷ cs) zero c e = ap (λ x. x ∷ []) (same_Some d c e)
take_more (d ∷ cs) (suc n) c e = ap (λ (k : ℕ). take k (d ∷ cs)) (let z : suc n + 1 ≡ suc (n + 1) = omega arith in z) ∙ ap (λ t. d ∷ t) (take_more cs n c e)

pub written_start : (h : List ℕ) (cs : List Child) (page : List ℕ) → IsFilling h [] page → HasWritten h cs 0 120 page
written_start h cs page f = record { at_is = omega arith; each = tt; filling = f }

pub written_on : (h : List ℕ) (cs : List Child) (n at : ℕ) (c : Child) (page : List ℕ) → 48 * length cs ≤ 16232 → n < length cs → slice_get cs n ≡ Some c → ChildFits c → HasWritten h cs n at page
    → HasWritten h cs (n + 1) (at + 48) (laid (at + 40) (octets_of 8 c.page) (laid at (octets_of 40 c.low) page))
written_on h cs n at c page fits lt is entry w =
    let es : List ℕ = flat_map child_octets (take n cs) in
    let len : length es ≡ 48 * n = omega (arith, children-count (take n cs), length-take n cs) in
    let whole : length page ≡ 16384 = filling-size h es page w.filling (omega (arith, len)) in
    let more : flat_map child_octets (take (n + 1) cs) ≡ es ++ child_octets c =
    ap (flat_map child_octets) (take_more cs n c is) ∙ flat_map-append child_octets (take n cs) (c ∷ []) ∙ ap (λ (t : List ℕ). es ++ t) (append-nil (child_octets c)) in
    record {
      at_is = omega (arith, w.at_is);
      each = subst (AllByRecursion ChildFits) (sym (take_more cs n c is)) (all_push ChildFits (take n cs) c w.each entry);
      filling = rw (child_laid at c page (omega (arith, whole, w.at_is)), more)
          (filling_on h es (child_octets c) page at w.filling (omega (arith, len, w.at_is)) (omega (arith, len, child-size c)));
    }

children_fit : (b : Bounds) (cs : List Child) → AllByRecursion ChildFits cs → AllByRecursion (λ c. IfSome b.high (λ n. c.low < n)) cs → AllByRecursion (IsChildEntry b) cs
children_fit b [] each below = tt
children_fit b (c ∷ cs) each below = (record { low = each.0.0; high = below.0; page = each.0.1 }, children_fit b cs each.1 below.1)

pub written_end : (node : KeyNodeInPage) (count used at n : ℕ) (page : List ℕ) → CanBeKeyNode node → IsBounds node.bounds → count ≡ length node.children → used ≡ 48 * length node.children → n ≡ length node.children
    → HasWritten (header 3 unit_now node.level count used node.bounds) node.children n at page → node.bounds.end ≡ None → IsKeyNodePage node page
written_end node count used at n page can bounds counted sized done w current =
    let cs : List Child = node.children in
    let es : List ℕ = flat_map child_octets cs in
    let all : take n cs ≡ cs = take_all n cs (omega (arith, done)) in
    let valid : IsKeyNode node = record {
      lowest = can.lowest;
      highest = can.highest;
      bounds = bounds;
      from_first = can.from_first;
      each = children_fit node.bounds cs (subst (AllByRecursion ChildFits) all w.each) can.each;
      first = can.first;
      rising = can.rising;
      fits = can.fits;
    } in
    let size : used ≡ length es = sized ∙ sym (children-count cs) in
    let f : IsFilling (header 3 unit_now node.level (length cs) (length es) node.bounds) es page =
    subst (λ (t : List ℕ). IsFilling (header 3 unit_now node.level (length cs) (length es) node.bounds) t page) (ap (flat_map child_octets) all)
    (subst (λ (k : ℕ). IsFilling (header 3 unit_now node.level (length cs) k node.bounds) (flat_map child_octets (take n cs)) page) size
    (subst (λ (k : ℕ). IsFilling (header 3 unit_now node.level k used node.bounds) (flat_map child_octets (take n cs)) page) counted w.filling)) in
    key_node_now node page (record { unit = unit_now; valid = valid; page = record { current = current; encoded = filled unit_now 3 node.level (length cs) node.bounds es page f (omega (arith, children-count cs, valid.fits)) } }) refl
