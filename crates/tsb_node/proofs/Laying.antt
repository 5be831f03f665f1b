-- Octets that are laid over others.
use Rattle.std.proofs.Common.{◌≡◌, ℕ, zero, suc, ◌+◌, ◌-◌, ◌≤◌, ◌<◌, ◌^◌, List, [], ◌∷◌, ◌++◌, length, take, drop, replicate, Option, None, refl, sym, ap, ◌∙◌, append_assoc, arith}
use Rattle.std.specs.List.{flat_map, AllByRecursion}
use Rattle.std.proofs.lemmas.List.{append-nil, length-append, length-take, length-drop, length-replicate, take_at, drop_at}
use Rattle.std.proofs.lemmas.Grind.{flat_map-append}
use Rattle.tsb_node.specs.Numbers.{octets_of, bound_octets}
use Rattle.version_model.specs.Versions.{Version, IsAbove}
use Rattle.tsb_node.specs.Nodes.{header, body, unit_now, IsBounds}
use Rattle.version_model.specs.declared.bounds.Bounds.{Bounds}
use Rattle.tsb_node.specs.Leaves.{LeafNode, IsLeaf, IsWrittenLeafPage, entry, entries, tag, value_encoded, IsVersionOf}
use Rattle.tsb_node.specs.inner.Fresh.{IsFreshLeafPage}
use Rattle.tsb_node.specs.inner.Laying.{laid}
use Rattle.tsb_node.specs.Pushing.{with_version, version}
use Rattle.tsb_node.specs.Children.{IsKeyWithin}
use Rattle.route_model.specs.Octets.{AreOctets}
use Rattle.tsb_node.proofs.NumberLaws.{octets_of-size, drop_twice}
use Rattle.tsb_node.proofs.Entries.{entry-size}
use Rattle.tsb_node.proofs.Leaves.{header-size, bound_octets-size}
use Rattle.std.proofs.lemmas.Option.{none-some}
use Rattle.version_model.proofs.api.Pushed.{IsRising-push}

pub laid_is : (at : ℕ) (o old new : List ℕ) → new ≡ take at old ++ o ++ drop (at + length o) old → new ≡ laid at o old
unfolding laid
laid_is at o old new e = e

-- a field is replaced by another of its length
pub put_field : (at : ℕ) (front field rest new : List ℕ) → length front ≡ at → length field ≡ length new → laid at new (front ++ (field ++ rest)) ≡ front ++ (new ++ rest)
unfolding laid
put_field at front field rest new here len =
    let all : List ℕ = front ++ (field ++ rest) in
    let before : take at all ≡ front = take_at front (field ++ rest) at here in
    let beyond : drop (at + length new) all ≡ rest = sym (drop_twice at (length new) all) ∙ ap (drop (length new)) (drop_at front (field ++ rest) at here) ∙ drop_at field rest (length new) len in
    rw (before, beyond) (append_assoc front new rest)

-- two fields that are laid one after the other are one
pub put_two : (at : ℕ) (a b old : List ℕ) → at + length a ≤ length old → laid (at + length a) b (laid at a old) ≡ laid at (a ++ b) old
unfolding laid
put_two at a b old le =
    let front : List ℕ = take at old ++ a in
    let rest : List ℕ = drop (at + length a) old in
    let size : length front ≡ at + length a = omega (arith, length-append (take at old) a, length-take at old) in
    let before : take (at + length a) (front ++ rest) ≡ front = take_at front rest (at + length a) size in
    let sum : at + length a + length b ≡ at + length (a ++ b) = omega (arith, length-append a b) in
    let beyond : drop (at + length a + length b) (front ++ rest) ≡ drop (at + length (a ++ b)) old =
    sym (drop_twice (at + length a) (length b) (front ++ rest)) ∙ ap (drop (length b)) (drop_at front rest (at + length a) size) ∙ drop_twice (at + length a) (length b) old
    ∙ ap (λ (n : ℕ). drop n old) sum in
    rw (before, beyond) (ap (λ (t : List ℕ). t ++ drop (at + length (a ++ b)) old) (append_assoc (take at old) a b))

pub laid-size : (at : ℕ) (a old : List ℕ) → at + length a ≤ length old → length (laid at a old) ≡ length old
unfolding laid
laid-size at a old le = omega (arith, length-append (take at old ++ a) (drop (at + length a) old), length-append (take at old) a, length-take at old, length-drop (at + length a) old)

pub replicate_add : (a b y : ℕ) → replicate (a + b) y ≡ replicate a y ++ replicate b y
replicate_add zero b y = ap (λ (n : ℕ). replicate n y) (let e : zero + b ≡ b = omega arith in e)
replicate_add (suc a) b y =
    let e : suc a + b ≡ suc (a + b) = omega arith in
    ap (λ (n : ℕ). replicate n y) e ∙ ap (λ (t : List ℕ). y ∷ t) (replicate_add a b y)

-- ---- a version after the others of a leaf

regroup7 : (f0 f1 f2 f3 f4 f5 f6 r : List ℕ) → ((((((f0 ++ f1) ++ f2) ++ f3) ++ f4) ++ f5) ++ f6) ++ r ≡ f0 ++ (f1 ++ (f2 ++ ((((f3 ++ f4) ++ f5) ++ f6) ++ r)))
regroup7 f0 f1 f2 f3 f4 f5 f6 r = simp append_assoc

-- what follows the counts in a header
bounds_octets : Bounds → List ℕ
bounds_octets b = ((octets_of 40 b.low ++ bound_octets 40 b.high) ++ octets_of 16 b.start) ++ bound_octets 16 b.end

abbrev front4 : ℕ → ℕ → ℕ → List ℕ
front4 kind unit level = kind ∷ unit ∷ level ∷ 0 ∷ []

header_parts : (kind unit level count used : ℕ) (b : Bounds) (rest : List ℕ)
    → header kind unit level count used b ++ rest ≡ front4 kind unit level ++ (octets_of 2 count ++ (octets_of 2 used ++ (bounds_octets b ++ rest)))
unfolding header bounds_octets
header_parts kind unit level count used b rest =
    regroup7 (front4 kind unit level) (octets_of 2 count) (octets_of 2 used) (octets_of 40 b.low) (bound_octets 40 b.high) (octets_of 16 b.start) (bound_octets 16 b.end) rest

-- another count and another size
pub recounted : (kind unit level count used count' used' : ℕ) (b : Bounds) (rest : List ℕ)
    → laid 6 (octets_of 2 used') (laid 4 (octets_of 2 count') (header kind unit level count used b ++ rest)) ≡ header kind unit level count' used' b ++ rest
recounted kind unit level count used count' used' b rest =
    let f : List ℕ = front4 kind unit level in
    let c : List ℕ = octets_of 2 count in
    let c' : List ℕ = octets_of 2 count' in
    let u : List ℕ = octets_of 2 used in
    let u' : List ℕ = octets_of 2 used' in
    let r : List ℕ = bounds_octets b ++ rest in
    let csize : length c ≡ length c' = octets_of-size 2 count ∙ sym (octets_of-size 2 count') in
    let usize : length u ≡ length u' = octets_of-size 2 used ∙ sym (octets_of-size 2 used') in
    let one : laid 4 c' (header kind unit level count used b ++ rest) ≡ f ++ (c' ++ (u ++ r)) =
    ap (laid 4 c') (header_parts kind unit level count used b rest) ∙ put_field 4 f c (u ++ r) c' refl csize in
    let six : length (f ++ c') ≡ 6 = omega (arith, octets_of-size 2 count', length-append f c') in
    let two : laid 6 u' (f ++ (c' ++ (u ++ r))) ≡ (f ++ c') ++ (u' ++ r) = ap (laid 6 u') (sym (append_assoc f c' (u ++ r))) ∙ put_field 6 (f ++ c') u r u' six usize in
    ap (laid 6 u') one ∙ two ∙ append_assoc f c' (u' ++ r) ∙ sym (header_parts kind unit level count' used' b rest)

-- entries after the others of a body
body_pushed : (unit kind level count used : ℕ) (b : Bounds) (es new last : List ℕ) → used ≡ length es → length es + length new ≤ 16232
    → laid 6 (octets_of 2 (used + length new)) (laid 4 (octets_of 2 (count + 1)) (laid (120 + used) new (body unit kind level count b es ++ last))) ≡ body unit kind level (count + 1) b (es ++ new) ++ last
unfolding body
body_pushed unit kind level count used b es new last same fits =
    let h : List ℕ = header kind unit level count (length es) b in
    let room : ℕ = 16232 - length es in
    let left : ℕ = 16232 - length (es ++ new) in
    let both : length (es ++ new) ≡ length es + length new = length-append es new in
    let sum : room ≡ length new + left = omega (arith, both) in
    let size : length (h ++ es) ≡ 120 + used = omega (arith, length-append h es, header-size kind unit level count (length es) b, same) in
    let zeros_part : replicate room 0 ≡ replicate (length new) 0 ++ replicate left 0 = ap (λ (n : ℕ). replicate n 0) sum ∙ replicate_add (length new) left 0 in
    let old : ((h ++ es) ++ replicate room 0) ++ last ≡ (h ++ es) ++ (replicate (length new) 0 ++ (replicate left 0 ++ last)) =
    append_assoc (h ++ es) (replicate room 0) last ∙ ap (λ (t : List ℕ). (h ++ es) ++ (t ++ last)) zeros_part
    ∙ ap (λ (t : List ℕ). (h ++ es) ++ t) (append_assoc (replicate (length new) 0) (replicate left 0) last) in
    let one : laid (120 + used) new (((h ++ es) ++ replicate room 0) ++ last) ≡ h ++ (es ++ (new ++ (replicate left 0 ++ last))) =
    ap (laid (120 + used) new) old ∙ put_field (120 + used) (h ++ es) (replicate (length new) 0) (replicate left 0 ++ last) new size (length-replicate (length new) 0)
    ∙ append_assoc h es (new ++ (replicate left 0 ++ last)) in
    let used' : ℕ = length (es ++ new) in
    let sizes : used + length new ≡ used' = omega (arith, both, same) in
    let h' : List ℕ = header kind unit level (count + 1) used' b in
    let end : h' ++ (es ++ (new ++ (replicate left 0 ++ last))) ≡ ((h' ++ (es ++ new)) ++ replicate left 0) ++ last = regroup5 h' es new (replicate left 0) last in
    ap (λ (t : List ℕ). laid 6 (octets_of 2 (used + length new)) (laid 4 (octets_of 2 (count + 1)) t)) one
    ∙ ap (λ (n : ℕ). laid 6 (octets_of 2 n) (laid 4 (octets_of 2 (count + 1)) (h ++ (es ++ (new ++ (replicate left 0 ++ last)))))) sizes
    ∙ recounted kind unit level count (length es) (count + 1) used' b (es ++ (new ++ (replicate left 0 ++ last)))
    ∙ end
  where
    regroup5 : (h e n r l : List ℕ) → h ++ (e ++ (n ++ (r ++ l))) ≡ ((h ++ (e ++ n)) ++ r) ++ l
    regroup5 h e n r l = sym (append_assoc (h ++ (e ++ n)) r l ∙ append_assoc h (e ++ n) (r ++ l) ∙ ap (λ (t : List ℕ). h ++ t) (append_assoc e n (r ++ l)))

pub entries-push : (vs : List Version) (v : Version) → entries (vs ++ v ∷ []) ≡ entries vs ++ entry v
unfolding entries
entries-push vs v = flat_map-append entry vs (v ∷ []) ∙ ap (λ (t : List ℕ). flat_map entry vs ++ t) (append-nil (entry v))

pub all_push : {X : Type 0} (P : X → Type 0) (xs : List X) (x : X) → AllByRecursion P xs → P x → AllByRecursion P (xs ++ x ∷ [])
all_push P [] x all p = (p, tt)
all_push P (y ∷ xs) x all p = (all.0, all_push P xs x all.1 p)

length-push : {X : Type 0} (xs : List X) (x : X) → length (xs ++ x ∷ []) ≡ length xs + 1
length-push xs x = length-append xs (x ∷ [])

pub leaf_pushed : (leaf : LeafNode) (v : Version) → IsLeaf leaf → IsVersionOf leaf.bounds v → IsAbove leaf.versions v.stamp → length (entries leaf.versions) + length (entry v) ≤ 16232 → IsLeaf (with_version leaf v)
leaf_pushed leaf v valid is above fits = record {
  bounds = valid.bounds;
  each = all_push (IsVersionOf leaf.bounds) leaf.versions v valid.each is;
  rising = IsRising-push leaf.versions v valid.rising above;
  fits = omega (arith, ap length (entries-push leaf.versions v), length-append (entries leaf.versions) (entry v));
}

pub page_pushed : (leaf : LeafNode) (v : Version) (octets : List ℕ) (count used : ℕ) → (page : IsWrittenLeafPage leaf octets) → page.unit ≡ unit_now → IsVersionOf leaf.bounds v → IsAbove leaf.versions v.stamp
    → count ≡ length leaf.versions → used ≡ length (entries leaf.versions) → used + length (entry v) ≤ 16232
    → IsFreshLeafPage (with_version leaf v) (laid 6 (octets_of 2 (used + length (entry v))) (laid 4 (octets_of 2 (count + 1)) (laid (120 + used) (entry v) octets)))
page_pushed leaf v octets count used page now is above counted sized fits =
    let es : List ℕ = entries leaf.versions in
    let more : count + 1 ≡ length (leaf.versions ++ v ∷ []) = omega (arith, counted, length-push leaf.versions v) in
    let whole : octets ≡ body page.unit 1 0 count leaf.bounds es ++ replicate 32 0 = page.page.encoded ∙ ap (λ (n : ℕ). body page.unit 1 0 n leaf.bounds es ++ replicate 32 0) (sym counted) in
    record {
      page = record {
        unit = page.unit;
        valid = leaf_pushed leaf v page.valid is above (omega arith);
        page = record {
          current = page.page.current;
          encoded = ap (λ (t : List ℕ). laid 6 (octets_of 2 (used + length (entry v))) (laid 4 (octets_of 2 (count + 1)) (laid (120 + used) (entry v) t))) whole
              ∙ body_pushed page.unit 1 0 count used leaf.bounds es (entry v) (replicate 32 0) sized (omega arith)
              ∙ ap (λ (n : ℕ). body page.unit 1 0 n leaf.bounds (es ++ entry v) ++ replicate 32 0) more
              ∙ ap (λ (t : List ℕ). body page.unit 1 0 (length (leaf.versions ++ v ∷ [])) leaf.bounds t ++ replicate 32 0) (sym (entries-push leaf.versions v));
        };
      };
      now = now;
    }

put_next : (at place : ℕ) (a b old : List ℕ) → place ≡ at + length a → place ≤ length old → laid place b (laid at a old) ≡ laid at (a ++ b) old
put_next at place a b old e le = ap (λ (n : ℕ). laid n b (laid at a old)) e ∙ put_two at a b old (omega (arith, e))

-- an entry that is laid field by field
pub entry_laid : (at : ℕ) (v : Version) (old : List ℕ) → at + 59 ≤ length old
    → laid (at + 59) (value_encoded v.value) (laid (at + 57) (octets_of 2 (length (value_encoded v.value))) (laid (at + 56) (tag v.value ∷ []) (laid (at + 40) (octets_of 16 v.stamp) (laid at (octets_of 40 v.key) old))))
    ≡ laid at (entry v) old
unfolding entry
entry_laid at v old le =
    let k : List ℕ = octets_of 40 v.key in
    let s : List ℕ = octets_of 16 v.stamp in
    let t : List ℕ = tag v.value ∷ [] in
    let n : List ℕ = octets_of 2 (length (value_encoded v.value)) in
    let o : List ℕ = value_encoded v.value in
    let ksize : length k ≡ 40 = octets_of-size 40 v.key in
    let size2 : length (k ++ s) ≡ 56 = omega (arith, ksize, octets_of-size 16 v.stamp, length-append k s) in
    let size3 : length ((k ++ s) ++ t) ≡ 57 = omega (arith, size2, length-append (k ++ s) t) in
    let size4 : length (((k ++ s) ++ t) ++ n) ≡ 59 = omega (arith, size3, octets_of-size 2 (length o), length-append ((k ++ s) ++ t) n) in
    ap (λ (l : List ℕ). laid (at + 59) o (laid (at + 57) n (laid (at + 56) t l))) (put_next at (at + 40) k s old (omega (arith, ksize)) (omega arith))
    ∙ ap (λ (l : List ℕ). laid (at + 59) o (laid (at + 57) n l)) (put_next at (at + 56) (k ++ s) t old (omega (arith, size2)) (omega arith))
    ∙ ap (laid (at + 59) o) (put_next at (at + 57) ((k ++ s) ++ t) n old (omega (arith, size3)) (omega arith))
    ∙ put_next at (at + 59) (((k ++ s) ++ t) ++ n) o old (omega (arith, size4)) (omega arith)

-- a header that is laid field by field
pub header_laid : (unit kind level count used : ℕ) (b : Bounds) (old : List ℕ) → 120 ≤ length old
    → laid 104 (bound_octets 16 b.end) (laid 88 (octets_of 16 b.start) (laid 48 (bound_octets 40 b.high) (laid 8 (octets_of 40 b.low) (laid 6 (octets_of 2 used) (laid 4 (octets_of 2 count) (laid 0 (front4 kind unit level) old))))))
    ≡ laid 0 (header kind unit level count used b) old
unfolding header
header_laid unit kind level count used b old le =
    let f0 : List ℕ = front4 kind unit level in
    let f1 : List ℕ = octets_of 2 count in
    let f2 : List ℕ = octets_of 2 used in
    let f3 : List ℕ = octets_of 40 b.low in
    let f4 : List ℕ = bound_octets 40 b.high in
    let f5 : List ℕ = octets_of 16 b.start in
    let f6 : List ℕ = bound_octets 16 b.end in
    let z1 : length f0 ≡ 4 = refl in
    let z2 : length (f0 ++ f1) ≡ 6 = omega (arith, length-append f0 f1, octets_of-size 2 count) in
    let z3 : length ((f0 ++ f1) ++ f2) ≡ 8 = omega (arith, z2, length-append (f0 ++ f1) f2, octets_of-size 2 used) in
    let z4 : length (((f0 ++ f1) ++ f2) ++ f3) ≡ 48 = omega (arith, z3, length-append ((f0 ++ f1) ++ f2) f3, octets_of-size 40 b.low) in
    let z5 : length ((((f0 ++ f1) ++ f2) ++ f3) ++ f4) ≡ 88 = omega (arith, z4, length-append (((f0 ++ f1) ++ f2) ++ f3) f4, bound_octets-size 40 b.high) in
    let z6 : length (((((f0 ++ f1) ++ f2) ++ f3) ++ f4) ++ f5) ≡ 104 = omega (arith, z5, length-append ((((f0 ++ f1) ++ f2) ++ f3) ++ f4) f5, octets_of-size 16 b.start) in
    ap (λ (l : List ℕ). laid 104 f6 (laid 88 f5 (laid 48 f4 (laid 8 f3 (laid 6 f2 l))))) (put_next 0 4 f0 f1 old (omega (arith, z1)) (omega arith))
    ∙ ap (λ (l : List ℕ). laid 104 f6 (laid 88 f5 (laid 48 f4 (laid 8 f3 l)))) (put_next 0 6 (f0 ++ f1) f2 old (omega (arith, z2)) (omega arith))
    ∙ ap (λ (l : List ℕ). laid 104 f6 (laid 88 f5 (laid 48 f4 l))) (put_next 0 8 ((f0 ++ f1) ++ f2) f3 old (omega (arith, z3)) (omega arith))
    ∙ ap (λ (l : List ℕ). laid 104 f6 (laid 88 f5 l)) (put_next 0 48 (((f0 ++ f1) ++ f2) ++ f3) f4 old (omega (arith, z4)) (omega arith))
    ∙ ap (λ (l : List ℕ). laid 104 f6 l) (put_next 0 88 ((((f0 ++ f1) ++ f2) ++ f3) ++ f4) f5 old (omega (arith, z5)) (omega arith))
    ∙ put_next 0 104 (((((f0 ++ f1) ++ f2) ++ f3) ++ f4) ++ f5) f6 old (omega (arith, z6)) (omega arith)

-- a header that is laid on zeros is a node without entries
pub laid_on_zeros : (unit kind level : ℕ) (b : Bounds) → laid 0 (header kind unit level 0 0 b) (replicate 16384 0) ≡ body unit kind level 0 b [] ++ replicate 32 0
unfolding body
laid_on_zeros unit kind level b =
    let h : List ℕ = header kind unit level 0 0 b in
    let size : length h ≡ 120 = header-size kind unit level 0 0 b in
    let zeros_part : replicate 16384 0 ≡ replicate 120 0 ++ replicate 16264 0 = replicate_add 120 16264 0 in
    let rest : replicate 16264 0 ≡ replicate 16232 0 ++ replicate 32 0 = replicate_add 16232 32 0 in
    ap (laid 0 h) zeros_part ∙ put_field 0 [] (replicate 120 0) (replicate 16264 0) h refl (length-replicate {A = ℕ} 120 0 ∙ sym size)
    ∙ ap (λ (t : List ℕ). h ++ t) rest ∙ sym (append_assoc h (replicate 16232 0) (replicate 32 0)) ∙ ap (λ (t : List ℕ). (t ++ replicate 16232 0) ++ replicate 32 0) (sym (append-nil h))

pub leaf_started : (b : Bounds) (octets : List ℕ) → IsBounds b → b.end ≡ None → octets ≡ laid 0 (header 1 unit_now 0 0 0 b) (replicate 16384 0)
    → IsFreshLeafPage (record { bounds = b; versions = [] }) octets
unfolding entries
leaf_started b octets valid current is = record {
  page = record {
    unit = unit_now;
    valid = record {
      bounds = valid;
      each = tt;
      rising = record { rises = λ i j v w lt at_i at_j. absurd (none-some v at_i) };
      fits = omega arith;
    };
    page = record { current = current; encoded = is ∙ laid_on_zeros unit_now 1 0 b };
  };
  now = refl;
}

regroup_entry : (f k s t n o r : List ℕ) → (f ++ ((((k ++ s) ++ t) ++ n) ++ o)) ++ r ≡ (f ++ k) ++ (s ++ (t ++ (n ++ (o ++ r))))
regroup_entry f k s t n o r = simp append_assoc

-- another stamp in an entry that was laid
pub entry_restamped : (at : ℕ) (v : Version) (s : ℕ) (old : List ℕ) → at + length (entry v) ≤ length old → laid (at + 40) (octets_of 16 s) (laid at (entry v) old) ≡ laid at (entry (version v.key s v.value)) old
unfolding laid entry
entry_restamped at v s old le =
    let w : Version = version v.key s v.value in
    let f : List ℕ = take at old in
    let k : List ℕ = octets_of 40 v.key in
    let a : List ℕ = octets_of 16 v.stamp in
    let b : List ℕ = octets_of 16 s in
    let t : List ℕ = tag v.value ∷ [] in
    let n : List ℕ = octets_of 2 (length (value_encoded v.value)) in
    let o : List ℕ = value_encoded v.value in
    let r : List ℕ = drop (at + length (entry v)) old in
    let same : length (entry w) ≡ length (entry v) = entry-size w ∙ sym (entry-size v) in
    let here : length (f ++ k) ≡ at + 40 = omega (arith, length-append f k, length-take at old, octets_of-size 40 v.key, le) in
    let wide : length a ≡ length b = octets_of-size 16 v.stamp ∙ sym (octets_of-size 16 s) in
    ap (laid (at + 40) b) (regroup_entry f k a t n o r) ∙ put_field (at + 40) (f ++ k) a (t ++ (n ++ (o ++ r))) b here wide ∙ sym (regroup_entry f k b t n o r)
    ∙ ap (λ (m : ℕ). (f ++ entry w) ++ drop (at + m) old) (sym same)

-- all octets are replaced
pub laid_all : (o old : List ℕ) → length old ≡ length o → laid 0 o old ≡ o
unfolding laid
laid_all o old same = ap (λ (t : List ℕ). o ++ t) (drop_over (0 + length o) old (omega (arith, same))) ∙ append-nil o
  where
    drop_over : (n : ℕ) (xs : List ℕ) → length xs ≤ n → drop n xs ≡ []
    drop_over zero [] le = refl
    drop_over zero (x ∷ xs) le = absurd (omega (arith, le))
    drop_over (suc n) [] le = refl
    drop_over (suc n) (x ∷ xs) le = drop_over n xs (omega (arith, le))

-- a version of a key within the bounds, each part of which is as wide as its type
pub version_valid : (b : Bounds) (key stamp : ℕ) (value : Option (List ℕ)) → IsKeyWithin b key → key < 256 ^ 40 → stamp < 256 ^ 16 → length (value_encoded value) ≤ 3072 → AreOctets (value_encoded value) → IsVersionOf b (version key stamp value)
version_valid b key stamp value within fits in_time short each = record { short = record { low = within.low; high = within.high; size = short }; key = fits; stamp = in_time; octets = each }
