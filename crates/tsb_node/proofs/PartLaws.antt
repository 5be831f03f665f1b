-- Parts and current leaves in octets: the octets that are read are the encoding of what they read as.
use Rattle.std.proofs.Common.{◌≡◌, ℕ, ◌+◌, ◌-◌, ◌≤◌, List, [], ◌∷◌, ◌++◌, length, take, drop, slice_index, Option, None, refl, sym, ap, subst, ◌∙◌, arith}
use Rattle.std.proofs.lemmas.List.{append-nil, length-append, length-drop, take-append-drop, take_at, drop_at}
use Rattle.route_model.specs.Octets.{AreOctets}
use Rattle.route_model.specs.Keys.{number_of}
use Rattle.version_model.specs.declared.part.Part.{Part}
use Rattle.version_model.specs.declared.part.PartKind.{PartKind}
use Rattle.version_model.specs.declared.part.PartKind.TheVariants.{LeafBlock, ColumnBlock}
use Rattle.tsb_node.specs.declared.column.Current.{Current}
use Rattle.tsb_node.specs.Columns.{IsPartEntry, part_kind, part_octets, current_octets, place_octets}
use Rattle.tsb_node.specs.inner.Fields.{number_in}
use Rattle.tsb_node.specs.inner.Rows.{IsEncoding, IsFront}
use Rattle.tsb_node.specs.inner.PartReading.{IsPartBefore, IsCurrentEntry}
use Rattle.tsb_node.proofs.NumberLaws.{drop_twice}
use Rattle.tsb_node.proofs.HeaderLaws.{again_in, number_in-lt, take_on, are-drop}
use Rattle.tsb_node.proofs.CheckingLaws.{one_octet}
use Rattle.tsb_node.proofs.ColumnLaws.{place-size, part_read, current_read, index_drop}

-- a place at the front of octets is encoded as it is read
pub place_encoded : (kind : ℕ) (bytes : List ℕ) → AreOctets bytes → 25 ≤ length bytes → slice_index bytes 16 ≡ kind → bytes ≡ place_octets (number_in 16 0 bytes) kind (number_in 8 17 bytes) ++ drop 25 bytes
place_encoded kind bytes are le is =
    let s = again_in 16 0 bytes are (omega (arith, le)) in
    let n = again_in 8 17 bytes are (omega (arith, le)) in
    let k : take 1 (drop 16 bytes) ≡ kind ∷ [] = one_octet bytes 16 (omega (arith, le)) ∙ ap (λ (x : ℕ). x ∷ []) is in
    let parts : take 25 bytes ≡ (take 16 bytes ++ take 1 (drop 16 bytes)) ++ take 8 (drop 17 bytes) = take_on 17 8 bytes ∙ ap (λ (t : List ℕ). t ++ take 8 (drop 17 bytes)) (take_on 16 1 bytes) in
    let whole : take 25 bytes ≡ place_octets (number_in 16 0 bytes) kind (number_in 8 17 bytes) = parts ∙ rw (s, k, n) refl in
    sym (take-append-drop 25 bytes) ∙ ap (λ (t : List ℕ). t ++ drop 25 bytes) whole

kind_one : (j k : PartKind) → part_kind j ≡ part_kind k → j ≡ k
kind_one LeafBlock LeafBlock e = refl
kind_one LeafBlock ColumnBlock e = absurd (omega (arith, e))
kind_one ColumnBlock LeafBlock e = absurd (omega (arith, e))
kind_one ColumnBlock ColumnBlock e = refl

pub part-size : (p : Part) → length (part_octets p) ≡ 25
unfolding part_octets
part-size p = place-size p.start (part_kind p.kind) p.block

part_apart : (p q : Part) (a b : List ℕ) → IsPartEntry p → IsPartEntry q → part_octets p ++ a ≡ part_octets q ++ b → p ≡ q
part_apart p q a b is_p is_q e =
    let r = part_read p a is_p in
    let t = part_read q b is_q in
    let start : p.start ≡ q.start = sym r.start_is ∙ ap (number_in 16 0) e ∙ t.start_is in
    let kind : p.kind ≡ q.kind = kind_one p.kind q.kind (sym r.kind_is ∙ ap (λ (l : List ℕ). slice_index l 16) e ∙ t.kind_is) in
    let block : p.block ≡ q.block = sym r.number_is ∙ ap (number_in 8 17) e ∙ t.number_is in
    λ i. record { start = start i; kind = kind i; block = block i }

pub parts_encoded : (end : Option ℕ) → IsEncoding part_octets (IsPartBefore end) 25
parts_encoded end = record { some = omega arith; size_is = part-size; apart = λ p q a b is_p is_q e. part_apart p q a b is_p.entry is_q.entry e }

-- the part that is read from a place on
pub part_is : (at start block : ℕ) (kind : PartKind) (area : List ℕ) → AreOctets area → at + 25 ≤ length area → start ≡ number_in 16 at area → block ≡ number_in 8 (at + 17) area
    → slice_index area (at + 16) ≡ part_kind kind → IsPartEntry (record { start = start; kind = kind; block = block }) × (drop at area ≡ part_octets (record { start = start; kind = kind; block = block }) ++ drop (at + 25) area)
unfolding part_octets
part_is at start block kind area are le s n k =
    let bytes : List ℕ = drop at area in
    let there : number_in 8 17 bytes ≡ block = ap (λ (t : List ℕ). number_of (take 8 t)) (drop_twice at 17 area) ∙ sym n in
    let whole = place_encoded (part_kind kind) bytes (are-drop at area are) (omega (arith, le, length-drop at area)) (index_drop at 16 area ∙ k) in (
      record { start = rw s (number_in-lt 16 at area are (omega (arith, le))); block = rw n (number_in-lt 8 (at + 17) area are (omega (arith, le))) },
      whole ∙ ap (λ (m : ℕ). place_octets m (part_kind kind) (number_in 8 17 bytes) ++ drop 25 bytes) (sym s) ∙ ap (λ (m : ℕ). place_octets start (part_kind kind) m ++ drop 25 bytes) there
          ∙ ap (λ (t : List ℕ). place_octets start (part_kind kind) block ++ t) (drop_twice at 25 area),
    )

-- ---- the current leaf

pub current-size : (c : Current) → length (current_octets c) ≡ 25
unfolding current_octets
current-size c = place-size c.start 0 c.page

pub current_one : (c d : Current) → IsCurrentEntry c → IsCurrentEntry d → current_octets c ≡ current_octets d → c ≡ d
current_one c d is_c is_d e =
    let r = current_read c [] is_c.start is_c.page in
    let t = current_read d [] is_d.start is_d.page in
    let f : current_octets c ++ [] ≡ current_octets d ++ [] = ap (λ (l : List ℕ). l ++ []) e in
    let start : c.start ≡ d.start = sym r.start_is ∙ ap (number_in 16 0) f ∙ t.start_is in
    let page : c.page ≡ d.page = sym r.number_is ∙ ap (number_in 8 17) f ∙ t.number_is in
    λ i. record { start = start i; page = page i }

pub current_is : (start page : ℕ) (bytes : List ℕ) → AreOctets bytes → length bytes ≡ 25 → slice_index bytes 16 ≡ 0 → start ≡ number_in 16 0 bytes → page ≡ number_in 8 17 bytes
    → IsCurrentEntry (record { start = start; page = page }) × (bytes ≡ current_octets (record { start = start; page = page }))
unfolding current_octets
current_is start page bytes are long k s n =
    let whole = place_encoded 0 bytes are (omega (arith, long)) k in
    let none : drop 25 bytes ≡ [] = empty (drop 25 bytes) (omega (arith, length-drop 25 bytes, long)) in (
      record { start = rw s (number_in-lt 16 0 bytes are (omega (arith, long))); page = rw n (number_in-lt 8 17 bytes are (omega (arith, long))) },
      whole ∙ ap (λ (m : ℕ). place_octets m 0 (number_in 8 17 bytes) ++ drop 25 bytes) (sym s) ∙ ap (λ (m : ℕ). place_octets start 0 m ++ drop 25 bytes) (sym n)
          ∙ ap (λ (t : List ℕ). place_octets start 0 page ++ t) none ∙ append-nil (place_octets start 0 page),
    )
  where
    empty : (xs : List ℕ) → length xs ≡ 0 → xs ≡ []
    empty [] e = refl
    empty (x ∷ xs) e = absurd (omega (arith, e))

pub current_kind : (c : Current) (bytes : List ℕ) → IsCurrentEntry c → bytes ≡ current_octets c → slice_index bytes 16 ≡ 0
current_kind c bytes is e = ap (λ (l : List ℕ). slice_index l 16) (e ∙ sym (append-nil (current_octets c))) ∙ (current_read c [] is.start is.page).kind_is

-- ---- parts at the front

pub open_front : (end : Option ℕ) (bytes : List ℕ) (p : Part) → IsFront part_octets (IsPartBefore end) 25 bytes p → IsFront part_octets (IsPartBefore None) 25 bytes p
open_front end bytes p front = record { valid_is = record { entry = front.valid_is.entry; before = tt }; encoded = front.encoded }

pub same_front : (end : Option ℕ) (bytes : List ℕ) (p q : Part) → IsFront part_octets (IsPartBefore end) 25 bytes p → IsFront part_octets (IsPartBefore None) 25 bytes q → IsFront part_octets (IsPartBefore end) 25 bytes q
same_front end bytes p q front read =
    let same : p ≡ q = part_apart p q (drop 25 bytes) (drop 25 bytes) front.valid_is.entry read.valid_is.entry (sym front.encoded ∙ read.encoded) in
    subst (IsFront part_octets (IsPartBefore end) 25 bytes) same front

-- a current leaf that ends octets
pub current_back : (bytes : List ℕ) (c : Current) (front : List ℕ) → bytes ≡ front ++ current_octets c → (take (length bytes - 25) bytes ≡ front) × (drop (length bytes - 25) bytes ≡ current_octets c)
current_back bytes c front e =
    let n : length bytes - 25 ≡ length front = omega (arith, ap length e, length-append front (current_octets c), current-size c) in (
      ap (λ (k : ℕ). take k bytes) n ∙ ap (take (length front)) e ∙ take_at front (current_octets c) (length front) refl,
      ap (λ (k : ℕ). drop k bytes) n ∙ ap (drop (length front)) e ∙ drop_at front (current_octets c) (length front) refl,
    )

pub front-size : (end : Option ℕ) (bytes : List ℕ) (p : Part) → IsFront part_octets (IsPartBefore end) 25 bytes p → 25 ≤ length bytes
front-size end bytes p front = omega (arith, ap length front.encoded, length-append (part_octets p) (drop 25 bytes), part-size p)
