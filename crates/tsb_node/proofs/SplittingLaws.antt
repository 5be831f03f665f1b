-- Entries that are kept are copied one after another.
use Rattle.std.proofs.Common.{◌≡◌, ℕ, zero, suc, ◌+◌, ◌-◌, ◌<◌, ◌≤◌, Bool, true, false, not, nat_lt, ◌&&◌, List, [], ◌∷◌, ◌++◌, length, take, drop, replicate, filter, slice_get, Option, Some, None, refl, sym, ap, subst, ◌∙◌, append_assoc, arith, inl, inr}
use Rattle.std.specs.List.{AllByRecursion}
use Rattle.std.specs.Option.{IfSome}
use Rattle.std.proofs.lemmas.Bool.{cases_lt, lt-ltb, le-ltb}
use Rattle.std.proofs.lemmas.List.{append-nil, length-append, take_at, take_all}
use Rattle.std.proofs.lemmas.Option.{same_Some, none-some}
use Rattle.tsb_node.specs.Numbers.{octets_of}
use Rattle.tsb_node.specs.inner.Fields.{number_in}
use Rattle.version_model.specs.declared.bounds.Bounds.{Bounds}
use Rattle.version_model.specs.Versions.{Version, Has, IsRising, IsAbove}
use Rattle.tsb_node.specs.Nodes.{IsBounds, header, unit_now, body}
use Rattle.tsb_node.specs.Leaves.{LeafNode, IsLeaf, BeginsAsWrittenLeaf, entry, entries, IsVersionOf}
use Rattle.tsb_node.specs.inner.Reading.{value_size, after, area}
use Rattle.tsb_node.specs.inner.Fresh.{IsFreshLeafPage}
use Rattle.tsb_node.specs.inner.Laying.{laid, IsFilling}
use Rattle.tsb_node.specs.inner.Sides.{is_below, located_within, side_of}
use Rattle.std.proofs.lemmas.List.Elements.{filter-append}
use Rattle.tsb_node.proofs.Scanning.{key_decoded, stamp_decoded}
use Rattle.version_model.proofs.api.Pushed.{get-push, IsRising-push}
use Rattle.tsb_node.proofs.Entries.{entry_read, entry-size, after_encoded}
use Rattle.tsb_node.proofs.Leaves.{leaf_area, pad_of, header-size}
use Rattle.tsb_node.proofs.Laying.{recounted, entries-push, all_push, replicate_add}
use Rattle.tsb_node.proofs.WritingLaws.{filling_on, filled}

pub bool_is : (r : Bool) (a b : ℕ) → (r ≡ true → a < b) → (a < b → r ≡ true) → r ≡ nat_lt a b
bool_is r a b to from = elim (cases_lt a b) [
  | inl lt ↦ from lt ∙ sym (lt-ltb a b lt)
  | inr ge ↦ falsely r (λ e. let lt = to e in omega arith) ∙ sym (le-ltb a b ge)
]
  where
    falsely : (r : Bool) → (r ≡ true → ⊥) → r ≡ false
    falsely true never = absurd (never refl)
    falsely false never = refl

pub below_is : (r : Bool) (key : ℕ) (high : Option ℕ) → (r ≡ true → IfSome high (λ n. key < n)) → (IfSome high (λ n. key < n) → r ≡ true) → r ≡ is_below high key
below_is r key None to from = from tt
below_is r key (Some n) to from = bool_is r key n to from

pub filter_push : (p : Version → Bool) (vs : List Version) (v : Version) → p v ≡ true → filter p (vs ++ v ∷ []) ≡ filter p vs ++ v ∷ []
filter_push p vs v e = filter-append p vs (v ∷ []) ∙ ap (λ (t : List Version). filter p vs ++ t) (one p v e)
  where
    one : (p : Version → Bool) (v : Version) → p v ≡ true → filter p (v ∷ []) ≡ v ∷ []
    one p v e = rw e refl

pub filter_skip : (p : Version → Bool) (vs : List Version) (v : Version) → p v ≡ false → filter p (vs ++ v ∷ []) ≡ filter p vs
filter_skip p vs v e = filter-append p vs (v ∷ []) ∙ ap (λ (t : List Version). filter p vs ++ t) (none p v e) ∙ append-nil (filter p vs)
  where
    none : (p : Version → Bool) (v : Version) → p v ≡ false → filter p (v ∷ []) ≡ []
    none p v e = rw e refl

-- ---- what is kept

abbrev pub keeps : Bounds → Version → Bool
keeps b v = located_within b v.key

-- of the first n versions those between the bounds have been copied
pub record HasCopied (leaf : LeafNode) (b : Bounds) (n at kept : ℕ) (page : List ℕ) : Type 0 where
  pub filling : IsFilling (header 1 unit_now 0 0 0 b) (entries (filter (keeps b) (take n leaf.versions))) page
  pub at_is : at ≡ 120 + length (entries (filter (keeps b) (take n leaf.versions)))
  pub kept_is : kept ≡ length (filter (keeps b) (take n leaf.versions))
  pub each : AllByRecursion (IsVersionOf b) (filter (keeps b) (take n leaf.versions))
  pub rising : IsRising (filter (keeps b) (take n leaf.versions))
  pub is_in : (w : Version) → Has (filter (keeps b) (take n leaf.versions)) w → (k : ℕ) × (k < n) × (slice_get leaf.versions k ≡ Some w)

-- the version at the front, and its octets
pub record IsNext (leaf : LeafNode) (n : ℕ) (rest : List ℕ) : Type 0 where
  pub v : Version
  pub is : slice_get leaf.versions n ≡ Some v
  pub valid : IsVersionOf leaf.bounds v
  pub more : List ℕ
  pub encoded : rest ≡ entry v ++ more
  pub front : take (59 + value_size rest) rest ≡ entry v

get_drop : (vs : List Version) (n : ℕ) → n < length vs → (v : Version) × (more : List Version) × (slice_get vs n ≡ Some v) × (drop n vs ≡ v ∷ more)
get_drop [] n lt = absurd (omega arith)
get_drop (v ∷ vs) zero lt = (v, vs, refl, refl)
get_drop (v ∷ vs) (suc n) lt = get_drop vs n (omega arith)

pub all_at : (P : Version → Type 0) (vs : List Version) (n : ℕ) (v : Version) → AllByRecursion P vs → slice_get vs n ≡ Some v → P v
all_at P [] n v all e = absurd (none-some v e)
all_at P (w ∷ vs) zero v all e = subst P (same_Some w v e) all.0
all_at P (w ∷ vs) (suc n) v all e = all_at P vs n v all.1 e

entries-cons : (v : Version) (vs : List Version) → entries (v ∷ vs) ≡ entry v ++ entries vs
unfolding entries
entries-cons v vs = refl

pub next_version : (leaf : LeafNode) (octets rest : List ℕ) (n : ℕ) → BeginsAsWrittenLeaf leaf octets → n < length leaf.versions → rest ≡ after n (area octets) → IsNext leaf n rest
next_version leaf octets rest n is lt at =
    let d = get_drop leaf.versions n lt in
    let valid : IsVersionOf leaf.bounds d.0 = all_at (IsVersionOf leaf.bounds) leaf.versions n d.0 is.valid.each d.2 in
    let more : List ℕ = entries d.1 ++ pad_of leaf in
    let here : rest ≡ entry d.0 ++ more =
    at ∙ ap (after n) (leaf_area leaf octets is) ∙ after_encoded leaf.bounds n leaf.versions (pad_of leaf) is.valid.each (omega arith)
    ∙ ap (λ (t : List Version). entries t ++ pad_of leaf) d.3 ∙ ap (λ (t : List ℕ). t ++ pad_of leaf) (entries-cons d.0 d.1) ∙ append_assoc (entry d.0) (entries d.1) (pad_of leaf) in
    let r = entry_read leaf.bounds d.0 more valid in
    let size : length (entry d.0) ≡ 59 + value_size rest = entry-size d.0 ∙ ap (λ (k : ℕ). 59 + k) (sym r.size ∙ ap value_size (sym here)) in
    record { v = d.0; is = d.2; valid = valid; more = more; encoded = here; front = ap (take (59 + value_size rest)) here ∙ take_at (entry d.0) more (59 + value_size rest) size }

pub key_of_entry : (b : Bounds) (v : Version) (bytes : List ℕ) → IsVersionOf b v → bytes ≡ entry v → number_in 40 0 bytes ≡ v.key
key_of_entry b v bytes is e =
    let r = entry_read b v [] is in
    ap (number_in 40 0) (e ∙ sym (append-nil (entry v))) ∙ sym (key_decoded (entry v ++ [])) ∙ ap (λ (w : Version). w.key) r.is

pub stamp_of_entry : (b : Bounds) (v : Version) (bytes : List ℕ) → IsVersionOf b v → bytes ≡ entry v → number_in 16 40 bytes ≡ v.stamp
stamp_of_entry b v bytes is e =
    let r = entry_read b v [] is in
    ap (number_in 16 40) (e ∙ sym (append-nil (entry v))) ∙ sym (stamp_decoded (entry v ++ [])) ∙ ap (λ (w : Version). w.stamp) r.is

pub take_version : (vs : List Version) (n : ℕ) (v : Version) → slice_get vs n ≡ Some v → take (n + 1) vs ≡ take n vs ++ v ∷ []
take_version [] n v e = absurd (none-some v e)
take_version (w ∷ vs) zero v e = ap (λ (x : Version). x ∷ []) (same_Some w v e)
take_version (w ∷ vs) (suc n) v e = ap (λ (k : ℕ). take k (w ∷ vs)) (let z : suc n + 1 ≡ suc (n + 1) = omega arith in z) ∙ ap (λ (t : List Version). w ∷ t) (take_version vs n v e)

pub copied_skip : (leaf : LeafNode) (b : Bounds) (n at kept : ℕ) (page : List ℕ) (v : Version) → slice_get leaf.versions n ≡ Some v → located_within b v.key ≡ false → HasCopied leaf b n at kept page → HasCopied leaf b (n + 1) at kept page
copied_skip leaf b n at kept page v is out c =
    let same : filter (keeps b) (take (n + 1) leaf.versions) ≡ filter (keeps b) (take n leaf.versions) = ap (filter (keeps b)) (take_version leaf.versions n v is) ∙ filter_skip (keeps b) (take n leaf.versions) v out in
    record {
      filling = rw same c.filling;
      at_is = rw same c.at_is;
      kept_is = rw same c.kept_is;
      each = rw same c.each;
      rising = rw same c.rising;
      is_in = λ w h. (let old = c.is_in w (subst (λ (t : List Version). Has t w) same h) in (old.0, omega (arith, old.1), old.2));
    }

located : (b : Bounds) (key : ℕ) → located_within b key ≡ true → (b.low ≤ key) × IfSome b.high (λ n. key < n)
located b key e = elim (cases_lt key b.low) [
  | inl lt ↦ absurd (out (nat_lt key b.low) (is_below b.high key) (lt-ltb key b.low lt) e)
  | inr ge ↦ (ge, high b.high (second (nat_lt key b.low) (is_below b.high key) e))
]
  where
    out : (x y : Bool) → x ≡ true → not x && y ≡ true → ⊥
    out true y e f = cc f
    out false y e f = cc e

    second : (x y : Bool) → not x && y ≡ true → y ≡ true
    second true y e = absurd (cc e)
    second false y e = e

    high : (o : Option ℕ) → is_below o key ≡ true → IfSome o (λ n. key < n)
    high None e = tt
    high (Some n) e = elim (cases_lt key n) [ inl lt ↦ lt | inr ge ↦ absurd (cc (e, le-ltb key n ge)) ]

pub copied_more : (leaf : LeafNode) (b : Bounds) (n at kept : ℕ) (page : List ℕ) (v : Version) → IsLeaf leaf → slice_get leaf.versions n ≡ Some v → located_within b v.key ≡ true → at + length (entry v) ≤ 16352 → HasCopied leaf b n at kept page
    → HasCopied leaf b (n + 1) (at + length (entry v)) (kept + 1) (laid at (entry v) page)
copied_more leaf b n at kept page v valid is within room c =
    let old : List Version = filter (keeps b) (take n leaf.versions) in
    let same : filter (keeps b) (take (n + 1) leaf.versions) ≡ old ++ v ∷ [] = ap (filter (keeps b)) (take_version leaf.versions n v is) ∙ filter_push (keeps b) (take n leaf.versions) v within in
    let more : entries (old ++ v ∷ []) ≡ entries old ++ entry v = entries-push old v in
    let was : IsVersionOf leaf.bounds v = all_at (IsVersionOf leaf.bounds) leaf.versions n v valid.each is in
    let l = located b v.key within in
    let above : IsAbove old v.stamp = record { above = λ w h. (let k = c.is_in w h in valid.rising.rises k.0 n w v k.1 k.2 is) } in
    record {
      filling = rw (same, more) (filling_on (header 1 unit_now 0 0 0 b) (entries old) (entry v) page at c.filling c.at_is (omega (arith, room, c.at_is)));
      at_is = rw (same, more) (omega (arith, c.at_is, length-append (entries old) (entry v)));
      kept_is = rw same (omega (arith, c.kept_is, length-append old (v ∷ [])));
      each = rw same (all_push (IsVersionOf b) old v c.each (record { short = record { low = l.0; high = l.1; size = was.short.size }; key = was.key; stamp = was.stamp; octets = was.octets }));
      rising = rw same (IsRising-push old v c.rising above);
      is_in = λ w h. elim (get-push old v w h.place (subst (λ (t : List Version). slice_get t h.place ≡ Some w) same h.is)) [
        | inl before ↦ (let k = c.is_in w (record { place = h.place; is = before.1 }) in (k.0, omega (arith, k.1), k.2))
        | inr new ↦ (n, omega arith, is ∙ ap Some (sym new.1))
      ];
    }

pub copied_start : (leaf : LeafNode) (b : Bounds) (page : List ℕ) → IsFreshLeafPage (record { bounds = b; versions = [] }) page → HasCopied leaf b 0 120 0 page
unfolding entries body
copied_start leaf b page is = record {
  filling = record {
    size = header-size 1 unit_now 0 0 0 b;
    encoded = is.page.page.encoded ∙ ap (λ (u : ℕ). ((header 1 u 0 0 0 b ++ []) ++ replicate 16232 0) ++ replicate 32 0) is.now ∙ append_assoc (header 1 unit_now 0 0 0 b ++ []) (replicate 16232 0) (replicate 32 0) ∙ ap (λ (t : List ℕ). (header 1 unit_now 0 0 0 b ++ []) ++ t) (sym (replicate_add 16232 32 0));
  };
  at_is = refl;
  kept_is = refl;
  each = tt;
  rising = record { rises = λ i j v w lt at_i. absurd (none-some v at_i) };
  is_in = λ w h. absurd (none-some w h.is);
}

pub copied_end : (leaf : LeafNode) (b : Bounds) (n at kept used : ℕ) (page : List ℕ) → IsBounds b → b.end ≡ None → n ≡ length leaf.versions → at ≤ 16352 → used + 120 ≡ at → HasCopied leaf b n at kept page
    → IsFreshLeafPage (side_of leaf b) (laid 6 (octets_of 2 used) (laid 4 (octets_of 2 kept) page))
copied_end leaf b n at kept used page valid current done small sized c =
    let vs : List Version = filter (keeps b) (take n leaf.versions) in
    let all : vs ≡ filter (keeps b) leaf.versions = ap (filter (keeps b)) (take_all n leaf.versions (omega (arith, done))) in
    let es : List ℕ = entries vs in
    let rep : List ℕ = replicate (16264 - length es) 0 in
    let h : List ℕ = header 1 unit_now 0 kept used b in
    let whole : page ≡ header 1 unit_now 0 0 0 b ++ (es ++ rep) = c.filling.encoded ∙ append_assoc (header 1 unit_now 0 0 0 b) es rep in
    let counted : laid 6 (octets_of 2 used) (laid 4 (octets_of 2 kept) page) ≡ (h ++ es) ++ rep =
    ap (λ (t : List ℕ). laid 6 (octets_of 2 used) (laid 4 (octets_of 2 kept) t)) whole ∙ recounted 1 unit_now 0 0 0 kept used b (es ++ rep) ∙ sym (append_assoc h es rep) in
    let size : used ≡ length es = omega (arith, sized, c.at_is) in
    let filling : IsFilling (header 1 unit_now 0 (length vs) (length es) b) es (laid 6 (octets_of 2 used) (laid 4 (octets_of 2 kept) page)) = record {
      size = header-size 1 unit_now 0 (length vs) (length es) b;
      encoded = counted ∙ ap (λ (k : ℕ). (header 1 unit_now 0 k used b ++ es) ++ rep) c.kept_is ∙ ap (λ (k : ℕ). (header 1 unit_now 0 (length vs) k b ++ es) ++ rep) size;
    } in
    let fits : length es ≤ 16232 = omega (arith, small, c.at_is) in
    let encoded = filled unit_now 1 0 (length vs) b es (laid 6 (octets_of 2 used) (laid 4 (octets_of 2 kept) page)) filling fits in
    subst (λ (t : List Version). IsFreshLeafPage (record { bounds = b; versions = t }) (laid 6 (octets_of 2 used) (laid 4 (octets_of 2 kept) page))) all
    (record {
      page = record { unit = unit_now; valid = record { bounds = valid; each = c.each; rising = c.rising; fits = fits }; page = record { current = current; encoded = encoded } };
      now = refl;
    })

pub after_none : (bytes : List ℕ) → bytes ≡ after 0 bytes
unfolding after
after_none bytes = refl
