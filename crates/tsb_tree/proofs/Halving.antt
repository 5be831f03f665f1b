-- A column in memory is split by key, and both halves fit their pages.
use Rattle.std.proofs.Common.{◌≡◌, ℕ, zero, suc, ◌+◌, ◌-◌, ◌<◌, ◌≤◌, List, [], ◌∷◌, Option, Some, None, IfSome, slice_get, refl, ap, subst, arith, max}
use Rattle.std.proofs.lemmas.Option.{none-some, same_Some}
use Rattle.version_model.specs.Versions.{Version, Has}
use Rattle.version_model.specs.Ranges.{high_or, key_end}
use Rattle.version_model.specs.LeafVersions.{IsBelow, IsFromKey}
use Rattle.version_model.specs.Sizes.{octets, octets_below, IsSplitPoint}
use Rattle.version_model.proofs.api.Fits.{point_is_there, left_fits, right_fits, left_some}
use Rattle.tsb_tree.specs.declared.whole.Whole.{Whole}
use Rattle.tsb_tree.specs.Shapes.{IsWhole, IsFull, least_of}
use Rattle.tsb_tree.proofs.Shaping.{under_end, order_right}

-- all keys have an end
keys_end : (vs : List Version) → (n : ℕ) × ((v : Version) → Has vs v → v.key < n)
keys_end [] = (0, λ v h. absurd (none-some v h.is))
keys_end (w ∷ vs) =
    let rest = keys_end vs in
    (max (suc w.key) rest.0, λ v h. under w vs rest.0 rest.1 v h.place h.is)
  where
    under : (w : Version) (vs : List Version) (n : ℕ) → ((v : Version) → Has vs v → v.key < n) → (v : Version) (i : ℕ) → slice_get (w ∷ vs) i ≡ Some v → v.key < max (suc w.key) n
    under w vs n rest v zero is = omega (arith, ap (λ (x : Version). x.key) (same_Some w v is))
    under w vs n rest v (suc i) is = omega (arith, rest v (record { place = i; is = is }))

-- there is a key at which a full leaf is split
pub split_there : (leaf : List Version) → IsFull leaf → IsSplitPoint leaf (least_of leaf) None → ⊥
split_there leaf full none =
    let end = keys_end leaf in
    point_is_there leaf (octets leaf - 1) 3131 (least_of leaf) full.single full.small (omega (arith, full.much)) (omega (arith, full.much)) end.0 end.1 (omega (arith, full.much)) none

pub left_fits_page : (leaf : List Version) (key : ℕ) → IsFull leaf → IsSplitPoint leaf (least_of leaf) (Some key) → octets_below key leaf ≤ 16232
left_fits_page leaf key full is = left_fits leaf 16232 3131 (least_of leaf) full.single full.small (omega (arith, full.much)) (omega (arith, full.most)) key (omega (arith, full.most, full.much)) is

pub right_fits_page : (leaf : List Version) (key : ℕ) → IsFull leaf → IsSplitPoint leaf (least_of leaf) (Some key) → octets leaf - octets_below key leaf ≤ 16232
right_fits_page leaf key full is = right_fits leaf 16232 3131 (least_of leaf) full.single full.small (omega (arith, full.much)) (omega (arith, full.most)) key (omega (arith, full.most, full.much)) is

-- the key lies among the column's keys
pub key_above : (w : Whole) (key : ℕ) → IsWhole w → IsFull w.leaf → IsSplitPoint w.leaf (least_of w.leaf) (Some key) → w.low < key
key_above w key whole full is =
    let there = left_some w.leaf (least_of w.leaf) key (omega (arith, full.much)) is in
    omega (arith, (whole.each there.0 there.1).low, there.2)

pub key_below : (w : Whole) (key : ℕ) → IsWhole w → IsSplitPoint w.leaf (least_of w.leaf) (Some key) → key + 1 < key_end → key < high_or w.high
key_below w key whole is inside =
    let there = is.2 in
    let under = under_end w.low w.high there.0 (whole.each there.0 there.1) (omega (arith, there.2, inside)) in
    omega (arith, under, there.2)

-- both halves fit
pub both_fit : (leaf left right : List Version) (key : ℕ) → IsFull leaf → IsSplitPoint leaf (least_of leaf) (Some key) → octets left ≡ octets_below key leaf → octets left + octets right ≡ octets leaf → (octets left ≤ 16232) × (octets right ≤ 16232)
both_fit leaf left right key full is is_left both =
    let l = left_fits_page leaf key full is in
    let r = right_fits_page leaf key full is in
    (omega (arith, l, is_left), omega (arith, r, is_left, both))

-- the lower half, up to the key
pub whole_below : (w l : Whole) (key : ℕ) (left : List Version) → IsWhole w → w.low < key → key + 1 < key_end → IsBelow w.leaf key left → l ≡ record w { high = Some key; leaf = left } → IsWhole l
whole_below w l key left whole lt inside is_below l_is = rw l_is (record {
  order = record { high = (inside, lt); end = tt };
  each = λ v h. (let was = whole.each v (is_below.is_in v h) in record { low = was.low; high = is_below.only v h; size = was.size });
  follow = λ current. (let f = whole.follow current in record { from_first = f.from_first; first = f.first; rising = f.rising; fits = f.fits });
})

high_under : (w : Whole) (key : ℕ) (high : Option ℕ) → w.high ≡ high → key < high_or w.high → IfSome high (λ n. key < n)
high_under w key None is lt = tt
high_under w key (Some n) is lt = omega (arith, lt, ap high_or is)

-- the higher half, from the key on
pub whole_above : (w r : Whole) (key : ℕ) (right : List Version) → IsWhole w → key < high_or w.high → IsFromKey w.leaf key right → r.low ≡ key → r.high ≡ w.high → r.start ≡ w.start → r.parts.items ≡ w.parts.items → r.leaf ≡ right → IsWhole r
whole_above w r key right whole lt is_from r_low r_high r_start r_parts r_leaf = record {
  order = rw (r_low, r_high) (order_right w.low key w.high whole.order (high_under w key w.high refl lt));
  each = λ v h. rw (r_low, r_high) (let in_right : Has right v = subst (λ l. Has l v) r_leaf h in
      let was = whole.each v (is_from.is_in v in_right) in record { low = is_from.only v in_right; high = was.high; size = was.size });
  follow = λ current. rw (r_parts, r_start) (let f = whole.follow current in record { from_first = refl; first = f.first; rising = f.rising; fits = f.fits });
}
