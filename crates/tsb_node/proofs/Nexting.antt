-- Looking for the next key over the entries of a leaf.
use Rattle.std.proofs.Common.{◌≡◌, ℕ, suc, ◌+◌, ◌^◌, ◌<◌, ◌≤◌, ◌++◌, inl, inr, List, length, slice_get, Option, Some, None, IfSome, Bool, true, false, refl, sym, ap, subst, ◌∙◌, arith}
use Rattle.std.proofs.lemmas.Bool.{cases_lt}
use Rattle.std.proofs.lemmas.Option.{same_Some, slice_get_within}
use Rattle.std.specs.Option.{is_some}
use Rattle.version_model.specs.Versions.{Version, Answers, AsOf, IsRising}
use Rattle.version_model.specs.Looks.{NoneWithin, IsLeastLive}
use Rattle.version_model.specs.inner.Lower.{IsLower}
use Rattle.version_model.proofs.api.AsOfs.{dead_of, live_of}
use Rattle.tsb_node.specs.declared.leaf.FoundVersion.{FoundVersion}
use Rattle.tsb_node.specs.Leaves.{LeafNode, BeginsAsWrittenLeaf, IsVersionOf, entry}
use Rattle.tsb_node.specs.Finding.{version_found}
use Rattle.tsb_node.specs.inner.Nexts.{IsLeastOf, ReportsLive}
use Rattle.tsb_node.specs.inner.Fields.{number_in}
use Rattle.tsb_node.proofs.SplittingLaws.{IsNext, all_at}
use Rattle.tsb_node.proofs.Entries.{entry_read}
use Rattle.tsb_node.proofs.Scanning.{key_decoded, stamp_decoded}

-- what was found is a value, or an end
pub live_found : (vs : List Version) (key s : ℕ) (found : FoundVersion) → IsRising vs → AsOf vs key s (version_found key found) → (b : Bool) → b ≡ is_some found.value → ReportsLive vs key s b
live_found vs key s found rising h true e = live_of vs key s (version_found key found) found.value refl h (sym e)
live_found vs key s found rising h false e = dead_of vs key s (version_found key found) rising h (none_of found.value (sym e))
  where
    none_of : (o : Option (List ℕ)) → is_some o ≡ false → o ≡ None
    none_of None h = refl
    none_of (Some x) h = absurd (let f : true ≡ false = h in cc)

-- the key at the front is that of the leaf's version there
pub key_next : (leaf : LeafNode) (n : ℕ) (rest : List ℕ) → (next : IsNext leaf n rest) → number_in 40 0 rest ≡ next.v.key
key_next leaf n rest next =
    let r = entry_read leaf.bounds next.v next.more next.valid in
    ap (number_in 40 0) next.encoded ∙ sym (key_decoded (entry next.v ++ next.more)) ∙ ap (λ (w : Version). w.key) r.is

-- and its stamp
pub stamp_next : (leaf : LeafNode) (n : ℕ) (rest : List ℕ) → (next : IsNext leaf n rest) → number_in 16 40 rest ≡ next.v.stamp
stamp_next leaf n rest next =
    let r = entry_read leaf.bounds next.v next.more next.valid in
    ap (number_in 16 40) next.encoded ∙ sym (stamp_decoded (entry next.v ++ next.more)) ∙ ap (λ (w : Version). w.stamp) r.is

-- ---- the least key of which there is a version

-- the least one of the first versions
pub record LeastSo (vs : List Version) (s from n : ℕ) (best : Option ℕ) : Type 0 where
  pub from_on : IfSome best (λ least. from ≤ least)
  pub none_lower : (k : ℕ) (v : Version) → k < n → slice_get vs k ≡ Some v → from ≤ v.key → v.stamp ≤ s → IsLower best v.key → ⊥

lower_on : (best : Option ℕ) (key other : ℕ) → IsLower best other → IsLower (Some other) key → IsLower best key
lower_on None key other a b = tt
lower_on (Some best) key other a b = omega (arith, a, b)

pub least_yes : (vs : List Version) (s from n : ℕ) (v : Version) → slice_get vs n ≡ Some v → (best : Option ℕ) → from ≤ v.key → IsLower best v.key → LeastSo vs s from n best → LeastSo vs s from (n + 1) (Some v.key)
least_yes vs s from n v at best above lower so = record {
  from_on = above;
  none_lower = λ k w lt is low by below. elim (cases_lt k n) [
    | inl old ↦ so.none_lower k w old is low by (lower_on best w.key v.key lower below)
    | inr new ↦ (
        let e : k ≡ n = omega (arith, lt, new) in
        let same : w ≡ v = same_Some w v (sym is ∙ subst (λ (i : ℕ). slice_get vs i ≡ Some v) (sym e) at) in
        absurd (omega (arith, below, ap (λ (x : Version). x.key) same)))
  ];
}

pub least_no : (vs : List Version) (s from n : ℕ) (v : Version) → slice_get vs n ≡ Some v → (best : Option ℕ) → (from ≤ v.key → v.stamp ≤ s → IsLower best v.key → ⊥) → LeastSo vs s from n best → LeastSo vs s from (n + 1) best
least_no vs s from n v at best never so = record {
  from_on = so.from_on;
  none_lower = λ k w lt is low by below. elim (cases_lt k n) [
    | inl old ↦ so.none_lower k w old is low by below
    | inr new ↦ (
        let e : k ≡ n = omega (arith, lt, new) in
        let same : w ≡ v = same_Some w v (sym is ∙ subst (λ (i : ℕ). slice_get vs i ≡ Some v) (sym e) at) in
        let key : w.key ≡ v.key = ap (λ (x : Version). x.key) same in
        let stamp : w.stamp ≡ v.stamp = ap (λ (x : Version). x.stamp) same in
        never (omega (arith, low, key)) (omega (arith, by, stamp)) (subst (IsLower best) key below))
  ];
}

pub least_end : (vs : List Version) (s from : ℕ) (best : Option ℕ) → LeastSo vs s from (length vs) best → IsLeastOf vs s from best
least_end vs s from None so = λ v has low by. so.none_lower has.place v (slice_get_within vs has.place v has.is) has.is low by tt
least_end vs s from (Some least) so = (
  so.from_on,
  λ v has low by. elim (cases_lt v.key least) [
    | inl below ↦ absurd (so.none_lower has.place v (slice_get_within vs has.place v has.is) has.is low by below)
    | inr above ↦ above
  ],
)

-- ---- the next key

-- where there is no version from a key on, none has a value
pub none_from : (vs : List Version) (s from first : ℕ) → NoneWithin vs s first from → IsLeastOf vs s from None → IsLeastLive vs s first None
none_from vs s from first dead none = λ key above v holds. elim (cases_lt key from) [
  | inl below ↦ dead key above below v holds
  | inr on ↦ absurd (none v holds.has (omega (arith, on, holds.of_key)) holds.not_after)
]

-- below the least key of which there is a version none has a value
pub none_to : (vs : List Version) (s from first least : ℕ) → NoneWithin vs s first from → IsLeastOf vs s from (Some least) → NoneWithin vs s first least
none_to vs s from first least dead is = λ key above below v holds. elim (cases_lt key from) [
  | inl low ↦ dead key above low v holds
  | inr on ↦ (let up = is.1 v holds.has (omega (arith, on, holds.of_key)) holds.not_after in absurd (omega (arith, up, below, holds.of_key)))
]

pub none_after : (vs : List Version) (s from first least : ℕ) → NoneWithin vs s first from → IsLeastOf vs s from (Some least) → Answers vs least s None → NoneWithin vs s first (suc least)
none_after vs s from first least dead is ended = λ key above below. elim (cases_lt key least) [
  | inl low ↦ none_to vs s from first least dead is key above low
  | inr on ↦ (let e : least ≡ key = omega (arith, below, on) in subst (λ (k : ℕ). Answers vs k s None) e ended)
]

-- the last key of all is the last
pub none_at_last : (leaf : LeafNode) (octets : List ℕ) (s first least : ℕ) → BeginsAsWrittenLeaf leaf octets → NoneWithin leaf.versions s first (suc least) → suc least ≡ 2 ^ 320 → IsLeastLive leaf.versions s first None
none_at_last leaf octets s first least is dead last = λ key above v holds.
    let valid = all_at (IsVersionOf leaf.bounds) leaf.versions holds.has.place v is.valid.each holds.has.is in
    dead key above (omega (arith, valid.key, last, holds.of_key)) v holds
