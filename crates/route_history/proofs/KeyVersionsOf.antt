-- The versions that a look returns for a key, as entries.
use Rattle.std.proofs.Common.{◌≡◌, ℕ, inl, inr, List, [], ◌∷◌, map, Bool, true, false, eqb, Option, refl, sym, ◌∙◌, subst}
use Rattle.std.specs.Prelude.{◌||◌}
use Rattle.std.specs.List.{AllByRecursion, filter}
use Rattle.std.proofs.lemmas.Bool.{cases_Bool, eqb-true, false≢true}
use Rattle.route_meaning.proofs.Holding.{both}
use Rattle.version_model.specs.declared.entry.Entry.{Entry}
use Rattle.version_model.specs.Versions.{Version}
use Rattle.version_model.specs.Ranges.{end_or}
use Rattle.version_model.specs.Looks.{IsPart, is_of}
use Rattle.version_model.specs.Entries.{version_of, versions_of}
use Rattle.route_history.specs.Spans.{is_at, version_at}

all_of_key : (key from to : ℕ) (all : List Version) → AllByRecursion (λ v. v.key ≡ key) (filter (is_of key from to) all)
all_of_key key from to [] = tt
all_of_key key from to (v ∷ all) = elim (cases_Bool (is_of key from to v)) [
  | inl hit ↦ rw hit (eqb-true v.key key (both _ _ hit).0, all_of_key key from to all)
  | inr miss ↦ rw miss (all_of_key key from to all)
]

same_entry : (key : ℕ) (e : Entry) → (version_of e).key ≡ key → version_at key e ≡ version_of e
same_entry key e k = λ i. record { key = sym k i; stamp = (version_of e).stamp; value = (version_of e).value }

same_entries : (key : ℕ) (es : List Entry) → AllByRecursion (λ v. v.key ≡ key) (versions_of es) → map (version_at key) es ≡ versions_of es
same_entries key [] a = refl
same_entries key (e ∷ es) a = λ i. same_entry key e a.0 i ∷ same_entries key es a.1 i

-- they are of that key
pub part_at : (all : List Version) (key from : ℕ) (es : List Entry) (reported : Option ℕ) → IsPart all key from (versions_of es) reported → IsPart all key from (map (version_at key) es) reported
part_at all key from es reported h =
    let keys : AllByRecursion (λ v. v.key ≡ key) (versions_of es) = subst (AllByRecursion (λ v. v.key ≡ key)) (sym h.are) (all_of_key key from (end_or reported) all) in
    record { above = h.above; are = same_entries key es keys ∙ h.are }

fewer : (P : Version → Type 0) (p q : Version → Bool) (all : List Version) → ((v : Version) → p v ≡ true → q v ≡ true) → AllByRecursion P (filter q all) → AllByRecursion P (filter p all)
fewer P p q [] f a = tt
fewer P p q (v ∷ all) f a = elim (cases_Bool (q v)) [
  | inl hit ↦ (let b = rw hit at a in elim (cases_Bool (p v)) [
    | inl also ↦ rw also (b.0, fewer P p q all f b.1)
    | inr miss ↦ rw miss (fewer P p q all f b.1)
  ])
  | inr out ↦ (let b = rw out at a in elim (cases_Bool (p v)) [
    | inl hit ↦ absurd (false≢true (sym out ∙ f v hit))
    | inr miss ↦ rw miss (fewer P p q all f b)
  ])
]

or_left : (a b : Bool) → a ≡ true → (a || b) ≡ true
or_left true b e = refl
or_left false b e = absurd (false≢true e)

or_right : (a b : Bool) → b ≡ true → (a || b) ≡ true
or_right true b e = refl
or_right false b e = e

-- what holds of all versions of two keys holds of a part of each
pub all_first : (P : Version → Type 0) (all : List Version) (a b from : ℕ) (vs : List Version) (reported : Option ℕ) → IsPart all a from vs reported → AllByRecursion P (filter (is_at a b) all) → AllByRecursion P vs
all_first P all a b from vs reported h each = subst (AllByRecursion P) (sym h.are) (fewer P (is_of a from (end_or reported)) (is_at a b) all (λ v e. or_left _ (eqb v.key b) (both _ _ e).0) each)

pub all_second : (P : Version → Type 0) (all : List Version) (a b from : ℕ) (vs : List Version) (reported : Option ℕ) → IsPart all b from vs reported → AllByRecursion P (filter (is_at a b) all) → AllByRecursion P vs
all_second P all a b from vs reported h each = subst (AllByRecursion P) (sym h.are) (fewer P (is_of b from (end_or reported)) (is_at a b) all (λ v e. or_right (eqb v.key a) _ (both _ _ e).0) each)
