-- What an index set says of its keys, said of the rows that they are.
use Rattle.std.proofs.Common.{◌≡◌, ℕ, ◌+◌, Bool, true, false, not, ◌||◌, List, [], ◌∷◌, ◌++◌, length, map, refl, sym, ap, ◌∙◌, inl, inr, arith, Bor}
use Rattle.std.specs.List.{list_any, position_or_len, position}
use Rattle.std.specs.Option.{unwrap_or}
use Rattle.std.specs.Str.{bytes_eq}
use Rattle.std.proofs.lemmas.Grind.{common_steps}
use Rattle.std.proofs.lemmas.List.{map_push, map-id}
use Rattle.std.proofs.lemmas.List.Sums.{prefix_len-le-length}
use Rattle.indexmap.specs.IndexSet.{insert_key}
use Rattle.route_model.specs.Tables.{place_of, has_row, enter}
use Rattle.route_model.proofs.TableRows.{bool_cases, same, is_same}

-- rows are the same whichever is named first
pub either_way : (xs ys : List ℕ) → bytes_eq xs ys ≡ bytes_eq ys xs
either_way xs ys = elim (bool_cases (bytes_eq xs ys)) [
  | inl p ↦ p ∙ sym (ap (bytes_eq ys) (is_same xs ys p) ∙ same ys)
  | inr p ↦ elim (bool_cases (bytes_eq ys xs)) [
    | inl q ↦ ap (bytes_eq xs) (is_same ys xs q) ∙ same xs ∙ sym q
    | inr q ↦ p ∙ sym q
  ]
]

module _ {T : Type 0} (eq : T → T → Bool) (row : T → List ℕ) (is : (x y : T) → eq x y ≡ bytes_eq (row x) (row y)) (k : T) where
  one : (x : T) → eq k x ≡ bytes_eq (row x) (row k)
  one x = is k x ∙ either_way (row k) (row x)

  pub key_there : (ks : List T) → list_any (eq k) ks ≡ has_row (map row ks) (row k)
  key_there [] = refl
  key_there (x ∷ ks) = rw (one x, key_there ks) refl

  pub key_entered : (ks : List T) → map row (insert_key eq ks k) ≡ enter (map row ks) (row k)
  key_entered ks = elim (bool_cases (has_row (map row ks) (row k))) [
    | inl p ↦ rw (key_there ks, p) refl
    | inr p ↦ rw (key_there ks, p) (map_push row ks k)
  ]

  first_place : (ks : List T) → position_or_len (eq k) ks ≡ place_of (map row ks) (row k)
  first_place [] = refl
  first_place (x ∷ ks) = elim (bool_cases (bytes_eq (row x) (row k))) [
    | inl p ↦ rw (one x, p) refl
    | inr p ↦ rw (one x, p) (omega (arith, first_place ks))
  ]

  pub key_place : (ks : List T) → unwrap_or (position (eq k) ks) (length ks) ≡ place_of (map row ks) (row k)
  key_place ks = grind (arith, common_steps, first_place ks, prefix_len-le-length (λ x. not (eq k x)) ks)

-- octets are their own rows
module _ (k : List ℕ) (ks : List (List ℕ)) where
  pub octets_there : list_any (bytes_eq k) ks ≡ has_row ks k
  octets_there = key_there bytes_eq (λ (r : List ℕ). r) (λ x y. refl) k ks ∙ ap (λ (t : List (List ℕ)). has_row t k) (map-id ks)

  pub octets_entered : insert_key bytes_eq ks k ≡ enter ks k
  octets_entered = sym (map-id (insert_key bytes_eq ks k)) ∙ (key_entered bytes_eq (λ (r : List ℕ). r) (λ x y. refl) k ks ∙ ap (λ (t : List (List ℕ)). enter t k) (map-id ks))

  pub octets_place : unwrap_or (position (bytes_eq k) ks) (length ks) ≡ place_of ks k
  octets_place = key_place bytes_eq (λ (r : List ℕ). r) (λ x y. refl) k ks ∙ ap (λ (t : List (List ℕ)). place_of t k) (map-id ks)

abbrev pub lent_eq : Bor (List ℕ) → Bor (List ℕ) → Bool
lent_eq x y = bytes_eq x.now y.now

-- so are those that are lent
module _ (k : Bor (List ℕ)) (ks : List (Bor (List ℕ))) where
  pub lent_there : list_any (lent_eq k) ks ≡ has_row (map (λ (r : Bor (List ℕ)). r.now) ks) k.now
  lent_there = key_there lent_eq (λ (r : Bor (List ℕ)). r.now) (λ x y. refl) k ks

  pub lent_entered : map (λ (r : Bor (List ℕ)). r.now) (insert_key lent_eq ks k) ≡ enter (map (λ (r : Bor (List ℕ)). r.now) ks) k.now
  lent_entered = key_entered lent_eq (λ (r : Bor (List ℕ)). r.now) (λ x y. refl) k ks

  pub lent_place : unwrap_or (position (lent_eq k) ks) (length ks) ≡ place_of (map (λ (r : Bor (List ℕ)). r.now) ks) k.now
  lent_place = key_place lent_eq (λ (r : Bor (List ℕ)). r.now) (λ x y. refl) k ks
