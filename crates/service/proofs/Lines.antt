-- Lines that are written one after another.
use Rattle.std.proofs.Common.{◌≡◌, ℕ, ◌+◌, ◌<◌, ◌≤◌, List, [], ◌∷◌, ◌++◌, length, take, take_all, get_or, flat_map, ap, sym, subst, ◌∙◌}
use Rattle.service.specs.Outputs.{OutputState, Reports}
use Rattle.service.proofs.Outputs.{Reports-trans}
use Rattle.std.proofs.lemmas.List.{append-nil, get_or_default}
use Rattle.std.proofs.lemmas.Grind.{flat_map-append}
use Rattle.route_model.proofs.api.Admissions.{take_item}

-- the line of one more item
one_line : {A : Type 0} (line : A → List ℕ) (xs : List A) (i : ℕ) (x : A) → i < length xs → x ≡ get_or xs i x → flat_map line (take (i + 1) xs) ≡ flat_map line (take i xs) ++ line x
one_line line xs i x h is = ap (flat_map line) (take_item xs i x h is) ∙ flat_map-append line (take i xs) (x ∷ []) ∙ ap (λ (t : List ℕ). flat_map line (take i xs) ++ t) (append-nil (line x))

pub next_line : {A : Type 0} (line : A → List ℕ) (xs : List A) (i : ℕ) (x : A) (first was now : OutputState) → i < length xs → x ≡ get_or xs i x
    → Reports first was (flat_map line (take i xs)) → Reports was now (line x) → Reports first now (flat_map line (take (i + 1) xs))
next_line line xs i x first was now h is before more =
    subst (λ (t : List ℕ). Reports first now t) (sym (one_line line xs i x h is)) (Reports-trans first was now (flat_map line (take i xs)) (line x) before more)

-- the same, by the number that stands there
pub more_line : (line : ℕ → List ℕ) (xs : List ℕ) (i d : ℕ) (first was now : OutputState) → i < length xs
    → Reports first was (flat_map line (take i xs)) → Reports was now (line (get_or xs i d)) → Reports first now (flat_map line (take (i + 1) xs))
more_line line xs i d first was now h before more = next_line line xs i (get_or xs i d) first was now h (get_or_default xs i d (get_or xs i d) h) before more

-- the lines of all items, once the place is at their end
pub all_lines : {A : Type 0} (line : A → List ℕ) (xs ys : List A) (i : ℕ) (first now : OutputState) → length xs ≤ i → xs ≡ ys
    → Reports first now (flat_map line (take i xs)) → Reports first now (flat_map line ys)
all_lines line xs ys i first now h same lines = subst (λ t. Reports first now (flat_map line t)) (take_all i xs h ∙ same) lines
