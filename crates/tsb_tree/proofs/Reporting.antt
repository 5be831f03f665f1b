-- What pages represent when one of them is set.
use Rattle.std.proofs.Common.{◌≡◌, ℕ, zero, suc, ◌<◌, inl, inr, List, [], ◌∷◌, length, set, Option, Some, None, slice_get, refl, sym, ◌∙◌, ap, subst, arith}
use Rattle.std.proofs.lemmas.Bool.{cases_eq}
use Rattle.std.proofs.lemmas.Option.{same_Some}
use Rattle.version_model.specs.Pages.{PageNode}
use Rattle.tsb_node.specs.Views.{PageRepresents}
use Rattle.tsb_walk.specs.Shown.{RepresentNodes}
use Rattle.tsb_tree.proofs.Laying.{put, put_same, put_other}

pub get-set_same : {X : Type 0} (xs : List X) (n : ℕ) (x : X) → n < length xs → slice_get (set xs n x) n ≡ Some x
get-set_same [] n x lt = absurd (omega arith)
get-set_same (y ∷ xs) zero x lt = refl
get-set_same (y ∷ xs) (suc n) x lt = get-set_same xs n x (omega arith)

pub get-set_other : {X : Type 0} (xs : List X) (n m : ℕ) (x : X) → (m ≡ n → ⊥) → slice_get (set xs n x) m ≡ slice_get xs m
get-set_other [] n m x ne = refl
get-set_other (y ∷ xs) zero zero x ne = absurd (ne refl)
get-set_other (y ∷ xs) zero (suc m) x ne = refl
get-set_other (y ∷ xs) (suc n) zero x ne = refl
get-set_other (y ∷ xs) (suc n) (suc m) x ne = get-set_other xs n m x (λ e. ne (ap suc e))

pub shown-set : (shown : List (List ℕ)) (nodes : ℕ → Option PageNode) (n : ℕ) (octets : List ℕ) (node : PageNode) → n < length shown → PageRepresents octets node → RepresentNodes shown nodes → RepresentNodes (set shown n octets) (put n node nodes)
shown-set shown nodes n octets node lt represents_node are = λ m x is. elim (cases_eq m n) [
  | inl e ↦ record {
    octets = octets;
    at = ap (slice_get (set shown n octets)) e ∙ get-set_same shown n octets lt;
    represents_node = subst (PageRepresents octets) (same_Some node x (sym (put_same n node nodes) ∙ ap (put n node nodes) (sym e) ∙ is)) represents_node;
  }
  | inr ne ↦ (let was = are m x (sym (put_other n node nodes m ne) ∙ is) in record { octets = was.octets; at = get-set_other shown n m octets ne ∙ was.at; represents_node = was.represents_node })
]

pub shown-none : (shown : List (List ℕ)) → RepresentNodes shown (λ _. None)
shown-none shown = λ n node is. absurd (cc)
