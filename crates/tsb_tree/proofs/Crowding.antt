-- Images for which a transaction has no room.
use Rattle.std.proofs.Common.{◌≡◌, ℕ, suc, ◌+◌, ◌*◌, ◌<◌, ◌≤◌, Bool, true, false, List, length, Option, None, Result, Ok, Err, refl, sym, subst, arith}
use Rattle.std.specs.Prelude.{IfOk, IfErr}
use Rattle.page_tx.proofs.Joining.{length_joined}
use Rattle.page_tx.specs.Images.{joined}
use Rattle.page_tx.specs.Refusals.{LayRefusal}
use Rattle.page_tx.specs.declared.error.PageError.{PageError}
use Rattle.page_tx.specs.declared.error.PageError.TheVariants as pages
use Rattle.tsb_tree.specs.declared.change.Change.{Change}
use Rattle.tsb_tree.specs.declared.error.TreeError.{TreeError}
use Rattle.tsb_tree.specs.declared.error.TreeError.TheVariants as errors
use Rattle.tsb_tree.specs.InPlace.{IsInPlace}
use Rattle.tsb_tree.specs.Raises.{RaiseRefusal, RootRefusal}
use Rattle.tsb_tree.specs.Refusals.{PlanRefusal, ReadRefusal, of_page}
use Rattle.tsb_tree.proofs.Creating.{without_few}

-- reading, raising and a new root need no image
pub read_never_crowded : (e : TreeError) (down : Bool) → ReadRefusal down e → e ≡ errors.Pages pages.TooManyImages → ⊥
read_never_crowded e down refused is = subst (λ (x : TreeError). ReadRefusal down x) is refused

pub raise_never_crowded : {A : Type 0} (homes unused : ℕ) (down : Bool) (r : Result A TreeError) → IfErr r (RaiseRefusal homes unused down) → r ≡ Err (errors.Pages pages.TooManyImages) → ⊥
raise_never_crowded homes unused down r refused is = subst (λ x. IfErr x (RaiseRefusal homes unused down)) is refused

pub root_never_crowded : (e : TreeError) (homes unused level : ℕ) → RootRefusal homes unused level e → e ≡ errors.Pages pages.TooManyImages → ⊥
root_never_crowded e homes unused level refused is = subst (λ (x : TreeError). RootRefusal homes unused level x) is refused

-- where nodes may be split, nothing is refused for its images
pub split_never_crowded : {A : Type 0} (homes next level : ℕ) (down : Bool) (r : Result A TreeError) → IfErr r (PlanRefusal homes next level down true) → r ≡ Err (errors.Pages pages.TooManyImages) → ⊥
split_never_crowded homes next level down r refused is =
    let never : true ≡ false = subst (λ x. IfErr x (PlanRefusal homes next level down true)) is refused in cc

-- what is raised is in place where what is below is
pub raised_alone : {S : Type 0} (before next : ℕ) (change : Change) (r : Result Change TreeError) → (change.new ≡ None → r ≡ Ok change) → next ≡ before → IsInPlace next change × S → IfOk r (λ put. IsInPlace before put × S)
raised_alone before next change (Ok put) kept same p =
    let same_put : put ≡ change = (let e = kept p.0.new in cc) in
    (subst (λ (c : Change). IsInPlace before c) (sym same_put) (subst (λ (n : ℕ). IsInPlace n change) same p.0), p.1)
raised_alone before next change (Err e) kept same p = tt

-- images have room where those of a split would have, and where there is one at most
pub images_fit : (may_split : Bool) (named ns : List ℕ) (level : ℕ) → (may_split ≡ true → length named + (2 * level + 3) ≤ 30) → (may_split ≡ false → length ns ≤ 1) → length ns ≤ 2 * level + 3 → length named < 30 → length (joined named ns) ≤ 30
images_fit true named ns level room alone few less = omega (arith, room refl, few, length_joined named ns, without_few named ns)
images_fit false named ns level room alone few less = omega (arith, alone refl, less, length_joined named ns, without_few named ns)

-- so they aren't refused for their number
pub never_crowded : (e : PageError) (homes unused : ℕ) (may_split : Bool) (named ns : List ℕ) (level : ℕ) → LayRefusal homes unused (length (joined named ns)) e → (may_split ≡ true → length named + (2 * level + 3) ≤ 30) → (may_split ≡ false → length ns ≤ 1)
    → length ns ≤ 2 * level + 3 → length named ≤ 30 → of_page e ≡ errors.Pages pages.TooManyImages → ⊥
never_crowded pages.Fault homes unused may_split named ns level refused room alone few less is = cc
never_crowded pages.NeedsRecovery homes unused may_split named ns level refused room alone few less is = cc
never_crowded pages.TooManyImages homes unused true named ns level refused room alone few less is = omega (arith, refused.1, room refl, few, length_joined named ns, without_few named ns)
never_crowded pages.TooManyImages homes unused false named ns level refused room alone few less is = omega (arith, refused.1, alone refl, less, length_joined named ns, without_few named ns)
never_crowded pages.PagesFull homes unused may_split named ns level refused room alone few less is = cc
never_crowded pages.OutOfMemory homes unused may_split named ns level refused room alone few less is = cc
