-- What a tree has no room for.
use Rattle.std.proofs.Common.{◌≡◌, ℕ, suc, ◌+◌, ◌<◌, ◌≤◌, ◌⊎◌, inl, inr, Bool, Option, Some, None, Result, Ok, Err, refl, sym, subst, arith}
use Rattle.std.specs.Prelude.{IsSome, IfOk, IfErr}
use Rattle.std.proofs.lemmas.Bool.{false≢true}
use Rattle.page_tx.specs.declared.error.PageError.{PageError}
use Rattle.page_tx.specs.declared.error.PageError.TheVariants as pages
use Rattle.page_tx.specs.Refusals.{LayRefusal}
use Rattle.version_model.specs.declared.child.Child.{Child}
use Rattle.tsb_tree.specs.declared.change.Change.{Change}
use Rattle.tsb_tree.specs.declared.error.TreeError.{TreeError}
use Rattle.tsb_tree.specs.declared.error.TreeError.TheVariants as errors
use Rattle.tsb_tree.specs.InPlace.{IsInPlace}
use Rattle.tsb_tree.specs.NoRoom.{IsForRoom}
use Rattle.tsb_tree.specs.Refusals.{PlanRefusal, ReadRefusal, of_page}

-- nothing became two
pub no_half : {A : Type 0} (o : Option Child) → o ≡ None → IsSome o → A
no_half o none some = absurd (false≢true (subst (λ (x : Option Child). IsSome x) none some))

pub is_half : (o : Option Child) → (o ≡ None → ⊥) → IsSome o
is_half None some = absurd (some refl)
is_half (Some new) some = refl

-- reading lacks neither pages nor blocks
pub read_lacks_none : (e : TreeError) (down : Bool) → ReadRefusal down e → IsForRoom e → ⊥
read_lacks_none errors.StampBack down is need = need
read_lacks_none errors.TooHigh down is need = is
read_lacks_none (errors.BadNode page) down is need = need
read_lacks_none (errors.Damaged block) down is need = need
read_lacks_none (errors.Pages pages.PagesFull) down is need = is
read_lacks_none (errors.Pages pages.TooManyImages) down is need = need
read_lacks_none (errors.Pages pages.OutOfMemory) down is need = need
read_lacks_none (errors.Pages pages.Fault) down is need = need
read_lacks_none (errors.Pages pages.NeedsRecovery) down is need = need
read_lacks_none (errors.Once refusal) down is need = is
read_lacks_none errors.OutOfMemory down is need = need

-- nor does laying images for whose pages there is room
pub lay_lacks_none : (e : PageError) (homes unused count : ℕ) → LayRefusal homes unused count e → unused ≤ homes → IsForRoom (of_page e) → ⊥
lay_lacks_none pages.Fault homes unused count is inside need = need
lay_lacks_none pages.NeedsRecovery homes unused count is inside need = need
lay_lacks_none pages.TooManyImages homes unused count is inside need = need
lay_lacks_none pages.PagesFull homes unused count is inside need = omega (arith, is, inside)
lay_lacks_none pages.OutOfMemory homes unused count is inside need = need

-- raising a change fails for lack of room only where what is below is two nodes
pub raised_lacks : {F : Type 0} (change : Change) (r : Result Change TreeError) → (change.new ≡ None → r ≡ Ok change) → (IsSome change.new → F) → IfErr r (λ e. IsForRoom e → F)
raised_lacks change (Ok put) kept up = tt
raised_lacks change (Err e) kept up = λ need. up (is_half change.new (λ none. let h = kept none in absurd (cc)))

-- what is raised is in place where what is below is
pub raised_light : {S F G : Type 0} (before next : ℕ) (change : Change) (r : Result Change TreeError) → (change.new ≡ None → r ≡ Ok change) → next ≡ before → (F → G) → (IsInPlace next change × S) ⊎ F → IfOk r (λ put. (IsInPlace before put × S) ⊎ G)
raised_light before next change (Ok put) kept same up (inl p) =
    let same_put : put ≡ change = (let e = kept p.0.new in cc) in
    inl (subst (λ (c : Change). IsInPlace before c) (sym same_put) (subst (λ (n : ℕ). IsInPlace n change) same p.0), p.1)
raised_light before next change (Ok put) kept same up (inr f) = inr (up f)
raised_light before next change (Err e) kept same up light = tt

pub if_ok : {A E : Type 0} {F : A → Type 0} (r : Result A E) → ((a : A) → F a) → IfOk r F
if_ok (Ok a) each = each a
if_ok (Err e) each = tt

pub ok_then : {A E : Type 0} (F G : A → Type 0) (r : Result A E) → ((a : A) → F a → G a) → IfOk r F → IfOk r G
ok_then F G (Ok a) up is = up a is
ok_then F G (Err e) up is = tt

pub if_err : {A E : Type 0} {F : E → Type 0} (r : Result A E) → ((e : E) → F e) → IfErr r F
if_err (Ok a) each = tt
if_err (Err e) each = each e

-- what isn't planned isn't refused as too high
pub plan_never_high : (e : TreeError) (homes next level : ℕ) (down may_split : Bool) → PlanRefusal homes next level down may_split e → e ≡ errors.TooHigh → ⊥
plan_never_high e homes next level down may_split refused is = subst (λ (x : TreeError). PlanRefusal homes next level down may_split x) is refused

-- where pages are lacking for what is planned
pub plan_full : (e : TreeError) (homes next level : ℕ) (down may_split : Bool) → PlanRefusal homes next level down may_split e → e ≡ errors.Pages pages.PagesFull → homes < next + suc level
plan_full e homes next level down may_split refused is = subst (λ (x : TreeError). PlanRefusal homes next level down may_split x) is refused

-- laying itself never lacks pages
pub lay_never_full : (e : PageError) (homes unused count : ℕ) → LayRefusal homes unused count e → unused ≤ homes → of_page e ≡ errors.Pages pages.PagesFull → ⊥
lay_never_full pages.Fault homes unused count is inside same = cc
lay_never_full pages.NeedsRecovery homes unused count is inside same = cc
lay_never_full pages.TooManyImages homes unused count is inside same = cc
lay_never_full pages.PagesFull homes unused count is inside same = omega (arith, is, inside)
lay_never_full pages.OutOfMemory homes unused count is inside same = cc

pub page_never_high : (e : PageError) → of_page e ≡ errors.TooHigh → ⊥
page_never_high pages.Fault is = cc
page_never_high pages.NeedsRecovery is = cc
page_never_high pages.TooManyImages is = cc
page_never_high pages.PagesFull is = cc
page_never_high pages.OutOfMemory is = cc
