-- By cases on what a call returns.
use Rattle.std.proofs.Common.{◌≡◌, ◌≢◌, ◌⊎◌, inl, inr, Bool, true, false, refl, subst, Result, Ok, Err, Option, Some, None}
use Rattle.std.specs.Prelude.{OnOk, OnErr, IfOk, IfErr, IfSome, IfNone}
use Rattle.page_journal.specs.Refusals.{PostRefusal}
use Rattle.page_journal.specs.declared.error.PostError.{PostError}
use Rattle.page_journal.specs.declared.error.PostError.TheVariants as posts
use Rattle.page_journal.specs.declared.error.UseError.{UseError}
use Rattle.page_journal.specs.declared.error.UseError.TheVariants as uses
use Rattle.page_journal.specs.Refusals.{UseRefusal}
use Rattle.std.proofs.Common.{ℕ, ◌<◌, arith, nat_cmp, is_lt}
use Rattle.std.proofs.lemmas.Bool.Decides.{nat_tests}

pub on_each_err : {X E : Type 0} (r : Result X E) (P : Type 0) → P → OnErr r P
on_each_err (Ok x) P p = tt
on_each_err (Err e) P p = p

pub ok_then : {X E : Type 0} (r : Result X E) (P Q : Type 0) → (P → Q) → OnOk r P → OnOk r Q
ok_then (Ok x) P Q f p = f p
ok_then (Err e) P Q f p = tt

pub ok_both : {X E : Type 0} (r : Result X E) (P Q Z : Type 0) → OnOk r P → OnOk r Q → (P → Q → Z) → OnOk r Z
ok_both (Ok x) P Q Z p q step = step p q
ok_both (Err e) P Q Z p q step = tt

pub from_result : {X E : Type 0} (r : Result X E) (P Q Z : Type 0) → (P → Z) → (Q → Z) → OnOk r P → OnErr r Q → Z
from_result (Ok x) P Q Z ok err p q = ok p
from_result (Err e) P Q Z ok err p q = err q

pub down_or : (down : Bool) (P : Type 0) → (down ≡ false → P) → (down ≡ true) ⊎ P
down_or true P f = inl refl
down_or false P f = inr (f refl)

-- a failure of the device, or not
pub fault_or : (e : PostError) (P Q : Type 0) → (e ≡ posts.Fault → P) → (e ≢ posts.Fault → Q) → P ⊎ Q
fault_or posts.Fault P Q f g = inl (f refl)
fault_or posts.NeedsRecovery P Q f g = inr (g (λ x. cc))
fault_or posts.TooManyImages P Q f g = inr (g (λ x. cc))
fault_or posts.JournalFull P Q f g = inr (g (λ x. cc))

pub commit_refused : (down : Bool) (n closed : ℕ) (e : PostError) (r : UseError) → PostRefusal down n closed e → (r ≡ uses.Fault → e ≡ posts.Fault) → (r ≡ uses.NeedsRecovery → e ≡ posts.NeedsRecovery) → UseRefusal down r
commit_refused down n closed e uses.Fault p f g = let q = subst (PostRefusal down n closed) (f refl) p in q.usable
commit_refused down n closed e uses.NeedsRecovery p f g = subst (PostRefusal down n closed) (g refl) p

pub err_then : {X E : Type 0} (r : Result X E) (P Q : Type 0) → (P → Q) → OnErr r P → OnErr r Q
err_then (Ok x) P Q f p = tt
err_then (Err e) P Q f p = f p

-- what holds of an Ok's value where it is known why the result is one
pub if_ok_as : {X E : Type 0} (r : Result X E) (P : Type 0) (Q : X → Type 0) → OnOk r P → (P → IfOk r Q) → IfOk r Q
if_ok_as (Ok x) P Q p step = step p
if_ok_as (Err e) P Q p step = tt

-- what holds of a refusal
pub if_err : {X E : Type 0} (r : Result X E) (P Q : E → Type 0) → ((e : E) → P e → Q e) → IfErr r P → IfErr r Q
if_err (Ok x) P Q f p = tt
if_err (Err e) P Q f p = f e p

-- what holds of an option where it is known which one it is
pub if_none_at : {X : Type 0} (o : Option X) (P : Type 0) → o ≡ None → IfNone o P → P
if_none_at None P e p = p
if_none_at (Some x) P e p = cc

pub if_some_at : {X : Type 0} (o : Option X) (x : X) (P : X → Type 0) → o ≡ Some x → IfSome o P → P x
if_some_at None x P e p = cc
if_some_at (Some y) x P e p = let same : y ≡ x = cc in subst P same p

-- a test that says that one number is below another
pub is_less : (r : Bool) (a b : ℕ) → r ≡ is_lt (nat_cmp a b) → r ≡ true → a < b
is_less r a b is h = grind (arith, nat_tests)
