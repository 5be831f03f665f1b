-- What is so of a success, and of what was written then.
use Rattle.std.proofs.Common.{◌≡◌, ℕ, List, Result, Ok, Err, IfOk, subst, sym}
use Rattle.service.specs.Outputs.{OutputState}

-- of each success that is so which follows
pub if_so : {A X : Type 0} (r : Result A X) (P Q : A → Type 0) → ((x : A) → P x → Q x) → IfOk r P → IfOk r Q
if_so (Ok x) P Q so p = so x p
if_so (Err why) P Q so p = tt

-- What is so of what a command's writers have is so of the writers that were lent to it, if these are the ones that it has.
pub written : {A X : Type 0} (r : Result A X) (P : A → OutputState → OutputState → Type 0) (out_now err_now : OutputState) {out err : OutputState} {m n k l : ℕ} → (m ≡ n → out ≡ out_now) → (k ≡ l → err ≡ err_now)
    → IfOk r (λ x. (m ≡ n) × (k ≡ l)) → IfOk r (λ x. P x out_now err_now) → IfOk r (λ x. P x out err)
written (Ok x) P out_now err_now {out} {err} out_is err_is same p = subst (λ (o : OutputState). P x o err) (sym (out_is same.0)) (subst (P x out_now) (sym (err_is same.1)) p)
written (Err why) P out_now err_now out_is err_is same p = tt

-- the same of a command that has files, too
pub filled : {A X F : Type 0} (r : Result A X) (Q : A → Type 0) (P : A → List F → OutputState → OutputState → Type 0) (files_now : List F) (out_now err_now : OutputState) {files : List F} {out err : OutputState} {i j m n k l : ℕ} → (i ≡ j → files ≡ files_now) → (m ≡ n → out ≡ out_now) → (k ≡ l → err ≡ err_now)
    → IfOk r (λ x. (i ≡ j) × (m ≡ n) × (k ≡ l) × Q x) → IfOk r (λ x. P x files_now out_now err_now) → IfOk r (λ x. P x files out err)
filled (Ok x) Q P files_now out_now err_now {files} {out} {err} files_are out_is err_is same p =
    subst (λ (f : List _). P x f out err) (sym (files_are same.0)) (subst (λ (o : OutputState). P x files_now o err) (sym (out_is same.1)) (subst (P x files_now out_now) (sym (err_is same.2)) p))
filled (Err why) Q P files_now out_now err_now files_are out_is err_is same p = tt
