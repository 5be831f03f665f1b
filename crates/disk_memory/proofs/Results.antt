-- What holds on either outcome.
use Rattle.std.proofs.Common.{◌≡◌, ◌⊎◌, inl, inr, ◌<◌, ◌≤◌, ℕ, List, length, get_or, Result, Ok, Err, OnOk, OnErr, Option, None, Some, Bor, Bool, false, slice_get, option_copied, ltb, refl, sym, ◌∙◌, ap}
use Rattle.disk_memory.specs.declared.torn.Torn.{Torn}
use Rattle.disk_memory.specs.inner.Failing.{octets_kept}
use Rattle.std.specs.Option.{IfSome, MatchOption, is_some}
use Rattle.std.proofs.lemmas.Bool.{ltb-true, ltb-false}
use Rattle.std.proofs.lemmas.Option.{slice_get_past, slice_get-get_or}

pub ok_or_err : {T E : Type 0} (r : Result T E) (P Q : Type 0) → OnOk r P → OnErr r Q → P ⊎ Q
ok_or_err (Ok x) P Q p q = inl p
ok_or_err (Err e) P Q p q = inr q

-- what a `get` returns is the element there
pub got_is : {X : Type 0} (xs : List X) (i : ℕ) (r : Option (Bor X)) → IfSome r (λ x. x.now ≡ get_or xs i x.now) → MatchOption r (length xs ≤ i) (λ _. i < length xs) → option_copied r ≡ slice_get xs i
got_is xs i None is bound = sym (slice_get_past xs i bound)
got_is xs i (Some x) is bound = ap Some is ∙ sym (slice_get-get_or xs i x.now bound)

pub bound_of : {X : Type 0} (xs : List X) (i : ℕ) (r : Option (Bor X)) → is_some r ≡ ltb i (length xs) → MatchOption r (length xs ≤ i) (λ _. i < length xs)
bound_of xs i None is = ltb-false i (length xs) (sym is)
bound_of xs i (Some x) is = ltb-true i (length xs) (sym is)

pub on_ok_both : {T E : Type 0} (r : Result T E) (P Q : Type 0) → OnOk r P → OnOk r Q → OnOk r (P × Q)
on_ok_both (Ok x) P Q p q = (p, q)
on_ok_both (Err e) P Q p q = tt

pub on_err_weaker_to : {T E : Type 0} (r : Result T E) (P Q : Type 0) → (P → Q) → OnErr r P → OnErr r Q
on_err_weaker_to (Ok x) P Q so p = tt
on_err_weaker_to (Err e) P Q so p = so p

-- a write that the script doesn't have fail leaves all its octets
pub whole : (failure : Option (Bor Torn)) (fails : Bool) (from : List ℕ) → fails ≡ is_some failure → fails ≡ false → octets_kept (option_copied failure) from ≡ from
whole None fails from is none = refl
whole (Some torn) fails from is none = absurd cc

pub on_err : {T E : Type 0} (r : Result T E) (Q : Type 0) → Q → OnErr r Q
on_err (Ok x) Q q = tt
on_err (Err e) Q q = q
