-- Pages that aren't home, by their places in the list.
use Rattle.std.proofs.Common.{◌≡◌, ◌<◌, ⊎_elim, ℕ, zero, suc, List, [], ◌∷◌, Option, Some, None, IfSome, inl, inr, subst, sym}
use Rattle.std.proofs.lemmas.Bool.{cases_eq}
use Rattle.std.specs.List.{slice_get}
use Rattle.page_journal.specs.Recovers.{AreBelow, IsListed}
use Rattle.page_journal.specs.Bookkeeping.{unhomed_numbers, waiting_in}
use Rattle.page_journal.specs.declared.unhomed.Unhomed.{Unhomed}
use Rattle.page_journal.proofs.Counting.{waiting_here, waiting_there}
use Rattle.page_journal.proofs.Placing.{listed_below}

some_none : (n : ℕ) → Some n ≡ None → ⊥
some_none n e = cc

some_same : (m n : ℕ) → Some m ≡ Some n → n ≡ m
some_same m n e = cc

-- the number at a place is one of them
pub listed_there : (ns : List ℕ) (k n : ℕ) → slice_get ns k ≡ Some n → IsListed n ns
listed_there [] k n is = absurd (some_none n (sym is))
listed_there (m ∷ ns) zero n is = inl (some_same m n is)
listed_there (m ∷ ns) (suc k) n is = inr (listed_there ns k n is)

-- where there is one
pub if_at : (ns : List ℕ) (k : ℕ) (o : Option ℕ) → o ≡ slice_get ns k → IfSome o (λ n. IsListed n ns)
if_at ns k None is = tt
if_at ns k (Some n) is = listed_there ns k n (sym is)

pub if_below : (ns : List ℕ) (homes : ℕ) (o : Option ℕ) → AreBelow homes ns → IfSome o (λ n. IsListed n ns) → IfSome o (λ n. n < homes)
if_below ns homes None below listed = tt
if_below ns homes (Some n) below listed = listed_below homes ns n below listed

-- a page of a slot is one of all
pub waiting_listed : (t : ℕ) (l : List Unhomed) (n : ℕ) → IsListed n (waiting_in t l) → IsListed n (unhomed_numbers l)
waiting_listed t [] n listed = listed
waiting_listed t (u ∷ l) n listed = ⊎_elim
    (λ (is : u.slot ≡ t). ⊎_elim (λ e. inl e) (λ there. inr (waiting_listed t l n there)) (subst (IsListed n) (waiting_here t u l is) listed))
    (λ (ne : u.slot ≡ t → ⊥). inr (waiting_listed t l n (subst (IsListed n) (waiting_there t u l ne) listed)))
    (cases_eq u.slot t)

pub if_waiting : (t : ℕ) (l : List Unhomed) (o : Option ℕ) → IfSome o (λ n. IsListed n (waiting_in t l)) → IfSome o (λ n. IsListed n (unhomed_numbers l))
if_waiting t l None is = tt
if_waiting t l (Some n) is = waiting_listed t l n is
