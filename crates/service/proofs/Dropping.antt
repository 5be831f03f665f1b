-- A feed whose first admissions are dropped.
use Rattle.std.proofs.Common.{◌≡◌, ◌∙◌, ℕ, zero, suc, Bool, true, false, List, [], ◌∷◌, ◌++◌, length, drop, map, Option, Some, None, Result, Ok, Err, refl, sym, ap}
use Rattle.std.specs.List.{slice_get}
use Rattle.route_model.specs.Admission.{Admitted}
use Rattle.route_meaning.specs.History.{Intake}
use Rattle.interleaving_core.specs.World.{resume_of}
use Rattle.mrt_records.specs.Values.{Reported}
use Rattle.resolve.specs.Meanings.{IsMeaning}
use Rattle.resolve.specs.declared.fault.ResolveFault.{ResolveFault}
use Rattle.resolve.specs.declared.fault.ResolveFault.TheVariants as faults
use Rattle.resolve.proofs.api.Feeds.{one_more}
use Rattle.resolve.specs.declared.without_hop.WithoutHop.{WithoutHop}
use Rattle.service.specs.Turns.{admissions_of}
use Rattle.service.specs.FeedTexts.{intake_in}
use Rattle.service.specs.Resuming.{MeansFrom, dropped_where, left_after, left_over, taken_at, without_first}

pub taken_snoc : (n : ℕ) (meanings : List (Result (Option Admitted) ResolveFault)) (m : Result (Option Admitted) ResolveFault) → without_first n (meanings ++ m ∷ []) ≡ without_first n meanings ++ taken_at (left_over n meanings) m ∷ []
taken_snoc n [] m = refl
taken_snoc n (q ∷ meanings) m = ap (λ (t : List _). taken_at n q ∷ t) (taken_snoc (left_after n q) meanings m)

left_snoc : (n : ℕ) (meanings : List (Result (Option Admitted) ResolveFault)) (m : Result (Option Admitted) ResolveFault) → left_over n (meanings ++ m ∷ []) ≡ left_after (left_over n meanings) m
left_snoc n [] m = refl
left_snoc n (q ∷ meanings) m = left_snoc (left_after n q) meanings m

as_many_taken : (n : ℕ) (meanings : List (Result (Option Admitted) ResolveFault)) → length (without_first n meanings) ≡ length meanings
as_many_taken n [] = refl
as_many_taken n (q ∷ meanings) = ap suc (as_many_taken (left_after n q) meanings)

-- something is taken of each record
pub taken_count : (rule : WithoutHop) (c dropped : ℕ) (records : List Reported) (results : List (Result (Option Admitted) ResolveFault)) → MeansFrom rule c dropped records results → length results ≡ length records
taken_count rule c dropped records results m = ap length m.taken ∙ as_many_taken dropped m.meanings ∙ m.means.count

-- one more record
abbrev pub meant_more : (rule : WithoutHop) (c dropped : ℕ) (records : List Reported) (results : List (Result (Option Admitted) ResolveFault)) (r : Reported) (x y : Result (Option Admitted) ResolveFault) (m : MeansFrom rule c dropped records results)
    → IsMeaning rule c records r x → y ≡ taken_at (left_over dropped m.meanings) x → MeansFrom rule c dropped (records ++ r ∷ []) (results ++ y ∷ [])
meant_more rule c dropped records results r x y m is taken = record {
  meanings = m.meanings ++ x ∷ [];
  means = one_more rule c records m.meanings r x m.means is;
  taken = (λ k. m.taken k ++ taken k ∷ []) ∙ sym (taken_snoc dropped m.meanings x);
}

-- this many are dropped after it
pub drops_more : (dropped n now : ℕ) (meanings : List (Result (Option Admitted) ResolveFault)) (x : Result (Option Admitted) ResolveFault) → n ≡ left_over dropped meanings → now ≡ left_after n x → now ≡ left_over dropped (meanings ++ x ∷ [])
drops_more dropped n now meanings x was is = is ∙ ap (λ (t : ℕ). left_after t x) was ∙ sym (left_snoc dropped meanings x)

-- running out of memory isn't dropped
pub still_out_of_memory : (n : ℕ) (x : Result (Option Admitted) ResolveFault) → x ≡ Err faults.OutOfMemory → taken_at n x ≡ Err faults.OutOfMemory
still_out_of_memory n (Err fault) e = e
still_out_of_memory n (Ok None) e = absurd cc
still_out_of_memory n (Ok (Some a)) e = absurd cc

-- where nothing is dropped, all is taken
pub all_taken : (meanings : List (Result (Option Admitted) ResolveFault)) → without_first 0 meanings ≡ meanings
all_taken [] = refl
all_taken (Err fault ∷ meanings) = ap (λ (t : List _). Err fault ∷ t) (all_taken meanings)
all_taken (Ok None ∷ meanings) = ap (λ (t : List _). Ok None ∷ t) (all_taken meanings)
all_taken (Ok (Some a) ∷ meanings) = ap (λ (t : List _). Ok (Some a) ∷ t) (all_taken meanings)

-- the first admissions are left out, and no other
pub taken_admissions : (n : ℕ) (meanings : List (Result (Option Admitted) ResolveFault)) → admissions_of (without_first n meanings) ≡ drop n (admissions_of meanings)
taken_admissions zero [] = refl
taken_admissions (suc n) [] = refl
taken_admissions n (Err fault ∷ meanings) = taken_admissions n meanings
taken_admissions n (Ok None ∷ meanings) = taken_admissions n meanings
taken_admissions zero (Ok (Some a) ∷ meanings) = ap (λ (t : List Admitted). a ∷ t) (taken_admissions zero meanings)
taken_admissions (suc n) (Ok (Some a) ∷ meanings) = taken_admissions n meanings

-- ---- how many are dropped

offered_none : (intakes : List Intake) (c : ℕ) → slice_get (map resume_of intakes) c ≡ None → (intake_in intakes c).offered ≡ 0
offered_none [] c e = refl
offered_none (i ∷ intakes) zero e = absurd cc
offered_none (i ∷ intakes) (suc c) e = offered_none intakes c e

-- of a collector that there isn't nothing was offered
pub dropped_none : (resume : Bool) (intakes : List Intake) (c : ℕ) → slice_get (map resume_of intakes) c ≡ None → 0 ≡ dropped_where resume (intake_in intakes c)
dropped_none true intakes c e = sym (offered_none intakes c e)
dropped_none false intakes c e = refl

-- and it has no mark
pub marked_none : (intakes : List Intake) (c : ℕ) → slice_get (map resume_of intakes) c ≡ None → 0 ≡ (intake_in intakes c).mark
marked_none [] c e = refl
marked_none (i ∷ intakes) zero e = absurd cc
marked_none (i ∷ intakes) (suc c) e = marked_none intakes c e
