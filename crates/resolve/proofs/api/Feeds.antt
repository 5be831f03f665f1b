-- The meaning of a feed as its records come.
use Rattle.std.proofs.Common.{◌≡◌, ◌∙◌, ◌<◌, inl, inr, ℕ, suc, List, [], ◌∷◌, ◌++◌, length, take, map, get_or, ◌+◌, Option, Some, None, Result, Err, refl, sym, ap, subst, arith, zero}
use Rattle.std.proofs.lemmas.List.{take-append-le, length-append, take_more, map-append}
use Rattle.std.proofs.lemmas.Bool.Decides.{leb_tells}
use Rattle.std.proofs.lemmas.Option.{slice_get_within}
use Rattle.std.proofs.Math.Seq.{take-append_seam}
use Rattle.std.specs.List.{slice_get}
use Rattle.route_model.specs.Admission.{Admitted}
use Rattle.mrt_records.specs.Values.{Reported, reported}
use Rattle.mrt_records.specs.declared.item.Item.{Item}
use Rattle.resolve.specs.Tables.{LastTable, Feed}
use Rattle.resolve.specs.Records.{Gives}
use Rattle.resolve.specs.Meanings.{IsMeaning, Means}
use Rattle.resolve.specs.declared.fault.ResolveFault.{ResolveFault}
use Rattle.resolve.specs.declared.fault.ResolveFault.TheVariants as faults
use Rattle.resolve.specs.declared.without_hop.WithoutHop.{WithoutHop}

-- the resolver of the collector c came after these records, which mean these results
pub record IsAfter (rule : WithoutHop) (c : ℕ) (records : List Reported) (feed : Feed) (results : List (Result (Option Admitted) ResolveFault)) : Type 0 where
  pub collector : feed.collector ≡ c
  pub last : LastTable records feed.table
  pub means : Means rule c records results

pub at_first : (rule : WithoutHop) (c : ℕ) (feed : Feed) (results : List (Result (Option Admitted) ResolveFault)) → feed.collector ≡ c → feed.table ≡ None → results ≡ [] → IsAfter rule c [] feed results
at_first rule c feed results same none empty = record {
  collector = same;
  last = inl (tt, none);
  means = record { count = ap length empty; each = λ n next result e f. absurd cc };
}

before_seam : {X : Type 0} (xs : List X) (y : X) (n : ℕ) → n < length xs → slice_get (xs ++ y ∷ []) n ≡ slice_get xs n
before_seam [] y n lt = absurd (omega (arith, lt))
before_seam (x ∷ xs) y zero lt = refl
before_seam (x ∷ xs) y (suc n) lt = before_seam xs y n (omega (arith, lt))

at_seam : {X : Type 0} (xs : List X) (y : X) → slice_get (xs ++ y ∷ []) (length xs) ≡ Some y
at_seam [] y = refl
at_seam (x ∷ xs) y = at_seam xs y

-- one record more
pub one_more : (rule : WithoutHop) (c : ℕ) (records : List Reported) (results : List (Result (Option Admitted) ResolveFault)) (r : Reported) (x : Result (Option Admitted) ResolveFault)
    → Means rule c records results → IsMeaning rule c records r x → Means rule c (records ++ r ∷ []) (results ++ x ∷ [])
one_more rule c records results r x means is = record {
  count = let a = length-append results (x ∷ []) in let b = length-append records (r ∷ []) in let same = means.count in omega (arith, a, b, same);
  each = λ n next result e f.
      elim (leb_tells (length records) n) [
        | inl more ↦
            let ge = more.1 in
            let within = slice_get_within (records ++ r ∷ []) n next e in
            let same : n ≡ length records = let a = length-append records (r ∷ []) in omega (arith, within, a, ge) in
            let first : r ≡ next = let h : Some r ≡ Some next = sym (at_seam records r) ∙ ap (λ (k : ℕ). slice_get (records ++ r ∷ []) k) (sym same) ∙ e in cc in
            let second : x ≡ result = let h : Some x ≡ Some result = sym (at_seam results x) ∙ ap (λ (k : ℕ). slice_get (results ++ x ∷ []) k) (means.count ∙ sym same) ∙ f in cc in
            let front : records ≡ take n (records ++ r ∷ []) = sym (take-append_seam records (r ∷ [])) ∙ ap (λ (k : ℕ). take k (records ++ r ∷ [])) (sym same) in
            subst (λ (t : List Reported). IsMeaning rule c t next result) front
            (subst (λ (t : Reported). IsMeaning rule c records t result) first (subst (λ (t : Result (Option Admitted) ResolveFault). IsMeaning rule c records r t) second is))
        | inr less ↦
            let lt = less.1 in
            let here : slice_get records n ≡ Some next = sym (before_seam records r n lt) ∙ e in
            let there : slice_get results n ≡ Some result = sym (before_seam results x n (omega (arith, lt, means.count))) ∙ f in
            subst (λ (t : List Reported). IsMeaning rule c t next result) (sym (take-append-le n records (r ∷ []) (omega (arith, lt)))) (means.each n next result here there)
      ];
}

-- the next record of a feed
pub goes_on : (rule : WithoutHop) (c : ℕ) (records : List Reported) (old new : Feed) (results : List (Result (Option Admitted) ResolveFault)) (r : Reported) (x : Result (Option Admitted) ResolveFault)
    → IsAfter rule c records old results → new.collector ≡ old.collector → Gives rule old.collector old.table r x
    → ((x ≡ Err faults.OutOfMemory → ⊥) → (before : List Reported) → LastTable before old.table → LastTable (before ++ r ∷ []) new.table)
    → (x ≡ Err faults.OutOfMemory → ⊥) → IsAfter rule c (records ++ r ∷ []) new (results ++ x ∷ [])
goes_on rule c records old new results r x beyond same gives table enough = record {
  collector = same ∙ beyond.collector;
  last = table enough records beyond.last;
  means =
      one_more rule c records results r x beyond.means
      (record { table = old.table; last = beyond.last; gives = subst (λ (n : ℕ). Gives rule n old.table r x) beyond.collector gives; lacking = enough });
}

-- what the items say that were gone over, with one more
pub one_reported : (items : List Item) (i : ℕ) (item : Item) → i < length items → item ≡ get_or items i item → map reported (take (i + 1) items) ≡ map reported (take i items) ++ reported item ∷ []
one_reported items i item lt is =
    ap (λ (t : List Item). map reported t) (take_more items i item lt) ∙ map-append reported (take i items) (get_or items i item ∷ [])
    ∙ ap (λ (t : Item). map reported (take i items) ++ reported t ∷ []) (sym is)
