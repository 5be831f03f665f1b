-- The announcements of the entries that were gone over, one for each that isn't left out.
use Rattle.std.proofs.Common.{◌≡◌, ◌∙◌, ◌+◌, ℕ, Ok, Err, List, [], ◌∷◌, ◌++◌, length, Option, Some, None, refl, sym, ap, subst}
use Rattle.std.proofs.lemmas.List.{append_assoc, append-nil, length-append}
use Rattle.std.specs.List.{slice_get}
use Rattle.std.specs.Option.{option_to_list}
use Rattle.route_model.specs.Prefix.{IpPrefix}
use Rattle.route_model.specs.Sequence.{Each}
use Rattle.route_model.proofs.api.Sequences.{Each-append}
use Rattle.route_model.specs.declared.change.Change.{Change}
use Rattle.mrt_records.specs.Entries.{Entry}
use Rattle.mrt_records.specs.declared.neighbor.Neighbor.{Neighbor}
use Rattle.resolve.specs.Entries.{IsLeftOut, IsChangeOf, IsFaultOf, AreChangesOf, IsFirstFault, EntryGives, EntriesGive}
use Rattle.resolve.specs.declared.fault.ResolveFault.{ResolveFault}
use Rattle.resolve.specs.declared.fault.ResolveFault.TheVariants as faults
use Rattle.resolve.specs.declared.without_hop.WithoutHop.{WithoutHop}
use Rattle.resolve.proofs.Hops.{announced_stays}
use Rattle.resolve.proofs.Others.{others_left, others_kept}

-- the entries before the place announce these changes
pub record Announced (rule : WithoutHop) (c : ℕ) (peers : List Neighbor) (prefix : IpPrefix) (entries : List Entry) (place : ℕ) (changes : List Change) : Type 0 where
  pub before : List Entry
  pub after : List Entry
  pub parts : entries ≡ before ++ after
  pub passed : length before ≡ place
  pub well : AreChangesOf rule c peers prefix before changes

next_is : {X : Type 0} (xs ys : List X) → slice_get (xs ++ ys) (length xs) ≡ slice_get ys 0
next_is [] ys = refl
next_is (x ∷ xs) ys = next_is xs ys

-- the entry at the place is the first of those that are left
here : (rule : WithoutHop) (c : ℕ) (peers : List Neighbor) (prefix : IpPrefix) (entries : List Entry) (place : ℕ) (changes : List Change) (found : Option Entry) (a : Announced rule c peers prefix entries place changes)
    → found ≡ slice_get entries place → found ≡ slice_get a.after 0
here rule c peers prefix entries place changes found a e =
    e ∙ ap (λ (n : ℕ). slice_get entries n) (sym a.passed)
    ∙ ap (λ (t : List Entry). slice_get t (length a.before)) a.parts ∙ next_is a.before a.after

first_of : {X : Type 0} (x : X) (xs : List X) → Some x ≡ slice_get xs 0 → (more : List X) × (xs ≡ x ∷ more)
first_of x [] e = absurd cc
first_of x (y ∷ ys) e = let same : x ≡ y = cc in (ys, ap (λ t. t ∷ ys) (sym same))

none_of : {X : Type 0} (xs : List X) → None ≡ slice_get xs 0 → xs ≡ []
none_of [] e = refl
none_of (y ∷ ys) e = absurd cc

pub none_yet : (rule : WithoutHop) (c : ℕ) (peers : List Neighbor) (prefix : IpPrefix) (entries : List Entry) (changes : List Change) → changes ≡ [] → Announced rule c peers prefix entries 0 changes
none_yet rule c peers prefix entries changes e = record {
  before = [];
  after = entries;
  parts = refl;
  passed = refl;
  well = ([], refl, subst (λ (t : List Change). Each (IsChangeOf c peers prefix) [] t) (sym e) tt);
}

-- the next entry announces a change
one_more : (rule : WithoutHop) (c : ℕ) (peers : List Neighbor) (prefix : IpPrefix) (entries : List Entry) (place : ℕ) (changes : List Change) (entry : Entry) (change : Change)
    → Announced rule c peers prefix entries place changes → Some entry ≡ slice_get entries place → IsChangeOf c peers prefix entry change
    → Announced rule c peers prefix entries (place + 1) (changes ++ change ∷ [])
one_more rule c peers prefix entries place changes entry change a e is =
    let more = first_of entry a.after (here rule c peers prefix entries place changes (Some entry) a e) in
    record {
      before = a.before ++ entry ∷ [];
      after = more.0;
      parts = a.parts ∙ ap (λ (t : List Entry). a.before ++ t) more.1 ∙ sym (append_assoc a.before (entry ∷ []) more.0);
      passed = length-append a.before (entry ∷ []) ∙ ap (λ (n : ℕ). n + 1) a.passed;
      well = (
        a.well.0 ++ entry ∷ [],
        others_kept (IsLeftOut rule peers) a.before entry a.well.0 a.well.1 (announced_stays rule c peers prefix entry change is),
        Each-append (IsChangeOf c peers prefix) a.well.0 (entry ∷ []) changes (change ∷ []) a.well.2 (is, tt),
      );
    }

-- the next entry is left out
one_less : (rule : WithoutHop) (c : ℕ) (peers : List Neighbor) (prefix : IpPrefix) (entries : List Entry) (place : ℕ) (changes : List Change) (entry : Entry)
    → Announced rule c peers prefix entries place changes → Some entry ≡ slice_get entries place → IsLeftOut rule peers entry
    → Announced rule c peers prefix entries (place + 1) changes
one_less rule c peers prefix entries place changes entry a e left =
    let more = first_of entry a.after (here rule c peers prefix entries place changes (Some entry) a e) in
    record {
      before = a.before ++ entry ∷ [];
      after = more.0;
      parts = a.parts ∙ ap (λ (t : List Entry). a.before ++ t) more.1 ∙ sym (append_assoc a.before (entry ∷ []) more.0);
      passed = length-append a.before (entry ∷ []) ∙ ap (λ (n : ℕ). n + 1) a.passed;
      well = (a.well.0, others_left (IsLeftOut rule peers) a.before entry a.well.0 a.well.1 left, a.well.2);
    }

-- the next entry announces this, or it is left out
pub went_on : (rule : WithoutHop) (c : ℕ) (peers : List Neighbor) (prefix : IpPrefix) (entries : List Entry) (place : ℕ) (changes : List Change) (entry : Entry) (change : Option Change)
    → Announced rule c peers prefix entries place changes → Some entry ≡ slice_get entries place → EntryGives rule c peers prefix entry (Ok change)
    → Announced rule c peers prefix entries (place + 1) (changes ++ option_to_list change)
went_on rule c peers prefix entries place changes entry (Some change) a e is = one_more rule c peers prefix entries place changes entry change a e is
went_on rule c peers prefix entries place changes entry None a e left =
    subst (λ (t : List Change). Announced rule c peers prefix entries (place + 1) t) (sym (append-nil changes)) (one_less rule c peers prefix entries place changes entry a e left)

faulty_one : (rule : WithoutHop) (c : ℕ) (peers : List Neighbor) (prefix : IpPrefix) (entries : List Entry) (place : ℕ) (changes : List Change) (entry : Entry) (fault : ResolveFault)
    → Announced rule c peers prefix entries place changes → Some entry ≡ slice_get entries place → IsFaultOf rule peers prefix entry fault
    → IsFirstFault rule c peers prefix entries fault
faulty_one rule c peers prefix entries place changes entry fault a e is =
    let more = first_of entry a.after (here rule c peers prefix entries place changes (Some entry) a e) in
    record {
      before = a.before;
      entry = entry;
      after = more.0;
      changes = changes;
      parts = a.parts ∙ ap (λ (t : List Entry). a.before ++ t) more.1;
      well = a.well;
      faulty = is;
    }

pub all_announced : (rule : WithoutHop) (c : ℕ) (peers : List Neighbor) (prefix : IpPrefix) (entries : List Entry) (place : ℕ) (changes : List Change)
    → Announced rule c peers prefix entries place changes → None ≡ slice_get entries place → AreChangesOf rule c peers prefix entries changes
all_announced rule c peers prefix entries place changes a e =
    let none = none_of a.after (here rule c peers prefix entries place changes None a e) in
    let same : entries ≡ a.before = a.parts ∙ ap (λ (t : List Entry). a.before ++ t) none ∙ append-nil a.before in
    subst (λ (t : List Entry). AreChangesOf rule c peers prefix t changes) (sym same) a.well

pub stopped : (rule : WithoutHop) (c : ℕ) (peers : List Neighbor) (prefix : IpPrefix) (entries : List Entry) (place : ℕ) (changes : List Change) (entry : Entry) (fault : ResolveFault)
    → Announced rule c peers prefix entries place changes → Some entry ≡ slice_get entries place → IsFaultOf rule peers prefix entry fault
    → EntriesGive rule c peers prefix entries (Err fault)
stopped rule c peers prefix entries place changes entry faults.BadPeerIndex a e is = faulty_one rule c peers prefix entries place changes entry faults.BadPeerIndex a e is
stopped rule c peers prefix entries place changes entry faults.Malformed a e is = faulty_one rule c peers prefix entries place changes entry faults.Malformed a e is
stopped rule c peers prefix entries place changes entry faults.RouteTooLarge a e is = faulty_one rule c peers prefix entries place changes entry faults.RouteTooLarge a e is
stopped rule c peers prefix entries place changes entry faults.NoPeerTable a e is = absurd is
stopped rule c peers prefix entries place changes entry faults.AdmissionTooLarge a e is = absurd is
stopped rule c peers prefix entries place changes entry faults.OutOfMemory a e is = tt

-- a record without entries, or with some that are kept
pub some_left : (entries : List Entry) (changes : List Change) → ((changes ≡ []) × (entries ≡ [] → ⊥) → ⊥) → changes ≡ [] → entries ≡ []
some_left [] changes n e = refl
some_left (x ∷ entries) changes n e = absurd (n (e, λ (s : (x ∷ entries) ≡ []). absurd cc))
