-- What a RIB record means whose entries without a next hop are left out.
use Rattle.std.proofs.Common.{◌≡◌, ◌⊎◌, inl, inr, ℕ, List, [], ◌∷◌, ◌++◌, Option, Some, None, Result, Ok, Err, refl, sym, subst, arith, suc, length, ◌-◌, ap, ◌∙◌}
use Rattle.route_model.specs.Admission.{Admitted}
use Rattle.route_model.specs.Prefix.{IpPrefix}
use Rattle.route_model.specs.Sequence.{Each}
use Rattle.route_model.specs.declared.change.Change.{Change}
use Rattle.mrt_records.specs.Entries.{Entry}
use Rattle.mrt_records.specs.declared.neighbor.Neighbor.{Neighbor}
use Rattle.resolve.specs.Entries.{AreOthers, IsLeftOut, IsChangeOf, IsFaultOf, AreChangesOf, IsFirstFault}
use Rattle.mrt_records.specs.Values.{Read, Rib}
use Rattle.resolve.specs.Records.{AreAnnounced, RibGives, left_out}
use Rattle.resolve.specs.declared.fault.ResolveFault.{ResolveFault}
use Rattle.resolve.specs.declared.fault.ResolveFault.TheVariants as faults
use Rattle.resolve.specs.declared.without_hop.WithoutHop.TheVariants as rules
use Rattle.resolve.proofs.Hops.{none_left_out}
use Rattle.resolve.proofs.OneMeaning.{left_not_faulty}
use Rattle.resolve.proofs.Others.{others_all, others_one, others_parts}

-- entries of which none is left out, with their announcements
whole : (c : ℕ) (peers : List Neighbor) (prefix : IpPrefix) (entries : List Entry) (list : List Change) → Each (IsChangeOf c peers prefix) entries list → AreChangesOf rules.Refused c peers prefix entries list
whole c peers prefix entries list each = (entries, others_all (IsLeftOut rules.Refused peers) entries (λ e l. none_left_out peers e l), each)

-- the announcements of entries are those of the others
of_others : (c : ℕ) (peers : List Neighbor) (prefix : IpPrefix) (entries others : List Entry) (list : List Change) → AreOthers (IsLeftOut rules.LeftOut peers) entries others
    → AreChangesOf rules.LeftOut c peers prefix entries list → Each (IsChangeOf c peers prefix) others list
of_others c peers prefix entries others list o all =
    subst (λ (t : List Entry). Each (IsChangeOf c peers prefix) t list) (others_one (IsLeftOut rules.LeftOut peers) entries all.0 others all.1 o) all.2

none_of_nothing : (c : ℕ) (peers : List Neighbor) (prefix : IpPrefix) (others : List Entry) (list : List Change) → Each (IsChangeOf c peers prefix) others list → list ≡ [] → others ≡ []
none_of_nothing c peers prefix [] list each e = refl
none_of_nothing c peers prefix (x ∷ others) [] each e = absurd each
none_of_nothing c peers prefix (x ∷ others) (y ∷ list) each e = absurd cc

announced : (c : ℕ) (peers : List Neighbor) (prefix : IpPrefix) (entries others : List Entry) (list : List Change) → AreOthers (IsLeftOut rules.LeftOut peers) entries others
    → AreAnnounced rules.LeftOut c peers prefix entries list → AreAnnounced rules.Refused c peers prefix others list
announced c peers prefix entries others list o all =
    let each = of_others c peers prefix entries others list o all.0 in
    (whole c peers prefix others list each, λ e. none_of_nothing c peers prefix others list each e)

same_fault : (peers : List Neighbor) (prefix : IpPrefix) (entry : Entry) (fault : ResolveFault) → IsFaultOf rules.LeftOut peers prefix entry fault → IsFaultOf rules.Refused peers prefix entry fault
same_fault peers prefix entry faults.BadPeerIndex f = f
same_fault peers prefix entry faults.Malformed f = (f.0, λ l. l.2, f.2)
same_fault peers prefix entry faults.RouteTooLarge f = f
same_fault peers prefix entry faults.NoPeerTable f = f
same_fault peers prefix entry faults.AdmissionTooLarge f = f
same_fault peers prefix entry faults.OutOfMemory f = f

first : (c : ℕ) (peers : List Neighbor) (prefix : IpPrefix) (entries others : List Entry) (fault : ResolveFault) → (fault ≡ faults.OutOfMemory → ⊥) → AreOthers (IsLeftOut rules.LeftOut peers) entries others
    → IsFirstFault rules.LeftOut c peers prefix entries fault → IsFirstFault rules.Refused c peers prefix others fault
first c peers prefix entries others fault enough o f =
    let parts = others_parts (IsLeftOut rules.LeftOut peers) f.before f.entry f.after others (λ l. left_not_faulty rules.LeftOut peers prefix f.entry fault l f.faulty enough)
    (subst (λ (t : List Entry). AreOthers (IsLeftOut rules.LeftOut peers) t others) f.parts o) in
    record {
      before = parts.0;
      entry = f.entry;
      after = parts.1;
      changes = f.changes;
      parts = parts.2;
      well = whole c peers prefix parts.0 f.changes (of_others c peers prefix f.before parts.0 f.changes parts.3 f.well);
      faulty = same_fault peers prefix f.entry fault f.faulty;
    }

pub others_mean : (c : ℕ) (peers : List Neighbor) (time : ℕ) (prefix : IpPrefix) (entries others : List Entry) (result : Result (Option Admitted) ResolveFault) → AreOthers (IsLeftOut rules.LeftOut peers) entries others
    → (others ≡ [] → entries ≡ []) → RibGives rules.LeftOut c peers time prefix entries result → RibGives rules.Refused c peers time prefix others result
others_mean c peers time prefix entries others (Ok None) o some g =
    absurd (g.1 (some (none_of_nothing c peers prefix others [] (of_others c peers prefix entries others [] o g.0) refl)))
others_mean c peers time prefix entries others (Ok (Some a)) o some g = (g.0, announced c peers prefix entries others g.0 o g.1, g.2, g.3)
others_mean c peers time prefix entries others (Err faults.BadPeerIndex) o some g = first c peers prefix entries others faults.BadPeerIndex (λ e. absurd cc) o g
others_mean c peers time prefix entries others (Err faults.Malformed) o some g = first c peers prefix entries others faults.Malformed (λ e. absurd cc) o g
others_mean c peers time prefix entries others (Err faults.RouteTooLarge) o some g = first c peers prefix entries others faults.RouteTooLarge (λ e. absurd cc) o g
others_mean c peers time prefix entries others (Err faults.AdmissionTooLarge) o some g = (g.0, announced c peers prefix entries others g.0 o g.1, g.2)
others_mean c peers time prefix entries others (Err faults.NoPeerTable) o some g = absurd g
others_mean c peers time prefix entries others (Err faults.OutOfMemory) o some g = tt

no_list : (c : ℕ) (peers : List Neighbor) (prefix : IpPrefix) (entries : List Entry) (list : List Change) → AreOthers (IsLeftOut rules.LeftOut peers) entries [] → (entries ≡ [] → ⊥)
    → AreAnnounced rules.LeftOut c peers prefix entries list → ⊥
no_list c peers prefix entries [] o some all = some (all.1 refl)
no_list c peers prefix entries (x ∷ list) o some all = of_others c peers prefix entries [] (x ∷ list) o all.0

none_there : (before : List Entry) (entry : Entry) (after : List Entry) → [] ≡ before ++ entry ∷ after → ⊥
none_there [] entry after e = absurd cc
none_there (x ∷ before) entry after e = absurd cc

no_fault : (c : ℕ) (peers : List Neighbor) (prefix : IpPrefix) (entries : List Entry) (fault : ResolveFault) → (fault ≡ faults.OutOfMemory → ⊥) → AreOthers (IsLeftOut rules.LeftOut peers) entries []
    → IsFirstFault rules.LeftOut c peers prefix entries fault → ⊥
no_fault c peers prefix entries fault enough o f =
    let found = first c peers prefix entries [] fault enough o f in
    none_there found.before found.entry found.after found.parts

pub nothing_means : (c : ℕ) (peers : List Neighbor) (time : ℕ) (prefix : IpPrefix) (entries : List Entry) (result : Result (Option Admitted) ResolveFault) → AreOthers (IsLeftOut rules.LeftOut peers) entries []
    → (entries ≡ [] → ⊥) → RibGives rules.LeftOut c peers time prefix entries result → (result ≡ Ok None) ⊎ (result ≡ Err faults.OutOfMemory)
nothing_means c peers time prefix entries (Ok None) o some g = inl refl
nothing_means c peers time prefix entries (Ok (Some a)) o some g = absurd (no_list c peers prefix entries g.0 o some g.1)
nothing_means c peers time prefix entries (Err faults.BadPeerIndex) o some g = absurd (no_fault c peers prefix entries faults.BadPeerIndex (λ e. absurd cc) o g)
nothing_means c peers time prefix entries (Err faults.Malformed) o some g = absurd (no_fault c peers prefix entries faults.Malformed (λ e. absurd cc) o g)
nothing_means c peers time prefix entries (Err faults.RouteTooLarge) o some g = absurd (no_fault c peers prefix entries faults.RouteTooLarge (λ e. absurd cc) o g)
nothing_means c peers time prefix entries (Err faults.AdmissionTooLarge) o some g = absurd (no_list c peers prefix entries g.0 o some g.1)
nothing_means c peers time prefix entries (Err faults.NoPeerTable) o some g = absurd g
nothing_means c peers time prefix entries (Err faults.OutOfMemory) o some g = inr refl

each_length : {A B : Type 0} (R : A → B → Type 0) (xs : List A) (ys : List B) → Each R xs ys → length xs ≡ length ys
each_length R [] [] h = refl
each_length R [] (y ∷ ys) h = absurd h
each_length R (x ∷ xs) [] h = absurd h
each_length R (x ∷ xs) (y ∷ ys) h = ap suc (each_length R xs ys h.1)

-- as many entries are left out as there are beyond the others
pub others_counted : (c : ℕ) (peers : List Neighbor) (time : ℕ) (prefix : IpPrefix) (entries others : List Entry) (meaning : Option Admitted) → AreOthers (IsLeftOut rules.LeftOut peers) entries others
    → RibGives rules.LeftOut c peers time prefix entries (Ok meaning) → left_out (Read (Rib time prefix entries)) (Ok meaning) ≡ length entries - length others
others_counted c peers time prefix entries others None o g =
    let none = none_of_nothing c peers prefix others [] (of_others c peers prefix entries others [] o g.0) refl in
    subst (λ (t : List Entry). length entries ≡ length entries - length t) (sym none) (omega arith)
others_counted c peers time prefix entries others (Some a) o g =
    let same = each_length (IsChangeOf c peers prefix) others g.0 (of_others c peers prefix entries others g.0 o g.1.0) in
    let changes : a.changes ≡ g.0 = ap (λ (t : Admitted). t.changes) g.2 in
    ap (λ (t : List Change). length entries - length t) changes ∙ ap (λ (n : ℕ). length entries - n) (sym same)
