-- The records of a feed mean one list of results.
use Rattle.std.proofs.Common.{◌≡◌, ◌∙◌, ◌<◌, ◌≤◌, ◌⊎◌, inl, inr, ℕ, zero, suc, List, [], ◌∷◌, ◌++◌, length, take, Option, Some, None, Result, Ok, Err, refl, sym, ap, subst, arith}
use Rattle.std.proofs.lemmas.Option.{slice_get_within}
use Rattle.std.specs.List.{slice_get}
use Rattle.route_model.specs.Admission.{Admitted}
use Rattle.route_model.specs.Prefix.{IpPrefix}
use Rattle.route_model.specs.Sequence.{Each}
use Rattle.route_model.specs.Encoding.{route_octets}
use Rattle.route_model.specs.declared.change.Change.{Change}
use Rattle.route_model.specs.declared.change.Change.TheVariants as changes
use Rattle.route_model.specs.declared.peer.Peer.{Peer}
use Rattle.route_model.specs.declared.route.NextHop.{NextHop}
use Rattle.route_model.specs.declared.route.Route.{Route}
use Rattle.route_model.specs.declared.wire.AsWidth.{AsWidth}
use Rattle.route_model.specs.declared.wire.AsWidth.TheVariants as widths
use Rattle.route_model.specs.declared.wire.Family.{Family}
use Rattle.mrt_records.specs.Entries.{Entry}
use Rattle.mrt_records.specs.Values as records
use Rattle.mrt_records.specs.declared.neighbor.Neighbor.{Neighbor}
use Rattle.bgp_update.specs.Entries.{IsEntryRoute}
use Rattle.bgp_update.specs.Messages.{Reported, IsMessage, HasLarge}
use Rattle.bgp_update.specs.Routes.{four_hop, entry_hop, entry_route_of}
use Rattle.bgp_update.specs.declared.reading.PathAttributes.{PathAttributes}
use Rattle.bgp_update.proofs.api.OneReading.{attributes_one}
use Rattle.bgp_update.proofs.api.Reached.{entry_reach_one}
use Rattle.bgp_update.proofs.api.Reported.{message_one}
use Rattle.resolve.specs.Changes.{peer_of_neighbor, message_changes}
use Rattle.resolve.specs.Entries.{family_of, IsRouteOf, IsChangeOf, IsFaultOf, IsLeftOut, AreOthers, AreChangesOf, IsFirstFault}
use Rattle.resolve.specs.Meanings.{IsMeaning, Means}
use Rattle.resolve.specs.Records.{admitted, IsLong, MessageGives, StateGives, RibGives, RibGivesUnder, Gives, state_changes}
use Rattle.resolve.specs.declared.fault.ResolveFault.{ResolveFault}
use Rattle.resolve.specs.declared.fault.ResolveFault.TheVariants as faults
use Rattle.resolve.specs.declared.without_hop.WithoutHop.{WithoutHop}
use Rattle.resolve.proofs.Hops.{routed_stays}
use Rattle.resolve.proofs.OneTable.{one_table}
use Rattle.resolve.proofs.Others.{others_one}

abbrev Meaning : Type 0
Meaning = Result (Option Admitted) ResolveFault

-- a list of changes is an admission, or too large
abbrev Fits : ℕ → List Change → Meaning → Type 0
Fits time list x = ((IsLong (admitted time list) → ⊥) × (x ≡ Ok (Some (admitted time list)))) ⊎ (IsLong (admitted time list) × (x ≡ Err faults.AdmissionTooLarge))

fits_one : (time : ℕ) (list : List Change) (x y : Meaning) → Fits time list x → Fits time list y → x ≡ y
fits_one time list x y (inl a) (inl b) = a.1 ∙ sym b.1
fits_one time list x y (inl a) (inr b) = absurd (a.0 b.0)
fits_one time list x y (inr a) (inl b) = absurd (b.0 a.0)
fits_one time list x y (inr a) (inr b) = a.1 ∙ sym b.1

fits : (time : ℕ) (list : List Change) (a : Admitted) → a ≡ admitted time list → (IsLong a → ⊥) → Fits time list (Ok (Some a))
fits time list a same short = inl (subst (λ (t : Admitted). IsLong t → ⊥) same short, ap (λ (t : Admitted). Ok (Some t)) same)

-- messages

abbrev OfReported : Peer → ℕ → Reported → Meaning → Type 0
OfReported peer time m x = (HasLarge m × (x ≡ Err faults.RouteTooLarge)) ⊎ ((HasLarge m → ⊥) × Fits time (message_changes peer m) x)

reported_one : (peer : Peer) (time : ℕ) (m : Reported) (x y : Meaning) → OfReported peer time m x → OfReported peer time m y → x ≡ y
reported_one peer time m x y (inl a) (inl b) = a.1 ∙ sym b.1
reported_one peer time m x y (inl a) (inr b) = absurd (b.0 a.0)
reported_one peer time m x y (inr a) (inl b) = absurd (a.0 b.0)
reported_one peer time m x y (inr a) (inr b) = fits_one time (message_changes peer m) x y a.1 b.1

abbrev OfMessage : Peer → ℕ → AsWidth → List ℕ → Meaning → Type 0
OfMessage peer time width octets x =
    (((m : Reported) → IsMessage width octets m → ⊥) × (x ≡ Err faults.Malformed)) ⊎ ((m : Reported) × IsMessage width octets m × OfReported peer time m x)

of_message : (peer : Peer) (time : ℕ) (width : AsWidth) (octets : List ℕ) (x : Meaning) → MessageGives peer time width octets x → (x ≡ Err faults.OutOfMemory → ⊥) → OfMessage peer time width octets x
of_message peer time width octets (Ok None) g enough = absurd g
of_message peer time width octets (Ok (Some a)) g enough = inr (g.0, g.1, inr (g.2, fits time (message_changes peer g.0) a g.3 g.4))
of_message peer time width octets (Err faults.Malformed) g enough = inl (g, refl)
of_message peer time width octets (Err faults.RouteTooLarge) g enough = inr (g.0, g.1, inl (g.2, refl))
of_message peer time width octets (Err faults.AdmissionTooLarge) g enough = inr (g.0, g.1, inr (g.2, inr (g.3, refl)))
of_message peer time width octets (Err faults.NoPeerTable) g enough = absurd g
of_message peer time width octets (Err faults.BadPeerIndex) g enough = absurd g
of_message peer time width octets (Err faults.OutOfMemory) g enough = absurd (enough refl)

of_message_one : (peer : Peer) (time : ℕ) (width : AsWidth) (octets : List ℕ) (x y : Meaning) → OfMessage peer time width octets x → OfMessage peer time width octets y → x ≡ y
of_message_one peer time width octets x y (inl a) (inl b) = a.1 ∙ sym b.1
of_message_one peer time width octets x y (inl a) (inr b) = absurd (a.0 b.0 b.1)
of_message_one peer time width octets x y (inr a) (inl b) = absurd (b.0 a.0 a.1)
of_message_one peer time width octets x y (inr a) (inr b) =
    let same = message_one width octets b.0 a.0 b.1 a.1 in
    reported_one peer time a.0 x y a.2 (subst (λ (t : Reported). OfReported peer time t y) same b.2)

-- state changes

of_state : (peer : Peer) (time state : ℕ) (x : Meaning) → StateGives peer time state x → (x ≡ Err faults.OutOfMemory → ⊥) → Fits time (state_changes peer state) x
of_state peer time state (Ok None) g enough = absurd g
of_state peer time state (Ok (Some a)) g enough = fits time (state_changes peer state) a g.0 g.1
of_state peer time state (Err faults.AdmissionTooLarge) g enough = inr (g, refl)
of_state peer time state (Err faults.Malformed) g enough = absurd g
of_state peer time state (Err faults.RouteTooLarge) g enough = absurd g
of_state peer time state (Err faults.NoPeerTable) g enough = absurd g
of_state peer time state (Err faults.BadPeerIndex) g enough = absurd g
of_state peer time state (Err faults.OutOfMemory) g enough = absurd (enough refl)

-- entries

some_one : {X : Type 0} (x y : X) (o : Option X) → o ≡ Some x → o ≡ Some y → x ≡ y
some_one x y o e f = let same : Some x ≡ Some y = sym e ∙ f in cc

entry_route_one : (family : Family) (a : PathAttributes) (x y : Route) → IsEntryRoute family a x → IsEntryRoute family a y → x ≡ y
entry_route_one family a x y p q =
    let same = entry_reach_one a.reach q.reach p.reach q.is_reach p.is_reach in
    some_one x y (entry_route_of a (entry_hop family (four_hop a.next_hop) p.reach)) p.is_route
    (subst (λ (t : Option NextHop). entry_route_of a (entry_hop family (four_hop a.next_hop) t) ≡ Some y) same q.is_route)

route_one : (prefix : IpPrefix) (entry : Entry) (x y : Route) → IsRouteOf prefix entry x → IsRouteOf prefix entry y → x ≡ y
route_one prefix entry x y p q =
    let same = attributes_one widths.Four entry.attributes q.0 p.0 q.1 p.1 in
    entry_route_one (family_of prefix.address) p.0 x y p.2 (subst (λ (t : PathAttributes). IsEntryRoute (family_of prefix.address) t y) same q.2)

change_one : (c : ℕ) (peers : List Neighbor) (prefix : IpPrefix) (entry : Entry) (x y : Change) → IsChangeOf c peers prefix entry x → IsChangeOf c peers prefix entry y → x ≡ y
change_one c peers prefix entry x y p q =
    let neighbor = some_one p.neighbor q.neighbor (slice_get peers entry.peer_index) p.named q.named in
    let route = route_one prefix entry p.route q.route p.gives q.gives in
    p.announces ∙ ap (λ (t : Neighbor). changes.Announce (peer_of_neighbor c t) prefix p.route) neighbor ∙ ap (λ (t : Route). changes.Announce (peer_of_neighbor c q.neighbor) prefix t) route ∙ sym q.announces

each_one : (c : ℕ) (peers : List Neighbor) (prefix : IpPrefix) (entries : List Entry) (xs ys : List Change) → Each (IsChangeOf c peers prefix) entries xs → Each (IsChangeOf c peers prefix) entries ys → xs ≡ ys
each_one c peers prefix [] [] [] p q = refl
each_one c peers prefix [] [] (y ∷ ys) p q = absurd q
each_one c peers prefix [] (x ∷ xs) ys p q = absurd p
each_one c peers prefix (e ∷ entries) [] ys p q = absurd p
each_one c peers prefix (e ∷ entries) (x ∷ xs) [] p q = absurd q
each_one c peers prefix (e ∷ entries) (x ∷ xs) (y ∷ ys) p q =
    let first = change_one c peers prefix e x y p.0 q.0 in
    let rest = each_one c peers prefix entries xs ys p.1 q.1 in
    ap (λ (t : Change). t ∷ xs) first ∙ ap (λ (t : List Change). y ∷ t) rest

changes_one : (rule : WithoutHop) (c : ℕ) (peers : List Neighbor) (prefix : IpPrefix) (entries : List Entry) (xs ys : List Change) → AreChangesOf rule c peers prefix entries xs → AreChangesOf rule c peers prefix entries ys → xs ≡ ys
changes_one rule c peers prefix entries xs ys p q =
    let same = others_one (IsLeftOut rule peers) entries q.0 p.0 q.1 p.1 in
    each_one c peers prefix p.0 xs ys p.2 (subst (λ (t : List Entry). Each (IsChangeOf c peers prefix) t ys) same q.2)

-- an entry that announces a change has no fault
not_faulty : (rule : WithoutHop) (c : ℕ) (peers : List Neighbor) (prefix : IpPrefix) (entry : Entry) (x : Change) (fault : ResolveFault) → IsChangeOf c peers prefix entry x → IsFaultOf rule peers prefix entry fault → (fault ≡ faults.OutOfMemory → ⊥) → ⊥
not_faulty rule c peers prefix entry x faults.BadPeerIndex p f enough = let within = slice_get_within peers entry.peer_index p.neighbor p.named in omega (arith, within, f)
not_faulty rule c peers prefix entry x faults.Malformed p f enough = f.2 p.route p.gives
not_faulty rule c peers prefix entry x faults.RouteTooLarge p f enough =
    let large = subst (λ (t : Route). 3072 < length (route_octets t)) (route_one prefix entry f.1 p.route f.2 p.gives) f.3 in
    let small = p.fits in
    omega (arith, large, small)
not_faulty rule c peers prefix entry x faults.NoPeerTable p f enough = f
not_faulty rule c peers prefix entry x faults.AdmissionTooLarge p f enough = f
not_faulty rule c peers prefix entry x faults.OutOfMemory p f enough = enough refl

bad_index_one : (rule : WithoutHop) (peers : List Neighbor) (prefix : IpPrefix) (entry : Entry) (g : ResolveFault) → length peers ≤ entry.peer_index → IsFaultOf rule peers prefix entry g → (g ≡ faults.OutOfMemory → ⊥) → faults.BadPeerIndex ≡ g
bad_index_one rule peers prefix entry faults.BadPeerIndex a b enough = refl
bad_index_one rule peers prefix entry faults.Malformed a b enough = let within = b.0 in absurd (omega (arith, a, within))
bad_index_one rule peers prefix entry faults.RouteTooLarge a b enough = let within = b.0 in absurd (omega (arith, a, within))
bad_index_one rule peers prefix entry faults.NoPeerTable a b enough = absurd b
bad_index_one rule peers prefix entry faults.AdmissionTooLarge a b enough = absurd b
bad_index_one rule peers prefix entry faults.OutOfMemory a b enough = absurd (enough refl)

malformed_one : (rule : WithoutHop) (peers : List Neighbor) (prefix : IpPrefix) (entry : Entry) (g : ResolveFault) → entry.peer_index < length peers → ((route : Route) → IsRouteOf prefix entry route → ⊥) → IsFaultOf rule peers prefix entry g
    → (g ≡ faults.OutOfMemory → ⊥) → faults.Malformed ≡ g
malformed_one rule peers prefix entry faults.BadPeerIndex within none b enough = absurd (omega (arith, within, b))
malformed_one rule peers prefix entry faults.Malformed within none b enough = refl
malformed_one rule peers prefix entry faults.RouteTooLarge within none b enough = absurd (none b.1 b.2)
malformed_one rule peers prefix entry faults.NoPeerTable within none b enough = absurd b
malformed_one rule peers prefix entry faults.AdmissionTooLarge within none b enough = absurd b
malformed_one rule peers prefix entry faults.OutOfMemory within none b enough = absurd (enough refl)

large_one : (rule : WithoutHop) (peers : List Neighbor) (prefix : IpPrefix) (entry : Entry) (g : ResolveFault) (route : Route) → entry.peer_index < length peers → IsRouteOf prefix entry route → IsFaultOf rule peers prefix entry g
    → (g ≡ faults.OutOfMemory → ⊥) → faults.RouteTooLarge ≡ g
large_one rule peers prefix entry faults.BadPeerIndex route within gives b enough = absurd (omega (arith, within, b))
large_one rule peers prefix entry faults.Malformed route within gives b enough = absurd (b.2 route gives)
large_one rule peers prefix entry faults.RouteTooLarge route within gives b enough = refl
large_one rule peers prefix entry faults.NoPeerTable route within gives b enough = absurd b
large_one rule peers prefix entry faults.AdmissionTooLarge route within gives b enough = absurd b
large_one rule peers prefix entry faults.OutOfMemory route within gives b enough = absurd (enough refl)

fault_one : (rule : WithoutHop) (peers : List Neighbor) (prefix : IpPrefix) (entry : Entry) (f g : ResolveFault) → IsFaultOf rule peers prefix entry f → IsFaultOf rule peers prefix entry g
    → (f ≡ faults.OutOfMemory → ⊥) → (g ≡ faults.OutOfMemory → ⊥) → f ≡ g
fault_one rule peers prefix entry faults.BadPeerIndex g a b n m = bad_index_one rule peers prefix entry g a b m
fault_one rule peers prefix entry faults.Malformed g a b n m = malformed_one rule peers prefix entry g a.0 a.2 b m
fault_one rule peers prefix entry faults.RouteTooLarge g a b n m = large_one rule peers prefix entry g a.1 a.0 a.2 b m
fault_one rule peers prefix entry faults.NoPeerTable g a b n m = absurd a
fault_one rule peers prefix entry faults.AdmissionTooLarge g a b n m = absurd a
fault_one rule peers prefix entry faults.OutOfMemory g a b n m = absurd (n refl)

-- nor has one that is left out
pub left_not_faulty : (rule : WithoutHop) (peers : List Neighbor) (prefix : IpPrefix) (entry : Entry) (fault : ResolveFault) → IsLeftOut rule peers entry → IsFaultOf rule peers prefix entry fault → (fault ≡ faults.OutOfMemory → ⊥) → ⊥
left_not_faulty rule peers prefix entry faults.BadPeerIndex l f enough = let within = l.0 in omega (arith, within, f)
left_not_faulty rule peers prefix entry faults.Malformed l f enough = f.1 l.1
left_not_faulty rule peers prefix entry faults.RouteTooLarge l f enough = routed_stays rule prefix entry f.1 f.2 l.1
left_not_faulty rule peers prefix entry faults.NoPeerTable l f enough = f
left_not_faulty rule peers prefix entry faults.AdmissionTooLarge l f enough = f
left_not_faulty rule peers prefix entry faults.OutOfMemory l f enough = enough refl

-- the first of entries without a fault: it is left out, or it announces a change; and the others
abbrev Opened : WithoutHop → ℕ → List Neighbor → IpPrefix → Entry → List Entry → Type 0
Opened rule c peers prefix entry rest = (IsLeftOut rule peers entry ⊎ ((x : Change) × IsChangeOf c peers prefix entry x)) × ((ys : List Change) × AreChangesOf rule c peers prefix rest ys)

kept_opened : (rule : WithoutHop) (c : ℕ) (peers : List Neighbor) (prefix : IpPrefix) (entry : Entry) (rest more : List Entry) (xs : List Change)
    → AreOthers (IsLeftOut rule peers) rest more → Each (IsChangeOf c peers prefix) (entry ∷ more) xs → Opened rule c peers prefix entry rest
kept_opened rule c peers prefix entry rest more [] o e = absurd e
kept_opened rule c peers prefix entry rest more (x ∷ xs) o e = (inr (x, e.0), (xs, (more, o, e.1)))

opened : (rule : WithoutHop) (c : ℕ) (peers : List Neighbor) (prefix : IpPrefix) (entry : Entry) (rest : List Entry) (xs : List Change) → AreChangesOf rule c peers prefix (entry ∷ rest) xs → Opened rule c peers prefix entry rest
opened rule c peers prefix entry rest xs (kept, inl o, e) = (inl o.0, (xs, (kept, o.1, e)))
opened rule c peers prefix entry rest xs (kept, inr o, e) =
    kept_opened rule c peers prefix entry rest o.1 xs o.3 (subst (λ (t : List Entry). Each (IsChangeOf c peers prefix) t xs) o.2 e)

opened_fine : (rule : WithoutHop) (c : ℕ) (peers : List Neighbor) (prefix : IpPrefix) (entry : Entry) (rest : List Entry) (fault : ResolveFault)
    → Opened rule c peers prefix entry rest → IsFaultOf rule peers prefix entry fault → (fault ≡ faults.OutOfMemory → ⊥) → ⊥
opened_fine rule c peers prefix entry rest fault (inl l, more) f enough = left_not_faulty rule peers prefix entry fault l f enough
opened_fine rule c peers prefix entry rest fault (inr p, more) f enough = not_faulty rule c peers prefix entry p.0 fault p.1 f enough

-- the first fault of entries that are given as two lists, each with an entry that has a fault after entries that have none
first_one : (rule : WithoutHop) (c : ℕ) (peers : List Neighbor) (prefix : IpPrefix) (before after other_before other_after : List Entry) (entry other : Entry) (xs ys : List Change) (f g : ResolveFault)
    → before ++ entry ∷ after ≡ other_before ++ other ∷ other_after → AreChangesOf rule c peers prefix before xs → AreChangesOf rule c peers prefix other_before ys
    → IsFaultOf rule peers prefix entry f → IsFaultOf rule peers prefix other g → (f ≡ faults.OutOfMemory → ⊥) → (g ≡ faults.OutOfMemory → ⊥) → f ≡ g
first_one rule c peers prefix [] after [] other_after entry other xs ys f g e p q a b n m =
    let same : entry ≡ other = cc in
    fault_one rule peers prefix other f g (subst (λ (t : Entry). IsFaultOf rule peers prefix t f) same a) b n m
first_one rule c peers prefix [] after (k ∷ other_before) other_after entry other xs ys f g e p q a b n m =
    let same : entry ≡ k = cc in
    absurd (opened_fine rule c peers prefix k other_before f (opened rule c peers prefix k other_before ys q) (subst (λ (t : Entry). IsFaultOf rule peers prefix t f) same a) n)
first_one rule c peers prefix (j ∷ before) after [] other_after entry other xs ys f g e p q a b n m =
    let same : other ≡ j = cc in
    absurd (opened_fine rule c peers prefix j before g (opened rule c peers prefix j before xs p) (subst (λ (t : Entry). IsFaultOf rule peers prefix t g) same b) m)
first_one rule c peers prefix (j ∷ before) after (k ∷ other_before) other_after entry other xs ys f g e p q a b n m =
    let rest : before ++ entry ∷ after ≡ other_before ++ other ∷ other_after = cc in
    let one = (opened rule c peers prefix j before xs p).1 in
    let two = (opened rule c peers prefix k other_before ys q).1 in
    first_one rule c peers prefix before after other_before other_after entry other one.0 two.0 f g rest one.1 two.1 a b n m

first_fault_one : (rule : WithoutHop) (c : ℕ) (peers : List Neighbor) (prefix : IpPrefix) (entries : List Entry) (f g : ResolveFault) → IsFirstFault rule c peers prefix entries f → IsFirstFault rule c peers prefix entries g
    → (f ≡ faults.OutOfMemory → ⊥) → (g ≡ faults.OutOfMemory → ⊥) → f ≡ g
first_fault_one rule c peers prefix entries f g p q n m =
    first_one rule c peers prefix p.before p.after q.before q.after p.entry q.entry p.changes q.changes f g (sym p.parts ∙ q.parts) p.well q.well p.faulty q.faulty n m

-- entries of which each announces a change or is left out have no fault
well_or_faulty : (rule : WithoutHop) (c : ℕ) (peers : List Neighbor) (prefix : IpPrefix) (before after : List Entry) (entry : Entry) (xs : List Change) (f : ResolveFault)
    → AreChangesOf rule c peers prefix (before ++ entry ∷ after) xs → IsFaultOf rule peers prefix entry f → (f ≡ faults.OutOfMemory → ⊥) → ⊥
well_or_faulty rule c peers prefix [] after entry xs f p a n = opened_fine rule c peers prefix entry after f (opened rule c peers prefix entry after xs p) a n
well_or_faulty rule c peers prefix (b ∷ before) after entry xs f p a n =
    let rest = (opened rule c peers prefix b (before ++ entry ∷ after) xs p).1 in
    well_or_faulty rule c peers prefix before after entry rest.0 f rest.1 a n

none_faulty : (rule : WithoutHop) (c : ℕ) (peers : List Neighbor) (prefix : IpPrefix) (entries : List Entry) (xs : List Change) (f : ResolveFault) → AreChangesOf rule c peers prefix entries xs → IsFirstFault rule c peers prefix entries f
    → (f ≡ faults.OutOfMemory → ⊥) → ⊥
none_faulty rule c peers prefix entries xs f p q n =
    well_or_faulty rule c peers prefix q.before q.after q.entry xs f (subst (λ (t : List Entry). AreChangesOf rule c peers prefix t xs) q.parts p) q.faulty n

-- RIB records

-- these changes are an admission, or too large; nothing where there are none though there are entries
abbrev OfChanges : ℕ → List Entry → List Change → Meaning → Type 0
OfChanges time entries list x = ((list ≡ [] → entries ≡ []) × Fits time list x) ⊎ ((list ≡ []) × (entries ≡ [] → ⊥) × (x ≡ Ok None))

of_changes_one : (time : ℕ) (entries : List Entry) (list : List Change) (x y : Meaning) → OfChanges time entries list x → OfChanges time entries list y → x ≡ y
of_changes_one time entries list x y (inl a) (inl b) = fits_one time list x y a.1 b.1
of_changes_one time entries list x y (inl a) (inr b) = absurd (b.1 (a.0 b.0))
of_changes_one time entries list x y (inr a) (inl b) = absurd (a.1 (b.0 a.0))
of_changes_one time entries list x y (inr a) (inr b) = a.2 ∙ sym b.2

abbrev OfRib : WithoutHop → ℕ → List Neighbor → ℕ → IpPrefix → List Entry → Meaning → Type 0
OfRib rule c peers time prefix entries x =
    ((f : ResolveFault) × IsFirstFault rule c peers prefix entries f × (f ≡ faults.OutOfMemory → ⊥) × (x ≡ Err f))
    ⊎ ((list : List Change) × AreChangesOf rule c peers prefix entries list × OfChanges time entries list x)

of_rib : (rule : WithoutHop) (c : ℕ) (peers : List Neighbor) (time : ℕ) (prefix : IpPrefix) (entries : List Entry) (x : Meaning) → RibGives rule c peers time prefix entries x → (x ≡ Err faults.OutOfMemory → ⊥) → OfRib rule c peers time prefix entries x
of_rib rule c peers time prefix entries (Ok None) g enough = inr ([], g.0, inr (refl, g.1, refl))
of_rib rule c peers time prefix entries (Ok (Some a)) g enough = inr (g.0, g.1.0, inl (g.1.1, fits time g.0 a g.2 g.3))
of_rib rule c peers time prefix entries (Err faults.BadPeerIndex) g enough = inl (faults.BadPeerIndex, g, λ e. absurd cc, refl)
of_rib rule c peers time prefix entries (Err faults.Malformed) g enough = inl (faults.Malformed, g, λ e. absurd cc, refl)
of_rib rule c peers time prefix entries (Err faults.RouteTooLarge) g enough = inl (faults.RouteTooLarge, g, λ e. absurd cc, refl)
of_rib rule c peers time prefix entries (Err faults.AdmissionTooLarge) g enough = inr (g.0, g.1.0, inl (g.1.1, inr (g.2, refl)))
of_rib rule c peers time prefix entries (Err faults.NoPeerTable) g enough = absurd g
of_rib rule c peers time prefix entries (Err faults.OutOfMemory) g enough = absurd (enough refl)

of_rib_one : (rule : WithoutHop) (c : ℕ) (peers : List Neighbor) (time : ℕ) (prefix : IpPrefix) (entries : List Entry) (x y : Meaning) → OfRib rule c peers time prefix entries x → OfRib rule c peers time prefix entries y → x ≡ y
of_rib_one rule c peers time prefix entries x y (inl a) (inl b) =
    a.3 ∙ ap (λ (t : ResolveFault). Err t) (first_fault_one rule c peers prefix entries a.0 b.0 a.1 b.1 a.2 b.2) ∙ sym b.3
of_rib_one rule c peers time prefix entries x y (inl a) (inr b) = absurd (none_faulty rule c peers prefix entries b.0 a.0 b.1 a.1 a.2)
of_rib_one rule c peers time prefix entries x y (inr a) (inl b) = absurd (none_faulty rule c peers prefix entries a.0 b.0 a.1 b.1 b.2)
of_rib_one rule c peers time prefix entries x y (inr a) (inr b) =
    let same = changes_one rule c peers prefix entries b.0 a.0 b.1 a.1 in
    of_changes_one time entries a.0 x y a.2 (subst (λ (t : List Change). OfChanges time entries t y) same b.2)

under_one : (rule : WithoutHop) (c : ℕ) (table : Option (List Neighbor)) (time : ℕ) (prefix : IpPrefix) (entries : List Entry) (x y : Meaning)
    → RibGivesUnder rule c table time prefix entries x → RibGivesUnder rule c table time prefix entries y → (x ≡ Err faults.OutOfMemory → ⊥) → (y ≡ Err faults.OutOfMemory → ⊥) → x ≡ y
under_one rule c None time prefix entries x y p q n m = p ∙ sym q
under_one rule c (Some peers) time prefix entries x y p q n m =
    of_rib_one rule c peers time prefix entries x y (of_rib rule c peers time prefix entries x p n) (of_rib rule c peers time prefix entries y q m)

-- records

table_result : (x : Meaning) → (x ≡ Ok None) ⊎ (x ≡ Err faults.OutOfMemory) → (x ≡ Err faults.OutOfMemory → ⊥) → x ≡ Ok None
table_result x (inl e) n = e
table_result x (inr e) n = absurd (n e)

gives_one : (rule : WithoutHop) (c : ℕ) (table : Option (List Neighbor)) (r : records.Reported) (x y : Meaning) → Gives rule c table r x → Gives rule c table r y → (x ≡ Err faults.OutOfMemory → ⊥) → (y ≡ Err faults.OutOfMemory → ⊥) → x ≡ y
gives_one rule c table (records.Read (records.Message time peer width octets)) x y p q n m =
    of_message_one (peer_of_neighbor c peer) time width octets x y (of_message (peer_of_neighbor c peer) time width octets x p n) (of_message (peer_of_neighbor c peer) time width octets y q m)
gives_one rule c table (records.Read (records.StateChange time peer state)) x y p q n m =
    fits_one time (state_changes (peer_of_neighbor c peer) state) x y (of_state (peer_of_neighbor c peer) time state x p n) (of_state (peer_of_neighbor c peer) time state y q m)
gives_one rule c table (records.Read (records.Rib time prefix entries)) x y p q n m = under_one rule c table time prefix entries x y p q n m
gives_one rule c table (records.Read (records.PeerTable peers)) x y p q n m = table_result x p n ∙ sym (table_result y q m)
gives_one rule c table (records.Skipped kind subtype) x y p q n m = p ∙ sym q
gives_one rule c table (records.Malformed kind subtype) x y p q n m = p ∙ sym q

meaning_one : (rule : WithoutHop) (c : ℕ) (before : List records.Reported) (r : records.Reported) (x y : Meaning) → IsMeaning rule c before r x → IsMeaning rule c before r y → x ≡ y
meaning_one rule c before r x y p q =
    let same = one_table before q.table p.table q.last p.last in
    gives_one rule c p.table r x y p.gives (subst (λ (t : Option (List Neighbor)). Gives rule c t r y) same q.gives) p.lacking q.lacking

-- lists

some_at : {X : Type 0} (xs : List X) (n : ℕ) → n < length xs → (x : X) × (slice_get xs n ≡ Some x)
some_at [] n lt = absurd (omega (arith, lt))
some_at (x ∷ xs) zero lt = (x, refl)
some_at (x ∷ xs) (suc n) lt = some_at xs n (omega (arith, lt))

lists_one : {X : Type 0} (xs ys : List X) → length xs ≡ length ys → ((n : ℕ) (x y : X) → slice_get xs n ≡ Some x → slice_get ys n ≡ Some y → x ≡ y) → xs ≡ ys
lists_one [] [] same at = refl
lists_one [] (y ∷ ys) same at = absurd (omega (arith, same))
lists_one (x ∷ xs) [] same at = absurd (omega (arith, same))
lists_one (x ∷ xs) (y ∷ ys) same at =
    let first : x ≡ y = at zero x y refl refl in
    let rest : xs ≡ ys = lists_one xs ys (omega (arith, same)) (λ n a b e f. at (suc n) a b e f) in
    ap (λ t. t ∷ xs) first ∙ ap (λ t. y ∷ t) rest

pub one_meaning : (rule : WithoutHop) (c : ℕ) (list : List records.Reported) (x y : List Meaning) → Means rule c list x → Means rule c list y → x ≡ y
one_meaning rule c list x y p q =
    lists_one x y (p.count ∙ sym q.count)
    (λ n a b e f.
    let within = slice_get_within x n a e in
    let here = some_at list n (omega (arith, within, p.count)) in
    meaning_one rule c (take n list) here.0 a b (p.each n here.0 a here.1 e) (q.each n here.0 b here.1 f))
