-- Why changes are no admission, as a fault of their record.
use Rattle.std.proofs.Common.{◌≡◌, ◌<◌, ℕ, Bool, List, [], ◌∷◌, ◌++◌, map, filter, not, if◌then◌else◌, length, Option, Some, None, Err, refl, sym, subst, arith, zero, suc, ◌⊎◌, inl, inr, ◌==◌, true, false}
use Rattle.std.specs.List.{Any}
use Rattle.route_model.specs.Admission.{Admitted, IsTooLarge, admission_octets}
use Rattle.route_model.specs.Admission as admissions
use Rattle.route_model.specs.Prefix.{IpPrefix}
use Rattle.route_model.specs.Sequence.{Each}
use Rattle.route_model.specs.Encoding.{route_octets}
use Rattle.route_model.specs.declared.admission.AdmissionError.{AdmissionError}
use Rattle.route_model.specs.declared.admission.AdmissionError.TheVariants as errors
use Rattle.route_model.specs.declared.change.Change.{Change}
use Rattle.route_model.specs.declared.change.Change.TheVariants as changes
use Rattle.route_model.specs.declared.peer.Peer.{Peer}
use Rattle.route_model.specs.declared.route.Route.{Route}
use Rattle.route_model.specs.declared.wire.AsWidth.{AsWidth}
use Rattle.mrt_records.specs.Entries.{Entry}
use Rattle.mrt_records.specs.declared.neighbor.Neighbor.{Neighbor}
use Rattle.bgp_update.specs.Messages.{Announced, Reported, Update, Notification, Other, IsMessage, IsLarge, HasLarge}
use Rattle.resolve.specs.Changes.{withdrawals, announcements, message_changes, is_among}
use Rattle.resolve.specs.Entries.{IsChangeOf}
use Rattle.resolve.specs.Faults.{of_admission}
use Rattle.resolve.specs.Records.{AreAnnounced, MessageGives, StateGives, RibGives, IsLong, admitted, state_changes}
use Rattle.resolve.specs.declared.without_hop.WithoutHop.{WithoutHop}

-- the calls that may refuse an admission of these changes, and what each refusal says
pub record IsRefused (time : ℕ) (list : List Change) (e : AdmissionError) : Type 0 where
  pub route : e ≡ errors.RouteTooLarge → Any admissions.IsLarge list
  pub long : e ≡ errors.AdmissionTooLarge → IsTooLarge (admitted time list)

-- one of the elements has P, by recursion
abbrev Has : (Change → Type 0) → List Change → Type 0
Has P [] = ⊥
Has P (x ∷ xs) = P x ⊎ Has P xs

any_has : (P : Change → Type 0) (xs : List Change) → Any P xs → Has P xs
any_has P [] (k, x, lt, at, p) = absurd (omega (arith, lt))
any_has P (y ∷ ys) (zero, x, lt, at, p) = inl (subst P (sym at) p)
any_has P (y ∷ ys) (suc k, x, lt, at, p) = inr (any_has P ys (k, x, omega (arith, lt), at, p))

has_either : (P : Change → Type 0) (xs ys : List Change) → Has P (xs ++ ys) → Has P xs ⊎ Has P ys
has_either P [] ys h = inr h
has_either P (x ∷ xs) ys (inl h) = inl (inl h)
has_either P (x ∷ xs) ys (inr h) = elim (has_either P xs ys h) [ inl l ↦ inl (inr l) | inr r ↦ inr r ]

none_withdrawn : (peer : Peer) (xs : List IpPrefix) → Has admissions.IsLarge (withdrawals peer xs) → ⊥
none_withdrawn peer [] h = h
none_withdrawn peer (x ∷ xs) (inl h) = h
none_withdrawn peer (x ∷ xs) (inr h) = none_withdrawn peer xs h

any_announced : (peer : Peer) (route : Route) (xs : List IpPrefix) → Has admissions.IsLarge (map (λ x. changes.Announce peer x route) xs) → 3072 < length (route_octets route)
any_announced peer route [] h = absurd h
any_announced peer route (x ∷ xs) (inl h) = h
any_announced peer route (x ∷ xs) (inr h) = any_announced peer route xs h

large_announced : (peer : Peer) (a : Option Announced) → Has admissions.IsLarge (announcements peer a) → IsLarge a
large_announced peer None h = h
large_announced peer (Some a) h = any_announced peer a.route a.prefixes h

large_of : (peer : Peer) (m : Reported) → Has admissions.IsLarge (message_changes peer m) → HasLarge m
large_of peer (Update u) h =
    let withdrawn = withdrawals peer (filter (λ x. not (is_among u.announced x)) u.withdrawn) in
    let unreachable = withdrawals peer u.unreachable in
    let announced = announcements peer u.announced in
    let reachable = announcements peer u.reachable in
    elim (has_either admissions.IsLarge withdrawn (unreachable ++ (announced ++ reachable)) h) [
      | inl w ↦ absurd (none_withdrawn peer (filter (λ x. not (is_among u.announced x)) u.withdrawn) w)
      | inr more ↦
          elim (has_either admissions.IsLarge unreachable (announced ++ reachable) more) [
            | inl w ↦ absurd (none_withdrawn peer u.unreachable w)
            | inr both ↦
                elim (has_either admissions.IsLarge announced reachable both) [ inl a ↦ inl (large_announced peer u.announced a) | inr a ↦ inr (large_announced peer u.reachable a) ]
          ]
    ]
large_of peer Notification (inl h) = absurd h
large_of peer Notification (inr h) = absurd h
large_of peer (Other kind) h = absurd h

pub message_refused : (peer : Peer) (time : ℕ) (width : AsWidth) (octets : List ℕ) (m : Reported) (list : List Change) (e : AdmissionError)
    → IsMessage width octets m → (HasLarge m → ⊥) → list ≡ message_changes peer m → IsRefused time list e → MessageGives peer time width octets (Err (of_admission e))
message_refused peer time width octets m list errors.RouteTooLarge is fits same r =
    (m, is, large_of peer m (any_has admissions.IsLarge (message_changes peer m) (subst (λ (t : List Change). Any admissions.IsLarge t) same (r.route refl))))
message_refused peer time width octets m list errors.AdmissionTooLarge is fits same r =
    (m, is, fits, subst (λ (t : List Change). IsLong (admitted time t)) same (r.long refl).large)

none_large : (c : ℕ) (peers : List Neighbor) (prefix : IpPrefix) (entries : List Entry) (list : List Change) → Each (IsChangeOf c peers prefix) entries list → Has admissions.IsLarge list → ⊥
none_large c peers prefix [] [] all h = h
none_large c peers prefix (e ∷ entries) [] all h = h
none_large c peers prefix [] (x ∷ list) all h = all
none_large c peers prefix (e ∷ entries) (x ∷ list) all (inl h) =
    let large : 3072 < length (route_octets all.0.route) = subst (λ (t : Change). admissions.IsLarge t) all.0.announces h in
    omega (arith, large, all.0.fits)
none_large c peers prefix (e ∷ entries) (x ∷ list) all (inr h) = none_large c peers prefix entries list all.1 h

pub rib_refused : (rule : WithoutHop) (c : ℕ) (peers : List Neighbor) (time : ℕ) (prefix : IpPrefix) (entries : List Entry) (list : List Change) (e : AdmissionError)
    → AreAnnounced rule c peers prefix entries list → IsRefused time list e → RibGives rule c peers time prefix entries (Err (of_admission e))
rib_refused rule c peers time prefix entries list errors.RouteTooLarge all r = absurd (none_large c peers prefix all.0.0 list all.0.2 (any_has admissions.IsLarge list (r.route refl)))
rib_refused rule c peers time prefix entries list errors.AdmissionTooLarge all r = (list, all, (r.long refl).large)

none_of_one : (peer : Peer) (b : Bool) → Has admissions.IsLarge (if b then [] else changes.Down peer ∷ []) → ⊥
none_of_one peer true h = h
none_of_one peer false (inl h) = h
none_of_one peer false (inr h) = h

pub state_refused : (peer : Peer) (time state : ℕ) (list : List Change) (e : AdmissionError)
    → list ≡ state_changes peer state → IsRefused time list e → StateGives peer time state (Err (of_admission e))
state_refused peer time state list errors.RouteTooLarge same r = absurd (none_of_one peer (state == 6) (any_has admissions.IsLarge (state_changes peer state) (subst (λ (t : List Change). Any admissions.IsLarge t) same (r.route refl))))
state_refused peer time state list errors.AdmissionTooLarge same r = subst (λ (t : List Change). IsLong (admitted time t)) same (r.long refl).large
