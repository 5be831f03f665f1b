use Rattle.std.proofs.Common.{rules, ◌≡◌, ◌≢◌, ◌∙◌, ℕ, List, length, ⊎_elim, sym, ap, subst, IfNone, IfSome}
use Rattle.route_model.specs.Octets.{Encodes, number_at}
use Rattle.route_model.specs.Units.{moments_in, written, unit_number}
use Rattle.route_model.specs.declared.unit.Unit.{Unit}
use Rattle.archive_head.specs.Head.{Contents, IsHead, IsOlderHead, in_moments, octets_in}
use Rattle.archive_head.proofs.Units.{IsInUnit, found_as, has_unit, in_unit, none_as, stored_count}
use Rattle.archive_head.proofs.api.Heads.{moments_valid}
use Rattle.archive_head.proofs.head.Head.read.Goals as goal

abbrev EncodesIn : Unit → List ℕ → Contents → Type 0
EncodesIn u page head = Encodes IsHead (octets_in u) head page

pub returns-in_default-clause-none : goal.returns-in_default-clause-none
returns-in_default-clause-none c = λ head n e.
    let u = has_unit head c.args.page.now e in
    c.in_default.ensures.none u.0 u.1 (u.2 ∙ sym (ap (number_at 8 48) c.octets.ensures.value))

pub returns-in_default-2-clause-none : goal.returns-in_default-2-clause-none
returns-in_default-2-clause-none c = λ head n e.
    let unit = c.in-Some.unit in
    let page = c.args.page.now in
    let none = subst (λ o. IfNone o ((x : Contents) → length x.lanes ≡ c.args.collectors → EncodesIn unit page x → ⊥)) c.in_default-2.is c.in_ok-head.ensures.none in
    let i = in_unit unit head page (c.in-Some.ensures.number ∙ ap (number_at 8 48) c.octets.ensures.value) e in
    none i.stored (stored_count unit head page c.args.collectors n i) i.encodes

only : (unit : Unit) (page : List ℕ) (count : ℕ) (head other : Contents) → ((x : Contents) → length x.lanes ≡ count → EncodesIn unit page x → x ≡ head) → length other.lanes ≡ count → (i : IsInUnit unit other page) → i.stored ≡ head
only unit page count head other one n i = one i.stored (stored_count unit other page count n i) i.encodes

pub returns-then-eq-clause-one : goal.returns-then-eq-clause-one
returns-then-eq-clause-one c = λ other n e.
    let unit = c.in-Some.unit in
    let page = c.args.page.now in
    let head = c.in-Some-2.head in
    let one = subst (λ o. IfSome o (λ h. (x : Contents) → length x.lanes ≡ c.args.collectors → EncodesIn unit page x → x ≡ h)) c.in-Some-2.is c.in_ok-head.ensures.one in
    let i = in_unit unit other page (c.in-Some.ensures.number ∙ ap (number_at 8 48) c.octets.ensures.value) e in
    let same : unit ≡ written = search rules in
    ⊎_elim (λ h. h.1 ∙ only unit page c.args.collectors head other one n i) (λ h. absurd (h.0 same)) i.how

pub returns-clause-valid : goal.returns-clause-valid
returns-clause-valid c =
    let k = c.moments.result in
    let head = c.in-Some-2.head in
    found_as c.in_moments.result (λ x. x ≡ in_moments k head) (λ x. IsOlderHead k head) IsHead (λ x is older. subst IsHead (sym is) (moments_valid k head older)) c.in_moments.ensures.head c.in_moments.ensures.older

pub returns-clause-none : goal.returns-clause-none
returns-clause-none c =
    let k = c.moments.result in
    let unit = c.in-Some.unit in
    let page = c.args.page.now in
    let head = c.in-Some-2.head in
    let one = subst (λ o. IfSome o (λ h. (x : Contents) → length x.lanes ≡ c.args.collectors → EncodesIn unit page x → x ≡ h)) c.in-Some-2.is c.in_ok-head.ensures.one in
    let other : unit ≢ written = λ same. search (rules, same) in
    let scale : k ≡ moments_in unit = c.moments.ensures in
    none_as c.in_moments.result (IsOlderHead k head → ⊥) _
    (λ no x n e.
    let i = in_unit unit x page (c.in-Some.ensures.number ∙ ap (number_at 8 48) c.octets.ensures.value) e in
    ⊎_elim (λ h. absurd (other h.0)) (λ h. no (subst (λ (m : ℕ). IsOlderHead m head) (sym scale) (subst (IsOlderHead (moments_in unit)) (only unit page c.args.collectors head x one n i) h.1))) i.how)
    c.in_moments.ensures.none

pub returns-clause-one : goal.returns-clause-one
returns-clause-one c =
    let k = c.moments.result in
    let unit = c.in-Some.unit in
    let page = c.args.page.now in
    let head = c.in-Some-2.head in
    let one = subst (λ o. IfSome o (λ h. (x : Contents) → length x.lanes ≡ c.args.collectors → EncodesIn unit page x → x ≡ h)) c.in-Some-2.is c.in_ok-head.ensures.one in
    let other : unit ≢ written = λ same. search (rules, same) in
    let scale : k ≡ moments_in unit = c.moments.ensures in
    found_as c.in_moments.result (λ x. x ≡ in_moments k head) (λ x. IsOlderHead k head) _
    (λ x is older y n e.
    let i = in_unit unit y page (c.in-Some.ensures.number ∙ ap (number_at 8 48) c.octets.ensures.value) e in
    ⊎_elim (λ h. absurd (other h.0)) (λ h. h.2 ∙ (ap (in_moments (moments_in unit)) (only unit page c.args.collectors head y one n i) ∙ (ap (λ (m : ℕ). in_moments m head) (sym scale) ∙ sym is))) i.how)
    c.in_moments.ensures.head c.in_moments.ensures.older
