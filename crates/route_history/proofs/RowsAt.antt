-- The row at a key, by what is found there and at the key of its session.
use Rattle.std.proofs.Common.{◌≡◌, ◌↔◌, ℕ, ◌<◌, arith, List, true, sym, ap, ◌∙◌, subst, Some, None, Option}
use Rattle.route_model.specs.Admission.{Admitted}
use Rattle.route_model.specs.Encoding.{IsPeer, EncodesRoute}
use Rattle.route_model.specs.Prefix.{IpPrefix, IsPrefix}
use Rattle.route_model.specs.declared.peer.Peer.{Peer}
use Rattle.route_model.specs.declared.route.Route.{Route}
use Rattle.route_model.specs.Keys.{key_number, session_number}
use Rattle.route_model.proofs.api.Keys.{session_below}
use Rattle.route_meaning.specs.declared.question.Spot.{Spot}
use Rattle.route_meaning.specs.declared.question.RowsQuestion.{RowsQuestion}
use Rattle.route_meaning.specs.Merged.{Placed}
use Rattle.route_meaning.specs.Holds.{Holds}
use Rattle.route_meaning.specs.Rows.{IsAbove}
use Rattle.route_meaning.proofs.Holding.{Holds-one}
use Rattle.version_model.specs.Versions.{Version, Found, Answers}
use Rattle.route_history.specs.Stamps.{last_stamp}
use Rattle.route_model.specs.PeerKeys.{first_key}
use Rattle.route_history.specs.Walks.{counts, Reports, EndedAt, IsRowAt, IsAskedAt, IsRouteIn}
use Rattle.route_model.proofs.api.PeerKeys.{key_first}

module _ (all : List Version) (ps : List (Placed Admitted)) (q : RowsQuestion) (key : ℕ) (t : Reports all ps q.moment) where
  abbrev S : ℕ
  S = last_stamp q.moment

  pub no_spot : IsAskedAt q key None → IsRowAt ps q key None
  no_spot w = λ row e selected above holds. (
      let fits = t.fits row.peer row.prefix row.route holds in
      w row.peer row.prefix fits.0 fits.1 e selected (subst (λ (n : ℕ). IsAbove q.after n) e above))

  -- the law at the key
  law_at : (p : Peer) (x : IpPrefix) (route : Route) (found : Found) (ended : Option ℕ) → IsPeer p → IsPrefix x → key_number p x ≡ key → Answers all key S (Some found) → EndedAt all S (first_key key) ended → Holds ps q.moment p x route ↔ ((counts ended found.stamp ≡ true) × EncodesRoute route found.value)
  law_at p x route found ended hp hx e answers session =
      subst (λ (o : Option ℕ). Holds ps q.moment p x route ↔ ((counts o found.stamp ≡ true) × EncodesRoute route found.value)) session.2
      (t.law p x found session.0 route hp hx
      (subst (λ (n : ℕ). Answers all n S (Some found)) (sym e) answers)
      (subst (λ (n : ℕ). Answers all n S session.0) (ap first_key (sym e) ∙ key_first p x hx) session.1))

  pub no_route : (found : Found) (ended : Option ℕ) → IsRouteIn ended found.stamp found.value None → Answers all key S (Some found) → EndedAt all S (first_key key) ended → IsRowAt ps q key None
  no_route found ended r answers session = λ row e selected above holds. (
      let fits = t.fits row.peer row.prefix row.route holds in
      let h = (law_at row.peer row.prefix row.route found ended fits.0 fits.1 e answers session).0 holds in
      r row.route h.0 h.1)

  pub there : (spot : Spot) (route : Route) (found : Found) (ended : Option ℕ) → IsAskedAt q key (Some spot) → IsRouteIn ended found.stamp found.value (Some route) → Answers all key S (Some found) → EndedAt all S (first_key key) ended → IsRowAt ps q key (Some (record { peer = spot.peer; prefix = spot.prefix; route = route }))
  there spot route found ended w r answers session =
      let holds : Holds ps q.moment spot.peer spot.prefix route = (law_at spot.peer spot.prefix route found ended w.0.0 w.0.1 w.1 answers session).1 (r.0, r.1) in (
        w.1,
        w.2,
        subst (λ (n : ℕ). IsAbove q.after n) (sym w.1) w.3,
        holds,
        λ other e h. (
            let fits = t.fits other.peer other.prefix other.route h in
            let same = w.4 other.peer other.prefix fits.0 fits.1 e in
            let moved : Holds ps q.moment spot.peer spot.prefix other.route = subst (λ (x : IpPrefix). Holds ps q.moment spot.peer x other.route) same.1 (subst (λ (p : Peer). Holds ps q.moment p other.prefix other.route) same.0 h) in
            let routes : other.route ≡ route = Holds-one ps q.moment spot.peer spot.prefix other.route route moved holds in
            λ i. record { peer = same.0 i; prefix = same.1 i; route = routes i }),
      )

  -- no row has the key of a session
  pub no_session : first_key key ≡ key → IsRowAt ps q key None
  no_session first = λ row e selected above holds. (
      let fits = t.fits row.peer row.prefix row.route holds in
      let low : session_number row.peer < key_number row.peer row.prefix = session_below row.peer row.prefix fits.0 fits.1 in
      let is : first_key (key_number row.peer row.prefix) ≡ session_number row.peer = key_first row.peer row.prefix fits.1 in
      let there' : first_key (key_number row.peer row.prefix) ≡ key = ap first_key e ∙ first in
      absurd (omega (arith, low, is, there', e)))
