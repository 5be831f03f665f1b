-- What stands for no event.
use Rattle.std.proofs.Common.{◌≡◌, ℕ, ◌<◌, ◌/◌, ◌^◌, List, Some, None, Option, sym, ◌∙◌, subst, arith}
use Rattle.route_model.specs.Moments.{IsMoment}
use Rattle.std.proofs.lemmas.Option.{same_Some, none-some}
use Rattle.route_model.specs.declared.peer.Peer.{Peer}
use Rattle.route_model.specs.declared.route.Route.{Route}
use Rattle.route_model.specs.declared.change.Change.{Change}
use Rattle.route_model.specs.declared.change.Change.TheVariants.{Announce, Withdraw, Down}
use Rattle.route_model.specs.Prefix.{IpPrefix}
use Rattle.route_model.specs.Encoding.{EncodesRoute}
use Rattle.route_model.specs.Keys.{key_number, session_number}
use Rattle.version_model.specs.Versions.{Version}
use Rattle.route_history.specs.Spans.{IsChangeOf, IsChangeIn, IsEventIn}

no_change : (p : Peer) (x : IpPrefix) (octets : List ℕ) (o : Option Route) → ((r : Route) → EncodesRoute r octets → o ≡ Some r) → o ≡ None → (stamp : ℕ) (c : Change) → (key_number p x ≡ session_number p → ⊥) → IsChangeOf p x (record { key = key_number p x; stamp = stamp; value = Some octets }) c → ⊥
no_change p x octets o only none stamp (Announce q y r) ne is = let s = is.3 in none-some r (sym none ∙ only r (subst (EncodesRoute r) (same_Some s.0 octets (sym s.1)) s.2))
no_change p x octets o only none stamp (Withdraw q y) ne is = none-some octets (sym is.3)
no_change p x octets o only none stamp (Down q) ne is = ne is.1

-- octets that encode no route
pub unencoded : (p : Peer) (x : IpPrefix) (octets : List ℕ) (o : Option Route) → ((r : Route) → EncodesRoute r octets → o ≡ Some r) → o ≡ None → IsChangeIn p x (Some octets) None
unencoded p x octets o only none = λ stamp c ne is. no_change p x octets o only none stamp c ne is

-- a stamp of no moment
pub no_moment : (p : Peer) (x : IpPrefix) (v : Version) → (IsMoment (v.stamp / 2 ^ 64) → ⊥) → IsEventIn p x v None
no_moment p x v none = λ h. none (let lt : IsMoment h.0.time = h.1 in let e : h.0.time ≡ v.stamp / 2 ^ 64 = h.2.time in omega (arith, lt, e))
