-- Laws of messages.
use Rattle.std.proofs.Common.{◌≡◌, ℕ, List, [], ◌∷◌, drop, Option, Some, None, refl, sym, ap, ◌∙◌}
use Rattle.route_model.specs.Reading.{NoReading}
use Rattle.route_model.specs.declared.octets.ReadFault.{ReadFault}
use Rattle.route_model.specs.declared.octets.ReadFault.TheVariants as faults
use Rattle.route_model.specs.declared.wire.AsWidth.{AsWidth}
use Rattle.std.proofs.Common.{arith}
use Rattle.bgp_update.specs.Messages.{Reported, Changes, Announced, Update, Notification, Other, IsHeader, IsAnnounced, IsUpdateOf, IsUpdate, IsMessage}
use Rattle.route_model.specs.Prefix.{IpPrefix}
use Rattle.route_model.specs.declared.route.Route.{Route}
use Rattle.route_model.specs.declared.wire.Family.{Family}
use Rattle.route_model.specs.declared.wire.Family.TheVariants as families
use Rattle.bgp_update.specs.NextHops.{family_at, AreOf, AreUnreached}
use Rattle.bgp_update.proofs.api.Reached.{ipv4_one}
use Rattle.bgp_update.proofs.Updates.{its_announcements, still_unreachable, same_parts}

-- octets without a header are no message
pub no_header : (width : AsWidth) (bytes : List ℕ) → ((kind : ℕ) → IsHeader bytes kind → ⊥) → (m : Reported) → IsMessage width bytes m → ⊥
no_header width bytes none (Update changes) q = none 2 q.0
no_header width bytes none Notification q = none 3 q
no_header width bytes none (Other kind) q = none kind q.0

-- octets have one type
pub kind_one : (bytes : List ℕ) (j k : ℕ) → IsHeader bytes j → IsHeader bytes k → j ≡ k
kind_one bytes j k p q = p.is_kind ∙ sym q.is_kind

not_read : (width : AsWidth) (bytes : List ℕ) (kind : ℕ) (m : Reported) → IsHeader bytes kind → kind ≡ 2 → ((u : Changes) → IsUpdate width (drop 19 bytes) u → ⊥) → IsMessage width bytes m → ⊥
not_read width bytes kind (Update changes) is two none q = none changes q.1
not_read width bytes kind Notification is two none q = let e = kind_one bytes kind 3 is q in absurd (omega (arith, e, two))
not_read width bytes kind (Other other) is two none q = q.1 (sym (kind_one bytes kind other is q.0) ∙ two)

-- an UPDATE whose fields have no reading is no message
pub no_update : (width : AsWidth) (bytes : List ℕ) (kind : ℕ) (e : ReadFault) → IsHeader bytes kind → kind ≡ 2 → NoReading (IsUpdate width (drop 19 bytes)) e
    → NoReading (IsMessage width bytes) e
no_update width bytes kind faults.OutOfMemory is two none = tt
no_update width bytes kind faults.Malformed is two none = λ m q. not_read width bytes kind m is two none q

-- ---- one message

of_one : (family : Option Family) (octets : List ℕ) (xs ys : List IpPrefix) → AreOf family octets xs → AreOf family octets ys → xs ≡ ys
of_one None octets xs ys p q = p ∙ sym q
of_one (Some family) octets xs ys p q = ipv4_one family octets xs ys p q

unreached_one : (value : Option (List ℕ)) (xs ys : List IpPrefix) → AreUnreached value xs → AreUnreached value ys → xs ≡ ys
unreached_one None xs ys p q = p ∙ sym q
unreached_one (Some value) xs ys p q = of_one (family_at value) (drop 3 value) xs ys p.1 q.1

some_route : (x y : Route) → Some x ≡ Some y → x ≡ y
some_route x y e = cc

abbrev shared : List IpPrefix → Route → Option Announced
shared prefixes r = Some (record { route = r; prefixes = prefixes })

announced_one : (prefixes : List IpPrefix) (route : Option Route) (a b : Option Announced) → IsAnnounced prefixes route a → IsAnnounced prefixes route b → a ≡ b
announced_one [] route a b p q = p ∙ sym q
announced_one (x ∷ prefixes) route a b p q =
    p.2 ∙ ap (λ (r : Route). shared (x ∷ prefixes) r) (some_route p.0 q.0 (sym p.1 ∙ q.1)) ∙ sym q.2

abbrev made : List IpPrefix → List IpPrefix → Option Announced → Option Announced → Changes
made w u a r = record { withdrawn = w; unreachable = u; announced = a; reachable = r }

parts_one : (width : AsWidth) (w a n : List ℕ) (x y : Changes) → IsUpdateOf width w a n x → IsUpdateOf width w a n y → x ≡ y
parts_one width w a n x y p q =
    let withdrawn = ipv4_one families.Ipv4 w x.withdrawn y.withdrawn p.withdrawn q.withdrawn in
    let lost = still_unreachable width w a n x q.attributes q.are_attributes p in
    let unreachable = unreached_one q.attributes.unreach x.unreachable y.unreachable lost q.unreachable in
    let both = its_announcements width w a n x q.attributes q.reach q.announced q.reached q.are_attributes q.is_reach q.are_announced q.are_reached p in
    let announced = announced_one q.announced _ x.announced y.announced both.0 q.by_next_hop in
    let reachable = announced_one q.reached _ x.reachable y.reachable both.1 q.by_reach in
    ap (λ (t : List IpPrefix). made t x.unreachable x.announced x.reachable) withdrawn ∙ ap (λ (t : List IpPrefix). made y.withdrawn t x.announced x.reachable) unreachable
    ∙ ap (λ (t : Option Announced). made y.withdrawn y.unreachable t x.reachable) announced ∙ ap (λ (t : Option Announced). made y.withdrawn y.unreachable y.announced t) reachable

update_one : (width : AsWidth) (bytes : List ℕ) (x y : Changes) → IsUpdate width bytes x → IsUpdate width bytes y → x ≡ y
update_one width bytes x y p q =
    parts_one width q.withdrawn_field q.attribute_field q.announced_field x y (same_parts width bytes q.withdrawn_field q.more q.attribute_field q.announced_field x q.first q.second p) q.parts

pub message_one : (width : AsWidth) (bytes : List ℕ) (x y : Reported) → IsMessage width bytes x → IsMessage width bytes y → x ≡ y
message_one width bytes (Update x) (Update y) p q = ap (λ (t : Changes). Update t) (update_one width (drop 19 bytes) x y p.1 q.1)
message_one width bytes (Update x) Notification p q = let e = kind_one bytes 2 3 p.0 q in absurd (omega (arith, e))
message_one width bytes (Update x) (Other k) p q = absurd (q.1 (kind_one bytes k 2 q.0 p.0))
message_one width bytes Notification (Update y) p q = let e = kind_one bytes 3 2 p q.0 in absurd (omega (arith, e))
message_one width bytes Notification Notification p q = refl
message_one width bytes Notification (Other k) p q = absurd (q.2 (kind_one bytes k 3 q.0 p))
message_one width bytes (Other j) (Update y) p q = absurd (p.1 (kind_one bytes j 2 p.0 q.0))
message_one width bytes (Other j) Notification p q = absurd (p.2 (kind_one bytes j 3 p.0 q))
message_one width bytes (Other j) (Other k) p q = ap (λ (t : ℕ). Other t) (kind_one bytes j k p.0 q.0)
