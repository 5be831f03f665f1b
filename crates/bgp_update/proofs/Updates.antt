-- Laws of the parts of an UPDATE.
use Rattle.std.proofs.Common.{◌≡◌, ℕ, List, ◌++◌, length, take, drop, Option, sym, ap, subst, ◌∙◌, arith}
use Rattle.std.specs.Prelude.{Result, Ok, Err}
use Rattle.std.proofs.Math.Seq.{drop-append_seam, take-append_seam}
use Rattle.route_model.specs.Octets.{number_at}
use Rattle.route_model.proofs.api.Fronts.{number_at-append}
use Rattle.route_model.specs.Reading.{Exactly}
use Rattle.route_model.specs.Sequence.{Sequence}
use Rattle.route_model.specs.Prefix.{IpPrefix}
use Rattle.route_model.specs.PrefixFields.{IsPrefixField}
use Rattle.route_model.specs.declared.octets.ReadFault.{ReadFault}
use Rattle.route_model.specs.declared.octets.ReadFault.TheVariants as faults
use Rattle.route_model.specs.declared.wire.AsWidth.{AsWidth}
use Rattle.route_model.specs.declared.wire.Family.TheVariants as families
use Rattle.bgp_update.specs.declared.reading.PathAttributes.{PathAttributes}
use Rattle.bgp_update.specs.declared.reach.Reach.{Reach}
use Rattle.bgp_update.specs.Readings.{AreAttributes}
use Rattle.bgp_update.specs.NextHops.{IsReached, AreReached, AreUnreached, hop_of}
use Rattle.bgp_update.specs.Routes.{route_of, four_hop}
use Rattle.bgp_update.specs.Messages.{Changes, Announced, IsAnnounced, IsCounted, IsUpdateOf, IsUpdate}
use Rattle.bgp_update.proofs.api.OneReading.{attributes_one}
use Rattle.bgp_update.proofs.api.Reached.{reached_one, prefixes_one, ipv4_one}

-- where the size, the field and the rest stand
reports_size : (size more field : List ℕ) → length size ≡ 2 → number_at 2 0 size ≡ length field → number_at 2 0 (size ++ more) ≡ length field
reports_size size more field two reports = number_at-append 2 0 size more (omega (arith, two)) ∙ reports

after_size : (size more : List ℕ) → length size ≡ 2 → drop 2 (size ++ more) ≡ more
after_size size more two = subst (λ (n : ℕ). drop n (size ++ more) ≡ more) two (drop-append_seam size more)

size_of : (bytes f r : List ℕ) → IsCounted bytes f r → number_at 2 0 bytes ≡ length f
size_of bytes f r p = sym (sym (reports_size p.size (f ++ r) f p.two p.reports) ∙ ap (λ (t : List ℕ). number_at 2 0 t) (sym p.parts))

after_of : (bytes f r : List ℕ) → IsCounted bytes f r → drop 2 bytes ≡ f ++ r
after_of bytes f r p = ap (λ (t : List ℕ). drop 2 t) p.parts ∙ after_size p.size (f ++ r) p.two

field_of : (bytes f r : List ℕ) → IsCounted bytes f r → take (number_at 2 0 bytes) (drop 2 bytes) ≡ f
field_of bytes f r p = rw (size_of bytes f r p, after_of bytes f r p) (take-append_seam f r)

rest_of : (bytes f r : List ℕ) → IsCounted bytes f r → drop (number_at 2 0 bytes) (drop 2 bytes) ≡ r
rest_of bytes f r p = rw (size_of bytes f r p, after_of bytes f r p) (drop-append_seam f r)

-- the octets are one counted field and one rest
pub counted_one : (bytes f g r s : List ℕ) → IsCounted bytes f r → IsCounted bytes g s → (f ≡ g) × (r ≡ s)
counted_one bytes f g r s p q = (sym (field_of bytes f r p) ∙ field_of bytes g s q, sym (rest_of bytes f r p) ∙ rest_of bytes g s q)

-- the second counted field follows the first
pub second_of : (width : AsWidth) (bytes w m : List ℕ) (u : Changes) → IsCounted bytes w m → (up : IsUpdate width bytes u) → IsCounted m up.attribute_field up.announced_field
second_of width bytes w m u p up =
    subst (λ (t : List ℕ). IsCounted t up.attribute_field up.announced_field) (counted_one bytes up.withdrawn_field w up.more m up.first p).1 up.second

-- an UPDATE's fields are those that were read
pub same_parts : (width : AsWidth) (bytes w m a n : List ℕ) (u : Changes) → IsCounted bytes w m → IsCounted m a n → IsUpdate width bytes u → IsUpdateOf width w a n u
same_parts width bytes w m a n u p q up =
    let one = counted_one bytes up.withdrawn_field w up.more m up.first p in
    let two = counted_one m up.attribute_field a up.announced_field n (second_of width bytes w m u p up) q in
    subst (λ (t : List ℕ). IsUpdateOf width w a t u) two.1
    (subst (λ (t : List ℕ). IsUpdateOf width w t up.announced_field u) two.0
    (subst (λ (t : List ℕ). IsUpdateOf width t up.attribute_field up.announced_field u) one.0 up.parts))

pub update_exactly : {X : Type 0} (view : X → Changes) (width : AsWidth) (bytes w m a n : List ℕ) (result : Result X ReadFault) → IsCounted bytes w m → IsCounted m a n
    → Exactly view (IsUpdateOf width w a n) result → Exactly view (IsUpdate width bytes) result
update_exactly view width bytes w m a n (Ok x) p q is = record {
  withdrawn_field = w;
  more = m;
  attribute_field = a;
  announced_field = n;
  first = p;
  second = q;
  parts = is;
}
update_exactly view width bytes w m a n (Err faults.OutOfMemory) p q none = tt
update_exactly view width bytes w m a n (Err faults.Malformed) p q none = λ u up. none u (same_parts width bytes w m a n u p q up)

-- what was read of the attributes is what an UPDATE of these fields has
pub its_attributes : (width : AsWidth) (w a n : List ℕ) (u : Changes) (attributes : PathAttributes) → AreAttributes width a attributes → (q : IsUpdateOf width w a n u)
    → q.attributes ≡ attributes
its_attributes width w a n u attributes is q = attributes_one width a q.attributes attributes q.are_attributes is

pub still_unreachable : (width : AsWidth) (w a n : List ℕ) (u : Changes) (attributes : PathAttributes) → AreAttributes width a attributes → IsUpdateOf width w a n u
    → AreUnreached attributes.unreach u.unreachable
still_unreachable width w a n u attributes is q =
    subst (λ (x : PathAttributes). AreUnreached x.unreach u.unreachable) (its_attributes width w a n u attributes is q) q.unreachable

pub its_unreachable : (width : AsWidth) (w a n : List ℕ) (u : Changes) (attributes : PathAttributes) → AreAttributes width a attributes → IsUpdateOf width w a n u
    → (v : List IpPrefix) × AreUnreached attributes.unreach v
its_unreachable width w a n u attributes is q = (u.unreachable, still_unreachable width w a n u attributes is q)

pub its_reach : (width : AsWidth) (w a n : List ℕ) (u : Changes) (attributes : PathAttributes) → AreAttributes width a attributes → (q : IsUpdateOf width w a n u)
    → (r : Option Reach) × IsReached attributes.reach r
its_reach width w a n u attributes is q =
    (q.reach, subst (λ (x : PathAttributes). IsReached x.reach q.reach) (its_attributes width w a n u attributes is q) q.is_reach)

pub same_reach : (width : AsWidth) (w a n : List ℕ) (u : Changes) (attributes : PathAttributes) (reach : Option Reach) → AreAttributes width a attributes → IsReached attributes.reach reach
    → (q : IsUpdateOf width w a n u) → q.reach ≡ reach
same_reach width w a n u attributes reach is reached q =
    reached_one attributes.reach q.reach reach (subst (λ (x : PathAttributes). IsReached x.reach q.reach) (its_attributes width w a n u attributes is q) q.is_reach) reached

pub its_reached : (width : AsWidth) (w a n : List ℕ) (u : Changes) (attributes : PathAttributes) (reach : Option Reach) → AreAttributes width a attributes → IsReached attributes.reach reach
    → IsUpdateOf width w a n u → (v : List IpPrefix) × AreReached reach v
its_reached width w a n u attributes reach is reached q =
    (q.reached, subst (λ (r : Option Reach). AreReached r q.reached) (same_reach width w a n u attributes reach is reached q) q.are_reached)

-- the two announcements, as they are made of what was read
abbrev pub AreAnnounced : PathAttributes → Option Reach → List IpPrefix → List IpPrefix → Option Announced × Option Announced → Type 0
AreAnnounced attributes reach announced reached r =
    IsAnnounced announced (route_of attributes (four_hop attributes.next_hop)) r.0 × IsAnnounced reached (route_of attributes (hop_of reach)) r.1

pub its_announcements : (width : AsWidth) (w a n : List ℕ) (u : Changes) (attributes : PathAttributes) (reach : Option Reach) (announced reached : List IpPrefix)
    → AreAttributes width a attributes → IsReached attributes.reach reach → Sequence (IsPrefixField families.Ipv4) n announced → AreReached reach reached
    → IsUpdateOf width w a n u → AreAnnounced attributes reach announced reached (u.announced, u.reachable)
its_announcements width w a n u attributes reach announced reached is at xs ys q =
    let attribute = its_attributes width w a n u attributes is q in
    let r = same_reach width w a n u attributes reach is at q in
    let first : q.announced ≡ announced = ipv4_one families.Ipv4 n q.announced announced q.are_announced xs in
    let second : q.reached ≡ reached = prefixes_one reach q.reached reached (subst (λ (t : Option Reach). AreReached t q.reached) r q.are_reached) ys in (
      subst (λ (x : PathAttributes). IsAnnounced announced (route_of x (four_hop x.next_hop)) u.announced) attribute
          (subst (λ (t : List IpPrefix). IsAnnounced t (route_of q.attributes (four_hop q.attributes.next_hop)) u.announced) first q.by_next_hop),
      subst (λ (x : PathAttributes). IsAnnounced reached (route_of x (hop_of reach)) u.reachable) attribute
          (subst (λ (t : Option Reach). IsAnnounced reached (route_of q.attributes (hop_of t)) u.reachable) r
          (subst (λ (t : List IpPrefix). IsAnnounced t (route_of q.attributes (hop_of q.reach)) u.reachable) second q.by_reach)),
    )
