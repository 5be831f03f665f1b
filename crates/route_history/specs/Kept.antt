-- The versions that stand for applied changes.
use Rattle.std.specs.Prelude.{◌≡◌, ℕ, suc, ◌<◌, List, [], ◌∷◌, ◌++◌, map, Option, Some, None, IsSome}
use Rattle.route_model.specs.Moments.{IsMoment}
use Rattle.route_model.specs.declared.change.Change.{Change}
use Rattle.route_model.specs.declared.change.Change.TheVariants.{Announce, Withdraw, Down}
use Rattle.route_model.specs.Admission.{Admitted, IsChange}
use Rattle.route_model.specs.Encoding.{EncodesRoute}
use Rattle.route_model.specs.Keys.{key_number, session_number}
use Rattle.route_meaning.specs.Holds.{time_of}
use Rattle.route_meaning.specs.Merged.{Placed}
use Rattle.version_model.specs.Versions.{Version}
use Rattle.route_history.specs.Stamps.{orders, stamp_of}

-- a change, and when it was reported, in microseconds since 1970-01-01T00:00:00Z
pub record Timed : Type 0 where
  pub time : ℕ
  pub change : Change

-- the change at this time
abbrev pub at_time : ℕ → Change → Timed
at_time time change = record { time = time; change = change }

-- the changes of the admissions in their order, each with its time
abbrev pub timed : List (Placed Admitted) → List Timed
timed [] = []
timed (p ∷ ps) = map (at_time (time_of p)) p.item.changes ++ timed ps

-- the key at which a change is kept: that of the prefix, or of the peer's session
abbrev pub key_of : Change → ℕ
key_of (Announce p x route) = key_number p x
key_of (Withdraw p x) = key_number p x
key_of (Down p) = session_number p

-- what the version of a change has: the encoding of the route that is announced; an end for a withdrawal; any value for the end of a session
abbrev pub HasValue : Change → Option (List ℕ) → Type 0
HasValue (Announce p x route) value = (octets : List ℕ) × (value ≡ Some octets) × EncodesRoute route octets
HasValue (Withdraw p x) value = value ≡ None
HasValue (Down p) value = IsSome value

-- the version of a change that has number n in the order of application
pub record IsVersion (n : ℕ) (t : Timed) (v : Version) : Type 0 where
  pub few : n < orders
  pub time : IsMoment t.time
  pub is_change : IsChange t.change
  pub key : v.key ≡ key_of t.change
  pub stamp : v.stamp ≡ stamp_of t.time n
  pub value : HasValue t.change v.value

-- one version for each change, in the same order; the first has number n
abbrev pub AreVersions : ℕ → List Timed → List Version → Type 0
AreVersions n [] [] = Unit {0}
AreVersions n [] (v ∷ vs) = ⊥
AreVersions n (t ∷ ts) [] = ⊥
AreVersions n (t ∷ ts) (v ∷ vs) = IsVersion n t v × AreVersions (suc n) ts vs

-- the versions are those of the changes of these admissions, and no others
abbrev pub HaveVersions : List (Placed Admitted) → List Version → Type 0
HaveVersions ps versions = AreVersions 0 (timed ps) versions
