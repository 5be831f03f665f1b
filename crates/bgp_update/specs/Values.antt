-- The values of single attributes (RFC 4271 section 4.3), and which of the two-octet era's attributes count (RFC 6793).
use Rattle.std.specs.Prelude.{◌≡◌, ℕ, Bool, true, false, not, ◌&&◌, ◌||◌, ◌==◌, if◌then◌else◌, nat_lt, bit_and, List, [], ◌∷◌, length, drop, Option, Some, None, ◌⊎◌}
use Rattle.route_model.specs.Octets.{number_at}
use Rattle.route_model.specs.Encoding.{origin_octet}
use Rattle.route_model.specs.declared.route.Origin.{Origin}
use Rattle.route_model.specs.declared.route.Aggregator.{Aggregator}
use Rattle.route_model.specs.declared.attribute.Attribute.{Attribute}
use Rattle.route_model.specs.declared.wire.AsWidth.{AsWidth}
use Rattle.route_model.specs.declared.wire.AsWidth.TheVariants as widths
use Rattle.bgp_update.specs.declared.attribute.PathAttribute.{PathAttribute}
use Rattle.bgp_update.specs.AttributeFields.{value_of}

-- both are there and have the relation, or neither is there
abbrev pub Optionally : {A B : Type 0} → (A → B → Type 0) → Option A → Option B → Type 0
Optionally R None None = Unit {0}
Optionally R None (Some y) = ⊥
Optionally R (Some x) None = ⊥
Optionally R (Some x) (Some y) = R x y

-- ORIGIN: one octet, 0 IGP, 1 EGP, 2 INCOMPLETE
abbrev pub IsOrigin : List ℕ → Origin → Type 0
IsOrigin value origin = value ≡ origin_octet origin ∷ []

-- MULTI_EXIT_DISC and LOCAL_PREF: a number of four octets
abbrev pub IsNumber : List ℕ → ℕ → Type 0
IsNumber value n = (length value ≡ 4) × (n ≡ number_at 4 0 value)

-- NEXT_HOP: the four octets of an address
abbrev pub IsFour : List ℕ → List ℕ → Type 0
IsFour value address = (length value ≡ 4) × (address ≡ value)

-- ATOMIC_AGGREGATE: no octets, if it is present
abbrev pub IsFlag : Option (List ℕ) → Bool → Type 0
IsFlag None b = b ≡ false
IsFlag (Some value) b = (value ≡ []) × (b ≡ true)

-- an AS number of four octets, and an address of four
abbrev pub longer_aggregator : List ℕ → Aggregator
longer_aggregator value = record { as_number = number_at 4 0 value; address = drop 4 value }

-- AGGREGATOR: an AS number of two or of four octets, by the value's own size, and an address of four
abbrev pub IsAggregator : List ℕ → Aggregator → Type 0
IsAggregator value a =
    ((length value ≡ 6) × (a ≡ record { as_number = number_at 2 0 value; address = drop 2 value }))
    ⊎ ((length value ≡ 8) × (a ≡ longer_aggregator value))

-- AS4_AGGREGATOR, which is ignored unless it has eight octets
abbrev pub of_eight : Option (List ℕ) → Option Aggregator
of_eight None = None
of_eight (Some value) = if length value == 8 then Some (longer_aggregator value) else None

-- AS4_AGGREGATOR is read only if AS numbers have two octets
abbrev pub as4_aggregator : AsWidth → List PathAttribute → Option Aggregator
as4_aggregator widths.Two list = of_eight (value_of 18 list)
as4_aggregator widths.Four list = None

-- the AS number of two octets that is used for one that needs four (AS_TRANS)
abbrev pub as_trans : ℕ
as_trans = 23456

-- AS4_AGGREGATOR replaces an AGGREGATOR of AS_TRANS; beside another it is ignored, and alone too
abbrev pub counted_aggregator : Option Aggregator → Option Aggregator → Option Aggregator
counted_aggregator None longer = None
counted_aggregator (Some own) None = Some own
counted_aggregator (Some own) (Some longer) = if own.as_number == as_trans then Some longer else Some own

-- an AGGREGATOR of another AS than AS_TRANS beside AS4_AGGREGATOR: both attributes of four-octet numbers are ignored
abbrev pub is_aside : Option Aggregator → Option Aggregator → Bool
is_aside None longer = false
is_aside (Some own) None = false
is_aside (Some own) (Some longer) = if own.as_number == as_trans then false else true

-- the octets of AS4_PATH, which is read only if AS numbers have two octets, and not if it is ignored beside AGGREGATOR
abbrev pub as4_path : AsWidth → List PathAttribute → Option Aggregator → Option (List ℕ)
as4_path widths.Two list own = if is_aside own (as4_aggregator widths.Two list) then None else value_of 17 list
as4_path widths.Four list own = None

-- ORIGIN to AGGREGATOR, MP_REACH_NLRI, MP_UNREACH_NLRI, AS4_PATH and AS4_AGGREGATOR are read, or ignored by rule
abbrev pub is_read : ℕ → Bool
is_read k = (nat_lt 0 k && nat_lt k 8) || ((k == 14) || ((k == 15) || ((k == 17) || (k == 18))))

-- an attribute that is kept unread, with its optional, transitive and partial flags
abbrev pub kept : PathAttribute → Attribute
kept a = record { kind = a.kind; flags = bit_and a.flags 224; value = a.value }

-- whether an attribute is kept unread
abbrev pub is_kept : PathAttribute → Bool
is_kept a = not (is_read a.kind)

-- the attribute put among others by ascending type
abbrev pub put : Attribute → List Attribute → List Attribute
put a [] = a ∷ []
put a (b ∷ others) = if nat_lt a.kind b.kind then a ∷ b ∷ others else b ∷ put a others

-- the attributes that are kept unread, by ascending type
abbrev pub others_of : List PathAttribute → List Attribute
others_of [] = []
others_of (a ∷ list) = if is_read a.kind then others_of list else put (kept a) (others_of list)
