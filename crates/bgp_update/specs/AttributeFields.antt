-- Path attributes as messages encode them (RFC 4271 section 4.3), and what a list of them contains.
use Rattle.std.specs.Prelude.{◌≡◌, ℕ, ◌+◌, ◌-◌, ◌==◌, if◌then◌else◌, false, bit_and, List, [], ◌∷◌, length, drop, slice_index, Option, Some, None}
use Rattle.std.specs.List.{list_any}
use Rattle.route_model.specs.Octets.{number_at}
use Rattle.route_model.specs.Sequence.{Sequence}
use Rattle.bgp_update.specs.declared.attribute.PathAttribute.{PathAttribute}

-- the octets before the value: flags, type, and a length of one octet, or of two if the flags have extended length
abbrev pub header_size : ℕ → ℕ
header_size flags = if bit_and flags 16 == 0 then 3 else 4

-- the field is that of the attribute, whose value has as many octets as the length
pub record IsAttributeField (field : List ℕ) (a : PathAttribute) : Type 0 where
  pub flags : a.flags ≡ slice_index field 0
  pub kind : a.kind ≡ slice_index field 1
  pub size : length field ≡ header_size a.flags + length a.value
  pub len : length a.value ≡ number_at (header_size a.flags - 2) 2 field
  pub value : a.value ≡ drop (header_size a.flags) field

-- no type occurs twice
abbrev pub NoneTwice : List PathAttribute → Type 0
NoneTwice [] = Unit {0}
NoneTwice (a ∷ list) = (list_any (λ b. b.kind == a.kind) list ≡ false) × NoneTwice list

-- all of the octets are these attributes one after another, no type twice
pub record AreListed (bytes : List ℕ) (list : List PathAttribute) : Type 0 where
  pub fields : Sequence IsAttributeField bytes list
  pub distinct : NoneTwice list

-- the value of the attribute of a type, if there is one
abbrev pub value_of : ℕ → List PathAttribute → Option (List ℕ)
value_of k [] = None
value_of k (a ∷ list) = if a.kind == k then Some a.value else value_of k list
