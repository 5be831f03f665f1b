-- What stands at places of the head's page.
use Rattle.std.specs.Prelude.{ℕ, zero, suc, ◌+◌, ◌*◌, ◌<◌, ◌⊎◌, List, [], ◌∷◌}
use Rattle.route_model.specs.Moments.{latest_moment, last_mark}
use Rattle.route_model.specs.Octets.{number_at}
use Rattle.archive_head.specs.declared.lane.Lane.{Lane}
use Rattle.archive_head.specs.Head.{Contents}

-- what is kept of a collector, from a place on
abbrev pub lane_at : List ℕ → ℕ → Lane
lane_at octets place = record { offered = number_at 8 place octets; admitted = number_at 8 (place + 8) octets; mark = number_at 8 (place + 16) octets; first = number_at 8 (place + 24) octets; used = number_at 8 (place + 32) octets; since = number_at 8 (place + 40) octets }

-- what is kept of this many collectors, from the i-th on
abbrev pub lanes_from : List ℕ → ℕ → ℕ → List Lane
lanes_from octets i zero = []
lanes_from octets i (suc count) = lane_at octets (64 + 64 * i) ∷ lanes_from octets (suc i) count

-- what is kept with this many collectors
abbrev pub contents_at : List ℕ → ℕ → Contents
contents_at octets count = record { applied = number_at 8 0 octets; last = number_at 8 8 octets; begun = number_at 8 16 octets; fresh = number_at 8 24 octets; block = number_at 8 32 octets; root = number_at 8 40 octets; lanes = lanes_from octets 0 count }

-- what is kept of a collector from a place on has no mark where one should be
abbrev pub IsNoMark : List ℕ → ℕ → Type 0
IsNoMark octets place = last_mark < number_at 8 (place + 16) octets

-- a time or a mark is none
abbrev pub HasNoReading : List ℕ → ℕ → Type 0
HasNoReading octets count = (latest_moment < number_at 8 8 octets) ⊎ ((i : ℕ) × (i < count) × IsNoMark octets (64 + 64 * i))
