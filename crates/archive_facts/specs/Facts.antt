-- What is shown of an archive.
use Rattle.std.specs.Prelude.{◌≡◌, ◌+◌, ◌*◌, ℕ, List, [], ◌∷◌, Option, option_map}
use Rattle.archive_head.specs.Head.{Contents}
use Rattle.archive_head.specs.declared.lane.Lane.{Lane as HeadLane}
use Rattle.archive_facts.specs.declared.facts.Facts.{Facts}
use Rattle.archive_facts.specs.declared.facts.Lane.{Lane}
use Rattle.archive_facts.specs.declared.identity.Sizes.{Sizes}
use Rattle.archive_facts.specs.declared.slots.TheConstants.{PAGE, SLOTS}

-- what is shown of a collector whose ring has this many octets: its number, and what the head has of it
abbrev pub shown_at : ℕ → ℕ → HeadLane → Lane
shown_at ring n lane = record { collector = n; mark = record { micros = lane.mark }; offered = lane.offered; admitted = lane.admitted; ring = record { used = lane.used; of = ring } }

-- the same of each collector, from the n-th on
abbrev pub shown_from : ℕ → ℕ → List HeadLane → List Lane
shown_from ring n [] = []
shown_from ring n (lane ∷ lanes) = shown_at ring n lane ∷ shown_from ring (n + 1) lanes

-- The facts about an archive of these sizes with this head. The version, what is settled, the time of the first change and how many slots were open are those that were given.
pub record AreFacts (version : List ℕ) (sizes : Sizes) (head : Contents) (settled : ℕ) (first : Option ℕ) (opened : ℕ) (facts : Facts) : Type 0 where
  pub changes : facts.changes ≡ head.applied
  pub last : facts.last ≡ record { micros = head.last }
  pub pages : facts.pages ≡ record { used = head.fresh; of = sizes.pages }
  pub blocks : facts.blocks ≡ record { used = head.block; of = sizes.blocks }
  pub collectors : facts.collectors.items ≡ shown_from (sizes.ring * PAGE) 0 head.lanes
  pub version_is : facts.version.now ≡ version
  pub settled_is : facts.settled ≡ record { micros = settled }
  pub first_is : facts.first ≡ option_map (λ n. record { micros = n }) first
  pub slots : facts.slots ≡ record { used = opened; of = SLOTS }
