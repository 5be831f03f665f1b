-- Request lines and what they ask. A line is taken without its end.
use Rattle.std.specs.Prelude.{◌≡◌, ◌⊎◌, ℕ, ◌≤◌, ◌==◌, Option, Some, None, List, [], ◌∷◌, codes, decimal}
use Rattle.std.specs.List.{slice_split}
use Rattle.route_model.specs.declared.address.Address.{Address}
use Rattle.route_model.specs.declared.peer.Peer.{Peer}
use Rattle.route_model.specs.Prefix.{IpPrefix}
use Rattle.route_meaning.specs.declared.question.Select.{Select}
use Rattle.route_meaning.specs.declared.question.Select.TheVariants.{Route, ByPrefix, Covering, PeerTable, All}
use Rattle.route_meaning.specs.declared.question.Spot.{Spot}
use Rattle.route_meaning.specs.declared.question.RowsQuestion.{RowsQuestion}
use Rattle.route_meaning.specs.declared.question.EventsQuestion.{EventsQuestion}
use Rattle.route_meaning.specs.declared.question.ChangedQuestion.{ChangedQuestion}
use Rattle.route_text.specs.AddressText.{IsAddressText}
use Rattle.route_text.specs.PrefixText.{IsPrefixText}
use Rattle.route_text.specs.MomentText.{IsMomentText}
use Rattle.interleaving_core.specs.declared.query.Query.TheVariants.{Rows, Events}
use Rattle.service.specs.declared.request.Request.{Request}
use Rattle.service.specs.declared.request.Request.TheVariants.{Question, Changed, Watermark, Durable}

-- the words of a line: the texts before, between and after its spaces
abbrev pub words_of : List ℕ → List (List ℕ)
words_of line = slice_split (λ b. b == 32) line

-- the only word is the number, which is at most the last one
pub record AreNumberWords (last : ℕ) (words : List (List ℕ)) (number : ℕ) : Type 0 where
  pub text : List ℕ
  pub are : words ≡ text ∷ []
  pub number_is : text ≡ decimal number
  pub within : number ≤ last

-- COLLECTOR ADDRESS AS name the peer
pub record ArePeerWords (collector address as_number : List ℕ) (peer : Peer) : Type 0 where
  pub collector_is : collector ≡ decimal peer.collector
  pub few : peer.collector ≤ 15
  pub address_is : IsAddressText address peer.address
  pub as_number_is : as_number ≡ decimal peer.as_number
  pub in_range : peer.as_number ≤ 4294967295

-- PEER PREFIX name the spot
pub record AreSpotWords (words : List (List ℕ)) (spot : Spot) : Type 0 where
  pub collector : List ℕ
  pub address : List ℕ
  pub as_number : List ℕ
  pub prefix : List ℕ
  pub are : words ≡ collector ∷ address ∷ as_number ∷ prefix ∷ []
  pub peer_is : ArePeerWords collector address as_number spot.peer
  pub prefix_is : IsPrefixText prefix spot.prefix

-- `after PEER PREFIX`: the answer begins after this spot; no word: it begins with the first row
abbrev pub AreAfterWords : List (List ℕ) → Option Spot → Type 0
AreAfterWords words None = words ≡ []
AreAfterWords words (Some spot) = (named : List (List ℕ)) × (words ≡ codes "after" ∷ named) × AreSpotWords named spot

-- `route PEER PREFIX`
pub record AreRouteWords (words : List (List ℕ)) (spot : Spot) : Type 0 where
  pub named : List (List ℕ)
  pub are : words ≡ codes "route" ∷ named
  pub spot_is : AreSpotWords named spot

-- `prefix PREFIX`, and perhaps `after PEER PREFIX`
pub record ArePrefixWords (words : List (List ℕ)) (prefix : IpPrefix) (after : Option Spot) : Type 0 where
  pub text : List ℕ
  pub beyond : List (List ℕ)
  pub are : words ≡ codes "prefix" ∷ text ∷ beyond
  pub prefix_is : IsPrefixText text prefix
  pub after_is : AreAfterWords beyond after

-- `cover ADDRESS`, and perhaps `after PEER PREFIX`
pub record AreCoverWords (words : List (List ℕ)) (address : Address) (after : Option Spot) : Type 0 where
  pub text : List ℕ
  pub beyond : List (List ℕ)
  pub are : words ≡ codes "cover" ∷ text ∷ beyond
  pub address_is : IsAddressText text address
  pub after_is : AreAfterWords beyond after

-- `peer PEER`, and perhaps `after PEER PREFIX`
pub record ArePeerTableWords (words : List (List ℕ)) (peer : Peer) (after : Option Spot) : Type 0 where
  pub collector : List ℕ
  pub address : List ℕ
  pub as_number : List ℕ
  pub beyond : List (List ℕ)
  pub are : words ≡ codes "peer" ∷ collector ∷ address ∷ as_number ∷ beyond
  pub peer_is : ArePeerWords collector address as_number peer
  pub after_is : AreAfterWords beyond after

-- `all`, and perhaps `after PEER PREFIX`
pub record AreAllWords (words : List (List ℕ)) (after : Option Spot) : Type 0 where
  pub beyond : List (List ℕ)
  pub are : words ≡ codes "all" ∷ beyond
  pub after_is : AreAfterWords beyond after

-- these rows are asked for, from after this spot on; one route is asked for without a spot
abbrev pub AreSelectWords : List (List ℕ) → Select → Option Spot → Type 0
AreSelectWords words (Route peer prefix) after = AreRouteWords words (record { peer = peer; prefix = prefix }) × (after ≡ None)
AreSelectWords words (ByPrefix prefix) after = ArePrefixWords words prefix after
AreSelectWords words (Covering address) after = AreCoverWords words address after
AreSelectWords words (PeerTable peer) after = ArePeerTableWords words peer after
AreSelectWords words All after = AreAllWords words after

-- `at T`, and which rows are asked for
pub record AreRowsWords (words : List (List ℕ)) (q : RowsQuestion) : Type 0 where
  pub moment : List ℕ
  pub asked : List (List ℕ)
  pub are : words ≡ codes "at" ∷ moment ∷ asked
  pub moment_is : IsMomentText moment q.moment
  pub select_is : AreSelectWords asked q.select q.after

-- `skip N`: this many events are left out; no word: none is
abbrev pub AreSkipWords : List (List ℕ) → ℕ → Type 0
AreSkipWords words skip = ((words ≡ []) × (skip ≡ 0)) ⊎ ((named : List (List ℕ)) × (words ≡ codes "skip" ∷ named) × AreNumberWords 18446744073709551615 named skip)

-- `history FROM TO PEER PREFIX`, and perhaps `skip N`
pub record AreEventsWords (words : List (List ℕ)) (q : EventsQuestion) : Type 0 where
  pub from : List ℕ
  pub to : List ℕ
  pub collector : List ℕ
  pub address : List ℕ
  pub as_number : List ℕ
  pub prefix : List ℕ
  pub beyond : List (List ℕ)
  pub are : words ≡ codes "history" ∷ from ∷ to ∷ collector ∷ address ∷ as_number ∷ prefix ∷ beyond
  pub from_is : IsMomentText from q.from
  pub to_is : IsMomentText to q.to
  pub peer_is : ArePeerWords collector address as_number q.peer
  pub prefix_is : IsPrefixText prefix q.prefix
  pub skip_is : AreSkipWords beyond q.skip

-- `changed FROM TO LOW HIGH`, and perhaps `after PEER PREFIX`
pub record AreChangedWords (words : List (List ℕ)) (q : ChangedQuestion) : Type 0 where
  pub from : List ℕ
  pub to : List ℕ
  pub low : List ℕ
  pub high : List ℕ
  pub beyond : List (List ℕ)
  pub are : words ≡ codes "changed" ∷ from ∷ to ∷ low ∷ high ∷ beyond
  pub from_is : IsMomentText from q.from
  pub to_is : IsMomentText to q.to
  pub low_is : IsPrefixText low q.low
  pub high_is : IsPrefixText high q.high
  pub after_is : AreAfterWords beyond q.after

-- `durable C`
pub record AreDurableWords (words : List (List ℕ)) (collector : ℕ) : Type 0 where
  pub named : List (List ℕ)
  pub are : words ≡ codes "durable" ∷ named
  pub collector_is : AreNumberWords 15 named collector

-- the words ask this
abbrev pub AreRequestWords : List (List ℕ) → Request → Type 0
AreRequestWords words (Question (Rows q)) = AreRowsWords words q
AreRequestWords words (Question (Events q)) = AreEventsWords words q
AreRequestWords words (Changed q) = AreChangedWords words q
AreRequestWords words Watermark = words ≡ codes "watermark" ∷ []
AreRequestWords words (Durable collector) = AreDurableWords words collector

-- the line asks this
abbrev pub IsRequestLine : List ℕ → Request → Type 0
IsRequestLine line request = AreRequestWords (words_of line) request
