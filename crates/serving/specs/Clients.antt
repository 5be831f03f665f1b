-- A connection that is served to its end: its lines, and the feed that one of them announces.
use Rattle.std.specs.Prelude.{◌≡◌, ◌⊎◌, ℕ, Bool, true, false, List, Option}
use Rattle.std.specs.Io.KnownBytes.{prepend_known}
use Rattle.board.specs.Views.{View}
use Rattle.server.specs.Connections.{EndsSo}
use Rattle.server.specs.declared.connection.Ending.{Ending}
use Rattle.server.specs.declared.connection.Ending.TheVariants as endings
use Rattle.server.specs.declared.port.Port.{Port}
use Rattle.service.specs.Feeds.{MayGive}
use Rattle.service.specs.Outputs.{OutputState}
use Rattle.service.specs.declared.faults.FeedStop.{FeedStop}
use Rattle.service.specs.declared.faults.FeedStop.TheVariants as stops
use Rattle.service.specs.declared.intake.End.{End}
use Rattle.service.specs.declared.intake.End.TheVariants as ends
use Rattle.shared_feed.specs.SharedFeeds.{IsEnd, limits_of}
use Rattle.serving.specs.declared.client.Closing.{Closing}
use Rattle.serving.specs.declared.client.Closing.TheVariants as closings

-- how a connection ended whose work is done, where a write of it failed or none did
abbrev pub done_unless : Bool → Closing
done_unless true = closings.Failed
done_unless false = closings.Done

-- how it ended whose lines ended so; a feed is no end
abbrev pub EndsAs : Ending → Bool → Closing → Type 0
EndsAs endings.Done failed closing = closing ≡ done_unless failed
EndsAs (endings.Feed collector limit) failed closing = ⊥
EndsAs endings.Stop failed closing = closing ≡ closings.Stop
EndsAs endings.Failed failed closing = closing ≡ closings.Failed

-- how it ended whose feed was given up for this
abbrev pub closing_for : FeedStop → Bool → Closing
closing_for stops.NoCollector failed = done_unless failed
closing_for stops.CounterFull failed = done_unless failed
closing_for stops.IntakeFull failed = done_unless failed
closing_for (stops.Trouble trouble) failed = done_unless failed
closing_for stops.Outside failed = closings.Failed

-- how it ended whose feed ended so
abbrev pub closing_after : End → Bool → Closing
closing_after ends.Well failed = done_unless failed
closing_after ends.Cut failed = done_unless failed
closing_after (ends.Refused why) failed = closing_for why failed

-- The connection sent these octets, whose lines were answered until they ended.
pub record IsAnswered (promised : Type 0) (port : Port) (collectors : ℕ) (closing : Closing) (octets : List ℕ) (left : Option (List ℕ)) (v : View) (was : OutputState) (w : View) (now : OutputState) : Type 0 where
  pub ending : Ending
  pub rest : List ℕ
  pub ended : EndsSo promised port collectors ending octets v was rest w now left
  pub closes : EndsAs ending now.failed closing

-- The connection sent these octets, of which the last line announced a feed; what followed was taken in as that.
pub record IsFed (promised : Type 0) (port : Port) (collectors ring : ℕ) (closing : Closing) (octets : List ℕ) (left : Option (List ℕ)) (v : View) (was : OutputState) (w : View) (now : OutputState) : Type 0 where
  pub collector : ℕ
  pub limit : ℕ
  pub rest : List ℕ
  pub u : View
  pub then : OutputState
  pub announced : EndsSo promised port collectors (endings.Feed collector limit) octets v was rest u then left
  pub bytes : List ℕ
  pub given : MayGive (prepend_known rest left) bytes
  pub end : End
  pub fed : IsEnd promised collectors collector (limits_of limit ring) bytes end u then w now
  pub closes : closing ≡ closing_after end now.failed

-- how a connection was served that sent these octets, up to the end of its lines
abbrev pub IsServed : Type 0 → Port → ℕ → ℕ → Closing → List ℕ → Option (List ℕ) → View → OutputState → View → OutputState → Type 0
IsServed promised port collectors ring closing octets left v was w now = IsAnswered promised port collectors closing octets left v was w now ⊎ IsFed promised port collectors ring closing octets left v was w now
