-- The lines of an answer. Each ends in LF.
use Rattle.std.specs.Prelude.{ℕ, Bool, true, false, Option, Some, None, List, ◌++◌, ◌+◌, ◌-◌, codes, decimal, length, slice_get}
use Rattle.std.specs.List.{flat_map}
use Rattle.route_model.specs.declared.change.Change.{Change}
use Rattle.route_model.specs.declared.change.Change.TheVariants.{Announce, Withdraw, Down}
use Rattle.route_model.specs.declared.peer.Peer.{Peer}
use Rattle.route_model.specs.Prefix.{IpPrefix}
use Rattle.route_meaning.specs.declared.question.Row.{Row}
use Rattle.route_meaning.specs.declared.question.RowsAnswer.{RowsAnswer}
use Rattle.route_meaning.specs.declared.question.Event.{Event}
use Rattle.route_meaning.specs.declared.question.EventsAnswer.{EventsAnswer}
use Rattle.route_meaning.specs.declared.question.Spot.{Spot}
use Rattle.route_meaning.specs.declared.question.ChangedAnswer.{ChangedAnswer}
use Rattle.interleaving_core.specs.declared.query.Query.{Query}
use Rattle.interleaving_core.specs.declared.query.Query.TheVariants.{Rows, Events}
use Rattle.interleaving_core.specs.declared.query.Answer.{Answer}
use Rattle.interleaving_core.specs.declared.query.Answer.TheVariants.{Rows as RowsReported, Events as EventsReported}
use Rattle.route_text.specs.AddressText.{address_text}
use Rattle.route_text.specs.MomentText.{moment_text}
use Rattle.route_text.specs.PrefixText.{prefix_text}
use Rattle.route_text.specs.RouteText.{route_text}
use Rattle.service.specs.Refusals.{line_end}

-- the place of a row: collector, address and AS number of the peer, and the prefix
abbrev pub place_text : Peer → IpPrefix → List ℕ
place_text peer prefix =
    decimal peer.collector ++ codes "|" ++ address_text peer.address ++ codes "|" ++ decimal peer.as_number ++ codes "|" ++ prefix_text prefix

-- the place of a row, and the fields of its route
abbrev pub row_line : Row → List ℕ
row_line row = codes "R|" ++ place_text row.peer row.prefix ++ codes "|" ++ route_text row.route ++ line_end

-- nothing follows: how many lines there are
abbrev pub end_line : ℕ → List ℕ
end_line count = codes "E|" ++ decimal count ++ line_end

-- more places follow: the last one
abbrev pub more_line : Peer → IpPrefix → List ℕ
more_line peer prefix = codes "M|" ++ place_text peer prefix ++ line_end

-- whether more rows follow, with the last row, if there is one
abbrev pub ending : List Row → Bool → Option Row → List ℕ
ending rows false last = end_line (length rows)
ending rows true None = end_line (length rows)
ending rows true (Some row) = more_line row.peer row.prefix

-- a line for each row, in their order, and then whether more follow
abbrev pub answer_text : RowsAnswer → List ℕ
answer_text a = flat_map row_line a.rows.items ++ ending a.rows.items a.more (slice_get a.rows.items (length a.rows.items - 1))

-- a letter, a bar and a time
abbrev pub timed_text : List ℕ → ℕ → List ℕ
timed_text letter time = letter ++ codes "|" ++ moment_text time

-- what happened, and when: the peer announced a route, or withdrew one, or all of its routes ended
abbrev pub change_line : ℕ → Change → List ℕ
change_line time (Announce peer prefix route) = timed_text (codes "A") time ++ codes "|" ++ route_text route ++ line_end
change_line time (Withdraw peer prefix) = timed_text (codes "W") time ++ line_end
change_line time (Down peer) = timed_text (codes "D") time ++ line_end

-- an event: what happened, and when
abbrev pub event_line : Event → List ℕ
event_line e = change_line e.time e.change

-- how many events there are, if no more follow; else how many the next question skips, of which this one skipped this many
abbrev pub events_ending : ℕ → List Event → Bool → List ℕ
events_ending skip events false = end_line (length events)
events_ending skip events true = codes "M|" ++ decimal (skip + length events) ++ line_end

-- a line for each event, in their order, and then whether more follow
abbrev pub events_text : ℕ → EventsAnswer → List ℕ
events_text skip a = flat_map event_line a.events.items ++ events_ending skip a.events.items a.more

-- a place that changed
abbrev pub changed_line : Spot → List ℕ
changed_line spot = codes "C|" ++ place_text spot.peer spot.prefix ++ line_end

-- whether more places follow, with the last one, if there is one
abbrev pub changed_ending : List Spot → Bool → Option Spot → List ℕ
changed_ending spots false last = end_line (length spots)
changed_ending spots true None = end_line (length spots)
changed_ending spots true (Some spot) = more_line spot.peer spot.prefix

-- a line for each place that changed, in their order, and then whether more follow
abbrev pub changed_text : ChangedAnswer → List ℕ
changed_text a = flat_map changed_line a.spots.items ++ changed_ending a.spots.items a.more (slice_get a.spots.items (length a.spots.items - 1))

-- how many events a question skips
abbrev pub skip_of : Query → ℕ
skip_of (Rows q) = 0
skip_of (Events q) = q.skip

-- the lines of an answer to a question that skips this many events
abbrev pub reply_text : ℕ → Answer → List ℕ
reply_text skip (RowsReported a) = answer_text a
reply_text skip (EventsReported a) = events_text skip a

-- a letter, a bar, a number and the end of the line
abbrev pub number_line : List ℕ → ℕ → List ℕ
number_line letter number = letter ++ codes "|" ++ decimal number ++ line_end

-- the settled watermark
abbrev pub watermark_line : ℕ → List ℕ
watermark_line settled = codes "S|" ++ moment_text settled ++ line_end

-- how many records of a collector are admitted
abbrev pub count_line : ℕ → List ℕ
count_line count = number_line (codes "N") count
