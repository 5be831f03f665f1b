use Rattle.std.proofs.Common.{◌≡◌, ◌++◌, take, string_bytes, flat_map}
use Rattle.service.specs.AnswerLines.{event_line}
use Rattle.service.proofs.event_lines.write_events.Given as goal

abbrev pub invariant-loop-event : goal.invariant-loop-event
invariant-loop-event l = string_bytes l.out ≡ string_bytes l.initial.out ++ flat_map event_line (take l.event-index l.answer.events.items)
