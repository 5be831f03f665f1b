use Rattle.std.proofs.Common.{◌≡◌, ◌++◌, take, string_bytes, flat_map}
use Rattle.service.specs.AnswerLines.{event_line}
use Rattle.tables.specs.declared.form.Form.TheVariants.{Lines}
use Rattle.tables.proofs.events.write_events.Given as goal

abbrev pub invariant-loop-event : goal.invariant-loop-event
invariant-loop-event l = l.form ≡ Lines → string_bytes l.out ≡ string_bytes l.initial.out ++ flat_map event_line (take l.event-index l.events)
