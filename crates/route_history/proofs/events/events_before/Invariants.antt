use Rattle.std.proofs.Common.{take, map}
use Rattle.std.specs.List.{AllByRecursion, filter}
use Rattle.route_history.specs.Spans.{before, version_at, subject_key, HasEvent, AreStamped}
use Rattle.route_history.proofs.events.events_before.Given as goal

abbrev pub invariant-loop-entry : goal.invariant-loop-entry
invariant-loop-entry l = AllByRecursion (HasEvent l.question.peer l.question.prefix) (map (version_at (subject_key l.question l.subject)) (take l.entry-index l.entries)) → AreStamped l.question (filter (before l.to) (map (version_at (subject_key l.question l.subject)) (take l.entry-index l.entries))) l.news.items
