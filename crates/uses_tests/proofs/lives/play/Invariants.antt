use Rattle.std.proofs.Common.{◌≡◌, map, take}
use Rattle.archive_pages.specs.declared.settings.Settings.{Settings}
use Rattle.uses_tests.specs.Turns.{act_of}
use Rattle.uses_tests.specs.declared.acts.Birth.{Birth}
use Rattle.uses_tests.specs.inner.Taking.{Follows, IsBorn}
use Rattle.uses_tests.proofs.lives.play.Given as goal

abbrev pub invariant-loop-act : goal.invariant-loop-act
invariant-loop-act l = record {
  follows : (made : Settings) (birth : Birth) → IsBorn made birth l.fn.archive → Follows l.fn.archive l.archive l.turns.items;
  played : map act_of l.turns.items ≡ take l.act-index l.script;
}
