-- the window has grown by what the reader gave, and nothing was read where a line was there or no room
use Rattle.std.proofs.Common.{◌≡◌, ◌-◌, length}
use Rattle.line_reader.specs.Lines.{HasLine}
use Rattle.line_reader.proofs.Filling.{Grown}
use Rattle.line_reader.proofs.reading.fill_line.Given as goal

abbrev pub invariant-loop-end : goal.invariant-loop-end
invariant-loop-end g l = record {
  grown : Grown l.initial.window l.window (g.R.Read.remaining l.initial.reader) (g.R.Read.remaining l.reader);
  full : length l.initial.window ≡ 4096 → l.reader ≡ l.initial.reader;
  ready : HasLine l.initial.window → l.reader ≡ l.initial.reader;
}

abbrev pub decreases-loop-end : goal.decreases-loop-end
decreases-loop-end g l = 4096 - length l.window
