use Rattle.std.proofs.Common.{ℕ, sym, ap, ◌∙◌, drop}
use Rattle.line_reader.proofs.Filling.{is_nil, read_below}
use Rattle.line_reader.proofs.reading.LineReaderRead.read.Goals as goal

pub returns-then-is_empty-clause-bytes : goal.returns-then-is_empty-clause-bytes
returns-then-is_empty-clause-bytes g c =
    let none = sym c.as_slice.ensures.octets ∙ is_nil c.as_slice.result.now _ c.is_empty.ensures c.if-is_empty.true in
    let left = c.leave_line.ensures in
    rw (← c.self.view_is)
    (read_below _ _ _ _ c.read.result c.read.new.buf (sym left.window ∙ none) (ap (λ (n : ℕ). drop n c.leave_line.new.window) left.whole ∙ none) c.read.ensures.bytes)
