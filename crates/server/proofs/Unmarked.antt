-- Why a mark isn't set, in the words of lines.
use Rattle.std.proofs.Common.{ℕ, Err}
use Rattle.board.specs.Views.{View}
use Rattle.query_threads.specs.Seeing.{Sees}
use Rattle.query_threads.specs.Steps.{DoesMark}
use Rattle.query_threads.specs.declared.refusal.MarkError.{MarkError}
use Rattle.query_threads.specs.declared.refusal.MarkError.TheVariants as marks
use Rattle.server.specs.Marks.{IsUnmarked}
use Rattle.server.specs.Troubles.{of_mark}

pub unmarked_for : (c m : ℕ) (v w : View) (refusal : MarkError) → Sees (DoesMark c m (Err refusal)) v w → IsUnmarked c m v w (of_mark refusal)
unmarked_for c m v w marks.NoCollector sees = sees
unmarked_for c m v w marks.MarkBack sees = sees
unmarked_for c m v w (marks.Trouble trouble) sees = tt
