-- The lines of a feed. Each ends in LF.
use Rattle.std.specs.Prelude.{ℕ, List, [], ◌∷◌, ◌++◌, codes, decimal}
use Rattle.std.specs.List.{flat_map}
use Rattle.interleaving_core.specs.declared.reply.BatchReply.{BatchReply}
use Rattle.sequencer.specs.declared.late.Late.{Late}
use Rattle.service.specs.declared.feed_lines.FeedCounts.{FeedCounts}
use Rattle.route_text.specs.MomentText.{moment_text}
use Rattle.service.specs.Refusals.{line_end}

-- a letter, the numbers with a bar before each, and LF
abbrev pub numbers_line : List ℕ → List ℕ → List ℕ
numbers_line letter numbers = letter ++ flat_map (λ n. codes "|" ++ decimal n) numbers ++ line_end

-- a batch: the first number that its admissions got and the one after their last, and how many records were offered for the collector until now
abbrev pub batch_line : ℕ → ℕ → ℕ → List ℕ
batch_line from to offered = numbers_line (codes "B") (from ∷ to ∷ offered ∷ [])

-- a late record: its place in the batch, its time, and the mark at its turn
abbrev pub late_line : Late → List ℕ
late_line l = codes "L|" ++ decimal l.index ++ codes "|" ++ moment_text l.time ++ codes "|" ++ moment_text l.mark ++ line_end

-- what became of a batch, and then each of its late records
abbrev pub admitted_text : BatchReply → List ℕ
admitted_text a = batch_line a.receipt.from a.receipt.to a.offered ++ flat_map late_line a.late.items

-- of a feed: its records, and how many of them were admitted, late, refused and skipped
abbrev pub counts_line : FeedCounts → List ℕ
counts_line c = numbers_line (codes "F") (c.records ∷ c.admitted ∷ c.late ∷ c.refused ∷ c.skipped ∷ [])

-- the settled watermark
abbrev pub settled_line : ℕ → List ℕ
settled_line settled = codes "S|" ++ moment_text settled ++ line_end
