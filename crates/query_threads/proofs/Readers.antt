-- A reader of the disk that is named, and the blocks that it keeps.
use Rattle.std.proofs.Common.{◌≡◌, ◌∙◌, ℕ, List, Option, Some, sym}
use Rattle.std.proofs.lemmas.Option.{same_Some}
use Rattle.board.specs.Past.{Among}
use Rattle.board.specs.Views.{View, BeginsView}

-- it is one of the archive's disk, which is named too
pub same_disk : {D : Type 0} (o : Option D) (d e : D) → o ≡ Some d → o ≡ Some e → d ≡ e
same_disk o d e is other = same_Some d e (sym is ∙ other)

-- what it kept of a past it keeps of each later one
pub among_later : (u v : View) (kept : List (ℕ × List ℕ)) → BeginsView u v → Among kept u.past.blocks → Among kept v.past.blocks
among_later u v kept begins among n octets is = begins.past.blocks n octets (among n octets is)
