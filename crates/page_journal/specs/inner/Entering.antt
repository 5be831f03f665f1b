-- Which pages aren't home after a post.
use Rattle.std.specs.Prelude.{◌==◌, ℕ, suc, List, [], ◌∷◌, if◌then◌else◌}
use Rattle.page_journal.specs.Layout.{Image}
use Rattle.page_journal.specs.declared.unhomed.Unhomed.{Unhomed}

-- the entries with this one, in place of its page's older one
abbrev pub with_entry : Unhomed → List Unhomed → List Unhomed
with_entry entry [] = entry ∷ []
with_entry entry (u ∷ rest) = if u.page == entry.page then entry ∷ rest else u ∷ with_entry entry rest

-- the entries with those of a post into a slot, from its j-th image on
abbrev pub unhomed_after : ℕ → ℕ → List Image → List Unhomed → List Unhomed
unhomed_after slot j [] old = old
unhomed_after slot j (image ∷ rest) old = unhomed_after slot (suc j) rest (with_entry (record { page = image.0; slot = slot; image = j }) old)
