-- The note of an archive's journal.
use Rattle.std.specs.Prelude.{ℕ, List, ◌∷◌, ◌++◌}
use Rattle.std.specs.Int.{w16, w64, to_be_bytes}
use Rattle.archive_pages.specs.declared.settings.Settings.{Settings}

-- how many blocks the write-once disk has, in eight octets; how many collectors there are, in one; and how many pages the ring of each
-- has, in two
unfoldable pub note_octets : ℕ → Settings → List ℕ
note_octets blocks s = to_be_bytes w64 blocks ++ s.collectors ∷ to_be_bytes w16 s.ring
