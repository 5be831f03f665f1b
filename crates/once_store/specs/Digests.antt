-- Blocks with a digest of their body.
use Rattle.std.specs.Prelude.{ℕ, List, ◌++◌, ◌≡◌, take, drop}
use Rattle.sha2.specs.Sha256.{sha256}

-- what the digest of a block covers: all but its last 32 octets
abbrev pub body_of : List ℕ → List ℕ
body_of block = take 16352 block

-- its last 32 octets
abbrev pub digest_of : List ℕ → List ℕ
digest_of block = drop 16352 block

-- the block ends in the SHA-256 of its body
abbrev pub IsWhole : List ℕ → Type 0
IsWhole block = sha256 (body_of block) ≡ digest_of block

-- the block's body followed by the body's SHA-256
abbrev pub sealed : List ℕ → List ℕ
sealed block = body_of block ++ sha256 (body_of block)
