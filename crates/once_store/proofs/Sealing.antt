-- What stands where in a sealed block.
use Rattle.std.proofs.Common.{◌≡◌, ℕ, List, ◌++◌, length, take, drop, sym, subst, arith}
use Rattle.std.proofs.lemmas.List.{length-take-le}
use Rattle.std.proofs.Math.Seq.{take-append_seam, drop-append_seam}
use Rattle.sha2.specs.Sha256.{sha256}
use Rattle.once_store.specs.Digests.{IsWhole, body_of, sealed}

pub body_size : (block : List ℕ) → length block ≡ 16384 → length (body_of block) ≡ 16352
body_size block size = length-take-le 16352 block (omega arith)

body_before : (block digest : List ℕ) → length block ≡ 16384 → take 16352 (body_of block ++ digest) ≡ body_of block
body_before block digest size = subst (λ (n : ℕ). take n (body_of block ++ digest) ≡ body_of block) (body_size block size) (take-append_seam (body_of block) digest)

digest_after : (block digest : List ℕ) → length block ≡ 16384 → drop 16352 (body_of block ++ digest) ≡ digest
digest_after block digest size = subst (λ (n : ℕ). drop n (body_of block ++ digest) ≡ digest) (body_size block size) (drop-append_seam (body_of block) digest)

pub sealed_body : (block : List ℕ) → length block ≡ 16384 → body_of (sealed block) ≡ body_of block
sealed_body block size = body_before block (sha256 (body_of block)) size

pub sealed_whole : (block : List ℕ) → length block ≡ 16384 → IsWhole (sealed block)
sealed_whole block size = rw (sealed_body block size) (sym (digest_after block (sha256 (body_of block)) size))
