-- Octets that were written and synced.
use Rattle.std.proofs.Common.{◌≡◌, ◌∙◌, ℕ, List, length, sym, ap}
use Rattle.disk_models.specs.Octets.{octets}
use Rattle.disk_models.specs.Erase.{DiskState, Stays, Syncs}
use Rattle.disk_models.proofs.api.Moments.{synced_leave}
use Rattle.memory_files.specs.Keeping.{IsKept}

-- a write, a sync that succeeded, and a read
pub kept_then : (at : ℕ) (bytes : List ℕ) (s1 s2 s3 : DiskState) → octets s1.octet at (length bytes) ≡ bytes → Syncs s1 s2 → Stays s2 s3 → IsKept at bytes s3
kept_then at bytes s1 s2 s3 written synced stays =
    let read : octets s3.octet at (length bytes) ≡ bytes = ap (λ (f : ℕ → ℕ). octets f at (length bytes)) (stays.same ∙ synced.same) ∙ written in
    record {
      read = read;
      left = λ c may. ap (λ (f : ℕ → ℕ). octets f at (length bytes)) (synced_leave s3 c (λ i un. synced.settled i (stays.unsynced i un)) may) ∙ read;
    }

-- and what the read gives
pub read_as_written : (at : ℕ) (bytes read : List ℕ) (s1 s2 : DiskState) → length bytes ≡ 16384 → octets s1.octet at (length bytes) ≡ bytes → Syncs s1 s2 → read ≡ octets s2.octet at 16384 → read ≡ bytes
read_as_written at bytes read s1 s2 long written synced is =
    is ∙ ap (λ (f : ℕ → ℕ). octets f at 16384) synced.same ∙ ap (λ n. octets s1.octet at n) (sym long) ∙ written
