-- Ranges that are read and written part by part.
use borrow.Rule.Slice.PartMut.{put_mid, post_of}
use Rattle.std.proofs.Common.{◌≡◌, ◌≤◌, ℕ, ◌+◌, List, [], ◌∷◌, ◌++◌, get_or, length, take, drop, refl, sym, ◌∙◌, ap, inr, arith}
use Rattle.std.proofs.lemmas.List.{length-take-le, take-append-le}
use Rattle.std.proofs.Math.Seq.{take-add, take-append-add}
use Rattle.disk_models.specs.Octets.{octets}
use Rattle.disk_models.specs.Erase.{DiskState, MayLeave, Stays, Lingers, Syncs, WritesWithin}
use Rattle.disk_files.specs.Marked.{IsMarked}
use Rattle.disk_models.proofs.api.OctetLemmas.{octets-add, octets_agree}
use Rattle.disk_models.proofs.api.Moments.{leaves_then, leaves_weaker, moves_then, stays_may_leave}

-- the front was read, and then the octets after it
pub part_read : (f : ℕ → ℕ) (at a n k : ℕ) (xs ys : List ℕ) → a ≤ length xs → n ≤ length ys → take a xs ≡ octets f at a → take n ys ≡ octets f (at + a) n
    → take (a + n) (put_mid a k xs ys) ≡ octets f at (a + n)
part_read f at a n k xs ys fits few front more =
    ap (λ m. take (m + n) (put_mid a k xs ys)) (sym (length-take-le a xs fits))
    ∙ take-append-add (take a xs) (ys ++ post_of a k xs) n
    ∙ ap (λ (l : List ℕ). take a xs ++ l) (take-append-le n ys (post_of a k xs) few ∙ more)
    ∙ ap (λ (l : List ℕ). l ++ octets f (at + a) n) front
    ∙ sym (octets-add f at a n)

-- the front was written, and then the octets after it
pub part_written : (at a n m : ℕ) (s0 s1 : DiskState) (xs : List ℕ) → octets s0.octet at a ≡ take a xs → WritesWithin (at + a) m s0 s1 → octets s1.octet (at + a) n ≡ take n (drop a xs)
    → octets s1.octet at (a + n) ≡ take (a + n) xs
part_written at a n m s0 s1 xs front within more =
    octets-add s1.octet at a n
    ∙ ap (λ (l : List ℕ). l ++ octets s1.octet (at + a) n) (octets_agree s1.octet s0.octet at a (λ i w. within.outside i (λ inside. omega (arith, inside.0, w.1))) ∙ front)
    ∙ ap (λ (l : List ℕ). take a xs ++ l) more
    ∙ sym (take-add a n xs)

-- nothing was read or written yet
pub none_read : (f : ℕ → ℕ) (at : ℕ) → octets f at 0 ≡ []
unfolding octets
none_read f at = refl

-- a sync after a read
pub stays_lingers : (s0 s1 s2 : DiskState) → Stays s0 s1 → Lingers s1 s2 → Lingers s0 s2
stays_lingers s0 s1 s2 a b = record {
  one_of = stays_may_leave s0 s1 s2.octet a b.one_of;
  unsynced = λ i un. a.unsynced i (b.unsynced i un);
  moves = moves_then s0 s1 s2 a.crash.later b.crash.later (inr (record { same = a.same; unsynced = a.unsynced; still = a.still })) b.moves;
  crash = leaves_then s0 s1 s2 (MayLeave s0) a.crash (leaves_weaker s1 s2 (MayLeave s1) (MayLeave s0) (λ c may. stays_may_leave s0 s1 c a may) b.crash);
}

-- one octet
pub one_octet : (f : ℕ → ℕ) (at : ℕ) (xs : List ℕ) → xs ≡ octets f at 1 → get_or xs 0 0 ≡ f at
unfolding octets
one_octet f at xs is = ap (λ (l : List ℕ). get_or l 0 0) is

-- an octet that was written, and then brought to the device
pub marked : (n : ℕ) (s1 s2 : DiskState) → octets s1.octet n 1 ≡ 1 ∷ [] → Syncs s1 s2 → IsMarked n s2
marked n s1 s2 written synced = record {
  octet = ap (λ (f : ℕ → ℕ). f n) synced.same ∙ sym (one_octet s1.octet n (1 ∷ []) (sym written));
  synced = synced.settled n;
}
