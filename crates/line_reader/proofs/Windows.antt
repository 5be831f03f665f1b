-- The octets of a window, after the first are taken away, and after more are appended to them.
use Rattle.std.proofs.Common.{◌≡◌, ℕ, ◌+◌, ◌-◌, ◌≤◌, List, ◌++◌, length, take, drop, sym, ap, ◌∙◌, arith}
use Rattle.std.proofs.Math.Seq.{paste, take-append-add}
use Rattle.std.proofs.lemmas.List.{drop-take, length-drop, length-take-le, take-append-le}
use Rattle.std.proofs.lemmas.List.Edits.{take-paste}
use borrow.Rule.Slice.PartMut.{put_mid, post_of}

pub shifted : (octets : List ℕ) (len count : ℕ) → count ≤ len → len ≤ length octets → take (len - count) (paste octets 0 (drop count octets) (len - count)) ≡ drop count (take len octets)
shifted octets len count within fits =
    let n : ℕ = len - count in
    let sum : len ≡ count + n = omega arith in
    let some : n ≤ length (drop count octets) = omega (arith, length-drop count octets) in
    let none : n ≡ 0 + n = omega arith in
    ap (λ (k : ℕ). take k (paste octets 0 (drop count octets) n)) none
    ∙ take-paste octets 0 (drop count octets) n (omega arith) some
    ∙ sym (ap (λ (k : ℕ). drop count (take k octets)) sum ∙ drop-take count n octets)

pub grown : (octets piece : List ℕ) (len k n : ℕ) → len ≤ length octets → n ≤ length piece → take (len + n) (put_mid len k octets piece) ≡ take len octets ++ take n piece
grown octets piece len k n within fits =
    let front = length-take-le len octets within in
    ap (λ (j : ℕ). take (j + n) (put_mid len k octets piece)) (sym front)
    ∙ take-append-add (take len octets) (piece ++ post_of len k octets) n
    ∙ ap (λ (l : List ℕ). take len octets ++ l) (take-append-le n piece (post_of len k octets) fits)
