use Rattle.std.proofs.Common.{◌≡◌, ℕ, ◌+◌, List, [], length, sym, ap, ◌∙◌, refl, arith}
use Rattle.std.specs.Prelude.{slice_index}
use Rattle.board.proofs.Numbers.{all_zeros}
use Rattle.board.proofs.Moves.{opens}
use Rattle.board.proofs.opened.Opened.new.Goals as goal

pub of_words-requires : goal.of_words-requires
of_words-requires c =
    let r = c.in_ok-resize.ensures in
    let v = c.as_slice.ensures.value in
    let e = c.new-words.ensures in
    let long : length c.as_slice.result.now ≡ c.from.result + 1 = c.as_slice.ensures.len ∙ r.len in
    opens {S = Unit {0}} _ _ [] (c.as_slice.ensures.len ∙ sym c.len-count.ensures)
    (all_zeros c.as_slice.result.now (c.from.result + 1) long (λ k less. ap (λ (l : List ℕ). slice_index l k) v ∙ r.by_index.1 k 0 refl (omega (arith, e.len)) less))
