use Rattle.std.proofs.Common.{◌≡◌, ℕ, ◌+◌, ◌<◌, ◌≤◌, max, sym, ap, ◌∙◌, subst, arith}
use Rattle.std.specs.Prelude.{slice_index}
use Rattle.board.specs.Past.{reach}
use Rattle.board.specs.Views.{View}
use Rattle.board.specs.Words.{place_of, IsWord}
use Rattle.board.specs.declared.word.Word.{Word}
use Rattle.board.specs.declared.word.Word.TheVariants.{Watermark, Durable}
use Rattle.board.specs.inner.Rule.{most}
use Rattle.board.proofs.Reaching.{most_there}
use Rattle.board.proofs.Numbers.{number_here, number_rises}
use Rattle.board.proofs.Moves.{raises_at}
use Rattle.board.proofs.board.Board.raise.Goals as goal

word_there : (n : ℕ) (word : Word) → IsWord n word → place_of word < n + 1
word_there n Watermark is = omega arith
word_there n (Durable c) is = omega (arith, is)

pub fetch_max-requires : goal.fetch_max-requires
fetch_max-requires g c =
    let w = c.writer.invariant in
    let b = c.self.invariant in
    let x = c.writer.inside.seat.me.0.knows.past in
    let known = subst (λ (k : View). c.args.to ≤ reach k.past.history (place_of c.args.word)) (sym c.writer.view_is) c.requires.reached in
    let top : c.args.to ≤ most x (place_of c.args.word) = subst (λ n. c.args.to ≤ n) (sym (most_there x w.3 (place_of c.args.word))) known in
    let low : c.args.to ≤ most x c.place.result = subst (λ i. c.args.to ≤ most x i) (sym c.place.ensures) top in
    let there = word_there c.args.self.now c.args.word c.requires.word in
    let inside : c.place.result < c.self.inside.table.shared.table_id.words = omega (arith, there, c.place.ensures, b.1, c.self.view_is) in
    (w.0 ∙ sym b.0, inside, raises_at _ _ _ _ _ _ w.1 w.2 low (omega (arith, b.1, b.2, inside)))

pub returns-clause-rises : goal.returns-clause-rises
returns-clause-rises g c =
    let n : ℕ = max c.fetch_max.result c.args.to in
    let e = c.fetch_max.ensures in
    let was : slice_index c.writer.inside.seat.me.0.knows.numbers c.place.result ≤ n = (let a = e.2.1 in omega arith) in
    let up = number_rises c.writer.inside.seat.me.0.knows.numbers c.place.result n was in
    rw (← c.writer.view_is, ap (λ v. v.knows.numbers) e.2.0) up

pub returns-clause-raised : goal.returns-clause-raised
returns-clause-raised g c =
    let n : ℕ = max c.fetch_max.result c.args.to in
    let e = c.fetch_max.ensures in
    let here = number_here c.writer.inside.seat.me.0.knows.numbers c.place.result n in
    let at : slice_index c.fetch_max.new.seat.me.0.knows.numbers c.place.result ≡ n = ap (λ v. slice_index v.knows.numbers c.place.result) e.2.0 ∙ here in
    subst (λ i. c.args.to ≤ slice_index c.fetch_max.new.seat.me.0.knows.numbers i) c.place.ensures (omega (arith, at))
