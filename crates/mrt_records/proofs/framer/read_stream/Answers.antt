use Rattle.std.proofs.Common.{◌≡◌, suc, ◌+◌, ◌++◌, ◌<◌, drop, length, get_or, List, ℕ, [], ◌∷◌, subst, sym, ap, ◌∙◌, Vec, Global, add-one}
use Rattle.std.proofs.lemmas.Result.{err_from_is_err_and}
use Rattle.std.proofs.lemmas.List.{drop_all}
use Rattle.std.proofs.Math.Seq.{drop-cons}
use Rattle.mrt_records.specs.Streams.{GainsFrames}
use Rattle.mrt_records.proofs.api.Pieces.{Reached, reached_start, reached_on, reached_err, reached_finish}
use Rattle.mrt_records.proofs.framer.read_stream.Goals as goal

-- the pieces from one on
next_left : (pieces : List (Vec ℕ Global)) (i : ℕ) (piece : Vec ℕ Global) → i < length pieces → piece ≡ get_or pieces i piece → drop i pieces ≡ piece ∷ drop (i + 1) pieces
next_left pieces i piece lt e = rw (add-one) (drop-cons pieces i piece lt ∙ ap (λ (x : Vec ℕ Global). x ∷ drop (suc i) pieces) (sym e))

pub loop-piece-init : goal.loop-piece-init
loop-piece-init c = reached_start c.args.pieces.now c.new-framer.result c.args.out.now.items c.new-framer.ensures.empty

pub returns-in_err-feed : goal.returns-in_err-feed
returns-in_err-feed c =
    let p = err_from_is_err_and c.from_residual.result c.from_residual.ensures.1 in
    let here = next_left c.args.pieces.now c.loop-piece.piece-index c.piece-item.result c.loop-piece-test.true c.piece-item.is in
    let left = subst (λ (t : List (Vec ℕ Global)). Reached c.args.pieces.now t c.loop-piece.framer c.args.out.now.items c.loop-piece.out.items) here c.loop-piece.invariant in
    record { stream = rw (p.1, p.2) (reached_err c.in_err-feed.field-0.0 _ _ c.piece-item.result _ _ _ _ _ left (rw c.deref.ensures.value at c.in_err-feed.ensures.fed)) }

pub loop-piece-preserved : goal.loop-piece-preserved
loop-piece-preserved c =
    let here = next_left c.args.pieces.now c.loop-piece.piece-index c.piece-item.result c.loop-piece-test.true c.piece-item.is in
    let left = subst (λ (t : List (Vec ℕ Global)). Reached c.args.pieces.now t c.loop-piece.framer c.args.out.now.items c.loop-piece.out.items) here c.loop-piece.invariant in
    let fed = subst (λ (t : List ℕ). GainsFrames (c.loop-piece.framer ++ t) c.feed.new.self c.loop-piece.out.items c.feed.new.out.items) c.deref.ensures.value c.in_ok-feed.ensures.fed.0 in
    reached_on _ _ c.piece-item.result _ _ _ _ _ left fed

pub returns : goal.returns
returns c = record {
  stream =
      let none : drop c.loop-piece.piece-index c.args.pieces.now ≡ [] = drop_all c.loop-piece.piece-index c.args.pieces.now c.loop-piece-test.false in
      reached_finish c.finish.result _ _ _ _ (subst (λ (t : List (Vec ℕ Global)). Reached c.args.pieces.now t c.loop-piece.framer c.args.out.now.items c.loop-piece.out.items) none c.loop-piece.invariant) c.finish.ensures.end;
}
