-- A stream in pieces.
use Rattle.std.proofs.Common.{◌≡◌, ℕ, inl, List, [], ◌∷◌, ◌++◌, refl, sym, ap, subst, ◌∙◌, append_assoc, arith, Vec, Global}
use Rattle.std.specs.Prelude.{Result, Ok, Err}
use Rattle.std.proofs.lemmas.Grind.{flat_map-append}
use Rattle.std.proofs.lemmas.List.{append-nil}
use Rattle.route_model.specs.Sequence.{joined}
use Rattle.mrt_records.specs.Records.{IsRecord, Over, BeginsWithRecord}
use Rattle.mrt_records.specs.Streams.{GainsFrames}
use Rattle.mrt_records.specs.Feeding.{Fed, MayEnd, stream, IsStream}
use Rattle.mrt_records.specs.declared.framer.FrameError.{FrameError}
use Rattle.mrt_records.specs.declared.framer.FrameError.TheVariants as errors
use Rattle.mrt_records.specs.declared.item.Item.{Item}
use Rattle.route_model.proofs.api.Sequences.{joined-append}
use Rattle.mrt_records.proofs.api.Streams.{all-append, gains_then, frames_none, part_begins_none, over_begins_none, over-append}

-- which of the pieces were read, with these still to come
pub record Reached (pieces left : List (Vec ℕ Global)) (held : List ℕ) (old new : List Item) : Type 0 where
  pub before : List (Vec ℕ Global)
  pub parts : pieces ≡ before ++ left
  pub gained : GainsFrames (stream before) held old new

stream-append : (xs ys : List (Vec ℕ Global)) → stream (xs ++ ys) ≡ stream xs ++ stream ys
stream-append xs ys = flat_map-append (λ (piece : Vec ℕ Global). piece.items) xs ys

stream-push : (xs : List (Vec ℕ Global)) (piece : Vec ℕ Global) → stream (xs ++ piece ∷ []) ≡ stream xs ++ piece.items
stream-push xs piece = stream-append xs (piece ∷ []) ∙ ap (λ (t : List ℕ). stream xs ++ t) (append-nil piece.items)

pub reached_start : (pieces : List (Vec ℕ Global)) (held : List ℕ) (old : List Item) → held ≡ [] → Reached pieces pieces held old old
reached_start pieces held old e = record {
  before = [];
  parts = refl;
  gained = subst (λ (t : List ℕ). GainsFrames [] t old old) (sym e) (frames_none [] old (part_begins_none [] (inl (omega arith))));
}

-- the records of a front, and then those of what it left and of what follows
pub frames_then : (seen held more rest : List ℕ) (old mid new : List Item) → GainsFrames seen held old mid → GainsFrames (held ++ more) rest mid new → GainsFrames (seen ++ more) rest old new
frames_then seen held more rest old mid new p q = (
  p.0 ++ q.0,
  record {
    whole = ap (λ (t : List ℕ). t ++ more) p.1.whole ∙ append_assoc (joined p.0) held more ∙ ap (λ (t : List ℕ). joined p.0 ++ t) q.1.whole
        ∙ sym (append_assoc (joined p.0) (joined q.0) rest) ∙ ap (λ (t : List ℕ). t ++ rest) (sym (joined-append p.0 q.0));
    each = all-append IsRecord p.0 q.0 p.1.each q.1.each;
    ended = q.1.ended;
  },
  gains_then old mid new p.0 q.0 p.2 q.2,
)

pub reached_on : (pieces left : List (Vec ℕ Global)) (piece : Vec ℕ Global) (held rest : List ℕ) (old mid new : List Item) → Reached pieces (piece ∷ left) held old mid
    → GainsFrames (held ++ piece.items) rest mid new → Reached pieces left rest old new
reached_on pieces left piece held rest old mid new p f = record {
  before = p.before ++ piece ∷ [];
  parts = p.parts ∙ sym (append_assoc p.before (piece ∷ []) left);
  gained = subst (λ (t : List ℕ). GainsFrames t rest old new) (sym (stream-push p.before piece)) (frames_then (stream p.before) held piece.items rest old mid new p.gained f);
}

-- more octets after those above the limit add nothing
frames_over : (bytes rest more : List ℕ) (old new : List Item) → GainsFrames bytes rest old new → (BeginsWithRecord (rest ++ more) → ⊥) → GainsFrames (bytes ++ more) (rest ++ more) old new
frames_over bytes rest more old new p stop = (p.0, record { whole = ap (λ (t : List ℕ). t ++ more) p.1.whole ∙ append_assoc (joined p.0) rest more; each = p.1.each; ended = stop }, p.2)

pub reached_err : (e : FrameError) (pieces left : List (Vec ℕ Global)) (piece : Vec ℕ Global) (was held : List ℕ) (old mid new : List Item) → Reached pieces (piece ∷ left) was old mid
    → Fed (Err e) (was ++ piece.items) was held mid new → IsStream (Err e) pieces old new
reached_err errors.OutOfMemory pieces left piece was held old mid new p f =
    (p.before, left, piece, was, p.parts, subst (λ (t : List Item). GainsFrames (stream p.before) was old t) (sym f.1) p.gained, f.2)
reached_err errors.Truncated pieces left piece was held old mid new p f = absurd f
reached_err errors.TooLong pieces left piece was held old mid new p f =
    let here = (reached_on pieces left piece was (held ++ f.0) old mid new p f.1) in
    let above : Over ((held ++ f.0) ++ stream left) = over-append (held ++ f.0) (stream left) (over-append held f.0 f.2) in
    let whole = frames_over (stream here.before) (held ++ f.0) (stream left) old new here.gained (over_begins_none _ above) in
    let all : stream pieces ≡ stream here.before ++ stream left = ap stream here.parts ∙ stream-append here.before left in
    ((held ++ f.0) ++ stream left, subst (λ (t : List ℕ). GainsFrames t ((held ++ f.0) ++ stream left) old new) (sym all) whole, above)

-- all pieces were read
pub reached_end : (pieces : List (Vec ℕ Global)) (held : List ℕ) (old new : List Item) → Reached pieces [] held old new → GainsFrames (stream pieces) held old new
reached_end pieces held old new p = subst (λ (t : List (Vec ℕ Global)). GainsFrames (stream t) held old new) (sym (p.parts ∙ append-nil p.before)) p.gained

pub reached_finish : (r : Result (Unit {0}) FrameError) (pieces : List (Vec ℕ Global)) (held : List ℕ) (old new : List Item) → Reached pieces [] held old new → MayEnd r held → IsStream r pieces old new
reached_finish (Ok u) pieces held old new p e = subst (λ (t : List ℕ). GainsFrames (stream pieces) t old new) e (reached_end pieces held old new p)
reached_finish (Err errors.TooLong) pieces held old new p e = (held, reached_end pieces held old new p, e)
reached_finish (Err errors.Truncated) pieces held old new p e = (held, reached_end pieces held old new p, e.0, e.1)
reached_finish (Err errors.OutOfMemory) pieces held old new p e = absurd e
