-- What a pass sees goes on from request to request.
use Rattle.std.proofs.Common.{inl, inr, sym, subst}
use Rattle.board.specs.Views.{View}
use Rattle.query_threads.proofs.Seen.{since_then}
use Rattle.query_threads.specs.Seeing.{Since}

pub since_since : (u v w : View) → Since u v → Since v w → Since u w
since_since u v w a (inl e) = subst (λ (x : View). Since u x) (sym e) a
since_since u v w a (inr b) = inr (since_then u v w a b)
