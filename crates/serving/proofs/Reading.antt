-- Blocks that a reader keeps, among those that a pass sees.
use Rattle.std.proofs.Common.{◌≡◌, ℕ, List, [], inl, inr, sym, subst}
use Rattle.board.specs.Past.{Among, IsBlock}
use Rattle.board.specs.Views.{View}
use Rattle.query_threads.specs.Seeing.{Since}

-- they stay among them where what the pass sees goes on
pub among_since : (blocks : List (ℕ × List ℕ)) (v w : View) → Since v w → Among blocks v.past.blocks → Among blocks w.past.blocks
among_since blocks v w (inl e) among = subst (λ (x : View). Among blocks x.past.blocks) (sym e) among
among_since blocks v w (inr b) among = λ n octets is. b.past.blocks n octets (among n octets is)

-- of no blocks each is among any
pub none_among : (none blocks : List (ℕ × List ℕ)) → none ≡ [] → Among none blocks
none_among none blocks empty = λ n octets is. absurd (subst (λ (bs : List (ℕ × List ℕ)). IsBlock n octets bs) empty is)
