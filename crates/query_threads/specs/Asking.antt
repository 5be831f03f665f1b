-- When two answers are the same.
use Rattle.std.specs.Prelude.{◌≡◌}
use Rattle.interleaving_core.specs.declared.query.Answer.{Answer}
use Rattle.interleaving_core.specs.declared.query.Answer.TheVariants.{Rows, Events}

-- both have the same rows, or the same events, and say alike whether more follow
abbrev pub IsSameAnswer : Answer → Answer → Type 0
IsSameAnswer (Rows a) (Rows b) = (a.rows.items ≡ b.rows.items) × (a.more ≡ b.more)
IsSameAnswer (Rows a) (Events b) = ⊥
IsSameAnswer (Events a) (Rows b) = ⊥
IsSameAnswer (Events a) (Events b) = (a.events.items ≡ b.events.items) × (a.more ≡ b.more)
