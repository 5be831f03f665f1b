use Rattle.std.proofs.Common.{subst, ◌≡◌, ◌≤◌, ◌+◌, ◌-◌, ◌∷◌, [], length, sym, ap, arith}
use Rattle.std.proofs.lemmas.Bool.{leb-true}
use Rattle.disk_memory.specs.declared.call.Call.{Call}
use Rattle.disk_memory.specs.declared.call.Call.TheVariants.{Write}
use Rattle.disk_memory.specs.Writing.{Writing}
use Rattle.disk_memory.specs.inner.Replaying.{replayed}
use Rattle.disk_memory.proofs.Covering.{written_covers}
use Rattle.disk_memory.proofs.lay.covers.Goals as goal

pub returns-then-first-at : goal.returns-then-first-at
returns-then-first-at c met f g i inn =
    let w : Writing = c.in-Write.write in
    let reach : c.args.at - c.at-first.result + c.args.size ≤ c.min-kept.result = leb-true _ _ met in
    let same : replayed (Write w ∷ []) f i ≡ replayed (Write w ∷ []) g i =
    written_covers w f g i
    (omega (arith, c.at-first.ensures, c.if-first-at.true, inn.0))
    (omega (arith, c.at-first.ensures, c.if-first-at.true, inn.0, inn.1, reach, c.min-kept.ensures, ap length c.octets.ensures, c.length.ensures)) in
    subst (λ (call : Call). replayed (call ∷ []) f i ≡ replayed (call ∷ []) g i) (sym c.in-Write.is) same
