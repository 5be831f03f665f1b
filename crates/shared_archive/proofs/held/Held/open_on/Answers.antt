use Rattle.std.proofs.Common.{ℕ, List, refl, subst, sym}
use Rattle.route_meaning.proofs.api.Beginning.{Begins-refl}
use Rattle.board.specs.Past.{IsBlock}
use Rattle.shared_archive.specs.Held.{RestOn}
use Rattle.shared_archive.proofs.Renewing.{lacks_other, lacks_rest, lacks_right}
use Rattle.shared_archive.proofs.held.Held.open_on.Goals as goal

pub returns-in-Ok-clause-done : goal.returns-in-Ok-clause-done
returns-in-Ok-clause-done g c p k =
    let rest = subst (λ n. RestOn g.E.EraseDisk g.O.OnceDisk c.args.disks n p) (sym c.ring.ensures) (lacks_rest c.args.self.now c.args.disks p k) in
    let o = c.in-Ok.ensures.opened p rest in
    (o.1, record { right = lacks_right c.args.self.now c.args.disks p k; begins = o.2; blocks = λ n octets b. subst (λ (l : List (ℕ × List ℕ)). IsBlock n octets l) (sym o.3) b }, o.4, o.2)

pub returns-in-Ok-clause-opens : goal.returns-in-Ok-clause-opens
returns-in-Ok-clause-opens g c = (
  tt,
  λ p k. (c.in-Ok.ensures.opened p (subst (λ n. RestOn g.E.EraseDisk g.O.OnceDisk c.args.disks n p) (sym c.ring.ensures) (lacks_rest c.args.self.now c.args.disks p k))).0,
)

pub returns-in-Err-clause-done : goal.returns-in-Err-clause-done
returns-in-Err-clause-done g c p k =
    let u = c.in-Err.field-0.disks in
    let rest = subst (λ n. RestOn g.E.EraseDisk g.O.OnceDisk c.args.disks n p) (sym c.ring.ensures) (lacks_rest c.args.self.now c.args.disks p k) in
    let kept = subst (λ n. RestOn g.E.EraseDisk g.O.OnceDisk u n p) c.ring.ensures (c.in-Err.ensures.kept p rest) in (
      p,
      record { right = lacks_right c.args.self.now c.args.disks p k; begins = Begins-refl p.history; blocks = λ n octets b. b },
      c.put_disks.ensures.kept p (lacks_other c.args.self.now c.args.disks u p kept k),
      refl,
    )
