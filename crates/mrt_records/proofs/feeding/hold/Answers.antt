use Rattle.std.proofs.Common.{◌≡◌, take, drop, sym, subst, List, ℕ}
use Rattle.std.proofs.lemmas.List.{take-append-drop}
use Rattle.mrt_records.specs.Records.{Over}
use Rattle.mrt_records.proofs.api.Streams.{over-take}
use Rattle.mrt_records.proofs.feeding.hold.Goals as goal

pub returns-in_ok-held-in-Over-clause-ok : goal.returns-in_ok-held-in-Over-clause-ok
returns-in_ok-held-in-Over-clause-ok c =
    let rest = c.args.rest.now in
    let is : c.in_ok-held-in-Over.field-0.items ≡ take 12 c.args.rest.now = c.in_ok-held-in-Over.ensures.items in (
      subst (λ (t : List ℕ). Over t) (sym is) (over-take rest c.in-Over.ensures),
      drop 12 rest,
      rw is (sym (take-append-drop 12 rest)),
    )
