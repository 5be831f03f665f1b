use Rattle.std.proofs.Common.{◌≡◌, ◌∙◌, ℕ, List, Some, ap, arith}
use Rattle.version_model.specs.declared.part.Part.{Part}
use Rattle.tsb_check.specs.Counted.{places_of}
use Rattle.tsb_check.proofs.column.places_in.Goals as goal

pub returns : goal.returns
returns c =
    let p = c.args.place.now in
    let start = c.args.decoded.now.current.start in
    let zero : c.new.result ≡ 0 = omega (arith, c.new.ensures.number) in
    c.in_ok-places.ensures ∙ ap (λ (ps : List Part). places_of (record { low = p.low; high = p.high; start = c.new.result; end = Some start }) ps) c.deref.ensures.value
    ∙ ap (λ (z : ℕ). places_of (record { low = p.low; high = p.high; start = z; end = Some start }) c.args.decoded.now.parts.items) zero
