use Rattle.std.proofs.Common.{◌-◌, length, take}
use Rattle.std.proofs.lemmas.Bool.Decides.{Decides-eqb}
use Rattle.std.proofs.lemmas.Slice.Eq.{ends_is}
use Rattle.server.proofs.port.ends_in.Goals as goal

pub returns : goal.returns
returns c =
    let both = ends_is Decides-eqb c.args.line.now c.args.text.now c.ends_with.result c.ends_with.ensures.value in
    record { ends = ((λ yes. (take (length c.args.line.now - length c.args.text.now) c.args.line.now, both.0 yes)), λ ends. both.1 ends.0 ends.1) }
