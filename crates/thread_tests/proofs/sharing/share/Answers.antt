use Rattle.std.proofs.Common.{◌∙◌, subst, sym}
use Rattle.std.proofs.lemmas.Option.{IfSome_then}
use Rattle.shared_archive.specs.Held.{HeldRepresents}
use Rattle.thread_tests.proofs.Collectors.{number_of}
use Rattle.thread_tests.proofs.sharing.share.Goals as goal

pub play-requires-clause-represented : goal.play-requires-clause-represented
play-requires-clause-represented g c κs within =
    let p = c.requires.represented in
    (p.0, subst (λ h. HeldRepresents h p.0) (sym c.new-store.ensures) p.1, number_of c.args.archive p.0.history p.1.goes_on ∙ sym c.collectors.ensures.settings ∙ sym c.in-Ok.ensures.collectors, p.2)

pub returns : goal.returns
returns g c = record {
  played = IfSome_then c.play.result c.play.ensures.played (λ played k. (k.0, k.1, subst (λ h. HeldRepresents h k.0.past) c.new-store.ensures k.2, k.3));
}
