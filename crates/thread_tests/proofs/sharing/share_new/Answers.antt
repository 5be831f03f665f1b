use Rattle.std.proofs.Common.{◌∙◌, ap, inl, sym}
use Rattle.std.proofs.lemmas.Option.{IfSome_then}
use Rattle.interleaving_core.specs.Steps.{empty}
use Rattle.archive_pages.specs.declared.settings.Settings.{Settings}
use Rattle.thread_tests.proofs.sharing.share_new.Goals as goal

pub share-requires-clause-represented : goal.share-requires-clause-represented
share-requires-clause-represented g c κs within =
    let created = c.in-Ok.ensures.created tt tt in
    let p = c.past_is_represented.ensures.represented (empty c.args.settings.collectors) (inl created) in
    (p.0, p.1, p.2 ∙ sym (ap (λ (s : Settings). empty s.collectors) c.in-Ok.ensures.settings))

pub returns-in-Ok : goal.returns-in-Ok
returns-in-Ok g c = record {
  played = IfSome_then c.share.result c.share.ensures.played
      (λ played k. (k.0, k.1 ∙ ap (λ (s : Settings). empty s.collectors) c.in-Ok.ensures.settings, k.3));
}
