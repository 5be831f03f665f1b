use Rattle.serving.proofs.HandedBack.{pushed, goes_on_from}
use Rattle.serving.proofs.serving.hand_back.Goals as goal

pub returns : goal.returns
returns g c = record {
  goes_on = λ named.
      let e = c.close.ensures named in
      (e.0, goes_on_from e.0 c.push.new.self.items c.args.pass (pushed c.push.result c.args.passes.items c.push.new.self.items c.args.pass c.push.ensures.items (c.push.ensures.succeeds c.requires.room) c.requires.none) e.2, e.1);
}
