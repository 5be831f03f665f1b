use Rattle.std.proofs.Common.{◌<◌, ◌++◌, ap, arith, length, map}
use Rattle.uses_tests.specs.Turns.{act_of}
use Rattle.uses_tests.specs.inner.Taking.{alone}
use Rattle.uses_tests.proofs.Going.{follows_none, goes_on, lives_on, played_on, somewhere}
use Rattle.uses_tests.proofs.lives.play.Goals as goal

pub loop-act-init : goal.loop-act-init
loop-act-init c = record {
  follows = λ made birth is. follows_none c.args.archive c.new-turns.result.items c.new-turns.ensures.items;
  played = ap (map act_of) c.new-turns.ensures.items;
}

pub loop-act-preserved : goal.loop-act-preserved
loop-act-preserved c =
    let script = c.args.script.now in
    let i = c.loop-act.act-index in
    let b = c.loop-act.archive in
    let next = c.in-Some.next in
    let within : i < length script = omega arith in
    record {
      follows = λ made birth is. (
          let f = c.loop-act.invariant.follows made birth is in
          let ends = c.uses_are_runs.ensures.runs made (is.first ++ f.uses) (alone b) (lives_on made is.first f.uses (alone c.args.archive) (alone b) is.lives f.valid f.leads) in
          goes_on c.args.archive b next.archive c.loop-act.turns.items c.push.new.self.items _ next.returned f (c.in-Some.ensures.takes (somewhere made (is.first ++ f.uses) b ends)) c.in-Ok.ensures.items
          );
      played = played_on c.loop-act.turns.items c.push.new.self.items script i _ next.returned c.loop-act.invariant.played within c.in-Ok.ensures.items;
    }

pub returns-clause-ends : goal.returns-clause-ends
returns-clause-ends c made birth is =
    let f = c.loop-act.invariant.follows made birth is in
    let last = alone c.loop-act.archive in
    let all = is.first ++ f.uses in
    let life = lives_on made is.first f.uses (alone c.args.archive) last is.lives f.valid f.leads in
    record {
      first = is.first;
      born = is.are;
      uses = f.uses;
      are = f.are;
      run = c.uses_are_runs.ensures.runs made all last life;
      promised = c.uses_are_runs.ensures.promised made all last life;
    }
