use Rattle.command_tests.proofs.Ending.{at_ok, filled_at}
use Rattle.command_tests.proofs.playing.play_on.Goals as goal

pub returns-in-Some : goal.returns-in-Some
returns-in-Some g c = record {
  played = λ follow.
      let made = at_ok _ _ _ c.in-Ok.is c.create_on-ended.ensures.created follow in
      record {
        created_to = c.create_on-ended.new.out;
        created_err = c.create_on-ended.new.err;
        created = at_ok _ _ _ c.in-Ok.is c.create_on-ended.ensures.reported;
        filled = filled_at _ _ _ _ _ _ _ _ _ _ _ _ made.1 (c.in-Some.ensures.filled _ made.0);
      };
}
