use Rattle.command_tests.proofs.playing.play.Goals as goal

pub returns-in-Ok : goal.returns-in-Ok
returns-in-Ok g c = record { played = c.play_on.ensures.played (tt, tt) }
