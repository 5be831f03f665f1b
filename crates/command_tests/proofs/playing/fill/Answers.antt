use Rattle.disk_commands.specs.Disks.{Leave}
use Rattle.disk_commands.proofs.api.Files.{files_so}
use Rattle.command_tests.proofs.Ending.{at_ok}
use Rattle.command_tests.proofs.playing.fill.Goals as goal

pub returns-in-Some : goal.returns-in-Some
returns-in-Some g c = record {
  filled = λ h r. record {
    loaded_to = c.load_on-ended.new.out;
    loaded_err = c.load_on-ended.new.err;
    loaded = files_so (Leave g.E.EraseDisk g.O.OnceDisk c.load_on-ended.result.disks c.load_on-ended.result.is_read) _
        (λ k left. c.in-Some.ensures.answered k (left.read c.if-not-ended.false))
        _ _ h _ _ _ _ _ _ _ (at_ok _ _ _ c.in-Ok.is c.load_on-ended.ensures.loaded h r);
  };
}
