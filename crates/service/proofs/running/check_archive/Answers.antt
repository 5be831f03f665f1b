use Rattle.service.proofs.running.check_archive.Goals as goal

pub returns-clause-ended : goal.returns-clause-ended
returns-clause-ended g c = λ h represented. record {
  checked = c.check-checked.result;
  checked_to = c.check-checked.new.out;
  checked_err = c.check-checked.new.err;
  check = c.check-checked.ensures.ended h represented;
  written = c.finish.ensures.written;
}
