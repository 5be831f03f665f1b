use Rattle.server.proofs.OneCommand.{one_command}
use Rattle.server.proofs.command_laws.lines_are_one_command.Goals as goal

pub returns : goal.returns
returns c = record { one = one_command }
