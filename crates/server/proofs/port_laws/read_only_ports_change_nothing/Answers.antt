use Rattle.std.specs.Prelude.{IsSome}
use Rattle.server.proofs.ReadOnly.{read_only_lines, read_only_connections}
use Rattle.server.proofs.port_laws.read_only_ports_change_nothing.Goals as goal

pub returns : goal.returns
returns g c = record { lines = read_only_lines (IsSome g.N.OnDisk.disk); connections = read_only_connections (IsSome g.N.OnDisk.disk) }
