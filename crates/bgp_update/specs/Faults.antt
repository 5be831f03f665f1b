-- A fault of a reader of octets, as one of messages.
use Rattle.route_model.specs.declared.octets.ReadFault.{ReadFault}
use Rattle.route_model.specs.declared.octets.ReadFault.TheVariants as reading
use Rattle.bgp_update.specs.declared.fault.MessageFault.{MessageFault}
use Rattle.bgp_update.specs.declared.fault.MessageFault.TheVariants as faults

-- the same fault, of messages
abbrev pub message_fault : ReadFault → MessageFault
message_fault reading.Malformed = faults.Malformed
message_fault reading.OutOfMemory = faults.OutOfMemory
