-- The faults of messages, admissions and entries as those of records.
use Rattle.bgp_update.specs.declared.fault.MessageFault.{MessageFault}
use Rattle.bgp_update.specs.declared.fault.MessageFault.TheVariants as messages
use Rattle.route_model.specs.declared.admission.AdmissionError.{AdmissionError}
use Rattle.route_model.specs.declared.admission.AdmissionError.TheVariants as admissions
use Rattle.resolve.specs.declared.fault.ResolveFault.{ResolveFault}
use Rattle.resolve.specs.declared.fault.ResolveFault.TheVariants as faults

-- the fault of a message, as one of its record
abbrev pub of_message : MessageFault → ResolveFault
of_message messages.Malformed = faults.Malformed
of_message messages.RouteTooLarge = faults.RouteTooLarge
of_message messages.OutOfMemory = faults.OutOfMemory

-- why there is no such admission, as a fault of its record
abbrev pub of_admission : AdmissionError → ResolveFault
of_admission admissions.RouteTooLarge = faults.RouteTooLarge
of_admission admissions.AdmissionTooLarge = faults.AdmissionTooLarge

-- out of memory
abbrev pub of_memory : ResolveFault
of_memory = faults.OutOfMemory
