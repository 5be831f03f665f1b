-- A batch that is offered, once or twice. Contracts of private functions alone cite this file.
use Rattle.std.specs.Prelude.{◌≡◌, ℕ, List, Result, Err}
use Rattle.route_model.specs.Admission.{Admitted}
use Rattle.route_meaning.specs.History.{History}
use Rattle.interleaving_core.specs.Steps.{NothingToApply}
use Rattle.interleaving_core.specs.declared.reply.BatchReply.{BatchReply}
use Rattle.archive_calls.specs.Does.{DoesAdmit}
use Rattle.archive_calls.specs.declared.refusal.AdmitError.{AdmitError}
use Rattle.archive_calls.specs.declared.refusal.AdmitError.TheVariants as admits
use Rattle.service.specs.Represented.{Represented}

-- The batch was offered after some more of the history may have been applied; the ring is reported full only if nothing more could be.
pub record IsTaken (archive : Represented) (c : ℕ) (batch : List Admitted) (result : Result BatchReply AdmitError) (h : History) : Type 0 where
  pub at : History
  pub intakes : at.intakes ≡ h.intakes
  pub after : History
  pub represented : archive after
  pub done : DoesAdmit c batch result at after
  pub full : result ≡ Err admits.IntakeFull → NothingToApply at
