-- A batch that is refused since the intake is full leaves it as full.
use Rattle.std.proofs.Common.{◌≡◌, ℕ, List, Result, Err, sym, subst}
use Rattle.route_model.specs.Admission.{Admitted}
use Rattle.route_meaning.specs.History.{History}
use Rattle.interleaving_core.specs.declared.reply.BatchReply.{BatchReply}
use Rattle.query_threads.specs.declared.refusal.AdmitError.{AdmitError}
use Rattle.query_threads.specs.declared.refusal.AdmitError.TheVariants.{IntakeFull}
use Rattle.query_threads.specs.Steps.{DoesAdmit, IsCrowded}

pub still_crowded : (pages c : ℕ) (batch : List Admitted) (reported : Result BatchReply AdmitError) (h g : History) → DoesAdmit c batch reported h g → reported ≡ Err IntakeFull → IsCrowded pages h c batch → IsCrowded pages g c batch
still_crowded pages c batch reported h g does is crowded =
    let refused = subst (λ (t : Result BatchReply AdmitError). DoesAdmit c batch t h g) is does in
    subst (λ (k : History). IsCrowded pages k c batch) (sym refused.0) crowded
