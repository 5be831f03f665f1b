-- What is returned for a batch.
use Rattle.std.proofs.Common.{◌≡◌, ℕ, ◌+◌, List, [], length, map, refl, ap, arith}
use Rattle.route_model.specs.Admission.{Admitted}
use Rattle.route_meaning.specs.History.{Intake}
use Rattle.route_meaning.specs.Holds.{admitted_time}
use Rattle.sequencer.specs.declared.late.Sieved.{Sieved}
use Rattle.sequencer.specs.Late.{timely}
use Rattle.sequencer.specs.Taking.{IsSieved}
use Rattle.interleaving_core.specs.Does.{IsReply}
use Rattle.interleaving_core.proofs.api.Batches.{lates_of}
use Rattle.archive_head.specs.declared.lane.Lane.{Lane}
use Rattle.archive_pages.specs.Batches.{Kept, IsKeptOf, lane_with}

-- the numbers of the lanes before and after, and what was sieved as late
pub reply_is : (lane after : Lane) (i : Intake) (c : ℕ) (batch : List Admitted) (kept : Kept) (s : Sieved) → lane.offered ≡ i.offered → lane.admitted ≡ length i.admitted → IsKeptOf i.mark batch kept → after ≡ lane_with lane kept → IsSieved i.mark (map admitted_time batch) s
    → IsReply i c batch (record { receipt = record { collector = c; from = lane.admitted; to = after.admitted }; offered = after.offered; late = s.late })
reply_is lane after i c batch kept s offered admitted is same sieved =
    let n : length kept.timely ≡ length (timely admitted_time i.mark [] batch) = ap (λ (l : List Admitted). length l) is.items in
    let m = is.count in
    let to : after.admitted ≡ lane.admitted + length kept.timely = ap (λ (l : Lane). l.admitted) same in
    let all : after.offered ≡ lane.offered + kept.offered = ap (λ (l : Lane). l.offered) same in
    record {
      collector = refl;
      from = admitted;
      to = omega (arith, to, n, admitted);
      offered = omega (arith, all, m, offered);
      late = lates_of admitted_time i.mark batch (map admitted_time batch) s.late.items refl sieved.late;
    }
