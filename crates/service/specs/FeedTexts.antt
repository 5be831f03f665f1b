-- What a feed writes.
use Rattle.std.specs.Prelude.{ℕ, ◌+◌, suc, min, get_or, length, List, [], ◌∷◌, ◌++◌, Option, Some, None, Result}
use Rattle.std.specs.List.{flat_map}
use Rattle.route_model.specs.Admission.{Admitted}
use Rattle.route_meaning.specs.Holds.{admitted_time}
use Rattle.route_meaning.specs.History.{Intake}
use Rattle.sequencer.specs.Late.{timely, lates}
use Rattle.mrt_records.specs.Values.{Reported, Read, Skipped, Malformed}
use Rattle.interleaving_core.specs.Steps.{with_batch}
use Rattle.resolve.specs.declared.fault.ResolveFault.{ResolveFault}
use Rattle.service.specs.Faults.{of_cut, of_record}
use Rattle.service.specs.FeedLines.{batch_line, late_line, counts_line}
use Rattle.service.specs.Refusals.{refused_record_line}
use Rattle.service.specs.Turns.{Turn, Offer, Refuse, offered, refusals, feed_turns}
use Rattle.service.specs.declared.feed_lines.FeedCounts.{FeedCounts}
use Rattle.service.specs.declared.limits.BatchLimits.{BatchLimits}
use Rattle.service.specs.declared.faults.FeedCut.{FeedCut}

-- a count that stops at 18446744073709551615
abbrev pub capped : ℕ → ℕ
capped n = min n 18446744073709551615

-- the intake of a collector; nothing was given for one that there isn't
abbrev pub intake_in : List Intake → ℕ → Intake
intake_in intakes c = get_or intakes c (record { admitted = []; mark = 0; offered = 0 })

-- the admissions of a batch that aren't late, if the collector's intake was this one
abbrev pub admitted_of : Intake → List Admitted → List Admitted
admitted_of i batch = timely admitted_time i.mark [] batch

-- what became of the batch: the numbers that its admissions got, how many records were offered until then, and each late one
abbrev pub batch_text : Intake → List Admitted → List ℕ
batch_text i batch =
    batch_line (length i.admitted) (length i.admitted + length (admitted_of i batch)) (i.offered + length batch)
    ++ flat_map late_line (lates admitted_time i.mark [] 0 batch)

-- the lines of these turns
abbrev pub turns_text : Intake → List Turn → List ℕ
turns_text i [] = []
turns_text i (Offer batch ∷ turns) = batch_text i batch ++ turns_text (with_batch batch i) turns
turns_text i (Refuse place fault ∷ turns) = refused_record_line (of_record fault) (capped place) ++ turns_text i turns

-- how many records are skipped
abbrev pub skips : List Reported → ℕ
skips [] = 0
skips (Skipped kind subtype ∷ records) = suc (skips records)
skips (Read reading ∷ records) = skips records
skips (Malformed kind subtype ∷ records) = skips records

-- what became of these records, of which these turns were made
abbrev pub counts_of : Intake → List Reported → List Turn → FeedCounts
counts_of i records turns = record {
  records = capped (length records);
  admitted = capped (length (admitted_of i (offered turns)));
  late = capped (length (lates admitted_time i.mark [] 0 (offered turns)));
  refused = capped (refusals turns);
  skipped = capped (skips records);
}

-- why the feed was cut short, if it was, with the count of its whole records
abbrev pub cut_line : Option FeedCut → ℕ → List ℕ
cut_line None records = []
cut_line (Some why) records = refused_record_line (of_cut why) records

-- all that a feed writes: its turns, why it was cut if it was, and its counts
abbrev pub feed_text : Intake → BatchLimits → List Reported → List (Result (Option Admitted) ResolveFault) → Option FeedCut → List ℕ
feed_text i limit records results cut =
    turns_text i (feed_turns limit results) ++ (cut_line cut (capped (length records)) ++ counts_line (counts_of i records (feed_turns limit results)))
