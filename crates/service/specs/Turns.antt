-- What is done for the records of a feed, one after another: admissions are offered in batches, and refused records reported.
use Rattle.std.specs.Prelude.{ℕ, ◌≤◌, ltb, leb, suc, length, Bool, true, false, List, [], ◌∷◌, ◌++◌, Option, Some, None, Result, Ok, Err}
use Rattle.route_model.specs.Admission.{Admitted}
use Rattle.archive_calls.specs.Limits.{batch_octets}
use Rattle.resolve.specs.declared.fault.ResolveFault.{ResolveFault}
use Rattle.service.specs.declared.limits.BatchLimits.{BatchLimits}

-- a batch is offered, or the record at this place is reported as refused; the first record has the place 0
pub data Turn : Type 0 where
  Offer : (batch : List Admitted) → Turn
  Refuse : (place : ℕ) (fault : ResolveFault) → Turn

-- what is offered by these turns, in their order
abbrev pub offered : List Turn → List Admitted
offered [] = []
offered (Offer batch ∷ turns) = batch ++ offered turns
offered (Refuse place fault ∷ turns) = offered turns

-- how many records these turns refuse
abbrev pub refusals : List Turn → ℕ
refusals [] = 0
refusals (Offer batch ∷ turns) = refusals turns
refusals (Refuse place fault ∷ turns) = suc (refusals turns)

-- the admissions of a feed, by what its records mean
abbrev pub admissions_of : List (Result (Option Admitted) ResolveFault) → List Admitted
admissions_of [] = []
admissions_of (Ok (Some a) ∷ results) = a ∷ admissions_of results
admissions_of (Ok None ∷ results) = admissions_of results
admissions_of (Err fault ∷ results) = admissions_of results

-- with one more admission these would have more octets than a batch may have
abbrev pub is_crowded : BatchLimits → List Admitted → Admitted → Bool
is_crowded limit waiting a = ltb limit.octets (batch_octets (waiting ++ a ∷ []))

-- these are as many admissions as a batch may have
abbrev pub is_full : BatchLimits → List Admitted → Bool
is_full limit waiting = leb limit.records (length waiting)

-- if it is so, all pending admissions are offered
abbrev pub offer_where : Bool → List Admitted → List Turn
offer_where true waiting = Offer waiting ∷ []
offer_where false waiting = []

-- and none is pending any more
abbrev pub wait_unless : Bool → List Admitted → List Admitted
wait_unless true waiting = []
wait_unless false waiting = waiting

-- the pending ones with one more admission, for which room is made first
abbrev pub waiting_with : BatchLimits → List Admitted → Admitted → List Admitted
waiting_with limit waiting a = wait_unless (is_crowded limit waiting a) waiting ++ a ∷ []

-- what is done for the record at this place, if these admissions are pending
abbrev pub turns_at : BatchLimits → ℕ → List Admitted → Result (Option Admitted) ResolveFault → List Turn
turns_at limit place waiting (Ok (Some a)) = offer_where (is_crowded limit waiting a) waiting ++ offer_where (is_full limit (waiting_with limit waiting a)) (waiting_with limit waiting a)
turns_at limit place waiting (Ok None) = []
turns_at limit place waiting (Err fault) = Refuse place fault ∷ []

-- the pending ones after it
abbrev pub waits_after : BatchLimits → List Admitted → Result (Option Admitted) ResolveFault → List Admitted
waits_after limit waiting (Ok (Some a)) = wait_unless (is_full limit (waiting_with limit waiting a)) (waiting_with limit waiting a)
waits_after limit waiting (Ok None) = waiting
waits_after limit waiting (Err fault) = waiting

-- what is done for the records of these meanings, the first of which has this place, if these admissions are pending
abbrev pub turns_for : BatchLimits → ℕ → List Admitted → List (Result (Option Admitted) ResolveFault) → List Turn
turns_for limit place waiting [] = []
turns_for limit place waiting (r ∷ results) = turns_at limit place waiting r ++ turns_for limit (suc place) (waits_after limit waiting r) results

-- the pending ones after them
abbrev pub waits_beyond : BatchLimits → List Admitted → List (Result (Option Admitted) ResolveFault) → List Admitted
waits_beyond limit waiting [] = waiting
waits_beyond limit waiting (r ∷ results) = waits_beyond limit (waits_after limit waiting r) results

-- the pending ones at the end of a feed are offered, if there are any
abbrev pub last_turns : List Admitted → List Turn
last_turns [] = []
last_turns (a ∷ waiting) = Offer (a ∷ waiting) ∷ []

-- what is done for a whole feed whose records mean this, in batches within these limits
abbrev pub feed_turns : BatchLimits → List (Result (Option Admitted) ResolveFault) → List Turn
feed_turns limit results = turns_for limit 0 [] results ++ last_turns (waits_beyond limit [] results)

-- an offered batch has no more admissions and no more octets than a batch may have
abbrev pub IsWithinLimits : BatchLimits → Turn → Type 0
IsWithinLimits limit (Offer batch) = (length batch ≤ limit.records) × (batch_octets batch ≤ limit.octets)
IsWithinLimits limit (Refuse place fault) = Unit {0}
