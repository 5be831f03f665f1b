-- The batches of a feed are within their limits.
use Rattle.std.proofs.Common.{◌≡◌, ℕ, ◌<◌, ◌≤◌, List, [], ◌∷◌, ◌++◌, length, leb, suc, Some, None, Option, Result, Ok, Err, Bool, true, false, inl, inr, refl, arith, length-append}
use Rattle.std.specs.List.{AllByRecursion}
use Rattle.std.proofs.lemmas.Bool.Decides.{leb_tells}
use Rattle.route_model.specs.Admission.{Admitted, IsAdmission, admission_octets}
use Rattle.mrt_records.proofs.api.Streams.{all-append}
use Rattle.archive_calls.specs.Limits.{batch_octets}
use Rattle.resolve.specs.declared.fault.ResolveFault.{ResolveFault}
use Rattle.service.specs.Turns.{IsWithinLimits, admissions_of, is_crowded, is_full, offer_where, wait_unless, waiting_with, turns_at, waits_after, turns_for, waits_beyond, last_turns, feed_turns}
use Rattle.service.proofs.Gathering.{not_above}
use Rattle.service.specs.declared.limits.BatchLimits.{BatchLimits}

-- what waits may wait: one more admission has a place, and the octets fit
record MayWait (limit : BatchLimits) (waiting : List Admitted) : Type 0 where
  pub few : length waiting < limit.records
  pub fit : batch_octets waiting ≤ limit.octets

-- there is a batch of these
record FitsBatch (limit : BatchLimits) (waiting : List Admitted) : Type 0 where
  pub few : length waiting ≤ limit.records
  pub fit : batch_octets waiting ≤ limit.octets

offer_within : (b : Bool) (limit : BatchLimits) (waiting : List Admitted) → FitsBatch limit waiting → AllByRecursion (IsWithinLimits limit) (offer_where b waiting)
offer_within true limit waiting f = ((f.few, f.fit), tt)
offer_within false limit waiting f = tt

joined_fits : (b : Bool) (limit : BatchLimits) (waiting : List Admitted) (a : Admitted) → is_crowded limit waiting a ≡ b → length (admission_octets a) ≤ 131072 → 131076 ≤ limit.octets → MayWait limit waiting → FitsBatch limit (wait_unless b waiting ++ a ∷ [])
joined_fits true limit waiting a crowded small one may = let few = may.few in record { few = omega (arith, few); fit = omega (arith, small, one) }
joined_fits false limit waiting a crowded small one may = let few = may.few in let n = length-append waiting (a ∷ []) in record { few = omega (arith, few, n); fit = not_above limit.octets _ crowded }

joined_is_fit : (limit : BatchLimits) (waiting : List Admitted) (a : Admitted) → length (admission_octets a) ≤ 131072 → 131076 ≤ limit.octets → MayWait limit waiting → FitsBatch limit (waiting_with limit waiting a)
joined_is_fit limit waiting a small one may = joined_fits (is_crowded limit waiting a) limit waiting a refl small one may

waits_still : (b : Bool) (limit : BatchLimits) (waiting : List Admitted) → leb limit.records (length waiting) ≡ b → 1 ≤ limit.records → 131076 ≤ limit.octets → FitsBatch limit waiting → MayWait limit (wait_unless b waiting)
waits_still true limit waiting full some one f = record { few = omega (arith, some); fit = omega (arith, one) }
waits_still false limit waiting full some one f = elim (leb_tells limit.records (length waiting)) [
  | inl more ↦ let e = more.0 in absurd cc
  | inr less ↦ let lt = less.1 in record { few = omega (arith, lt); fit = f.fit }
]

may_fit : (limit : BatchLimits) (waiting : List Admitted) → MayWait limit waiting → FitsBatch limit waiting
may_fit limit waiting may = let few = may.few in record { few = omega (arith, few); fit = may.fit }

-- the turns for these records, and what waits after them
record Within (limit : BatchLimits) (place : ℕ) (waiting : List Admitted) (results : List (Result (Option Admitted) ResolveFault)) : Type 0 where
  pub turns : AllByRecursion (IsWithinLimits limit) (turns_for limit place waiting results)
  pub waits : MayWait limit (waits_beyond limit waiting results)

turns_within : (limit : BatchLimits) (place : ℕ) (waiting : List Admitted) (results : List (Result (Option Admitted) ResolveFault)) → 1 ≤ limit.records → 131076 ≤ limit.octets → MayWait limit waiting → AllByRecursion IsAdmission (admissions_of results) → Within limit place waiting results
turns_within limit place waiting [] some one may each = record { turns = tt; waits = may }
turns_within limit place waiting (Ok (Some a) ∷ results) some one may each =
    let f = joined_is_fit limit waiting a each.0.small one may in
    let rest = turns_within limit (suc place) (waits_after limit waiting (Ok (Some a))) results some one (waits_still (is_full limit (waiting_with limit waiting a)) limit (waiting_with limit waiting a) refl some one f) each.1 in
    record {
      turns =
          all-append (IsWithinLimits limit) (turns_at limit place waiting (Ok (Some a))) _
          (all-append (IsWithinLimits limit) (offer_where (is_crowded limit waiting a) waiting) _ (offer_within (is_crowded limit waiting a) limit waiting (may_fit limit waiting may)) (offer_within (is_full limit (waiting_with limit waiting a)) limit (waiting_with limit waiting a) f))
          rest.turns;
      waits = rest.waits;
    }
turns_within limit place waiting (Ok None ∷ results) some one may each = let rest = turns_within limit (suc place) waiting results some one may each in record { turns = rest.turns; waits = rest.waits }
turns_within limit place waiting (Err fault ∷ results) some one may each = let rest = turns_within limit (suc place) waiting results some one may each in record { turns = (tt, rest.turns); waits = rest.waits }

last_within : (limit : BatchLimits) (waiting : List Admitted) → FitsBatch limit waiting → AllByRecursion (IsWithinLimits limit) (last_turns waiting)
last_within limit [] f = tt
last_within limit (a ∷ waiting) f = ((f.few, f.fit), tt)

pub feed_within : (limit : BatchLimits) (results : List (Result (Option Admitted) ResolveFault)) → 1 ≤ limit.records → 131076 ≤ limit.octets → AllByRecursion IsAdmission (admissions_of results) → AllByRecursion (IsWithinLimits limit) (feed_turns limit results)
feed_within limit results some one each =
    let within = turns_within limit 0 [] results some one (record { few = omega (arith, some); fit = omega (arith, one) }) each in
    all-append (IsWithinLimits limit) (turns_for limit 0 [] results) _ within.turns (last_within limit (waits_beyond limit [] results) (may_fit limit _ within.waits))
