-- Applying changes no intake.
use Rattle.std.proofs.Common.{◌≡◌, ◌∙◌, ℕ, zero, suc, List, length, ap, refl, inl, inr, Ok, Err, sym, subst}
use Rattle.std.proofs.lemmas.Bool.{cases_lt}
use Rattle.route_meaning.specs.History.{Intake, History}
use Rattle.interleaving_core.specs.Steps.{Applies, AppliesMore, NothingToApply}
use Rattle.archive_calls.specs.Does.{AppliesSome, DoesApply}
use Rattle.archive_calls.specs.declared.reported.Step.TheVariants.{Applied, Idle}
use Rattle.archive_calls.specs.declared.refusal.Trouble.{Trouble}
use Rattle.service.specs.Represented.{Represented, HasIntakes}
use Rattle.service.specs.Loads.{IsSettled}

intakes_stay : (h g : History) → Applies h g → g.intakes ≡ h.intakes
intakes_stay h g a = elim (cases_lt (suc h.some) (length a.next.item.changes)) [ inl lt ↦ ap (λ (t : History). t.intakes) (a.part lt) | inr ge ↦ ap (λ (t : History). t.intakes) (a.whole ge) ]

intakes_stay_more : (n : ℕ) (h g : History) → AppliesMore n h g → g.intakes ≡ h.intakes
intakes_stay_more zero h g a = ap (λ (t : History). t.intakes) a
intakes_stay_more (suc n) h g (inl a) = intakes_stay_more n a.0 g a.2 ∙ intakes_stay h a.0 a.1
intakes_stay_more (suc n) h g (inr a) = ap (λ (t : History). t.intakes) a.1

some_stay : (h g : History) → AppliesSome h g → g.intakes ≡ h.intakes
some_stay h g a = intakes_stay_more a.more a.first g a.others ∙ intakes_stay h a.first a.next

pub represents_some : (h : History) (archive : Represented) → archive h → HasIntakes h.intakes archive
represents_some h archive c = record { now = h; are = refl; represented = c }

-- some more was applied
pub applied_more : (intakes : List Intake) (was now : Represented) → ((h : History) → was h → (g : History) × now g × DoesApply (Ok Applied) h g) → HasIntakes intakes was → HasIntakes intakes now
applied_more intakes was now applies w =
    let next = applies w.now w.represented in
    record { now = next.0; are = some_stay w.now next.0 next.2 ∙ w.are; represented = next.1 }

-- nothing may be applied
pub idle_now : (intakes : List Intake) (was now : Represented) → ((h : History) → was h → (g : History) × now g × DoesApply (Ok Idle) h g) → HasIntakes intakes was → IsSettled intakes now
idle_now intakes was now idle w =
    let next = idle w.now w.represented in
    record { now = next.0; intakes_are = ap (λ (t : History). t.intakes) next.2.1 ∙ w.are; idle = subst NothingToApply (sym next.2.1) next.2.0; represented = next.1 }

-- it couldn't be applied
pub stopped_now : (intakes : List Intake) (was now : Represented) (trouble : Trouble) → ((h : History) → was h → (g : History) × now g × DoesApply (Err trouble) h g) → HasIntakes intakes was → HasIntakes intakes now
stopped_now intakes was now trouble stops w =
    let next = stops w.now w.represented in
    record { now = next.0; are = ap (λ (t : History). t.intakes) next.2 ∙ w.are; represented = next.1 }

pub flushed : (intakes : List Intake) (was now : Represented) → ((h : History) → was h → now h) → IsSettled intakes was → IsSettled intakes now
flushed intakes was now same s = record { now = s.now; intakes_are = s.intakes_are; idle = s.idle; represented = same s.now s.represented }
