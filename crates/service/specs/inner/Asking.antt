-- Replies to requests. Contracts of private functions alone cite this file.
use Rattle.std.specs.Prelude.{◌≡◌, ◌≤◌, ℕ}
use Rattle.route_meaning.specs.History.{History, settled}
use Rattle.interleaving_core.specs.Does.{last_moment}
use Rattle.interleaving_core.specs.Steps.{IsCollector}
use Rattle.archive_calls.specs.declared.refusal.AskError.{AskError}
use Rattle.archive_calls.specs.declared.refusal.AskError.TheVariants as asks
use Rattle.service.specs.declared.faults.Unanswered.{Unanswered}
use Rattle.service.specs.declared.faults.Unanswered.TheVariants as whys
use Rattle.service.specs.declared.request.Request.{Request}
use Rattle.service.specs.declared.request.Request.TheVariants.{Question, Changed, Watermark, Durable}

-- why a question isn't answered, as its line has it
abbrev pub of_ask : AskError → Unanswered
of_ask (asks.AboveWatermark settled) = whys.AboveWatermark settled
of_ask (asks.Trouble trouble) = whys.Trouble trouble

-- why a question with this last moment isn't answered: it isn't below the settled watermark, which is printed, or the archive had a trouble
abbrev pub IsUnanswered : History → ℕ → Unanswered → Type 0
IsUnanswered h moment whys.BadRequest = ⊥
IsUnanswered h moment (whys.AboveWatermark watermark) = (settled h ≤ moment) × (watermark ≡ settled h)
IsUnanswered h moment whys.NoCollector = ⊥
IsUnanswered h moment (whys.Trouble trouble) = Unit {0}

-- there is nothing but a trouble
abbrev pub IsTrouble : Unanswered → Type 0
IsTrouble whys.BadRequest = ⊥
IsTrouble (whys.AboveWatermark watermark) = ⊥
IsTrouble whys.NoCollector = ⊥
IsTrouble (whys.Trouble trouble) = Unit {0}

-- why a collector's records aren't counted: it isn't there, or there was a trouble
abbrev pub IsUncounted : History → ℕ → Unanswered → Type 0
IsUncounted h collector whys.BadRequest = ⊥
IsUncounted h collector (whys.AboveWatermark watermark) = ⊥
IsUncounted h collector whys.NoCollector = IsCollector h collector → ⊥
IsUncounted h collector (whys.Trouble trouble) = Unit {0}

-- why there is no reply to a request
abbrev pub IsUnreplied : History → Request → Unanswered → Type 0
IsUnreplied h (Question query) why = IsUnanswered h (last_moment query) why
IsUnreplied h (Changed q) why = IsUnanswered h q.to why
IsUnreplied h Watermark why = IsTrouble why
IsUnreplied h (Durable collector) why = IsUncounted h collector why
