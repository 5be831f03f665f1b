-- What is asked of tables, and how a refusal is written.
use Rattle.std.specs.Prelude.{ℕ, ◌-◌, Option, Some, None}
use Rattle.route_meaning.specs.History.{History, settled}
use Rattle.archive_calls.specs.declared.refusal.AskError.{AskError}
use Rattle.archive_calls.specs.declared.refusal.AskError.TheVariants as asks
use Rattle.service.specs.Faults.{of_trouble}
use Rattle.service.specs.declared.refusal.Refusal.{Refusal}
use Rattle.service.specs.declared.refusal.Refusal.TheVariants as refusals

-- how the refusal of a question is written
abbrev pub of_ask : AskError → Refusal
of_ask (asks.AboveWatermark watermark) = refusals.AboveWatermark watermark
of_ask (asks.Trouble trouble) = of_trouble trouble

-- the moment that is asked for, or else the last that is settled
abbrev pub moment_in : History → Option ℕ → ℕ
moment_in h (Some moment) = moment
moment_in h None = settled h - 1
