-- Commands of a command line.
use Rattle.std.proofs.Common.{◌≡◌, false, ap, ◌∙◌}
use Rattle.clap.specs.Built.{AddsSubcommand}
use Rattle.clap.specs.Simple.{App, app_of, shape_of, with_subcommand}
use Rattle.clap.specs.declared.builder.command.Command.{Command}
use Rattle.clap.specs.declared.builder.command.Command.TheViews.{out-Command}

-- one more command
pub adds : (old sub new : Command) (a b : App) → AddsSubcommand old sub new → app_of old ≡ a → app_of sub ≡ b → (out-Command sub).has_globals ≡ false → app_of new ≡ with_subcommand a b.top
adds old sub new a b h olds subs own = h.shape own ∙ ap (λ (x : App). with_subcommand x (shape_of sub)) olds ∙ ap (λ (x : App). with_subcommand a x.top) subs
