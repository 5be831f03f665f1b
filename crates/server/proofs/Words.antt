-- Words that are found to differ, and lines that ask nothing.
use Rattle.std.proofs.Common.{◌≡◌, ◌∙◌, ℕ, Bool, true, false, not, List, sym, ap, subst}
use Rattle.std.specs.Str.{bytes_eq}
use Rattle.std.proofs.lemmas.Slice.Eq.{bytes_eq-Decides}
use Rattle.service.specs.Requests.{words_of, AreRequestWords, IsRequestLine}
use Rattle.service.specs.declared.request.Request.{Request}
use Rattle.server.specs.declared.command.Command.{Command}
use Rattle.server.specs.declared.command.Command.TheVariants as commands
use Rattle.server.specs.Commands.{AreOrderWords, IsCommandLine}

-- words that were found to differ aren't the same
pub differs : (a b : List ℕ) (differ : Bool) → differ ≡ not (bytes_eq a b) → differ ≡ true → a ≡ b → ⊥
differs a b differ is apart e =
    let same : bytes_eq a b ≡ true = (bytes_eq-Decides a b).1 e in
    let equal : differ ≡ false = is ∙ ap not same in
    absurd cc

-- a line whose text is no request and whose words order nothing asks nothing
pub asks_nothing : (line text : List ℕ) (words : List (List ℕ)) → text ≡ line → words ≡ words_of text → ((request : Request) → IsRequestLine text request → ⊥) → ((order : Command) → AreOrderWords words order → ⊥) → (command : Command) → IsCommandLine line command → ⊥
asks_nothing line text words e is requests orders (commands.Request r) h = requests r (subst (λ (t : List ℕ). AreRequestWords (words_of t) r) (sym e) h.asks)
asks_nothing line text words e is requests orders (commands.Mark c m) h = orders (commands.Mark c m) (subst (λ (ws : List (List ℕ)). AreOrderWords ws (commands.Mark c m)) (sym (is ∙ ap words_of e)) h.asks)
asks_nothing line text words e is requests orders (commands.Feed c m) h = orders (commands.Feed c m) (subst (λ (ws : List (List ℕ)). AreOrderWords ws (commands.Feed c m)) (sym (is ∙ ap words_of e)) h.asks)
asks_nothing line text words e is requests orders commands.Quit h = orders commands.Quit (subst (λ (ws : List (List ℕ)). AreOrderWords ws commands.Quit) (sym (is ∙ ap words_of e)) h.asks)
asks_nothing line text words e is requests orders commands.Stop h = orders commands.Stop (subst (λ (ws : List (List ℕ)). AreOrderWords ws commands.Stop) (sym (is ∙ ap words_of e)) h.asks)
