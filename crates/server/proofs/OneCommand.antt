-- A line asks one thing at most.
use Rattle.std.proofs.Common.{◌≡◌, ℕ, ◌<◌, ◌≤◌, ◌^◌, true, false, List, [], ◌∷◌, codes, decimal, arith, refl, sym, ap, subst, ◌∙◌}
use Rattle.route_model.specs.Moments.{last_mark}
use Rattle.std.specs.Str.{bytes_eq}
use Rattle.std.proofs.lemmas.Fmt.{decimal_injective}
use Rattle.std.proofs.lemmas.Slice.Eq.{bytes_eq-Decides}
use Rattle.route_text.specs.MomentText.{IsMarkText}
use Rattle.route_text.proofs.api.OneValue.{one_instant}
use Rattle.interleaving_core.specs.declared.query.Query.TheVariants.{Rows, Events}
use Rattle.service.specs.Requests.{words_of, AreRequestWords}
use Rattle.service.specs.declared.request.Request.{Request}
use Rattle.service.specs.declared.request.Request.TheVariants.{Question, Changed, Watermark, Durable}
use Rattle.service.proofs.Words.{first_of, rest_of}
use Rattle.service.proofs.OneRequest.{one_request}
use Rattle.server.specs.declared.command.Command.{Command}
use Rattle.server.specs.declared.command.Command.TheVariants as commands
use Rattle.server.specs.Commands.{IsCollectorText, IsLimitText, AreMarkWords, AreFeedWords, AreCommandWords, IsCommandLine}
use Rattle.server.specs.CommandLaws.{OneCommand}

abbrev Text : Type 0
Text = List ℕ

-- words whose first ones differ aren't the same
differ : (a b : Text) (xs ys words : List Text) → bytes_eq a b ≡ false → words ≡ a ∷ xs → words ≡ b ∷ ys → ⊥
differ a b xs ys words apart h k =
    let same : bytes_eq a b ≡ true = (bytes_eq-Decides a b).1 (first_of _ _ _ _ (sym h ∙ k)) in
    absurd cc

-- words that begin with another word than requests do are no request
no_request : (word : Text) (beyond words : List Text) (request : Request) → bytes_eq (codes "at") word ≡ false → bytes_eq (codes "history") word ≡ false → bytes_eq (codes "changed") word ≡ false → bytes_eq (codes "watermark") word ≡ false → bytes_eq (codes "durable") word ≡ false
    → words ≡ word ∷ beyond → AreRequestWords words request → ⊥
no_request word beyond words (Question (Rows q)) at history changed watermark durable are h = differ _ _ _ _ words at h.are are
no_request word beyond words (Question (Events q)) at history changed watermark durable are h = differ _ _ _ _ words history h.are are
no_request word beyond words (Changed q) at history changed watermark durable are h = differ _ _ _ _ words changed h.are are
no_request word beyond words Watermark at history changed watermark durable are h = differ _ _ _ _ words watermark h are
no_request word beyond words (Durable collector) at history changed watermark durable are h = differ _ _ _ _ words durable h.are are

one_collector : (a b : Text) (c d : ℕ) → a ≡ b → IsCollectorText a c → IsCollectorText b d → c ≡ d
one_collector a b c d e h k = decimal_injective c d (omega (arith, h.few)) (omega (arith, k.few)) (sym h.number ∙ e ∙ k.number)

one_limit : (a b : Text) (c d : ℕ) → a ≡ b → IsLimitText a c → IsLimitText b d → c ≡ d
one_limit a b c d e h k = decimal_injective c d (omega (arith, h.few)) (omega (arith, k.few)) (sym h.number ∙ e ∙ k.number)

one_mark : (a b : Text) (m n : ℕ) → a ≡ b → IsMarkText a m → IsMarkText b n → m ≡ n
one_mark a b m n e h k = one_instant last_mark (omega arith) b m n (subst (λ (x : Text). IsMarkText x m) e h) k

marks_agree : (words : List Text) (c d m n : ℕ) → AreMarkWords words c m → AreMarkWords words d n → commands.Mark c m ≡ commands.Mark d n
marks_agree words c d m n h k =
    let beyond = rest_of _ _ _ _ (sym h.are ∙ k.are) in
    let collectors = one_collector _ _ c d (first_of _ _ _ _ beyond) h.collector_is k.collector_is in
    let marks = one_mark _ _ m n (first_of _ _ _ _ (rest_of _ _ _ _ beyond)) h.mark_is k.mark_is in
    λ i. commands.Mark (collectors i) (marks i)

feeds_agree : (words : List Text) (c d m n : ℕ) → AreFeedWords words c m → AreFeedWords words d n → commands.Feed c m ≡ commands.Feed d n
feeds_agree words c d m n h k =
    let beyond = rest_of _ _ _ _ (sym h.are ∙ k.are) in
    let collectors = one_collector _ _ c d (first_of _ _ _ _ beyond) h.collector_is k.collector_is in
    let limits = one_limit _ _ m n (first_of _ _ _ _ (rest_of _ _ _ _ beyond)) h.limit_is k.limit_is in
    λ i. commands.Feed (collectors i) (limits i)

one_of_words : (line : Text) (a b : Command) → AreCommandWords (words_of line) a → AreCommandWords (words_of line) b → a ≡ b
one_of_words line (commands.Request q) (commands.Request r) h k = ap commands.Request (one_request line q r h k)
one_of_words line (commands.Request q) (commands.Mark c m) h k = absurd (no_request (codes "mark") _ (words_of line) q refl refl refl refl refl k.are h)
one_of_words line (commands.Request q) (commands.Feed c m) h k = absurd (no_request (codes "feed") _ (words_of line) q refl refl refl refl refl k.are h)
one_of_words line (commands.Request q) commands.Quit h k = absurd (no_request (codes "quit") _ (words_of line) q refl refl refl refl refl k h)
one_of_words line (commands.Request q) commands.Stop h k = absurd (no_request (codes "stop") _ (words_of line) q refl refl refl refl refl k h)
one_of_words line (commands.Mark c m) (commands.Request q) h k = absurd (no_request (codes "mark") _ (words_of line) q refl refl refl refl refl h.are k)
one_of_words line (commands.Mark c m) (commands.Mark d n) h k = marks_agree (words_of line) c d m n h k
one_of_words line (commands.Mark c m) (commands.Feed d n) h k = absurd (differ _ _ _ _ (words_of line) refl h.are k.are)
one_of_words line (commands.Mark c m) commands.Quit h k = absurd (differ _ _ _ _ (words_of line) refl h.are k)
one_of_words line (commands.Mark c m) commands.Stop h k = absurd (differ _ _ _ _ (words_of line) refl h.are k)
one_of_words line (commands.Feed c m) (commands.Request q) h k = absurd (no_request (codes "feed") _ (words_of line) q refl refl refl refl refl h.are k)
one_of_words line (commands.Feed c m) (commands.Mark d n) h k = absurd (differ _ _ _ _ (words_of line) refl h.are k.are)
one_of_words line (commands.Feed c m) (commands.Feed d n) h k = feeds_agree (words_of line) c d m n h k
one_of_words line (commands.Feed c m) commands.Quit h k = absurd (differ _ _ _ _ (words_of line) refl h.are k)
one_of_words line (commands.Feed c m) commands.Stop h k = absurd (differ _ _ _ _ (words_of line) refl h.are k)
one_of_words line commands.Quit (commands.Request q) h k = absurd (no_request (codes "quit") _ (words_of line) q refl refl refl refl refl h k)
one_of_words line commands.Quit (commands.Mark d n) h k = absurd (differ _ _ _ _ (words_of line) refl h k.are)
one_of_words line commands.Quit (commands.Feed d n) h k = absurd (differ _ _ _ _ (words_of line) refl h k.are)
one_of_words line commands.Quit commands.Quit h k = refl
one_of_words line commands.Quit commands.Stop h k = absurd (differ _ _ _ _ (words_of line) refl h k)
one_of_words line commands.Stop (commands.Request q) h k = absurd (no_request (codes "stop") _ (words_of line) q refl refl refl refl refl h k)
one_of_words line commands.Stop (commands.Mark d n) h k = absurd (differ _ _ _ _ (words_of line) refl h k.are)
one_of_words line commands.Stop (commands.Feed d n) h k = absurd (differ _ _ _ _ (words_of line) refl h k.are)
one_of_words line commands.Stop commands.Quit h k = absurd (differ _ _ _ _ (words_of line) refl h k)
one_of_words line commands.Stop commands.Stop h k = refl

pub one_command : OneCommand
one_command line a b h k = one_of_words line a b h.asks k.asks
