-- What the lines of a connection ask. A line is taken without its end.
use Rattle.std.specs.Prelude.{◌≡◌, ◌≤◌, ℕ, List, [], ◌∷◌, codes, decimal, IsUtf8}
use Rattle.route_text.specs.MomentText.{IsMarkText}
use Rattle.service.specs.Requests.{words_of, AreRequestWords}
use Rattle.server.specs.declared.command.Command.{Command}
use Rattle.server.specs.declared.command.Command.TheVariants.{Request, Mark, Feed, Quit, Stop}

-- the text writes the number of a collector, 0 to 15
pub record IsCollectorText (text : List ℕ) (collector : ℕ) : Type 0 where
  pub number : text ≡ decimal collector
  pub few : collector ≤ 15

-- the text writes how many admissions a batch may have, 1 to 1,000
pub record IsLimitText (text : List ℕ) (limit : ℕ) : Type 0 where
  pub number : text ≡ decimal limit
  pub some : 1 ≤ limit
  pub few : limit ≤ 1000

-- `mark COLLECTOR MARK`
pub record AreMarkWords (words : List (List ℕ)) (collector mark : ℕ) : Type 0 where
  pub named : List ℕ
  pub text : List ℕ
  pub are : words ≡ codes "mark" ∷ named ∷ text ∷ []
  pub collector_is : IsCollectorText named collector
  pub mark_is : IsMarkText text mark

-- `feed COLLECTOR N`
pub record AreFeedWords (words : List (List ℕ)) (collector limit : ℕ) : Type 0 where
  pub named : List ℕ
  pub text : List ℕ
  pub are : words ≡ codes "feed" ∷ named ∷ text ∷ []
  pub collector_is : IsCollectorText named collector
  pub limit_is : IsLimitText text limit

-- the words order this, which is no request for an answer
abbrev pub AreOrderWords : List (List ℕ) → Command → Type 0
AreOrderWords words (Request request) = ⊥
AreOrderWords words (Mark collector mark) = AreMarkWords words collector mark
AreOrderWords words (Feed collector limit) = AreFeedWords words collector limit
AreOrderWords words Quit = words ≡ codes "quit" ∷ []
AreOrderWords words Stop = words ≡ codes "stop" ∷ []

-- the words ask this: an answer, as request lines do, or what they order
abbrev pub AreCommandWords : List (List ℕ) → Command → Type 0
AreCommandWords words (Request request) = AreRequestWords words request
AreCommandWords words (Mark collector mark) = AreOrderWords words (Mark collector mark)
AreCommandWords words (Feed collector limit) = AreOrderWords words (Feed collector limit)
AreCommandWords words Quit = AreOrderWords words Quit
AreCommandWords words Stop = AreOrderWords words Stop

-- the line is UTF-8, and asks this
pub record IsCommandLine (line : List ℕ) (command : Command) : Type 0 where
  pub text : IsUtf8 line
  pub asks : AreCommandWords (words_of line) command
