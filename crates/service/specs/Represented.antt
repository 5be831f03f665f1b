-- What is true of an archive, by the histories that it represents.
use Rattle.std.specs.Prelude.{◌≡◌, ⊤, List}
use Rattle.route_meaning.specs.History.{History, Intake}

-- which histories it represents
abbrev pub Represented : Type 1
Represented = History → Type 0

-- it represents one with these intakes, wherever it is applied
pub record HasIntakes (intakes : List Intake) (archive : Represented) : Type 0 where
  pub now : History
  pub are : now.intakes ≡ intakes
  pub represented : archive now

-- nothing is known of what it represents
abbrev pub whatever : Represented
whatever h = ⊤
