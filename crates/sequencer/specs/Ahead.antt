-- What waits after some first times of each collector.
use Rattle.std.specs.Prelude.{ℕ, List, [], ◌∷◌, drop}
use Rattle.sequencer.specs.Lanes.{Waiting}

-- what waits of a collector after its first n times
abbrev pub later : ℕ → Waiting → Waiting
later n w = record { mark = w.mark; times = drop n w.times; room = w.room }

-- what waits of the collectors 0, 1 and so on, each after the given number of its times; of one for which no number is given, all
abbrev pub beyond : List ℕ → List Waiting → List Waiting
beyond [] lanes = lanes
beyond (n ∷ ns) [] = []
beyond (n ∷ ns) (w ∷ lanes) = later n w ∷ beyond ns lanes
