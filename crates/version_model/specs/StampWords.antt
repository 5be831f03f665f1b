-- The two words of a stamp, and the number that they are.
use Rattle.std.specs.Prelude.{◌≡◌, ℕ, ◌/◌, ◌%◌, ◌^◌, ◌<◌}
use Rattle.route_model.specs.KeyWords.{followed_by, front_of, last_of}
use Rattle.version_model.specs.declared.stamp.Stamp.TheInside.{Inside}

-- the number of the time, followed by the order number as a word of 64 bits
abbrev pub number_of_stamp : Inside → ℕ
number_of_stamp s = followed_by s.time s.order

-- each is a word of 64 bits
pub record AreWords (s : Inside) : Type 0 where
  pub time : s.time < 2 ^ 64
  pub order : s.order < 2 ^ 64

-- the two words of a number
abbrev pub stamp_words : ℕ → Inside
stamp_words n = record { time = n / 2 ^ 64; order = n % 2 ^ 64 }

-- the words are those of their number
pub stamp_words-number : (s : Inside) → AreWords s → stamp_words (number_of_stamp s) ≡ s
stamp_words-number s are =
    let time = front_of s.time s.order are.order in
    let order = last_of s.time s.order are.order in
    λ i. record { time = time i; order = order i }
