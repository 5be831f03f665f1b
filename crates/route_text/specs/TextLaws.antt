-- What texts stand for at most one value, and which are read again.
use Rattle.std.specs.Prelude.{◌≡◌, ℕ, ◌≤◌, List}
use Rattle.route_model.specs.Moments.{IsMoment, last_mark}
use Rattle.route_model.specs.Prefix.{IpPrefix}
use Rattle.route_text.specs.MomentText.{IsMomentText, IsMarkText, moment_text}
use Rattle.route_text.specs.PrefixText.{IsPrefixText}

-- no text has two prefixes
abbrev pub HaveOnePrefix : Type 0
HaveOnePrefix = (text : List ℕ) (a b : IpPrefix) → IsPrefixText text a → IsPrefixText text b → a ≡ b

-- no text has two moments
abbrev pub HaveOneMoment : Type 0
HaveOneMoment = (text : List ℕ) (a b : ℕ) → IsMomentText text a → IsMomentText text b → a ≡ b

-- no text has two marks
abbrev pub HaveOneMark : Type 0
HaveOneMark = (text : List ℕ) (a b : ℕ) → IsMarkText text a → IsMarkText text b → a ≡ b

-- the text that is written of a moment writes that moment
abbrev pub AreMomentsRead : Type 0
AreMomentsRead = (moment : ℕ) → IsMoment moment → IsMomentText (moment_text moment) moment

-- the text that is written of a mark writes that mark
abbrev pub AreMarksRead : Type 0
AreMarksRead = (mark : ℕ) → mark ≤ last_mark → IsMarkText (moment_text mark) mark
