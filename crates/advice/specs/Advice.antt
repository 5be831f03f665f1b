-- Advice that is printed for a person.
use Rattle.std.specs.Prelude.{◌≡◌, ◌⊎◌, ℕ, List, ◌++◌, codes}
use Rattle.service.specs.Outputs.{OutputState, Reports}
use Rattle.service.specs.Refusals.{line_end}

-- a line with these words
abbrev pub advice_line : List ℕ → List ℕ
advice_line words = codes "rha: " ++ words ++ line_end

-- some words were written as a line, or none, if there was no memory for them
abbrev pub MaySay : OutputState → OutputState → Type 0
MaySay was now = (now ≡ was) ⊎ ((words : List ℕ) × Reports was now (advice_line words))
