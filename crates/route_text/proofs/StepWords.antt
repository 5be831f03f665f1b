-- The words of a path's text.
use Rattle.std.proofs.Common.{◌≡◌, ◌≢◌, ℕ, ◌<◌, ◌^◌, List, [], ◌∷◌, ◌++◌, decimal, refl, sym, ◌∙◌, arith}
use Rattle.route_model.specs.Encoding.{AreNumbers}
use Rattle.route_text.specs.declared.step.Step.{Step}
use Rattle.route_text.specs.declared.step.Step.TheVariants.{Number, Set}
use Rattle.route_text.specs.RouteText.{numbers_text}
use Rattle.route_text.specs.inner.Steps.{step_text, IsStep}
use Rattle.route_text.proofs.Cuts.{Lacks-head, Lacks-same}
use Rattle.route_text.proofs.Numbers.{Lacks-decimal}

-- a word without a brace at its front is a number's
pub record IsNumber (word : List ℕ) (s : Step) : Type 0 where
  pub number : ℕ
  pub step : s ≡ Number number
  pub fits : number < 2 ^ 32
  pub text : word ≡ decimal number

pub number_word : (word : List ℕ) (s : Step) → ((rest : List ℕ) → word ≢ 123 ∷ rest) → IsStep s → word ≡ step_text s → IsNumber word s
number_word word (Number n) bare fits e = record { number = n; step = refl; fits = fits; text = e }
number_word word (Set numbers) bare fits e = absurd (bare (numbers_text 44 numbers ++ 125 ∷ []) e)

-- a word with a brace at its front is a set's
pub record IsSet (inner : List ℕ) (s : Step) : Type 0 where
  pub numbers : List ℕ
  pub step : s ≡ Set numbers
  pub valid : AreNumbers numbers
  pub text : inner ≡ numbers_text 44 numbers ++ 125 ∷ []

pub set_word : (word inner : List ℕ) (s : Step) → word ≡ 123 ∷ inner → IsStep s → word ≡ step_text s → IsSet inner s
set_word word inner (Number n) braced fits e = absurd (Lacks-head 123 123 inner (Lacks-same 123 (decimal n) (123 ∷ inner) (sym e ∙ braced) (Lacks-decimal 123 n (omega arith) (λ d. omega arith))) refl)
set_word word inner (Set numbers) braced valid e = record { numbers = numbers; step = refl; valid = valid; text = (let tails : inner ≡ numbers_text 44 numbers ++ 125 ∷ [] = cc in tails) }
