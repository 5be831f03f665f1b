-- The five words of a key, and the number that they are.
use Rattle.std.specs.Prelude.{◌≡◌, ℕ, ◌+◌, ◌*◌, ◌/◌, ◌%◌, ◌^◌, ◌<◌}
use Rattle.std.proofs.Common.{ap, ◌∙◌, arith}
use Rattle.route_model.specs.declared.key.Key.TheInside.{Inside}

-- a number with one more word after it
abbrev pub followed_by : ℕ → ℕ → ℕ
followed_by n word = n * 2 ^ 64 + word

-- the number of five words, the first being the highest
abbrev pub number_of_words : Inside → ℕ
number_of_words k = followed_by (followed_by (followed_by (followed_by k.first k.second) k.third) k.fourth) k.fifth

-- each is a word of 64 bits
pub record AreWords (k : Inside) : Type 0 where
  pub first : k.first < 2 ^ 64
  pub second : k.second < 2 ^ 64
  pub third : k.third < 2 ^ 64
  pub fourth : k.fourth < 2 ^ 64
  pub fifth : k.fifth < 2 ^ 64

-- the five words of a number
abbrev pub words_of : ℕ → Inside
words_of n = record {
  first = n / 2 ^ 64 / 2 ^ 64 / 2 ^ 64 / 2 ^ 64;
  second = n / 2 ^ 64 / 2 ^ 64 / 2 ^ 64 % 2 ^ 64;
  third = n / 2 ^ 64 / 2 ^ 64 % 2 ^ 64;
  fourth = n / 2 ^ 64 % 2 ^ 64;
  fifth = n % 2 ^ 64;
}

-- (a lemma) a number followed by a word, without the word
pub front_of : (n word : ℕ) → word < 2 ^ 64 → followed_by n word / 2 ^ 64 ≡ n
front_of n word lt = omega arith

-- (a lemma) that word
pub last_of : (n word : ℕ) → word < 2 ^ 64 → followed_by n word % 2 ^ 64 ≡ word
last_of n word lt = omega arith

-- the words are those of their number
pub words_of-number_of_words : (k : Inside) → AreWords k → words_of (number_of_words k) ≡ k
words_of-number_of_words k are =
    let n1 : ℕ = followed_by k.first k.second in
    let n2 : ℕ = followed_by n1 k.third in
    let n3 : ℕ = followed_by n2 k.fourth in
    let e4 : followed_by n3 k.fifth / 2 ^ 64 ≡ n3 = front_of n3 k.fifth are.fifth in
    let e3 : n3 / 2 ^ 64 ≡ n2 = front_of n2 k.fourth are.fourth in
    let e2 : n2 / 2 ^ 64 ≡ n1 = front_of n1 k.third are.third in
    let e1 : n1 / 2 ^ 64 ≡ k.first = front_of k.first k.second are.second in
    let d3 : number_of_words k / 2 ^ 64 / 2 ^ 64 ≡ n2 = ap (λ (n : ℕ). n / 2 ^ 64) e4 ∙ e3 in
    let d2 : number_of_words k / 2 ^ 64 / 2 ^ 64 / 2 ^ 64 ≡ n1 = ap (λ (n : ℕ). n / 2 ^ 64) d3 ∙ e2 in
    let f1 : number_of_words k / 2 ^ 64 / 2 ^ 64 / 2 ^ 64 / 2 ^ 64 ≡ k.first = ap (λ (n : ℕ). n / 2 ^ 64) d2 ∙ e1 in
    let f2 : number_of_words k / 2 ^ 64 / 2 ^ 64 / 2 ^ 64 % 2 ^ 64 ≡ k.second = ap (λ (n : ℕ). n % 2 ^ 64) d2 ∙ last_of k.first k.second are.second in
    let f3 : number_of_words k / 2 ^ 64 / 2 ^ 64 % 2 ^ 64 ≡ k.third = ap (λ (n : ℕ). n % 2 ^ 64) d3 ∙ last_of n1 k.third are.third in
    let f4 : number_of_words k / 2 ^ 64 % 2 ^ 64 ≡ k.fourth = ap (λ (n : ℕ). n % 2 ^ 64) e4 ∙ last_of n2 k.fourth are.fourth in
    let f5 : number_of_words k % 2 ^ 64 ≡ k.fifth = last_of n3 k.fifth are.fifth in
    λ i. record { first = f1 i; second = f2 i; third = f3 i; fourth = f4 i; fifth = f5 i }
