-- The words of a line, one by one.
use Rattle.std.proofs.Common.{◌≡◌, ◌∙◌, ℕ, zero, suc, ◌<◌, ◌≤◌, Bool, true, false, not, List, [], ◌∷◌, length, map, drop, get_or, refl, sym, ap, arith, Bor}
use Rattle.std.specs.Str.{bytes_eq}
use Rattle.std.proofs.lemmas.Slice.Eq.{bytes_eq-Decides}

abbrev pub Words : Type 0
Words = List (Bor (List ℕ))

abbrev pub texts : Words → List (List ℕ)
texts ws = map (λ x. x.now) ws

-- the word at a place
pub word_at : (ws : Words) (k : ℕ) (d : Bor (List ℕ)) (xs : List (List ℕ)) → texts ws ≡ xs → k < length xs → (get_or ws k d).now ≡ get_or xs k []
word_at [] k d [] e h = absurd (omega (arith, h))
word_at [] k d (x ∷ xs) e h = absurd cc
word_at (w ∷ ws) k d [] e h = absurd (omega (arith, h))
word_at (w ∷ ws) zero d (x ∷ xs) e h = cc
word_at (w ∷ ws) (suc k) d (x ∷ xs) e h =
    let rest : texts ws ≡ xs = cc in
    let within : k < length xs = omega (arith, h) in
    word_at ws k d xs rest within

-- the words after a place
pub words_after : (ws : Words) (k : ℕ) (xs : List (List ℕ)) → texts ws ≡ xs → texts (drop k ws) ≡ drop k xs
words_after ws zero xs e = e
words_after [] (suc k) [] e = refl
words_after [] (suc k) (x ∷ xs) e = absurd cc
words_after (w ∷ ws) (suc k) [] e = absurd cc
words_after (w ∷ ws) (suc k) (x ∷ xs) e =
    let rest : texts ws ≡ xs = cc in
    words_after ws k xs rest

-- the first of two lists that are the same, and the others
pub first_of : (a b : List ℕ) (xs ys : List (List ℕ)) → ◌≡◌ {A = List (List ℕ)} (a ∷ xs) (b ∷ ys) → a ≡ b
first_of a b xs ys e = cc

pub rest_of : (a b : List ℕ) (xs ys : List (List ℕ)) → ◌≡◌ {A = List (List ℕ)} (a ∷ xs) (b ∷ ys) → xs ≡ ys
rest_of a b xs ys e = cc

-- no word is some
pub nothing : (word : List ℕ) (named : List (List ℕ)) → ◌≡◌ {A = List (List ℕ)} [] (word ∷ named) → ⊥
nothing word named e = absurd cc

-- the second word
pub second_word : (words beyond rest : Words) (first other : List ℕ) (text : Bor (List ℕ)) (xs : List (List ℕ))
    → texts words ≡ first ∷ texts beyond → beyond ≡ text ∷ rest → texts words ≡ first ∷ other ∷ xs → text.now ≡ other
second_word words beyond rest first other text xs is parts are =
    let e : texts beyond ≡ text.now ∷ texts rest = ap texts parts in
    cc

-- what stands after the second word
pub after_second : (words beyond rest : Words) (first other : List ℕ) (text : Bor (List ℕ)) (xs : List (List ℕ))
    → texts words ≡ first ∷ texts beyond → beyond ≡ text ∷ rest → texts words ≡ first ∷ other ∷ xs → texts rest ≡ xs
after_second words beyond rest first other text xs is parts are =
    let e : texts beyond ≡ text.now ∷ texts rest = ap texts parts in
    cc

-- two words that weren't found to differ are the same
pub same_word : (a b : List ℕ) (differ : Bool) → differ ≡ not (bytes_eq a b) → differ ≡ false → a ≡ b
same_word a b differ is same = (bytes_eq-Decides a b).0 (equal (bytes_eq a b) (sym is ∙ same))
  where
    equal : (t : Bool) → not t ≡ false → t ≡ true
    equal true e = refl
    equal false e = absurd cc

-- the only word
pub only_word : (ws : Words) (d : Bor (List ℕ)) (word : List ℕ) → 1 ≤ length ws → length ws < 2 → (get_or ws 0 d).now ≡ word → texts ws ≡ word ∷ []
only_word [] d word some few e = absurd (omega (arith, some))
only_word (a ∷ []) d word some few e = ap (λ (x : List ℕ). x ∷ []) e
only_word (a ∷ b ∷ ws) d word some few e = absurd (omega (arith, few))
