-- Each step keeps the board.
use Rattle.std.proofs.Common.{◌≡◌, ◌≢◌, ℕ, zero, suc, ◌<◌, ◌≤◌, max, true, false, true≢false, List, [], ◌∷◌, length, set, Option, None, Some, refl, sym, ◌∙◌, subst, ⊎_elim, arith, le_trans, le_refl}
use Rattle.std.specs.Prelude.{slice_index}
use mathlib.Core.Option.{some, none, some-injective, some-ne-none}
use lib.ListN.{get_elem?}
use Rattle.atomic_table.specs.Table.{State, Me, step, keeps, Allows, Splits, Joins, opening}
use Rattle.atomic_table.proofs.Lists.{at_set, at_snoc, set_again}
use Rattle.board.specs.Past.{Past}
use Rattle.board.specs.Views.{Within}
use Rattle.board.specs.inner.Rule.{Known, Sight, nothing, Starts, IsRight, most, IsKnown, Fits, IsBoard, writer_of}
use Rattle.board.specs.inner.Steps.{note_of, hears, takes, spent, sees, moves, Seen, Raised, Compared, MovedTo}
use Rattle.board.proofs.Reaching.{starts_self, starts_then, most_rises}
use Rattle.board.proofs.Numbers.{within_nil, number_most, greatest_most, word_rises, word_most, word_here, length_set}

-- ---- what is known

known_later : (now next : Option Past) (ws vs : List ℕ) (k : Known) → Starts now next → Within ws vs → IsKnown now ws k → IsKnown next vs k
known_later now next ws vs k on up p = (starts_then k.past now next p.0 on, λ i. le_trans (p.1 i) (up i))

known_nothing : (now : Option Past) (ws : List ℕ) → IsKnown now ws nothing
known_nothing now ws = (tt, within_nil ws)

-- the views after a step of one seat
fits_set : (writer : ℕ) (now : Option Past) (ws : List ℕ) (views : List Sight) (seat : ℕ) (w : Sight) → ((j : ℕ) (u : Sight) → j ≢ seat → get_elem? views j ≡ some u → Fits writer now ws j u) → Fits writer now ws seat w
    → (j : ℕ) (u : Sight) → get_elem? (set views seat w) j ≡ some u → Fits writer now ws j u
fits_set writer now ws views seat w others mine j u e =
    ⊎_elim
    (λ (x : (j ≡ seat) × (w ≡ u)). subst (λ (y : ℕ × Sight). Fits writer now ws y.0 y.1) (λ i. (sym x.0 i, x.1 i)) mine)
    (λ (x : (j ≢ seat) × (get_elem? views j ≡ some u)). others j u x.0 x.1)
    (at_set views seat j w u e)

module _ {S : Type 0} (count : ℕ) where
  -- a seat that doesn't move the past, at a word that doesn't fall
  same_past : (s : State S Sight) (h : IsBoard count s) (seat : ℕ) (v w : Sight) (i n : ℕ) → get_elem? s.views seat ≡ some v
      → w.writes ≡ v.writes → w.knows.past ≡ v.knows.past → slice_index s.words i ≤ n → n ≤ most h.now i
      → IsKnown h.now (set s.words i n) w.knows → IsKnown h.now (set s.words i n) w.heard
      → IsBoard count (record { words = set s.words i n; homes = s.homes; views = set s.views seat w })
  same_past s h seat v w i n at writes past up top knows heard =
      let mine = (h.fits seat v at).0 in
      let rises = word_rises s.words i n up in
      let self = starts_self h.now h.right in
      record {
        writer = h.writer;
        now = h.now;
        right = h.right;
        words = length_set s.words i n ∙ h.words;
        reached = word_most s.words i n (most h.now) h.reached top;
        fits = fits_set h.writer h.now (set s.words i n) s.views seat w
            (λ j u apart e. let f = h.fits j u e in (f.0, known_later h.now h.now s.words (set s.words i n) u.knows self rises f.1, known_later h.now h.now s.words (set s.words i n) u.heard self rises f.2))
            ((λ k. let m = mine (sym writes ∙ k) in (m.0, past ∙ m.1)), knows, heard);
      }

  -- a board on which nothing is known
  pub opens : (ws : List ℕ) (xs : List S) → length ws ≡ count → ((i : ℕ) → slice_index ws i ≡ 0) → IsBoard count (opening ws xs (writer_of nothing nothing))
  opens ws xs long zeros = record { writer = 0; now = None; right = tt; words = long; reached = λ i. omega (arith, zeros i); fits = one }
    where
      one : (seat : ℕ) (v : Sight) → get_elem? (writer_of nothing nothing ∷ []) seat ≡ some v → Fits 0 None ws seat v
      one zero v e = subst (Fits 0 None ws 0) (some-injective _ _ e) ((λ _. (refl, refl)), known_nothing None ws, known_nothing None ws)
      one (suc seat) v e = absurd (some-ne-none v (sym e))

  -- a load
  sees_allowed : (slots seat : ℕ) (v : Sight) (i : ℕ) → Allows (IsBoard {S = S} count) slots seat (v, []) i (λ n. n) (Seen (step slots i 0 0 none) (v, []))
  sees_allowed slots seat v i s h homes at small =
      let n = slice_index s.words i in
      let f = h.fits seat v at in
      let self = starts_self h.now h.right in
      let rises = word_rises s.words i n (le_refl n) in
      let known = known_later h.now h.now s.words (set s.words i n) v.knows self rises f.1 in
      let heard = known_later h.now h.now s.words (set s.words i n) v.heard self rises f.2 in (
        sees v i n,
        keeps,
        tt,
        same_past s h seat v (sees v i n) i n at refl refl (le_refl n) (h.reached i)
            (known.0, number_most v.knows.numbers (set s.words i n) i n known.1 (rises i))
            heard,
        (refl, f.1.1 i, refl),
      )

  -- the writing seat raises a word to what its past reaches
  raises_allowed : (slots seat : ℕ) (v : Sight) (i k : ℕ) → v.writes ≡ true → k ≤ most v.knows.past i → i < count → Allows (IsBoard {S = S} count) slots seat (v, []) i (λ n. max n k) (Raised (step slots i k 0 none) (v, []))
  raises_allowed slots seat v i k writes low inside s h homes at small =
      let n = slice_index s.words i in
      let m = max n k in
      let f = h.fits seat v at in
      let self = starts_self h.now h.right in
      let same = (f.0 writes).1 in
      let top : k ≤ most h.now i = subst (λ (x : Option Past). k ≤ most x i) same low in
      let up : n ≤ m = omega arith in
      let all : m ≤ most h.now i = (let r : n ≤ most h.now i = h.reached i in omega arith) in
      let rises = word_rises s.words i m up in
      let known = known_later h.now h.now s.words (set s.words i m) v.knows self rises f.1 in
      let heard = known_later h.now h.now s.words (set s.words i m) v.heard self rises f.2 in (
        sees v i m,
        keeps,
        tt,
        same_past s h seat v (sees v i m) i m at refl refl up all
            (known.0, number_most v.knows.numbers (set s.words i m) i m known.1 (word_here s.words i m (subst (λ l. i < l) (sym h.words) inside)))
            heard,
        (refl, f.1.1 i, refl),
      )

  -- a load by the writing seat, which compares what it heard with what it knows
  compares_allowed : (slots seat : ℕ) (v : Sight) (i : ℕ) → v.writes ≡ true → Allows (IsBoard {S = S} count) slots seat (v, []) i (λ n. n) (Compared (step slots i 0 0 none) (v, []))
  compares_allowed slots seat v i writes s h homes at small =
      let n = slice_index s.words i in
      let f = h.fits seat v at in
      let self = starts_self h.now h.right in
      let same = (f.0 writes).1 in
      let rises = word_rises s.words i n (le_refl n) in
      let known = known_later h.now h.now s.words (set s.words i n) v.knows self rises f.1 in
      let heard = known_later h.now h.now s.words (set s.words i n) v.heard self rises f.2 in (
        v,
        keeps,
        tt,
        same_past s h seat v v i n at refl refl (le_refl n) (h.reached i) known heard,
        (
          refl,
          refl,
          subst (λ (x : Option Past). Starts v.heard.past x) (sym same) f.2.0,
          (λ j. subst (λ (x : Option Past). slice_index v.heard.numbers j ≤ most x j) (sym same) (le_trans (f.2.1 j) (h.reached j))),
        ),
      )

  -- the writing seat moves to a past that its own begins
  moves_allowed : (slots seat : ℕ) (v : Sight) (i : ℕ) (fits : Past → Type 0) (p : Past) → v.writes ≡ true → Starts v.knows.past (Some p) → IsRight (Some p) → fits p
      → Allows (IsBoard {S = S} count) slots seat (v, []) i (λ n. n) (MovedTo fits (step slots i 0 0 none) (v, []))
  moves_allowed slots seat v i fits p writes later right goal s h homes at small =
      let n = slice_index s.words i in
      let next : Option Past = Some p in
      let ws = set s.words i n in
      let f = h.fits seat v at in
      let on : Starts h.now next = subst (λ (x : Option Past). Starts x next) (f.0 writes).1 later in
      let rises = word_rises s.words i n (le_refl n) in
      let known = known_later h.now next s.words ws v.knows on rises f.1 in
      let heard = known_later h.now next s.words ws v.heard on rises f.2 in (
        moves v next,
        keeps,
        tt,
        record {
          writer = h.writer;
          now = next;
          right = right;
          words = length_set s.words i n ∙ h.words;
          reached = λ j. le_trans (word_most s.words i n (most h.now) h.reached (h.reached i) j) (most_rises h.now next on j);
          fits = fits_set h.writer next ws s.views seat (moves v next)
              (λ j u apart e. let g = h.fits j u e in ((λ k. absurd (apart ((g.0 k).0 ∙ sym (f.0 writes).0))), known_later h.now next s.words ws u.knows on rises g.1, known_later h.now next s.words ws u.heard on rises g.2))
              ((λ k. ((f.0 writes).0, refl)), (starts_self next right, known.1), heard);
        },
        (p, refl, refl, goal, right, later),
      )

  -- a new seat, which knows no more than this one and doesn't write
  pub splits_allowed : (seat : ℕ) (v : Sight) → Splits (IsBoard {S = S} count) seat v v (note_of v)
  splits_allowed seat v s h at =
      let f = h.fits seat v at in
      record {
        writer = h.writer;
        now = h.now;
        right = h.right;
        words = h.words;
        reached = h.reached;
        fits = λ j u e. ⊎_elim
            (λ was. h.fits j u (subst (λ l. get_elem? l j ≡ some u) (set_again s.views seat v at) was))
            (λ (same : note_of v ≡ u). subst (Fits h.writer h.now s.words j) same ((λ k. absurd (true≢false (sym k))), f.1, known_nothing h.now s.words))
            (at_snoc (set s.views seat v) (note_of v) u j e);
      }

  -- the view of the other seat, while this one has another view already
  other_fits : (s : State S Sight) (h : IsBoard count s) (seat : ℕ) (w : Sight) (other : ℕ) (u : Sight) → ¬ (other ≡ seat) → get_elem? (set s.views seat w) other ≡ some u → Fits h.writer h.now s.words other u
  other_fits s h seat w other u apart there =
      ⊎_elim
      (λ (x : (other ≡ seat) × (w ≡ u)). absurd (apart x.0))
      (λ (x : (other ≢ seat) × (get_elem? s.views other ≡ some u)). h.fits other u x.1)
      (at_set s.views seat other w u there)

  join_keeps : (s : State S Sight) (h : IsBoard count s) (seat : ℕ) (w : Sight) (other : ℕ) → Fits h.writer h.now s.words seat w
      → IsBoard count (record { words = s.words; homes = s.homes; views = set (set s.views seat w) other spent })
  join_keeps s h seat w other fits = record {
    writer = h.writer;
    now = h.now;
    right = h.right;
    words = h.words;
    reached = h.reached;
    fits = fits_set h.writer h.now s.words (set s.views seat w) other spent
        (λ j u apart e. fits_set h.writer h.now s.words s.views seat w (λ i x away there. h.fits i x there) fits j u e)
        ((λ k. absurd (true≢false (sym k))), known_nothing h.now s.words, known_nothing h.now s.words);
  }

  -- a seat hears what another knows
  pub hears_allowed : (seat : ℕ) (v : Sight) (other : ℕ) (w : Sight) → Joins (IsBoard {S = S} count) seat v other w (hears v w) spent
  hears_allowed seat v other w s h at apart there =
      let f = h.fits seat v at in
      let g = other_fits s h seat (hears v w) other w apart there in
      join_keeps s h seat (hears v w) other (f.0, f.1, g.1)

  -- a seat that doesn't write takes the other's past and the greater numbers
  pub takes_allowed : (seat : ℕ) (v : Sight) (other : ℕ) (w : Sight) → v.writes ≡ false → Joins (IsBoard {S = S} count) seat v other w (takes v w) spent
  takes_allowed seat v other w reads s h at apart there =
      let f = h.fits seat v at in
      let g = other_fits s h seat (takes v w) other w apart there in
      join_keeps s h seat (takes v w) other ((λ k. absurd (true≢false (sym k ∙ reads))), (g.1.0, greatest_most v.knows.numbers w.knows.numbers s.words f.1.1 g.1.1), f.2)

  -- the same of a seat that holds no slot
  pub sees_at : (slots seat : ℕ) (m : Me S Sight) (i : ℕ) → m.1 ≡ [] → Allows (IsBoard {S = S} count) slots seat m i (λ n. n) (Seen (step slots i 0 0 none) m)
  sees_at slots seat m i e = subst (λ (c : List (ℕ × S)). Allows (IsBoard {S = S} count) slots seat (m.0, c) i (λ n. n) (Seen (step slots i 0 0 none) (m.0, c))) (sym e) (sees_allowed slots seat m.0 i)

  pub raises_at : (slots seat : ℕ) (m : Me S Sight) (i k : ℕ) → m.1 ≡ [] → m.0.writes ≡ true → k ≤ most m.0.knows.past i → i < count → Allows (IsBoard {S = S} count) slots seat m i (λ n. max n k) (Raised (step slots i k 0 none) m)
  raises_at slots seat m i k e writes low inside = subst (λ (c : List (ℕ × S)). Allows (IsBoard {S = S} count) slots seat (m.0, c) i (λ n. max n k) (Raised (step slots i k 0 none) (m.0, c))) (sym e) (raises_allowed slots seat m.0 i k writes low inside)

  pub compares_at : (slots seat : ℕ) (m : Me S Sight) (i : ℕ) → m.1 ≡ [] → m.0.writes ≡ true → Allows (IsBoard {S = S} count) slots seat m i (λ n. n) (Compared (step slots i 0 0 none) m)
  compares_at slots seat m i e writes = subst (λ (c : List (ℕ × S)). Allows (IsBoard {S = S} count) slots seat (m.0, c) i (λ n. n) (Compared (step slots i 0 0 none) (m.0, c))) (sym e) (compares_allowed slots seat m.0 i writes)

  pub moves_at : (slots seat : ℕ) (m : Me S Sight) (i : ℕ) (fits : Past → Type 0) (p : Past) → m.1 ≡ [] → m.0.writes ≡ true → Starts m.0.knows.past (Some p) → IsRight (Some p) → fits p
      → Allows (IsBoard {S = S} count) slots seat m i (λ n. n) (MovedTo fits (step slots i 0 0 none) m)
  moves_at slots seat m i fits p e writes later right goal = subst (λ (c : List (ℕ × S)). Allows (IsBoard {S = S} count) slots seat (m.0, c) i (λ n. n) (MovedTo fits (step slots i 0 0 none) (m.0, c))) (sym e) (moves_allowed slots seat m.0 i fits p writes later right goal)
