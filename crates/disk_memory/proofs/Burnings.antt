-- Burns one after another.
use Rattle.std.proofs.Common.{◌≡◌, ◌≢◌, ⊎_elim, ◌<◌, ℕ, ◌+◌, List, [], ◌∷◌, ◌++◌, length, map, take, get_or, Bool, Bor, true, false, inr, option_copied, ◌||◌, ◌&&◌, ◌==◌, if◌then◌else◌, Option, None, Some, is_some, slice_get, refl, sym, ◌∙◌, ap, subst, arith, append_assoc, append-nil}
use Rattle.std.proofs.lemmas.List.{take_more, length-take}
use Rattle.std.proofs.lemmas.Bool.{ne_eqb, eq-eqb}
use Rattle.disk_models.specs.Once.{Burns, BurnsOnly, SettlesOnly}
use Rattle.disk_models.specs.Left.{OnceFound}
use Rattle.disk_memory.specs.declared.torn.Torn.{Torn}
use Rattle.disk_memory.specs.declared.torn.Torn.TheVariants.{Old, New, Half, Gate, Octets}
use Rattle.disk_memory.specs.OnceSound.{burnt_still}
use Rattle.disk_memory.specs.inner.Failing.{burning_kept}
use Rattle.disk_memory.specs.Burning.{Burning, burnt_in, tried_block_in, once_state_of, all_torn, torn_burning, torn_burnings, torn_block, LeavesFailed}

-- tried by the first or by the others
pub tried_append : (n : ℕ) (bs more : List Burning) → is_some (tried_block_in n (bs ++ more)) ≡ (is_some (tried_block_in n bs) || is_some (tried_block_in n more))
tried_append n [] more = refl
tried_append n (b ∷ bs) more =
    elim (b.number == n) as (λ t. is_some (if t then Some b.block else tried_block_in n (bs ++ more)) ≡ (is_some (if t then Some b.block else tried_block_in n bs) || is_some (tried_block_in n more)))
    [ true ↦ refl | false ↦ tried_append n bs more ]

-- one burn more
torn_burnings-append : (choice : List Torn) (bs : List Burning) (b : Burning) → torn_burnings choice (bs ++ b ∷ []) ≡ torn_burnings choice bs ++ torn_burning (slice_get choice (length bs)) b ∷ []
torn_burnings-append [] [] b = refl
torn_burnings-append (torn ∷ choice) [] b = refl
torn_burnings-append [] (first ∷ bs) b = ap (λ (l : List Burning). torn_burning None first ∷ l) (torn_burnings-append [] bs b)
torn_burnings-append (torn ∷ choice) (first ∷ bs) b = ap (λ (l : List Burning). torn_burning (Some torn) first ∷ l) (torn_burnings-append choice bs b)

pub torn_burnings_next : (choice : List Torn) (bs into old : List Burning) (i : ℕ) (b : Burning) → i < length bs → b ≡ get_or bs i b
    → into ≡ old ++ torn_burnings choice (take i bs) → into ++ torn_burning (slice_get choice i) b ∷ [] ≡ old ++ torn_burnings choice (take (i + 1) bs)
torn_burnings_next choice bs into old i b lt is so =
    let long : length (take i bs) ≡ i = length-take i bs ∙ omega (arith, lt) in
    ap (λ (l : List Burning). l ++ torn_burning (slice_get choice i) b ∷ []) so
    ∙ append_assoc old (torn_burnings choice (take i bs)) (torn_burning (slice_get choice i) b ∷ [])
    ∙ ap (λ (l : List Burning). old ++ l)
    (ap (λ n. torn_burnings choice (take i bs) ++ torn_burning (slice_get choice n) b ∷ []) (sym long)
    ∙ sym (torn_burnings-append choice (take i bs) b)
    ∙ ap (λ (l : List Burning). torn_burnings choice l) (ap (λ (x : Burning). take i bs ++ x ∷ []) is ∙ sym (take_more bs i b lt)))

-- a burn of another block changes nothing at this one
not_it : (b : Burning) (i : ℕ) → b.number ≢ i → (b.number == i) ≡ false
not_it b i ne = ne_eqb b.number i ne

tried_other : (bs : List Burning) (b : Burning) (i : ℕ) → b.number ≢ i → tried_block_in i (bs ++ b ∷ []) ≡ tried_block_in i bs
tried_other [] b i ne = ap (λ t. if t then Some b.block else None) (not_it b i ne)
tried_other (a ∷ bs) b i ne = ap (λ (rest : Option (List ℕ)). if a.number == i then Some a.block else rest) (tried_other bs b i ne)

burnt_other : (bs : List Burning) (b : Burning) (i : ℕ) → b.number ≢ i → burnt_in i (bs ++ b ∷ []) ≡ burnt_in i bs
burnt_other [] b i ne = ap (λ t. if b.whole && t then Some b.block else None) (not_it b i ne) ∙ elim b.whole as (λ w. (if w && false then Some b.block else None) ≡ None) [ true ↦ refl | false ↦ refl ]
burnt_other (a ∷ bs) b i ne = ap (λ (rest : Option (List ℕ)). if a.whole && (a.number == i) then Some a.block else rest) (burnt_other bs b i ne)

-- nor does one that isn't whole
burnt_torn : (bs : List Burning) (b : Burning) (i : ℕ) → b.whole ≡ false → burnt_in i (bs ++ b ∷ []) ≡ burnt_in i bs
burnt_torn [] b i torn = ap (λ w. if w && (b.number == i) then Some b.block else None) torn
burnt_torn (a ∷ bs) b i torn = ap (λ (rest : Option (List ℕ)). if a.whole && (a.number == i) then Some a.block else rest) (burnt_torn bs b i torn)

-- a burn of a blank block stands there
burnt_new : (bs : List Burning) (n : ℕ) (block : List ℕ) → is_some (tried_block_in n bs) ≡ false → burnt_in n (bs ++ record { number = n; block = block; whole = true } ∷ []) ≡ Some block
burnt_new [] n block blank = ap (λ t. if t then Some block else None) (eq-eqb n n refl)
burnt_new (b ∷ bs) n block blank =
    let go = elim (b.number == n) as (λ t. is_some (if t then Some b.block else tried_block_in n bs) ≡ false
    → (if b.whole && t then Some b.block else burnt_in n (bs ++ record { number = n; block = block; whole = true } ∷ [])) ≡ Some block) [
      | true ↦ (λ (spent : true ≡ false). cc)
      | false ↦ elim b.whole as (λ w. is_some (tried_block_in n bs) ≡ false
          → (if w && false then Some b.block else burnt_in n (bs ++ record { number = n; block = block; whole = true } ∷ [])) ≡ Some block)
          [ true ↦ (λ rest. burnt_new bs n block rest) | false ↦ (λ rest. burnt_new bs n block rest) ]
    ] in
    go blank

-- and its block is tried
tried_new : (bs : List Burning) (b : Burning) → is_some (tried_block_in b.number (bs ++ b ∷ [])) ≡ true
tried_new [] b = ap (λ t. is_some (if t then Some b.block else None)) (eq-eqb b.number b.number refl)
tried_new (a ∷ bs) b =
    elim (a.number == b.number) as (λ t. is_some (if t then Some a.block else tried_block_in b.number (bs ++ b ∷ [])) ≡ true)
    [ true ↦ refl | false ↦ tried_new bs b ]

-- the state after one burn more
module _ (settled waiting : List Burning) (b : Burning) where
  all : settled ++ (waiting ++ b ∷ []) ≡ (settled ++ waiting) ++ b ∷ []
  all = sym (append_assoc settled waiting (b ∷ []))

  one_only : BurnsOnly b.number (once_state_of settled waiting) (once_state_of settled (waiting ++ b ∷ []))
  one_only = record {
    tried = λ i ne. ap (λ (l : List Burning). is_some (tried_block_in i l)) all ∙ ap is_some (tried_other (settled ++ waiting) b i (λ same. ne (sym same)));
    burnt = λ i ne. ap (λ (l : List Burning). burnt_in i l) all ∙ burnt_other (settled ++ waiting) b i (λ same. ne (sym same));
    settled = refl;
  }

  one_torn : b.whole ≡ false → (i : ℕ) → (once_state_of settled (waiting ++ b ∷ [])).burnt i ≡ (once_state_of settled waiting).burnt i
  one_torn torn i = ap (λ (l : List Burning). burnt_in i l) all ∙ burnt_torn (settled ++ waiting) b i torn

-- no burn
pub none_only : (n : ℕ) (settled waiting : List Burning) → BurnsOnly n (once_state_of settled waiting) (once_state_of settled waiting)
none_only n settled waiting = record { tried = λ i ne. refl; burnt = λ i ne. refl; settled = refl }

-- a burn that succeeded
pub burn_only : (n : ℕ) (block : List ℕ) (settled old new_settled new : List Burning) → new_settled ≡ settled → new ≡ old ++ record { number = n; block = block; whole = true } ∷ []
    → BurnsOnly n (once_state_of settled old) (once_state_of new_settled new)
burn_only n block settled old new_settled new same is =
    subst (λ (s : List Burning). BurnsOnly n (once_state_of settled old) (once_state_of s new)) (sym same)
    (subst (λ (l : List Burning). BurnsOnly n (once_state_of settled old) (once_state_of settled l)) (sym is) (one_only settled old (record { number = n; block = block; whole = true })))

pub burn_done : (n : ℕ) (block : List ℕ) (settled old new_settled new : List Burning) → new_settled ≡ settled → new ≡ old ++ record { number = n; block = block; whole = true } ∷ []
    → is_some (tried_block_in n (settled ++ old)) ≡ false → Burns n block (once_state_of new_settled new)
burn_done n block settled old new_settled new same is blank =
    let b : Burning = record { number = n; block = block; whole = true } in
    let all : new_settled ++ new ≡ (settled ++ old) ++ b ∷ [] = ap (λ (l : List Burning). l ++ new) same ∙ ap (λ (l : List Burning). settled ++ l) is ∙ sym (append_assoc settled old (b ∷ [])) in
    record {
      tried = ap (λ (l : List Burning). is_some (tried_block_in n l)) all ∙ tried_new (settled ++ old) b;
      burnt = ap (λ (l : List Burning). burnt_in n l) all ∙ burnt_new (settled ++ old) n block blank;
    }

-- a burn that failed
pub failed_only : (n : ℕ) (block : List ℕ) (torn : Option Torn) (settled old new_settled new : List Burning) → new_settled ≡ settled → LeavesFailed n block torn old new
    → BurnsOnly n (once_state_of settled old) (once_state_of new_settled new)
failed_only n block None settled old new_settled new same is =
    subst (λ (s : List Burning). BurnsOnly n (once_state_of settled old) (once_state_of s new)) (sym same)
    (subst (λ (l : List Burning). BurnsOnly n (once_state_of settled old) (once_state_of settled l)) (sym is) (none_only n settled old))
failed_only n block (Some torn) settled old new_settled new same is =
    subst (λ (s : List Burning). BurnsOnly n (once_state_of settled old) (once_state_of s new)) (sym same) (⊎_elim
    (λ none. subst (λ (l : List Burning). BurnsOnly n (once_state_of settled old) (once_state_of settled l)) (sym none) (none_only n settled old))
    (λ more. subst (λ (l : List Burning). BurnsOnly n (once_state_of settled old) (once_state_of settled l)) (sym more)
    (one_only settled old (record { number = n; block = torn_block torn block; whole = false })))
    is)

pub failed_unburnt : (n : ℕ) (block : List ℕ) (torn : Option Torn) (settled old new_settled new : List Burning) → new_settled ≡ settled → LeavesFailed n block torn old new
    → (once_state_of new_settled new).burnt n ≡ (once_state_of settled old).burnt n
failed_unburnt n block None settled old new_settled new same is =
    ap (λ (l : List Burning). burnt_in n (l ++ new)) same ∙ ap (λ (l : List Burning). burnt_in n (settled ++ l)) is
failed_unburnt n block (Some torn) settled old new_settled new same is =
    ap (λ (l : List Burning). burnt_in n (l ++ new)) same ∙ ⊎_elim
    (λ none. ap (λ (l : List Burning). burnt_in n (settled ++ l)) none)
    (λ more. ap (λ (l : List Burning). burnt_in n (settled ++ l)) more ∙ one_torn settled old (record { number = n; block = torn_block torn block; whole = false }) refl n)
    is

-- a settle that succeeded
module _ (settled old new_settled new : List Burning) (moved : new_settled ≡ settled ++ old) (none : new ≡ []) where
  all_moved : new_settled ++ new ≡ settled ++ old
  all_moved = ap (λ (l : List Burning). l ++ new) moved ∙ ap (λ (l : List Burning). (settled ++ old) ++ l) none ∙ append-nil (settled ++ old)

  pub settle_only : SettlesOnly (once_state_of settled old) (once_state_of new_settled new)
  settle_only = record {
    tried = λ i. λ n. ap (λ (l : List Burning). is_some (tried_block_in n l)) all_moved i;
    burnt = λ n block is. ap (λ (l : List Burning). burnt_in n l) (sym all_moved) ∙ is;
    settled = λ n block is. ap (λ (l : List Burning). burnt_in n l) moved ∙ burnt_still settled old n block is;
  }

  pub settle_done : (once_state_of new_settled new).settled ≡ (once_state_of settled old).burnt
  settle_done = λ i. λ n. ap (λ (l : List Burning). burnt_in n l) moved i

-- what a crash leaves of burns has the same numbers
torn_number : (torn : Option Torn) (b : Burning) → (torn_burning torn b).number ≡ b.number
torn_number None b = refl
torn_number (Some Old) b = refl
torn_number (Some New) b = refl
torn_number (Some Half) b = refl
torn_number (Some Gate) b = refl
torn_number (Some (Octets octets)) b = refl

tried_left : (torn : Option Torn) (b : Burning) (n : ℕ) (rest other : Option (List ℕ)) → is_some rest ≡ is_some other
    → is_some (if (torn_burning torn b).number == n then Some (torn_burning torn b).block else rest) ≡ is_some (if b.number == n then Some b.block else other)
tried_left torn b n rest other same =
    ap (λ k. is_some (if k == n then Some (torn_burning torn b).block else rest)) (torn_number torn b)
    ∙ elim (b.number == n) as (λ t. is_some (if t then Some (torn_burning torn b).block else rest) ≡ is_some (if t then Some b.block else other)) [ true ↦ refl | false ↦ same ]

tried_torn : (choice : List Torn) (bs : List Burning) (n : ℕ) → is_some (tried_block_in n (torn_burnings choice bs)) ≡ is_some (tried_block_in n bs)
tried_torn [] [] n = refl
tried_torn (torn ∷ choice) [] n = refl
tried_torn [] (b ∷ bs) n = tried_left None b n (tried_block_in n (torn_burnings [] bs)) (tried_block_in n bs) (tried_torn [] bs n)
tried_torn (torn ∷ choice) (b ∷ bs) n = tried_left (Some torn) b n (tried_block_in n (torn_burnings choice bs)) (tried_block_in n bs) (tried_torn choice bs n)

-- burns that are all torn in one way
pub torn_burnings_all : (torn : Torn) (bs : List Burning) → map (torn_burning (Some torn)) bs ≡ all_torn torn bs
torn_burnings_all torn [] = refl
torn_burnings_all torn (b ∷ bs) = ap (λ (l : List Burning). torn_burning (Some torn) b ∷ l) (torn_burnings_all torn bs)

-- the disk that begins again is one that a crash may leave
pub once_allowed : (choice : List Torn) (settled waiting : List Burning) → OnceFound (once_state_of settled waiting) (once_state_of (settled ++ torn_burnings choice waiting) [])
once_allowed choice settled waiting = record {
  tried = λ i. λ n. (ap (λ (l : List Burning). is_some (tried_block_in n l)) (append-nil (settled ++ torn_burnings choice waiting))
      ∙ tried_append n settled (torn_burnings choice waiting)
      ∙ ap (λ t. is_some (tried_block_in n settled) || t) (tried_torn choice waiting n)
      ∙ sym (tried_append n settled waiting)) i;
  settled = λ n block is. burnt_still settled (torn_burnings choice waiting) n block is;
}

-- a settle, whatever it answered
pub settle_same : (settled old new_settled new : List Burning) → new_settled ≡ settled → new ≡ old → SettlesOnly (once_state_of settled old) (once_state_of new_settled new)
settle_same settled old new_settled new same none =
    subst (λ (s : List Burning). SettlesOnly (once_state_of settled old) (once_state_of s new)) (sym same)
    (subst (λ (l : List Burning). SettlesOnly (once_state_of settled old) (once_state_of settled l)) (sym none)
    (record { tried = refl; burnt = λ n block is. is; settled = λ n block is. is }))

-- what a burn that was to fail left
pub kept_failed : (n : ℕ) (block : List ℕ) (failure : Option (Bor Torn)) (fails : Bool) (old new : List Burning) → fails ≡ is_some failure → fails ≡ true
    → new ≡ old ++ burning_kept (option_copied failure) n block ∷ [] → LeavesFailed n block (option_copied failure) old new
kept_failed n block None fails old new is failed same = absurd cc
kept_failed n block (Some torn) fails old new is failed same = inr same

-- what one that wasn't left
pub kept_whole : (n : ℕ) (block : List ℕ) (failure : Option (Bor Torn)) (fails : Bool) → fails ≡ is_some failure → fails ≡ false → burning_kept (option_copied failure) n block ≡ record { number = n; block = block; whole = true }
kept_whole n block None fails is sound = refl
kept_whole n block (Some torn) fails is sound = absurd cc
