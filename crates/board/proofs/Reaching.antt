-- One past begins another.
use Rattle.std.proofs.Common.{◌≡◌, ℕ, zero, suc, ◌≤◌, List, [], ◌∷◌, length, Option, None, Some, ap, arith, inl, inr, le_refl, zero-le, length-append}
use Rattle.std.specs.List.{AllZip, slice_get}
use Rattle.std.proofs.lemmas.Bool.{cases_lt}
use Rattle.route_meaning.specs.History.{Intake, History, IsHistory, GoesOn, Begins, settled, floor}
use Rattle.route_meaning.proofs.api.Beginning.{Begins-refl, Begins-trans}
use Rattle.route_meaning.proofs.api.Front.{settled_stays}
use Rattle.board.specs.Past.{Past, GoesOnAs, count_in, reach}
use Rattle.board.specs.inner.Rule.{IsThere, IsRight, Starts, most, past_or}

goes_on_refl : (p : Past) → IsHistory p.history → GoesOnAs p p
goes_on_refl p right = record { right = right; begins = Begins-refl p.history; blocks = λ n octets is. is }

pub goes_on_trans : (p q r : Past) → GoesOnAs p q → GoesOnAs q r → GoesOnAs p r
goes_on_trans p q r a b = record { right = a.right; begins = Begins-trans p.history q.history r.history a.begins b.begins; blocks = λ n octets is. b.blocks n octets (a.blocks n octets is) }

counts_rise : (is js : List Intake) → AllZip (λ i j. GoesOn (floor i) i j) is js → (c : ℕ) → count_in (slice_get is c) ≤ count_in (slice_get js c)
counts_rise [] [] a c = le_refl _
counts_rise [] (j ∷ js) a c = absurd a
counts_rise (i ∷ is) [] a c = absurd a
counts_rise (i ∷ is) (j ∷ js) a zero = let g = a.0 in let l = ap length g.begins in let m = length-append i.admitted g.more in omega arith
counts_rise (i ∷ is) (j ∷ js) a (suc c) = counts_rise is js a.1 c

settled_rises : (h g : History) → IsHistory h → Begins h g → settled h ≤ settled g
settled_rises h g right b = elim (cases_lt (settled g) (settled h)) [
  | inl lt ↦ let later = settled_stays h g (settled g) right b lt in absurd (omega arith)
  | inr ge ↦ ge
]

pub reach_rises : (p q : Past) → GoesOnAs p q → (i : ℕ) → reach p.history i ≤ reach q.history i
reach_rises p q g zero = settled_rises p.history q.history g.right g.begins
reach_rises p q g (suc c) = counts_rise p.history.intakes q.history.intakes g.begins.each c

pub starts_self : (x : Option Past) → IsRight x → Starts x x
starts_self None right = tt
starts_self (Some p) right = goes_on_refl p right

pub starts_none : (x : Option Past) → Starts None x
starts_none x = tt

pub starts_then : (x y z : Option Past) → Starts x y → Starts y z → Starts x z
starts_then None y z a b = tt
starts_then (Some p) None z a b = absurd a
starts_then (Some p) (Some q) None a b = absurd b
starts_then (Some p) (Some q) (Some r) a b = goes_on_trans p q r a b

pub most_rises : (x y : Option Past) → Starts x y → (i : ℕ) → most x i ≤ most y i
most_rises None y s i = zero-le
most_rises (Some p) None s i = absurd s
most_rises (Some p) (Some q) s i = reach_rises p q s i

-- the same of one that is known
pub most_there : (x : Option Past) → IsThere x → (i : ℕ) → most x i ≡ reach (past_or x).history i
most_there None there i = absurd there
most_there (Some p) there i = λ _. reach p.history i

pub starts_there : (x y : Option Past) → IsThere x → Starts x y → GoesOnAs (past_or x) (past_or y)
starts_there None y there s = absurd there
starts_there (Some p) None there s = absurd s
starts_there (Some p) (Some q) there s = s

pub starts_from : (x : Option Past) (q : Past) → IsThere x → GoesOnAs (past_or x) q → Starts x (Some q)
starts_from None q there g = absurd there
starts_from (Some p) q there g = g
