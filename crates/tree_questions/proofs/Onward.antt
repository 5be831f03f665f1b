-- Walks that don't go back.
use Rattle.std.proofs.Common.{◌≡◌, ℕ, suc, ◌<◌, ◌≤◌, List, Option, Some, None, Result, Ok, Err, OnOk, OnErr, IfSome, arith, subst, sym}
use Rattle.version_model.specs.Versions.{Version, Found}
use Rattle.version_model.specs.Looks.{IsReached, NoneWithin, At as ReachAt}
use Rattle.tsb_walk.specs.Answers.{reached_as}
use Rattle.tsb_walk.specs.Looked.{GoesOnFrom}
use Rattle.tsb_walk.specs.declared.looks.Reached.{Reached}
use Rattle.tsb_walk.specs.declared.looks.Reached.TheVariants.{At, Past, End}
use Rattle.route_history.specs.Walks.{Rose, NotBack}
use Rattle.tree_questions.specs.inner.Taking.{IsOnward, IsFrom}

pub onward_over : (o p : Option ℕ) → p ≡ None → IsOnward o p
onward_over None p e = subst (IsOnward None) (sym e) tt
onward_over (Some a) p e = subst (IsOnward (Some a)) (sym e) tt

pub onward_back : (o p : Option ℕ) → NotBack o p → IsOnward o p
onward_back None p n = absurd n
onward_back (Some a) None n = tt
onward_back (Some a) (Some b) n = n

pub onward_on : (o p q : Option ℕ) → IsOnward o p → IsOnward p q → IsOnward o q
onward_on None None q a b = b
onward_on None (Some n) q a b = absurd a
onward_on (Some m) None None a b = tt
onward_on (Some m) None (Some l) a b = absurd b
onward_on (Some m) (Some n) None a b = tt
onward_on (Some m) (Some n) (Some l) a b = let le : m ≤ n = a in let le' : n ≤ l = b in omega (arith, le, le')

pub onward_rose : (o p : Option ℕ) → Rose o p → IsOnward o p
onward_rose None p r = absurd r
onward_rose (Some a) None r = tt
onward_rose (Some a) (Some b) r = let lt : a < b = r in omega (arith, lt)

-- further, and then not back
pub rose_onward : (o p q : Option ℕ) → Rose o p → IsOnward p q → Rose o q
rose_onward None p q r on = absurd r
rose_onward (Some a) None None r on = tt
rose_onward (Some a) None (Some c) r on = absurd on
rose_onward (Some a) (Some b) None r on = tt
rose_onward (Some a) (Some b) (Some c) r on = let lt : a < b = r in let le : b ≤ c = on in omega (arith, lt, le)

-- a key where a walk stands that came from this one isn't below it
pub represents_above : (from at : ℕ) (o : Option ℕ) → IsOnward (Some from) o → NotBack o (Some at) → from ≤ at
represents_above from at None on back = absurd back
represents_above from at (Some n) on back = let le : from ≤ n = on in let le' : n ≤ at = back in omega (arith, le, le')

-- the key from which the run goes on isn't above where the walk stands
pub from_below : (from : ℕ) (last front : Option ℕ) (at : ℕ) → IsFrom from last front → NotBack front (Some at) → IfSome last (λ l. l < at) → from ≤ at
from_below from None front at is back above = represents_above from at front is back
from_below from (Some l) front at is back above = let lt : l < at = above in let e : from ≡ suc l = is in omega (arith, e, lt)

-- what is reached from a key on goes on from it
pub reached_goes_on : (all : List Version) (s from : ℕ) (reached : Reached) → IsReached all s from (reached_as reached) → GoesOnFrom from reached
reached_goes_on all s from (At key found) r = r.0
reached_goes_on all s from (Past high) r = r.0
reached_goes_on all s from End r = tt

-- what is so of a key that has a value from one on is so from a higher one on that isn't above it
pub reached_from : (all : List Version) (s from at key : ℕ) (found : Found) → from ≤ at → at ≤ key → IsReached all s from (ReachAt key found) → IsReached all s at (ReachAt key found)
reached_from all s from at key found up below r = (below, r.1, λ k low high. r.2 k (omega (arith, up, low)) high)

pub none_from : (all : List Version) (s from at to : ℕ) → from ≤ at → NoneWithin all s from to → NoneWithin all s at to
none_from all s from at to up none = λ k low high. none k (omega (arith, up, low)) high

-- either way it is so
pub either_way : {V E : Type 0} (r : Result V E) (P Q : Type 0) → (Q → P) → OnOk r P → OnErr r Q → P
either_way (Ok v) P Q f ok err = ok
either_way (Err e) P Q f ok err = f err

pub ok_weaker : {V E : Type 0} (r : Result V E) (P Q : Type 0) → (P → Q) → OnOk r P → OnOk r Q
ok_weaker (Ok v) P Q f ok = f ok
ok_weaker (Err e) P Q f ok = tt
