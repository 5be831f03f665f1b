-- Runs of calls, in any order of collectors, and what they release.
use Rattle.std.specs.Prelude.{ℕ, suc, List, [], ◌∷◌, ◌++◌, ◌≡◌, Some, slice_get, if◌then◌else◌, ◌==◌}
use Rattle.route_meaning.specs.Merged.{Placed, placed}
use Rattle.sequencer.specs.declared.late.Sieved.{Sieved}
use Rattle.sequencer.specs.Late.{greatest, timely}
use Rattle.sequencer.specs.Lanes.{Waiting, marks, SameLanes, Raises, Releases}
use Rattle.sequencer.specs.Taking.{IsSieved, TakesIn}

-- a call that did something: of a collector times are sieved, or taken in; its mark is raised; its first time is released
pub data Call : Type 0 where
  Sieve : (collector : ℕ) (times : List ℕ) → Call
  TakeIn : (collector : ℕ) (times : List ℕ) → Call
  Raise : (collector mark : ℕ) → Call
  Release : (collector time : ℕ) → Call

-- the times were sieved at the collector's mark, and what was sieved is taken in
pub record TakesTimes (old : List Waiting) (c : ℕ) (times : List ℕ) (new : List Waiting) : Type 0 where
  pub mark : ℕ
  pub here : slice_get (marks old) c ≡ Some mark
  pub sieved : Sieved
  pub is : IsSieved mark times sieved
  pub taken : TakesIn old c sieved new

-- what a call does, as the clauses of the calls say it
abbrev pub Does : List Waiting → Call → List Waiting → Type 0
Does old (Sieve c times) new = SameLanes old new
Does old (TakeIn c times) new = TakesTimes old c times new
Does old (Raise c mark) new = Raises old c mark new
Does old (Release c time) new = (r : Releases old c new) × (r.time ≡ time)

-- the calls were made one after another
abbrev pub Runs : List Call → List Waiting → List Waiting → Type 0
Runs [] old new = new ≡ old
Runs (call ∷ calls) old new = (between : List Waiting) × Does old call between × Runs calls between new

-- the mark of the collector c after a call, given its mark before
abbrev pub mark_after : ℕ → ℕ → Call → ℕ
mark_after c mark (Sieve d times) = mark
mark_after c mark (TakeIn d times) = if d == c then greatest mark times else mark
mark_after c mark (Raise d raised) = if d == c then raised else mark
mark_after c mark (Release d time) = mark

-- what a call takes in of the collector c, at its mark
abbrev pub taken_in : ℕ → ℕ → Call → List ℕ
taken_in c mark (Sieve d times) = []
taken_in c mark (TakeIn d times) = if d == c then timely (λ t. t) mark [] times else []
taken_in c mark (Raise d raised) = []
taken_in c mark (Release d time) = []

-- what the calls take in of the collector c, whose mark is this before them: the calls of other collectors don't count
abbrev pub taken_of : ℕ → ℕ → List Call → List ℕ
taken_of c mark [] = []
taken_of c mark (call ∷ calls) = taken_in c mark call ++ taken_of c (mark_after c mark call) calls

-- of each collector, of which the first has the number c: what waits before the calls, and then what they take in of it
abbrev pub all_taken : ℕ → List Call → List Waiting → List (List ℕ)
all_taken c calls [] = []
all_taken c calls (w ∷ ws) = (w.times ++ taken_of c w.mark calls) ∷ all_taken (suc c) calls ws

-- what the calls release, in their order
abbrev pub released_by : List Call → List (Placed ℕ)
released_by [] = []
released_by (Sieve d times ∷ calls) = released_by calls
released_by (TakeIn d times ∷ calls) = released_by calls
released_by (Raise d raised ∷ calls) = released_by calls
released_by (Release d time ∷ calls) = placed d time ∷ released_by calls
