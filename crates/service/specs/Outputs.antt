-- What is written to a writer of lines, and read from a reader of octets.
use Rattle.std.specs.Prelude.{◌≡◌, ℕ, Bool, true, false, List, [], ◌++◌, Option}
use Rattle.std.specs.Io.KnownBytes.{Appends}

-- a writer of lines: what it has, if that is known, and whether a write failed
pub record OutputState : Type 0 where
  pub held : Option (List ℕ)
  pub failed : Bool

-- a reader of octets: what it will give, if that is known, and whether a read failed
pub record InputState : Type 0 where
  pub left : Option (List ℕ)
  pub failed : Bool

-- The text was written; if a write failed, a front of it; after a write that failed before, nothing.
pub record Reports (was now : OutputState) (text : List ℕ) : Type 0 where
  pub front : List ℕ
  pub rest : List ℕ
  pub parts : text ≡ front ++ rest
  pub wrote : Appends was.held now.held front
  pub whole : now.failed ≡ false → rest ≡ []
  pub stays : was.failed ≡ true → (now.failed ≡ true) × (front ≡ [])
