-- Which keys have a version in a span of stamps.
use Rattle.std.specs.Prelude.{◌≡◌, ℕ, suc, ◌<◌, ◌≤◌, List, [], ◌∷◌}
use Rattle.version_model.specs.Versions.{Version, Has}

-- the key has a version from the stamp `first` on and before `end`
pub record HasWithin (versions : List Version) (key first end : ℕ) : Type 0 where
  pub version : Version
  pub has : Has versions version
  pub of_key : version.key ≡ key
  pub from : first ≤ version.stamp
  pub before : version.stamp < end

-- no key from `from` on and below `to` has such a version
abbrev pub NoneTouched : List Version → ℕ → ℕ → ℕ → ℕ → Type 0
NoneTouched versions first end from to = (key : ℕ) → from ≤ key → key < to → HasWithin versions key first end → ⊥

-- exactly the keys from `from` on and below `to` that have such a version, in their order
abbrev pub AreTouched : List Version → ℕ → ℕ → ℕ → ℕ → List ℕ → Type 0
AreTouched versions first end from to [] = NoneTouched versions first end from to
AreTouched versions first end from to (key ∷ keys) = (from ≤ key) × (key < to) × HasWithin versions key first end × NoneTouched versions first end from key × AreTouched versions first end (suc key) to keys
