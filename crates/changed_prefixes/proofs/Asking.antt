-- Which spots are asked for, by their keys.
use Rattle.std.proofs.Common.{◌≡◌, ℕ, ◌+◌, ◌≤◌, sym, ap, ◌∙◌, subst, arith}
use Rattle.route_model.specs.Keys.{session_number}
use Rattle.route_model.specs.PeerKeys.{first_key, tail}
use Rattle.route_model.specs.Prefix.{IsPrefix}
use Rattle.route_model.proofs.api.PeerKeys.{key_first, key_is}
use Rattle.route_meaning.specs.declared.question.ChangedQuestion.{ChangedQuestion}
use Rattle.route_meaning.specs.declared.question.Spot.{Spot}
use Rattle.route_meaning.specs.Rows.{IsAbove, spot_number}
use Rattle.changed_prefixes.specs.inner.Gathered.{IsAskedFor}

module _ (q : ChangedQuestion) (s : Spot) (key : ℕ) (is : IsPrefix s.prefix) (at : key ≡ spot_number s) where
  first : first_key key ≡ session_number s.peer
  first = ap first_key at ∙ key_first s.peer s.prefix is

  whole : key ≡ session_number s.peer + tail s.prefix
  whole = at ∙ key_is s.peer s.prefix is

  pub asked : (first_key key + tail q.low ≤ key) × (key ≤ first_key key + tail q.high) → IsAbove q.after key → IsAskedFor q s
  asked within above = record {
    low = (let le : first_key key + tail q.low ≤ key = within.0 in omega (arith, first, whole, le));
    high = (let le : key ≤ first_key key + tail q.high = within.1 in omega (arith, first, whole, le));
    above = subst (IsAbove q.after) at above;
  }

  pub within_span : IsAskedFor q s → (first_key key + tail q.low ≤ key) × (key ≤ first_key key + tail q.high)
  within_span h =
      let low : tail q.low ≤ tail s.prefix = h.low in
      let high : tail s.prefix ≤ tail q.high = h.high in
      (omega (arith, first, whole, low), omega (arith, first, whole, high))

  pub above_key : IsAskedFor q s → IsAbove q.after key
  above_key h = subst (IsAbove q.after) (sym at) h.above
