-- Leaps over keys of prefixes that a question of changes doesn't ask for.
use Rattle.std.proofs.Common.{◌≡◌, ℕ, suc, ◌<◌, ◌≤◌, ◌+◌, ◌-◌, ◌^◌, ◌↔◌, Option, Some, None, IfSome, IsTrue, Bool, true, false, refl, sym, ap, ◌∙◌, inl, inr, arith, subst}
use Rattle.std.proofs.lemmas.Bool.{cases_lt, false≢true}
use Rattle.route_model.specs.declared.peer.Peer.{Peer}
use Rattle.route_model.specs.Encoding.{IsPeer}
use Rattle.route_model.specs.Keys.{key_number, session_number}
use Rattle.route_model.specs.PeerKeys.{peer_span, first_key, last_key, tail}
use Rattle.route_model.specs.Prefix.{IpPrefix, IsPrefix}
use Rattle.route_model.proofs.api.PeerKeys.{key_first, key_is, tail_fits}
use Rattle.route_meaning.specs.declared.question.ChangedQuestion.{ChangedQuestion}
use Rattle.route_meaning.specs.declared.question.Spot.{Spot}
use Rattle.route_meaning.specs.Rows.{IsAbove, spot_number}
use Rattle.route_history.specs.Changes.{BeginsAfter, IsAskedFor, LeapsOver, SkipsNone}
use Rattle.route_history.proofs.KeyEnds.{key_below}
use Rattle.route_history.proofs.Leaping.{first_within, first_twice, first_after}
use Rattle.route_history.proofs.Taking.{first_low}

-- a prefix's key among the keys of one peer
pub key_within : (key : ℕ) (p : Peer) (x : IpPrefix) → IsPrefix x → first_key key ≤ key_number p x → key_number p x < first_key key + peer_span → key_number p x ≡ first_key key + tail x
key_within key p x hx low high =
    let is = key_is p x hx in
    let own : first_key (key_number p x) ≡ session_number p = key_first p x hx in
    let within : first_key (key_number p x) ≡ first_key key = first_within key (key_number p x) low high in
    omega (arith, is, own, within)

-- is a key's prefix asked for?
pub asked_within : (q : ChangedQuestion) (key low high : ℕ) (p : Peer) (x : IpPrefix) → IsPrefix x → key_number p x ≡ key → low ≡ first_key key + tail q.low → high ≡ first_key key + tail q.high → ((low ≤ key) × (key ≤ high)) ↔ IsAskedFor q x
asked_within q key low high p x hx e is_low is_high =
    let is = key_is p x hx in
    let own : first_key key ≡ session_number p = ap first_key (sym e) ∙ key_first p x hx in (
      λ h. ((let a : low ≤ key = h.0 in omega (arith, a, is, own, e, is_low)), (let b : key ≤ high = h.1 in omega (arith, b, is, own, e, is_high))),
      λ h. ((let a : tail q.low ≤ tail x = h.0 in omega (arith, a, is, own, e, is_low)), (let b : tail x ≤ tail q.high = h.1 in omega (arith, b, is, own, e, is_high))),
    )

module _ (q : ChangedQuestion) (hlow : IsPrefix q.low) where
  -- none is asked for before the first prefix of a peer
  pub before_low : (key : ℕ) (p : Peer) (x : IpPrefix) → IsPrefix x → IsAskedFor q x → key ≤ key_number p x → key_number p x < first_key key + tail q.low → ⊥
  before_low key p x hx asked low high =
      let first = first_low key in
      let fits = tail_fits q.low hlow in
      let at = key_within key p x hx (omega (arith, first, low)) (omega (arith, high, fits)) in
      let a : tail q.low ≤ tail x = asked.0 in
      absurd (omega (arith, at, a, high))

  pub to_low : (key low : ℕ) → low ≡ first_key key + tail q.low → key ≤ low → LeapsOver q key (Some low)
  to_low key low is le = (le, λ p x hp hx asked from below. before_low key p x hx asked from (omega (arith, is, below)))

  -- none is asked for after the last prefix of a peer, up to the first key of the next one
  pub after_high : (key : ℕ) (p : Peer) (x : IpPrefix) → IsPrefix x → IsAskedFor q x → first_key key + tail q.high < key → key ≤ key_number p x → key_number p x < first_key key + peer_span → ⊥
  after_high key p x hx asked past low high =
      let first = first_low key in
      let at = key_within key p x hx (omega (arith, first, low)) high in
      let a : tail x ≤ tail q.high = asked.1 in
      absurd (omega (arith, at, a, past, low))

  pub no_next : (key last : ℕ) → last ≡ last_key key → suc last ≡ 2 ^ 320 → first_key key + tail q.high < key → LeapsOver q key None
  no_next key last is end past p x hp hx asked low =
      let below = key_below p x hp hx in
      after_high key p x hx asked past low (omega (arith, is, end, below))

  pub to_next : (key last next low : ℕ) → last ≡ last_key key → next ≡ suc last → low ≡ first_key next + tail q.low → key ≤ first_key key + peer_span → first_key key + tail q.high < key → LeapsOver q key (Some low)
  to_next key last next low is_last is_next is_low within past =
      let at : next ≡ first_key key + peer_span = omega (arith, is_last, is_next) in
      let first : first_key next ≡ next = ap first_key at ∙ first_after key ∙ sym at in (
        omega (arith, is_low, first, at, within),
        λ p x hp hx asked from below. elim (cases_lt (key_number p x) next) [
          | inl lt ↦ after_high key p x hx asked past from (omega (arith, lt, at))
          | inr ge ↦ before_low next p x hx asked ge (omega (arith, is_low, below))
        ],
      )

pub first_high : (key : ℕ) → key ≤ first_key key + peer_span
first_high key = omega arith

-- all keys after a spot's
pub after_next : (spot : Spot) (key : ℕ) (next : Option ℕ) → key ≡ spot_number spot → IfSome next (λ n. n ≡ suc key) → (next ≡ None → suc key ≡ 2 ^ 320) → BeginsAfter (Some spot) next
after_next spot key None is some none = λ p x hp hx above. (
    let below = key_below p x hp hx in
    let end : suc key ≡ 2 ^ 320 = none refl in
    let lt : spot_number spot < key_number p x = above in
    absurd (omega (arith, below, end, lt, is)))
after_next spot key (Some next) is some none = λ n below above. (
    let e : next ≡ suc key = some in
    let lt : spot_number spot < n = above in
    absurd (omega (arith, e, lt, is, below)))

pub not_upto : (key other : ℕ) (b : Bool) → (IsTrue b ↔ (key ≤ other)) → b ≡ false → other < key
not_upto key other b decides e = elim (cases_lt other key) [
  | inl lt ↦ lt
  | inr ge ↦ absurd (false≢true (sym e ∙ decides.1 ge))
]

pub none_before : (at : ℕ) → at ≡ 0 → BeginsAfter None (Some at)
none_before at e n below above = absurd (omega (arith, e, below))
