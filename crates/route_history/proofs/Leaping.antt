-- Leaps over keys that a question doesn't ask for.
use Rattle.std.proofs.Common.{◌≡◌, ℕ, suc, ◌<◌, ◌≤◌, ◌+◌, ◌-◌, ◌*◌, List, [], ◌∷◌, length, Some, None, Option, refl, sym, ap, ◌∙◌, inl, inr, arith, subst}
use Rattle.std.proofs.lemmas.Bool.{cases_lt, lt-ltb, le-ltb}
use Rattle.route_model.specs.declared.peer.Peer.{Peer}
use Rattle.route_model.specs.Prefix.{IpPrefix, IsPrefix, cleared, cleared_address}
use Rattle.route_model.specs.Address.{octets}
use Rattle.route_model.specs.declared.address.Address.{Address}
use Rattle.route_model.specs.declared.address.Address.TheVariants.{V4, V6}
use Rattle.route_model.specs.Encoding.{IsPeer}
use Rattle.route_model.specs.Keys.{key_number, session_number}
use Rattle.route_model.proofs.api.Keys.{session_below}
use Rattle.route_meaning.specs.declared.question.Spot.{Spot}
use Rattle.route_meaning.specs.declared.question.RowsQuestion.{RowsQuestion}
use Rattle.route_meaning.specs.Rows.{Covers, Selects, IsAbove, spot_number}
use Rattle.route_model.specs.PeerKeys.{peer_span, first_key, last_key, tail}
use Rattle.route_history.specs.Walks.{RowlessFrom, LeapsTo, Leaps, containing, candidate, IsLeast, least_or}
use Rattle.route_model.proofs.api.PeerKeys.{session_first, key_first, key_is, tail_fits}
use Rattle.route_history.proofs.Taking.{first_low, first_between, first_next}

pub first_within : (n m : ℕ) → first_key n ≤ m → m < first_key n + peer_span → first_key m ≡ first_key n
first_within n m low high = omega arith

pub first_twice : (n : ℕ) → first_key (first_key n) ≡ first_key n
first_twice n = omega arith

pub first_after : (n : ℕ) → first_key (first_key n + peer_span) ≡ first_key n + peer_span
first_after n = omega arith

module _ (q : RowsQuestion) where
  pub stays : (at : ℕ) → LeapsTo q at at
  stays at = (
    omega arith,
    λ p x hp hx selected above low high. absurd (omega (arith, low, high)),
    elim (cases_lt (first_key at) at) [
      | inl lt ↦ inr (refl, lt)
      | inr ge ↦ inl (let le = first_low at in omega arith)
    ],
  )

  pub joins : (a b c : ℕ) → LeapsTo q a b → LeapsTo q b c → LeapsTo q a c
  joins a b c f g = (
    (let x : a ≤ b = f.0 in let y : b ≤ c = g.0 in omega arith),
    λ p x hp hx selected above low high. elim (cases_lt (key_number p x) b) [
      | inl lt ↦ f.1 p x hp hx selected above low lt
      | inr ge ↦ g.1 p x hp hx selected above ge high
    ],
    elim g.2 [
      | inl is ↦ inl is
      | inr same ↦ elim f.2 [
        | inl is ↦ absurd (let lt : first_key b < b = same.1 in omega (arith, lt, is))
        | inr before ↦ inr (same.0 ∙ before.0, before.1)
      ]
    ],
  )

  pub joins_none : (a b : ℕ) → LeapsTo q a b → RowlessFrom q b → RowlessFrom q a
  joins_none a b f g p x hp hx selected above low = elim (cases_lt (key_number p x) b) [
    | inl lt ↦ f.1 p x hp hx selected above low lt
    | inr ge ↦ g p x hp hx selected above ge
  ]

  pub joins_leap : (a b : ℕ) (to : Option ℕ) → LeapsTo q a b → Leaps q b to → Leaps q a to
  joins_leap a b None f g = joins_none a b f g
  joins_leap a b (Some c) f g = joins a b c f g

  -- past the spot after which rows are asked for
  pub after_spot : (spot : Spot) (at : ℕ) → q.after ≡ Some spot → first_key (spot_number spot) < at → at ≤ spot_number spot → LeapsTo q at (suc (spot_number spot))
  after_spot spot at e low high = (
    omega arith,
    λ p x hp hx selected above from below. (let above' : spot_number spot < key_number p x = subst (λ (o : Option Spot). IsAbove o (key_number p x)) e above in absurd (omega (arith, above', below))),
    elim (cases_lt (first_key (suc (spot_number spot))) (suc (spot_number spot))) [
      | inl lt ↦ (let same : first_key at ≡ first_key (spot_number spot) = first_between at (spot_number spot) low high in inr (first_next (spot_number spot) lt ∙ sym same, omega (arith, same, low)))
      | inr ge ↦ inl (let le = first_low (suc (spot_number spot)) in omega arith)
    ],
  )

  -- to the session of the only peer that is asked for
  pub to_session : (peer : Peer) (at : ℕ) → ((p : Peer) (x : IpPrefix) → Selects q.select p x → p ≡ peer) → at ≤ session_number peer → LeapsTo q at (session_number peer)
  to_session peer at only le = (
    le,
    λ p x hp hx selected above from below. (
        let lt : session_number p < key_number p x = session_below p x hp hx in
        let same : session_number p ≡ session_number peer = ap session_number (only p x selected) in
        absurd (omega (arith, lt, same, below))),
    inl (session_first peer),
  )

  -- past all keys of that peer
  pub after_peer : (peer : Peer) (at : ℕ) → ((p : Peer) (x : IpPrefix) → Selects q.select p x → p ≡ peer) → last_key (session_number peer) < at → RowlessFrom q at
  after_peer peer at only lt p x hp hx selected above from =
      let is = key_is p x hx in
      let fits = tail_fits x hx in
      let same : session_number p ≡ session_number peer = ap session_number (only p x selected) in
      let first = session_first peer in
      absurd (omega (arith, is, fits, same, first, lt, from))

  -- to the only spot that is asked for
  pub to_spot : (peer : Peer) (prefix : IpPrefix) (at : ℕ) → IsPeer peer → IsPrefix prefix → ((p : Peer) (x : IpPrefix) → Selects q.select p x → (p ≡ peer) × (x ≡ prefix)) → session_number peer < at → at ≤ key_number peer prefix → LeapsTo q at (key_number peer prefix)
  to_spot peer prefix at hp hx only low high =
      let first : first_key (key_number peer prefix) ≡ session_number peer = key_first peer prefix hx in
      let same : first_key at ≡ first_key (key_number peer prefix) = first_between at (key_number peer prefix) (omega (arith, first, low)) high in (
        high,
        λ p x hp' hx' selected above from below. (
            let e = only p x selected in
            let is : key_number p x ≡ key_number peer prefix = λ i. key_number (e.0 i) (e.1 i) in
            absurd (omega (arith, is, below))),
        inr (sym same, omega (arith, same, first, low)),
      )

  pub after_only : (peer : Peer) (prefix : IpPrefix) (at : ℕ) → ((p : Peer) (x : IpPrefix) → Selects q.select p x → (p ≡ peer) × (x ≡ prefix)) → key_number peer prefix < at → RowlessFrom q at
  after_only peer prefix at only lt p x hp hx selected above from =
      let e = only p x selected in
      let is : key_number p x ≡ key_number peer prefix = λ i. key_number (e.0 i) (e.1 i) in
      absurd (omega (arith, is, lt, from))

  -- a row for the only prefix that is asked for, among the keys of one peer
  pub prefix_row : (prefix : IpPrefix) (first : ℕ) (p : Peer) (x : IpPrefix) → IsPrefix x → x ≡ prefix → first_key first ≡ first → first ≤ key_number p x → key_number p x < first + peer_span → key_number p x ≡ first + tail prefix
  prefix_row prefix first p x hx e is low high =
      let key = key_is p x hx in
      let own : first_key (key_number p x) ≡ session_number p = key_first p x hx in
      let within : first_key (key_number p x) ≡ first_key first = first_within first (key_number p x) (omega (arith, is, low)) (omega (arith, is, high)) in
      let same : tail x ≡ tail prefix = ap tail e in
      omega (arith, key, own, within, is, same)

  pub to_prefix : (prefix : IpPrefix) (first at : ℕ) → IsPrefix prefix → ((p : Peer) (x : IpPrefix) → Selects q.select p x → x ≡ prefix) → first ≡ first_key at → first_key at < at → at ≤ first + tail prefix → LeapsTo q at (first + tail prefix)
  to_prefix prefix first at hx only is low high =
      let fits = tail_fits prefix hx in
      let twice : first_key first ≡ first = ap first_key is ∙ first_twice at ∙ sym is in (
        high,
        λ p x hp' hx' selected above from below. (
            let e = prefix_row prefix first p x hx' (only p x selected) twice (omega (arith, is, low, from)) (omega (arith, below, fits)) in
            absurd (omega (arith, e, below))),
        inr (first_within first (first + tail prefix) (omega (arith, twice)) (omega (arith, twice, fits)) ∙ (twice ∙ is), low),
      )

  pub next_peer : (prefix : IpPrefix) (first at : ℕ) → ((p : Peer) (x : IpPrefix) → Selects q.select p x → x ≡ prefix) → first ≡ first_key at → first + tail prefix < at → at ≤ first + peer_span → LeapsTo q at (first + peer_span)
  next_peer prefix first at only is passed high =
      let twice : first_key first ≡ first = ap first_key is ∙ first_twice at ∙ sym is in (
        high,
        λ p x hp' hx' selected above from below. (
            let e = prefix_row prefix first p x hx' (only p x selected) twice (omega (arith, passed, from)) below in
            absurd (omega (arith, e, passed, from))),
        inl (ap first_key (let h : first + peer_span ≡ first_key at + peer_span = omega (arith, is) in h) ∙ first_after at ∙ omega (arith, is)),
      )

pub first_is : (at first : ℕ) → first ≡ first_key at → first_key first ≡ first
first_is at first is = ap first_key is ∙ first_twice at ∙ sym is

pub last_is : (first : ℕ) → first_key first ≡ first → suc (last_key first) ≡ first + peer_span
last_is first is = omega (arith, is)

-- ---- prefixes that contain an address

pub least_none : (at first : ℕ) (address : Address) → IsLeast at first address 0 None
least_none at first address length lt = absurd (omega (arith, lt))

-- one more length, whose key is passed
pub least_passed : (at first n : ℕ) (address : Address) (least : Option ℕ) → candidate first address n < at → IsLeast at first address n least → IsLeast at first address (suc n) least
least_passed at first n address None lt l = λ length below. elim (cases_lt length n) [
  | inl before ↦ l length before
  | inr there ↦ (let e : length ≡ n = omega (arith, below, there) in subst (λ (k : ℕ). candidate first address k < at) (sym e) lt)
]
least_passed at first n address (Some key) lt l = (
  l.0,
  l.1,
  λ length below. elim (cases_lt length n) [
    | inl before ↦ l.2 length before
    | inr there ↦ (let e : length ≡ n = omega (arith, below, there) in inl (subst (λ (k : ℕ). candidate first address k < at) (sym e) lt))
  ],
)

-- one more length, whose key isn't passed
pub least_found : (at first n : ℕ) (address : Address) (least : Option ℕ) → IsPrefix (containing address n) → at ≤ candidate first address n → IsLeast at first address n least → IsLeast at first address (suc n) (Some (least_or (candidate first address n) least))
least_found at first n address None is le l = (
  le,
  (n, is, refl),
  λ length below. elim (cases_lt length n) [
    | inl before ↦ inl (l length before)
    | inr there ↦ (let e : length ≡ n = omega (arith, below, there) in inr (subst (λ (k : ℕ). candidate first address n ≤ candidate first address k) (sym e) (omega arith)))
  ],
)
least_found at first n address (Some key) is le l = elim (cases_lt (candidate first address n) key) [
  | inl lower ↦ rw (lt-ltb (candidate first address n) key lower) (
    le,
    (n, is, refl),
    λ length below. elim (cases_lt length n) [
      | inl before ↦ elim (l.2 length before) [ inl passed ↦ inl passed | inr higher ↦ inr (omega (arith, lower, higher)) ]
      | inr there ↦ (let e : length ≡ n = omega (arith, below, there) in inr (subst (λ (k : ℕ). candidate first address n ≤ candidate first address k) (sym e) (omega arith)))
    ],
  )
  | inr not_lower ↦ rw (le-ltb (candidate first address n) key not_lower) (
    l.0,
    l.1,
    λ length below. elim (cases_lt length n) [
      | inl before ↦ l.2 length before
      | inr there ↦ (let e : length ≡ n = omega (arith, below, there) in inr (subst (λ (k : ℕ). key ≤ candidate first address k) (sym e) not_lower))
    ],
  )
]

module _ (q : RowsQuestion) (address : Address) (only : (p : Peer) (x : IpPrefix) → Selects q.select p x → Covers x address) where
  -- a row's prefix is one of those that contain the address
  is_candidate : (first : ℕ) (p : Peer) (x : IpPrefix) → IsPrefix x → Selects q.select p x → first_key first ≡ first → first ≤ key_number p x → key_number p x < first + peer_span → (x.length < 1 + 8 * length (octets address)) × (key_number p x ≡ candidate first address x.length)
  is_candidate first p x hx selected is low high =
      let c = only p x selected in
      let same : x ≡ containing address x.length = λ i. record { address = sym c.1 i; length = x.length } in
      let width : length (octets x.address) ≡ length (octets address) = same_octets address x c.1 in
      let fits : x.length ≤ 8 * length (octets x.address) = hx.length in
      (omega (arith, fits, width), prefix_row q (containing address x.length) first p x hx same is low high)
    where
      cleared_length : (n : ℕ) (os : List ℕ) → length (cleared n os) ≡ length os
      cleared_length n [] = refl
      cleared_length n (o ∷ os) = ap (λ (k : ℕ). suc k) (cleared_length (n - 8) os)

      cleared_width : (n : ℕ) (a : Address) → length (octets (cleared_address n a)) ≡ length (octets a)
      cleared_width n (V4 o) = cleared_length n o
      cleared_width n (V6 o) = cleared_length n o

      same_octets : (a : Address) (y : IpPrefix) → cleared_address y.length a ≡ y.address → length (octets y.address) ≡ length (octets a)
      same_octets a y e = ap (λ (b : Address). length (octets b)) (sym e) ∙ cleared_width y.length a

  pub to_candidate : (first at key : ℕ) → first ≡ first_key at → first_key at < at → IsLeast at first address (1 + 8 * length (octets address)) (Some key) → LeapsTo q at key
  to_candidate first at key is low l =
      let twice : first_key first ≡ first = ap first_key is ∙ first_twice at ∙ sym is in
      let there = l.1 in
      let fits = tail_fits (containing address there.0) there.1 in
      let key_low : first ≤ key = omega (arith, there.2) in
      let key_high : key < first + peer_span = omega (arith, there.2, fits) in (
        l.0,
        λ p x hp hx selected above from below. (
            let c = is_candidate first p x hx selected twice (omega (arith, is, low, from)) (omega (arith, below, key_high)) in
            elim (l.2 x.length c.0) [
              | inl passed ↦ absurd (omega (arith, c.1, passed, from))
              | inr higher ↦ absurd (omega (arith, c.1, higher, below))
            ]),
        inr (first_within first key (omega (arith, twice, key_low)) (omega (arith, twice, key_high)) ∙ (twice ∙ is), low),
      )

  pub no_candidate : (first at : ℕ) → first ≡ first_key at → first_key at < at → at ≤ first + peer_span → IsLeast at first address (1 + 8 * length (octets address)) None → LeapsTo q at (first + peer_span)
  no_candidate first at is low high l =
      let twice : first_key first ≡ first = ap first_key is ∙ first_twice at ∙ sym is in (
        high,
        λ p x hp hx selected above from below. (
            let c = is_candidate first p x hx selected twice (omega (arith, is, low, from)) below in
            let passed = l x.length c.0 in
            absurd (omega (arith, c.1, passed, from))),
        inl (ap first_key (let h : first + peer_span ≡ first_key at + peer_span = omega (arith, is) in h) ∙ first_after at ∙ omega (arith, is)),
      )
