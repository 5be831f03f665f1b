-- The route that holds is the one that a replay of the changes keeps; so at most one holds.
use Rattle.std.proofs.Common.{◌≡◌, ℕ, ◌⊎◌, ◌&&◌, inl, inr, List, [], ◌∷◌, ◌++◌, Bool, true, false, eqb, Some, None, Option, refl, sym, ap, ◌∙◌, subst}
use Rattle.std.specs.List.{AllByRecursion}
use Rattle.std.specs.Str.{bytes_eq}
use Rattle.std.proofs.lemmas.Bool.{cases_Bool, false≢true, eqb-true, eq-eqb}
use Rattle.std.proofs.lemmas.Slice.Eq.{bytes_eq-Decides}
use Rattle.std.proofs.lemmas.Option.{same_Some, none-some}
use Rattle.route_model.specs.declared.address.Address.{Address}
use Rattle.route_model.specs.declared.address.Address.TheVariants.{V4, V6}
use Rattle.route_model.specs.declared.peer.Peer.{Peer}
use Rattle.route_model.specs.declared.route.Route.{Route}
use Rattle.route_model.specs.declared.change.Change.{Change}
use Rattle.route_model.specs.declared.change.Change.TheVariants.{Announce, Withdraw, Down}
use Rattle.route_model.specs.Prefix.{IpPrefix}
use Rattle.route_model.specs.Admission.{Admitted}
use Rattle.route_meaning.specs.Merged.{Placed}
use Rattle.route_meaning.specs.Holds.{same_address, same_peer, same_prefix, concerns, until, changes_of, Holds}
use Rattle.route_meaning.specs.inner.Replay.{after_change, route_after}

-- ---- equal peers and prefixes

pub both : (a b : Bool) → (a && b) ≡ true → (a ≡ true) × (b ≡ true)
both true b e = (refl, e)
both false b e = cc

pub all_true : (a b : Bool) → a ≡ true → b ≡ true → (a && b) ≡ true
all_true a b e f = cc

pub same_address-true : (a b : Address) → same_address a b ≡ true → a ≡ b
same_address-true (V4 a) (V4 b) e = ap V4 ((bytes_eq-Decides a b).0 e)
same_address-true (V4 a) (V6 b) e = cc
same_address-true (V6 a) (V4 b) e = cc
same_address-true (V6 a) (V6 b) e = ap V6 ((bytes_eq-Decides a b).0 e)

pub same_address-itself : (a : Address) → same_address a a ≡ true
same_address-itself (V4 a) = (bytes_eq-Decides a a).1 refl
same_address-itself (V6 a) = (bytes_eq-Decides a a).1 refl

pub same_peer-true : (p q : Peer) → same_peer p q ≡ true → p ≡ q
same_peer-true p q e =
    let a = both _ _ e in let b = both _ _ a.1 in
    let e1 : p.collector ≡ q.collector = eqb-true _ _ a.0 in
    let e2 : p.address ≡ q.address = same_address-true _ _ b.0 in
    let e3 : p.as_number ≡ q.as_number = eqb-true _ _ b.1 in
    λ i. record { collector = e1 i; address = e2 i; as_number = e3 i }

pub same_prefix-true : (x y : IpPrefix) → same_prefix x y ≡ true → x ≡ y
same_prefix-true x y e =
    let a = both _ _ e in
    let e1 : x.address ≡ y.address = same_address-true _ _ a.0 in
    let e2 : x.length ≡ y.length = eqb-true _ _ a.1 in
    λ i. record { address = e1 i; length = e2 i }

pub same_peer-itself : (p : Peer) → same_peer p p ≡ true
same_peer-itself p = all_true _ _ (eq-eqb p.collector p.collector refl) (all_true _ _ (same_address-itself p.address) (eq-eqb p.as_number p.as_number refl))

pub same_prefix-itself : (x : IpPrefix) → same_prefix x x ≡ true
same_prefix-itself x = all_true _ _ (same_address-itself x.address) (eq-eqb x.length x.length refl)

-- two tests that say the same
same_bool : (a b : Bool) → (a ≡ true → b ≡ true) → (b ≡ true → a ≡ true) → a ≡ b
same_bool true b f g = sym (f refl)
same_bool false true f g = g refl
same_bool false false f g = refl

pub same_peer-sym : (p q : Peer) → same_peer p q ≡ same_peer q p
same_peer-sym p q = same_bool (same_peer p q) (same_peer q p)
    (λ e. ap (λ (r : Peer). same_peer q r) (same_peer-true p q e) ∙ same_peer-itself q)
    (λ e. ap (λ (r : Peer). same_peer p r) (same_peer-true q p e) ∙ same_peer-itself p)

-- ---- the route that holds is the one after the changes

pub route_after-append : (peer : Peer) (prefix : IpPrefix) (old : Option Route) (xs ys : List Change) → route_after peer prefix old (xs ++ ys) ≡ route_after peer prefix (route_after peer prefix old xs) ys
route_after-append peer prefix old [] ys = refl
route_after-append peer prefix old (x ∷ xs) ys = route_after-append peer prefix (after_change peer prefix old x) xs ys

-- a change that is about another leaves the route
unchanged : (peer : Peer) (prefix : IpPrefix) (old : Option Route) (change : Change) → concerns peer prefix change ≡ false → after_change peer prefix old change ≡ old
unchanged peer prefix old (Announce p x route) e = rw e refl
unchanged peer prefix old (Withdraw p x) e = rw e refl
unchanged peer prefix old (Down p) e = rw e refl

stays_after : (peer : Peer) (prefix : IpPrefix) (old : Option Route) (changes : List Change) → AllByRecursion (λ change. concerns peer prefix change ≡ false) changes → route_after peer prefix old changes ≡ old
stays_after peer prefix old [] a = refl
stays_after peer prefix old (x ∷ xs) a = ap (λ o. route_after peer prefix o xs) (unchanged peer prefix old x a.0) ∙ stays_after peer prefix old xs a.1

-- what gave the route: an announcement among the changes, and none of what follows concerns it
pub record Comes (peer : Peer) (prefix : IpPrefix) (route : Route) (changes : List Change) : Type 0 where
  pub before : List Change
  pub after : List Change
  pub announced : changes ≡ before ++ Announce peer prefix route ∷ after
  pub stays : AllByRecursion (λ change. concerns peer prefix change ≡ false) after

-- the route was there before the changes, or came with one of them
abbrev Source : Peer → IpPrefix → Route → Option Route → List Change → Type 0
Source peer prefix route old changes = ((old ≡ Some route) × AllByRecursion (λ change. concerns peer prefix change ≡ false) changes) ⊎ Comes peer prefix route changes

later : (peer : Peer) (prefix : IpPrefix) (route : Route) (change : Change) (changes : List Change) → Comes peer prefix route changes → Comes peer prefix route (change ∷ changes)
later peer prefix route change changes c = record { before = change ∷ c.before; after = c.after; announced = ap (λ l. change ∷ l) c.announced; stays = c.stays }

first_step : (peer : Peer) (prefix : IpPrefix) (route : Route) (old : Option Route) (change : Change) (changes : List Change) → after_change peer prefix old change ≡ Some route → AllByRecursion (λ c. concerns peer prefix c ≡ false) changes → Source peer prefix route old (change ∷ changes)
first_step peer prefix route old (Announce p x r) changes e a = elim (cases_Bool (same_peer p peer && same_prefix x prefix)) [
  | inl hit ↦ inr (
      let h = both _ _ hit in
      let same : r ≡ route = same_Some r route (sym (rw hit refl) ∙ e) in
      record { before = []; after = changes; announced = λ i. Announce (same_peer-true p peer h.0 i) (same_prefix-true x prefix h.1 i) (same i) ∷ changes; stays = a })
  | inr miss ↦ inl (sym (rw miss refl) ∙ e, (miss, a))
]
first_step peer prefix route old (Withdraw p x) changes e a = elim (cases_Bool (same_peer p peer && same_prefix x prefix)) [
  | inl hit ↦ absurd (none-some route (sym (rw hit refl) ∙ e))
  | inr miss ↦ inl (sym (rw miss refl) ∙ e, (miss, a))
]
first_step peer prefix route old (Down p) changes e a = elim (cases_Bool (same_peer p peer)) [
  | inl hit ↦ absurd (none-some route (sym (rw hit refl) ∙ e))
  | inr miss ↦ inl (sym (rw miss refl) ∙ e, (miss, a))
]

source : (peer : Peer) (prefix : IpPrefix) (route : Route) (old : Option Route) (changes : List Change) → route_after peer prefix old changes ≡ Some route → Source peer prefix route old changes
source peer prefix route old [] e = inl (e, tt)
source peer prefix route old (x ∷ xs) e = elim (source peer prefix route (after_change peer prefix old x) xs e) [
  | inl was ↦ first_step peer prefix route old x xs was.0 was.1
  | inr comes ↦ inr (later peer prefix route x xs comes)
]

pub Holds-after : (ps : List (Placed Admitted)) (moment : ℕ) (peer : Peer) (prefix : IpPrefix) (route : Route) → Holds ps moment peer prefix route → route_after peer prefix None (changes_of (until moment ps)) ≡ Some route
Holds-after ps moment peer prefix route h =
    ap (route_after peer prefix None) h.announced
    ∙ (route_after-append peer prefix None h.before (Announce peer prefix route ∷ h.after)
    ∙ (ap (λ o. route_after peer prefix o h.after) (rw (same_peer-itself peer, same_prefix-itself prefix) refl)
    ∙ stays_after peer prefix (Some route) h.after h.stays))

pub after-Holds : (ps : List (Placed Admitted)) (moment : ℕ) (peer : Peer) (prefix : IpPrefix) (route : Route) → route_after peer prefix None (changes_of (until moment ps)) ≡ Some route → Holds ps moment peer prefix route
after-Holds ps moment peer prefix route e = elim (source peer prefix route None (changes_of (until moment ps)) e) [
  | inl was ↦ absurd (none-some route was.0)
  | inr c ↦ record { before = c.before; after = c.after; announced = c.announced; stays = c.stays }
]

-- one route holds
pub Holds-one : (ps : List (Placed Admitted)) (moment : ℕ) (peer : Peer) (prefix : IpPrefix) (r s : Route) → Holds ps moment peer prefix r → Holds ps moment peer prefix s → r ≡ s
Holds-one ps moment peer prefix r s h i = same_Some r s (sym (Holds-after ps moment peer prefix r h) ∙ Holds-after ps moment peer prefix s i)
