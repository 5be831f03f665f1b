-- A page has a head in one unit.
use Rattle.std.proofs.Common.{◌≡◌, ◌≢◌, ℕ, ◌⊎◌, inl, inr, List, length, map, [], ◌∷◌, suc, refl, sym, ap, subst, ◌∙◌, Result, Ok, Err, Option, Some, None, IfOk, IfSome, IfNone}
use Rattle.route_model.specs.declared.unit.Unit.{Unit}
use Rattle.route_model.specs.Octets.{number_at, Encodes}
use Rattle.route_model.specs.Units.{moments_in, written, IsUnit, unit_number}
use Rattle.route_model.proofs.api.Units.{one_unit, written_is}
use Rattle.archive_head.specs.declared.lane.Lane.{Lane}
use Rattle.archive_head.specs.Head.{Contents, EncodesHead, EncodesOlder, IsHead, IsOlderHead, head_octets, in_moments, octets_in}
use Rattle.archive_head.proofs.Places.{unit_read}

-- what page and head have to do with each other where times are of this unit
pub record IsInUnit (u : Unit) (head : Contents) (page : List ℕ) : Type 0 where
  pub stored : Contents
  pub encodes : Encodes IsHead (octets_in u) stored page
  pub how : ((u ≡ written) × (head ≡ stored)) ⊎ ((u ≢ written) × IsOlderHead (moments_in u) stored × (head ≡ in_moments (moments_in u) stored))

names : (u : Unit) (stored : Contents) (page : List ℕ) → page ≡ octets_in u stored → unit_number u ≡ number_at 8 48 page
names u stored page e = sym (ap (number_at 8 48) e ∙ unit_read u stored)

-- a page of a head names a unit
pub has_unit : (head : Contents) (page : List ℕ) → EncodesHead head page → (u : Unit) × IsUnit u × (unit_number u ≡ number_at 8 48 page)
has_unit head page (inl e) = (written, written_is, names written head page e.encoded)
has_unit head page (inr o) = (o.unit, o.is_unit, names o.unit o.stored page o.encoded)

-- and is in that one
pub in_unit : (u : Unit) (head : Contents) (page : List ℕ) → unit_number u ≡ number_at 8 48 page → EncodesHead head page → IsInUnit u head page
in_unit u head page is (inl e) =
    let same : written ≡ u = one_unit written u (names written head page e.encoded ∙ sym is) in
    record {
      stored = head;
      encodes = subst (λ (v : Unit). Encodes IsHead (octets_in v) head page) same e;
      how = inl (sym same, refl);
    }
in_unit u head page is (inr o) =
    let same : o.unit ≡ u = one_unit o.unit u (names o.unit o.stored page o.encoded ∙ sym is) in
    record {
      stored = o.stored;
      encodes = subst (λ (v : Unit). Encodes IsHead (octets_in v) o.stored page) same (record { valid = o.older.valid; encoded = o.encoded });
      how = inr (subst (λ (v : Unit). v ≢ written) same o.other, subst (λ (v : Unit). IsOlderHead (moments_in v) o.stored) same o.older, subst (λ (v : Unit). head ≡ in_moments (moments_in v) o.stored) same o.moments);
    }

length-map : {X Y : Type 0} (f : X → Y) (xs : List X) → length (map f xs) ≡ length xs
length-map f [] = refl
length-map f (x ∷ xs) = ap suc (length-map f xs)

-- as many collectors as are stored
pub stored_count : (u : Unit) (head : Contents) (page : List ℕ) (n : ℕ) → length head.lanes ≡ n → (i : IsInUnit u head page) → length i.stored.lanes ≡ n
stored_count u head page n count i = elim i.how [
  | inl h ↦ ap (λ (x : Contents). length x.lanes) (sym h.1) ∙ count
  | inr h ↦ sym (length-map (Rattle.archive_head.specs.Head.lane_in_moments (moments_in u)) i.stored.lanes) ∙ ap (λ (x : Contents). length x.lanes) (sym h.2) ∙ count
]

-- ---- what is passed on

pub found_as : {X E : Type 0} (r : Result (Option X) E) (P Q R : X → Type 0) → ((x : X) → P x → Q x → R x) → IfOk r (λ o. IfSome o P) → IfOk r (λ o. IfSome o Q) → IfOk r (λ o. IfSome o R)
found_as (Ok (Some x)) P Q R f p q = f x p q
found_as (Ok None) P Q R f p q = tt
found_as (Err e) P Q R f p q = tt

pub none_as : {X E : Type 0} (r : Result (Option X) E) (A B : Type 0) → (A → B) → IfOk r (λ o. IfNone o A) → IfOk r (λ o. IfNone o B)
none_as (Ok (Some x)) A B f p = tt
none_as (Ok None) A B f p = f p
none_as (Err e) A B f p = tt
