-- Single fields: what was written is read again, and what was read was written so.
use Rattle.std.proofs.Common.{◌≡◌, ℕ, ◌+◌, ◌^◌, ◌<◌, ◌≤◌, Bool, true, false, cond, ltb, ◌⊎◌, List, [], ◌∷◌, ◌++◌, length, get_or, take, drop, Option, Some, None, refl, sym, ap, append_assoc, arith, inl, inr}
use Rattle.std.specs.List.{flat_map, AllByRecursion}
use Rattle.std.specs.Int.{Width, w16, w32, w64, byte_len, from_be_bytes, to_be_bytes}
use Rattle.std.proofs.lemmas.Bool.{cases_lt, ltb-false, le-ltb}
use Rattle.std.proofs.lemmas.List.{take_at, drop_at, take-append-drop, length-append, length-take, get_or-drop, get_or-take, get_or_past}
use Rattle.std.proofs.lemmas.List.Concat.{flat_map-cons}
use Rattle.std.proofs.lemmas.Nat.{be_bytes_2, be_bytes_4, be_bytes_8, from_be_bytes-to_be_bytes_2, from_be_bytes-to_be_bytes_4, from_be_bytes-to_be_bytes_8}
use Rattle.route_model.specs.inner.Codec.{◌>>=◌, octets_at, number_at, repeat}

abbrev pub IsBytes : List ℕ → Type 0
IsBytes bytes = (i : ℕ) → get_or bytes i 0 < 256

pub IsBytes-drop : (n : ℕ) (bytes : List ℕ) → IsBytes bytes → IsBytes (drop n bytes)
IsBytes-drop n bytes h i = rw get_or-drop (h (n + i))

pub IsBytes-take : (n : ℕ) (bytes : List ℕ) → IsBytes bytes → IsBytes (take n bytes)
IsBytes-take n bytes h i =
    elim (cases_lt i n) [
      | inl lt ↦ rw (get_or-take n bytes i 0 lt) (h i)
      | inr le ↦ rw (get_or_past (take n bytes) i 0 (omega (arith, length-take n bytes))) (omega arith)
    ]

-- the value of a step that gave one
pub bind_some : {A B : Type 0} (r : Option A) (f : A → Option B) (y : B) → (r >>= f) ≡ Some y → (x : A) × (r ≡ Some x) × (f x ≡ Some y)
bind_some (Some x) f y e = (x, refl, e)
bind_some None f y e = absurd cc

-- a test that let a value through
pub guard_some : {A : Type 0} (b : Bool) (x y : A) → cond b None (Some x) ≡ Some y → (b ≡ false) × (x ≡ y)
guard_some true x y e = absurd cc
guard_some false x y e = (refl, cc)

-- what a test chose
pub chosen : {A : Type 0} (b : Bool) (x y z : A) → cond b x y ≡ z → ((b ≡ true) × (x ≡ z)) ⊎ ((b ≡ false) × (y ≡ z))
chosen true x y z e = inl (refl, e)
chosen false x y z e = inr (refl, e)

abbrev pub some : {A : Type 0} → A → Option A
some x = Some x

pub some_is : {A : Type 0} (x y : A) → some x ≡ some y → x ≡ y
some_is x y e = cc

pub record IsWide (w : Width) (limit : ℕ) : Type 0 where
  pub len : (n : ℕ) → length (to_be_bytes w n) ≡ byte_len w
  pub back : (bytes : List ℕ) → length bytes ≡ byte_len w → IsBytes bytes → to_be_bytes w (from_be_bytes w bytes) ≡ bytes
  pub again : (n : ℕ) → n < limit → from_be_bytes w (to_be_bytes w n) ≡ n

pub wide16 : IsWide w16 (2 ^ 16)
wide16 = record { len = λ n. refl; back = λ bytes len fits. be_bytes_2 bytes _ len fits refl; again = λ n lt. from_be_bytes-to_be_bytes_2 n lt }

pub wide32 : IsWide w32 (2 ^ 32)
wide32 = record { len = λ n. refl; back = λ bytes len fits. be_bytes_4 bytes _ len fits refl; again = λ n lt. from_be_bytes-to_be_bytes_4 n lt }

pub wide64 : IsWide w64 (2 ^ 64)
wide64 = record { len = λ n. refl; back = λ bytes len fits. be_bytes_8 bytes _ len fits refl; again = λ n lt. from_be_bytes-to_be_bytes_8 n lt }

pub number_again : (w : Width) (limit : ℕ) (wide : IsWide w limit) (n : ℕ) (rest : List ℕ) → n < limit → number_at w (to_be_bytes w n ++ rest) ≡ Some (n, rest)
number_again w limit wide n rest lt =
    let len = wide.len n in
    let long : ltb (length (to_be_bytes w n ++ rest)) (byte_len w) ≡ false = le-ltb _ _ (omega (arith, length-append (to_be_bytes w n) rest)) in
    rw (long, take_at (to_be_bytes w n) rest (byte_len w) len, drop_at (to_be_bytes w n) rest (byte_len w) len, wide.again n lt) refl

pub number_takes : (w : Width) (limit : ℕ) (wide : IsWide w limit) (bytes : List ℕ) (n : ℕ) (rest : List ℕ) → IsBytes bytes → number_at w bytes ≡ Some (n, rest) → bytes ≡ to_be_bytes w n ++ rest
number_takes w limit wide bytes n rest fits e =
    let g = guard_some (ltb (length bytes) (byte_len w)) (from_be_bytes w (take (byte_len w) bytes), drop (byte_len w) bytes) (n, rest) e in
    let long : byte_len w ≤ length bytes = ltb-false _ _ g.0 in
    let n-is : from_be_bytes w (take (byte_len w) bytes) ≡ n = ap (λ (p : ℕ × List ℕ). p.0) g.1 in
    let rest-is : drop (byte_len w) bytes ≡ rest = ap (λ (p : ℕ × List ℕ). p.1) g.1 in
    let front : to_be_bytes w n ≡ take (byte_len w) bytes = rw (← n-is) (wide.back (take (byte_len w) bytes) (omega (arith, length-take (byte_len w) bytes)) (IsBytes-take (byte_len w) bytes fits)) in
    rw (front, ← rest-is) (sym (take-append-drop (byte_len w) bytes))

pub octets_again : (o rest : List ℕ) (n : ℕ) → length o ≡ n → octets_at n (o ++ rest) ≡ Some (o, rest)
octets_again o rest n len =
    let long : ltb (length (o ++ rest)) n ≡ false = le-ltb _ _ (omega (arith, length-append o rest)) in
    rw (long, take_at o rest n len, drop_at o rest n len) refl

-- what a reader of n octets took
pub record TakesOctets (n : ℕ) (bytes o rest : List ℕ) : Type 0 where
  pub parts : bytes ≡ o ++ rest
  pub len : length o ≡ n
  pub rest_is : drop n bytes ≡ rest

pub octets_take : (n : ℕ) (bytes o rest : List ℕ) → octets_at n bytes ≡ Some (o, rest) → TakesOctets n bytes o rest
octets_take n bytes o rest e =
    let g = guard_some (ltb (length bytes) n) (take n bytes, drop n bytes) (o, rest) e in
    let long : n ≤ length bytes = ltb-false _ _ g.0 in
    let o-is : take n bytes ≡ o = ap (λ (p : List ℕ × List ℕ). p.0) g.1 in
    let rest-is : drop n bytes ≡ rest = ap (λ (p : List ℕ × List ℕ). p.1) g.1 in
    record {
      parts = rw (← o-is, ← rest-is) (sym (take-append-drop n bytes));
      len = rw (← o-is) (omega (arith, length-take n bytes));
      rest_is = rest-is;
    }

pub repeat_again : {A : Type 0} (read : List ℕ → Option (A × List ℕ)) (encode : A → List ℕ) (P : A → Type 0) → ((a : A) (rest : List ℕ) → P a → read (encode a ++ rest) ≡ Some (a, rest)) → (xs : List A) (rest : List ℕ) → AllByRecursion P xs → repeat read (length xs) (flat_map encode xs ++ rest) ≡ Some (xs, rest)
unfolding repeat
repeat_again read encode P each [] rest all = refl
repeat_again read encode P each (x ∷ xs) rest all =
    let regrouped : flat_map encode (x ∷ xs) ++ rest ≡ encode x ++ (flat_map encode xs ++ rest) = rw flat_map-cons (append_assoc (encode x) (flat_map encode xs) rest) in
    rw (regrouped, each x (flat_map encode xs ++ rest) all.0, repeat_again read encode P each xs rest all.1) refl
