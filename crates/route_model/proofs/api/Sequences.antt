-- Laws of fields that stand one after another.
use Rattle.std.proofs.Common.{◌≡◌, ℕ, ◌<◌, List, [], ◌∷◌, ◌++◌, length, take, drop, refl, sym, ap, subst, ◌∙◌, append_assoc, arith}
use Rattle.std.proofs.lemmas.List.{append-nil, take-append-drop, take_at, drop_at, append_cancel_left, length-append}
use Rattle.route_model.specs.Sequence.{joined, Each, Sequence}
use Rattle.route_model.specs.Reading.{BeginsWith}

pub joined-append : (xs ys : List (List ℕ)) → joined (xs ++ ys) ≡ joined xs ++ joined ys
joined-append [] ys = refl
joined-append (x ∷ xs) ys = ap (λ (t : List ℕ). x ++ t) (joined-append xs ys) ∙ sym (append_assoc x (joined xs) (joined ys))

-- one more field
pub joined-push : (xs : List (List ℕ)) (x : List ℕ) → joined (xs ++ x ∷ []) ≡ joined xs ++ x
joined-push xs x = joined-append xs (x ∷ []) ∙ ap (λ (t : List ℕ). joined xs ++ t) (append-nil x)

pub Each-append : {A B : Type 0} (R : A → B → Type 0) (xs us : List A) (ys vs : List B) → Each R xs ys → Each R us vs → Each R (xs ++ us) (ys ++ vs)
Each-append R [] us [] vs p q = q
Each-append R [] us (y ∷ ys) vs p q = absurd p
Each-append R (x ∷ xs) us [] vs p q = absurd p
Each-append R (x ∷ xs) us (y ∷ ys) vs p q = (p.0, Each-append R xs us ys vs p.1 q)

-- two fronts of one list that are as long are the same
pub same_fronts : (a b x y : List ℕ) → length a ≡ length b → a ++ x ≡ b ++ y → (a ≡ b) × (x ≡ y)
same_fronts a b x y len e =
    let fronts : a ≡ b = sym (take_at a x (length b) len) ∙ ap (λ (t : List ℕ). take (length b) t) e ∙ take_at b y (length b) refl in
    let rests : x ≡ y = sym (drop_at a x (length b) len) ∙ ap (λ (t : List ℕ). drop (length b) t) e ∙ drop_at b y (length b) refl in
    (fronts, rests)

-- no field begins another, each has one value, and none is empty
pub record IsPrefixFree {V : Type 0} (Field : List ℕ → V → Type 0) : Type 0 where
  pub one : (a b x y : List ℕ) (v w : V) → Field a v → Field b w → a ++ x ≡ b ++ y → (a ≡ b) × (v ≡ w)
  pub some : (v : V) → Field [] v → ⊥

-- two readings of one list, as far as they go, are one
pub sequences_agree : {V : Type 0} (Field : List ℕ → V → Type 0) (free : IsPrefixFree Field) (fs gs : List (List ℕ)) (vs ws : List V) (x y : List ℕ)
    → Each Field fs vs → Each Field gs ws → joined fs ++ x ≡ joined gs ++ y → (BeginsWith Field x → ⊥) → (BeginsWith Field y → ⊥)
    → (fs ≡ gs) × (vs ≡ ws) × (x ≡ y)
sequences_agree Field free [] [] [] [] x y p q e nx ny = (refl, refl, e)
sequences_agree Field free [] [] [] (w ∷ ws) x y p q e nx ny = absurd q
sequences_agree Field free [] [] (v ∷ vs) ws x y p q e nx ny = absurd p
sequences_agree Field free [] (g ∷ gs) (v ∷ vs) ws x y p q e nx ny = absurd p
sequences_agree Field free [] (g ∷ gs) [] [] x y p q e nx ny = absurd q
sequences_agree Field free [] (g ∷ gs) [] (w ∷ ws) x y p q e nx ny =
    absurd (nx (record { field = g; value = w; more = joined gs ++ y; is_field = q.0; parts = e ∙ append_assoc g (joined gs) y }))
sequences_agree Field free (f ∷ fs) gs [] ws x y p q e nx ny = absurd p
sequences_agree Field free (f ∷ fs) [] (v ∷ vs) [] x y p q e nx ny =
    absurd (ny (record { field = f; value = v; more = joined fs ++ x; is_field = p.0; parts = sym e ∙ append_assoc f (joined fs) x }))
sequences_agree Field free (f ∷ fs) [] (v ∷ vs) (w ∷ ws) x y p q e nx ny = absurd q
sequences_agree Field free (f ∷ fs) (g ∷ gs) (v ∷ vs) [] x y p q e nx ny = absurd q
sequences_agree Field free (f ∷ fs) (g ∷ gs) (v ∷ vs) (w ∷ ws) x y p q e nx ny =
    let regrouped : f ++ (joined fs ++ x) ≡ g ++ (joined gs ++ y) = sym (append_assoc f (joined fs) x) ∙ e ∙ append_assoc g (joined gs) y in
    let heads = free.one f g (joined fs ++ x) (joined gs ++ y) v w p.0 q.0 regrouped in
    let tails : joined fs ++ x ≡ joined gs ++ y = append_cancel_left f (joined fs ++ x) (joined gs ++ y) (regrouped ∙ ap (λ (t : List ℕ). t ++ (joined gs ++ y)) (sym heads.0)) in
    let rest = sequences_agree Field free fs gs vs ws x y p.1 q.1 tails nx ny in
    let fields : (f ∷ fs) ≡ (g ∷ gs) = cc (heads.0, rest.0) in
    let values : (v ∷ vs) ≡ (w ∷ ws) = cc (heads.1, rest.1) in
    (fields, values, rest.2)

pub empty_is : (f : List ℕ) → length f ≡ 0 → f ≡ []
empty_is [] e = refl
empty_is (x ∷ xs) e = absurd (omega (arith, e))

-- no field stands at the front of nothing
pub nothing_begins : {V : Type 0} (Field : List ℕ → V → Type 0) (free : IsPrefixFree Field) → BeginsWith Field [] → ⊥
nothing_begins Field free b =
    let empty : length b.field ≡ 0 = omega (arith, ap length b.parts, length-append b.field b.more) in
    free.some b.value (subst (λ (f : List ℕ). Field f b.value) (empty_is b.field empty) b.is_field)

-- the values of whole octets are one list
pub sequence_one : {V : Type 0} (Field : List ℕ → V → Type 0) (free : IsPrefixFree Field) (bytes : List ℕ) (vs ws : List V)
    → Sequence Field bytes vs → Sequence Field bytes ws → vs ≡ ws
sequence_one Field free bytes vs ws p q =
    let e : joined p.0 ++ [] ≡ joined q.0 ++ [] = append-nil (joined p.0) ∙ sym p.2 ∙ q.2 ∙ sym (append-nil (joined q.0)) in
    (sequences_agree Field free p.0 q.0 vs ws [] [] p.1 q.1 e (nothing_begins Field free) (nothing_begins Field free)).1

-- octets that stop at no field are no sequence
pub sequence_none : {V : Type 0} (Field : List ℕ → V → Type 0) (free : IsPrefixFree Field) (bytes : List ℕ) (fs : List (List ℕ)) (vs ws : List V) (rest : List ℕ)
    → Each Field fs vs → bytes ≡ joined fs ++ rest → (BeginsWith Field rest → ⊥) → (rest ≡ [] → ⊥) → Sequence Field bytes ws → ⊥
sequence_none Field free bytes fs vs ws rest p e stop some q =
    let same : joined fs ++ rest ≡ joined q.0 ++ [] = sym e ∙ q.2 ∙ sym (append-nil (joined q.0)) in
    some (sequences_agree Field free fs q.0 vs ws rest [] p q.1 same stop (nothing_begins Field free)).2

-- ---- a loop that reads one field after another

-- the values read, and the octets left
pub record ReadSoFar {V : Type 0} (Field : List ℕ → V → Type 0) (bytes rest : List ℕ) (values : List V) : Type 0 where
  pub fields : List (List ℕ)
  pub each : Each Field fields values
  pub whole : bytes ≡ joined fields ++ rest

pub read_start : {V : Type 0} (Field : List ℕ → V → Type 0) (bytes : List ℕ) → ReadSoFar Field bytes bytes []
read_start Field bytes = record { fields = []; each = tt; whole = refl }

pub read_on : {V : Type 0} (Field : List ℕ → V → Type 0) (bytes rest : List ℕ) (values : List V) (v : V) (n : ℕ) → ReadSoFar Field bytes rest values
    → Field (take n rest) v → ReadSoFar Field bytes (drop n rest) (values ++ v ∷ [])
read_on Field bytes rest values v n p f = record {
  fields = p.fields ++ take n rest ∷ [];
  each = Each-append Field p.fields (take n rest ∷ []) values (v ∷ []) p.each (f, tt);
  whole = p.whole ∙ ap (λ (t : List ℕ). joined p.fields ++ t) (sym (take-append-drop n rest)) ∙ sym (append_assoc (joined p.fields) (take n rest) (drop n rest))
      ∙ ap (λ (t : List ℕ). t ++ drop n rest) (sym (joined-push p.fields (take n rest)));
}

pub read_all : {V : Type 0} (Field : List ℕ → V → Type 0) (bytes rest : List ℕ) (values : List V) → ReadSoFar Field bytes rest values → length rest ≡ 0 → Sequence Field bytes values
read_all Field bytes rest values p e =
    let none : rest ≡ [] = empty_is rest e in
    (p.fields, p.each, p.whole ∙ ap (λ (t : List ℕ). joined p.fields ++ t) none ∙ append-nil (joined p.fields))

pub read_none : {V : Type 0} (Field : List ℕ → V → Type 0) (free : IsPrefixFree Field) (bytes rest : List ℕ) (values : List V) → ReadSoFar Field bytes rest values
    → (BeginsWith Field rest → ⊥) → 0 < length rest → (ws : List V) → Sequence Field bytes ws → ⊥
read_none Field free bytes rest values p stop some ws q =
    sequence_none Field free bytes p.fields values ws rest p.each p.whole stop (λ e. omega (arith, some, ap length e)) q

-- what was read is the front of every reading
pub read_front : {V : Type 0} (Field : List ℕ → V → Type 0) (free : IsPrefixFree Field) (fs gs : List (List ℕ)) (vs ws : List V) (rest : List ℕ)
    → Each Field fs vs → Each Field gs ws → joined fs ++ rest ≡ joined gs → (more : List V) × (ws ≡ vs ++ more)
read_front Field free [] gs [] ws rest p q e = (ws, refl)
read_front Field free [] gs (v ∷ vs) ws rest p q e = absurd p
read_front Field free (f ∷ fs) gs [] ws rest p q e = absurd p
read_front Field free (f ∷ fs) [] (v ∷ vs) ws rest p q e =
    let none : length f ≡ 0 = omega (arith, ap length e, length-append f (joined fs), length-append (f ++ joined fs) rest) in
    absurd (free.some v (subst (λ (t : List ℕ). Field t v) (empty_is f none) p.0))
read_front Field free (f ∷ fs) (g ∷ gs) (v ∷ vs) [] rest p q e = absurd q
read_front Field free (f ∷ fs) (g ∷ gs) (v ∷ vs) (w ∷ ws) rest p q e =
    let regrouped : f ++ (joined fs ++ rest) ≡ g ++ joined gs = sym (append_assoc f (joined fs) rest) ∙ e in
    let heads = free.one f g (joined fs ++ rest) (joined gs) v w p.0 q.0 regrouped in
    let tails : joined fs ++ rest ≡ joined gs = append_cancel_left f (joined fs ++ rest) (joined gs) (regrouped ∙ ap (λ (t : List ℕ). t ++ joined gs) (sym heads.0)) in
    let more = read_front Field free fs gs vs ws rest p.1 q.1 tails in
    let whole : (w ∷ ws) ≡ (v ∷ vs) ++ more.0 = cc (heads.1, more.1) in
    (more.0, whole)
