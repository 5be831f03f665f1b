-- The merged list is the one that is in order and has each collector's list as its part.
use Rattle.std.proofs.Common.{◌≡◌, ℕ, ◌+◌, ◌<◌, ◌≤◌, ◌⊎◌, List, [], ◌∷◌, ◌++◌, length, take, drop, map, Bool, true, false, cond, leb, eqb, refl, sym, ap, ◌∙◌, subst, inl, inr, arith, zero, suc, append-nil, append_assoc, add-zero, zero-add, Some, None, Option}
use Rattle.std.specs.List.{AllByRecursion, filter, slice_get, slice_set}
use Rattle.std.proofs.lemmas.List.{map-append}
use Rattle.std.proofs.lemmas.List.Elements.{filter-append}
use Rattle.std.proofs.lemmas.Bool.{cond_both, cases_Bool, cases_eq, leb-true, leb-false, le-leb, lt-leb, eqb-true, eq-eqb, ne_eqb, false≢true}
use Rattle.route_meaning.specs.Merged.{insert_by, by_time}
use Rattle.route_meaning.specs.Merged.{Placed, placed, all_placed, merged, part, parts, IsBefore, IsInOrder, IsRising}
use Rattle.route_meaning.proofs.api.Sorting.{all_weaker, all_append, all_filter, filter-none, all_insert_by, all_by_time, by_time-first}

pub all_both : {X : Type 0} (P Q : X → Type 0) (xs : List X) → AllByRecursion P xs → AllByRecursion Q xs → AllByRecursion (λ x. P x × Q x) xs
all_both P Q [] a b = tt
all_both P Q (x ∷ xs) a b = ((a.0, b.0), all_both P Q xs a.1 b.1)

-- ---- what is in order is merged from its parts

module _ {X : Type 0} where
  pub all_part : (P : Placed X → Type 0) (c : ℕ) (ps : List (Placed X)) → AllByRecursion P ps → AllByRecursion P (map (placed c) (part c ps))
  all_part P c [] a = tt
  all_part P c (p ∷ ps) a =
      elim (cases_eq p.collector c) [
        | inl e ↦ rw (eq-eqb p.collector c e) (subst (λ (k : ℕ). P (placed k p.item)) e a.0, all_part P c ps a.1)
        | inr ne ↦ rw (ne_eqb p.collector c ne) (all_part P c ps a.1)
      ]

  part_number : (c : ℕ) (xs : List X) → AllByRecursion (λ p. p.collector ≡ c) (map (placed c) xs)
  part_number c [] = tt
  part_number c (x ∷ xs) = (refl, part_number c xs)

  all_parts : (P : Placed X → Type 0) (c k : ℕ) (ps : List (Placed X)) → AllByRecursion P ps → AllByRecursion P (all_placed c (parts c k ps))
  all_parts P c zero ps a = tt
  all_parts P c (suc k) ps a = all_append P (map (placed c) (part c ps)) (all_placed (suc c) (parts (suc c) k ps)) (all_part P c ps a) (all_parts P (suc c) k ps a)

  parts_skip : (c k : ℕ) (p : Placed X) (ps : List (Placed X)) → p.collector < c → parts c k (p ∷ ps) ≡ parts c k ps
  parts_skip c zero p ps lt = refl
  parts_skip c (suc k) p ps lt = rw (ne_eqb p.collector c (λ e. omega arith), parts_skip (suc c) k p ps (omega arith)) refl

  -- where p goes among the others
  pub record Split (c k : ℕ) (p : Placed X) (ps : List (Placed X)) : Type 0 where
    pub pre : List (Placed X)
    pub post : List (Placed X)
    pub here : all_placed c (parts c k (p ∷ ps)) ≡ pre ++ p ∷ post
    pub others : all_placed c (parts c k ps) ≡ pre ++ post
    pub low : AllByRecursion (λ q. q.collector < p.collector) pre

  split : (c k : ℕ) (p : Placed X) (ps : List (Placed X)) → c ≤ p.collector → p.collector < c + k → Split c k p ps
  split c zero p ps le lt = absurd (omega arith)
  split c (suc k) p ps le lt =
      elim (cases_eq p.collector c) [
        | inl e ↦ record {
          pre = [];
          post = map (placed c) (part c ps) ++ all_placed (suc c) (parts (suc c) k ps);
          here = rw (eq-eqb p.collector c e, parts_skip (suc c) k p ps (omega arith)) (ap (λ (n : ℕ). placed n p.item ∷ (map (placed c) (part c ps) ++ all_placed (suc c) (parts (suc c) k ps))) (sym e));
          others = refl;
          low = tt;
        }
        | inr ne ↦
            let s = split (suc c) k p ps (omega arith) (omega arith) in
            record {
              pre = map (placed c) (part c ps) ++ s.pre;
              post = s.post;
              here = rw (ne_eqb p.collector c ne) (ap (λ l. map (placed c) (part c ps) ++ l) s.here ∙ sym (append_assoc (map (placed c) (part c ps)) s.pre (p ∷ s.post)));
              others = ap (λ l. map (placed c) (part c ps) ++ l) s.others ∙ sym (append_assoc (map (placed c) (part c ps)) s.pre s.post);
              low = all_append _ (map (placed c) (part c ps)) s.pre (all_weaker _ _ (λ q e. let e' : q.collector ≡ c = e in omega arith) _ (part_number c (part c ps))) s.low;
            }
      ]

  all_left : (P : Placed X → Type 0) (xs ys : List (Placed X)) → AllByRecursion P (xs ++ ys) → AllByRecursion P xs
  all_left P [] ys a = tt
  all_left P (x ∷ xs) ys a = (a.0, all_left P xs ys a.1)

  all_right : (P : Placed X → Type 0) (xs ys : List (Placed X)) → AllByRecursion P (xs ++ ys) → AllByRecursion P ys
  all_right P [] ys a = a
  all_right P (x ∷ xs) ys a = all_right P xs ys a.1

  pub merged-parts : (time : X → ℕ) (k : ℕ) (ps : List (Placed X)) → IsInOrder time ps → AllByRecursion (λ p. p.collector < k) ps → merged time (parts 0 k ps) ≡ ps
  merged-parts time k [] o a = none 0 k
    where
      none : (c k : ℕ) → by_time (λ (p : Placed X). time p.item) (all_placed c (parts c k [])) ≡ []
      none c zero = refl
      none c (suc k) = none (suc c) k
  merged-parts time k (p ∷ ps) o a =
      let s = split 0 k p ps (omega arith) (omega (arith, a.0)) in
      let before : AllByRecursion (IsBefore time p) (s.pre ++ s.post) = subst (AllByRecursion (IsBefore time p)) s.others (all_parts (IsBefore time p) 0 k ps o.0) in
      let pre : AllByRecursion (λ q. time p.item < time q.item) s.pre = all_weaker _ _ (λ q h. let lt : q.collector < p.collector = h.1 in elim h.0 [ inl l ↦ l | inr e ↦ absurd (omega arith) ]) _ (all_both _ _ s.pre (all_left _ s.pre s.post before) s.low) in
      let post : AllByRecursion (λ q. time p.item ≤ time q.item) s.post = all_weaker _ _ (λ q h. elim h [ inl l ↦ omega arith | inr e ↦ omega arith ]) _ (all_right _ s.pre s.post before) in
      ap (by_time (λ q. time q.item)) s.here
      ∙ (by_time-first (λ q. time q.item) s.pre p s.post pre post
      ∙ ap (λ l. p ∷ l) (ap (by_time (λ q. time q.item)) (sym s.others) ∙ merged-parts time k ps o.1 a.1))

  -- ---- the merged list is in order

  all_true : (P : Placed X → Type 0) → ((p : Placed X) → P p) → (ps : List (Placed X)) → AllByRecursion P ps
  all_true P f [] = tt
  all_true P f (p ∷ ps) = (f p, all_true P f ps)

  in_order_insert : (time : X → ℕ) (p : Placed X) (ps : List (Placed X)) → AllByRecursion (λ q. p.collector ≤ q.collector) ps → IsInOrder time ps → IsInOrder time (insert_by (λ q. time q.item) p ps)
  in_order_insert time p [] a o = (tt, tt)
  in_order_insert time p (q ∷ qs) a o =
      cond_both (leb (time p.item) (time q.item)) (p ∷ q ∷ qs) (q ∷ insert_by (λ q. time q.item) p qs) (IsInOrder time)
      (λ e. let le : time p.item ≤ time q.item = leb-true _ _ e in
      let first : IsBefore time p q = le_or (time p.item) (time q.item) p.collector q.collector le a.0 in
      ((first, all_weaker _ _ (λ r h. let c : p.collector ≤ r.collector = h.1 in le_or (time p.item) (time r.item) p.collector r.collector (elim h.0 [ inl l ↦ omega arith | inr e ↦ omega arith ]) c) _ (all_both _ _ qs o.0 a.1)), o))
      (λ e. let lt : time q.item < time p.item = leb-false _ _ e in
      (all_insert_by (λ q. time q.item) (IsBefore time q) p qs (inl lt) o.0, in_order_insert time p qs a.1 o.1))
    where
      le_or : (a b c d : ℕ) → a ≤ b → c ≤ d → (a < b) ⊎ ((a ≡ b) × (c ≤ d))
      le_or a b c d le le' = elim (cases_eq a b) [ inl e ↦ inr (e, le') | inr ne ↦ inl (omega arith) ]

  collectors_rise : List (Placed X) → Type 0
  collectors_rise [] = Unit {0}
  collectors_rise (p ∷ ps) = AllByRecursion (λ q. p.collector ≤ q.collector) ps × collectors_rise ps

  in_order_by_time : (time : X → ℕ) (ps : List (Placed X)) → collectors_rise ps → IsInOrder time (by_time (λ q. time q.item) ps)
  unfolding collectors_rise
  in_order_by_time time [] r = tt
  in_order_by_time time (p ∷ ps) r = in_order_insert time p (by_time (λ q. time q.item) ps) (all_by_time (λ q. time q.item) _ ps r.0) (in_order_by_time time ps r.1)

  from_number : (c : ℕ) (lists : List (List X)) → AllByRecursion (λ p. c ≤ p.collector) (all_placed c lists)
  from_number c [] = tt
  from_number c (xs ∷ lists) = all_append _ (map (placed c) xs) (all_placed (suc c) lists) (all_weaker _ _ (λ p e. let e' : p.collector ≡ c = e in omega arith) _ (part_number c xs)) (all_weaker _ _ (λ p h. let le : suc c ≤ p.collector = h in omega arith) _ (from_number (suc c) lists))

  rise_append : (c : ℕ) (xs : List X) (ps : List (Placed X)) → AllByRecursion (λ p. c ≤ p.collector) ps → collectors_rise ps → collectors_rise (map (placed c) xs ++ ps)
  unfolding collectors_rise
  rise_append c [] ps a r = r
  rise_append c (x ∷ xs) ps a r = (all_append _ (map (placed c) xs) ps (all_weaker _ _ (λ p e. let e' : p.collector ≡ c = e in omega arith) _ (part_number c xs)) a, rise_append c xs ps a r)

  all_rise : (c : ℕ) (lists : List (List X)) → collectors_rise (all_placed c lists)
  unfolding collectors_rise
  all_rise c [] = tt
  all_rise c (xs ∷ lists) = rise_append c xs (all_placed (suc c) lists) (all_weaker _ _ (λ p h. let le : suc c ≤ p.collector = h in omega arith) _ (from_number (suc c) lists)) (all_rise (suc c) lists)

  pub IsInOrder-merged : (time : X → ℕ) (lists : List (List X)) → IsInOrder time (merged time lists)
  IsInOrder-merged time lists = in_order_by_time time (all_placed 0 lists) (all_rise 0 lists)

  -- ---- its parts are the lists

  -- picking is as good before as after, where what is picked rises
  filter-insert_picked : (time : X → ℕ) (k : ℕ) (p : Placed X) (ps : List (Placed X)) → AllByRecursion (λ q. time p.item ≤ time q.item) (filter (λ q. eqb q.collector k) ps) → p.collector ≡ k → filter (λ q. eqb q.collector k) (insert_by (λ q. time q.item) p ps) ≡ p ∷ filter (λ q. eqb q.collector k) ps
  filter-insert_picked time k p [] a e = rw (eq-eqb p.collector k e) refl
  filter-insert_picked time k p (q ∷ qs) a e =
      elim (cases_Bool (leb (time p.item) (time q.item))) [
        | inl le ↦ rw (le, eq-eqb p.collector k e) refl
        | inr gt ↦ elim (cases_eq q.collector k) [
          | inl e' ↦ let b = a in let c = rw (eq-eqb q.collector k e') at b in absurd (let le : time p.item ≤ time q.item = c.0 in let lt : time q.item < time p.item = leb-false _ _ gt in omega arith)
          | inr ne ↦ let b = a in let c = rw (ne_eqb q.collector k ne) at b in rw (gt, ne_eqb q.collector k ne) (filter-insert_picked time k p qs c e)
        ]
      ]

  filter-insert_other : (time : X → ℕ) (k : ℕ) (p : Placed X) (ps : List (Placed X)) → (p.collector ≡ k → ⊥) → filter (λ q. eqb q.collector k) (insert_by (λ q. time q.item) p ps) ≡ filter (λ q. eqb q.collector k) ps
  filter-insert_other time k p [] ne = rw (ne_eqb p.collector k ne) refl
  filter-insert_other time k p (q ∷ qs) ne =
      elim (cases_Bool (leb (time p.item) (time q.item))) [
        | inl le ↦ rw (le, ne_eqb p.collector k ne) refl
        | inr gt ↦ rw (gt, filter-insert_other time k p qs ne) refl
      ]

  -- the picked rise
  PickedRise : (time : X → ℕ) (k : ℕ) → List (Placed X) → Type 0
  PickedRise time k [] = Unit {0}
  PickedRise time k (p ∷ ps) = (p.collector ≡ k → AllByRecursion (λ q. time p.item ≤ time q.item) (filter (λ q. eqb q.collector k) ps)) × PickedRise time k ps

  filter-by_time_picked : (time : X → ℕ) (k : ℕ) (ps : List (Placed X)) → PickedRise time k ps → filter (λ q. eqb q.collector k) (by_time (λ q. time q.item) ps) ≡ filter (λ q. eqb q.collector k) ps
  unfolding PickedRise
  filter-by_time_picked time k [] r = refl
  filter-by_time_picked time k (p ∷ ps) r =
      let ih = filter-by_time_picked time k ps r.1 in
      elim (cases_eq p.collector k) [
        | inl e ↦ rw (eq-eqb p.collector k e) (filter-insert_picked time k p (by_time (λ q. time q.item) ps) (rw ih (r.0 e)) e ∙ ap (λ l. p ∷ l) ih)
        | inr ne ↦ rw (ne_eqb p.collector k ne) (filter-insert_other time k p (by_time (λ q. time q.item) ps) ne ∙ ih)
      ]

  part_all : (c : ℕ) (xs : List X) → filter (λ q. eqb q.collector c) (map (placed c) xs) ≡ map (placed c) xs
  part_all c [] = refl
  part_all c (x ∷ xs) = rw (eq-eqb c c refl) (ap (λ l. placed c x ∷ l) (part_all c xs))

  part_none : (k : ℕ) (ps : List (Placed X)) → AllByRecursion (λ q. k < q.collector) ps → filter (λ q. eqb q.collector k) ps ≡ []
  part_none k ps a = filter-none (λ q. eqb q.collector k) ps (all_weaker _ _ (λ q lt. ne_eqb q.collector k (λ e. let lt' : k < q.collector = lt in omega arith)) ps a)

  above_number : (c : ℕ) (lists : List (List X)) → AllByRecursion (λ p. c < p.collector) (all_placed (suc c) lists)
  above_number c lists = all_weaker _ _ (λ p h. let le : suc c ≤ p.collector = h in omega arith) _ (from_number (suc c) lists)

  picked_front : (c : ℕ) (xs : List X) (lists : List (List X)) → filter (λ q. eqb q.collector c) (map (placed c) xs ++ all_placed (suc c) lists) ≡ map (placed c) xs
  picked_front c xs lists =
      filter-append (λ (q : Placed X). eqb q.collector c) (map (placed c) xs) (all_placed (suc c) lists)
      ∙ (ap (λ l. l ++ filter (λ q. eqb q.collector c) (all_placed (suc c) lists)) (part_all c xs)
      ∙ (ap (λ l. map (placed c) xs ++ l) (part_none c (all_placed (suc c) lists) (above_number c lists)) ∙ append-nil (map (placed c) xs)))

  picked_later : (c k : ℕ) (xs : List X) (ps : List (Placed X)) → c < k → filter (λ q. eqb q.collector k) (map (placed c) xs ++ ps) ≡ filter (λ q. eqb q.collector k) ps
  picked_later c k [] ps lt = refl
  picked_later c k (x ∷ xs) ps lt = rw (ne_eqb c k (λ e. omega arith)) (picked_later c k xs ps lt)

  items : (c : ℕ) (xs : List X) → map (λ (p : Placed X). p.item) (map (placed c) xs) ≡ xs
  items c [] = refl
  items c (x ∷ xs) = ap (λ l. x ∷ l) (items c xs)

  parts_later : (c d n : ℕ) (xs : List X) (ps : List (Placed X)) → c < d → parts d n (map (placed c) xs ++ ps) ≡ parts d n ps
  parts_later c d zero xs ps lt = refl
  parts_later c d (suc n) xs ps lt = rw (picked_later c d xs ps lt, parts_later c (suc d) n xs ps (omega arith)) refl

  parts_all : (c : ℕ) (lists : List (List X)) → parts c (length lists) (all_placed c lists) ≡ lists
  parts_all c [] = refl
  parts_all c (xs ∷ lists) = rw (picked_front c xs lists, items c xs, parts_later c (suc c) (length lists) xs (all_placed (suc c) lists) (omega arith), parts_all (suc c) lists) refl

  parts_same : (c n : ℕ) (ps qs : List (Placed X)) → ((k : ℕ) → filter (λ q. eqb q.collector k) ps ≡ filter (λ q. eqb q.collector k) qs) → parts c n ps ≡ parts c n qs
  parts_same c zero ps qs f = refl
  parts_same c (suc n) ps qs f = rw (f c, parts_same (suc c) n ps qs f) refl

  later_times : (time : X → ℕ) (c : ℕ) (x : X) (xs : List X) → AllByRecursion (λ y. time x ≤ time y) xs → AllByRecursion (λ q. time x ≤ time q.item) (map (placed c) xs)
  later_times time c x [] a = tt
  later_times time c x (y ∷ ys) a = (a.0, later_times time c x ys a.1)

  picked_rise : (time : X → ℕ) (k c : ℕ) (xs : List X) (lists : List (List X)) → IsRising time xs → PickedRise time k (all_placed (suc c) lists) → PickedRise time k (map (placed c) xs ++ all_placed (suc c) lists)
  unfolding PickedRise
  picked_rise time k c [] lists r a = a
  picked_rise time k c (x ∷ xs) lists r a = (
    λ e. let here = picked_front c xs lists in
        subst (λ (n : ℕ). AllByRecursion (λ q. time x ≤ time q.item) (filter (λ q. eqb q.collector n) (map (placed c) xs ++ all_placed (suc c) lists))) e (rw here (later_times time c x xs r.0)),
    picked_rise time k c xs lists r.1 a,
  )

  all_picked_rise : (time : X → ℕ) (k c : ℕ) (lists : List (List X)) → AllByRecursion (IsRising time) lists → PickedRise time k (all_placed c lists)
  unfolding PickedRise
  all_picked_rise time k c [] r = tt
  all_picked_rise time k c (xs ∷ lists) r = picked_rise time k c xs lists r.0 (all_picked_rise time k (suc c) lists r.1)

  pub parts-merged : (time : X → ℕ) (lists : List (List X)) → AllByRecursion (IsRising time) lists → parts 0 (length lists) (merged time lists) ≡ lists
  parts-merged time lists r =
      parts_same 0 (length lists) (merged time lists) (all_placed 0 lists) (λ k. filter-by_time_picked time k (all_placed 0 lists) (all_picked_rise time k 0 lists r))
      ∙ parts_all 0 lists

  -- where c's first item goes before each other list's, by time and then by number, it is the first of all
  heads_late : (time : X → ℕ) (d n : ℕ) (lists : List (List X)) → ((k : ℕ) (u : X) (us : List X) → slice_get lists k ≡ Some (u ∷ us) → n ≤ time u) → AllByRecursion (IsRising time) lists → AllByRecursion (λ p. n ≤ time p.item) (all_placed d lists)
  heads_late time d n [] f r = tt
  heads_late time d n ([] ∷ lists) f r = heads_late time (suc d) n lists (λ k u us e. f (suc k) u us e) r.1
  heads_late time d n ((x ∷ xs) ∷ lists) f r =
      let le : n ≤ time x = f 0 x xs refl in
      (le, all_append _ (map (placed d) xs) (all_placed (suc d) lists) (all_weaker _ _ (λ p h. let h' : time x ≤ time p.item = h in omega arith) _ (later_times time d x xs r.0.0)) (heads_late time (suc d) n lists (λ k u us e. f (suc k) u us e) r.1))

  pub record First (time : X → ℕ) (d c : ℕ) (lists : List (List X)) (t : X) (ts : List X) : Type 0 where
    pub pre : List (Placed X)
    pub post : List (Placed X)
    pub here : all_placed d lists ≡ pre ++ placed (d + c) t ∷ post
    pub others : all_placed d (slice_set lists c ts) ≡ pre ++ post
    pub low : AllByRecursion (λ q. time t < time q.item) pre
    pub high : AllByRecursion (λ q. time t ≤ time q.item) post

  first_split : (time : X → ℕ) (d c : ℕ) (lists : List (List X)) (t : X) (ts : List X) → slice_get lists c ≡ Some (t ∷ ts) → ((k : ℕ) (u : X) (us : List X) → slice_get lists k ≡ Some (u ∷ us) → (k < c → time t < time u) × (c ≤ k → time t ≤ time u)) → AllByRecursion (IsRising time) lists → First time d c lists t ts
  first_split time d c [] t ts e f r = cc
  first_split time d zero ([] ∷ lists) t ts e f r = cc
  first_split time d zero ((x ∷ xs) ∷ lists) t ts e f r =
      let same : x ≡ t = cc in
      let rest : xs ≡ ts = cc in
      record {
        pre = [];
        post = map (placed d) ts ++ all_placed (suc d) lists;
        here = rw (same, rest, add-zero) refl;
        others = refl;
        low = tt;
        high = all_append _ (map (placed d) ts) (all_placed (suc d) lists) (later_times time d t ts (subst (λ (l : List X). AllByRecursion (λ y. time t ≤ time y) l) rest (subst (λ (y : X). AllByRecursion (λ z. time y ≤ time z) xs) same r.0.0))) (heads_late time (suc d) (time t) lists (λ k u us e'. (f (suc k) u us e').1 (omega arith)) r.1);
      }
  first_split time d (suc c) (xs ∷ lists) t ts e f r =
      let s = first_split time (suc d) c lists t ts e (λ k u us e'. (λ lt. (f (suc k) u us e').0 (omega arith), λ le. (f (suc k) u us e').1 (omega arith))) r.1 in
      record {
        pre = map (placed d) xs ++ s.pre;
        post = s.post;
        here = ap (λ l. map (placed d) xs ++ l) (s.here ∙ ap (λ (n : ℕ). s.pre ++ placed n t ∷ s.post) (let sum : suc d + c ≡ d + suc c = omega arith in sum)) ∙ sym (append_assoc (map (placed d) xs) s.pre (placed (d + suc c) t ∷ s.post));
        others = ap (λ l. map (placed d) xs ++ l) s.others ∙ sym (append_assoc (map (placed d) xs) s.pre s.post);
        low = all_append _ (map (placed d) xs) s.pre (own xs (λ u us e'. (f 0 u us (ap Some e')).0 (omega arith)) r.0) s.low;
        high = s.high;
      }
    where
      own : (ys : List X) → ((u : X) (us : List X) → ys ≡ u ∷ us → time t < time u) → IsRising time ys → AllByRecursion (λ q. time t < time q.item) (map (placed d) ys)
      own [] g r' = tt
      own (y ∷ ys) g r' = let lt : time t < time y = g y ys refl in (lt, all_weaker _ _ (λ p h. let h' : time y ≤ time p.item = h in omega arith) _ (later_times time d y ys r'.0))

  pub merged-first : (time : X → ℕ) (c : ℕ) (lists : List (List X)) (t : X) (ts : List X) → slice_get lists c ≡ Some (t ∷ ts) → ((k : ℕ) (u : X) (us : List X) → slice_get lists k ≡ Some (u ∷ us) → (k < c → time t < time u) × (c ≤ k → time t ≤ time u)) → AllByRecursion (IsRising time) lists → merged time lists ≡ placed c t ∷ merged time (slice_set lists c ts)
  merged-first time c lists t ts e f r =
      let s = first_split time 0 c lists t ts e f r in
      ap (by_time (λ q. time q.item)) (s.here ∙ ap (λ (n : ℕ). s.pre ++ placed n t ∷ s.post) (zero-add c))
      ∙ (by_time-first (λ q. time q.item) s.pre (placed c t) s.post s.low s.high
      ∙ ap (λ l. placed c t ∷ l) (ap (by_time (λ q. time q.item)) (sym s.others)))
