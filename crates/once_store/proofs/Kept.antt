-- What a cache keeps after its calls.
use Rattle.std.proofs.Common.{◌≡◌, ◌<◌, ◌≤◌, ◌+◌, ◌-◌, ℕ, length, take, arith, true, false, ◌⊎◌, List, [], ◌∷◌, Option, Some, None, nat_eq, is_some, IsSome, IfSome, OnOk, OnErr, Result, Ok, Err, IfNone, Bor, refl, sym, ap, ◌∙◌, subst, inl, inr, ⊎_elim}
use Rattle.std.specs.List.{AllByRecursion, Contains}
use Rattle.std.proofs.lemmas.List.{take_all, take-take, length-take}
use Rattle.std.specs.Option.{option_map_or, option_copied}
use Rattle.std.specs.Map.{lookup, lookup_entry, remove_entry}
use Rattle.std.specs.Cmp.{nat_eq_equiv}
use Rattle.std.proofs.lemmas.Bool.{cases_lt, eqb-true, eq-eqb, false≢true}
use Rattle.lru.specs.LruCache.{LruCache, lru_cache, promoted, put_entries}
use Rattle.lru.proofs.Splits.{Contains-head, Contains-tail, Contains-cons, Contains-nil}
use Rattle.lru.proofs.CallerLemmas.{Contains-lookup, Contains-lookup_entry, Contains-promoted, Contains-put_entries, lookup-put_entries}

pub all_of : {X : Type 0} (P : X → Type 0) (xs : List X) → ((x : X) → Contains xs x → P x) → AllByRecursion P xs
all_of P [] f = tt
all_of P (x ∷ xs) f = (f x (Contains-head x xs), all_of P xs (λ y c. f y (Contains-tail x xs y c)))

pub in_all : {X : Type 0} (P : X → Type 0) (xs : List X) (x : X) → AllByRecursion P xs → Contains xs x → P x
in_all P [] x a c = absurd (Contains-nil x c)
in_all P (y ∷ xs) x a c = elim (Contains-cons y xs x c) [ inl e ↦ subst P e a.0 | inr d ↦ in_all P xs x a.1 d ]

abbrev pub Pairs : Type 0
Pairs = List (ℕ × List ℕ)

none_found : (n : ℕ) (es : Pairs) → lookup_entry (nat_eq n) es ≡ None → is_some (lookup (nat_eq n) es) ≡ false
none_found n [] e = refl
none_found n (f ∷ es) e = (elim (nat_eq n f.0) as (λ y. nat_eq n f.0 ≡ y → is_some (lookup (nat_eq n) (f ∷ es)) ≡ false) [
  | true ↦ λ t. let e' = rw t at e in cc
  | false ↦ λ t. rw t (none_found n es (rw t at e))
]) refl

-- what is found is first once it was touched
pub touched : (n : ℕ) (es : Pairs) → is_some (lookup (nat_eq n) es) ≡ true → (block : List ℕ) × Contains (promoted (nat_eq n) es) (n, block)
touched n es found = by (lookup_entry (nat_eq n) es) refl
  where
    by : (o : Option (ℕ × List ℕ)) → lookup_entry (nat_eq n) es ≡ o → (block : List ℕ) × Contains (option_map_or (λ f. f ∷ remove_entry (nat_eq n) es) o es) (n, block)
    by None e = absurd (false≢true (sym (none_found n es e) ∙ found))
    by (Some f) e =
        let same : n ≡ f.0 = eqb-true n f.0 (Contains-lookup_entry (nat_eq n) es f e).1 in
        (f.1, subst (λ (k : ℕ). Contains (f ∷ remove_entry (nat_eq n) es) (k, f.1)) (sym same) (Contains-head f (remove_entry (nat_eq n) es)))

pub put_kept : (c : LruCache ℕ (List ℕ)) (n : ℕ) (block : List ℕ) → Contains (put_entries nat_eq c n block) (n, block)
put_kept c n block =
    let f = Contains-lookup (nat_eq n) (put_entries nat_eq c n block) block (lookup-put_entries nat_eq c n block nat_eq_equiv) in
    let same : n ≡ f.0 = eqb-true n f.0 f.2 in
    subst (λ (k : ℕ). Contains (put_entries nat_eq c n block) (k, block)) (sym same) f.1

pub put_only : (c : LruCache ℕ (List ℕ)) (n : ℕ) (block : List ℕ) (m : ℕ) (other : List ℕ) → Contains (put_entries nat_eq c n block) (m, other) → Contains c.entries (m, other) ⊎ ((m ≡ n) × (other ≡ block))
put_only c n block m other k = elim (Contains-put_entries nat_eq c n block (m, other) k) [
  | inl old ↦ inl old
  | inr p ↦ inr (elim p.1 [ inl e ↦ e | inr was ↦ sym (eqb-true n m was.2) ], p.0)
]

pub peeked : (n : ℕ) (es : Pairs) (r : Option (Bor (List ℕ))) → option_copied r ≡ lookup (nat_eq n) es → IfSome r (λ block. Contains es (n, block.now))
peeked n es None e = tt
peeked n es (Some b) e =
    let f = Contains-lookup (nat_eq n) es b.now (sym e) in
    let same : n ≡ f.0 = eqb-true n f.0 f.2 in
    subst (λ (k : ℕ). Contains es (k, b.now)) (sym same) f.1

-- what was read is what is known
pub read_known : (known : ℕ → Option (List ℕ)) (n : ℕ) (into : List ℕ) → IsSome (known n) → ((block : List ℕ) → known n ≡ Some block → into ≡ block) → known n ≡ Some into
read_known known n into some is = by (known n) refl some
  where
    by : (o : Option (List ℕ)) → known n ≡ o → IsSome o → known n ≡ Some into
    by None e s = cc
    by (Some block) e s = e ∙ ap Some (sym (is block e))

-- where no value is found under a number, no block is kept under it
absent : (n : ℕ) (es : Pairs) → lookup (nat_eq n) es ≡ None → (block : List ℕ) → Contains es (n, block) → ⊥
absent n [] h block c = Contains-nil (n, block) c
absent n (f ∷ es) h block c = (elim (nat_eq n f.0) as (λ y. nat_eq n f.0 ≡ y → ⊥) [
  | true ↦ λ t. let h' = rw t at h in cc
  | false ↦ λ t. elim (Contains-cons f es (n, block) c) [
    | inl same ↦ false≢true (sym t ∙ eq-eqb n f.0 (sym (ap (λ (p : ℕ × List ℕ). p.0) same)))
    | inr d ↦ absent n es (rw t at h) block d
  ]
]) refl

-- what is looked for and isn't found isn't there
pub not_peeked : (n : ℕ) (es : Pairs) (r : Option (Bor (List ℕ))) → option_copied r ≡ lookup (nat_eq n) es → IfNone r ((block : List ℕ) → Contains es (n, block) → ⊥)
not_peeked n es (Some b) e = tt
not_peeked n es None e = absent n es (sym e)

-- what is there is found
pub is_found : (n : ℕ) (es : Pairs) (block : List ℕ) → Contains es (n, block) → is_some (lookup (nat_eq n) es) ≡ true
is_found n es block k = by (lookup (nat_eq n) es) refl
  where
    by : (o : Option (List ℕ)) → lookup (nat_eq n) es ≡ o → is_some o ≡ true
    by None e = absurd (absent n es e block k)
    by (Some b) e = refl

-- an entry is the one that is taken out, or stays
not_removed : (n : ℕ) (es : Pairs) (f e : ℕ × List ℕ) → lookup_entry (nat_eq n) es ≡ Some f → Contains es e → (f ≡ e) ⊎ Contains (remove_entry (nat_eq n) es) e
not_removed n [] f e h k = absurd (Contains-nil e k)
not_removed n (g ∷ es) f e h k = (elim (nat_eq n g.0) as (λ y. nat_eq n g.0 ≡ y → (f ≡ e) ⊎ Contains (remove_entry (nat_eq n) (g ∷ es)) e) [
  | true ↦ λ t. rw t (elim (Contains-cons g es e k) [
    | inl same ↦ inl (by_some (rw t at h) ∙ same)
    | inr d ↦ inr d
  ])
  | false ↦ λ t. rw t (elim (Contains-cons g es e k) [
    | inl same ↦ inr (subst (λ (x : ℕ × List ℕ). Contains (g ∷ remove_entry (nat_eq n) es) x) same (Contains-head g (remove_entry (nat_eq n) es)))
    | inr d ↦ elim (not_removed n es f e (rw t at h) d) [ inl same ↦ inl same | inr there ↦ inr (Contains-tail g (remove_entry (nat_eq n) es) e there) ]
  ])
]) refl
  where
    by_some : Some g ≡ Some f → f ≡ g
    by_some h = cc

-- an entry that is kept stays where one is promoted
pub promoted_all : (n : ℕ) (es : Pairs) (e : ℕ × List ℕ) → Contains es e → Contains (promoted (nat_eq n) es) e
promoted_all n es e k = by (lookup_entry (nat_eq n) es) refl
  where
    by : (o : Option (ℕ × List ℕ)) → lookup_entry (nat_eq n) es ≡ o → Contains (option_map_or (λ f. f ∷ remove_entry (nat_eq n) es) o es) e
    by None h = k
    by (Some f) h = elim (not_removed n es f e h k) [
      | inl same ↦ subst (λ (x : ℕ × List ℕ). Contains (f ∷ remove_entry (nat_eq n) es) x) same (Contains-head f (remove_entry (nat_eq n) es))
      | inr there ↦ Contains-tail f (remove_entry (nat_eq n) es) e there
    ]

-- where nothing is found, nothing is promoted
pub promoted_none : (n : ℕ) (es : Pairs) → is_some (lookup (nat_eq n) es) ≡ false → promoted (nat_eq n) es ≡ es
promoted_none n es missed = by (lookup_entry (nat_eq n) es) refl
  where
    by : (o : Option (ℕ × List ℕ)) → lookup_entry (nat_eq n) es ≡ o → option_map_or (λ f. f ∷ remove_entry (nat_eq n) es) o es ≡ es
    by None h = refl
    by (Some f) h =
        let there = Contains-lookup_entry (nat_eq n) es f h in
        let same : n ≡ f.0 = eqb-true n f.0 there.1 in
        absurd (false≢true (sym missed ∙ is_found n es f.1 (subst (λ (k : ℕ). Contains es (k, f.1)) (sym same) there.0)))

-- where there is room, a put drops no entry
pub put_stays : (c : LruCache ℕ (List ℕ)) (n : ℕ) (block : List ℕ) → length c.entries < c.cap → ((other : List ℕ) → Contains c.entries (n, other) → ⊥) → (m : ℕ) (other : List ℕ) → Contains c.entries (m, other) → Contains (put_entries nat_eq c n block) (m, other)
put_stays c n block room none m other k = by (lookup_entry (nat_eq n) c.entries) refl
  where
    by : (o : Option (ℕ × List ℕ)) → lookup_entry (nat_eq n) c.entries ≡ o → Contains (option_map_or (λ e. (e.0, block) ∷ remove_entry (nat_eq n) c.entries) o ((n, block) ∷ take (c.cap - 1) c.entries)) (m, other)
    by None h = Contains-tail (n, block) (take (c.cap - 1) c.entries) (m, other) (subst (λ (l : Pairs). Contains l (m, other)) (sym (take_all (c.cap - 1) c.entries (omega arith))) k)
    by (Some f) h =
        let there = Contains-lookup_entry (nat_eq n) c.entries f h in
        let same : n ≡ f.0 = eqb-true n f.0 there.1 in
        absurd (none f.1 (subst (λ (x : ℕ). Contains c.entries (x, f.1)) (sym same) there.0))

-- each that is kept is whole after a put, done or refused
pub put_all : {T E : Type 0} (P : ℕ × List ℕ → Type 0) (result : Result T E) (old new : LruCache ℕ (List ℕ)) (n : ℕ) (block : List ℕ) → OnOk result (new ≡ lru_cache (put_entries nat_eq old n block) old.cap) → OnErr result (new ≡ old) → AllByRecursion P old.entries → P (n, block) → AllByRecursion P new.entries
put_all P (Ok r) old new n block ok err all one =
    rw ok (all_of P (put_entries nat_eq old n block) (λ e k. elim (put_only old n block e.0 e.1 k) [
      | inl was ↦ in_all P old.entries e all was
      | inr is ↦ subst (λ (m : ℕ). P (m, e.1)) (sym is.0) (subst (λ (b : List ℕ). P (n, b)) (sym is.1) one)
    ]))
put_all P (Err r) old new n block ok err all one = rw err all

-- what a cache keeps once an entry was promoted it kept before
pub promoted_was : (n : ℕ) (old new : LruCache ℕ (List ℕ)) → new ≡ lru_cache (promoted (nat_eq n) old.entries) old.cap → (e : ℕ × List ℕ) → Contains new.entries e → Contains old.entries e
promoted_was n old new same e k = Contains-promoted (nat_eq n) old.entries e (subst (λ (l : LruCache ℕ (List ℕ)). Contains l.entries e) same k)

-- what is found is first once it was promoted, and the others are as they were
pub moved : (n : ℕ) (es : Pairs) → is_some (lookup (nat_eq n) es) ≡ true → (block : List ℕ) × (promoted (nat_eq n) es ≡ (n, block) ∷ remove_entry (nat_eq n) es)
moved n es found = by (lookup_entry (nat_eq n) es) refl
  where
    by : (o : Option (ℕ × List ℕ)) → lookup_entry (nat_eq n) es ≡ o → (block : List ℕ) × (option_map_or (λ f. f ∷ remove_entry (nat_eq n) es) o es ≡ (n, block) ∷ remove_entry (nat_eq n) es)
    by None e = absurd (false≢true (sym (none_found n es e) ∙ found))
    by (Some f) e =
        let same : n ≡ f.0 = eqb-true n f.0 (Contains-lookup_entry (nat_eq n) es f e).1 in
        (f.1, ap (λ (k : ℕ). (k, f.1) ∷ remove_entry (nat_eq n) es) (sym same))

-- without one that is there, there is one fewer
fewer_by_one : (n : ℕ) (es : Pairs) (f : ℕ × List ℕ) → lookup_entry (nat_eq n) es ≡ Some f → length (remove_entry (nat_eq n) es) + 1 ≡ length es
fewer_by_one n [] f h = cc
fewer_by_one n (g ∷ es) f h = (elim (nat_eq n g.0) as (λ y. nat_eq n g.0 ≡ y → length (remove_entry (nat_eq n) (g ∷ es)) + 1 ≡ length (g ∷ es)) [
  | true ↦ λ t. rw t (omega arith)
  | false ↦ λ t. rw t (omega (arith, fewer_by_one n es f (rw t at h)))
]) refl

-- as many are kept once one was promoted
pub as_many : (n : ℕ) (es : Pairs) → length (promoted (nat_eq n) es) ≡ length es
as_many n es = by (lookup_entry (nat_eq n) es) refl
  where
    by : (o : Option (ℕ × List ℕ)) → lookup_entry (nat_eq n) es ≡ o → length (option_map_or (λ f. f ∷ remove_entry (nat_eq n) es) o es) ≡ length es
    by None e = refl
    by (Some f) e = omega (arith, fewer_by_one n es f e)

-- a put of a number that isn't kept puts the block before the others, of which the last one goes where they are too many
pub put_first : (c : LruCache ℕ (List ℕ)) (n : ℕ) (block : List ℕ) → ((other : List ℕ) → Contains c.entries (n, other) → ⊥) → put_entries nat_eq c n block ≡ (n, block) ∷ take (c.cap - 1) c.entries
put_first c n block none = by (lookup_entry (nat_eq n) c.entries) refl
  where
    by : (o : Option (ℕ × List ℕ)) → lookup_entry (nat_eq n) c.entries ≡ o → option_map_or (λ e. (e.0, block) ∷ remove_entry (nat_eq n) c.entries) o ((n, block) ∷ take (c.cap - 1) c.entries) ≡ (n, block) ∷ take (c.cap - 1) c.entries
    by None h = refl
    by (Some f) h =
        let there = Contains-lookup_entry (nat_eq n) c.entries f h in
        let same : n ≡ f.0 = eqb-true n f.0 there.1 in
        absurd (none f.1 (subst (λ (x : ℕ). Contains c.entries (x, f.1)) (sym same) there.0))

-- what is left once a block may have made room
abbrev pub LeftOf : ℕ → Pairs → Pairs → Type 0
LeftOf cap es left = (left ≡ es) ⊎ (left ≡ take (cap - 1) es)

pub left_of : (cap : ℕ) (es left : Pairs) → (length es < cap → left ≡ es) → (cap ≤ length es → left ≡ take (cap - 1) es) → LeftOf cap es left
left_of cap es left stays last = ⊎_elim (λ (below : length es < cap). inl (stays below)) (λ (full : cap ≤ length es). inr (last full)) (cases_lt (length es) cap)

pub left_cut : (cap : ℕ) (es left : Pairs) → LeftOf cap es left → take (cap - 1) left ≡ take (cap - 1) es
left_cut cap es left (inl e) = ap (take (cap - 1)) e
left_cut cap es left (inr e) = ap (take (cap - 1)) e ∙ take-take (cap - 1) (cap - 1) es (omega arith)

pub cut_by_one : (cap : ℕ) (es : Pairs) → length es ≤ cap → length es ≤ length (take (cap - 1) es) + 1
cut_by_one cap es few = omega (arith, length-take (cap - 1) es)

pub left_by_one : (cap : ℕ) (es left : Pairs) → length es ≤ cap → LeftOf cap es left → length es ≤ length left + 1
left_by_one cap es left few (inl e) = omega (arith, ap length e)
left_by_one cap es left few (inr e) = omega (arith, ap length e, cut_by_one cap es few)
