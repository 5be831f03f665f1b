-- The keys of entries, put into a map.
use Rattle.std.proofs.Common.{◌≡◌, ℕ, suc, ◌<◌, ◌≤◌, ◌↔◌, ◌⊎◌, List, [], ◌∷◌, ◌++◌, length, Option, Some, None, IsSome, Bool, true, false, IsTrue, cond, Result, Ok, Err, OnOk, refl, sym, ap, ◌∙◌, subst, inl, inr, arith, true≢false}
use Rattle.std.specs.Option.{is_some}
use Rattle.std.specs.BTreeMap.{BTreeMap, get, Updates, IsLowerBound}
use Rattle.std.specs.Ordering.{nat_cmp, is_eq, is_gt}
use Rattle.std.proofs.lemmas.Bool.{cases_eq, cases_lt}
use Rattle.std.proofs.lemmas.Bool.Decides.{nat_tests}
use Rattle.version_model.specs.declared.entry.Entry.{Entry}
use Rattle.version_model.specs.Entries.{version_of, versions_of}
use Rattle.version_model.specs.Ranges.{Range, IsPoint}
use Rattle.version_model.specs.LeafVersions.{LeafRepresents}
use Rattle.version_model.specs.Versions.{Version, Has}
use Rattle.version_model.proofs.api.LooksShown.{Has-tail, Has-head, Has-cases}
use Rattle.version_model.proofs.api.Pushed.{Has-nil}
use Rattle.tsb_walk.specs.Touched.{AreTouched, HasWithin, NoneTouched}
use Rattle.tree_questions.specs.inner.Gathered.{HasEntry, IsEntryOf, IsGathered}

no_gt : (a b : ℕ) → is_gt (nat_cmp a b) ≡ false → a ≤ b
no_gt a b is = grind (arith, nat_tests)

other : (a b : ℕ) → (a ≡ b → ⊥) → is_eq (nat_cmp a b) ≡ false
other a b ne = grind (arith, nat_tests)

same : (a b : ℕ) → a ≡ b → is_eq (nat_cmp a b) ≡ true
same a b e = grind (arith, nat_tests)

no_some : (o : Option ℕ) → o ≡ None → IsSome o → ⊥
no_some o e some = true≢false (sym some ∙ ap is_some e)

-- ---- one entry after another

module _ (m n : BTreeMap ℕ ℕ) (at value : ℕ) (updates : Updates nat_cmp m n at (Some value)) where
  -- the key is there then
  pub put_there : IsSome (get nat_cmp n at)
  put_there = ap is_some (updates.0 at ∙ ap (λ (b : Bool). cond b (Some value) (get nat_cmp m at)) (same at at refl))

  pub put_keeps : (key : ℕ) → IsSome (get nat_cmp m key) → IsSome (get nat_cmp n key)
  put_keeps key some = elim (cases_eq at key) [
    | inl e ↦ subst (λ (k : ℕ). IsSome (get nat_cmp n k)) e put_there
    | inr ne ↦ subst (λ (o : Option ℕ). IsSome o) (sym (updates.2 key (other at key ne))) some
  ]

  pub put_only : (key : ℕ) → IsSome (get nat_cmp n key) → (at ≡ key) ⊎ IsSome (get nat_cmp m key)
  put_only key some = elim (cases_eq at key) [
    | inl e ↦ inl e
    | inr ne ↦ inr (subst (λ (o : Option ℕ). IsSome o) (updates.2 key (other at key ne)) some)
  ]

module _ (from first end : ℕ) (m n : BTreeMap ℕ ℕ) (entry : Entry) where
  -- an entry that counts is put in
  pub one_put : (from ≤ entry.key) × (first ≤ entry.stamp) × (entry.stamp < end) → Updates nat_cmp m n entry.key (Some entry.stamp) → (key : ℕ) → IsSome (get nat_cmp n key) ↔ (IsSome (get nat_cmp m key) ⊎ IsEntryOf from first end key entry)
  one_put counts updates key = (
    λ some. elim (put_only m n entry.key entry.stamp updates key some) [
      | inl e ↦ inr (e, counts.0, counts.1, counts.2)
      | inr old ↦ inl old
    ],
    λ h. elim h [
      | inl old ↦ put_keeps m n entry.key entry.stamp updates key old
      | inr here ↦ subst (λ (k : ℕ). IsSome (get nat_cmp n k)) here.0 (put_there m n entry.key entry.stamp updates)
    ],
  )

  -- another one is passed
  pub one_passed : ((from ≤ entry.key) × (first ≤ entry.stamp) × (entry.stamp < end) → ⊥) → (key : ℕ) → IsSome (get nat_cmp m key) ↔ (IsSome (get nat_cmp m key) ⊎ IsEntryOf from first end key entry)
  one_passed never key = (
    λ some. inl some,
    λ h. elim h [
      | inl old ↦ old
      | inr here ↦ absurd (never (here.1, here.2, here.3))
    ],
  )

-- an entry goes from the list into the map
pub moves : {N M E R : Type 0} → N ↔ (M ⊎ E) → (N ⊎ R) ↔ (M ⊎ (E ⊎ R))
moves h = (
  λ x. elim x [
    | inl n ↦ elim (h.0 n) [
      | inl m ↦ inl m
      | inr e ↦ inr (inl e)
    ]
    | inr r ↦ inr (inr r)
  ],
  λ x. elim x [
    | inl m ↦ inl (h.1 (inl m))
    | inr y ↦ elim y [
      | inl e ↦ inl (h.1 (inr e))
      | inr r ↦ inr r
    ]
  ],
)

pub chain : {A B C : Type 0} → A ↔ B → B ↔ C → A ↔ C
chain f g = (λ a. g.0 (f.0 a), λ c. f.1 (g.1 c))

-- all entries are in the map
pub all_put : {A B : Type 0} (from first end key : ℕ) (rest : List Entry) → rest ≡ [] → (A ⊎ HasEntry from first end key rest) ↔ B → A ↔ B
all_put {A} {B} from first end key rest e h = (
  λ a. h.0 (inl a),
  λ b. elim (h.1 b) [
    | inl a ↦ a
    | inr there ↦ absurd (none rest e there)
  ],
)
  where
    none : (l : List Entry) → l ≡ [] → HasEntry from first end key l → ⊥
    none [] e h = h
    none (x ∷ l) e h = absurd (cc)

-- ---- entries are versions

pub entry_version : (from first end key : ℕ) (entries : List Entry) → HasEntry from first end key entries → (from ≤ key) × HasWithin (versions_of entries) key first end
entry_version from first end key [] h = absurd h
entry_version from first end key (entry ∷ entries) h = elim h [
  | inl is ↦ (omega (arith, is.0, is.1), record { version = version_of entry; has = Has-head (version_of entry) (versions_of entries); of_key = is.0; from = is.2; before = is.3 })
  | inr later ↦ (
      let v = entry_version from first end key entries later in
      let w = v.1 in
      (v.0, record { version = w.version; has = Has-tail (version_of entry) (versions_of entries) w.version w.has; of_key = w.of_key; from = w.from; before = w.before }))
]

pub version_entry : (from first end key : ℕ) (entries : List Entry) (v : Version) → from ≤ key → Has (versions_of entries) v → v.key ≡ key → first ≤ v.stamp → v.stamp < end → HasEntry from first end key entries
version_entry from first end key [] v low has of at before = absurd (Has-nil v has)
version_entry from first end key (entry ∷ entries) v low has of at before = elim (Has-cases (version_of entry) (versions_of entries) v has) [
  | inl here ↦ (
      let k : entry.key ≡ key = ap (λ (u : Version). u.key) (sym here) ∙ of in
      let s : v.stamp ≡ entry.stamp = ap (λ (u : Version). u.stamp) here in
      inl (k, omega (arith, k, low), omega (arith, s, at), omega (arith, s, before)))
  | inr later ↦ inr (version_entry from first end key entries v low later of at before)
]

-- ---- a leaf more

module _ (all : List Version) (r : Range) (leaf : List Version) (shows : LeafRepresents all r leaf) where
  -- of the range's keys, a leaf has the versions in its stamps that there are
  leaf_all : (key first end : ℕ) → r.low ≤ key → key < r.high → r.start ≤ first → end ≤ r.end → HasWithin leaf key first end → HasWithin all key first end
  leaf_all key first end low high start upto h = record {
    version = h.version;
    has = shows.true_ones h.version h.has (record { low = omega (arith, low, h.of_key); high = omega (arith, high, h.of_key) }) (omega (arith, h.before, upto));
    of_key = h.of_key;
    from = h.from;
    before = h.before;
  }

  all_leaf : (key first end : ℕ) → r.low ≤ key → key < r.high → r.start ≤ first → end ≤ r.end → HasWithin all key first end → HasWithin leaf key first end
  all_leaf key first end low high start upto h = record {
    version = h.version;
    has = shows.whole h.version h.has (record { low = omega (arith, low, h.of_key); high = omega (arith, high, h.of_key) }) (omega (arith, start, h.from)) (omega (arith, h.before, upto));
    of_key = h.of_key;
    from = h.from;
    before = h.before;
  }

-- a span and the one after it
later : (all : List Version) (key first at end : ℕ) → first ≤ at → HasWithin all key at end → HasWithin all key first end
later all key first at end le h = record { version = h.version; has = h.has; of_key = h.of_key; from = omega (arith, le, h.from); before = h.before }

earlier : (all : List Version) (key first at end : ℕ) → at ≤ end → HasWithin all key first at → HasWithin all key first end
earlier all key first at end le h = record { version = h.version; has = h.has; of_key = h.of_key; from = h.from; before = omega (arith, le, h.before) }

in_two : (all : List Version) (key first at end : ℕ) → HasWithin all key first end → HasWithin all key first at ⊎ HasWithin all key at end
in_two all key first at end h = elim (cases_lt h.version.stamp at) [
  | inl lt ↦ inl (record { version = h.version; has = h.has; of_key = h.of_key; from = h.from; before = lt })
  | inr ge ↦ inr (record { version = h.version; has = h.has; of_key = h.of_key; from = ge; before = h.before })
]

pub gathers : (all : List Version) (r : Range) (leaf : List Version) (entries : List Entry) (first from at end high new : ℕ) (m n : BTreeMap ℕ ℕ) → LeafRepresents all r leaf → versions_of entries ≡ leaf → IsPoint r from at → first ≤ at → at ≤ end → end ≤ r.end → new ≤ high → new ≤ r.high
    → ((key : ℕ) → IsSome (get nat_cmp n key) ↔ (IsSome (get nat_cmp m key) ⊎ HasEntry from at end key entries)) → IsGathered all first from at high m → IsGathered all first from end new n
gathers all r leaf entries first from at end high new m n shows is point begun onward within lower inside put so = record {
  above = λ key some. elim ((put key).0 some) [
    | inl old ↦ so.above key old
    | inr there ↦ (entry_version from at end key entries there).0
  ];
  only = λ key some below. elim ((put key).0 some) [
    | inl old ↦ earlier all key first at end onward (so.only key old (omega (arith, below, lower)))
    | inr there ↦ (
        let v = entry_version from at end key entries there in
        let w : HasWithin leaf key at end = subst (λ (l : List Version). HasWithin l key at end) is v.1 in
        later all key first at end begun (leaf_all all r leaf shows key at end (omega (arith, point.low, v.0)) (omega (arith, below, inside)) point.start within w))
  ];
  each = λ key low below h. elim (in_two all key first at end h) [
    | inl old ↦ (put key).1 (inl (so.each key low (omega (arith, below, lower)) old))
    | inr new ↦ (
        let w = all_leaf all r leaf shows key at end (omega (arith, point.low, low)) (omega (arith, below, inside)) point.start within new in
        let w' : HasWithin (versions_of entries) key at end = subst (λ (l : List Version). HasWithin l key at end) (sym is) w in
        (put key).1 (inr (version_entry from at end key entries w'.version low w'.has w'.of_key w'.from w'.before)))
  ];
}

-- ---- the keys of the map, one after another

none_join : (all : List Version) (first end from at to : ℕ) → NoneTouched all first end from at → NoneTouched all first end at to → NoneTouched all first end from to
none_join all first end from at to a b = λ key low high. elim (cases_lt key at) [
  | inl below ↦ a key low below
  | inr above ↦ b key above high
]

-- no more keys up to a higher one
touched_more : (all : List Version) (first end from at to : ℕ) (keys : List ℕ) → at ≤ to → AreTouched all first end from at keys → NoneTouched all first end at to → AreTouched all first end from to keys
touched_more all first end from at to [] le t none = none_join all first end from at to t none
touched_more all first end from at to (key ∷ keys) le t none = (t.0, omega (arith, t.1, le), t.2, t.3, touched_more all first end (suc key) at to keys le t.4 none)

-- one key more
touched_push : (all : List Version) (first end from at key : ℕ) (keys : List ℕ) → from ≤ at → at ≤ key → AreTouched all first end from at keys → NoneTouched all first end at key → HasWithin all key first end → AreTouched all first end from (suc key) (keys ++ key ∷ [])
touched_push all first end from at key [] low above t none has = (omega (arith, low, above), omega arith, has, none_join all first end from at key t none, λ k a b. absurd (omega (arith, a, b)))
touched_push all first end from at key (k ∷ keys) low above t none has = (t.0, omega (arith, t.1, above), t.2, t.3, touched_push all first end (suc k) at key keys (omega (arith, t.1)) above t.4 none has)

-- those up to a key are listed, and the map has the others
pub record AreTaken (all : List Version) (first end from high : ℕ) (keys : List ℕ) (m : BTreeMap ℕ ℕ) : Type 0 where
  pub at : ℕ
  pub low : from ≤ at
  pub within : at ≤ high
  pub touched : AreTouched all first end from at keys
  pub rest : IsGathered all first at end high m

pub takes_none : (all : List Version) (first end from high : ℕ) (m : BTreeMap ℕ ℕ) → from ≤ high → IsGathered all first from end high m → AreTaken all first end from high [] m
takes_none all first end from high m le so = record { at = from; low = omega arith; within = le; touched = λ key a b. absurd (omega (arith, a, b)); rest = so }

pub takes_all : (all : List Version) (first end from high : ℕ) (keys : List ℕ) (m : BTreeMap ℕ ℕ) → m.entries ≡ [] → AreTaken all first end from high keys m → AreTouched all first end from high keys
takes_all all first end from high keys m empty so = touched_more all first end from so.at high keys so.within so.touched (λ key low below h. no_some (get nat_cmp m key) (let e : get nat_cmp m key ≡ None = rw empty refl in e) (so.rest.each key low below h))

module _ (all : List Version) (first end from high : ℕ) (keys : List ℕ) (m n : BTreeMap ℕ ℕ) (key value : ℕ) (so : AreTaken all first end from high keys m) (here : get nat_cmp m key ≡ Some value) (least : IsLowerBound nat_cmp m key) where
  above : so.at ≤ key
  above = so.rest.above key (ap is_some here)

  none_upto : (to : ℕ) → to ≤ key → to ≤ high → NoneTouched all first end so.at to
  none_upto to upto inside = λ k low lt h. (let le = no_gt key k (least k (so.rest.each k low (omega (arith, lt, inside)) h)) in absurd (omega (arith, le, lt, upto)))

  -- the first key isn't below the high one
  pub ends_there : high ≤ key → AreTouched all first end from high keys
  ends_there past = touched_more all first end from so.at high keys so.within so.touched (none_upto high past (omega arith))

  -- it is
  pub takes_next : (high ≤ key → ⊥) → Updates nat_cmp m n key None → AreTaken all first end from high (keys ++ key ∷ []) n
  takes_next never updates =
      let up = above in
      let inside : key < high = elim (cases_lt key high) [ inl lt ↦ lt | inr ge ↦ absurd (never ge) ] in
      record {
        at = suc key;
        low = omega (arith, so.low, up);
        within = inside;
        touched = touched_push all first end from so.at key keys so.low up so.touched (none_upto key (omega arith) (omega (arith, inside))) (so.rest.only key (ap is_some here) inside);
        rest = record {
          above = λ k some. elim (cases_eq key k) [
            | inl e ↦ absurd (no_some (get nat_cmp n k) (updates.0 k ∙ ap (λ (b : Bool). cond b None (get nat_cmp m k)) (same key k e)) some)
            | inr ne ↦ (let le : key ≤ k = no_gt key k (least k (subst (λ (o : Option ℕ). IsSome o) (updates.2 k (other key k ne)) some)) in omega (arith, le, ne))
          ];
          only = λ k some below. elim (cases_eq key k) [
            | inl e ↦ absurd (no_some (get nat_cmp n k) (updates.0 k ∙ ap (λ (b : Bool). cond b None (get nat_cmp m k)) (same key k e)) some)
            | inr ne ↦ so.rest.only k (subst (λ (o : Option ℕ). IsSome o) (updates.2 k (other key k ne)) some) below
          ];
          each = λ k low below h. (
              let ne : key ≡ k → ⊥ = λ e. omega (arith, e, low) in
              subst (λ (o : Option ℕ). IsSome o) (sym (updates.2 k (other key k ne))) (so.rest.each k (omega (arith, up, low)) below h));
        };
      }

-- where a span ends at or before the stamp that the gathering has come to, this is its end, or it is empty
pub ends_at : (all : List Version) (first at end from to : ℕ) (keys : List ℕ) → end ≤ at → (at ≤ end) ⊎ (at ≡ first) → AreTouched all first at from to keys → AreTouched all first end from to keys
ends_at all first at end from to keys past (inl le) t = subst (λ (e : ℕ). AreTouched all first e from to keys) (let e : at ≡ end = omega (arith, past, le) in e) t
ends_at all first at end from to [] past (inr e) t = λ key low high h. absurd (omega (arith, h.from, h.before, past, e))
ends_at all first at end from to (key ∷ keys) past (inr e) t = absurd (omega (arith, t.2.from, t.2.before, e))

pub on_ok : {A E : Type 0} (r : Result A E) (P Q : Type 0) → (P → Q) → OnOk r P → OnOk r Q
on_ok (Ok a) P Q f h = f h
on_ok (Err e) P Q f h = tt

pub not_before : (stamp end : ℕ) (b : Bool) → (IsTrue b ↔ (stamp < end)) → b ≡ false → end ≤ stamp
not_before stamp end b decides e = elim (cases_lt stamp end) [
  | inl lt ↦ absurd (true≢false (sym (decides.1 lt) ∙ e))
  | inr ge ↦ ge
]
