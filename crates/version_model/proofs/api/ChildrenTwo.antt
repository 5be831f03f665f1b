-- A key node after one of its children has become two.
use Rattle.std.proofs.Common.{◌≡◌, ℕ, zero, suc, ◌-◌, ◌<◌, ◌≤◌, ◌⊎◌, inl, inr, List, [], ◌∷◌, Option, Some, slice_get, length, take, refl, sym, ◌∙◌, ap, subst, arith}
use Rattle.std.specs.List.{insert}
use Rattle.std.proofs.lemmas.Bool.{cases_order}
use Rattle.std.proofs.lemmas.Option.{same_Some, none-some, slice_get_within}
use Rattle.version_model.specs.declared.child.Child.{Child}
use Rattle.version_model.specs.Versions.{Version}
use Rattle.version_model.specs.Blocks.{BlockNode}
use Rattle.version_model.specs.Pages.{Keys, PageNode, KeyNode, NodeRepresents, column, key_node, IsChildOf, AreChildren, child_keys, low_or}
use Rattle.version_model.specs.Inserts.{LocatedUnder}

pub get-insert_below : {X : Type 0} (xs : List X) (i k : ℕ) (y : X) → k < i → i ≤ length xs → slice_get (insert xs i y) k ≡ slice_get xs k
get-insert_below [] i k y lt within = absurd (omega arith)
get-insert_below (x ∷ xs) zero k y lt within = absurd (omega arith)
get-insert_below (x ∷ xs) (suc i) zero y lt within = refl
get-insert_below (x ∷ xs) (suc i) (suc k) y lt within = get-insert_below xs i k y (omega arith) (omega arith)

pub get-insert_at : {X : Type 0} (xs : List X) (i : ℕ) (y : X) → i ≤ length xs → slice_get (insert xs i y) i ≡ Some y
get-insert_at xs zero y within = refl
get-insert_at [] (suc i) y within = absurd (omega arith)
get-insert_at (x ∷ xs) (suc i) y within = get-insert_at xs i y (omega arith)

pub get-insert_above : {X : Type 0} (xs : List X) (i k : ℕ) (y : X) → i ≤ k → i ≤ length xs → slice_get (insert xs i y) (suc k) ≡ slice_get xs k
get-insert_above xs zero k y le within = refl
get-insert_above [] (suc i) k y le within = absurd (omega arith)
get-insert_above (x ∷ xs) (suc i) zero y le within = absurd (omega arith)
get-insert_above (x ∷ xs) (suc i) (suc k) y le within = get-insert_above xs i k y (omega arith) (omega arith)

-- where nothing of its own changes, a node stands on
module _ (nodes nodes' : ℕ → Option PageNode) (limit limit' : ℕ) (old : ℕ → Option BlockNode) (next : ℕ) (all : List Version) (grows : limit ≤ limit') where
  abbrev pub SameUnder : ℕ → Keys → Type 0
  SameUnder level keys = (page : ℕ) (node : PageNode) → page < limit → nodes page ≡ Some node → LocatedUnder level keys node → nodes' page ≡ Some node

  pub represents_framed : (level : ℕ) (keys : Keys) (page : ℕ) → keys.low < keys.high → SameUnder level keys → NodeRepresents nodes limit old next all level keys page → NodeRepresents nodes' limit' old next all level keys page
  represents_framed _ _ _ nonempty same (column keys page c) = column keys page (record {
    parts = c.parts;
    current = c.current;
    start = c.start;
    versions = c.versions;
    in_limit = omega (arith, c.in_limit);
    at = same page _ c.in_limit c.at (record { no_higher = omega arith; low = omega arith; nonempty = nonempty; high = omega arith });
    current_in_limit = omega (arith, c.current_in_limit);
    at_current = same c.current _ c.current_in_limit c.at_current (record { no_higher = omega arith; low = omega arith; nonempty = nonempty; high = omega arith });
    shows = c.shows;
    past = c.past;
    started = c.started;
  })
  represents_framed _ _ _ nonempty same (key_node level keys page children in_limit at are stand) =
      key_node level keys page children (omega arith) (same page _ in_limit at (record { no_higher = omega arith; low = omega arith; nonempty = nonempty; high = omega arith })) are
      (λ inner child is. (let h = are.inside inner child is in
      represents_framed level inner child.page h.1
      (λ p node in_limit' at' located. same p node in_limit' at' (record { no_higher = omega (arith, located.no_higher); low = omega (arith, located.low, h.0); nonempty = located.nonempty; high = omega (arith, located.high, h.2) }))
      (stand inner child is)))

-- the children with one more after place i, from the key k on
module _ (keys : Keys) (children : List Child) (i : ℕ) (child new : Child) (at : slice_get children i ≡ Some child) (above : child.low < new.low) (below : new.low < low_or keys.high (slice_get children (suc i))) (are : AreChildren keys children) where
  within : suc i ≤ length children
  within = slice_get_within children i child at

  left : Keys
  left = record { low = child.low; high = new.low }

  -- each child is another one as before, or one of the two
  abbrev pub OtherOrTwo : Keys → Child → Type 0
  OtherOrTwo s other = ((is : IsChildOf keys children s other) × ((is.place < i) ⊎ (i < is.place)))
      ⊎ (((s ≡ record { low = child.low; high = new.low }) × (other ≡ child)) ⊎ ((s ≡ record { low = new.low; high = low_or keys.high (slice_get children (suc i)) }) × (other ≡ new)))

  keys_from : (other : Child) (a b : Option Child) → a ≡ b → (low : ℕ) → other.low ≡ low → (s : Keys) → record { low = other.low; high = low_or keys.high a } ≡ s → s ≡ record { low = low; high = low_or keys.high b }
  keys_from other a b e low f s range = sym range ∙ ap (λ x. record { low = other.low; high = low_or keys.high x }) e ∙ ap (λ x. record { low = x; high = low_or keys.high b }) f

  pub other_or_two : (s : Keys) (other : Child) → IsChildOf keys (insert children (suc i) new) s other → OtherOrTwo s other
  other_or_two s other is = elim (cases_order is.place i) [
    | inl here ↦ (let same : other ≡ child = same_Some other child (sym is.at ∙ ap (slice_get (insert children (suc i) new)) here ∙ get-insert_below children (suc i) i new (omega arith) within ∙ at) in
        inr (inl (keys_from other _ (Some new) (ap (λ k. slice_get (insert children (suc i) new) (suc k)) here ∙ get-insert_at children (suc i) new within) child.low (ap (λ (x : Child). x.low) same) s is.range, same)))
    | inr not_here ↦ elim not_here [
      | inl lt ↦ (let same = get-insert_below children (suc i) is.place new (let h : is.place < suc i = omega arith in h) within in
          let same_next = get-insert_below children (suc i) (suc is.place) new (let h : suc is.place < suc i = omega arith in h) within in
          inl (record { place = is.place; at = sym same ∙ is.at; range = sym (keys_from other _ _ same_next other.low refl s is.range) }, inl lt))
      | inr gt ↦ elim (cases_order is.place (suc i)) [
        | inl here ↦ (let same : other ≡ new = same_Some other new (sym is.at ∙ ap (slice_get (insert children (suc i) new)) here ∙ get-insert_at children (suc i) new within) in
            inr (inr (keys_from other _ _ (ap (λ k. slice_get (insert children (suc i) new) (suc k)) here ∙ get-insert_above children (suc i) (suc i) new (omega arith) within) new.low (ap (λ (x : Child). x.low) same) s is.range, same)))
        | inr other_place ↦ elim other_place [
          | inl lt ↦ absurd (omega arith)
          | inr gt' ↦ (let p = is.place - 1 in
              let up : suc p ≡ is.place = omega arith in
              let there = get-insert_above children (suc i) p new (let h : suc i ≤ p = omega arith in h) within in
              let there_next = get-insert_above children (suc i) (suc p) new (let h : suc i ≤ suc p = omega arith in h) within in
              let at_place = subst (λ k. slice_get (insert children (suc i) new) k ≡ Some other) (sym up) is.at in
              let range_place = subst (λ k. child_keys keys (insert children (suc i) new) k other ≡ s) (sym up) is.range in
              inl (record { place = p; at = sym there ∙ at_place; range = sym (keys_from other _ _ there_next other.low refl s range_place) }, inr (let h : i < p = omega arith in h)))
        ]
      ]
    ]
  ]

  inside_other : (s : Keys) (other : Child) → OtherOrTwo s other → (keys.low ≤ s.low) × (s.low < s.high) × (s.high ≤ keys.high)
  inside_other s other (inl was) = are.inside s other was.0
  inside_other s other (inr (inl l)) = (let h = are.inside (child_keys keys children i child) child (record { place = i; at = at; range = refl }) in
      (omega (arith, h.0, ap (λ (x : Keys). x.low) l.0), omega (arith, ap (λ (x : Keys). x.low) l.0, ap (λ (x : Keys). x.high) l.0), omega (arith, h.2, ap (λ (x : Keys). x.high) l.0)))
  inside_other s other (inr (inr r)) = (let h = are.inside (child_keys keys children i child) child (record { place = i; at = at; range = refl }) in
      (omega (arith, h.0, ap (λ (x : Keys). x.low) r.0), omega (arith, ap (λ (x : Keys). x.low) r.0, ap (λ (x : Keys). x.high) r.0), omega (arith, h.2, ap (λ (x : Keys). x.high) r.0)))

  pub AreChildren-insert : AreChildren keys (insert children (suc i) new)
  AreChildren-insert = record {
    first = are.first;
    at_first = get-insert_below children (suc i) 0 new (omega arith) within ∙ are.at_first;
    from_low = are.from_low;
    inside = λ s other is. inside_other s other (other_or_two s other is);
  }

-- a key node is written whose children stand
module _ (nodes nodes' : ℕ → Option PageNode) (limit limit' : ℕ) (old : ℕ → Option BlockNode) (next : ℕ) (all : List Version) (grows : limit ≤ limit') where
  pub key_node_written : (level : ℕ) (keys : Keys) (page : ℕ) (children : List Child) → page < limit' → AreChildren keys children
      → ((p : ℕ) (node : PageNode) → p < limit → nodes p ≡ Some node → LocatedUnder level keys node → nodes' p ≡ Some node)
      → nodes' page ≡ Some (KeyNode (suc level) keys children)
      → ((inner : Keys) (child : Child) → IsChildOf keys children inner child → NodeRepresents nodes limit old next all level inner child.page)
      → NodeRepresents nodes' limit' old next all (suc level) keys page
  key_node_written level keys page children in_limit are same at stand = key_node level keys page children in_limit at are
      (λ inner child is. (let h = are.inside inner child is in
      represents_framed nodes nodes' limit limit' old next all grows level inner child.page h.1
      (λ p node in_limit' at' located. same p node in_limit' at' (record { no_higher = located.no_higher; low = omega (arith, located.low, h.0); nonempty = located.nonempty; high = omega (arith, located.high, h.2) }))
      (stand inner child is)))

-- the end of a child among the first n is what it was
pub take_next : (xs : List Child) (n p high : ℕ) (mid : Child) → slice_get xs n ≡ Some mid → p < n → low_or mid.low (slice_get (take n xs) (suc p)) ≡ low_or high (slice_get xs (suc p))
take_next [] n p high mid at lt = absurd (none-some mid at)
take_next (x ∷ xs) zero p high mid at lt = absurd (omega arith)
take_next (x ∷ []) (suc n) p high mid at lt = absurd (none-some mid at)
take_next (x ∷ y ∷ xs) (suc zero) zero high mid at lt = ap (λ (c : Child). c.low) (sym (same_Some y mid at))
take_next (x ∷ y ∷ xs) (suc (suc n)) zero high mid at lt = refl
take_next (x ∷ y ∷ xs) (suc n) (suc p) high mid at lt = take_next (y ∷ xs) n p high mid at (omega arith)

pub get-take : {X : Type 0} (xs : List X) (n i : ℕ) (x : X) → slice_get (take n xs) i ≡ Some x → (i < n) × (slice_get xs i ≡ Some x)
get-take [] zero i x at = absurd (none-some x at)
get-take [] (suc n) i x at = absurd (none-some x at)
get-take (y ∷ xs) zero i x at = absurd (none-some x at)
get-take (y ∷ xs) (suc n) zero x at = (omega arith, at)
get-take (y ∷ xs) (suc n) (suc i) x at = (let h = get-take xs n i x at in (omega (arith, h.0), h.1))

-- the first n children keep their keys
abbrev pub front_child : (keys : Keys) (children : List Child) (n : ℕ) (mid : Child) → slice_get children n ≡ Some mid → (s : Keys) (c : Child) → IsChildOf (record { low = keys.low; high = mid.low }) (take n children) s c → IsChildOf keys children s c
front_child keys children n mid at s c is =
    let old = get-take children n is.place c is.at in
    record {
      place = is.place;
      at = old.1;
      range = sym (ap (λ e. record { low = c.low; high = e }) (take_next children n is.place keys.high mid at old.0)) ∙ is.range;
    }
