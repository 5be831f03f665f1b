-- A key node after one of its children has changed.
use Rattle.std.proofs.Common.{◌≡◌, ℕ, zero, suc, ◌<◌, ◌≤◌, ◌⊎◌, inl, inr, List, [], ◌∷◌, Option, Some, None, slice_get, refl, sym, ◌∙◌, ap, subst, arith}
use Rattle.std.proofs.lemmas.Bool.{cases_order}
use Rattle.std.proofs.lemmas.Option.{same_Some, none-some}
use Rattle.version_model.specs.declared.child.Child.{Child}
use Rattle.version_model.specs.Versions.{Version}
use Rattle.version_model.specs.Ranges.{IsKeyOf}
use Rattle.version_model.specs.Blocks.{BlockNode}
use Rattle.version_model.specs.Pages.{Keys, PageNode, ColumnNode, KeyNode, NodeRepresents, key_node, IsChildOf, AreChildren, child_keys, low_or, current_range, Store, column}
use Rattle.version_model.specs.Inserts.{KeepsOthers}
use Rattle.version_model.specs.inner.Children.{Inserts}
use Rattle.version_model.proofs.api.TreeKept.{Elsewhere, represents_kept}

-- there is an element before one that is there
get_before : {X : Type 0} (xs : List X) (i : ℕ) (y : X) → slice_get xs (suc i) ≡ Some y → (x : X) × (slice_get xs i ≡ Some x)
get_before [] i y at = absurd (none-some y at)
get_before (x ∷ xs) zero y at = (x, refl)
get_before (x ∷ xs) (suc i) y at = get_before xs i y at

module _ (keys : Keys) (children : List Child) (are : AreChildren keys children) where
  -- a child's keys end where the next child's begin, and the later ones are higher still
  apart : (j : ℕ) (i : ℕ) (a b : Child) → i < j → slice_get children i ≡ Some a → slice_get children j ≡ Some b → low_or keys.high (slice_get children (suc i)) ≤ b.low
  apart zero i a b lt at_i at_j = absurd (omega arith)
  apart (suc j) i a b lt at_i at_j = elim (cases_order i j) [
    | inl e ↦ (let here : low_or keys.high (slice_get children (suc i)) ≡ b.low = ap (λ k. low_or keys.high (slice_get children (suc k))) e ∙ ap (low_or keys.high) at_j in omega arith)
    | inr other ↦ elim other [
      | inr gt ↦ absurd (omega arith)
      | inl lt' ↦ (let before = get_before children j b at_j in
          let low : low_or keys.high (slice_get children (suc i)) ≤ before.0.low = apart j i a before.0 lt' at_i before.1 in
          let inside = are.inside (child_keys keys children j before.0) before.0 (record { place = j; at = before.1; range = refl }) in
          let up : low_or keys.high (slice_get children (suc j)) ≡ b.low = ap (low_or keys.high) at_j in
          omega (arith, inside.1))
    ]
  ]

  -- two children at different places have different keys
  pub disjoint : (s t : Keys) (a b : Child) (i : IsChildOf keys children s a) (j : IsChildOf keys children t b) → i.place < j.place → s.high ≤ t.low
  disjoint s t a b i j lt = omega (arith, apart j.place i.place a b lt i.at j.at, ap (λ (x : Keys). x.high) i.range, ap (λ (x : Keys). x.low) j.range)

module _ (nodes nodes' : ℕ → Option PageNode) (limit limit' : ℕ) (old old' : ℕ → Option BlockNode) (next next' : ℕ) (all new : List Version) (v : Version) (else' : Elsewhere nodes nodes' limit limit' old old' next next' all new v) where
  -- the other children stand on
  pub others_represent_all : (level : ℕ) (keys : Keys) (children : List Child) (inner : Keys) (child : Child) → AreChildren keys children → (place : IsChildOf keys children inner child) → IsKeyOf (current_range inner 0) v.key → KeepsOthers nodes nodes' limit level inner
      → (s : Keys) (other : Child) (is : IsChildOf keys children s other) → (is.place < place.place) ⊎ (place.place < is.place) → NodeRepresents nodes limit old next all level s other.page → NodeRepresents nodes' limit' old' next' new level s other.page
  others_represent_all level keys children inner child are place of_key keeps s other is apart_places represents_all =
      let apart_keys : (s.high ≤ inner.low) ⊎ (inner.high ≤ s.low) = elim apart_places [
        | inl lt ↦ inl (disjoint keys children are s inner other child is place lt)
        | inr gt ↦ inr (disjoint keys children are inner s child other place is gt)
      ] in
      let inside = are.inside s other is in
      represents_kept nodes nodes' limit limit' old old' next next' all new v else' level s other.page inside.1
      (λ k. elim apart_keys [ inl a ↦ omega (arith, k.high, of_key.low) | inr b ↦ omega (arith, k.low, of_key.high) ])
      (λ p node in_limit at located. keeps p node in_limit at (λ under. elim apart_keys [ inl a ↦ omega (arith, under.low, located.high, located.nonempty) | inr b ↦ omega (arith, under.high, located.low, located.nonempty) ]))
      represents_all

  -- a child that took the version and stayed one
  pub key_node_one : (level : ℕ) (keys : Keys) (page : ℕ) (children : List Child) (inner : Keys) (child : Child) → page < limit → nodes page ≡ Some (KeyNode (suc level) keys children) → AreChildren keys children
      → (place : IsChildOf keys children inner child) → IsKeyOf (current_range inner 0) v.key → KeepsOthers nodes nodes' limit level inner
      → ((s : Keys) (other : Child) → IsChildOf keys children s other → NodeRepresents nodes limit old next all level s other.page)
      → NodeRepresents nodes' limit' old' next' new level inner child.page
      → NodeRepresents nodes' limit' old' next' new (suc level) keys page
  key_node_one level keys page children inner child in_limit at are place of_key keeps stand became =
      key_node level keys page children (omega (arith, else'.limit_grows)) (keeps page _ in_limit at (λ under. omega (arith, under.no_higher))) are
      (λ s other is. elim (cases_order is.place place.place) [
        | inl same ↦ (let one : other ≡ child = same_Some other child (sym is.at ∙ subst (λ i. slice_get children i ≡ Some child) (sym same) place.at) in
            let keys_same : s ≡ inner = sym is.range ∙ ap (λ i. child_keys keys children i other) same ∙ ap (child_keys keys children place.place) one ∙ place.range in
            rw (one, keys_same) became)
        | inr apart_places ↦ others_represent_all level keys children inner child are place of_key keeps s other is apart_places (stand s other is)
      ])

pub record KeyRepresents (nodes : ℕ → Option PageNode) (limit : ℕ) (old : ℕ → Option BlockNode) (next : ℕ) (all : List Version) (level : ℕ) (keys : Keys) (page : ℕ) (children : List Child) : Type 0 where
  pub in_limit : page < limit
  pub at : nodes page ≡ Some (KeyNode (suc level) keys children)
  pub are : AreChildren keys children
  pub stand : (inner : Keys) (child : Child) → IsChildOf keys children inner child → NodeRepresents nodes limit old next all level inner child.page

-- a page that reads as a key node and stands is one of its level, and its children stand
module _ (nodes : ℕ → Option PageNode) (limit : ℕ) (old : ℕ → Option BlockNode) (next : ℕ) (all : List Version) where
  pub key_represents : (m : ℕ) (keys : Keys) (page : ℕ) (level : ℕ) (wide : Keys) (children : List Child) → nodes page ≡ Some (KeyNode (suc level) wide children) → NodeRepresents nodes limit old next all m keys page
      → (m ≡ suc level) × KeyRepresents nodes limit old next all level keys page children
  key_represents _ _ _ level wide children at (column keys page c) =
      let node : ColumnNode keys c.parts c.start c.current ≡ KeyNode (suc level) wide children = same_Some _ _ (sym c.at ∙ at) in
      absurd (cc)
  key_represents _ _ _ level wide children at (key_node level' keys page children' in_limit at' are stand) =
      let node : KeyNode (suc level') keys children' ≡ KeyNode (suc level) wide children = same_Some _ _ (sym at' ∙ at) in
      let l : suc level' ≡ suc level = cc in
      let l' : level' ≡ level = omega arith in
      let cs : children' ≡ children = cc in (
        l,
        record {
          in_limit = in_limit;
          at = rw (← l', ← cs) at';
          are = subst (AreChildren keys) cs are;
          stand = λ inner child is. rw (← l') (stand inner child (rw cs is));
        },
      )

-- the child whose keys have the key takes the version, and so does the node
module _ (s t : Store) (v : Version) (level page : ℕ) (wide : Keys) (children : List Child) (i : ℕ) (child : Child)
    (at : s.nodes page ≡ Some (KeyNode (suc level) wide children)) (at_child : slice_get children i ≡ Some child) (from : child.low ≤ v.key)
    (up_to : (c : Child) → slice_get children (suc i) ≡ Some c → v.key < c.low) (inserts : Inserts s t v level child.page) where
  below_end : (high : ℕ) (o : Option Child) → slice_get children (suc i) ≡ o → v.key < high → v.key < low_or high o
  below_end high None is lt = lt
  below_end high (Some c) is lt = up_to c is

  pub Inserts-child : Inserts s t v (suc level) page
  Inserts-child = record {
    grows = inserts.grows;
    next_grows = inserts.next_grows;
    limit_grows = inserts.limit_grows;
    represents_all = λ all new keys of_key above adds represents_all.
        (let k = (key_represents s.nodes s.limit s.blocks s.next all (suc level) keys page level wide children at represents_all).1 in
        let inner : Keys = child_keys keys children i child in
        let place : IsChildOf keys children inner child = record { place = i; at = at_child; range = refl } in
        let in_child : IsKeyOf (current_range inner 0) v.key = record { low = from; high = below_end keys.high (slice_get children (suc i)) refl of_key.high } in
        key_node_one s.nodes t.nodes s.limit t.limit s.blocks t.blocks s.next t.next all new v
        (record { adds = adds; above = above; grows = inserts.grows; next_grows = inserts.next_grows; limit_grows = inserts.limit_grows })
        level keys page children inner child k.in_limit k.at k.are place in_child
        (inserts.others all inner (k.stand inner child place)) k.stand
        (inserts.represents_all all new inner in_child above adds (k.stand inner child place)));
    others = λ all keys represents_all p node in_limit at_node never.
        (let k = (key_represents s.nodes s.limit s.blocks s.next all (suc level) keys page level wide children at represents_all).1 in
        let inner : Keys = child_keys keys children i child in
        let place : IsChildOf keys children inner child = record { place = i; at = at_child; range = refl } in
        let h = k.are.inside inner child place in
        inserts.others all inner (k.stand inner child place) p node in_limit at_node
        (λ under. never (record { no_higher = omega (arith, under.no_higher); low = omega (arith, under.low, h.0); nonempty = under.nonempty; high = omega (arith, under.high, h.2) })));
  }
