-- A key node is split into two, and a tree grows by a root.
use Rattle.std.proofs.Common.{◌≡◌, ℕ, zero, suc, ◌+◌, ◌<◌, ◌≤◌, ◌⊎◌, inl, inr, List, [], ◌∷◌, Some, None, slice_get, take, drop, refl, sym, ◌∙◌, ap, subst, arith}
use Rattle.std.proofs.lemmas.Option.{same_Some, none-some}
use Rattle.std.proofs.lemmas.Bool.{cases_eq}
use Rattle.version_model.specs.declared.child.Child.{Child}
use Rattle.version_model.specs.Versions.{Version}
use Rattle.version_model.specs.Pages.{Keys, PageNode, KeyNode, Store, NodeRepresentsIn, IsChildOf, AreChildren, child_keys, low_or}
use Rattle.version_model.specs.Inserts.{LocatedUnder, Splits, Became}
use Rattle.version_model.proofs.api.Children.{key_represents, KeyRepresents, disjoint}
use Rattle.version_model.proofs.api.ChildrenTwo.{front_child, key_node_written, get-take}

pub get-drop : {X : Type 0} (xs : List X) (n i : ℕ) → slice_get (drop n xs) i ≡ slice_get xs (n + i)
get-drop xs zero i = ap (slice_get xs) (let h : i ≡ 0 + i = omega arith in h)
get-drop [] (suc n) i = refl
get-drop (x ∷ xs) (suc n) i = get-drop xs n i ∙ ap (slice_get (x ∷ xs)) (let h : suc (n + i) ≡ suc n + i = omega arith in h)

get-take_first : {X : Type 0} (xs : List X) (n : ℕ) (x : X) → 0 < n → slice_get xs 0 ≡ Some x → slice_get (take n xs) 0 ≡ Some x
get-take_first xs zero x lt at = absurd (omega arith)
get-take_first [] (suc n) x lt at = absurd (none-some x at)
get-take_first (y ∷ xs) (suc n) x lt at = at

abbrev pub front : Keys → Child → Keys
front k mid = record { low = k.low; high = mid.low }

abbrev pub back : Keys → Child → Keys
back k mid = record { low = mid.low; high = k.high }

module _ (k : Keys) (children : List Child) (n : ℕ) (mid : Child) (at : slice_get children n ≡ Some mid) (some : 0 < n) (are : AreChildren k children) where
  mid_inside : (k.low ≤ mid.low) × (mid.low < low_or k.high (slice_get children (suc n))) × (low_or k.high (slice_get children (suc n)) ≤ k.high)
  mid_inside = are.inside (child_keys k children n mid) mid (record { place = n; at = at; range = refl })

  abbrev pub back_child : (s : Keys) (c : Child) → IsChildOf (record { low = mid.low; high = k.high }) (drop n children) s c → IsChildOf k children s c
  back_child s c is = record {
    place = n + is.place;
    at = sym (get-drop children n is.place) ∙ is.at;
    range = ap (λ o. record { low = c.low; high = low_or k.high o }) (ap (slice_get children) (let h : suc (n + is.place) ≡ n + suc is.place = omega arith in h) ∙ sym (get-drop children n (suc is.place))) ∙ is.range;
  }

  back_low : (s : Keys) (c : Child) (is : IsChildOf (record { low = mid.low; high = k.high }) (drop n children) s c) → mid.low ≤ s.low
  back_low s c is = elim (cases_eq is.place 0) [
    | inl zero' ↦ (let here : mid ≡ c = same_Some mid c (sym at ∙ ap (slice_get children) (let h : n ≡ n + is.place = omega arith in h) ∙ sym (get-drop children n is.place) ∙ is.at) in
        omega (arith, ap (λ (x : Child). x.low) here, ap (λ (x : Keys). x.low) is.range))
    | inr later ↦ (let apart = disjoint k children are (child_keys k children n mid) s mid c (record { place = n; at = at; range = refl }) (back_child s c is) (let h : n < n + is.place = omega arith in h) in
        omega (arith, apart, mid_inside.1))
  ]

  front_high : (s : Keys) (c : Child) (is : IsChildOf (record { low = k.low; high = mid.low }) (take n children) s c) → s.high ≤ mid.low
  front_high s c is = disjoint k children are s (child_keys k children n mid) c mid (front_child k children n mid at s c is) (record { place = n; at = at; range = refl }) (get-take children n is.place c is.at).0

  pub mid_above : k.low < mid.low
  mid_above =
      let first_inside = are.inside (child_keys k children 0 are.first) are.first (record { place = 0; at = are.at_first; range = refl }) in
      let apart = disjoint k children are (child_keys k children 0 are.first) (child_keys k children n mid) are.first mid (record { place = 0; at = are.at_first; range = refl }) (record { place = n; at = at; range = refl }) some in
      omega (arith, first_inside.1, apart, are.from_low)

  pub mid_below : mid.low < k.high
  mid_below = omega (arith, mid_inside.1, mid_inside.2)

  pub AreChildren-front : AreChildren (record { low = k.low; high = mid.low }) (take n children)
  AreChildren-front = record {
    first = are.first;
    at_first = get-take_first children n are.first some are.at_first;
    from_low = are.from_low;
    inside = λ s c is. (let h = are.inside s c (front_child k children n mid at s c is) in (h.0, h.1, front_high s c is));
  }

  pub AreChildren-back : AreChildren (record { low = mid.low; high = k.high }) (drop n children)
  AreChildren-back = record {
    first = mid;
    at_first = get-drop children n 0 ∙ ap (slice_get children) (let h : n + 0 ≡ n = omega arith in h) ∙ at;
    from_low = refl;
    inside = λ s c is. (let h = are.inside s c (back_child s c is) in (back_low s c is, h.1, h.2));
  }

-- a key node of a store becomes two, of which the second one is in a fresh page
module _ (s t : Store) (level page : ℕ) (wide : Keys) (children : List Child) (n : ℕ) (mid : Child)
    (at : s.nodes page ≡ Some (KeyNode (suc level) wide children)) (at_mid : slice_get children n ≡ Some mid) (some : 0 < n)
    (at_front : page < s.limit → t.nodes page ≡ Some (KeyNode (suc level) (record { low = wide.low; high = mid.low }) (take n children)))
    (at_back : t.nodes s.limit ≡ Some (KeyNode (suc level) (record { low = mid.low; high = wide.high }) (drop n children)))
    (others : (p : ℕ) → p < s.limit → (p ≡ page → ⊥) → t.nodes p ≡ s.nodes p)
    (limit : t.limit ≡ suc s.limit) (blocks : t.blocks ≡ s.blocks) (next : t.next ≡ s.next) where
  pub key_node_two : (all : List Version) (k : Keys) → NodeRepresentsIn s all (suc level) k page → Became t all (suc level) k page (Some (record { low = mid.low; page = s.limit }))
  key_node_two all k represents_all =
      let ks : KeyRepresents s.nodes s.limit s.blocks s.next all level k page children = (key_represents s.nodes s.limit s.blocks s.next all (suc level) k page level wide children at represents_all).1 in
      let node : KeyNode (suc level) wide children ≡ KeyNode (suc level) k children = same_Some _ _ (sym at ∙ ks.at) in
      let same_keys : wide ≡ k = cc in
      let grows : s.limit ≤ t.limit = omega (arith, limit) in
      let same : (p : ℕ) (x : PageNode) (inner : Keys) → p < s.limit → s.nodes p ≡ Some x → LocatedUnder level inner x → t.nodes p ≡ Some x = λ p x inner in_limit at_x under. others p in_limit
      (λ e. (let n' : KeyNode (suc level) wide children ≡ x = same_Some (KeyNode (suc level) wide children) x (sym at ∙ ap s.nodes (sym e) ∙ at_x) in
      let l : LocatedUnder level inner (KeyNode (suc level) wide children) = subst (LocatedUnder level inner) (sym n') under in omega (arith, l.no_higher))) ∙ at_x in (
        mid_above k children n mid at_mid some ks.are,
        mid_below k children n mid at_mid some ks.are,
        rw (blocks, next) (key_node_written s.nodes t.nodes s.limit t.limit s.blocks s.next all grows level (front k mid) page (take n children)
            (let h : page < t.limit = omega (arith, limit, ks.in_limit) in h) (AreChildren-front k children n mid at_mid some ks.are)
            (λ p x in_limit at_x under. same p x (front k mid) in_limit at_x under)
            (at_front ks.in_limit ∙ ap (λ (x : Keys). Some (KeyNode (suc level) (record { low = x.low; high = mid.low }) (take n children))) same_keys)
            (λ inner c is. ks.stand inner c (front_child k children n mid at_mid inner c is))),
        rw (blocks, next) (key_node_written s.nodes t.nodes s.limit t.limit s.blocks s.next all grows level (back k mid) s.limit (drop n children)
            (let h : s.limit < t.limit = omega (arith, limit) in h) (AreChildren-back k children n mid at_mid some ks.are)
            (λ p x in_limit at_x under. same p x (back k mid) in_limit at_x under)
            (at_back ∙ ap (λ (x : Keys). Some (KeyNode (suc level) (record { low = mid.low; high = x.high }) (drop n children))) same_keys)
            (λ inner c is. ks.stand inner c (back_child k children n mid at_mid some ks.are inner c is))),
      )

-- a node that took the version and stayed one becomes two
module _ (s m t : Store) (v : Version) (level page : ℕ) (wide : Keys) (old : List Child) (new : Child)
    (at : s.nodes page ≡ Some (KeyNode (suc level) wide old))
    (one : Splits s m v (suc level) page None)
    (two : (all : List Version) (k : Keys) → NodeRepresentsIn m all (suc level) k page → Became t all (suc level) k page (Some new))
    (others : (p : ℕ) → p < m.limit → (p ≡ page → ⊥) → t.nodes p ≡ m.nodes p)
    (limit : m.limit ≤ t.limit) (blocks : t.blocks ≡ m.blocks) (next : t.next ≡ m.next) where
  pub Splits-two : Splits s t v (suc level) page (Some new)
  Splits-two = record {
    grows = rw blocks one.grows;
    next_grows = omega (arith, next, one.next_grows);
    limit_grows = omega (arith, limit, one.limit_grows);
    represents_all = λ all after k of_key above adds represents_all. two after k (one.represents_all all after k of_key above adds represents_all);
    others = λ all k represents_all p node in_limit at_node never.
        (let ks : KeyRepresents s.nodes s.limit s.blocks s.next all level k page old = (key_represents s.nodes s.limit s.blocks s.next all (suc level) k page level wide old at represents_all).1 in
        let h = ks.are.inside (child_keys k old 0 ks.are.first) ks.are.first (record { place = 0; at = ks.are.at_first; range = refl }) in
        let not_page : p ≡ page → ⊥ = λ e. never (subst (LocatedUnder (suc level) k) (same_Some (KeyNode (suc level) k old) node (sym ks.at ∙ ap s.nodes (sym e) ∙ at_node)) (record { no_higher = omega arith; low = omega arith; nonempty = omega (arith, h.0, h.1, h.2); high = omega arith })) in
        others p (omega (arith, one.limit_grows, in_limit)) not_page ∙ one.others all k represents_all p node in_limit at_node never);
  }

-- a root above two nodes
module _ (s t : Store) (all : List Version) (level page : ℕ) (k : Keys) (new : Child)
    (became : Became s all level k page (Some new))
    (at : t.nodes s.limit ≡ Some (KeyNode (suc level) k (record { low = k.low; page = page } ∷ new ∷ [])))
    (others : (p : ℕ) → p < s.limit → t.nodes p ≡ s.nodes p)
    (limit : t.limit ≡ suc s.limit) (blocks : t.blocks ≡ s.blocks) (next : t.next ≡ s.next) where
  two_places : (inner : Keys) (c : Child) → IsChildOf k (record { low = k.low; page = page } ∷ new ∷ []) inner c → ((inner ≡ record { low = k.low; high = new.low }) × (c ≡ record { low = k.low; page = page })) ⊎ ((inner ≡ record { low = new.low; high = k.high }) × (c ≡ new))
  two_places inner c is = by_place is.place is.at is.range where
    by_place : (i : ℕ) → slice_get (record { low = k.low; page = page } ∷ new ∷ []) i ≡ Some c → child_keys k (record { low = k.low; page = page } ∷ new ∷ []) i c ≡ inner → ((inner ≡ record { low = k.low; high = new.low }) × (c ≡ record { low = k.low; page = page })) ⊎ ((inner ≡ record { low = new.low; high = k.high }) × (c ≡ new))
    by_place zero at_i range = inl (sym range ∙ ap (λ (x : Child). record { low = x.low; high = new.low }) (sym (same_Some _ c at_i)), sym (same_Some _ c at_i))
    by_place (suc zero) at_i range = inr (sym range ∙ ap (λ (x : Child). record { low = x.low; high = k.high }) (sym (same_Some _ c at_i)), sym (same_Some _ c at_i))
    by_place (suc (suc i)) at_i range = absurd (none-some c at_i)

  pub root_represents : NodeRepresentsIn t all (suc level) k s.limit
  root_represents = rw (blocks, next) (key_node_written s.nodes t.nodes s.limit t.limit s.blocks s.next all (let h : s.limit ≤ t.limit = omega (arith, limit) in h) level k s.limit (record { low = k.low; page = page } ∷ new ∷ [])
      (let h : s.limit < t.limit = omega (arith, limit) in h)
      (record {
        first = record { low = k.low; page = page };
        at_first = refl;
        from_low = refl;
        inside = λ inner c is. elim (two_places inner c is) [
          | inl a ↦ (omega (arith, ap (λ (x : Keys). x.low) a.0), omega (arith, ap (λ (x : Keys). x.low) a.0, ap (λ (x : Keys). x.high) a.0, became.0), omega (arith, ap (λ (x : Keys). x.high) a.0, became.1))
          | inr b ↦ (omega (arith, ap (λ (x : Keys). x.low) b.0, became.0), omega (arith, ap (λ (x : Keys). x.low) b.0, ap (λ (x : Keys). x.high) b.0, became.1), omega (arith, ap (λ (x : Keys). x.high) b.0))
        ];
      })
      (λ p x in_limit at_x under. others p in_limit ∙ at_x)
      at
      (λ inner c is. elim (two_places inner c is) [
        | inl a ↦ rw (a.0, a.1) became.2
        | inr b ↦ rw (b.0, b.1) became.3
      ]))
