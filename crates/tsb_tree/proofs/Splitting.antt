-- A column takes a version, and is one or two after it.
use Rattle.std.proofs.Common.{◌≡◌, ℕ, suc, ◌<◌, ◌≤◌, List, Some, None, refl, sym, ◌∙◌, ap, subst, arith}
use Rattle.std.proofs.lemmas.Option.{same_Some}
use Rattle.version_model.specs.declared.child.Child.{Child}
use Rattle.version_model.specs.Versions.{Version}
use Rattle.version_model.specs.Ranges.{high_or}
use Rattle.version_model.specs.Blocks.{Grows}
use Rattle.version_model.specs.Pages.{Keys, CurrentLeaf, ColumnNode, KeyNode, NodeRepresents, column, key_node, Store, NodeRepresentsIn}
use Rattle.version_model.specs.Inserts.{LocatedUnder, Splits, KeepsOthers}
use Rattle.tsb_tree.specs.declared.whole.Whole.{Whole}
use Rattle.tsb_tree.specs.Wholes.{keys, WholeHas, IsAt, Takes, AreHalves, keys_of_whole, column_node, leaf_node}

pub record Found (s : Store) (all : List Version) (m : ℕ) (k : Keys) (page current : ℕ) (w : Whole) : Type 0 where
  pub level : m ≡ 1
  pub same_keys : keys_of_whole w ≡ k
  pub in_limit : page < s.limit
  pub current_in_limit : current < s.limit
  pub has : WholeHas s.blocks s.next all w

-- the pages of a column
pub found : (s : Store) (all : List Version) (m : ℕ) (k : Keys) (page current : ℕ) (w : Whole) → IsAt s.nodes page current w → NodeRepresents s.nodes s.limit s.blocks s.next all m k page → Found s all m k page current w
found s all _ _ _ current w is (column k page c) =
    let node : ColumnNode k c.parts c.start c.current ≡ ColumnNode (keys_of_whole w) w.parts.items w.start current = same_Some _ _ (sym c.at ∙ is.at) in
    let e_keys : k ≡ keys_of_whole w = cc in
    let e_parts : c.parts ≡ w.parts.items = cc in
    let e_current : c.current ≡ current = cc in
    let leaf : CurrentLeaf k c.start c.versions ≡ CurrentLeaf (keys_of_whole w) w.start w.leaf = same_Some _ _ (sym c.at_current ∙ ap s.nodes e_current ∙ is.at_current) in
    let e_start : c.start ≡ w.start = cc in
    let e_leaf : c.versions ≡ w.leaf = cc in
    record {
      level = refl;
      same_keys = sym e_keys;
      in_limit = c.in_limit;
      current_in_limit = omega (arith, c.current_in_limit, e_current);
      has = record { column = rw (← e_keys, ← e_parts, ← e_start, ← e_leaf) (record { shows = c.shows; past = c.past }); started = rw (← e_start) c.started };
    }
found s all _ _ _ current w is (key_node level k page children in_limit at are stand) =
    let node : KeyNode (suc level) k children ≡ ColumnNode (keys_of_whole w) w.parts.items w.start current = same_Some _ _ (sym at ∙ is.at) in
    absurd (cc)

-- a column in memory stands in the pages that represent it
pub represents_at : (t : Store) (all : List Version) (k : Keys) (page current : ℕ) (w : Whole) → IsAt t.nodes page current w → page < t.limit → current < t.limit → keys_of_whole w ≡ k → WholeHas t.blocks t.next all w → NodeRepresents t.nodes t.limit t.blocks t.next all 1 k page
represents_at t all k page current w is in_limit current_in_limit same_keys has = rw (← same_keys) (column (keys_of_whole w) page (record {
  parts = w.parts.items;
  current = current;
  start = w.start;
  versions = w.leaf;
  in_limit = in_limit;
  at = is.at;
  current_in_limit = current_in_limit;
  at_current = is.at_current;
  shows = has.column.shows;
  past = has.column.past;
  started = has.started;
}))

module _ (s t : Store) (v : Version) (page current : ℕ) (w w' : Whole) (is : IsAt s.nodes page current w) (in_low : w.low ≤ v.key) (in_high : v.key < high_or w.high)
    (takes : Takes s.blocks s.next t.blocks t.next v w w') (grows : Grows s.blocks t.blocks) (next_grows : s.next ≤ t.next) (limit_grows : s.limit ≤ t.limit)
    (others : (p : ℕ) → p < s.limit → (p ≡ page → ⊥) → (p ≡ current → ⊥) → t.nodes p ≡ s.nodes p) where
  column_others : (all : List Version) (k : Keys) → NodeRepresentsIn s all 1 k page → KeepsOthers s.nodes t.nodes s.limit 1 k
  column_others all k represents_all p node in_limit at never =
      let f = found s all 1 k page current w is represents_all in
      let low : k.low ≡ w.low = ap (λ (x : Keys). x.low) (sym f.same_keys) in
      let high : k.high ≡ high_or w.high = ap (λ (x : Keys). x.high) (sym f.same_keys) in
      let not_page : p ≡ page → ⊥ = λ e. never (subst (LocatedUnder 1 k) (same_Some (column_node w current) node (sym is.at ∙ ap s.nodes (sym e) ∙ at))
      (record { no_higher = omega arith; low = omega arith; nonempty = omega arith; high = omega arith })) in
      let not_current : p ≡ current → ⊥ = λ e. never (subst (LocatedUnder 1 k) (same_Some (leaf_node w) node (sym is.at_current ∙ ap s.nodes (sym e) ∙ at))
      (record { no_higher = omega arith; low = omega arith; nonempty = omega arith; high = omega arith })) in
      others p in_limit not_page not_current ∙ at

  pub Splits-column_one : IsAt t.nodes page current w' → Splits s t v 1 page None
  Splits-column_one is' = record {
    grows = grows;
    next_grows = next_grows;
    limit_grows = limit_grows;
    represents_all = λ all after k of_key above adds represents_all.
        (let f = found s all 1 k page current w is represents_all in
        represents_at t after k page current w' is' (omega (arith, f.in_limit)) (omega (arith, f.current_in_limit))
        (ap (λ a. keys a (high_or w'.high)) takes.low ∙ ap (λ a. keys w.low (high_or a)) takes.high ∙ f.same_keys)
        (takes.takes all after above adds f.has));
    others = λ all k represents_all. column_others all k represents_all;
  }

  pub Splits-column_two : (left right : Whole) (q r : ℕ) (new : Child) → AreHalves w' left right → (page < s.limit → current < s.limit → IsAt t.nodes page current left) → IsAt t.nodes q r right → q < t.limit → r < t.limit → new ≡ record { low = right.low; page = q } → Splits s t v 1 page (Some new)
  Splits-column_two left right q r new halves is_left is_right q_in r_in new_is = rw new_is (record {
    grows = grows;
    next_grows = next_grows;
    limit_grows = limit_grows;
    represents_all = λ all after k of_key above adds represents_all.
        (let f = found s all 1 k page current w is represents_all in
        let both = halves.has t.blocks t.next after (takes.takes all after above adds f.has) in
        let low : w'.low ≡ k.low = takes.low ∙ ap (λ (x : Keys). x.low) f.same_keys in
        let high : high_or w'.high ≡ k.high = ap high_or takes.high ∙ ap (λ (x : Keys). x.high) f.same_keys in (
          omega (arith, halves.above, low),
          omega (arith, halves.below, high),
          represents_at t after (keys k.low right.low) page current left (is_left f.in_limit f.current_in_limit) (omega (arith, f.in_limit)) (omega (arith, f.current_in_limit))
              (ap (λ a. keys a (high_or left.high)) (halves.low ∙ low) ∙ ap (λ a. keys k.low (high_or a)) halves.middle) both.0,
          represents_at t after (keys right.low k.high) q r right is_right q_in r_in (ap (λ a. keys right.low a) (ap high_or halves.high ∙ high)) both.1,
        ));
    others = λ all k represents_all. column_others all k represents_all;
  })
