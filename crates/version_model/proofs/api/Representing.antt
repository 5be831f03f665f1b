-- What a node that represents versions is by its block, or by its page.
use Rattle.std.proofs.Common.{◌≡◌, ℕ, suc, ◌<◌, List, Option, Some, refl, sym, ◌∙◌, ap, subst, arith}
use Rattle.std.proofs.lemmas.Option.{same_Some}
use Rattle.version_model.specs.declared.part.Part.{Part}
use Rattle.version_model.specs.declared.part.PartKind.TheVariants.{LeafBlock, ColumnBlock}
use Rattle.version_model.specs.declared.child.Child.{Child}
use Rattle.version_model.specs.Versions.{Version}
use Rattle.version_model.specs.Ranges.{Range}
use Rattle.version_model.specs.LeafVersions.{LeafRepresents}
use Rattle.version_model.specs.Blocks.{BlockNode, OldLeaf, OldColumn, IsWider, IsPartOf, AreParts, PartRepresents, by_leaf, by_parts}
use Rattle.version_model.specs.Pages.{Keys, PageNode, CurrentLeaf, ColumnNode, KeyNode, current_range, PartsRepresent, ColumnRepresents, child_keys, IsChildOf, AreChildren, NodeRepresents, column, key_node}

pub record LeafCovers (all : List Version) (r wide : Range) (part : Part) (versions : List Version) : Type 0 where
  pub kind : part.kind ≡ LeafBlock
  pub covers : IsWider wide r
  pub shows : LeafRepresents all r versions

pub record OldColumnCovers (old : ℕ → Option BlockNode) (all : List Version) (r wide : Range) (part : Part) (parts : List Part) : Type 0 where
  pub kind : part.kind ≡ ColumnBlock
  pub covers : IsWider wide r
  pub are_parts : AreParts r parts part.block
  pub stand : (s : Range) (inner : Part) → IsPartOf r parts s inner → PartRepresents old all s inner

module _ (old : ℕ → Option BlockNode) (all : List Version) where
  pub leaf_represents_all : (r : Range) (part : Part) (wide : Range) (versions : List Version) → old part.block ≡ Some (OldLeaf wide versions) → PartRepresents old all r part → LeafCovers all r wide part versions
  leaf_represents_all _ _ wide versions is (by_leaf r part wide' versions' kind at covers shows) =
      let node : OldLeaf wide' versions' ≡ OldLeaf wide versions = same_Some _ _ (sym at ∙ is) in
      let w : wide' ≡ wide = cc in
      let v : versions' ≡ versions = cc in
      record { kind = kind; covers = subst (λ x. IsWider x r) w covers; shows = subst (LeafRepresents all r) v shows }
  leaf_represents_all _ _ wide versions is (by_parts r part wide' parts' kind at covers are_parts stand) =
      let node : OldColumn wide' parts' ≡ OldLeaf wide versions = same_Some _ _ (sym at ∙ is) in
      absurd (cc)

  pub column_represents_all : (r : Range) (part : Part) (wide : Range) (parts : List Part) → old part.block ≡ Some (OldColumn wide parts) → PartRepresents old all r part → OldColumnCovers old all r wide part parts
  column_represents_all _ _ wide parts is (by_leaf r part wide' versions' kind at covers shows) =
      let node : OldLeaf wide' versions' ≡ OldColumn wide parts = same_Some _ _ (sym at ∙ is) in
      absurd (cc)
  column_represents_all _ _ wide parts is (by_parts r part wide' parts' kind at covers are_parts stand) =
      let node : OldColumn wide' parts' ≡ OldColumn wide parts = same_Some _ _ (sym at ∙ is) in
      let w : wide' ≡ wide = cc in
      let v : parts' ≡ parts = cc in
      record { kind = kind; covers = subst (λ x. IsWider x r) w covers; are_parts = subst (λ x. AreParts r x part.block) v are_parts; stand = subst (λ x. (s : Range) (inner : Part) → IsPartOf r x s inner → PartRepresents old all s inner) v stand }

module _ (nodes : ℕ → Option PageNode) (limit : ℕ) (blocks : ℕ → Option BlockNode) (next : ℕ) (all : List Version) where
  -- no page of level 0 stands
  level_some : (m : ℕ) (k : Keys) (page : ℕ) → NodeRepresents nodes limit blocks next all m k page → 0 < m
  level_some _ _ _ (column k page c) = omega arith
  level_some _ _ _ (key_node level k page children in_limit at are stand) = omega arith

  -- what stands at level 1 is a column
  pub column_of : (m : ℕ) (k : Keys) (page : ℕ) → m ≡ 1 → NodeRepresents nodes limit blocks next all m k page → ColumnRepresents nodes limit blocks next all k page
  column_of _ _ _ e (column k page c) = c
  column_of _ _ _ e (key_node level k page children in_limit at are stand) =
      absurd (omega (arith, e, level_some level (child_keys k children 0 are.first) are.first.page (stand (child_keys k children 0 are.first) are.first (record { place = 0; at = are.at_first; range = refl }))))

  pub record IsKeyNode (m : ℕ) (k : Keys) (page : ℕ) : Type 0 where
    pub level : ℕ
    pub children : List Child
    pub is : m ≡ suc level
    pub at : nodes page ≡ Some (KeyNode (suc level) k children)
    pub are : AreChildren k children
    pub stand : (inner : Keys) (child : Child) → IsChildOf k children inner child → NodeRepresents nodes limit blocks next all level inner child.page

  -- what stands above level 1 is a key node
  pub key_node_of : (m : ℕ) (k : Keys) (page : ℕ) → 1 < m → NodeRepresents nodes limit blocks next all m k page → IsKeyNode m k page
  key_node_of _ _ _ high (column k page c) = absurd (omega (arith, high))
  key_node_of _ _ _ high (key_node level k page children in_limit at are stand) = record { level = level; children = children; is = refl; at = at; are = are; stand = stand }

  pub record RepresentsBoth (k : Keys) (parts : List Part) (start : ℕ) (versions : List Version) : Type 0 where
    pub shows : LeafRepresents all (current_range k start) versions
    pub past : PartsRepresent blocks next all k start parts

  -- the current leaf that a column names shows what is from its start on, and the parts represent what was before
  pub shows_both : (m : ℕ) (k wide wide' : Keys) (page : ℕ) (parts : List Part) (current start start' : ℕ) (versions : List Version) → m ≡ 1 → nodes page ≡ Some (ColumnNode wide parts start current) → nodes current ≡ Some (CurrentLeaf wide' start' versions)
      → NodeRepresents nodes limit blocks next all m k page → RepresentsBoth k parts start versions
  shows_both m k wide wide' page parts current start start' versions low at at_current st =
      let c = column_of m k page low st in
      let node : ColumnNode k c.parts c.start c.current ≡ ColumnNode wide parts start current = same_Some _ _ (sym c.at ∙ at) in
      let p : c.parts ≡ parts = cc in
      let n : c.current ≡ current = cc in
      let s : c.start ≡ start = cc in
      let leaf : CurrentLeaf k c.start c.versions ≡ CurrentLeaf wide' start' versions = same_Some _ _ (sym c.at_current ∙ ap nodes n ∙ at_current) in
      let v : c.versions ≡ versions = cc in
      record {
        shows = subst (λ x. LeafRepresents all (current_range k x) versions) s (subst (LeafRepresents all (current_range k c.start)) v c.shows);
        past = subst (λ x. PartsRepresent blocks next all k x parts) s (subst (PartsRepresent blocks next all k c.start) p c.past);
      }
