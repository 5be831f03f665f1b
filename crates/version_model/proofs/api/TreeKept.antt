-- A part of the tree stands on when the rest changes.
use Rattle.std.proofs.Common.{◌≡◌, ℕ, ◌<◌, ◌≤◌, ◌⊎◌, inl, inr, List, [], Option, Some, slice_get, subst, arith}
use Rattle.std.proofs.lemmas.Option.{none-some}
use Rattle.version_model.specs.declared.part.Part.{Part}
use Rattle.version_model.specs.Versions.{Version, IsAbove, Adds}
use Rattle.version_model.specs.Ranges.{IsKeyOf}
use Rattle.version_model.specs.Blocks.{BlockNode, Grows}
use Rattle.version_model.specs.Pages.{Keys, PageNode, PartsRepresent, ColumnRepresents, NodeRepresents, column, key_node, current_range}
use Rattle.version_model.specs.Inserts.{LocatedUnder}
use Rattle.version_model.proofs.api.Shown.{LeafRepresents-outside}
use Rattle.version_model.proofs.api.PastKept.{PartRepresents-grows, PartRepresents-later}

-- pages and blocks before and after a version is added, as far as the nodes of a level and of some keys see it
pub record Elsewhere (nodes nodes' : ℕ → Option PageNode) (limit limit' : ℕ) (old old' : ℕ → Option BlockNode) (next next' : ℕ) (all new : List Version) (v : Version) : Type 0 where
  pub adds : Adds all v new
  pub above : IsAbove all v.stamp
  pub grows : Grows old old'
  pub next_grows : next ≤ next'
  pub limit_grows : limit ≤ limit'

pub no_part : (parts : List Part) (part : Part) (i : ℕ) → parts ≡ [] → slice_get parts i ≡ Some part → ⊥
no_part parts part i none at = none-some part (subst (λ ps. slice_get ps i ≡ Some part) none at)

module _ (nodes nodes' : ℕ → Option PageNode) (limit limit' : ℕ) (old old' : ℕ → Option BlockNode) (next next' : ℕ) (all new : List Version) (v : Version) (else' : Elsewhere nodes nodes' limit limit' old old' next next' all new v) where
  pub past_kept : (keys : Keys) (start : ℕ) (parts : List Part) → (start < v.stamp) ⊎ (start ≡ 0) → PartsRepresent old next all keys start parts → PartsRepresent old' next' new keys start parts
  past_kept keys start parts started past = record {
    are_parts = elim past.are_parts [
      | inl none ↦ inl none
      | inr are ↦ inr (record { first = are.first; at_first = are.at_first; from_start = are.from_start; lower = λ i part at. omega (arith, are.lower i part at, else'.next_grows); inside = are.inside })
    ];
    stand = λ s part is. elim past.are_parts [
      | inl none ↦ absurd (no_part parts part is.place none.0 is.at)
      | inr are ↦ (let h = are.inside s part is in
          PartRepresents-grows old old' new else'.grows s part (PartRepresents-later old all new v else'.adds s part h.0 (elim started [ inl lt ↦ omega arith | inr zero' ↦ omega arith ]) (past.stand s part is)))
    ];
  }

  -- the nodes of a level and of some keys are as they were
  abbrev pub Same : ℕ → Keys → Type 0
  Same level keys = (page : ℕ) (node : PageNode) → page < limit → nodes page ≡ Some node → LocatedUnder level keys node → nodes' page ≡ Some node

  column_kept : (keys : Keys) (page : ℕ) → keys.low < keys.high → (IsKeyOf (current_range keys 0) v.key → ⊥) → Same 1 keys → ColumnRepresents nodes limit old next all keys page → ColumnRepresents nodes' limit' old' next' new keys page
  column_kept keys page nonempty away same c = record {
    parts = c.parts;
    current = c.current;
    start = c.start;
    versions = c.versions;
    in_limit = omega (arith, c.in_limit, else'.limit_grows);
    at = same page _ c.in_limit c.at (record { no_higher = omega arith; low = omega arith; nonempty = nonempty; high = omega arith });
    current_in_limit = omega (arith, c.current_in_limit, else'.limit_grows);
    at_current = same c.current _ c.current_in_limit c.at_current (record { no_higher = omega arith; low = omega arith; nonempty = nonempty; high = omega arith });
    shows = LeafRepresents-outside all new (current_range keys c.start) c.versions v else'.adds (c.started v.stamp else'.above.above) (λ k. absurd (away (record { low = k.low; high = k.high }))) c.shows;
    past = past_kept keys c.start c.parts (c.started v.stamp else'.above.above) c.past;
    started = λ s above. c.started s (λ w has. above w (else'.adds.keeps w has));
  }

  pub represents_kept : (level : ℕ) (keys : Keys) (page : ℕ) → keys.low < keys.high → (IsKeyOf (current_range keys 0) v.key → ⊥) → Same level keys → NodeRepresents nodes limit old next all level keys page → NodeRepresents nodes' limit' old' next' new level keys page
  represents_kept _ _ _ nonempty away same (column keys page represents_all) = column keys page (column_kept keys page nonempty away same represents_all)
  represents_kept _ _ _ nonempty away same (key_node level keys page children in_limit at are stand) =
      key_node level keys page children (omega (arith, else'.limit_grows)) (same page _ in_limit at (record { no_higher = omega arith; low = omega arith; nonempty = nonempty; high = omega arith })) are
      (λ inner child is. (let h = are.inside inner child is in
      represents_kept level inner child.page h.1
      (λ k. away (record { low = omega (arith, k.low, h.0); high = omega (arith, k.high, h.2) }))
      (λ p node in_limit' at' located. same p node in_limit' at' (record { no_higher = omega (arith, located.no_higher); low = omega (arith, located.low, h.0); nonempty = located.nonempty; high = omega (arith, located.high, h.2) }))
      (stand inner child is)))
