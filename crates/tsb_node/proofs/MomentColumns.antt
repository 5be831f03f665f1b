-- A column that is read, in moments.
use Rattle.std.proofs.Common.{◌≡◌, ◌∙◌, ℕ, ◌+◌, ◌-◌, ◌≤◌, ◌<◌, ◌^◌, ◌↔◌, inl, inr, List, Option, Some, None, IsSome, refl, sym, ap, subst, arith}
use Rattle.std.specs.List.{AllByRecursion, flat_map}
use Rattle.std.specs.Option.{option_map, IfSome}
use Rattle.std.proofs.lemmas.Bool.{cases_lt}
use Rattle.route_model.specs.Units.{moments_in}
use Rattle.route_model.proofs.api.Units.{some}
use Rattle.version_model.specs.declared.bounds.Bounds.{Bounds}
use Rattle.version_model.specs.declared.part.Part.{Part}
use Rattle.tsb_node.specs.declared.header.Header.{Header}
use Rattle.tsb_node.specs.declared.column.Current.{Current}
use Rattle.tsb_node.specs.Nodes.{IsBounds}
use Rattle.tsb_node.specs.Scaling.{scaled, scaled_bounds, IsKnownUnit}
use Rattle.tsb_node.specs.Columns.{ColumnInPage, ColumnInBlock, scaled_column, scaled_old_column, part_octets}
use Rattle.tsb_node.specs.inner.NodeReading.{IsNode}
use Rattle.tsb_node.specs.inner.PartReading.{IsPartBefore, AreParts, IsCurrentOf}
use Rattle.tsb_node.specs.inner.InMoments.{IsColumnFrom, IsOldColumnFrom}
use Rattle.tsb_node.proofs.ScalingLaws.{floor_exact}
use Rattle.tsb_node.proofs.MomentLaws.{all_also, parts_fit, column_scaled, old_column_scaled, option_mapped}
use Rattle.tsb_node.proofs.ColumnReading.{column_from, column_current, current_same, old_column_from}

-- ---- in a page

pub before_current : (k start : ℕ) (ps : List Part) → 1 ≤ k → scaled k start < 256 ^ 16 → AllByRecursion (IsPartBefore (Some start)) ps → AllByRecursion (λ p. scaled k p.start < 256 ^ 16) ps
before_current k start ps one fits each = parts_fit k start ps one fits (all_also (IsPartBefore (Some start)) (λ p. p.start < start) ps (λ p before. before.before) each)

pub column_read_from : (h : Header) (es front : List ℕ) (current : Current) (ps : List Part) (known : IsKnownUnit h.unit) → IsNode h es → IsCurrentOf h es current front → AreParts h.bounds.start (Some current.start) (h.count - 1) front ps
    → IsBounds (scaled_bounds (moments_in known.unit) h.bounds) → scaled (moments_in known.unit) current.start < 256 ^ 16
    → IsColumnFrom h es (scaled_column (moments_in known.unit) (record { bounds = h.bounds; parts = ps; current = current }))
column_read_from h es front current ps known node is are bounds fits =
    let m = moments_in known.unit in
    let of = column_from h es front current ps node is are in
    record {
      known = known;
      as_written = record { bounds = h.bounds; parts = ps; current = current };
      of = of;
      scaled_is = refl;
      valid = column_scaled m _ (some known.unit) of.valid bounds fits (before_current m current.start ps (some known.unit) fits are.each);
    }

-- the bounds of each column that is read from a header
pub bounds_from : (h : Header) (es : List ℕ) (k : ℕ) (c : ColumnInPage) → (is : IsColumnFrom h es c) → k ≡ moments_in is.known.unit → IsBounds (scaled_bounds k h.bounds)
bounds_from h es k c is unit =
    let e = ap (λ (n : ℕ). scaled_bounds n h.bounds) unit ∙ ap (scaled_bounds (moments_in is.known.unit)) (sym is.of.bounds) ∙ sym (ap (λ (x : ColumnInPage). x.bounds) is.scaled_is) in
    subst IsBounds (sym e) is.valid.bounds

-- and the start of its current leaf
pub start_from : (h : Header) (es front : List ℕ) (k : ℕ) (current : Current) (c : ColumnInPage) → IsCurrentOf h es current front → (is : IsColumnFrom h es c) → k ≡ moments_in is.known.unit → scaled k current.start < 256 ^ 16
start_from h es front k current c here is unit =
    let same = (current_same h es front (flat_map part_octets is.as_written.parts) current is.as_written.current here (column_current h es is.as_written is.of)).1 in
    let e = ap (λ (n : ℕ). scaled n current.start) unit ∙ ap (λ (x : Current). scaled (moments_in is.known.unit) x.start) (sym same) ∙ sym (ap (λ (x : ColumnInPage). x.current.start) is.scaled_is) in
    subst (λ (n : ℕ). n < 256 ^ 16) (sym e) is.valid.current_start

-- ---- in a block

pub before_end : (k : ℕ) (start : ℕ) (end : Option ℕ) (ps : List Part) → 1 ≤ k → IsSome end → IfSome (option_map (scaled k) end) (λ n. (n + 1 < 256 ^ 16) × (start < n)) → AllByRecursion (IsPartBefore end) ps → AllByRecursion (λ p. scaled k p.start < 256 ^ 16) ps
before_end k start None ps one ended fits each = absurd cc
before_end k start (Some end) ps one ended fits each = before_current k end ps one (omega (arith, fits.0)) each

pub old_column_read_from : (h : Header) (es : List ℕ) (ps : List Part) (known : IsKnownUnit h.unit) → IsNode h es → h.kind ≡ 2 → h.level ≡ 1 → (h.count ≡ 0 → ⊥) → IsSome h.bounds.end → AreParts h.bounds.start h.bounds.end h.count es ps
    → IsBounds (scaled_bounds (moments_in known.unit) h.bounds) → IsOldColumnFrom h es (scaled_old_column (moments_in known.unit) (record { bounds = h.bounds; parts = ps }))
old_column_read_from h es ps known node kind level counted ended are bounds =
    let m = moments_in known.unit in
    let of = old_column_from h es ps node kind level counted are in
    record {
      known = known;
      as_written = record { bounds = h.bounds; parts = ps };
      of = of;
      scaled_is = refl;
      valid = old_column_scaled m _ (some known.unit) of.valid bounds (before_end m (scaled m h.bounds.start) h.bounds.end ps (some known.unit) ended bounds.order.end are.each);
    }

pub old_bounds_from : (h : Header) (es : List ℕ) (k : ℕ) (c : ColumnInBlock) → (is : IsOldColumnFrom h es c) → k ≡ moments_in is.known.unit → IsBounds (scaled_bounds k h.bounds)
old_bounds_from h es k c is unit =
    let e = ap (λ (n : ℕ). scaled_bounds n h.bounds) unit ∙ ap (scaled_bounds (moments_in is.known.unit)) (sym is.of.bounds) ∙ sym (ap (λ (x : ColumnInBlock). x.bounds) is.scaled_is) in
    subst IsBounds (sym e) is.valid.bounds

-- what a lookup in a block's column asks of the column in its unit
pub record IsAsked (w : ColumnInBlock) (k end fl_end fl : ℕ) : Type 0 where
  pub ends : w.bounds.end ≡ Some fl_end
  pub end_is : end ≡ scaled k fl_end
  pub from : w.bounds.start ≤ fl
  pub before : fl < fl_end

pub asked_in_unit : (w : ColumnInBlock) (k end stamp fl_end fl : ℕ) → 1 ≤ k → option_map (scaled k) w.bounds.end ≡ Some end → scaled k w.bounds.start ≤ stamp → stamp < end
    → ((r : ℕ) → scaled k r ≤ end ↔ r ≤ fl_end) → ((r : ℕ) → scaled k r ≤ stamp ↔ r ≤ fl) → IsAsked w k end fl_end fl
asked_in_unit w k end stamp fl_end fl one ends from before floor_end floor =
    let e = option_mapped (scaled k) w.bounds.end end ends in
    let same : fl_end ≡ e.0 = floor_exact k e.0 fl_end one (λ r. subst (λ (n : ℕ). scaled k r ≤ n ↔ r ≤ fl_end) e.2 (floor_end r)) in
    record {
      ends = e.1 ∙ ap Some (sym same);
      end_is = e.2 ∙ ap (scaled k) (sym same);
      from = (floor w.bounds.start).0 from;
      before = elim (cases_lt fl fl_end) [
        | inl lt ↦ lt
        | inr ge ↦ absurd (let le = (floor fl_end).1 ge in omega (arith, le, before, e.2, ap (scaled k) same))
      ];
    }

pub end_fits : (b : Bounds) (end : ℕ) → IsBounds b → b.end ≡ Some end → end < 256 ^ 16
end_fits b end valid e = let last = subst (λ (o : Option ℕ). IfSome o (λ n. (n + 1 < 256 ^ 16) × (b.start < n))) e valid.order.end in omega (arith, last.0)
