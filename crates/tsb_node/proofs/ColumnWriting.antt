-- Columns that are written.
use Rattle.std.proofs.Common.{◌≡◌, ℕ, ◌+◌, ◌*◌, ◌^◌, ◌<◌, ◌≤◌, List, [], ◌∷◌, ◌++◌, length, take, replicate, slice_get, Some, None, IsSome, refl, sym, ap, subst, ◌∙◌, arith}
use Rattle.std.specs.List.{flat_map, AllByRecursion}
use Rattle.std.proofs.lemmas.List.{append-nil, length-append, length-take, take_all}
use Rattle.std.proofs.lemmas.Grind.{flat_map-append}
use Rattle.once_store.specs.Digests.{sealed}
use Rattle.version_model.specs.declared.part.Part.{Part}
use Rattle.tsb_node.specs.Numbers.{octets_of}
use Rattle.tsb_node.specs.Nodes.{IsBounds, header, body, unit_now}
use Rattle.tsb_node.specs.Columns.{ColumnInPage, ColumnInBlock, IsColumn, IsOldColumn, CanBeColumn, CanBeOldColumn, IsPartEntry, IsColumnPage, IsColumnBlock, part_octets, current_octets, place_octets}
use Rattle.tsb_node.specs.inner.Laying.{laid, IsFilling}
use Rattle.tsb_node.proofs.NumberLaws.{octets_of-size}
use Rattle.tsb_node.proofs.Leaves.{body-size}
use Rattle.tsb_node.proofs.Laying.{put_two, all_push}
use Rattle.tsb_node.proofs.ColumnLaws.{parts-size}
use Rattle.tsb_node.proofs.PartLaws.{part-size, current-size}
use Rattle.tsb_node.proofs.SealingLaws.{sealed_is}
use Rattle.tsb_node.proofs.WrittenNow.{column_now, old_column_now}
use Rattle.tsb_node.proofs.WritingLaws.{filling_on, filled, take_more}

pub place_laid : (at start kind number : ℕ) (old : List ℕ) → at + 17 ≤ length old → laid (at + 17) (octets_of 8 number) (laid (at + 16) (kind ∷ []) (laid at (octets_of 16 start) old)) ≡ laid at (place_octets start kind number) old
place_laid at start kind number old le =
    let s : List ℕ = octets_of 16 start in
    let size : length s ≡ 16 = octets_of-size 16 start in
    let two : length (s ++ (kind ∷ [])) ≡ 17 = omega (arith, size, length-append s (kind ∷ [])) in
    let e1 : at + 16 ≡ at + length s = omega (arith, size) in
    let e2 : at + 17 ≡ at + length (s ++ (kind ∷ [])) = omega (arith, two) in
    ap (λ (n : ℕ). laid (at + 17) (octets_of 8 number) (laid n (kind ∷ []) (laid at s old))) e1
    ∙ ap (laid (at + 17) (octets_of 8 number)) (put_two at s (kind ∷ []) old (omega (arith, size, le)))
    ∙ ap (λ (n : ℕ). laid n (octets_of 8 number) (laid at (s ++ (kind ∷ [])) old)) e2
    ∙ put_two at (s ++ (kind ∷ [])) (octets_of 8 number) old (omega (arith, two, le))

-- the first n parts are written after any header
pub record HasPut (ps : List Part) (n at : ℕ) (old sheet : List ℕ) : Type 0 where
  pub at_is : at ≡ 120 + 25 * n
  pub each : AllByRecursion IsPartEntry (take n ps)
  pub filling : (h : List ℕ) → IsFilling h [] old → IsFilling h (flat_map part_octets (take n ps)) sheet

pub put_start : (ps : List Part) (old : List ℕ) → HasPut ps 0 120 old old
put_start ps old = record { at_is = omega arith; each = tt; filling = λ h f. f }

pub put_on : (ps : List Part) (n at : ℕ) (p : Part) (old sheet : List ℕ) → 25 * length ps ≤ 16232 → n < length ps → slice_get ps n ≡ Some p → IsPartEntry p → HasPut ps n at old sheet
    → HasPut ps (n + 1) (at + 25) old (laid at (part_octets p) sheet)
put_on ps n at p old sheet fits lt is entry w =
    let es : List ℕ = flat_map part_octets (take n ps) in
    let len : length es ≡ 25 * n = omega (arith, parts-size (take n ps), length-take n ps, lt) in
    let more : flat_map part_octets (take (n + 1) ps) ≡ es ++ part_octets p =
    ap (flat_map part_octets) (take_more ps n p is) ∙ flat_map-append part_octets (take n ps) (p ∷ []) ∙ ap (λ (t : List ℕ). es ++ t) (append-nil (part_octets p)) in
    record {
      at_is = omega (arith, w.at_is);
      each = subst (AllByRecursion IsPartEntry) (sym (take_more ps n p is)) (all_push IsPartEntry (take n ps) p w.each entry);
      filling = λ h f. subst (λ (t : List ℕ). IsFilling h t (laid at (part_octets p) sheet)) (sym more) (
          filling_on h es (part_octets p) sheet at (w.filling h f) (omega (arith, len, w.at_is)) (omega (arith, len, part-size p, lt, fits)));
    }

pub put_end : (ps : List Part) (n at : ℕ) (old sheet : List ℕ) → length ps ≤ n → HasPut ps n at old sheet → (h : List ℕ) → IsFilling h [] old → IsFilling h (flat_map part_octets ps) sheet
put_end ps n at old sheet done w h f = subst (λ (l : List Part). IsFilling h (flat_map part_octets l) sheet) (take_all n ps done) (w.filling h f)

pub put_each : (ps : List Part) (n at : ℕ) (old sheet : List ℕ) → length ps ≤ n → HasPut ps n at old sheet → AllByRecursion IsPartEntry ps
put_each ps n at old sheet done w = subst (AllByRecursion IsPartEntry) (take_all n ps done) w.each

-- what writers are asked, and what types represent
pub column_valid : (c : ColumnInPage) → CanBeColumn c → IsBounds c.bounds → AllByRecursion IsPartEntry c.parts → c.current.start < 256 ^ 16 → c.current.page < 256 ^ 8 → IsColumn c
column_valid c can bounds each start page = record { bounds = bounds; each = each; current_start = start; current_page = page; follow = can.follow }

pub old_column_valid : (c : ColumnInBlock) → CanBeOldColumn c → IsBounds c.bounds → AllByRecursion IsPartEntry c.parts → IsOldColumn c
old_column_valid c can bounds each = record { bounds = bounds; each = each; follow = can.follow }

-- the column of a page
pub column_written : (c : ColumnInPage) (count used : ℕ) (sheet : List ℕ) → IsColumn c → c.bounds.end ≡ None → count ≡ length c.parts + 1 → used ≡ 25 * (length c.parts + 1)
    → IsFilling (header 2 unit_now 1 count used c.bounds) (flat_map part_octets c.parts) sheet → IsColumnPage c (laid (120 + 25 * length c.parts) (current_octets c.current) sheet)
column_written c count used sheet valid current counted sized f =
    let ps : List ℕ = flat_map part_octets c.parts in
    let es : List ℕ = ps ++ current_octets c.current in
    let size : length es ≡ 25 * (length c.parts + 1) = omega (arith, parts-size c.parts, current-size c.current, length-append ps (current_octets c.current)) in
    let g = filling_on (header 2 unit_now 1 count used c.bounds) ps (current_octets c.current) sheet (120 + 25 * length c.parts) f (omega (arith, parts-size c.parts)) (omega (arith, parts-size c.parts, current-size c.current, valid.follow.fits)) in
    let h : header 2 unit_now 1 count used c.bounds ≡ header 2 unit_now 1 (length c.parts + 1) (length es) c.bounds =
    ap (λ (n : ℕ). header 2 unit_now 1 n used c.bounds) counted ∙ ap (λ (n : ℕ). header 2 unit_now 1 (length c.parts + 1) n c.bounds) (sized ∙ sym size) in
    let whole = subst (λ (t : List ℕ). IsFilling t es (laid (120 + 25 * length c.parts) (current_octets c.current) sheet)) h g in
    column_now c _ (record { unit = unit_now; valid = valid; page = record { current = current; encoded = filled unit_now 2 1 (length c.parts + 1) c.bounds es _ whole (omega (arith, size, valid.follow.fits)) } }) refl

-- the column of a block
pub old_column_written : (c : ColumnInBlock) (count used : ℕ) (sheet : List ℕ) → IsOldColumn c → IsSome c.bounds.end → count ≡ length c.parts → used ≡ 25 * length c.parts
    → IsFilling (header 2 unit_now 1 count used c.bounds) (flat_map part_octets c.parts) sheet → IsColumnBlock c (sealed sheet)
old_column_written c count used sheet valid ended counted sized f =
    let es : List ℕ = flat_map part_octets c.parts in
    let size : length es ≡ 25 * length c.parts = parts-size c.parts in
    let h : header 2 unit_now 1 count used c.bounds ≡ header 2 unit_now 1 (length c.parts) (length es) c.bounds =
    ap (λ (n : ℕ). header 2 unit_now 1 n used c.bounds) counted ∙ ap (λ (n : ℕ). header 2 unit_now 1 (length c.parts) n c.bounds) (sized ∙ sym size) in
    let fits : length es ≤ 16232 = omega (arith, size, valid.follow.fits) in
    let whole : sheet ≡ body unit_now 2 1 (length c.parts) c.bounds es ++ replicate 32 0 = filled unit_now 2 1 (length c.parts) c.bounds es sheet (subst (λ (t : List ℕ). IsFilling t es sheet) h f) fits in
    let node : List ℕ = body unit_now 2 1 (length c.parts) c.bounds es in
    let long : length node ≡ 16352 = body-size unit_now 2 1 (length c.parts) c.bounds es fits in
    old_column_now c _ (record { unit = unit_now; valid = valid; block = record { ended = ended; encoded = sealed_is node sheet long whole } }) refl
