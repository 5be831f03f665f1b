-- A column is read from the header and the entries of a node exactly where these are one.
use Rattle.std.proofs.Common.{◌≡◌, ℕ, ◌+◌, ◌-◌, ◌*◌, ◌<◌, List, [], ◌∷◌, ◌++◌, length, replicate, Option, Some, None, IsSome, refl, sym, ap, subst, ◌∙◌, arith}
use Rattle.std.specs.List.{flat_map, AllByRecursion}
use Rattle.std.specs.Option.{IfSome, IfNone}
use Rattle.std.proofs.lemmas.List.{length-append}
use Rattle.sha2.specs.Sha256.{sha256}
use Rattle.version_model.specs.declared.bounds.Bounds.{Bounds}
use Rattle.version_model.specs.declared.part.Part.{Part}
use Rattle.tsb_node.specs.declared.column.Current.{Current}
use Rattle.tsb_node.specs.declared.header.Header.{Header}
use Rattle.tsb_node.specs.Nodes.{body}
use Rattle.tsb_node.specs.Columns.{ColumnInPage, ColumnInBlock, IsColumn, IsOldColumn, IsWrittenColumnPage, IsWrittenColumnBlock, IsPartEntry, BeginsAt, starts_of, part_octets, current_octets}
use Rattle.tsb_node.specs.Parts.{BeginsAsWrittenOldColumn}
use Rattle.tsb_node.specs.inner.Rows.{StartsAt}
use Rattle.tsb_node.specs.inner.NodeReading.{IsNode, node_body, BeginsAsNode, IsNodePage, IsNodeBlock}
use Rattle.tsb_node.specs.inner.PartReading.{IsPartBefore, AreParts, IsCurrentOf, IsColumnOf, IsOldColumnOf}
use Rattle.tsb_node.proofs.RowLaws.{ascending_push, ascending_front}
use Rattle.tsb_node.proofs.PartLaws.{current-size, current_back, current_one}
use Rattle.tsb_node.proofs.ColumnLaws.{parts-size, no_parts}
use Rattle.tsb_node.proofs.NodeLaws.{nodes_same, entries_same, page_begins, block_begins}

-- ---- parts

entries_all : (end : Option ℕ) (ps : List Part) → AllByRecursion (IsPartBefore end) ps → AllByRecursion IsPartEntry ps
entries_all end [] all = tt
entries_all end (p ∷ ps) all = (all.0.entry, entries_all end ps all.1)

starts_before : (at : ℕ) (ps : List Part) → AllByRecursion (IsPartBefore (Some at)) ps → AllByRecursion (λ n. n < at) (starts_of ps)
starts_before at [] all = tt
starts_before at (p ∷ ps) all = (all.0.before, starts_before at ps all.1)

before_all : (at : ℕ) (ps : List Part) → AllByRecursion IsPartEntry ps → AllByRecursion (λ n. n < at) (starts_of ps) → AllByRecursion (IsPartBefore (Some at)) ps
before_all at [] each below = tt
before_all at (p ∷ ps) each below = (record { entry = each.0; before = below.0 }, before_all at ps each.1 below.1)

begins_or : (start at : ℕ) (ps : List Part) → StartsAt start (starts_of ps) → (length ps ≡ 0 → at ≡ start) → BeginsAt start (starts_of ps ++ at ∷ [])
begins_or start at [] first alone = alone refl
begins_or start at (p ∷ ps) first alone = first

starts_or : (start at : ℕ) (ps : List Part) → BeginsAt start (starts_of ps ++ at ∷ []) → StartsAt start (starts_of ps)
starts_or start at [] first = tt
starts_or start at (p ∷ ps) first = first

-- ---- in a page

pub column_from : (h : Header) (es front : List ℕ) (current : Current) (ps : List Part) → IsNode h es → IsCurrentOf h es current front → AreParts h.bounds.start (Some current.start) (h.count - 1) front ps
    → IsColumnOf h es (record { bounds = h.bounds; parts = ps; current = current })
column_from h es front current ps node is are =
    let size : length front ≡ 25 * length ps = ap length are.encoded ∙ parts-size ps in
    let more : h.count ≡ length ps + 1 = omega (arith, are.counted, is.some) in
    record {
      kind = is.kind;
      level = is.level;
      bounds = refl;
      count = more;
      valid = record {
        bounds = node.bounds;
        each = entries_all (Some current.start) ps are.each;
        current_start = is.entry.start;
        current_page = is.entry.page;
        follow = record {
          from_first = is.from_first;
          first = begins_or h.bounds.start current.start ps are.from_first (λ none. is.alone (omega (arith, size, none)));
          rising = ascending_push (starts_of ps) current.start are.rising (starts_before current.start ps are.each);
          fits = omega (arith, node.fits, ap length is.encoded, length-append front (current_octets current), current-size current, size);
        };
      };
      encoded = is.encoded ∙ ap (λ (t : List ℕ). t ++ current_octets current) are.encoded;
    }

pub column_current : (h : Header) (es : List ℕ) (c : ColumnInPage) → IsColumnOf h es c → IsCurrentOf h es c.current (flat_map part_octets c.parts)
column_current h es c of =
    let start : c.bounds.start ≡ h.bounds.start = ap (λ (b : Bounds). b.start) of.bounds in
    record {
      kind = of.kind;
      level = of.level;
      from_first = sym start ∙ of.valid.follow.from_first;
      some = omega (arith, of.count);
      entry = record { start = of.valid.current_start; page = of.valid.current_page };
      encoded = of.encoded;
      alone = λ none. no_parts c.parts c.bounds.start c.current.start of.valid.follow.first (omega (arith, none, parts-size c.parts)) ∙ start;
    }

pub column_parts : (h : Header) (es : List ℕ) (c : ColumnInPage) → IsColumnOf h es c → AreParts h.bounds.start (Some c.current.start) (h.count - 1) (flat_map part_octets c.parts) c.parts
column_parts h es c of =
    let up = ascending_front (starts_of c.parts) c.current.start of.valid.follow.rising in
    let start : c.bounds.start ≡ h.bounds.start = ap (λ (b : Bounds). b.start) of.bounds in
    record {
      each = before_all c.current.start c.parts of.valid.each up.1;
      from_first = subst (λ (n : ℕ). StartsAt n (starts_of c.parts)) start (starts_or c.bounds.start c.current.start c.parts of.valid.follow.first);
      rising = up.0;
      counted = omega (arith, of.count);
      encoded = refl;
    }

pub current_same : (h : Header) (es front other : List ℕ) (c d : Current) → IsCurrentOf h es c front → IsCurrentOf h es d other → (other ≡ front) × (d ≡ c)
current_same h es front other c d a b =
    let p = current_back es c front a.encoded in
    let q = current_back es d other b.encoded in
    (sym q.0 ∙ p.0, current_one d c b.entry a.entry (sym q.1 ∙ p.1))

-- the parts that are read before a current leaf are those of each column
pub column_read : (h : Header) (es front : List ℕ) (current : Current) (c : ColumnInPage) → IsCurrentOf h es current front → IsColumnOf h es c → AreParts h.bounds.start (Some current.start) (h.count - 1) front c.parts
column_read h es front current c is of =
    let same = current_same h es front (flat_map part_octets c.parts) current c.current is (column_current h es c of) in
    subst (λ (t : List ℕ). AreParts h.bounds.start (Some current.start) (h.count - 1) t c.parts) same.0
    (subst (λ (x : Current). AreParts h.bounds.start (Some x.start) (h.count - 1) (flat_map part_octets c.parts) c.parts) same.1 (column_parts h es c of))

abbrev pub column_entries : ColumnInPage → List ℕ
column_entries c = flat_map part_octets c.parts ++ current_octets c.current

abbrev pub column_header : ℕ → ColumnInPage → Header
column_header unit c = record { kind = 2; unit = unit; level = 1; count = length c.parts + 1; used = length (column_entries c); bounds = c.bounds }

entries-size : (c : ColumnInPage) → length (column_entries c) ≡ 25 * (length c.parts + 1)
entries-size c = omega (arith, parts-size c.parts, current-size c.current, length-append (flat_map part_octets c.parts) (current_octets c.current))

pub column_node : (unit : ℕ) (c : ColumnInPage) → IsColumn c → IsNode (column_header unit c) (column_entries c)
column_node unit c valid = record { bounds = valid.bounds; count = omega (arith, valid.follow.fits); used = refl; fits = omega (arith, entries-size c, valid.follow.fits) }

pub body_of : (h : Header) (es : List ℕ) (c : ColumnInPage) → IsColumnOf h es c → node_body h es ≡ node_body (column_header h.unit c) (column_entries c)
body_of h es c of =
    ap (λ (k : ℕ). body h.unit k h.level h.count h.bounds es) of.kind ∙ ap (λ (l : ℕ). body h.unit 2 l h.count h.bounds es) of.level ∙ ap (λ (n : ℕ). body h.unit 2 1 n h.bounds es) of.count
    ∙ ap (λ (b : Bounds). body h.unit 2 1 (length c.parts + 1) b es) (sym of.bounds) ∙ ap (body h.unit 2 1 (length c.parts + 1) c.bounds) of.encoded

pub column_of_begun : (h : Header) (es octets : List ℕ) (c : ColumnInPage) (unit : ℕ) → BeginsAsNode h es octets → IsColumn c → BeginsAsNode (column_header unit c) (column_entries c) octets → IsColumnOf h es c
column_of_begun h es octets c unit begun valid other =
    let same = nodes_same h (column_header unit c) es (column_entries c) octets begun other in
    record { kind = same.kind; level = same.level; bounds = sym same.bounds; count = same.count; valid = valid; encoded = entries_same h (column_header unit c) es (column_entries c) octets begun other }

abbrev pub column_made : (h : Header) (es page : List ℕ) (c : ColumnInPage) → IsNodePage h es page → IsColumnOf h es c → IsWrittenColumnPage c page
column_made h es page c is of = record {
  unit = h.unit;
  valid = of.valid;
  page = record { current = ap (λ (b : Bounds). b.end) of.bounds ∙ is.page.current; encoded = is.page.encoded ∙ ap (λ (t : List ℕ). t ++ replicate 32 0) (body_of h es c of) };
}

pub column_page_node : (c : ColumnInPage) (page : List ℕ) → (is : IsWrittenColumnPage c page) → IsNodePage (column_header is.unit c) (column_entries c) page
column_page_node c page is = record { valid = column_node is.unit c is.valid; page = record { current = is.page.current; encoded = is.page.encoded } }

pub column_back : (h : Header) (es page : List ℕ) (c : ColumnInPage) → IsNodePage h es page → IsWrittenColumnPage c page → IsColumnOf h es c
column_back h es page c is column =
    column_of_begun h es page c column.unit (page_begins h es page is) column.valid (page_begins (column_header column.unit c) (column_entries c) page (column_page_node c page column))

-- ---- in a block

pub old_column_from : (h : Header) (es : List ℕ) (ps : List Part) → IsNode h es → h.kind ≡ 2 → h.level ≡ 1 → (h.count ≡ 0 → ⊥) → AreParts h.bounds.start h.bounds.end h.count es ps
    → IsOldColumnOf h es (record { bounds = h.bounds; parts = ps })
old_column_from h es ps node kind level some are = record {
  kind = kind;
  level = level;
  bounds = refl;
  count = sym are.counted;
  valid = record {
    bounds = node.bounds;
    each = entries_all h.bounds.end ps are.each;
    follow = record {
      first = begun ps are.from_first are.counted;
      rising = are.rising;
      before_end = ends h.bounds.end ps are.each;
      fits = omega (arith, node.fits, ap length are.encoded, parts-size ps);
    };
  };
  encoded = are.encoded;
}
  where
    begun : (qs : List Part) → StartsAt h.bounds.start (starts_of qs) → length qs ≡ h.count → BeginsAt h.bounds.start (starts_of qs)
    begun [] first e = absurd (some (sym e))
    begun (q ∷ qs) first e = first

    before : (at : ℕ) (qs : List Part) → AllByRecursion (IsPartBefore (Some at)) qs → AllByRecursion (λ p. p.start < at) qs
    before at [] all = tt
    before at (q ∷ qs) all = (all.0.before, before at qs all.1)

    ends : (end : Option ℕ) (qs : List Part) → AllByRecursion (IsPartBefore end) qs → IfSome end (λ at. AllByRecursion (λ p. p.start < at) qs)
    ends None qs all = tt
    ends (Some at) qs all = before at qs all

pub old_column_parts : (h : Header) (es : List ℕ) (c : ColumnInBlock) → IsOldColumnOf h es c → AreParts h.bounds.start h.bounds.end h.count es c.parts
old_column_parts h es c of =
    let along : AreParts c.bounds.start c.bounds.end h.count es c.parts = record {
      each = within c.bounds.end c.parts of.valid.each of.valid.follow.before_end;
      from_first = begun c.parts of.valid.follow.first;
      rising = of.valid.follow.rising;
      counted = sym of.count;
      encoded = of.encoded;
    } in
    subst (λ (b : Bounds). AreParts b.start b.end h.count es c.parts) of.bounds along
  where
    begun : (qs : List Part) → BeginsAt c.bounds.start (starts_of qs) → StartsAt c.bounds.start (starts_of qs)
    begun [] first = tt
    begun (q ∷ qs) first = first

    within : (end : Option ℕ) (qs : List Part) → AllByRecursion IsPartEntry qs → IfSome end (λ at. AllByRecursion (λ p. p.start < at) qs) → AllByRecursion (IsPartBefore end) qs
    within end [] all ends = tt
    within None (q ∷ qs) all ends = (record { entry = all.0; before = tt }, within None qs all.1 tt)
    within (Some at) (q ∷ qs) all ends = (record { entry = all.0; before = ends.0 }, within (Some at) qs all.1 ends.1)

pub old_column_some : (h : Header) (es : List ℕ) (c : ColumnInBlock) → IsOldColumnOf h es c → h.count ≡ 0 → ⊥
old_column_some h es c of none = has c.parts of.valid.follow.first (omega (arith, none, of.count))
  where
    has : (qs : List Part) → BeginsAt c.bounds.start (starts_of qs) → length qs ≡ 0 → ⊥
    has [] first e = first
    has (q ∷ qs) first e = omega (arith, e)

abbrev pub old_header : ℕ → ColumnInBlock → Header
old_header unit c = record { kind = 2; unit = unit; level = 1; count = length c.parts; used = length (flat_map part_octets c.parts); bounds = c.bounds }

pub old_node : (unit : ℕ) (c : ColumnInBlock) → IsOldColumn c → IsNode (old_header unit c) (flat_map part_octets c.parts)
old_node unit c valid = record { bounds = valid.bounds; count = omega (arith, valid.follow.fits); used = refl; fits = omega (arith, parts-size c.parts, valid.follow.fits) }

pub old_body_of : (h : Header) (es : List ℕ) (c : ColumnInBlock) → IsOldColumnOf h es c → node_body h es ≡ node_body (old_header h.unit c) (flat_map part_octets c.parts)
old_body_of h es c of =
    ap (λ (k : ℕ). body h.unit k h.level h.count h.bounds es) of.kind ∙ ap (λ (l : ℕ). body h.unit 2 l h.count h.bounds es) of.level ∙ ap (λ (n : ℕ). body h.unit 2 1 n h.bounds es) of.count
    ∙ ap (λ (b : Bounds). body h.unit 2 1 (length c.parts) b es) (sym of.bounds) ∙ ap (body h.unit 2 1 (length c.parts) c.bounds) of.encoded

pub old_of_begun : (h : Header) (es octets : List ℕ) (c : ColumnInBlock) (unit : ℕ) → BeginsAsNode h es octets → IsOldColumn c → BeginsAsNode (old_header unit c) (flat_map part_octets c.parts) octets → IsOldColumnOf h es c
old_of_begun h es octets c unit begun valid other =
    let same = nodes_same h (old_header unit c) es (flat_map part_octets c.parts) octets begun other in
    record { kind = same.kind; level = same.level; bounds = sym same.bounds; count = same.count; valid = valid; encoded = entries_same h (old_header unit c) es (flat_map part_octets c.parts) octets begun other }

pub old_begins_of : (h : Header) (es octets : List ℕ) (c : ColumnInBlock) → BeginsAsNode h es octets → IsOldColumnOf h es c → BeginsAsWrittenOldColumn c octets
old_begins_of h es octets c is of = record { unit = h.unit; valid = of.valid; last = is.last; encoded = is.encoded ∙ ap (λ (t : List ℕ). t ++ is.last) (old_body_of h es c of) }

pub of_old_begins : (h : Header) (es octets : List ℕ) (c : ColumnInBlock) → BeginsAsNode h es octets → BeginsAsWrittenOldColumn c octets → IsOldColumnOf h es c
of_old_begins h es octets c is column = old_of_begun h es octets c column.unit is column.valid (record { valid = old_node column.unit c column.valid; last = column.last; encoded = column.encoded })

-- another predicate for a column that is found, and for none
pub some_column : (o : Option Bounds) (P Q : ColumnInBlock → Type 0) → ((c : ColumnInBlock) → P c → Q c) → IfSome o (λ b. (c : ColumnInBlock) × P c × (c.bounds ≡ b)) → IfSome o (λ b. (c : ColumnInBlock) × Q c × (c.bounds ≡ b))
some_column None P Q f is = tt
some_column (Some b) P Q f is = (is.0, f is.0 is.1, is.2)

pub none_column : (o : Option Bounds) (P Q : ColumnInBlock → Type 0) → ((c : ColumnInBlock) → Q c → P c) → IfNone o ((c : ColumnInBlock) → P c → ⊥) → IfNone o ((c : ColumnInBlock) → Q c → ⊥)
none_column None P Q f never = λ c is. never c (f c is)
none_column (Some b) P Q f never = tt

abbrev pub old_made : (h : Header) (es block : List ℕ) (c : ColumnInBlock) → IsNodeBlock h es block → IsOldColumnOf h es c → IsWrittenColumnBlock c block
old_made h es block c is of =
    let same = old_body_of h es c of in
    record {
      unit = h.unit;
      valid = of.valid;
      block = record {
        ended = subst (λ (b : Bounds). IsSome b.end) (sym of.bounds) is.block.ended;
        encoded = is.block.encoded ∙ ap (λ (t : List ℕ). t ++ sha256 t) same;
      };
    }

pub old_block_node : (c : ColumnInBlock) (block : List ℕ) → (is : IsWrittenColumnBlock c block) → IsNodeBlock (old_header is.unit c) (flat_map part_octets c.parts) block
old_block_node c block is = record { valid = old_node is.unit c is.valid; block = record { ended = is.block.ended; encoded = is.block.encoded } }

pub old_back : (h : Header) (es block : List ℕ) (c : ColumnInBlock) → IsNodeBlock h es block → IsWrittenColumnBlock c block → IsOldColumnOf h es c
old_back h es block c is column =
    old_of_begun h es block c column.unit (block_begins h es block is) column.valid (block_begins (old_header column.unit c) (flat_map part_octets c.parts) block (old_block_node c block column))
