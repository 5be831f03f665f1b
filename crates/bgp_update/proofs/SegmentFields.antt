-- Laws of the segments of a path as fields, and of octets at a place.
use Rattle.std.proofs.Common.{◌≡◌, ℕ, ◌+◌, ◌*◌, ◌<◌, ◌≤◌, zero, suc, List, [], ◌∷◌, ◌++◌, length, take, drop, get_or, refl, sym, ap, ◌∙◌, arith}
use Rattle.std.specs.Prelude.{filter, Bool, true, false, if◌then◌else◌}
use Rattle.std.proofs.lemmas.List.Elements.{filter-append}
use Rattle.route_model.specs.Octets.{number_at}
use Rattle.route_model.specs.Reading.{NoFront, NoReading}
use Rattle.route_model.specs.declared.octets.ReadFault.{ReadFault}
use Rattle.route_model.specs.declared.octets.ReadFault.TheVariants as faults
use Rattle.route_model.specs.declared.path.Segment.{Segment}
use Rattle.route_model.specs.declared.path.Segment.TheVariants as segments
use Rattle.route_model.proofs.api.Sequences.{IsPrefixFree, same_fronts, ReadSoFar, read_start, read_on, read_all, read_none, sequence_one}
use Rattle.bgp_update.specs.Paths.{IsSegmentField, IsPath, has_numbers, code, numbers}

-- an octet of the front is that of the whole
pub front_octet : (a x : List ℕ) (i : ℕ) → i < length a → get_or (a ++ x) i 0 ≡ get_or a i 0
front_octet [] x i h = absurd (omega (arith, h))
front_octet (b ∷ a) x zero h = refl
front_octet (b ∷ a) x (suc i) h = front_octet a x i (omega (arith, h))

pub same_octet : (a b x y : List ℕ) (i : ℕ) → i < length a → i < length b → a ++ x ≡ b ++ y → get_or a i 0 ≡ get_or b i 0
same_octet a b x y i h k e = sym (front_octet a x i h) ∙ ap (λ (t : List ℕ). get_or t i 0) e ∙ front_octet b y i k

-- lists of one length with the same numbers are one
same_numbers : (a b : List ℕ) → length a ≡ length b → ((i : ℕ) → i < length a → get_or a i 0 ≡ get_or b i 0) → a ≡ b
same_numbers [] [] e same = refl
same_numbers [] (y ∷ b) e same = absurd (omega (arith, e))
same_numbers (x ∷ a) [] e same = absurd (omega (arith, e))
same_numbers (x ∷ a) (y ∷ b) e same =
    let rest = same_numbers a b (omega (arith, e)) (λ i lt. same (suc i) (omega (arith, lt))) in
    ap (λ (n : ℕ). n ∷ a) (same 0 (omega arith)) ∙ ap (λ (t : List ℕ). y ∷ t) rest

-- a segment is its type and its numbers
same_segment : (s t : Segment) → code s ≡ code t → numbers s ≡ numbers t → s ≡ t
same_segment (segments.Set ns) (segments.Set ms) c e = ap (λ (n : List ℕ). segments.Set n) e
same_segment (segments.Set ns) (segments.Sequence ms) c e = absurd (omega (arith, c))
same_segment (segments.Sequence ns) (segments.Set ms) c e = absurd (omega (arith, c))
same_segment (segments.Sequence ns) (segments.Sequence ms) c e = ap (λ (n : List ℕ). segments.Sequence n) e

pub segments_free : (width : ℕ) → IsPrefixFree (IsSegmentField width)
segments_free width = record {
  one = λ a b x y v w p q e.
      let kind : code v ≡ code w = p.kind ∙ same_octet a b x y 0 (omega (arith, p.size)) (omega (arith, q.size)) e ∙ sym q.kind in
      let count : length (numbers v) ≡ length (numbers w) = p.count ∙ same_octet a b x y 1 (omega (arith, p.size)) (omega (arith, q.size)) e ∙ sym q.count in
      let size : length a ≡ length b = p.size ∙ ap (λ (n : ℕ). 2 + width * n) count ∙ sym q.size in
      let fronts = same_fronts a b x y size e in
      let items : numbers v ≡ numbers w = same_numbers (numbers v) (numbers w) count
      (λ i lt. p.each i lt ∙ ap (λ (t : List ℕ). number_at width (2 + width * i) t) fronts.0 ∙ sym (q.each i (omega (arith, lt, count)))) in
      (fronts.0, same_segment v w kind items);
  some = λ v p. omega (arith, p.size);
}

-- the octets are one path
pub path_one : (width : ℕ) (bytes : List ℕ) (one two : List Segment) → IsPath width bytes one → IsPath width bytes two → one ≡ two
path_one width bytes one two p q =
    p.2 ∙ ap (λ (t : List Segment). filter has_numbers t) (sequence_one (IsSegmentField width) (segments_free width) bytes p.0 q.0 p.1 q.1) ∙ sym q.2

at_most_one : (b : Bool) (s : Segment) → length (if b then s ∷ [] else []) ≤ 1
at_most_one true s = omega arith
at_most_one false s = omega arith

-- of one segment at most one is kept
pub kept_one : (s : Segment) → length (filter has_numbers (s ∷ [])) ≤ 1
kept_one s = at_most_one (has_numbers s) s

-- the segments read, those of them that have numbers, and the octets left
pub record PathSoFar (width : ℕ) (bytes rest : List ℕ) (path : List Segment) : Type 0 where
  pub all : List Segment
  pub reads : ReadSoFar (IsSegmentField width) bytes rest all
  pub kept : path ≡ filter has_numbers all

pub path_start : (width : ℕ) (bytes : List ℕ) → PathSoFar width bytes bytes []
path_start width bytes = record { all = []; reads = read_start (IsSegmentField width) bytes; kept = refl }

pub path_on : (width : ℕ) (bytes rest : List ℕ) (path more : List Segment) (s : Segment) (n : ℕ) → PathSoFar width bytes rest path
    → IsSegmentField width (take n rest) s → more ≡ path ++ filter has_numbers (s ∷ []) → PathSoFar width bytes (drop n rest) more
path_on width bytes rest path more s n p f e = record {
  all = p.all ++ s ∷ [];
  reads = read_on (IsSegmentField width) bytes rest p.all s n p.reads f;
  kept = e ∙ ap (λ (t : List Segment). t ++ filter has_numbers (s ∷ [])) p.kept ∙ sym (filter-append has_numbers p.all (s ∷ []));
}

pub path_all : (width : ℕ) (bytes rest : List ℕ) (path : List Segment) → PathSoFar width bytes rest path → length rest ≡ 0 → IsPath width bytes path
path_all width bytes rest path p e = (p.all, read_all (IsSegmentField width) bytes rest p.all p.reads e, p.kept)

pub path_err : (e : ReadFault) (width : ℕ) (bytes rest : List ℕ) (path : List Segment) → PathSoFar width bytes rest path → 0 < length rest
    → NoFront (IsSegmentField width) rest e → NoReading (IsPath width bytes) e
path_err faults.OutOfMemory width bytes rest path p some none = tt
path_err faults.Malformed width bytes rest path p some none = λ ps q. read_none (IsSegmentField width) (segments_free width) bytes rest p.all p.reads none some q.0 q.1
