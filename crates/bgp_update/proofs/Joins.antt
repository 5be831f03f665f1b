-- Laws of joined paths.
use Rattle.std.proofs.Common.{◌≡◌, ℕ, suc, ◌+◌, ◌-◌, ◌<◌, ◌≤◌, ◌⊎◌, inl, inr, false, ◌==◌, List, [], ◌∷◌, ◌++◌, length, take, drop, get_or, refl, sym, ap, ◌∙◌, arith, append_assoc, add-one}
use Rattle.std.proofs.lemmas.Bool.{cases_lt, lt-ltb, le-ltb}
use Rattle.std.proofs.lemmas.Bool.Decides.{eqb_tells}
use Rattle.std.proofs.lemmas.List.{take-append-drop, length-take, length-append, append-nil, take_at}
use Rattle.std.proofs.Math.Seq.{drop-cons, take-suc}
use Rattle.route_model.proofs.api.Sequences.{empty_is}
use Rattle.route_model.specs.declared.path.Segment.{Segment}
use Rattle.route_model.specs.declared.path.Segment.TheVariants as segments
use Rattle.bgp_update.specs.Paths.{numbers}
use Rattle.bgp_update.specs.Joining.{weight, count, IsBeginning, IsLeading, Joined, NoneEmpty, first_numbers, leading, joined_path}

not_zero : (k : ℕ) → 0 < k → (k == 0) ≡ false
not_zero k h = elim (eqb_tells k 0) [ inl same ↦ absurd (omega (arith, same.1)) | inr other ↦ other.0 ]

-- what leading does where the count reaches into the segment
pub leading_cut : (s : Segment) (path : List Segment) (k : ℕ) → 0 < k → k < weight s → leading (s ∷ path) k ≡ first_numbers k s ∷ []
leading_cut s path k some less = let n : (k == 0) ≡ false = not_zero k some in rw (lt-ltb k (weight s) less, n) refl

pub leading_none : (s : Segment) (path : List Segment) → 0 < weight s → leading (s ∷ path) 0 ≡ []
leading_none s path some = rw (lt-ltb 0 (weight s) some) refl

pub leading_whole : (s : Segment) (path : List Segment) (k : ℕ) → weight s ≤ k → leading (s ∷ path) k ≡ s ∷ leading path (k - weight s)
leading_whole s path k le = rw (le-ltb k (weight s) le) refl

-- a segment with numbers counts
some_weight : (s : Segment) → 0 < length (numbers s) → 0 < weight s
some_weight (segments.Set ns) h = omega arith
some_weight (segments.Sequence ns) h = h

-- a segment that is cut is a sequence
cut_begins : (s : Segment) (k : ℕ) → 0 < k → k < weight s → IsBeginning s (first_numbers k s) × (weight (first_numbers k s) ≡ k)
cut_begins (segments.Set ns) k some less = absurd (omega arith)
cut_begins (segments.Sequence ns) k some less =
    let len : length (take k ns) ≡ k = omega (arith, length-take k ns) in
    ((omega (arith, len), drop k ns, sym (take-append-drop k ns)), len)

pub leading_is : (path : List Segment) (k : ℕ) → NoneEmpty path → IsLeading path (leading path k)
leading_is [] k h = tt
leading_is (s ∷ path) k h =
    let w = some_weight s h.0 in
    elim (cases_lt k (weight s)) [
      | inr whole ↦ rw (leading_whole s path k whole) (inl (refl, leading_is path (k - weight s) h.1))
      | inl cut ↦ elim (cases_lt 0 k) [
        | inl some ↦ rw (leading_cut s path k some cut) (inr ((cut_begins s k some cut).0, refl))
        | inr none ↦
            let zero_k : k ≡ 0 = omega arith in
            rw (zero_k, leading_none s path w) tt
      ]
    ]

pub leading_count : (path : List Segment) (k : ℕ) → NoneEmpty path → k ≤ count path → count (leading path k) ≡ k
leading_count [] k h le = omega arith
leading_count (s ∷ path) k h le =
    let w = some_weight s h.0 in
    elim (cases_lt k (weight s)) [
      | inr whole ↦
          let rest = leading_count path (k - weight s) h.1 (omega (arith, le)) in
          rw (leading_whole s path k whole) (omega (arith, rest, whole))
      | inl cut ↦ elim (cases_lt 0 k) [
        | inl some ↦ rw (leading_cut s path k some cut) (omega (arith, (cut_begins s k some cut).1))
        | inr none ↦
            let zero_k : k ≡ 0 = omega arith in
            rw (zero_k, leading_none s path w) refl
      ]
    ]

leading_nothing : (path : List Segment) → NoneEmpty path → leading path 0 ≡ []
leading_nothing [] h = refl
leading_nothing (s ∷ path) h = leading_none s path (some_weight s h.0)

abbrev sequence : List ℕ → Segment
sequence ns = segments.Sequence ns

-- a beginning is what leading takes of the segment
beginning_is : (s x : Segment) (path : List Segment) → NoneEmpty path → IsBeginning s x → x ∷ [] ≡ leading (s ∷ path) (weight x)
beginning_is (segments.Set ns) x path h b = absurd b
beginning_is (segments.Sequence ns) (segments.Set ms) path h b = absurd b
beginning_is (segments.Sequence ns) (segments.Sequence ms) path h b =
    let size : length ns ≡ length ms + length b.1 = ap length b.2 ∙ length-append ms b.1 in
    elim (cases_lt (length ms) (length ns)) [
      | inl cut ↦
          let front : take (length ms) ns ≡ ms = ap (λ (t : List ℕ). take (length ms) t) b.2 ∙ take_at ms b.1 (length ms) refl in
          sym (leading_cut (sequence ns) path (length ms) b.0 cut ∙ ap (λ (t : List ℕ). sequence t ∷ []) front)
      | inr whole ↦
          let none : b.1 ≡ [] = empty_is b.1 (omega (arith, size, whole)) in
          let same : ns ≡ ms = b.2 ∙ ap (λ (t : List ℕ). ms ++ t) none ∙ append-nil ms in
          let left : length ms - length ns ≡ 0 = omega (arith, size) in
          sym (leading_whole (sequence ns) path (length ms) whole ∙ ap (λ (n : ℕ). sequence ns ∷ leading path n) left
          ∙ ap (λ (t : List Segment). sequence ns ∷ t) (leading_nothing path h) ∙ ap (λ (t : List ℕ). sequence t ∷ []) same)
    ]

pub leading_one : (path front : List Segment) → NoneEmpty path → IsLeading path front → front ≡ leading path (count front)
leading_one [] [] h p = refl
leading_one [] (x ∷ front) h p = absurd p
leading_one (s ∷ path) [] h p = sym (leading_none s path (some_weight s h.0))
leading_one (s ∷ path) (x ∷ front) h (inl p) =
    let same : weight x ≡ weight s = ap weight p.0 in
    let left : count (x ∷ front) - weight s ≡ count front = omega (arith, same) in
    let rest = leading_one path front h.1 p.1 in
    ap (λ (t : Segment). t ∷ front) p.0 ∙ ap (λ (t : List Segment). s ∷ t) rest ∙ ap (λ (n : ℕ). s ∷ leading path n) (sym left)
    ∙ sym (leading_whole s path (count (x ∷ front)) (omega (arith, same)))
leading_one (s ∷ path) (x ∷ front) h (inr p) =
    let all : count (x ∷ front) ≡ weight x = ap (λ (t : List Segment). weight x + count t) p.1 ∙ omega arith in
    ap (λ (t : List Segment). x ∷ t) p.1 ∙ beginning_is s x path h.1 p.0 ∙ ap (λ (n : ℕ). leading (s ∷ path) n) (sym all)

count-append : (xs ys : List Segment) → count (xs ++ ys) ≡ count xs + count ys
count-append [] ys = omega arith
count-append (x ∷ xs) ys = let rest = count-append xs ys in omega (arith, rest)

pub joined_laid : (a a4 : List Segment) → count a4 ≤ count a → joined_path a a4 ≡ leading a (count a - count a4) ++ a4
joined_laid a a4 le = rw (le-ltb (count a) (count a4) le) refl

pub joined_kept : (a a4 : List Segment) → count a < count a4 → joined_path a a4 ≡ a
joined_kept a a4 lt = rw (lt-ltb (count a) (count a4) lt) refl

-- the function computes a joined path
pub joined_is : (a a4 : List Segment) → NoneEmpty a → count a4 ≤ count a → Joined a a4 (joined_path a a4)
joined_is a a4 h le =
    let k = leading_count a (count a - count a4) h (omega arith) in
    let p : joined_path a a4 ≡ leading a (count a - count a4) ++ a4 = joined_laid a a4 le in
    record {
      front = leading a (count a - count a4);
      leading = leading_is a (count a - count a4) h;
      followed = p;
      counts = ap count p ∙ count-append (leading a (count a - count a4)) a4 ∙ omega (arith, k, le);
    }

-- and there is no other
pub joined_one : (a a4 p : List Segment) → NoneEmpty a → Joined a a4 p → p ≡ joined_path a a4
joined_one a a4 p h j =
    let sum : count a ≡ count j.front + count a4 = sym j.counts ∙ ap count j.followed ∙ count-append j.front a4 in
    let k : count j.front ≡ count a - count a4 = omega (arith, sum) in
    let le : count a4 ≤ count a = omega (arith, sum) in
    let front : j.front ≡ leading a (count a - count a4) = leading_one a j.front h j.leading ∙ ap (λ (n : ℕ). leading a n) k in
    j.followed ∙ ap (λ (t : List Segment). t ++ a4) front ∙ sym (joined_laid a a4 le)

-- ---- as loops go over a path

-- the path from a place on
pub here : (path : List Segment) (i : ℕ) (s : Segment) → i < length path → s ≡ get_or path i s → drop i path ≡ s ∷ drop (i + 1) path
here path i s lt e = rw (add-one) (drop-cons path i s lt ∙ ap (λ (x : Segment). x ∷ drop (suc i) path) (sym e))

-- one more segment was counted
pub counted : (path : List Segment) (i sum : ℕ) (s : Segment) → i < length path → s ≡ get_or path i s → sum + count (drop i path) ≡ count path
    → sum + weight s + count (drop (i + 1) path) ≡ count path
counted path i sum s lt e so_far = let one = ap count (here path i s lt e) in omega (arith, one, so_far)

pub front_more : (path : List Segment) (i : ℕ) (s : Segment) → i < length path → s ≡ get_or path i s → take (i + 1) path ≡ take i path ++ s ∷ []
front_more path i s lt e = rw (add-one) (take-suc path i s lt ∙ ap (λ (x : Segment). take i path ++ x ∷ []) (sym e))

-- one more segment is whole in the leading part
pub leads_on : (path total : List Segment) (i left : ℕ) (s : Segment) → i < length path → s ≡ get_or path i s → weight s ≤ left
    → total ≡ take i path ++ leading (drop i path) left → total ≡ take (i + 1) path ++ leading (drop (i + 1) path) (left - weight s)
leads_on path total i left s lt e le so_far =
    let next : leading (drop i path) left ≡ s ∷ leading (drop (i + 1) path) (left - weight s) =
    ap (λ (t : List Segment). leading t left) (here path i s lt e) ∙ leading_whole s (drop (i + 1) path) left le in
    so_far ∙ ap (λ (t : List Segment). take i path ++ t) next ∙ sym (append_assoc (take i path) (s ∷ []) (leading (drop (i + 1) path) (left - weight s)))
    ∙ ap (λ (t : List Segment). t ++ leading (drop (i + 1) path) (left - weight s)) (sym (front_more path i s lt e))

-- the segment at the place is the first from there on
pub first_here : (path after : List Segment) (i : ℕ) (s x : Segment) → i < length path → s ≡ get_or path i s → drop i path ≡ x ∷ after → x ≡ s
first_here path after i s x lt e is = let both : (x ∷ after) ≡ s ∷ drop (i + 1) path = sym is ∙ here path i s lt e in cc

-- nothing is cut where no segment is left, or no number is needed
pub leads_nowhere : (rest : List Segment) (left : ℕ) → ((s : Segment) (after : List Segment) → rest ≡ s ∷ after → left < weight s)
    → (length rest ≡ 0) ⊎ (left ≡ 0) → leading rest left ≡ []
leads_nowhere [] left cut none = refl
leads_nowhere (s ∷ rest) left cut (inl none) = absurd (omega (arith, none))
leads_nowhere (s ∷ rest) left cut (inr none) = ap (λ (n : ℕ). leading (s ∷ rest) n) none ∙ leading_none s rest (omega (arith, cut s rest refl, none))
