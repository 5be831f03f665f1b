-- A path's text by its steps, and the one normal path of its steps.
use Rattle.std.proofs.Common.{◌≡◌, ◌≢◌, ℕ, ◌<◌, ◌^◌, ◌⊎◌, inl, inr, List, [], ◌∷◌, ◌++◌, length, map, decimal, refl, sym, ap, ◌∙◌, append_assoc, length-append, arith}
use Rattle.std.specs.List.{AllByRecursion, join_with_byte}
use Rattle.std.proofs.lemmas.List.{append-nil, map-append}
use Rattle.route_model.specs.declared.path.Segment.{Segment}
use Rattle.route_model.specs.declared.path.Segment.TheVariants as segments
use Rattle.route_model.specs.Encoding.{IsSegment}
use Rattle.route_text.specs.declared.step.Step.{Step}
use Rattle.route_text.specs.declared.step.Step.TheVariants.{Number, Set}
use Rattle.route_text.specs.NormalPath.{IsNormalPath}
use Rattle.route_text.specs.Octets.{Lacks}
use Rattle.route_text.specs.RouteText.{numbers_text, segment_text, path_text}
use Rattle.route_text.specs.inner.Steps.{step_text, IsStep, segment_steps, steps}
use Rattle.route_text.proofs.Cuts.{Lacks-nil, Lacks-cons, Lacks-append, Lacks-head, Lacks-same}
use Rattle.route_text.proofs.Numbers.{Lacks-decimal}
use Rattle.route_text.proofs.Separated.{AllByRecursion-append, left_begin, left_last}

-- ---- steps

steps_valid-numbers : (ns : List ℕ) → AllByRecursion (λ n. n < 2 ^ 32) ns → AllByRecursion IsStep (map Number ns)
steps_valid-numbers [] h = tt
steps_valid-numbers (n ∷ ns) h = (h.0, steps_valid-numbers ns h.1)

segment_steps_valid : (s : Segment) → IsSegment s → AllByRecursion IsStep (segment_steps s)
segment_steps_valid (segments.Set ns) h = (h, tt)
segment_steps_valid (segments.Sequence ns) h = steps_valid-numbers ns h.2

pub steps_valid : (path : List Segment) → AllByRecursion IsSegment path → AllByRecursion IsStep (steps path)
steps_valid [] h = tt
steps_valid (s ∷ path) h = AllByRecursion-append IsStep (segment_steps s) (steps path) (segment_steps_valid s h.0) (steps_valid path h.1)

length-segment_steps : (s : Segment) → IsSegment s → 0 < length (segment_steps s)
length-segment_steps (segments.Set ns) h = omega arith
length-segment_steps (segments.Sequence []) h = absurd (let none = h.0 in let bad : ⊥ = omega arith in bad)
length-segment_steps (segments.Sequence (n ∷ ns)) h = omega arith

pub length-steps : (path : List Segment) → AllByRecursion IsSegment path → 0 < length path → 0 < length (steps path)
length-steps [] h some = absurd (let bad : ⊥ = omega arith in bad)
length-steps (s ∷ path) h some = omega (arith, length-append (segment_steps s) (steps path), length-segment_steps s h.0)

-- ---- the text

-- texts that are joined in two parts
join-append : (c : ℕ) (xs ys : List (List ℕ)) → 0 < length xs → 0 < length ys → join_with_byte c (xs ++ ys) ≡ join_with_byte c xs ++ (c ∷ join_with_byte c ys)
join-append c [] ys some more = absurd (let bad : ⊥ = omega arith in bad)
join-append c (x ∷ []) [] some more = absurd (let bad : ⊥ = omega arith in bad)
join-append c (x ∷ []) (y ∷ ys) some more = refl
join-append c (x ∷ z ∷ xs) ys some more = ap (λ t. x ++ (c ∷ t)) (join-append c (z ∷ xs) ys (omega arith) more) ∙ sym (append_assoc x (c ∷ join_with_byte c (z ∷ xs)) (c ∷ join_with_byte c ys))

map-Number : (ns : List ℕ) → map step_text (map Number ns) ≡ map decimal ns
map-Number [] = refl
map-Number (n ∷ ns) = ap (λ t. decimal n ∷ t) (map-Number ns)

segment_text_is : (s : Segment) → segment_text s ≡ join_with_byte 32 (map step_text (segment_steps s))
segment_text_is (segments.Set ns) = refl
segment_text_is (segments.Sequence ns) = ap (join_with_byte 32) (sym (map-Number ns))

length-map : {X Y : Type 0} (f : X → Y) (xs : List X) → length (map f xs) ≡ length xs
length-map f [] = refl
length-map f (x ∷ xs) = omega (arith, length-map f xs)

joined_segments : (s : Segment) (path : List Segment) → AllByRecursion IsSegment (s ∷ path) → join_with_byte 32 (map segment_text (s ∷ path)) ≡ join_with_byte 32 (map step_text (steps (s ∷ path)))
joined_segments s [] h = segment_text_is s ∙ ap (λ t. join_with_byte 32 (map step_text t)) (sym (append-nil (segment_steps s)))
joined_segments s (t ∷ path) h =
    let first = segment_text_is s in
    let rest = joined_segments t path h.1 in
    let parts = join-append 32 (map step_text (segment_steps s)) (map step_text (steps (t ∷ path))) (omega (arith, length-map step_text (segment_steps s), length-segment_steps s h.0)) (omega (arith, length-map step_text (steps (t ∷ path)), length-steps (t ∷ path) h.1 (omega arith))) in
    (λ i. first i ++ (32 ∷ rest i)) ∙ sym parts ∙ ap (join_with_byte 32) (sym (map-append step_text (segment_steps s) (steps (t ∷ path))))

pub path_text-steps : (path : List Segment) → 0 < length path → AllByRecursion IsSegment path → path_text path ≡ join_with_byte 32 (map step_text (steps path))
path_text-steps [] some h = absurd (let bad : ⊥ = omega arith in bad)
path_text-steps (s ∷ path) some h = joined_segments s path h

-- ---- octets that no step's word holds

Lacks-numbers_text : (c d : ℕ) (ns : List ℕ) → AllByRecursion (λ n. n < 2 ^ 32) ns → (Rattle.std.specs.Int.IsInRange 48 57 c → ⊥) → d ≢ c → Lacks c (numbers_text d ns)
Lacks-numbers_text c d [] h digit other = Lacks-nil c
Lacks-numbers_text c d (n ∷ []) h digit other = Lacks-decimal c n (let fits = h.0 in omega arith) digit
Lacks-numbers_text c d (n ∷ m ∷ ns) h digit other = Lacks-append c (decimal n) (d ∷ numbers_text d (m ∷ ns)) (Lacks-decimal c n (let fits = h.0 in omega arith) digit) (Lacks-cons c d (numbers_text d (m ∷ ns)) other (Lacks-numbers_text c d (m ∷ ns) h.1 digit other))

-- an octet that is no digit, comma or brace
pub Lacks-step_text : (c : ℕ) → (Rattle.std.specs.Int.IsInRange 48 57 c → ⊥) → 44 ≢ c → 123 ≢ c → 125 ≢ c → (s : Step) → IsStep s → Lacks c (step_text s)
Lacks-step_text c digit comma open_ close (Number n) h = Lacks-decimal c n (omega arith) digit
Lacks-step_text c digit comma open_ close (Set ns) h = Lacks-cons c 123 (numbers_text 44 ns ++ 125 ∷ []) open_ (Lacks-append c (numbers_text 44 ns) (125 ∷ []) (Lacks-numbers_text c 44 ns h.2 digit comma) (Lacks-cons c 125 [] close (Lacks-nil c)))

-- ---- the one normal path

-- of two runs of numbers at the front of the same steps, either is the other, or one goes on
pub record GoesOn (ns ms : List ℕ) (p q : List Step) : Type 0 where
  pub number : ℕ
  pub more : List ℕ
  pub longer : ms ≡ ns ++ number ∷ more
  pub rest : p ≡ Number number ∷ (map Number more ++ q)

runs : (ns ms : List ℕ) (p q : List Step) → map Number ns ++ p ≡ map Number ms ++ q → ((ns ≡ ms) × (p ≡ q)) ⊎ (GoesOn ns ms p q ⊎ GoesOn ms ns q p)
runs [] [] p q e = inl (refl, e)
runs [] (m ∷ ms) p q e = inr (inl (record { number = m; more = ms; longer = refl; rest = e }))
runs (n ∷ ns) [] p q e = inr (inr (record { number = n; more = ns; longer = refl; rest = sym e }))
runs (n ∷ ns) (m ∷ ms) p q e =
    let head : n ≡ m = cc in
    let tail : map Number ns ++ p ≡ map Number ms ++ q = cc in
    elim (runs ns ms p q tail) [
      | inl h ↦ inl ((λ i. head i ∷ h.0 i), h.1)
      | inr other ↦ elim other [
        | inl h ↦ inr (inl (record { number = h.number; more = h.more; longer = λ i. sym head i ∷ h.longer i; rest = h.rest }))
        | inr h ↦ inr (inr (record { number = h.number; more = h.more; longer = λ i. head i ∷ h.longer i; rest = h.rest }))
      ]
    ]

-- a sequence that others continue is full, so none continues it
full : (ns : List ℕ) (path : List Segment) (number : ℕ) (rest : List Step) → IsNormalPath (segments.Sequence ns ∷ path) → AllByRecursion IsSegment path → steps path ≡ Number number ∷ rest → length ns ≡ 255
full ns [] number rest normal valid e = absurd (let bad : ⊥ = cc in bad)
full ns (segments.Set ms ∷ path) number rest normal valid e = absurd (let bad : ⊥ = cc in bad)
full ns (segments.Sequence ms ∷ path) number rest normal valid e = normal.0

tail_normal : (s : Segment) (path : List Segment) → IsNormalPath (s ∷ path) → IsNormalPath path
tail_normal s [] h = tt
tail_normal s (t ∷ path) h = h.1

no_longer : (ns ms : List ℕ) (p : List Segment) (q : List Step) → IsNormalPath (segments.Sequence ns ∷ p) → AllByRecursion IsSegment p → length ms < 256 → GoesOn ns ms (steps p) q → ⊥
no_longer ns ms p q normal valid few h =
    let most = full ns p h.number (map Number h.more ++ q) normal valid h.rest in
    let size = ap length h.longer in
    omega (arith, length-append ns (h.number ∷ h.more), size, most)

pub normal_unique : (p q : List Segment) → AllByRecursion IsSegment p → AllByRecursion IsSegment q → IsNormalPath p → IsNormalPath q → steps p ≡ steps q → p ≡ q
normal_unique [] [] vp vq np nq e = refl
normal_unique [] (t ∷ q) vp vq np nq e = absurd (let some = length-steps (t ∷ q) vq (omega arith) in let none = ap length e in omega arith)
normal_unique (s ∷ p) [] vp vq np nq e = absurd (let some = length-steps (s ∷ p) vp (omega arith) in let none = ap length e in omega arith)
normal_unique (segments.Set ns ∷ p) (segments.Set ms ∷ q) vp vq np nq e =
    let head : ns ≡ ms = cc in
    let tail : steps p ≡ steps q = cc in
    let rest = normal_unique p q vp.1 vq.1 (tail_normal (segments.Set ns) p np) (tail_normal (segments.Set ms) q nq) tail in
    λ i. segments.Set (head i) ∷ rest i
normal_unique (segments.Set ns ∷ p) (segments.Sequence [] ∷ q) vp vq np nq e = absurd (let none = vq.0.0 in let bad : ⊥ = omega arith in bad)
normal_unique (segments.Set ns ∷ p) (segments.Sequence (m ∷ ms) ∷ q) vp vq np nq e = absurd (let bad : ⊥ = cc in bad)
normal_unique (segments.Sequence [] ∷ p) (segments.Set ms ∷ q) vp vq np nq e = absurd (let none = vp.0.0 in let bad : ⊥ = omega arith in bad)
normal_unique (segments.Sequence (n ∷ ns) ∷ p) (segments.Set ms ∷ q) vp vq np nq e = absurd (let bad : ⊥ = cc in bad)
normal_unique (segments.Sequence ns ∷ p) (segments.Sequence ms ∷ q) vp vq np nq e =
    elim (runs ns ms (steps p) (steps q) e) [
      | inl h ↦
          let rest = normal_unique p q vp.1 vq.1 (tail_normal (segments.Sequence ns) p np) (tail_normal (segments.Sequence ms) q nq) h.1 in
          λ i. segments.Sequence (h.0 i) ∷ rest i
      | inr other ↦ elim other [
        | inl h ↦ absurd (no_longer ns ms p (steps q) np vp.1 vq.0.1 h)
        | inr h ↦ absurd (no_longer ms ns q (steps p) nq vq.1 vp.0.1 h)
      ]
    ]

-- ---- the dash

-- only the empty path is written as a dash
pub dash : (path : List Segment) → AllByRecursion IsSegment path → path_text path ≡ 45 ∷ [] → path ≡ []
dash [] valid e = refl
dash (s ∷ path) valid e =
    let text = sym e ∙ path_text-steps (s ∷ path) (omega arith) valid in
    let left = left_begin 32 step_text IsStep (steps (s ∷ path)) (45 ∷ []) (length-steps (s ∷ path) valid (omega arith)) (steps_valid (s ∷ path) valid) text in
    let last = left_last 32 step_text IsStep (steps (s ∷ path)) [] (45 ∷ []) left (Lacks-cons 32 45 [] (λ h. omega arith) (Lacks-nil 32)) in
    absurd (Lacks-head 45 45 [] (Lacks-same 45 (step_text left.next) (45 ∷ []) (sym last.0) (Lacks-step_text 45 (λ d. omega arith) (λ h. omega arith) (λ h. omega arith) (λ h. omega arith) left.next left.here)) refl)

pub some_segment : (path : List Segment) (text : List ℕ) → text ≢ 45 ∷ [] → text ≡ path_text path → 0 < length path
some_segment [] text other e = absurd (other e)
some_segment (s ∷ path) text other e = omega arith
