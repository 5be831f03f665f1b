-- Paths with numbers in a row in one sequence as far as it holds them.
use Rattle.std.proofs.Common.{◌≡◌, ℕ, ◌<◌, ◌≤◌, ◌^◌, List, [], ◌∷◌, ◌++◌, length, sym, subst, ◌∙◌, append_assoc, length-append, arith}
use Rattle.std.specs.List.{AllByRecursion}
use Rattle.std.proofs.lemmas.List.{append-nil}
use Rattle.route_model.specs.declared.path.Segment.{Segment}
use Rattle.route_model.specs.declared.path.Segment.TheVariants as segments
use Rattle.route_model.specs.Encoding.{AreNumbers, IsSegment}
use Rattle.route_text.specs.NormalPath.{MayPrecede, IsNormalPath}
use Rattle.route_text.specs.inner.Steps.{run, IsBuilt}
use Rattle.route_text.proofs.Separated.{AllByRecursion-push, AllByRecursion-append}

-- ---- what may stand at the end

-- what may stand before a sequence may stand before each sequence
before_sequence : (s : Segment) (ns ms : List ℕ) → MayPrecede s (segments.Sequence ns) → MayPrecede s (segments.Sequence ms)
before_sequence (segments.Set numbers) ns ms h = tt
before_sequence (segments.Sequence numbers) ns ms h = h

before_set : (s : Segment) (ns : List ℕ) → MayPrecede s (segments.Set ns)
before_set (segments.Set numbers) ns = tt
before_set (segments.Sequence numbers) ns = tt

-- a sequence with what follows it, after what a sequence may follow
normal_sequence : (path : List Segment) (ns : List ℕ) (tail : List Segment) → IsNormalPath (path ++ segments.Sequence [] ∷ []) → IsNormalPath (segments.Sequence ns ∷ tail) → IsNormalPath (path ++ segments.Sequence ns ∷ tail)
normal_sequence [] ns tail h k = k
normal_sequence (s ∷ []) ns tail h k = (before_sequence s [] ns h.0, k)
normal_sequence (s ∷ t ∷ path) ns tail h k = (h.0, normal_sequence (t ∷ path) ns tail h.1 k)

normal_set : (path : List Segment) (ns : List ℕ) (tail : List Segment) → IsNormalPath (path ++ segments.Sequence [] ∷ []) → IsNormalPath (segments.Set ns ∷ tail) → IsNormalPath (path ++ segments.Set ns ∷ tail)
normal_set [] ns tail h k = k
normal_set (s ∷ []) ns tail h k = (before_set s ns, k)
normal_set (s ∷ t ∷ path) ns tail h k = (h.0, normal_set (t ∷ path) ns tail h.1 k)

normal_front : (path : List Segment) → IsNormalPath (path ++ segments.Sequence [] ∷ []) → IsNormalPath path
normal_front [] h = tt
normal_front (s ∷ []) h = tt
normal_front (s ∷ t ∷ path) h = (h.0, normal_front (t ∷ path) h.1)

-- ---- a path that grows

valid_run : (open_ : List ℕ) → length open_ ≤ 255 → AllByRecursion (λ n. n < 2 ^ 32) open_ → AllByRecursion IsSegment (run open_)
valid_run [] room numbers = tt
valid_run (n ∷ open_) room numbers = ((omega arith, omega arith, numbers), tt)

pub built_normal : (closed : List Segment) (open_ : List ℕ) → IsBuilt closed open_ → IsNormalPath (closed ++ run open_)
built_normal closed [] h = subst IsNormalPath (sym (append-nil closed)) (normal_front closed h.normal)
built_normal closed (n ∷ open_) h = normal_sequence closed (n ∷ open_) [] h.normal tt

pub built_more : (closed : List Segment) (open_ : List ℕ) (n : ℕ) → IsBuilt closed open_ → length open_ < 255 → n < 2 ^ 32 → IsBuilt closed (open_ ++ n ∷ [])
built_more closed open_ n h less fits = record {
  normal = h.normal;
  valid = h.valid;
  room = omega (arith, length-append open_ (n ∷ []));
  numbers = AllByRecursion-push (λ n. n < 2 ^ 32) open_ n h.numbers fits;
}

pub built_full : (closed : List Segment) (open_ : List ℕ) (n : ℕ) → IsBuilt closed open_ → 255 ≤ length open_ → n < 2 ^ 32 → IsBuilt (closed ++ run open_) (n ∷ [])
built_full closed [] n h full fits = absurd (let bad : ⊥ = omega arith in bad)
built_full closed (m ∷ open_) n h full fits = record {
  normal = subst IsNormalPath (sym (append_assoc closed (run (m ∷ open_)) (segments.Sequence [] ∷ []))) (normal_sequence closed (m ∷ open_) (segments.Sequence [] ∷ []) h.normal (let most = h.room in omega arith, tt));
  valid = AllByRecursion-append IsSegment closed (run (m ∷ open_)) h.valid (valid_run (m ∷ open_) h.room h.numbers);
  room = omega arith;
  numbers = (fits, tt);
}

pub built_set : (closed : List Segment) (open_ ns : List ℕ) → IsBuilt closed open_ → AreNumbers ns → IsBuilt ((closed ++ run open_) ++ segments.Set ns ∷ []) []
built_set closed open_ ns h valid = record {
  normal = subst IsNormalPath (regroup open_) (at open_);
  valid = AllByRecursion-append IsSegment (closed ++ run open_) (segments.Set ns ∷ []) (AllByRecursion-append IsSegment closed (run open_) h.valid (valid_run open_ h.room h.numbers)) (valid, tt);
  room = omega arith;
  numbers = tt;
}
  where
    regroup : (o : List ℕ) → closed ++ (run o ++ (segments.Set ns ∷ segments.Sequence [] ∷ [])) ≡ ((closed ++ run o) ++ segments.Set ns ∷ []) ++ segments.Sequence [] ∷ []
    regroup o = sym (append_assoc closed (run o) (segments.Set ns ∷ segments.Sequence [] ∷ [])) ∙ sym (append_assoc (closed ++ run o) (segments.Set ns ∷ []) (segments.Sequence [] ∷ []))

    at : (o : List ℕ) → IsNormalPath (closed ++ (run o ++ (segments.Set ns ∷ segments.Sequence [] ∷ [])))
    at [] = normal_set closed ns (segments.Sequence [] ∷ []) h.normal (tt, tt)
    at (n ∷ o) = normal_sequence closed (n ∷ o) (segments.Set ns ∷ segments.Sequence [] ∷ []) h.normal (tt, (tt, tt))

pub built_at : (closed closed' : List Segment) (open_ open_' : List ℕ) → closed ≡ closed' → open_ ≡ open_' → IsBuilt closed' open_' → IsBuilt closed open_
built_at closed closed' open_ open_' e f h = rw (e, f) h
