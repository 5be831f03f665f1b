-- Each route has the text of one whose path is in normal form.
use Rattle.std.proofs.Common.{◌≡◌, ℕ, zero, suc, ◌<◌, ◌≤◌, ◌^◌, inl, inr, List, [], ◌∷◌, ◌++◌, length, map, take, drop, refl, sym, ap, ◌∙◌, append_assoc, length-append, length-drop, arith}
use Rattle.std.specs.List.{AllByRecursion, join_with_byte}
use Rattle.std.proofs.lemmas.Bool.{cases_lt}
use Rattle.std.proofs.lemmas.List.{take-append-drop, length-take-le, map-append}
use Rattle.route_model.specs.declared.path.Segment.{Segment}
use Rattle.route_model.specs.declared.path.Segment.TheVariants as segments
use Rattle.route_model.specs.declared.route.Route.{Route}
use Rattle.route_model.specs.Encoding.{AreNumbers, IsSegment, IsRoute}
use Rattle.route_text.specs.declared.step.Step.{Step}
use Rattle.route_text.specs.declared.step.Step.TheVariants.{Number, Set}
use Rattle.route_text.specs.NormalPath.{IsNormalPath}
use Rattle.route_text.specs.RouteText.{path_text, route_text}
use Rattle.route_text.specs.inner.Steps.{step_text, steps}
use Rattle.route_text.proofs.PathTexts.{path_text-steps, length-steps}
use Rattle.route_text.proofs.Separated.{AllByRecursion-append}

-- ---- parts of a list of numbers

abbrev Fits : ℕ → Type 0
Fits n = n < 2 ^ 32

all_take : (n : ℕ) (xs : List ℕ) → AllByRecursion Fits xs → AllByRecursion Fits (take n xs)
all_take zero xs h = tt
all_take (suc n) [] h = tt
all_take (suc n) (x ∷ xs) h = (h.0, all_take n xs h.1)

all_drop : (n : ℕ) (xs : List ℕ) → AllByRecursion Fits xs → AllByRecursion Fits (drop n xs)
all_drop zero xs h = h
all_drop (suc n) [] h = tt
all_drop (suc n) (x ∷ xs) h = all_drop n xs h.1

-- ---- numbers before a normal path

-- a normal path, valid, of these steps, and at most so long
pub record Normal (all : List Step) (most : ℕ) : Type 0 where
  pub path : List Segment
  pub normal : IsNormalPath path
  pub valid : AllByRecursion IsSegment path
  pub same : steps path ≡ all
  pub short : length path ≤ most

-- a full sequence stands before each path
full_first : (ns : List ℕ) (path : List Segment) → length ns ≡ 255 → IsNormalPath path → IsNormalPath (segments.Sequence ns ∷ path)
full_first ns [] size h = tt
full_first ns (segments.Set ms ∷ path) size h = (tt, h)
full_first ns (segments.Sequence ms ∷ path) size h = (size, h)

tail_normal : (s : Segment) (path : List Segment) → IsNormalPath (s ∷ path) → IsNormalPath path
tail_normal s [] h = tt
tail_normal s (t ∷ path) h = h.1

set_first : (ns : List ℕ) (path : List Segment) → IsNormalPath path → IsNormalPath (segments.Set ns ∷ path)
set_first ns [] h = tt
set_first ns (t ∷ path) h = (tt, h)

-- where both fit in one sequence, what followed the second may follow the merged one
merged_first : (ns ms : List ℕ) (path : List Segment) → 0 < length ns → length (ns ++ ms) ≤ 255 → IsNormalPath (segments.Sequence ms ∷ path) → IsNormalPath (segments.Sequence (ns ++ ms) ∷ path)
merged_first ns ms [] some few h = tt
merged_first ns ms (segments.Set ks ∷ path) some few h = h
merged_first ns ms (segments.Sequence ks ∷ path) some few h = absurd (let full = h.0 in let bad : ⊥ = omega (arith, length-append ns ms) in bad)

pub before : (ns : List ℕ) → AreNumbers ns → (path : List Segment) → IsNormalPath path → AllByRecursion IsSegment path → Normal (map Number ns ++ steps path) (suc (length path))
before ns h [] normal valid = record { path = segments.Sequence ns ∷ []; normal = tt; valid = (h, tt); same = refl; short = omega arith }
before ns h (segments.Set ms ∷ path) normal valid = record { path = segments.Sequence ns ∷ segments.Set ms ∷ path; normal = (tt, normal); valid = (h, valid); same = refl; short = omega arith }
before ns h (segments.Sequence ms ∷ path) normal valid =
    let all = AllByRecursion-append Fits ns ms h.2 valid.0.2 in
    let size = length-append ns ms in
    elim (cases_lt (length (ns ++ ms)) 256) [
      | inl few ↦ record {
        path = segments.Sequence (ns ++ ms) ∷ path;
        normal = merged_first ns ms path h.0 (omega arith) normal;
        valid = ((let some = h.0 in omega arith, few, all), valid.1);
        same = ap (λ t. t ++ steps path) (map-append Number ns ms) ∙ append_assoc (map Number ns) (map Number ms) (steps path);
        short = omega arith;
      }
      | inr many ↦
          let front = length-take-le 255 (ns ++ ms) (omega arith) in
          let back = length-drop 255 (ns ++ ms) in
          let rest = before (drop 255 (ns ++ ms)) (let few = h.1 in let most = valid.0.1 in omega arith, let few = h.1 in let most = valid.0.1 in omega arith, all_drop 255 (ns ++ ms) all) path (tail_normal (segments.Sequence ms) path normal) valid.1 in
          record {
            path = segments.Sequence (take 255 (ns ++ ms)) ∷ rest.path;
            normal = full_first (take 255 (ns ++ ms)) rest.path front rest.normal;
            valid = ((omega arith, omega arith, all_take 255 (ns ++ ms) all), rest.valid);
            same =
                ap (λ t. map Number (take 255 (ns ++ ms)) ++ t) rest.same
                ∙ sym (append_assoc (map Number (take 255 (ns ++ ms))) (map Number (drop 255 (ns ++ ms))) (steps path))
                ∙ ap (λ t. t ++ steps path) (sym (map-append Number (take 255 (ns ++ ms)) (drop 255 (ns ++ ms))) ∙ ap (map Number) (take-append-drop 255 (ns ++ ms)) ∙ map-append Number ns ms)
                ∙ append_assoc (map Number ns) (map Number ms) (steps path);
            short = (let less = rest.short in omega arith);
          }
    ]

pub normal_of : (path : List Segment) → AllByRecursion IsSegment path → Normal (steps path) (length path)
normal_of [] valid = record { path = []; normal = tt; valid = tt; same = refl; short = omega arith }
normal_of (segments.Set ns ∷ path) valid =
    let rest = normal_of path valid.1 in
    record {
      path = segments.Set ns ∷ rest.path;
      normal = set_first ns rest.path rest.normal;
      valid = (valid.0, rest.valid);
      same = ap (λ t. Set ns ∷ t) rest.same;
      short = (let less = rest.short in omega arith);
    }
normal_of (segments.Sequence ns ∷ path) valid =
    let rest = normal_of path valid.1 in
    let whole = before ns valid.0 rest.path rest.normal rest.valid in
    record {
      path = whole.path;
      normal = whole.normal;
      valid = whole.valid;
      same = whole.same ∙ ap (λ t. map Number ns ++ t) rest.same;
      short = (let less = rest.short in let more = whole.short in omega arith);
    }

-- ---- the text of a normal path

same_text : (p q : List Segment) → AllByRecursion IsSegment p → AllByRecursion IsSegment q → steps q ≡ steps p → path_text p ≡ path_text q
same_text [] [] vp vq e = refl
same_text [] (t ∷ q) vp vq e = absurd (let some = length-steps (t ∷ q) vq (omega arith) in let none = ap length e in let bad : ⊥ = omega arith in bad)
same_text (s ∷ p) [] vp vq e = absurd (let some = length-steps (s ∷ p) vp (omega arith) in let none = ap length e in let bad : ⊥ = omega arith in bad)
same_text (s ∷ p) (t ∷ q) vp vq e = path_text-steps (s ∷ p) (omega arith) vp ∙ ap (λ x. join_with_byte 32 (map step_text x)) (sym e) ∙ sym (path_text-steps (t ∷ q) (omega arith) vq)

-- a valid route in normal form with the same text
pub record NormalRoute (r : Route) : Type 0 where
  pub route : Route
  pub valid : IsRoute route
  pub normal : IsNormalPath route.path
  pub text : route_text r ≡ route_text route

pub normal_route : (r : Route) → IsRoute r → NormalRoute r
normal_route r h =
    let n = normal_of r.path h.segments in
    let text = same_text r.path n.path h.segments n.valid n.same in
    record {
      route = record r { path = n.path };
      valid = record {
        path = (let less = n.short in let most = h.path in omega arith);
        segments = n.valid;
        next_hop = h.next_hop;
        med = h.med;
        local_pref = h.local_pref;
        aggregator = h.aggregator;
        others = h.others;
        attributes = h.attributes;
        ascending = h.ascending;
      };
      normal = n.normal;
      text = ap (λ t. route_text_at t r) text;
    }
  where
    route_text_at : List ℕ → Route → List ℕ
    route_text_at t s = ((((t ++ 124 ∷ []) ++ Rattle.route_text.specs.RouteText.origin_text s.origin) ++ 124 ∷ []) ++ Rattle.route_text.specs.RouteText.next_hop_text s.next_hop) ++ 124 ∷ [] ++ Rattle.route_text.specs.RouteText.preferences_text s ++ 124 ∷ [] ++ Rattle.route_text.specs.RouteText.additions_text s
