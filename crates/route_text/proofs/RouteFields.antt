-- A route's text, cut at its bars.
use Rattle.std.proofs.Common.{◌≡◌, ◌≢◌, ℕ, ◌<◌, ◌^◌, Bool, true, false, Option, Some, None, IfSome, List, [], ◌∷◌, ◌++◌, map, sym, ⊎_elim, append_assoc, arith}
use Rattle.std.specs.Int.{IsInRange}
use Rattle.std.specs.List.{AllByRecursion, join_with_byte}
use Rattle.std.proofs.NetLemmas.Alphabet.{IsDigitOrDot, IsHexOrColon}
use Rattle.route_model.specs.declared.path.Segment.{Segment}
use Rattle.route_model.specs.declared.route.Origin.{Origin}
use Rattle.route_model.specs.declared.route.Origin.TheVariants.{Igp, Egp, Incomplete}
use Rattle.route_model.specs.declared.route.NextHop.{NextHop}
use Rattle.route_model.specs.declared.route.NextHop.TheVariants.{One, Pair}
use Rattle.route_model.specs.declared.route.Aggregator.{Aggregator}
use Rattle.route_model.specs.declared.route.Route.{Route}
use Rattle.route_model.specs.Encoding.{IsRoute, IsSegment, IsNextHop, IsAggregator}
use Rattle.route_text.specs.Octets.{Lacks}
use Rattle.route_text.specs.RouteText.{path_text, origin_text, next_hop_text, optional_text, aggregate_text, aggregator_text, attributes_text, route_text}
use Rattle.route_text.specs.inner.Steps.{step_text, IsStep, steps}
use Rattle.route_text.proofs.api.Addresses.{Lacks-ipv4_text, Lacks-ipv6_text}
use Rattle.route_text.proofs.Cuts.{Lacks-nil, Lacks-cons, Lacks-append, Lacks-same}
use Rattle.route_text.proofs.Fields.{Lacks-address_text, take_octets, drop_octets}
use Rattle.route_text.proofs.Numbers.{Lacks-decimal}
use Rattle.route_text.proofs.PathTexts.{Lacks-step_text, steps_valid, path_text-steps}

-- ---- what follows each bar

abbrev pub after_aggregate : Route → List ℕ
after_aggregate r = aggregator_text r.aggregator ++ 124 ∷ attributes_text r.others

abbrev pub after_local_pref : Route → List ℕ
after_local_pref r = aggregate_text r.atomic_aggregate ++ 124 ∷ after_aggregate r

abbrev pub after_med : Route → List ℕ
after_med r = optional_text r.local_pref ++ 124 ∷ after_local_pref r

abbrev pub after_next_hop : Route → List ℕ
after_next_hop r = optional_text r.med ++ 124 ∷ after_med r

abbrev pub after_origin : Route → List ℕ
after_origin r = next_hop_text r.next_hop ++ 124 ∷ after_next_hop r

abbrev pub after_path : Route → List ℕ
after_path r = origin_text r.origin ++ 124 ∷ after_origin r

-- eight texts with an octet between two of them, in three parts
regroup : (p o h m l a g t : List ℕ) (c : ℕ) → (((p ++ c ∷ []) ++ o) ++ c ∷ []) ++ h ++ c ∷ [] ++ ((((m ++ c ∷ []) ++ l) ++ c ∷ []) ++ a) ++ c ∷ [] ++ ((g ++ c ∷ []) ++ t) ≡ p ++ c ∷ (o ++ c ∷ (h ++ c ∷ (m ++ c ∷ (l ++ c ∷ (a ++ c ∷ (g ++ c ∷ t))))))
regroup p o h m l a g t c = simp append_assoc

pub route_text_bars : (r : Route) → route_text r ≡ path_text r.path ++ 124 ∷ after_path r
route_text_bars r = regroup (path_text r.path) (origin_text r.origin) (next_hop_text r.next_hop) (optional_text r.med) (optional_text r.local_pref) (aggregate_text r.atomic_aggregate) (aggregator_text r.aggregator) (attributes_text r.others) 124

-- ---- no field holds a bar

no_digit : IsInRange 48 57 124 → ⊥
no_digit d = omega arith

no_hex : IsHexOrColon 124 → ⊥
no_hex d = ⊎_elim (λ r. omega arith) (λ r. omega arith) d

no_dot : IsDigitOrDot 124 → ⊥
no_dot d = ⊎_elim (λ r. omega arith) (λ r. omega arith) d

Lacks-join : {X : Type 0} (c d : ℕ) (f : X → List ℕ) (Is : X → Type 0) → ((x : X) → Is x → Lacks c (f x)) → d ≢ c → (xs : List X) → AllByRecursion Is xs → Lacks c (join_with_byte d (map f xs))
Lacks-join c d f Is lacks other [] h = Lacks-nil c
Lacks-join c d f Is lacks other (x ∷ []) h = lacks x h.0
Lacks-join c d f Is lacks other (x ∷ y ∷ xs) h = Lacks-append c (f x) (d ∷ join_with_byte d (map f (y ∷ xs))) (lacks x h.0) (Lacks-cons c d (join_with_byte d (map f (y ∷ xs))) other (Lacks-join c d f Is lacks other (y ∷ xs) h.1))

bar_path : (path : List Segment) → AllByRecursion IsSegment path → Lacks 124 (path_text path)
bar_path [] h = Lacks-cons 124 45 [] (λ e. omega arith) (Lacks-nil 124)
bar_path (s ∷ path) h = Lacks-same 124 (join_with_byte 32 (map step_text (steps (s ∷ path)))) (path_text (s ∷ path)) (sym (path_text-steps (s ∷ path) (omega arith) h)) (Lacks-join 124 32 step_text IsStep (Lacks-step_text 124 no_digit (λ e. omega arith) (λ e. omega arith) (λ e. omega arith)) (λ e. omega arith) (steps (s ∷ path)) (steps_valid (s ∷ path) h))

bar_origin : (origin : Origin) → Lacks 124 (origin_text origin)
bar_origin Igp = Lacks-cons 124 73 _ (λ e. omega arith) (Lacks-cons 124 71 _ (λ e. omega arith) (Lacks-cons 124 80 _ (λ e. omega arith) (Lacks-nil 124)))
bar_origin Egp = Lacks-cons 124 69 _ (λ e. omega arith) (Lacks-cons 124 71 _ (λ e. omega arith) (Lacks-cons 124 80 _ (λ e. omega arith) (Lacks-nil 124)))
bar_origin Incomplete = Lacks-cons 124 73 _ (λ e. omega arith) (Lacks-cons 124 78 _ (λ e. omega arith) (Lacks-cons 124 67 _ (λ e. omega arith) (Lacks-cons 124 79 _ (λ e. omega arith) (Lacks-cons 124 77 _ (λ e. omega arith) (Lacks-cons 124 80 _ (λ e. omega arith) (Lacks-cons 124 76 _ (λ e. omega arith) (Lacks-cons 124 69 _ (λ e. omega arith) (Lacks-cons 124 84 _ (λ e. omega arith) (Lacks-cons 124 69 _ (λ e. omega arith) (Lacks-nil 124))))))))))

bar_next_hop : (hop : NextHop) → IsNextHop hop → Lacks 124 (next_hop_text hop)
bar_next_hop (One a) h = Lacks-address_text 124 no_dot no_hex a h
bar_next_hop (Pair o) h = Lacks-append 124 _ _ (Lacks-append 124 _ _ (Lacks-ipv6_text 124 _ (take_octets 16 o h.1) no_hex) (Lacks-cons 124 32 [] (λ e. omega arith) (Lacks-nil 124))) (Lacks-ipv6_text 124 _ (drop_octets 16 o h.1) no_hex)

bar_optional : (number : Option ℕ) → IfSome number (λ n. n < 2 ^ 32) → Lacks 124 (optional_text number)
bar_optional None h = Lacks-nil 124
bar_optional (Some n) h = Lacks-decimal 124 n (omega arith) no_digit

bar_aggregate : (is_atomic : Bool) → Lacks 124 (aggregate_text is_atomic)
bar_aggregate true = Lacks-cons 124 65 _ (λ e. omega arith) (Lacks-cons 124 71 _ (λ e. omega arith) (Lacks-nil 124))
bar_aggregate false = Lacks-cons 124 78 _ (λ e. omega arith) (Lacks-cons 124 65 _ (λ e. omega arith) (Lacks-cons 124 71 _ (λ e. omega arith) (Lacks-nil 124)))

bar_aggregator : (aggregator : Option Aggregator) → IfSome aggregator IsAggregator → Lacks 124 (aggregator_text aggregator)
bar_aggregator None h = Lacks-nil 124
bar_aggregator (Some a) h = Lacks-append 124 _ _ (Lacks-append 124 _ _ (Lacks-decimal 124 a.as_number (let fits = h.as_number in omega arith) no_digit) (Lacks-cons 124 32 [] (λ e. omega arith) (Lacks-nil 124))) (Lacks-ipv4_text 124 a.address h.octets no_dot)

-- the fields of a route that are cut at a bar
pub record HasNoBar (r : Route) : Type 0 where
  pub path : Lacks 124 (path_text r.path)
  pub origin : Lacks 124 (origin_text r.origin)
  pub next_hop : Lacks 124 (next_hop_text r.next_hop)
  pub med : Lacks 124 (optional_text r.med)
  pub local_pref : Lacks 124 (optional_text r.local_pref)
  pub aggregate : Lacks 124 (aggregate_text r.atomic_aggregate)
  pub aggregator : Lacks 124 (aggregator_text r.aggregator)

pub no_bar : (r : Route) → IsRoute r → HasNoBar r
no_bar r h = record {
  path = bar_path r.path h.segments;
  origin = bar_origin r.origin;
  next_hop = bar_next_hop r.next_hop h.next_hop;
  med = bar_optional r.med h.med;
  local_pref = bar_optional r.local_pref h.local_pref;
  aggregate = bar_aggregate r.atomic_aggregate;
  aggregator = bar_aggregator r.aggregator h.aggregator;
}
