-- What is created represents the empty history.
use Rattle.std.proofs.Common.{◌≡◌, ◌<◌, ◌≤◌, ℕ, zero, suc, ◌+◌, ◌*◌, ◌^◌, List, [], length, map, replicate, refl, sym, ◌∙◌, ap, subst, arith, Some}
use Rattle.std.specs.List.{slice_get}
use Rattle.std.proofs.Math.Nat.{mul-le-mul_right}
use Rattle.std.proofs.lemmas.List.{length-replicate}
use Rattle.std.proofs.lemmas.Option.{slice_get_within}
use Rattle.route_model.specs.Admission.{Admitted}
use Rattle.route_model.specs.Units.{moments_in}
use Rattle.route_model.specs.declared.unit.Unit.TheVariants.{Seconds}
use Rattle.route_meaning.specs.Holds.{time_of}
use Rattle.route_meaning.specs.Merged.{part, all_placed, by_time}
use Rattle.route_meaning.specs.History.{Intake, waiting}
use Rattle.interleaving_core.specs.Steps.{empty}
use Rattle.interleaving_core.proofs.api.Right.{right_empty}
use Rattle.archive_head.specs.declared.lane.Lane.{Lane}
use Rattle.archive_head.specs.Head.{Contents}
use Rattle.archive_pages.specs.declared.settings.Settings.{Settings}
use Rattle.archive_pages.specs.Places.{AreSettings, tree_low}
use Rattle.archive_pages.specs.Stored.{older_of, scaled_first}
use Rattle.archive_pages.specs.Represented.{TreeOn, HeadRepresents}
use Rattle.archive_pages.proofs.Lanes.{ring_before_tree, lane_as}

abbrev nothing : Intake
nothing = record { admitted = []; mark = 0; offered = 0 }

-- a lane to which nothing was given
abbrev pub no_lane : Lane
no_lane = record { offered = 0; admitted = 0; mark = 0; first = 0; used = 0; since = 0 }

none_placed : (c n : ℕ) → all_placed c (map (λ (i : Intake). i.admitted) (replicate n nothing)) ≡ []
none_placed c zero = refl
none_placed c (suc n) = none_placed (suc c) n

none_waits : (n : ℕ) → waiting (empty n) ≡ []
none_waits n = ap (by_time time_of) (none_placed 0 n)

each_same : {X : Type 0} (n c : ℕ) (x y : X) → slice_get (replicate n x) c ≡ Some y → y ≡ x
each_same zero c x y e = cc
each_same (suc n) zero x y e = cc
each_same (suc n) (suc c) x y e = each_same n c x y e

nothing_scaled : (k n : ℕ) → ◌≡◌ {A = List Admitted} [] (scaled_first k n [])
nothing_scaled k zero = refl
nothing_scaled k (suc n) = refl

pub head_represents_created : (Tree : TreeOn) (s : Settings) (settled : ℕ → List ℕ → Type 0) (head : Contents) (pages : List (List ℕ)) → head.applied ≡ 0 → head.last ≡ 0 → head.begun ≡ 0 → head.lanes ≡ replicate s.collectors no_lane → AreSettings s → tree_low s ≤ length pages
    → Tree pages settled (tree_low s) head.root head.fresh head.block 0 [] → HeadRepresents Tree s settled head pages (empty s.collectors)
head_represents_created Tree s settled head pages order last begun lanes some room tree = record {
  right = right_empty s.collectors;
  number = length-replicate s.collectors nothing;
  lanes_number = ap length lanes ∙ length-replicate s.collectors no_lane;
  lanes = λ c lane i at here.
      let n = s.collectors in
      let low : c < n = (let w = slice_get_within (replicate n nothing) c i here in let l = length-replicate n nothing in omega arith) in
      let fits = ring_before_tree s c low in
      let all : n * s.ring ≤ 16 * s.ring = mul-le-mul_right s.ring some.few in
      let large = some.large in
      let at' : slice_get (replicate n no_lane) c ≡ Some lane = ap (λ (l : List Lane). slice_get l c) (sym lanes) ∙ at in
      lane_as s pages c c no_lane lane nothing i [] (part c (waiting (empty n))) refl (each_same n c no_lane lane at') (each_same n c nothing i here) (ap (part c) (none_waits n))
      (record { offered = refl; admitted = refl; mark = refl; place = record { inside = omega arith; small = omega arith; few = some.large; start = (let l = some.small in omega arith); used = omega arith }; since = omega arith; holds = record { valid = tt; stored = []; represents = record { valid = tt; size = refl; octets = λ k lt. absurd (omega arith) }; moments = nothing_scaled (moments_in Seconds) (older_of no_lane 0) } });
  begun = begun;
  numbered = order;
  last = last;
  versions = [];
  kept = tt;
  tree = subst (λ k. Tree pages settled (tree_low s) head.root head.fresh head.block (k * 2 ^ 64 + head.applied) []) (sym last) (subst (λ k. Tree pages settled (tree_low s) head.root head.fresh head.block (0 * 2 ^ 64 + k) []) (sym order) tree);
}
