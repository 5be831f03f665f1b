-- The pages after an applied change, and the head that passed over it, represent the history that applied the change.
use Rattle.std.proofs.Common.{◌≡◌, ◌<◌, ◌≤◌, ℕ, zero, suc, List, [], ◌∷◌, length, refl, sym, ◌∙◌, ap, subst, inl, inr, arith, Some}
use Rattle.std.specs.List.{slice_get, slice_set}
use Rattle.std.proofs.lemmas.Bool.{cases_lt}
use Rattle.std.proofs.lemmas.Option.{slice_get_within}
use Rattle.route_model.specs.Admission.{Admitted}
use Rattle.route_meaning.specs.Merged.{Placed}
use Rattle.route_meaning.specs.Holds.{time_of}
use Rattle.route_meaning.specs.History.{History, waiting, IsBelowMarks}
use Rattle.interleaving_core.specs.Steps.{Applies, moved}
use Rattle.interleaving_core.proofs.api.Right.{part_moved, whole_moved}
use Rattle.archive_head.specs.declared.lane.Lane.{Lane}
use Rattle.archive_head.specs.Head.{Contents}
use Rattle.archive_pages.specs.declared.settings.Settings.{Settings}
use Rattle.archive_pages.specs.Represented.{TreeOn, HeadRepresents}
use Rattle.archive_pages.specs.Changes.{head_moved, lane_popped, Takes}
use Rattle.archive_pages.specs.Batches.{HasLane}
use Rattle.archive_pages.proofs.api.Moving.{head_represents_part, head_represents_whole}

-- A step of the history was made, and the pages represent the history after it.
pub record Steps (Tree : TreeOn) (s : Settings) (settled : ℕ → List ℕ → Type 0) (head : Contents) (pages : List (List ℕ)) (h : History) : Type 0 where
  pub after : History
  pub applies : Applies h after
  pub head_represents : HeadRepresents Tree s settled head pages after

-- The head passed over the next change of an admission: with this change the admission stays, or leaves its ring.
pub record Passes (s : Settings) (head after : Contents) (next : Placed Admitted) (fresh block root : ℕ) : Type 0 where
  pub stays : suc head.begun < length next.item.changes → after ≡ head_moved head head.begun next (suc head.begun) fresh block root head.lanes
  pub leaves : length next.item.changes ≤ suc head.begun → (lane : Lane) → HasLane head next.collector lane
      → after ≡ head_moved head head.begun next 0 fresh block root (slice_set head.lanes next.collector (lane_popped s next.collector lane next.item))

got : {X : Type 0} (xs : List X) (c : ℕ) → c < length xs → (x : X) × (slice_get xs c ≡ Some x)
got [] c lt = absurd (omega arith)
got (x ∷ xs) zero lt = (x, refl)
got (x ∷ xs) (suc c) lt = got xs c (omega arith)

pub steps_passed : (Tree : TreeOn) (s : Settings) (settled few : ℕ → List ℕ → Type 0) (head after : Contents) (fresh block root : ℕ) (old new : List (List ℕ)) (h : History) (next : Placed Admitted) (later : List (Placed Admitted)) (lane : Lane)
    → (b : HeadRepresents Tree s few head old h) → waiting h ≡ next ∷ later → IsBelowMarks h (time_of next) → HasLane head next.collector lane → Passes s head after next fresh block root
    → Takes Tree s settled head after head.begun next b.versions old new → Steps Tree s settled after new h
steps_passed Tree s settled few head after fresh block root old new h next later lane b here below at passes takes =
    let n = next.item.changes in
    let same = b.begun in
    let own = got h.intakes next.collector (let w = slice_get_within head.lanes next.collector lane at in let a = b.lanes_number in let k = b.number in omega arith) in
    elim (cases_lt (suc h.some) (length n)) [
      | inl lt ↦
          let is : after ≡ head_moved head h.some next (suc h.some) fresh block root head.lanes = passes.stays (omega (arith, same, lt)) ∙ ap (λ k. head_moved head k next (suc k) fresh block root head.lanes) same in
          let right = part_moved h next later b.right here below lt in
          let took : Takes Tree s settled head (head_moved head h.some next (suc h.some) fresh block root head.lanes) h.some next b.versions old new
          = subst (λ k. Takes Tree s settled head (head_moved head h.some next (suc h.some) fresh block root head.lanes) k next b.versions old new) same (subst (λ (x : Contents). Takes Tree s settled head x head.begun next b.versions old new) is takes) in
          record {
            after = moved h h.whole (suc h.some);
            applies = record { next = next; later = later; here = here; below = below; part = λ more. refl; whole = λ le. absurd (omega arith) };
            head_represents = subst (λ (x : Contents). HeadRepresents Tree s settled x new (moved h h.whole (suc h.some))) (sym is) (head_represents_part Tree s settled few head fresh block root old new h next later b right here took);
          }
      | inr ge ↦
          let lanes = slice_set head.lanes next.collector (lane_popped s next.collector lane next.item) in
          let is : after ≡ head_moved head h.some next 0 fresh block root lanes = passes.leaves (omega (arith, same, ge)) lane at ∙ ap (λ k. head_moved head k next 0 fresh block root lanes) same in
          let right = whole_moved h next later b.right here below in
          let took : Takes Tree s settled head (head_moved head h.some next 0 fresh block root lanes) h.some next b.versions old new
          = subst (λ k. Takes Tree s settled head (head_moved head h.some next 0 fresh block root lanes) k next b.versions old new) same (subst (λ (x : Contents). Takes Tree s settled head x head.begun next b.versions old new) is takes) in
          record {
            after = moved h (suc h.whole) 0;
            applies = record { next = next; later = later; here = here; below = below; part = λ lt. absurd (omega arith); whole = λ le. refl };
            head_represents = subst (λ (x : Contents). HeadRepresents Tree s settled x new (moved h (suc h.whole) 0)) (sym is) (head_represents_whole Tree s settled few head fresh block root old new h next later lane own.0 b right here (omega arith) at own.1 took);
          }
    ]
