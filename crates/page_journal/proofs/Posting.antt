-- The two steps of a post: a closed slot is filled, and then its gate is opened.
use Rattle.std.proofs.Common.{◌≡◌, ◌<◌, ◌≤◌, ◌^◌, inl, inr, ⊎_elim, ℕ, suc, ◌+◌, ◌*◌, List, [], ◌∷◌, ◌++◌, length, length-append, refl, sym, ◌∙◌, ap, subst, arith}
use Rattle.std.proofs.lemmas.Bool.{cases_eq}
use Rattle.std.specs.List.{AllByRecursion}
use Rattle.disk_models.specs.Octets.{octets, Within}
use Rattle.disk_models.specs.Erase.{DiskState, MayLeave, MayLeaveBut, Leaves}
use Rattle.disk_models.proofs.api.Overlay.{overlay, overlay_out, before_crash}
use Rattle.disk_models.proofs.api.Moments.{leaves_then, leaves_weaker, synced_leave}
use Rattle.page_journal.specs.Layout.{Image, gate_place, header_place, image_place, number_from, IsOpen, transaction, images, pages_of}
use Rattle.page_journal.specs.inner.Writing.{header_octets, Fills, OpensGate, HasImages}
use Rattle.page_journal.specs.Bookkeeping.{AreNumbered, open_slots, ring_slot}
use Rattle.page_journal.specs.Recovers.{laid, AreDistinct, AreBelow, IsListed, IsWhole, RecoversBy, RecoversEither, RepresentsPages}
use Rattle.page_journal.proofs.Staging.{ReadsAs, staged, length-header_octets}
use Rattle.page_journal.proofs.Frame.{InBody, InSlot, SameSlot, same_open, same_reading, closed_same, whole_of}
use Rattle.page_journal.proofs.Opening.{opened}
use Rattle.page_journal.proofs.RingLemmas.{next_unlisted, ring_below}
use Rattle.disk_models.proofs.api.OctetLemmas.{octets_agree}

-- images that stand where nothing was written since
pub stand_same : (f g : ℕ → ℕ) (slot : ℕ) → ((i : ℕ) → InBody slot i → g i ≡ f i) → (named : List Image) (j : ℕ) → j + length named ≤ 31 → HasImages f slot j named → HasImages g slot j named
stand_same f g slot agree [] j few stand = tt
stand_same f g slot agree (image ∷ rest) j few stand = (
  octets_agree g f (image_place slot j) 16384 (λ i w. agree i (omega (arith, w.0), omega (arith, w.1, few))) ∙ stand.0,
  stand_same f g slot agree rest (suc j) (omega (arith, few)) stand.1,
)

-- the slot is closed, and the open ones have lower numbers
pub record IsFree (slot next : ℕ) (order : List ℕ) (f : ℕ → ℕ) : Type 0 where
  pub closed : ¬ IsOpen f slot
  pub lower : AllByRecursion (λ t. transaction f t < next) order

module _ (homes : ℕ) (note order : List ℕ) (slot next : ℕ) (below : slot < 8) (s0 : DiskState) (pages : List (List ℕ)) (represents : RepresentsPages homes note order s0 pages) (free : (c : ℕ → ℕ) → MayLeave s0 c → IsFree slot next order c) where
  lower_same : (c d : ℕ → ℕ) (o : List ℕ) → ((t : ℕ) → IsWhole homes d t → SameSlot c d t) → AllByRecursion (IsWhole homes d) o → AllByRecursion (λ t. transaction d t < next) o → AllByRecursion (λ t. transaction c t < next) o
  lower_same c d [] same w lower = tt
  lower_same c d (t ∷ o) same w lower = (omega (arith, (same t w.0).number, lower.0), lower_same c d o same w.1 lower.1)

  -- what a torn fill leaves has the same meaning
  pub torn_fill : (c : ℕ → ℕ) → MayLeaveBut (header_place slot) 524288 s0 c → RecoversBy homes note order c pages × IsFree slot next order c
  torn_fill c may =
      let d = overlay (header_place slot) 524288 s0.octet c in
      let was : MayLeave s0 d = before_crash (header_place slot) 524288 s0 c may in
      let f : IsFree slot next order d = free d was in
      let outside : (i : ℕ) → ¬ InBody slot i → c i ≡ d i = λ i out. sym (overlay_out (header_place slot) 524288 s0.octet c i out) in
      let agree : (i : ℕ) → ¬ InSlot slot i → c i ≡ d i = λ i out. outside i (λ w. out (omega (arith, w.0), omega (arith, w.1))) in
      let gate : c (gate_place slot) ≡ d (gate_place slot) = outside (gate_place slot) (λ w. absurd (omega (arith, w.0))) in
      let shut : ¬ IsOpen c slot = λ is. f.closed (sym gate ∙ is) in
      let means : RecoversBy homes note order d pages = represents d was in (
        closed_same homes c d slot below agree f.closed note order pages shut means,
        record {
          closed = shut;
          lower = lower_same c d order (λ t w. same_open homes c d slot below agree f.closed t w) means.slots.whole f.lower;
        },
      )

  -- a slot that is filled with these images
  module _ (named : List Image) (header : List ℕ) (s1 : DiskState) (some : 0 < length named) (few : length named ≤ 31) (small : next < 2 ^ 64) (most : homes ≤ 2 ^ 64) (inside : AreBelow homes (pages_of named)) (distinct : AreDistinct (pages_of named))
      (is_header : header ≡ header_octets next named) (fills : Fills slot header named s0 s1) where
    filled : RecoversBy homes note order s1.octet pages × IsFree slot next order s1.octet
    filled = torn_fill s1.octet (λ i settled out. fills.outside i out)

    reads : ReadsAs s1.octet slot next named
    reads = staged s1.octet slot next homes named small most inside (record {
      header =
          let long : length header ≡ 9 + 8 * length named = ap length is_header ∙ length-header_octets next named in
          ap (λ n. octets s1.octet (header_place slot) n) (sym long) ∙ fills.header_stands ∙ is_header;
      stand = fills.images_stand;
    })

    gate_open : (c : ℕ → ℕ) → ((i : ℕ) → ¬ Within (gate_place slot) 1 i → c i ≡ s1.octet i) → IsOpen c slot → RecoversBy homes note (order ++ slot ∷ []) c (laid named pages)
    gate_open c agree is =
        let body : (i : ℕ) → InBody slot i → c i ≡ s1.octet i = λ i w. agree i (λ v. absurd (omega (arith, w.0, v.1))) in
        let out : (i : ℕ) → ¬ InSlot slot i → c i ≡ s1.octet i = λ i v. agree i (λ w. v (omega (arith, w.0), omega (arith, w.1))) in
        let r : ReadsAs c slot next named = same_reading c s1.octet slot body next named few reads in
        let whole : IsWhole homes c slot = record {
          below = below;
          is_open = is;
          some = omega (arith, some, r.count_is);
          few = omega (arith, few, r.count_is);
          inside = subst (λ (l : List Image). AreBelow homes (pages_of l)) (sym r.images_are) inside;
          distinct = subst (λ (l : List Image). AreDistinct (pages_of l)) (sym r.images_are) distinct;
        } in
        opened homes note c s1.octet slot next below out filled.1.closed named order pages whole r.images_are r.transaction_is filled.1.lower filled.0

    -- a torn gate is open or it isn't
    pub torn_gate : (c : ℕ → ℕ) → MayLeaveBut (gate_place slot) 1 s1 c → RecoversEither homes note pages (laid named pages) c
    torn_gate c may =
        let agree : (i : ℕ) → ¬ Within (gate_place slot) 1 i → c i ≡ s1.octet i = λ i out. may i (fills.settled i) out in
        ⊎_elim
        (λ is. inr (order ++ slot ∷ [], gate_open c agree is))
        (λ shut. inl (order, closed_same homes c s1.octet slot below (λ i v. agree i (λ w. v (omega (arith, w.0), omega (arith, w.1)))) filled.1.closed note order pages shut filled.0))
        (cases_eq (c (gate_place slot)) 165)

    -- once it is open for good, each crash leaves the new pages
    pub posted : (s2 : DiskState) → OpensGate slot s1 s2 → RepresentsPages homes note (order ++ slot ∷ []) s2 (laid named pages)
    posted s2 opens c may =
        let same : (i : ℕ) → c i ≡ s2.octet i = λ i. may i (opens.settled i) in
        gate_open c (λ i out. same i ∙ opens.outside i out) (same (gate_place slot) ∙ opens.is_open)

    -- and its images are read in their places
    pub posted_images : (s2 : DiskState) → OpensGate slot s1 s2 → ReadsAs s2.octet slot next named
    posted_images s2 opens = same_reading s2.octet s1.octet slot (λ i w. opens.outside i (λ v. absurd (omega (arith, w.0, v.1)))) next named few reads

-- what is posted has the number of its header
pub posted_number : (homes slot next : ℕ) (named : List Image) (header : List ℕ) (s0 s1 s2 : DiskState) → length named ≤ 31 → next < 2 ^ 64 → 265 + homes < 2 ^ 50 → AreBelow homes (pages_of named)
    → header ≡ header_octets next named → Fills slot header named s0 s1 → ((i : ℕ) → InBody slot i → s2.octet i ≡ s1.octet i) → transaction s2.octet slot ≡ next
posted_number homes slot next named header s0 s1 s2 few low small inside is_header fills body =
    let long : length header ≡ 9 + 8 * length named = ap length is_header ∙ length-header_octets next named in
    let reads : ReadsAs s1.octet slot next named = staged s1.octet slot next homes named low (omega (arith, small)) inside (record {
      header = ap (λ n. octets s1.octet (header_place slot) n) (sym long) ∙ fills.header_stands ∙ is_header;
      stand = fills.images_stand;
    }) in
    (same_reading s2.octet s1.octet slot body next named few reads).transaction_is

-- opening a gate writes no header and no image
pub opens_body : (slot : ℕ) (s1 s2 : DiskState) → OpensGate slot s1 s2 → (i : ℕ) → InBody slot i → s2.octet i ≡ s1.octet i
opens_body slot s1 s2 opens i w = opens.outside i (λ v. absurd (omega (arith, w.0, v.1)))

-- so each is lower than the next
numbers_below : (next : ℕ) (order : List ℕ) (f : ℕ → ℕ) → AreNumbered next order f → AllByRecursion (λ t. transaction f t < next) order
numbers_below next [] f numbered = tt
numbers_below next (t ∷ order) f numbered = (omega (arith, numbered.0), numbers_below next order f numbered.1)

-- the slot that follows the open ones is free
pub next_free : (homes : ℕ) (note : List ℕ) (first opened slot next : ℕ) (f : ℕ → ℕ) (pages : List (List ℕ)) → first < 8 → opened < 8 → slot ≡ ring_slot (first + opened) → RecoversBy homes note (open_slots first opened) f pages
    → AreNumbered next (open_slots first opened) f → IsFree slot next (open_slots first opened) f
next_free homes note first opened slot next f pages ring room is r numbered =
    let low : slot < 8 = omega (arith, is, ring_below (first + opened) (omega (arith, ring, room))) in
    record {
      closed = λ open_now. next_unlisted first opened ring room (subst (λ k. IsListed k (open_slots first opened)) is (r.slots.all_open slot low open_now));
      lower = numbers_below next (open_slots first opened) f numbered;
    }

-- the number of a slot hangs on its header alone
pub number_same : (c d : ℕ → ℕ) (slot : ℕ) → ((i : ℕ) → Within (header_place slot) 8 i → c i ≡ d i) → transaction c slot ≡ transaction d slot
number_same c d slot agree = ap number_from (octets_agree c d (header_place slot) 8 agree)

-- the same numbers
pub numbers_same : (next : ℕ) (order : List ℕ) (c d : ℕ → ℕ) → ((t : ℕ) → IsListed t order → transaction c t ≡ transaction d t) → AreNumbered next order d → AreNumbered next order c
numbers_same next [] c d same numbered = tt
numbers_same next (t ∷ order) c d same numbered = (omega (arith, same t (inl refl), numbered.0), numbers_same next order c d (λ u listed. same u (inr listed)) numbered.1)

pub lower_still : (next : ℕ) (order : List ℕ) (c d : ℕ → ℕ) → ((t : ℕ) → IsListed t order → transaction c t ≡ transaction d t)
    → AllByRecursion (λ t. transaction d t < next) order → AllByRecursion (λ t. transaction c t < next) order
lower_still next [] c d same lower = tt
lower_still next (t ∷ order) c d same lower = (omega (arith, same t (inl refl), lower.0), lower_still next order c d (λ u listed. same u (inr listed)) lower.1)

-- with the next number
numbers_push : (next slot : ℕ) (order : List ℕ) (f : ℕ → ℕ) → transaction f slot ≡ next → AreNumbered next order f → AreNumbered (next + 1) (order ++ slot ∷ []) f
numbers_push next slot [] f is numbered = (omega (arith, is), tt)
numbers_push next slot (t ∷ order) f is numbered = (omega (arith, numbered.0, length-append order (slot ∷ [])), numbers_push next slot order f is numbered.1)

-- A whole post into a free slot.
module _ (homes : ℕ) (note order : List ℕ) (slot next : ℕ) (room : slot < 8) (s0 s1 : DiskState) (pages : List (List ℕ)) (represents : RepresentsPages homes note order s0 pages)
    (free : (c : ℕ → ℕ) → MayLeave s0 c → IsFree slot next order c) (named : List Image) (header : List ℕ) where
  pub fill_crash : Leaves s0 s1 (MayLeaveBut (header_place slot) 524288 s0) → Leaves s0 s1 (RecoversEither homes note pages (laid named pages))
  fill_crash l = leaves_weaker s0 s1 (MayLeaveBut (header_place slot) 524288 s0) (RecoversEither homes note pages (laid named pages))
      (λ d may. inl (order, (torn_fill homes note order slot next room s0 pages represents free d may).0)) l

  module _ (s2 : DiskState) (some : ¬ (length named ≡ 0)) (few : length named ≤ 31) (low : next < 2 ^ 64) (small : 265 + homes < 2 ^ 50) (below : AreBelow homes (pages_of named)) (distinct : AreDistinct (pages_of named))
      (is_header : header ≡ header_octets next named) (fills : Fills slot header named s0 s1) where
    pub gate_crash : Leaves s0 s1 (MayLeaveBut (header_place slot) 524288 s0) → Leaves s1 s2 (MayLeaveBut (gate_place slot) 1 s1) → Leaves s0 s2 (RecoversEither homes note pages (laid named pages))
    gate_crash one two = leaves_then s0 s1 s2 (RecoversEither homes note pages (laid named pages)) (fill_crash one)
        (leaves_weaker s1 s2 (MayLeaveBut (gate_place slot) 1 s1) (RecoversEither homes note pages (laid named pages))
        (torn_gate homes note order slot next room s0 pages represents free named header s1 (omega (arith, some)) few low (omega (arith, small)) below distinct is_header fills) two)

    module _ (opens : OpensGate slot s1 s2) where
      pub post_represents : RepresentsPages homes note (order ++ slot ∷ []) s2 (laid named pages)
      post_represents = posted homes note order slot next room s0 pages represents free named header s1 (omega (arith, some)) few low (omega (arith, small)) below distinct is_header fills s2 opens

      post_reads : ReadsAs s2.octet slot next named
      post_reads = posted_images homes note order slot next room s0 pages represents free named header s1 (omega (arith, some)) few low (omega (arith, small)) below distinct is_header fills s2 opens

      -- the images are read where they were written
      pub post_stand : HasImages s2.octet slot 0 named
      post_stand = stand_same s1.octet s2.octet slot (λ i w. opens.outside i (λ v. absurd (omega (arith, w.0, v.1)))) named 0 (omega (arith, few)) fills.images_stand

      pub post_images : images s2.octet slot ≡ named
      post_images = post_reads.images_are

      -- outside its slot nothing was written
      pub post_outside : (i : ℕ) → ¬ InSlot slot i → s2.octet i ≡ s0.octet i
      post_outside i out = opens.outside i (λ v. out (omega (arith, v.0), omega (arith, v.1))) ∙ fills.outside i (λ v. out (omega (arith, v.0), omega (arith, v.1)))

      -- the open slots are the same
      post_slots : (t : ℕ) → IsListed t order → SameSlot s2.octet s0.octet t
      post_slots t listed =
          let here : MayLeave s0 s0.octet = λ i settled. refl in
          same_open homes s2.octet s0.octet slot room post_outside (free s0.octet here).closed t (whole_of homes s0.octet t order listed (represents s0.octet here).slots.whole)

      pub post_others : (t : ℕ) → IsListed t order → images s2.octet t ≡ images s0.octet t
      post_others t listed = (post_slots t listed).contents

      pub post_numbered : AreNumbered next order s0.octet → (c : ℕ → ℕ) → MayLeave s2 c → AreNumbered (next + 1) (order ++ slot ∷ []) c
      post_numbered numbered c may = subst (AreNumbered (next + 1) (order ++ slot ∷ [])) (sym (synced_leave s2 c opens.settled may))
          (numbers_push next slot order s2.octet post_reads.transaction_is
          (numbers_same next order s2.octet s0.octet (λ t listed. (post_slots t listed).number) numbered))
