use Rattle.std.proofs.Common.{◌≡◌, ◌<◌, ◌≤◌, ◌∙◌, ◌+◌, ◌^◌, ◌++◌, ◌∷◌, [], inl, refl, ℕ, List, length, ⊎_elim, ap, arith, rules, sym, subst}
use Rattle.std.specs.List.{AllByRecursion}
use Rattle.disk_models.specs.Erase.{MayLeave}
use Rattle.page_journal.specs.Recovers.{laid, AreBelow, IsListed, RepresentsPages}
use Rattle.page_journal.specs.Layout.{pages_of, transaction}
use Rattle.page_journal.specs.Bookkeeping.{AreNumbered, IsImage, IsOf, open_slots, ring_slot, unhomed_numbers, waiting_in}
use Rattle.page_journal.specs.inner.Entering.{unhomed_after}
use Rattle.page_journal.specs.declared.unhomed.Unhomed.{Unhomed}
use Rattle.page_journal.proofs.Staging.{length-header_octets}
use Rattle.page_journal.proofs.Posting.{IsFree, fill_crash, gate_crash, next_free, opens_body, post_represents, post_stand, post_images, post_others, post_outside, post_numbered, posted_number}
use Rattle.page_journal.proofs.Placing.{below_each, listed_below, listed_left, listed_right}
use Rattle.page_journal.proofs.RingLemmas.{length-open_slots, next_unlisted, ring_below, ring_next, slots_push}
use Rattle.page_journal.proofs.Counting.{few_after, few_all}
use Rattle.page_journal.proofs.Entries.{images_after, listed_after, numbers_after, opens_after}
use Rattle.page_journal.proofs.Keeping.{ShownAt, CoveredIn, now_means, post_shown, post_covered}
use Rattle.page_journal.proofs.journal.Journal.post.Goals as goal

pub fill-requires-clause-slot : goal.fill-requires-clause-slot
fill-requires-clause-slot g c = omega (arith, c.ring_slot-slot.ensures, ring_below (c.args.self.now.first + c.args.self.now.opened) (omega arith))

pub open_gate-requires-clause-slot : goal.open_gate-requires-clause-slot
open_gate-requires-clause-slot g c = omega (arith, c.ring_slot-slot.ensures, ring_below (c.args.self.now.first + c.args.self.now.opened) (omega arith))

pub fill-requires-clause-header : goal.fill-requires-clause-header
fill-requires-clause-header g c =
    ap length (c.deref.ensures.0 ∙ c.header-header.ensures) ∙ length-header_octets c.args.self.now.next c.args.images.now

pub enter_all-requires-clause-room : goal.enter_all-requires-clause-room
enter_all-requires-clause-room g c =
    let self = c.args.self.now in
    omega (arith, few_all (open_slots self.first self.opened) self.unhomed.items self.opens self.few, length-open_slots self.first self.opened)

pub returns-in_err-fill-clause-crash : goal.returns-in_err-fill-clause-crash
returns-in_err-fill-clause-crash g c h pages keeps =
    let self = c.args.self.now in
    let s0 = g.D.EraseDisk.model self.disk in
    let s1 = g.D.EraseDisk.model c.fill.new.disk in
    let order = open_slots self.first self.opened in
    let named = c.args.images.now in
    let header = c.deref.result.now in
    let slot = c.ring_slot-slot.result in
    let room : self.opened < 8 = omega arith in
    let is : slot ≡ ring_slot (self.first + self.opened) = c.ring_slot-slot.ensures in
    let low : slot < 8 = omega (arith, is, ring_below (self.first + self.opened) (omega arith)) in
    let free : (d : ℕ → ℕ) → MayLeave s0 d → IsFree slot self.next order d = λ d may. next_free self.homes self.note self.first self.opened slot self.next d pages self.ring room is (keeps.represents d may) (keeps.numbered d may) in
    fill_crash self.homes self.note order slot self.next low s0 s1 pages keeps.represents free named header (c.fill.ensures.crash h)

pub returns-in_err-open_gate-clause-crash : goal.returns-in_err-open_gate-clause-crash
returns-in_err-open_gate-clause-crash g c h pages keeps =
    let self = c.args.self.now in
    let s0 = g.D.EraseDisk.model self.disk in
    let s1 = g.D.EraseDisk.model c.fill.new.disk in
    let order = open_slots self.first self.opened in
    let named = c.args.images.now in
    let header = c.deref.result.now in
    let slot = c.ring_slot-slot.result in
    let room : self.opened < 8 = omega arith in
    let is : slot ≡ ring_slot (self.first + self.opened) = c.ring_slot-slot.ensures in
    let low : slot < 8 = omega (arith, is, ring_below (self.first + self.opened) (omega arith)) in
    let free : (d : ℕ → ℕ) → MayLeave s0 d → IsFree slot self.next order d = λ d may. next_free self.homes self.note self.first self.opened slot self.next d pages self.ring room is (keeps.represents d may) (keeps.numbered d may) in
    let some : ¬ (length named ≡ 0) = λ none. let more : 0 < length named = search rules in absurd (omega (arith, more, none)) in
    let few : length named ≤ 31 = omega arith in
    let fits : self.next < 2 ^ 64 = omega arith in
    let is_header = c.deref.ensures.0 ∙ c.header-header.ensures in
    let fills = c.in_ok-fill.ensures.filled h in
    gate_crash self.homes self.note order slot self.next low s0 s1 pages keeps.represents free named header (g.D.EraseDisk.model c.open_gate.new.disk) some few fits self.small c.requires.below c.requires.distinct is_header fills
    (c.fill.ensures.crash h) (c.open_gate.ensures.crash (c.fill.ensures.serves.honest.0 h))

pub returns-clause-crash : goal.returns-clause-crash
returns-clause-crash g c h pages keeps =
    let self = c.args.self.now in
    let s0 = g.D.EraseDisk.model self.disk in
    let s1 = g.D.EraseDisk.model c.fill.new.disk in
    let order = open_slots self.first self.opened in
    let named = c.args.images.now in
    let header = c.deref.result.now in
    let slot = c.ring_slot-slot.result in
    let room : self.opened < 8 = omega arith in
    let is : slot ≡ ring_slot (self.first + self.opened) = c.ring_slot-slot.ensures in
    let low : slot < 8 = omega (arith, is, ring_below (self.first + self.opened) (omega arith)) in
    let free : (d : ℕ → ℕ) → MayLeave s0 d → IsFree slot self.next order d = λ d may. next_free self.homes self.note self.first self.opened slot self.next d pages self.ring room is (keeps.represents d may) (keeps.numbered d may) in
    let some : ¬ (length named ≡ 0) = λ none. let more : 0 < length named = search rules in absurd (omega (arith, more, none)) in
    let few : length named ≤ 31 = omega arith in
    let fits : self.next < 2 ^ 64 = omega arith in
    let is_header = c.deref.ensures.0 ∙ c.header-header.ensures in
    let fills = c.in_ok-fill.ensures.filled h in
    gate_crash self.homes self.note order slot self.next low s0 s1 pages keeps.represents free named header (g.D.EraseDisk.model c.open_gate.new.disk) some few fits self.small c.requires.below c.requires.distinct is_header fills
    (c.fill.ensures.crash h) (c.open_gate.ensures.crash (c.fill.ensures.serves.honest.0 h))

pub returns-clause-posted : goal.returns-clause-posted
returns-clause-posted g c h pages keeps =
    let self = c.args.self.now in
    let s0 = g.D.EraseDisk.model self.disk in
    let s1 = g.D.EraseDisk.model c.fill.new.disk in
    let order = open_slots self.first self.opened in
    let named = c.args.images.now in
    let header = c.deref.result.now in
    let slot = c.ring_slot-slot.result in
    let room : self.opened < 8 = omega arith in
    let is : slot ≡ ring_slot (self.first + self.opened) = c.ring_slot-slot.ensures in
    let low : slot < 8 = omega (arith, is, ring_below (self.first + self.opened) (omega arith)) in
    let free : (d : ℕ → ℕ) → MayLeave s0 d → IsFree slot self.next order d = λ d may. next_free self.homes self.note self.first self.opened slot self.next d pages self.ring room is (keeps.represents d may) (keeps.numbered d may) in
    let some : ¬ (length named ≡ 0) = λ none. let more : 0 < length named = search rules in absurd (omega (arith, more, none)) in
    let few : length named ≤ 31 = omega arith in
    let fits : self.next < 2 ^ 64 = omega arith in
    let is_header = c.deref.ensures.0 ∙ c.header-header.ensures in
    let fills = c.in_ok-fill.ensures.filled h in
    let s2 = g.D.EraseDisk.model c.open_gate.new.disk in
    let opens = c.in_ok-open_gate.ensures.opened (c.fill.ensures.serves.honest.0 h) in
    let entries = c.enter_all.ensures.items in
    let push : order ++ slot ∷ [] ≡ open_slots self.first (self.opened + 1) = ap (λ k. order ++ k ∷ []) is ∙ slots_push self.first self.opened in
    let out : ¬ IsListed slot order = λ listed. next_unlisted self.first self.opened self.ring room (subst (λ k. IsListed k order) is listed) in
    record {
      usable = refl;
      represents = subst (λ (o : List ℕ). RepresentsPages self.homes self.note o s2 (laid named pages)) push
          (post_represents self.homes self.note order slot self.next low s0 s1 pages keeps.represents free named header s2 some few fits self.small c.requires.below c.requires.distinct is_header fills opens);
      numbered = subst (λ (o : List ℕ). (d : ℕ → ℕ) → MayLeave s2 d → AreNumbered (self.next + 1) o d) push
          (post_numbered self.homes self.note order slot self.next low s0 s1 pages keeps.represents free named header s2 some few fits self.small c.requires.below c.requires.distinct is_header fills opens (keeps.numbered s0.octet (λ i settled. refl)));
      shown = subst (λ (l : List Unhomed). ShownAt self.homes l s2.octet (laid named pages)) (sym entries)
          (post_shown self.homes self.note order slot s0.octet s2.octet pages low out (now_means self.homes self.note order s0 pages keeps.represents) self.unhomed.items self.images self.opens keeps.shown named
          (post_outside self.homes self.note order slot self.next low s0 s1 pages keeps.represents free named header s2 some few fits self.small c.requires.below c.requires.distinct is_header fills opens)
          (post_stand self.homes self.note order slot self.next low s0 s1 pages keeps.represents free named header s2 some few fits self.small c.requires.below c.requires.distinct is_header fills opens));
      covered = subst (λ (l : List Unhomed). CoveredIn l s2) (sym entries)
          (post_covered slot order s2 s0.octet self.unhomed.items named opens.settled self.opens (keeps.covered s0.octet (λ i settled. refl))
          (post_others self.homes self.note order slot self.next low s0 s1 pages keeps.represents free named header s2 some few fits self.small c.requires.below c.requires.distinct is_header fills opens)
          (post_images self.homes self.note order slot self.next low s0 s1 pages keeps.represents free named header s2 some few fits self.small c.requires.below c.requires.distinct is_header fills opens));
    }

pub returns-clause-taken : goal.returns-clause-taken
returns-clause-taken g c some =
    let self = c.args.self.now in
    let s1 = g.D.EraseDisk.model c.fill.new.disk in
    let s2 = g.D.EraseDisk.model c.open_gate.new.disk in
    record {
      usable = refl;
      opened = refl;
      unhomed = ap unhomed_numbers (c.enter_all.ensures.items)
          ∙ numbers_after c.ring_slot-slot.result 0 c.args.images.now self.unhomed.items c.requires.distinct;
      numbered = λ h. subst (λ k. transaction s2.octet k ≡ self.next) c.ring_slot-slot.ensures
          (posted_number self.homes c.ring_slot-slot.result self.next c.args.images.now c.deref.result.now (g.D.EraseDisk.model self.disk) s1 s2
          (omega arith) (omega arith) self.small c.requires.below (c.deref.ensures.0 ∙ c.header-header.ensures) (c.in_ok-fill.ensures.filled h)
          (opens_body c.ring_slot-slot.result s1 s2 (c.in_ok-open_gate.ensures.opened (c.fill.ensures.serves.honest.0 h))));
      next = refl;
      place = ring_next self.first self.opened self.ring (omega arith);
    }

pub invariant_of-self-2-clause-few : goal.invariant_of-self-2-clause-few
invariant_of-self-2-clause-few g c t =
    let self = c.args.self.now in
    let slot = c.ring_slot-slot.result in
    let order = open_slots self.first self.opened in
    let out : ¬ IsListed slot order = λ listed. next_unlisted self.first self.opened self.ring (omega arith) (subst (λ k. IsListed k order) c.ring_slot-slot.ensures listed) in
    subst (λ (l : List Unhomed). length (waiting_in t l) ≤ 31) (sym c.enter_all.ensures.items)
    (few_after slot order c.args.images.now self.unhomed.items (omega arith) out self.opens self.few t)

pub invariant_of-self-2-clause-images : goal.invariant_of-self-2-clause-images
invariant_of-self-2-clause-images g c =
    let self = c.args.self.now in
    let low : c.ring_slot-slot.result < 8 = omega (arith, c.ring_slot-slot.ensures, ring_below (self.first + self.opened) (omega arith)) in
    subst (AllByRecursion IsImage) (sym (c.enter_all.ensures.items))
    (images_after c.ring_slot-slot.result c.args.images.now self.unhomed.items low (omega arith) self.images)

pub invariant_of-self-2-clause-opens : goal.invariant_of-self-2-clause-opens
invariant_of-self-2-clause-opens g c =
    let self = c.args.self.now in
    let slot = c.ring_slot-slot.result in
    let order = open_slots self.first self.opened in
    let push : order ++ slot ∷ [] ≡ open_slots self.first (self.opened + 1) = ap (λ k. order ++ k ∷ []) c.ring_slot-slot.ensures ∙ slots_push self.first self.opened in
    subst (AllByRecursion (IsOf (open_slots self.first (self.opened + 1)))) (sym (c.enter_all.ensures.items))
    (subst (λ (o : List ℕ). AllByRecursion (IsOf o) (unhomed_after slot 0 c.args.images.now self.unhomed.items)) push
    (opens_after slot order (order ++ slot ∷ []) c.args.images.now self.unhomed.items (listed_right order (slot ∷ []) slot (inl refl)) (λ t there. listed_left order (slot ∷ []) t there) self.opens))

pub invariant_of-self-2-clause-below : goal.invariant_of-self-2-clause-below
invariant_of-self-2-clause-below g c =
    let self = c.args.self.now in
    let named = c.args.images.now in
    subst (λ (l : List Unhomed). AreBelow self.homes (unhomed_numbers l)) (sym (c.enter_all.ensures.items))
    (below_each self.homes (unhomed_numbers (unhomed_after c.ring_slot-slot.result 0 named self.unhomed.items)) (λ n listed. ⊎_elim
    (λ new. listed_below self.homes (pages_of named) n c.requires.below new)
    (λ old. listed_below self.homes (unhomed_numbers self.unhomed.items) n self.below old)
    (listed_after c.ring_slot-slot.result 0 named self.unhomed.items n listed)))
