use Rattle.std.proofs.Common.{◌≡◌, ◌≢◌, ◌<◌, ◌≤◌, ◌∙◌, ◌+◌, ◌-◌, ◌^◌, ◌++◌, ◌∷◌, [], inl, refl, ℕ, List, length, ⊎_elim, ap, arith, rules, sym, subst}
use Rattle.std.specs.List.{AllByRecursion}
use Rattle.disk_models.specs.Erase.{MayLeave}
use Rattle.page_journal.specs.Recovers.{laid, AreBelow, IsListed, RepresentsPages}
use Rattle.page_journal.specs.Layout.{pages_of, transaction}
use Rattle.page_journal.specs.Bookkeeping.{AreNumbered, IsImage, IsOf, open_slots, ring_slot, unhomed_numbers, waiting_in}
use Rattle.page_journal.specs.inner.Entering.{unhomed_after}
use Rattle.page_journal.specs.declared.unhomed.Unhomed.{Unhomed}
use Rattle.page_journal.proofs.Staging.{length-header_octets}
use Rattle.page_journal.proofs.Posting.{IsFree, fill_crash, next_free, posted_number}
use Rattle.page_journal.proofs.Placing.{below_each, listed_below, listed_left, listed_right}
use Rattle.page_journal.proofs.RingLemmas.{length-open_slots, next_unlisted, is_apart, ring_below, ring_turn, slots_oldest, slots_turn}
use Rattle.page_journal.proofs.Counting.{few_after, few_all, of_later}
use Rattle.page_journal.proofs.Entries.{images_after, listed_after, numbers_after, opens_after}
use Rattle.page_journal.proofs.Keeping.{ShownAt, CoveredIn}
use Rattle.page_journal.proofs.Turning.{closing_crash, closing_covered, closing_numbered, closing_represents, closing_shown, turns_body}
use Rattle.page_journal.proofs.journal.Journal.post_closing.Goals as goal

pub fill-requires-clause-slot : goal.fill-requires-clause-slot
fill-requires-clause-slot g c = omega (arith, c.ring_slot-free.ensures, c.requires.gives.last, ring_below (c.args.self.now.first + c.args.self.now.opened) (omega arith))

pub fill-requires-clause-header : goal.fill-requires-clause-header
fill-requires-clause-header g c =
    ap length (c.deref.ensures.0 ∙ c.header-header.ensures) ∙ length-header_octets c.args.self.now.next c.args.images.now

pub turn-requires-clause-newest : goal.turn-requires-clause-newest
turn-requires-clause-newest g c = omega (arith, c.ring_slot-free.ensures, c.requires.gives.last, ring_below (c.args.self.now.first + c.args.self.now.opened) (omega arith))

pub turn-requires-clause-apart : goal.turn-requires-clause-apart
turn-requires-clause-apart g c =
    let self = c.args.self.now in
    λ e. is_apart self.first self.opened c.ring_slot-free.result self.ring (omega (arith, c.requires.gives.last)) (omega (arith, c.requires.gives.last)) c.ring_slot-free.ensures e

pub enter_all-requires-clause-room : goal.enter_all-requires-clause-room
enter_all-requires-clause-room g c =
    let self = c.args.self.now in
    omega (arith, c.requires.gives.last, few_all (open_slots self.first self.opened) self.unhomed.items self.opens self.few, length-open_slots self.first self.opened)

pub returns-in_err-fill-clause-crash : goal.returns-in_err-fill-clause-crash
returns-in_err-fill-clause-crash g c h pages keeps =
    let self = c.args.self.now in
    let s0 = g.D.EraseDisk.model self.disk in
    let s1 = g.D.EraseDisk.model c.fill.new.disk in
    let named = c.args.images.now in
    let header = c.deref.result.now in
    let slot = c.ring_slot-free.result in
    let order = open_slots self.first self.opened in
    let rest = open_slots (self.first + 1) (self.opened - 1) in
    let gives = c.requires.gives in
    let room : self.opened < 8 = omega (arith, gives.last) in
    let some_open : 0 < self.opened = omega (arith, gives.last) in
    let is : slot ≡ ring_slot (self.first + self.opened) = c.ring_slot-free.ensures in
    let low : slot < 8 = omega (arith, is, ring_below (self.first + self.opened) (omega arith)) in
    let all : order ≡ self.first ∷ rest = slots_oldest self.first self.opened self.ring room some_open in
    let free : (d : ℕ → ℕ) → MayLeave s0 d → IsFree slot self.next (self.first ∷ rest) d = λ d may. subst (λ (o : List ℕ). IsFree slot self.next o d) all
    (next_free self.homes self.note self.first self.opened slot self.next d pages self.ring room is (keeps.represents d may) (keeps.numbered d may)) in
    let represents : RepresentsPages self.homes self.note (self.first ∷ rest) s0 pages = subst (λ (o : List ℕ). RepresentsPages self.homes self.note o s0 pages) all keeps.represents in
    fill_crash self.homes self.note (self.first ∷ rest) slot self.next low s0 s1 pages represents free named header (c.fill.ensures.crash h)

pub returns-in_err-turn-clause-crash : goal.returns-in_err-turn-clause-crash
returns-in_err-turn-clause-crash g c h pages keeps =
    let self = c.args.self.now in
    let s0 = g.D.EraseDisk.model self.disk in
    let s1 = g.D.EraseDisk.model c.fill.new.disk in
    let named = c.args.images.now in
    let header = c.deref.result.now in
    let slot = c.ring_slot-free.result in
    let order = open_slots self.first self.opened in
    let rest = open_slots (self.first + 1) (self.opened - 1) in
    let gives = c.requires.gives in
    let room : self.opened < 8 = omega (arith, gives.last) in
    let some_open : 0 < self.opened = omega (arith, gives.last) in
    let is : slot ≡ ring_slot (self.first + self.opened) = c.ring_slot-free.ensures in
    let low : slot < 8 = omega (arith, is, ring_below (self.first + self.opened) (omega arith)) in
    let all : order ≡ self.first ∷ rest = slots_oldest self.first self.opened self.ring room some_open in
    let free : (d : ℕ → ℕ) → MayLeave s0 d → IsFree slot self.next (self.first ∷ rest) d = λ d may. subst (λ (o : List ℕ). IsFree slot self.next o d) all
    (next_free self.homes self.note self.first self.opened slot self.next d pages self.ring room is (keeps.represents d may) (keeps.numbered d may)) in
    let represents : RepresentsPages self.homes self.note (self.first ∷ rest) s0 pages = subst (λ (o : List ℕ). RepresentsPages self.homes self.note o s0 pages) all keeps.represents in
    let apart : slot ≢ self.first = λ e. is_apart self.first self.opened slot self.ring room some_open is e in
    let of : AllByRecursion (IsOf rest) self.unhomed.items = of_later self.first rest self.unhomed.items gives.home (subst (λ (o : List ℕ). AllByRecursion (IsOf o) self.unhomed.items) all self.opens) in
    let some : ¬ (length named ≡ 0) = λ none. let more : 0 < length named = search rules in absurd (omega (arith, more, none)) in
    let few : length named ≤ 31 = omega arith in
    let fits : self.next < 2 ^ 64 = omega arith in
    let is_header = c.deref.ensures.0 ∙ c.header-header.ensures in
    let fills = c.in_ok-fill.ensures.filled h in
    closing_crash self.homes self.note rest slot self.next self.first low self.ring apart s0 s1 pages represents free named header some few fits self.small c.requires.below c.requires.distinct is_header fills self.unhomed.items self.images of keeps.shown keeps.covered (g.D.EraseDisk.model c.turn.new.disk)
    (c.fill.ensures.crash h) (c.turn.ensures.crash (c.fill.ensures.serves.honest.0 h))

pub returns-clause-crash : goal.returns-clause-crash
returns-clause-crash g c h pages keeps =
    let self = c.args.self.now in
    let s0 = g.D.EraseDisk.model self.disk in
    let s1 = g.D.EraseDisk.model c.fill.new.disk in
    let named = c.args.images.now in
    let header = c.deref.result.now in
    let slot = c.ring_slot-free.result in
    let order = open_slots self.first self.opened in
    let rest = open_slots (self.first + 1) (self.opened - 1) in
    let gives = c.requires.gives in
    let room : self.opened < 8 = omega (arith, gives.last) in
    let some_open : 0 < self.opened = omega (arith, gives.last) in
    let is : slot ≡ ring_slot (self.first + self.opened) = c.ring_slot-free.ensures in
    let low : slot < 8 = omega (arith, is, ring_below (self.first + self.opened) (omega arith)) in
    let all : order ≡ self.first ∷ rest = slots_oldest self.first self.opened self.ring room some_open in
    let free : (d : ℕ → ℕ) → MayLeave s0 d → IsFree slot self.next (self.first ∷ rest) d = λ d may. subst (λ (o : List ℕ). IsFree slot self.next o d) all
    (next_free self.homes self.note self.first self.opened slot self.next d pages self.ring room is (keeps.represents d may) (keeps.numbered d may)) in
    let represents : RepresentsPages self.homes self.note (self.first ∷ rest) s0 pages = subst (λ (o : List ℕ). RepresentsPages self.homes self.note o s0 pages) all keeps.represents in
    let apart : slot ≢ self.first = λ e. is_apart self.first self.opened slot self.ring room some_open is e in
    let of : AllByRecursion (IsOf rest) self.unhomed.items = of_later self.first rest self.unhomed.items gives.home (subst (λ (o : List ℕ). AllByRecursion (IsOf o) self.unhomed.items) all self.opens) in
    let some : ¬ (length named ≡ 0) = λ none. let more : 0 < length named = search rules in absurd (omega (arith, more, none)) in
    let few : length named ≤ 31 = omega arith in
    let fits : self.next < 2 ^ 64 = omega arith in
    let is_header = c.deref.ensures.0 ∙ c.header-header.ensures in
    let fills = c.in_ok-fill.ensures.filled h in
    closing_crash self.homes self.note rest slot self.next self.first low self.ring apart s0 s1 pages represents free named header some few fits self.small c.requires.below c.requires.distinct is_header fills self.unhomed.items self.images of keeps.shown keeps.covered (g.D.EraseDisk.model c.turn.new.disk)
    (c.fill.ensures.crash h) (c.turn.ensures.crash (c.fill.ensures.serves.honest.0 h))

pub returns-clause-posted : goal.returns-clause-posted
returns-clause-posted g c h pages keeps =
    let self = c.args.self.now in
    let s0 = g.D.EraseDisk.model self.disk in
    let s1 = g.D.EraseDisk.model c.fill.new.disk in
    let named = c.args.images.now in
    let header = c.deref.result.now in
    let slot = c.ring_slot-free.result in
    let order = open_slots self.first self.opened in
    let rest = open_slots (self.first + 1) (self.opened - 1) in
    let gives = c.requires.gives in
    let room : self.opened < 8 = omega (arith, gives.last) in
    let some_open : 0 < self.opened = omega (arith, gives.last) in
    let is : slot ≡ ring_slot (self.first + self.opened) = c.ring_slot-free.ensures in
    let low : slot < 8 = omega (arith, is, ring_below (self.first + self.opened) (omega arith)) in
    let all : order ≡ self.first ∷ rest = slots_oldest self.first self.opened self.ring room some_open in
    let free : (d : ℕ → ℕ) → MayLeave s0 d → IsFree slot self.next (self.first ∷ rest) d = λ d may. subst (λ (o : List ℕ). IsFree slot self.next o d) all
    (next_free self.homes self.note self.first self.opened slot self.next d pages self.ring room is (keeps.represents d may) (keeps.numbered d may)) in
    let represents : RepresentsPages self.homes self.note (self.first ∷ rest) s0 pages = subst (λ (o : List ℕ). RepresentsPages self.homes self.note o s0 pages) all keeps.represents in
    let apart : slot ≢ self.first = λ e. is_apart self.first self.opened slot self.ring room some_open is e in
    let of : AllByRecursion (IsOf rest) self.unhomed.items = of_later self.first rest self.unhomed.items gives.home (subst (λ (o : List ℕ). AllByRecursion (IsOf o) self.unhomed.items) all self.opens) in
    let some : ¬ (length named ≡ 0) = λ none. let more : 0 < length named = search rules in absurd (omega (arith, more, none)) in
    let few : length named ≤ 31 = omega arith in
    let fits : self.next < 2 ^ 64 = omega arith in
    let is_header = c.deref.ensures.0 ∙ c.header-header.ensures in
    let fills = c.in_ok-fill.ensures.filled h in
    let s2 = g.D.EraseDisk.model c.turn.new.disk in
    let turns = c.in_ok-turn.ensures.turned (c.fill.ensures.serves.honest.0 h) in
    let entries = c.enter_all.ensures.items in
    let push : rest ++ slot ∷ [] ≡ open_slots c.ring_slot-self.result self.opened = ap (λ k. rest ++ k ∷ []) is ∙ slots_turn self.first self.opened self.ring room some_open ∙ ap (λ k. open_slots k self.opened) (sym c.ring_slot-self.ensures) in
    record {
      usable = refl;
      represents = subst (λ (o : List ℕ). RepresentsPages self.homes self.note o s2 (laid named pages)) push (closing_represents self.homes self.note rest slot self.next self.first low self.ring apart s0 s1 pages represents free named header some few fits self.small c.requires.below c.requires.distinct is_header fills self.unhomed.items self.images of keeps.shown keeps.covered s2 turns);
      numbered = subst (λ (o : List ℕ). (d : ℕ → ℕ) → MayLeave s2 d → AreNumbered (self.next + 1) o d) push (closing_numbered self.homes self.note rest slot self.next self.first low self.ring apart s0 s1 pages represents free named header some few fits self.small c.requires.below c.requires.distinct is_header fills self.unhomed.items self.images of keeps.shown keeps.covered s2 turns
          (subst (λ (o : List ℕ). AreNumbered self.next o s0.octet) all (keeps.numbered s0.octet (λ i settled. refl))));
      shown = subst (λ (l : List Unhomed). ShownAt self.homes l s2.octet (laid named pages)) (sym entries) (closing_shown self.homes self.note rest slot self.next self.first low self.ring apart s0 s1 pages represents free named header some few fits self.small c.requires.below c.requires.distinct is_header fills self.unhomed.items self.images of keeps.shown keeps.covered s2 turns);
      covered = subst (λ (l : List Unhomed). CoveredIn l s2) (sym entries) (closing_covered self.homes self.note rest slot self.next self.first low self.ring apart s0 s1 pages represents free named header some few fits self.small c.requires.below c.requires.distinct is_header fills self.unhomed.items self.images of keeps.shown keeps.covered s2 turns);
    }

pub returns-clause-taken : goal.returns-clause-taken
returns-clause-taken g c some =
    let self = c.args.self.now in
    let s1 = g.D.EraseDisk.model c.fill.new.disk in
    let s2 = g.D.EraseDisk.model c.turn.new.disk in
    record {
      usable = refl;
      opened = refl;
      unhomed = ap unhomed_numbers (c.enter_all.ensures.items)
          ∙ numbers_after c.ring_slot-free.result 0 c.args.images.now self.unhomed.items c.requires.distinct;
      numbered = λ h. subst (λ k. transaction s2.octet k ≡ self.next) c.ring_slot-free.ensures
          (posted_number self.homes c.ring_slot-free.result self.next c.args.images.now c.deref.result.now (g.D.EraseDisk.model self.disk) s1 s2
          (omega arith) (omega arith) self.small c.requires.below (c.deref.ensures.0 ∙ c.header-header.ensures) (c.in_ok-fill.ensures.filled h)
          (turns_body c.ring_slot-free.result self.first s1 s2 (c.in_ok-turn.ensures.turned (c.fill.ensures.serves.honest.0 h))));
      next = refl;
      place = ap (λ k. ring_slot (k + self.opened)) c.ring_slot-self.ensures ∙ ring_turn self.first self.opened self.ring (omega (arith, c.requires.gives.last));
    }

pub invariant_of-self-2-clause-ring : goal.invariant_of-self-2-clause-ring
invariant_of-self-2-clause-ring g c = omega (arith, c.ring_slot-self.ensures, ring_below (c.args.self.now.first + 1) (omega arith))

pub invariant_of-self-2-clause-numbers : goal.invariant_of-self-2-clause-numbers
invariant_of-self-2-clause-numbers g c = omega (arith, c.requires.gives.number)

pub invariant_of-self-2-clause-few : goal.invariant_of-self-2-clause-few
invariant_of-self-2-clause-few g c t =
    let self = c.args.self.now in
    let slot = c.ring_slot-free.result in
    let order = open_slots self.first self.opened in
    let out : ¬ IsListed slot order = λ listed. next_unlisted self.first self.opened self.ring (omega (arith, c.requires.gives.last)) (subst (λ k. IsListed k order) c.ring_slot-free.ensures listed) in
    subst (λ (l : List Unhomed). length (waiting_in t l) ≤ 31) (sym c.enter_all.ensures.items)
    (few_after slot order c.args.images.now self.unhomed.items (omega arith) out self.opens self.few t)

pub invariant_of-self-2-clause-images : goal.invariant_of-self-2-clause-images
invariant_of-self-2-clause-images g c =
    let self = c.args.self.now in
    let low : c.ring_slot-free.result < 8 = omega (arith, c.ring_slot-free.ensures, c.requires.gives.last, ring_below (self.first + self.opened) (omega arith)) in
    subst (AllByRecursion IsImage) (sym (c.enter_all.ensures.items))
    (images_after c.ring_slot-free.result c.args.images.now self.unhomed.items low (omega arith) self.images)

pub invariant_of-self-2-clause-opens : goal.invariant_of-self-2-clause-opens
invariant_of-self-2-clause-opens g c =
    let self = c.args.self.now in
    let slot = c.ring_slot-free.result in
    let rest = open_slots (self.first + 1) (self.opened - 1) in
    let gives = c.requires.gives in
    let room : self.opened < 8 = omega (arith, gives.last) in
    let some_open : 0 < self.opened = omega (arith, gives.last) in
    let all : open_slots self.first self.opened ≡ self.first ∷ rest = slots_oldest self.first self.opened self.ring room some_open in
    let of : AllByRecursion (IsOf rest) self.unhomed.items = of_later self.first rest self.unhomed.items gives.home (subst (λ (o : List ℕ). AllByRecursion (IsOf o) self.unhomed.items) all self.opens) in
    let push : rest ++ slot ∷ [] ≡ open_slots c.ring_slot-self.result self.opened = ap (λ k. rest ++ k ∷ []) c.ring_slot-free.ensures ∙ slots_turn self.first self.opened self.ring room some_open ∙ ap (λ k. open_slots k self.opened) (sym c.ring_slot-self.ensures) in
    subst (AllByRecursion (IsOf (open_slots c.ring_slot-self.result self.opened))) (sym (c.enter_all.ensures.items))
    (subst (λ (o : List ℕ). AllByRecursion (IsOf o) (unhomed_after slot 0 c.args.images.now self.unhomed.items)) push
    (opens_after slot rest (rest ++ slot ∷ []) c.args.images.now self.unhomed.items (listed_right rest (slot ∷ []) slot (inl refl)) (λ t there. listed_left rest (slot ∷ []) t there) of))

pub invariant_of-self-2-clause-below : goal.invariant_of-self-2-clause-below
invariant_of-self-2-clause-below g c =
    let self = c.args.self.now in
    let named = c.args.images.now in
    subst (λ (l : List Unhomed). AreBelow self.homes (unhomed_numbers l)) (sym (c.enter_all.ensures.items))
    (below_each self.homes (unhomed_numbers (unhomed_after c.ring_slot-free.result 0 named self.unhomed.items)) (λ n listed. ⊎_elim
    (λ new. listed_below self.homes (pages_of named) n c.requires.below new)
    (λ old. listed_below self.homes (unhomed_numbers self.unhomed.items) n self.below old)
    (listed_after c.ring_slot-free.result 0 named self.unhomed.items n listed)))
