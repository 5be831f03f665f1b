use Rattle.std.proofs.Common.{◌≡◌, ◌≤◌, ◌∙◌, List, length, ap, sym, subst, refl, true≢false}
use Rattle.std.specs.List.{AllByRecursion}
use Rattle.disk_models.specs.Octets.{octets}
use Rattle.page_journal.specs.Layout.{home_place}
use Rattle.page_journal.specs.Recovers.{AreBelow, IsListed}
use Rattle.page_journal.specs.Bookkeeping.{IsImage, IsOf, open_slots, unhomed_numbers, waiting_in}
use Rattle.page_journal.specs.declared.unhomed.Unhomed.{Unhomed}
use Rattle.page_journal.proofs.Placing.{below_each, listed_before, listed_below, others, numbers_others, all_others, none_listed}
use Rattle.page_journal.proofs.Counting.{few_others}
use Rattle.page_journal.proofs.Keeping.{ShownAt, CoveredIn, whole_page, home_crash, home_represents, home_covered, home_numbered, home_shown}
use Rattle.page_journal.proofs.journal.Journal.home.Goals as goal

pub returns-then-not-is_unhomed-clause-unhomed : goal.returns-then-not-is_unhomed-clause-unhomed
returns-then-not-is_unhomed-clause-unhomed g c =
    let numbers : unhomed_numbers c.deref.result.now ≡ unhomed_numbers c.args.self.now.unhomed.items = ap unhomed_numbers c.deref.ensures.0 in
    none_listed (unhomed_numbers c.args.self.now.unhomed.items) c.args.n
    (λ listed. true≢false (sym (c.if-not-is_unhomed.ensures.1 (subst (IsListed c.args.n) (sym numbers) listed))))

pub returns-in_err-write_at-clause-crash : goal.returns-in_err-write_at-clause-crash
returns-in_err-write_at-clause-crash g c h pages keeps =
    let self = c.args.self.now in
    let s0 = g.D.EraseDisk.model self.disk in
    let s1 = g.D.EraseDisk.model c.write_at.new.self in
    let listed : IsListed c.args.n (unhomed_numbers self.unhomed.items) = subst (IsListed c.args.n) (ap unhomed_numbers c.deref.ensures.0) (c.if-not-is_unhomed.ensures.0 refl) in
    home_crash self.homes self.note (open_slots self.first self.opened) c.args.n s0 s1 self.unhomed.items pages
    (whole_page (home_place c.args.n) _ s0 s1 c.octets.ensures.size (c.write_at.ensures.within h)) keeps.represents self.opens keeps.covered listed

pub returns-clause-crash : goal.returns-clause-crash
returns-clause-crash g c h pages keeps =
    let self = c.args.self.now in
    let s0 = g.D.EraseDisk.model self.disk in
    let s1 = g.D.EraseDisk.model c.write_at.new.self in
    let listed : IsListed c.args.n (unhomed_numbers self.unhomed.items) = subst (IsListed c.args.n) (ap unhomed_numbers c.deref.ensures.0) (c.if-not-is_unhomed.ensures.0 refl) in
    home_crash self.homes self.note (open_slots self.first self.opened) c.args.n s0 s1 self.unhomed.items pages
    (whole_page (home_place c.args.n) _ s0 s1 c.octets.ensures.size (c.write_at.ensures.within h)) keeps.represents self.opens keeps.covered listed

pub returns-clause-keeps : goal.returns-clause-keeps
returns-clause-keeps g c h pages keeps is =
    let self = c.args.self.now in
    let s0 = g.D.EraseDisk.model self.disk in
    let s1 = g.D.EraseDisk.model c.write_at.new.self in
    let listed : IsListed c.args.n (unhomed_numbers self.unhomed.items) = subst (IsListed c.args.n) (ap unhomed_numbers c.deref.ensures.0) (c.if-not-is_unhomed.ensures.0 refl) in
    let writes = whole_page (home_place c.args.n) _ s0 s1 c.octets.ensures.size (c.write_at.ensures.within h) in
    let entries = c.forget.ensures.items in
    let now : octets s1.octet (home_place c.args.n) 16384 ≡ c.args.page.now =
    ap (λ m. octets s1.octet (home_place c.args.n) m) (sym c.octets.ensures.size) ∙ c.in_ok-write_at.ensures.octets h ∙ c.octets.ensures.value in
    let order = open_slots self.first self.opened in
    record {
      usable = refl;
      represents = home_represents self.homes self.note order c.args.n s0 s1 self.unhomed.items pages writes keeps.represents self.opens keeps.covered listed;
      shown = subst (λ (l : List Unhomed). ShownAt self.homes l s1.octet pages) (sym entries)
          (home_shown self.homes self.note order c.args.n s0 s1 self.unhomed.items pages writes keeps.represents self.opens keeps.covered listed c.args.page.now now is self.images keeps.shown);
      covered = subst (λ (l : List Unhomed). CoveredIn l s1) (sym entries)
          (home_covered self.homes self.note order c.args.n s0 s1 self.unhomed.items pages writes keeps.represents self.opens keeps.covered listed);
      numbered = home_numbered self.homes self.note order c.args.n s0 s1 self.unhomed.items pages writes keeps.represents self.opens keeps.covered listed self.next keeps.numbered;
    }

pub returns-clause-unhomed : goal.returns-clause-unhomed
returns-clause-unhomed g c = ap unhomed_numbers c.forget.ensures.items ∙ numbers_others c.args.self.now.unhomed.items c.args.n

pub invariant_of-self-2-clause-few : goal.invariant_of-self-2-clause-few
invariant_of-self-2-clause-few g c t =
    let self = c.args.self.now in
    subst (λ (l : List Unhomed). length (waiting_in t l) ≤ 31) (sym c.forget.ensures.items) (few_others c.args.n self.unhomed.items self.few t)

pub invariant_of-self-2-clause-images : goal.invariant_of-self-2-clause-images
invariant_of-self-2-clause-images g c =
    let self = c.args.self.now in
    subst (AllByRecursion IsImage) (sym c.forget.ensures.items) (all_others IsImage self.unhomed.items c.args.n self.images)

pub invariant_of-self-2-clause-opens : goal.invariant_of-self-2-clause-opens
invariant_of-self-2-clause-opens g c =
    let self = c.args.self.now in
    let order = open_slots self.first self.opened in
    subst (AllByRecursion (IsOf order)) (sym c.forget.ensures.items) (all_others (IsOf order) self.unhomed.items c.args.n self.opens)

pub invariant_of-self-2-clause-below : goal.invariant_of-self-2-clause-below
invariant_of-self-2-clause-below g c =
    let self = c.args.self.now in
    subst (λ (l : List Unhomed). AreBelow self.homes (unhomed_numbers l)) (sym c.forget.ensures.items)
    (below_each self.homes (unhomed_numbers (others c.args.n self.unhomed.items)) (λ m left. listed_below self.homes (unhomed_numbers self.unhomed.items) m self.below (listed_before self.unhomed.items c.args.n m left)))
