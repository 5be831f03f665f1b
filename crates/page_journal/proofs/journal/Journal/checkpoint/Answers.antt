use Rattle.std.proofs.Common.{List, [], sym, subst, refl}
use Rattle.page_journal.specs.Bookkeeping.{HasImage, IsImage, IsOf, open_slots, unhomed_numbers}
use Rattle.std.specs.List.{AllByRecursion}
use Rattle.page_journal.specs.Recovers.{AreBelow}
use Rattle.page_journal.specs.declared.unhomed.Unhomed.{Unhomed}
use Rattle.page_journal.proofs.Placing.{none_unhomed, no_numbers}
use Rattle.page_journal.proofs.Keeping.{ShownAt, checkpoint_stands, checkpoint_crash, stands_represents, stands_shown}
use Rattle.page_journal.proofs.journal.Journal.checkpoint.Goals as goal

pub returns-in_err-close_open-clause-crash : goal.returns-in_err-close_open-clause-crash
returns-in_err-close_open-clause-crash g c h pages keeps =
    let self = c.args.self.now in
    let s0 = g.D.EraseDisk.model self.disk in
    let s1 = g.D.EraseDisk.model c.sync.new.self in
    let s2 = g.D.EraseDisk.model c.close_open.new.disk in
    checkpoint_crash self.homes self.note (open_slots self.first self.opened) s0 s1 s2 self.unhomed.items (no_numbers (unhomed_numbers self.unhomed.items) c.requires) pages keeps.represents keeps.shown (c.sync.ensures.lingers h).crash
    (c.close_open.ensures.crash (c.sync.ensures.honest.0 h) self.homes self.note pages
    (checkpoint_stands self.homes self.note (open_slots self.first self.opened) s0 s1 s2 self.unhomed.items (no_numbers (unhomed_numbers self.unhomed.items) c.requires) pages keeps.represents keeps.shown (c.in_ok-sync.ensures.syncs h)))

pub returns-clause-crash : goal.returns-clause-crash
returns-clause-crash g c h pages keeps =
    let self = c.args.self.now in
    let s0 = g.D.EraseDisk.model self.disk in
    let s1 = g.D.EraseDisk.model c.sync.new.self in
    let s2 = g.D.EraseDisk.model c.close_open.new.disk in
    checkpoint_crash self.homes self.note (open_slots self.first self.opened) s0 s1 s2 self.unhomed.items (no_numbers (unhomed_numbers self.unhomed.items) c.requires) pages keeps.represents keeps.shown (c.sync.ensures.lingers h).crash
    (c.close_open.ensures.crash (c.sync.ensures.honest.0 h) self.homes self.note pages
    (checkpoint_stands self.homes self.note (open_slots self.first self.opened) s0 s1 s2 self.unhomed.items (no_numbers (unhomed_numbers self.unhomed.items) c.requires) pages keeps.represents keeps.shown (c.in_ok-sync.ensures.syncs h)))

pub returns-clause-keeps : goal.returns-clause-keeps
returns-clause-keeps g c h pages keeps =
    let self = c.args.self.now in
    let s0 = g.D.EraseDisk.model self.disk in
    let s1 = g.D.EraseDisk.model c.sync.new.self in
    let s2 = g.D.EraseDisk.model c.close_open.new.disk in
    let none = none_unhomed self.unhomed.items (no_numbers (unhomed_numbers self.unhomed.items) c.requires) in
    let stands = c.in_ok-close_open.ensures.closed (c.sync.ensures.honest.0 h) self.homes self.note pages
    (checkpoint_stands self.homes self.note (open_slots self.first self.opened) s0 s1 s2 self.unhomed.items (no_numbers (unhomed_numbers self.unhomed.items) c.requires) pages keeps.represents keeps.shown (c.in_ok-sync.ensures.syncs h)) in
    record {
      usable = refl;
      represents = stands_represents self.homes self.note s2 pages stands;
      shown = subst (λ (l : List Unhomed). ShownAt self.homes l s2.octet pages) (sym none) (stands_shown self.homes self.note s2 pages stands);
      covered = λ d may. subst (AllByRecursion (HasImage d)) (sym none) tt;
      numbered = λ d may. tt;
    }

pub invariant_of-self-2-clause-images : goal.invariant_of-self-2-clause-images
invariant_of-self-2-clause-images g c =
    let unhomed = c.args.self.now.unhomed.items in
    subst (AllByRecursion IsImage) (sym (none_unhomed unhomed (no_numbers (unhomed_numbers unhomed) c.requires))) tt

pub invariant_of-self-2-clause-opens : goal.invariant_of-self-2-clause-opens
invariant_of-self-2-clause-opens g c =
    let unhomed = c.args.self.now.unhomed.items in
    subst (AllByRecursion (IsOf [])) (sym (none_unhomed unhomed (no_numbers (unhomed_numbers unhomed) c.requires))) tt

pub invariant_of-self-2-clause-below : goal.invariant_of-self-2-clause-below
invariant_of-self-2-clause-below g c =
    let self = c.args.self.now in
    subst (AreBelow self.homes) (sym (no_numbers (unhomed_numbers self.unhomed.items) c.requires)) tt
