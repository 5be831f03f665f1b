use Rattle.std.proofs.Common.{◌∙◌, ◌∷◌, ◌+◌, ◌-◌, ℕ, List, ap, arith, rules, subst, sym}
use Rattle.disk_models.proofs.api.Moments.{leaves_then}
use Rattle.page_journal.specs.Bookkeeping.{open_slots}
use Rattle.page_journal.specs.Recovers.{Recovers}
use Rattle.page_journal.specs.inner.Laying.{HomesRepresent}
use Rattle.page_journal.proofs.RingLemmas.{ring_below, slots_first, slots_none}
use Rattle.page_journal.proofs.gate.close_open.Goals as goal

pub close-requires-clause-slot : goal.close-requires-clause-slot
close-requires-clause-slot g c = omega (arith, c.ring_slot.ensures, ring_below (c.args.first + c.loop-k.k) (omega arith))

pub returns-in_err-close-clause-crash : goal.returns-in_err-close-clause-crash
returns-in_err-close-clause-crash g c h homes note pages stands =
    let inv = c.loop-k.invariant in
    let s0 = g.D.EraseDisk.model c.args.disk.now in
    let s1 = g.D.EraseDisk.model c.loop-k.disk in
    let s2 = g.D.EraseDisk.model c.close.new.disk in
    let first = c.args.first in
    let k = c.loop-k.k in
    leaves_then s0 s1 s2 (λ d. Recovers homes note d pages) (inv.crash h homes note pages stands)
    (c.close.ensures.crash (inv.honest.0 h) homes note (open_slots (first + (k + 1)) (c.args.count - (k + 1))) pages
    (subst (λ (o : List ℕ). HomesRepresent homes note o s1 pages) (slots_first first k c.args.count c.loop-k-test.true ∙ ap (λ t. t ∷ open_slots (first + (k + 1)) (c.args.count - (k + 1))) (sym c.ring_slot.ensures)) (inv.stands h homes note pages stands)))

pub loop-k-preserved : goal.loop-k-preserved
loop-k-preserved g c =
    let inv = c.loop-k.invariant in
    let s0 = g.D.EraseDisk.model c.args.disk.now in
    let s1 = g.D.EraseDisk.model c.loop-k.disk in
    let s2 = g.D.EraseDisk.model c.close.new.disk in
    let first = c.args.first in
    let k = c.loop-k.k in
    let rest = open_slots (first + (k + 1)) (c.args.count - (k + 1)) in
    record {
      size = c.close.ensures.serves.size ∙ inv.size;
      counts = c.close.ensures.serves.quiet (search rules) ∙ inv.counts;
      honest = (λ h. c.close.ensures.serves.honest.0 (inv.honest.0 h), λ h. inv.honest.1 (c.close.ensures.serves.honest.1 h));
      crash = λ h homes note pages stands. leaves_then s0 s1 s2 (λ d. Recovers homes note d pages) (inv.crash h homes note pages stands)
          (c.close.ensures.crash (inv.honest.0 h) homes note rest pages
          (subst (λ (o : List ℕ). HomesRepresent homes note o s1 pages) (slots_first first k c.args.count c.loop-k-test.true ∙ ap (λ t. t ∷ open_slots (first + (k + 1)) (c.args.count - (k + 1))) (sym c.ring_slot.ensures)) (inv.stands h homes note pages stands)));
      stands = λ h homes note pages stands. c.in_ok-close.ensures.closed (inv.honest.0 h) homes note rest pages
          (subst (λ (o : List ℕ). HomesRepresent homes note o s1 pages) (slots_first first k c.args.count c.loop-k-test.true ∙ ap (λ t. t ∷ open_slots (first + (k + 1)) (c.args.count - (k + 1))) (sym c.ring_slot.ensures)) (inv.stands h homes note pages stands));
    }

pub returns-clause-closed : goal.returns-clause-closed
returns-clause-closed g c h homes note pages stands =
    subst (λ (o : List ℕ). HomesRepresent homes note o (g.D.EraseDisk.model c.loop-k.disk) pages) (slots_none (c.args.first + c.loop-k.k) c.loop-k.k c.args.count c.loop-k-test.false)
    (c.loop-k.invariant.stands h homes note pages stands)
