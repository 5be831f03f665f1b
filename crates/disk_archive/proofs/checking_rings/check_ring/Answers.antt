use Rattle.std.proofs.Common.{rules, ◌≡◌, ℕ, List, length, sym, ◌∙◌, subst, true≢false}
use Rattle.intake.specs.declared.ring.Ring.{Ring}
use Rattle.intake.specs.Ring.{IsRing}
use Rattle.intake.specs.Outlines.{BreaksOn}
use Rattle.archive_pages.specs.Places.{ring_of}
use Rattle.disk_archive.specs.Rings.{IsBadRing, no_ring, breaks_on}
use Rattle.disk_archive.proofs.checking_rings.check_ring.Goals as goal

pub returns-then-not-is_within-clause-bad : goal.returns-then-not-is_within-clause-bad
returns-then-not-is_within-clause-bad g c page is start shown are =
    let here : 0 ≡ page = cc in
    let count = g.met.P.Pages.count c.args.pages.now start shown are in
    let ring = c.ring-ring.ensures in
    subst (λ (p : ℕ). IsBadRing shown c.args.settings c.args.head.now p) here
    (no_ring c.args.collector c.lane_of.result c.lane_of.ensures.lane (λ r. true≢false (sym (c.if-not-is_within.ensures.within.1 (subst (λ (n : ℕ). IsRing n c.ring-ring.result) (count ∙ sym c.home_pages.ensures) (subst (IsRing (length shown)) (sym ring) r))))))

pub returns-in-Err-BadNode-clause-bad : goal.returns-in-Err-BadNode-clause-bad
returns-in-Err-BadNode-clause-bad g c page is start shown are =
    let here : c.in-Err-BadNode.page ≡ page = cc in
    let breaks = c.count.ensures.breaks c.in-Err-BadNode.page (search rules) start shown are in
    subst (λ (p : ℕ). IsBadRing shown c.args.settings c.args.head.now p) here
    (breaks_on c.args.collector c.lane_of.result c.lane_of.ensures.lane c.in-Err-BadNode.page (subst (λ (r : Ring). BreaksOn shown r c.in-Err-BadNode.page) c.ring-ring.ensures breaks))
