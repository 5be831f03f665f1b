use Rattle.std.proofs.Common.{◌≡◌, ◌↔◌, ◌/◌, ℕ, List, length, arith, sym, ◌∙◌, ap, subst}
use Rattle.page_journal.specs.Layout.{pages_of}
use Rattle.page_journal.specs.Recovers.{IsListed}
use Rattle.intake.specs.Ring.{octets_for, size_of, HasPlaceAfter}
use Rattle.intake.specs.inner.Drafts.{AreFrom, Covers}
use Rattle.intake.proofs.Wrapping.{wrapped_low}
use Rattle.intake.proofs.Images.{are_from, length_numbers, length_pages_of}
use Rattle.intake.proofs.Filling.{covers_all}
use Rattle.intake.proofs.Spanning.{holds_there}
use Rattle.intake.proofs.drafting.draft.Goals as goal

pub put_batch-requires-clause-numbers : goal.put_batch-requires-clause-numbers
put_batch-requires-clause-numbers g c =
    are_from c.args.ring.low c.args.ring.count (c.wrap-at.result / 16384) c.min-count.result (pages_of c.in_ok-images.images.items) c.in_ok-images.ensures.numbers (omega (arith, c.min-count.ensures))

pub put_batch-requires-clause-covers : goal.put_batch-requires-clause-covers
put_batch-requires-clause-covers g c =
    let ring = c.args.ring in
    let begun = c.wrap-at.result / 16384 in
    let n : length (pages_of c.in_ok-images.images.items) ≡ c.min-count.result = ap length c.in_ok-images.ensures.numbers ∙ length_numbers ring.low ring.count begun c.min-count.result in
    subst (λ k. Covers ring begun k (octets_for c.args.batch.now)) (sym n)
    (subst (λ o. Covers ring begun c.min-count.result o) c.requires.octets
    (covers_all ring c.wrap-at.result c.args.octets c.page_count.result c.min-count.result c.requires.ring.start c.requires.room c.wrap-at.ensures c.page_count.ensures.all c.min-count.ensures))

pub returns-clause-numbers : goal.returns-clause-numbers
returns-clause-numbers g c =
    let ring = c.args.ring in
    let begun = c.wrap-at.result / 16384 in
    let low = wrapped_low (size_of ring) ring.first ring.used c.requires.ring.start c.requires.ring.used in (
      begun,
      omega (arith, low, c.wrap-at.ensures),
      subst (λ (ns : List ℕ). AreFrom ring.low ring.count begun ns) (sym c.in_ok-put_batch.ensures.numbers)
          (are_from ring.low ring.count begun c.min-count.result (pages_of c.in_ok-images.images.items) c.in_ok-images.ensures.numbers (omega (arith, c.min-count.ensures))),
    )

pub returns-clause-few : goal.returns-clause-few
returns-clause-few g c =
    let ring = c.args.ring in
    let begun = c.wrap-at.result / 16384 in
    let n : length (pages_of c.in_ok-images.images.items) ≡ c.min-count.result = ap length c.in_ok-images.ensures.numbers ∙ length_numbers ring.low ring.count begun c.min-count.result in
    let same = ap length c.in_ok-put_batch.ensures.numbers in
    omega (arith, n, same, length_pages_of c.put_batch.new.images.items, c.page_count.ensures.few, c.min-count.ensures)

pub returns-clause-beyond : goal.returns-clause-beyond
returns-clause-beyond g c n =
    let ring = c.args.ring in
    let begun = c.wrap-at.result / 16384 in
    let all = covers_all ring c.wrap-at.result c.args.octets c.page_count.result c.min-count.result c.requires.ring.start c.requires.room c.wrap-at.ensures c.page_count.ensures.all c.min-count.ensures in
    subst (λ (ns : List ℕ). IsListed n ns ↔ HasPlaceAfter ring c.args.octets n) (sym (c.in_ok-put_batch.ensures.numbers ∙ c.in_ok-images.ensures.numbers))
    (holds_there ring c.wrap-at.result c.args.octets c.page_count.result c.min-count.result c.requires.ring.start c.requires.room c.wrap-at.ensures c.min-count.ensures c.page_count.ensures.least c.page_count.ensures.none all n)

pub returns-clause-represents_all : goal.returns-clause-represents_all
returns-clause-represents_all g c start shown stood are long stand =
    let count = g.met.P.Pages.count c.args.pages.now start shown are in
    c.in_ok-put_batch.ensures.written shown stood (omega (arith, c.requires.ring.inside, count)) long (c.in_ok-images.ensures.stood start shown stood are long stand)
