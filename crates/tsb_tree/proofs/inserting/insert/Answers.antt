use Rattle.std.proofs.Common.{◌≡◌, ◌≤◌, ℕ, length, rules, inl, inr, sym, ◌∙◌, ap, subst, arith}
use Rattle.std.proofs.lemmas.Bool.{false≢true}
use Rattle.std.proofs.lemmas.Result.{err_from_is_err_and}
use Rattle.page_journal.specs.Layout.{pages_of}
use Rattle.page_tx.proofs.Laying.{length_pages_of}
use Rattle.page_tx.specs.Images.{joined}
use Rattle.page_tx.specs.Refusals.{LayRefusal}
use Rattle.version_model.specs.Entries.{version_of}
use Rattle.tsb_tree.specs.NoRoom.{AtRoot, IsForRoom, LeadsToFullLeaf}
use Rattle.tsb_tree.specs.Refusals.{InsertRefusal}
use Rattle.tsb_tree.proofs.LackingRoom.{lay_never_full, lay_lacks_none, page_never_high}
use Rattle.tsb_tree.proofs.Crowding.{images_fit, never_crowded}
use Rattle.tsb_tree.proofs.Needing.{page_never_once}
use Rattle.tsb_tree.proofs.Insertion.{as_it_was, taken_in, lay_insert, never_back, lay_reads, not_less}
use Rattle.tsb_tree.proofs.Shelving.{honest_on, spends_none}
use Rattle.tsb_tree.proofs.inserting.insert.Goals as goal

pub returns-in_err-change-clause-err : goal.returns-in_err-change-clause-err
returns-in_err-change-clause-err g c =
    let place = c.args.place in
    let p = err_from_is_err_and c.from_residual.result c.from_residual.ensures.1 in
    rw p.1 (λ start shown all tree. as_it_was g.P.Pages c.args.pages.now c.planned.new.pages _ g.O.OnceDisk 2 c.args.shelf.now c.planned.new.shelf _ _ start shown all place.root place.level place.least c.in_err-change.ensures.reads c.in_err-change.ensures.shelf tree)

pub returns-in_err-change-clause-honest : goal.returns-in_err-change-clause-honest
returns-in_err-change-clause-honest g c start shown all tree =
    let later : c.args.place.least ≤ c.args.entry.now.stamp = not_less c.lt.result _ _ c.lt.ensures c.if-lt.false in
    let h = c.in_err-change.ensures.honest start shown all tree later in
    search rules

pub returns-in_err-change-clause-back : goal.returns-in_err-change-clause-back
returns-in_err-change-clause-back g c =
    let later : c.args.place.least ≤ c.args.entry.now.stamp = not_less c.lt.result _ _ c.lt.ensures c.if-lt.false in
    let p = err_from_is_err_and c.from_residual.result c.from_residual.ensures.1 in
    let never = never_back _ _ (length (g.P.Pages.named c.args.pages.now)) _ _ _ _ _ (c.in_err-change.ensures.refused (length (g.P.Pages.named c.args.pages.now)) (λ none. let many = c.has_room-may_split.ensures.none none in let held = c.images.ensures in omega (arith, many, held))) later in
    rw (p.1, p.2) (λ e. absurd (never (cc)), λ lt. absurd (omega (arith, lt, later)))

pub returns-in_err-change-clause-refused : goal.returns-in_err-change-clause-refused
returns-in_err-change-clause-refused g c =
    let h = c.in_err-change.ensures.refused (length (g.P.Pages.named c.args.pages.now)) (λ none. let many = c.has_room-may_split.ensures.none none in let held = c.images.ensures in omega (arith, many, held)) in
    search rules

pub returns-in-Ok-clause-ok : goal.returns-in-Ok-clause-ok
returns-in-Ok-clause-ok g c start shown all tree =
    let later : c.args.place.least ≤ c.args.entry.now.stamp = not_less c.lt.result _ _ c.lt.ensures c.if-lt.false in
    let plan = c.in_ok-change.ensures in
    let long = g.met.P.Pages.count c.args.pages.now start shown tree.is.shows in
    let honest = honest_on g.O.OnceDisk 2 c.args.shelf.now c.planned.new.shelf _ _ plan.shelf tree.is.honest in
    taken_in g.P.Pages c.args.pages.now c.lay.new.self g.O.OnceDisk c.args.shelf.now c.planned.new.shelf start shown tree.store _ c.in_ok-change.change c.in_ok-change.now tree.is long (plan.plans start shown all tree later)
    (c.in-Ok.ensures.ok start shown (plan.reads.shown start shown tree.is.shows)) c.in-Ok.ensures.next honest

pub returns-in-Ok-clause-named : goal.returns-in-Ok-clause-named
returns-in-Ok-clause-named g c =
    let plan = c.in_ok-change.ensures in
    let images = c.in_ok-change.change.images.items in
    (pages_of images, omega (arith, length_pages_of images, plan.laid.few), c.in-Ok.ensures.named ∙ ap (λ ns. joined ns (pages_of images)) plan.reads.named)

pub returns-in-Err-clause-err : goal.returns-in-Err-clause-err
returns-in-Err-clause-err g c start shown all tree =
    let place = c.args.place in
    let plan = c.in_ok-change.ensures in
    let lay = c.in-Err.ensures in
    let reads = lay_reads g.P.Pages c.args.pages.now c.planned.new.pages c.lay.new.self _ plan.reads (λ e. cc) lay.err lay.homes lay.as_next lay.as_named lay.down lay.device in
    as_it_was g.P.Pages c.args.pages.now c.lay.new.self _ g.O.OnceDisk 2 c.args.shelf.now c.planned.new.shelf _ _ start shown all place.root place.level place.least reads plan.shelf tree

pub returns-in-Err-clause-refused : goal.returns-in-Err-clause-refused
returns-in-Err-clause-refused g c =
    let pages = g.P.Pages in
    let held = c.args.pages.now in
    let place = c.args.place in
    let plan = c.in_ok-change.ensures in
    let change = c.in_ok-change.change in
    let one = subst (λ (h : ℕ). LayRefusal h change.unused (length (joined (pages.named c.planned.new.pages) (pages_of change.images.items))) c.in-Err.refusal) plan.reads.homes c.in-Err.ensures.refused in
    let two = subst (λ ns. LayRefusal (pages.homes held) change.unused (length (joined ns (pages_of change.images.items))) c.in-Err.refusal) plan.reads.named one in
    let h = lay_insert c.in-Err.refusal (pages.homes held) (pages.next held) (pages.named held) place.level (pages.down held) place.least c.args.entry.now.stamp change plan.laid two in
    subst (λ e. InsertRefusal (pages.homes held) (pages.next held) (length (pages.named held)) place.level (pages.down held) place.least c.args.entry.now.stamp e) (sym c.from.ensures) h

pub returns-in_err-change-clause-high : goal.returns-in_err-change-clause-high
returns-in_err-change-clause-high g c start shown all tree high =
    let later : c.args.place.least ≤ c.args.entry.now.stamp = not_less c.lt.result _ _ c.lt.ensures c.if-lt.false in
    let p = err_from_is_err_and c.from_residual.result c.from_residual.ensures.1 in
    c.in_err-change.ensures.high start shown all tree later (cc)

pub returns-in_err-change-clause-lacks : goal.returns-in_err-change-clause-lacks
returns-in_err-change-clause-lacks g c start shown all tree =
    let later : c.args.place.least ≤ c.args.entry.now.stamp = not_less c.lt.result _ _ c.lt.ensures c.if-lt.false in
    let h = c.in_err-change.ensures.lacks start shown all tree later in
    search rules

pub returns-in-Err-clause-high : goal.returns-in-Err-clause-high
returns-in-Err-clause-high g c start shown all tree high = absurd (page_never_high c.in-Err.refusal (let e = c.from.ensures in cc))

pub returns-in-Err-clause-lacks : goal.returns-in-Err-clause-lacks
returns-in-Err-clause-lacks g c start shown all tree =
    let same = c.from.ensures in
    let homes : g.P.Pages.homes c.planned.new.pages ≡ g.P.Pages.homes c.args.pages.now = c.in_ok-change.ensures.reads.homes in
    let never = lay_lacks_none c.in-Err.refusal _ _ _ c.in-Err.ensures.refused (omega (arith, homes, c.in_ok-change.ensures.laid.inside)) in
    subst (λ e. IsForRoom e → AtRoot (LeadsToFullLeaf shown (version_of c.args.entry.now)) c.args.place.root c.args.place.level) (sym same) (λ need. absurd (never need))

pub returns-in-Ok-clause-images : goal.returns-in-Ok-clause-images
returns-in-Ok-clause-images g c =
    let plan = c.in_ok-change.ensures in
    let images = c.in_ok-change.change.images.items in
    (pages_of images, omega (arith, length_pages_of images, plan.images), c.in-Ok.ensures.named ∙ ap (λ ns. joined ns (pages_of images)) plan.reads.named)

pub returns-in-Ok-clause-in_place : goal.returns-in-Ok-clause-in_place
returns-in-Ok-clause-in_place g c start shown all tree =
    let later : c.args.place.least ≤ c.args.entry.now.stamp = not_less c.lt.result _ _ c.lt.ensures c.if-lt.false in
    let plan = c.in_ok-change.ensures in
    let images = c.in_ok-change.change.images.items in
    elim (plan.light start shown all tree later) [
      | inl light ↦ inl (record {
        named = (pages_of images, omega (arith, length_pages_of images, light.0.few), c.in-Ok.ensures.named ∙ ap (λ ns. joined ns (pages_of images)) plan.reads.named);
        next = c.in-Ok.ensures.next ∙ light.0.unused;
        shelf = light.1;
        root = light.2;
        level = light.3;
      })
      | inr full ↦ inr full
    ]

pub returns-in_err-change-clause-burns : goal.returns-in_err-change-clause-burns
returns-in_err-change-clause-burns g c start shown all tree =
    let later : c.args.place.least ≤ c.args.entry.now.stamp = not_less c.lt.result _ _ c.lt.ensures c.if-lt.false in
    c.in_err-change.ensures.burns start shown all tree later

pub returns-in-Ok-clause-burns : goal.returns-in-Ok-clause-burns
returns-in-Ok-clause-burns g c start shown all tree =
    let later : c.args.place.least ≤ c.args.entry.now.stamp = not_less c.lt.result _ _ c.lt.ensures c.if-lt.false in
    c.in_ok-change.ensures.burns start shown all tree later

pub returns-in-Err-clause-burns : goal.returns-in-Err-clause-burns
returns-in-Err-clause-burns g c start shown all tree =
    let later : c.args.place.least ≤ c.args.entry.now.stamp = not_less c.lt.result _ _ c.lt.ensures c.if-lt.false in
    c.in_ok-change.ensures.burns start shown all tree later

pub returns-in_err-change-clause-highest : goal.returns-in_err-change-clause-highest
returns-in_err-change-clause-highest g c seven full =
    let p = err_from_is_err_and c.from_residual.result c.from_residual.ensures.1 in
    c.in_err-change.ensures.highest seven (cc)

pub returns-in-Ok-clause-grows : goal.returns-in-Ok-clause-grows
returns-in-Ok-clause-grows g c start shown all tree =
    let later : c.args.place.least ≤ c.args.entry.now.stamp = not_less c.lt.result _ _ c.lt.ensures c.if-lt.false in
    c.in_ok-change.ensures.grows start shown all tree later

pub returns-in-Ok-clause-rises : goal.returns-in-Ok-clause-rises
returns-in-Ok-clause-rises g c start shown all tree needs =
    let later : c.args.place.least ≤ c.args.entry.now.stamp = not_less c.lt.result _ _ c.lt.ensures c.if-lt.false in
    c.in_ok-change.ensures.rises start shown all tree later needs

pub returns-in-Err-clause-highest : goal.returns-in-Err-clause-highest
returns-in-Err-clause-highest g c seven full =
    let homes : g.P.Pages.homes c.planned.new.pages ≡ g.P.Pages.homes c.args.pages.now = c.in_ok-change.ensures.reads.homes in
    absurd (lay_never_full c.in-Err.refusal _ _ _ c.in-Err.ensures.refused (omega (arith, homes, c.in_ok-change.ensures.laid.inside)) (let e = c.from.ensures in cc))

pub returns-in_err-change-clause-lacks_pages : goal.returns-in_err-change-clause-lacks_pages
returns-in_err-change-clause-lacks_pages g c start shown all tree is =
    let later : c.args.place.least ≤ c.args.entry.now.stamp = not_less c.lt.result _ _ c.lt.ensures c.if-lt.false in
    let p = err_from_is_err_and c.from_residual.result c.from_residual.ensures.1 in
    c.in_err-change.ensures.lacks_pages start shown all tree later (cc)

pub returns-in_err-change-clause-once : goal.returns-in_err-change-clause-once
returns-in_err-change-clause-once g c start shown all tree refusal is =
    let later : c.args.place.least ≤ c.args.entry.now.stamp = not_less c.lt.result _ _ c.lt.ensures c.if-lt.false in
    let p = err_from_is_err_and c.from_residual.result c.from_residual.ensures.1 in
    c.in_err-change.ensures.once start shown all tree later refusal (cc)

pub returns-in-Ok-clause-uses : goal.returns-in-Ok-clause-uses
returns-in-Ok-clause-uses g c start shown all tree =
    let later : c.args.place.least ≤ c.args.entry.now.stamp = not_less c.lt.result _ _ c.lt.ensures c.if-lt.false in
    let uses = c.in_ok-change.ensures.uses start shown all tree later in
    (uses.0, uses.1, c.in-Ok.ensures.next ∙ uses.2)

pub returns-in-Err-clause-lacks_pages : goal.returns-in-Err-clause-lacks_pages
returns-in-Err-clause-lacks_pages g c start shown all tree is =
    let homes : g.P.Pages.homes c.planned.new.pages ≡ g.P.Pages.homes c.args.pages.now = c.in_ok-change.ensures.reads.homes in
    absurd (lay_never_full c.in-Err.refusal _ _ _ c.in-Err.ensures.refused (omega (arith, homes, c.in_ok-change.ensures.laid.inside)) (let e = c.from.ensures in cc))

pub returns-in-Err-clause-once : goal.returns-in-Err-clause-once
returns-in-Err-clause-once g c start shown all tree refusal is =
    absurd (page_never_once c.in-Err.refusal refusal (let e = c.from.ensures in cc))

pub returns-in_err-change-clause-one_block : goal.returns-in_err-change-clause-one_block
returns-in_err-change-clause-one_block g c start shown all tree =
    let later : c.args.place.least ≤ c.args.entry.now.stamp = not_less c.lt.result _ _ c.lt.ensures c.if-lt.false in
    c.in_err-change.ensures.one_block start shown all tree later

pub returns-in-Ok-clause-one_block : goal.returns-in-Ok-clause-one_block
returns-in-Ok-clause-one_block g c start shown all tree =
    let later : c.args.place.least ≤ c.args.entry.now.stamp = not_less c.lt.result _ _ c.lt.ensures c.if-lt.false in
    c.in_ok-change.ensures.one_block start shown all tree later

pub returns-in-Err-clause-one_block : goal.returns-in-Err-clause-one_block
returns-in-Err-clause-one_block g c start shown all tree =
    let later : c.args.place.least ≤ c.args.entry.now.stamp = not_less c.lt.result _ _ c.lt.ensures c.if-lt.false in
    c.in_ok-change.ensures.one_block start shown all tree later

pub returns-then-lt-clause-one_block : goal.returns-then-lt-clause-one_block
returns-then-lt-clause-one_block g c start shown all tree = inl (spends_none g.O.OnceDisk c.args.shelf.now)

pub returns-in-Ok-clause-none_left : goal.returns-in-Ok-clause-none_left
returns-in-Ok-clause-none_left g c start shown all tree none leads =
    let later : c.args.place.least ≤ c.args.entry.now.stamp = not_less c.lt.result _ _ c.lt.ensures c.if-lt.false in
    absurd (false≢true (c.in_ok-change.ensures.none_left start shown all tree later none leads))

-- ---- images for which there is no room

pub returns-in_err-change-clause-crowded : goal.returns-in_err-change-clause-crowded
returns-in_err-change-clause-crowded g c start shown all tree less is =
    let later : c.args.place.least ≤ c.args.entry.now.stamp = not_less c.lt.result _ _ c.lt.ensures c.if-lt.false in
    let p = err_from_is_err_and c.from_residual.result c.from_residual.ensures.1 in
    c.in_err-change.ensures.crowded start shown all tree later (cc)

pub returns-in-Err-clause-crowded : goal.returns-in-Err-clause-crowded
returns-in-Err-clause-crowded g c start shown all tree less is =
    let plan = c.in_ok-change.ensures in
    let images = c.in_ok-change.change.images.items in
    let held = c.images.ensures in
    let named = ap length plan.reads.named in
    let few = length_pages_of images in
    let most = plan.laid.few in
    absurd (never_crowded c.in-Err.refusal _ _ c.has_room-may_split.result (g.P.Pages.named c.planned.new.pages) (pages_of images) c.args.place.level c.in-Err.ensures.refused
    (λ room. let fits = c.has_room-may_split.ensures.room room in omega (arith, fits, held, named)) (λ none. let one = (plan.alone none).0.few in omega (arith, one, few)) (omega (arith, most, few)) (omega (arith, less, named))
    (let e = c.from.ensures in cc))

pub returns-in-Ok-clause-fits : goal.returns-in-Ok-clause-fits
returns-in-Ok-clause-fits g c less =
    let plan = c.in_ok-change.ensures in
    let images = c.in_ok-change.change.images.items in
    let held = c.images.ensures in
    let few = length_pages_of images in
    let most = plan.laid.few in
    let fit = images_fit c.has_room-may_split.result (g.P.Pages.named c.args.pages.now) (pages_of images) c.args.place.level
    (λ room. let fits = c.has_room-may_split.ensures.room room in omega (arith, fits, held)) (λ none. let one = (plan.alone none).0.few in omega (arith, one, few)) (omega (arith, most, few)) less in
    let is = ap length (c.in-Ok.ensures.named ∙ ap (λ ns. joined ns (pages_of images)) plan.reads.named) in
    omega (arith, fit, is)
