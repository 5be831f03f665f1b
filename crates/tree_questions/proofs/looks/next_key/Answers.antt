use Rattle.std.proofs.Common.{rules, IfErr, subst}
use Rattle.tsb_walk.specs.Looked.{IsLooked}
use Rattle.route_history.specs.Blame.{BlamesNone}
use Rattle.tree_questions.proofs.Reading.{has_key, reads_pages, reads_block, place_known, page_blames, block_blames}
use Rattle.tree_questions.proofs.looks.next_key.Goals as goal

pub next_named-requires-clause-has : goal.next_named-requires-clause-has
next_named-requires-clause-has g c = has_key c.args.root.now c.args.from c.requires.all c.key_fits.ensures.fits

pub returns-in-Here-clause-next : goal.returns-in-Here-clause-next
returns-in-Here-clause-next g c = λ all r.
    subst (IsLooked r.store.blocks all c.args.from c.args.stamp) c.in-Here.is (c.in_ok-reached.ensures.next r.start r.shown r.shows r.store all r.represents_all)

pub returns-in-Here-clause-stays : goal.returns-in-Here-clause-stays
returns-in-Here-clause-stays g c = λ all r.
    reads_pages g.P.Pages g.O.OnceDisk c.args.root.now c.args.burnt all c.args.pages.now c.next_named.new.pages c.args.reader.now c.args.seen.now c.next_named.ensures.same.shown r

pub returns-in_err-reached-clause-stays : goal.returns-in_err-reached-clause-stays
returns-in_err-reached-clause-stays g c = λ all r.
    reads_pages g.P.Pages g.O.OnceDisk c.args.root.now c.args.burnt all c.args.pages.now c.next_named.new.pages c.args.reader.now c.args.seen.now c.next_named.ensures.same.shown r

pub returns-in_ok-reached-in-InBlock-clause-next : goal.returns-in_ok-reached-in-InBlock-clause-next
returns-in_ok-reached-in-InBlock-clause-next g c = λ all r.
    let goes = subst (IsLooked r.store.blocks all c.args.from c.args.stamp) c.in-InBlock.is (c.in_ok-reached.ensures.next r.start r.shown r.shows r.store all r.represents_all) in
    let known = place_known g.P.Pages g.O.OnceDisk c.args.root.now c.args.burnt all c.args.pages.now c.args.reader.now c.args.seen.now r c.args.from c.args.stamp c.in-InBlock.place goes in
    c.in_ok-reached-in-InBlock.ensures.next all known

pub returns-in_ok-reached-in-InBlock-clause-stays : goal.returns-in_ok-reached-in-InBlock-clause-stays
returns-in_ok-reached-in-InBlock-clause-stays g c = λ all r.
    let goes = subst (IsLooked r.store.blocks all c.args.from c.args.stamp) c.in-InBlock.is (c.in_ok-reached.ensures.next r.start r.shown r.shows r.store all r.represents_all) in
    let known = place_known g.P.Pages g.O.OnceDisk c.args.root.now c.args.burnt all c.args.pages.now c.args.reader.now c.args.seen.now r c.args.from c.args.stamp c.in-InBlock.place goes in
    reads_block g.P.Pages g.O.OnceDisk c.args.root.now c.args.burnt all c.args.pages.now c.next_named.new.pages c.args.reader.now c.hist_next.new.reader c.args.seen.now c.hist_next.new.seen c.next_named.ensures.same.shown r
    (c.hist_next.ensures.reads all known) (c.hist_next.ensures.same r.well.honest) c.hist_next.ensures.disk

pub returns-in_err-reached-in-InBlock-clause-stays : goal.returns-in_err-reached-in-InBlock-clause-stays
returns-in_err-reached-in-InBlock-clause-stays g c = λ all r.
    let goes = subst (IsLooked r.store.blocks all c.args.from c.args.stamp) c.in-InBlock.is (c.in_ok-reached.ensures.next r.start r.shown r.shows r.store all r.represents_all) in
    let known = place_known g.P.Pages g.O.OnceDisk c.args.root.now c.args.burnt all c.args.pages.now c.args.reader.now c.args.seen.now r c.args.from c.args.stamp c.in-InBlock.place goes in
    reads_block g.P.Pages g.O.OnceDisk c.args.root.now c.args.burnt all c.args.pages.now c.next_named.new.pages c.args.reader.now c.hist_next.new.reader c.args.seen.now c.hist_next.new.seen c.next_named.ensures.same.shown r
    (c.hist_next.ensures.reads all known) (c.hist_next.ensures.same r.well.honest) c.hist_next.ensures.disk

pub returns-in_err-reached-clause-blames : goal.returns-in_err-reached-clause-blames
returns-in_err-reached-clause-blames g c = λ all r.
    let b : IfErr c.next_named.result BlamesNone = page_blames c.next_named.result _ c.next_named.ensures.refused (c.next_named.ensures.blames r.start r.shown r.shows r.store all r.represents_all r.named) in
    search (rules, b)

pub returns-in_err-reached-in-InBlock-clause-blames : goal.returns-in_err-reached-in-InBlock-clause-blames
returns-in_err-reached-in-InBlock-clause-blames g c = λ all r.
    let goes = subst (IsLooked r.store.blocks all c.args.from c.args.stamp) c.in-InBlock.is (c.in_ok-reached.ensures.next r.start r.shown r.shows r.store all r.represents_all) in
    let known = place_known g.P.Pages g.O.OnceDisk c.args.root.now c.args.burnt all c.args.pages.now c.args.reader.now c.args.seen.now r c.args.from c.args.stamp c.in-InBlock.place goes in
    let b = block_blames c.hist_next.result (c.hist_next.ensures.never all known) in
    search (rules, b)
