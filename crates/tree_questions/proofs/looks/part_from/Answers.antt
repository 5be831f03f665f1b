use Rattle.std.proofs.Common.{rules, IfErr, subst}
use Rattle.tsb_walk.specs.Looked.{IsParted}
use Rattle.route_history.specs.Blame.{BlamesNone}
use Rattle.tree_questions.proofs.Reading.{has_key, reads_pages, reads_block, place_known, page_blames, block_blames}
use Rattle.tree_questions.proofs.looks.part_from.Goals as goal

pub part_named-requires-clause-has : goal.part_named-requires-clause-has
part_named-requires-clause-has g c = has_key c.args.root.now c.args.key c.requires.all c.key_fits.ensures.fits

pub returns-in-Here-clause-part : goal.returns-in-Here-clause-part
returns-in-Here-clause-part g c = λ all r.
    subst (IsParted r.store.blocks all c.args.key c.args.from) c.in-Here.is (c.in_ok-part.ensures.part r.start r.shown r.shows r.store all r.rising r.represents_all)

pub returns-in-Here-clause-stays : goal.returns-in-Here-clause-stays
returns-in-Here-clause-stays g c = λ all r.
    reads_pages g.P.Pages g.O.OnceDisk c.args.root.now c.args.burnt all c.args.pages.now c.part_named.new.pages c.args.reader.now c.args.seen.now c.part_named.ensures.same.shown r

pub returns-in_err-part-clause-stays : goal.returns-in_err-part-clause-stays
returns-in_err-part-clause-stays g c = λ all r.
    reads_pages g.P.Pages g.O.OnceDisk c.args.root.now c.args.burnt all c.args.pages.now c.part_named.new.pages c.args.reader.now c.args.seen.now c.part_named.ensures.same.shown r

pub returns-in_ok-part-in-InBlock-clause-part : goal.returns-in_ok-part-in-InBlock-clause-part
returns-in_ok-part-in-InBlock-clause-part g c = λ all r.
    let goes = subst (IsParted r.store.blocks all c.args.key c.args.from) c.in-InBlock.is (c.in_ok-part.ensures.part r.start r.shown r.shows r.store all r.rising r.represents_all) in
    let known = place_known g.P.Pages g.O.OnceDisk c.args.root.now c.args.burnt all c.args.pages.now c.args.reader.now c.args.seen.now r c.args.key c.args.from c.in-InBlock.place goes in
    c.in_ok-part-in-InBlock.ensures.part all r.rising known

pub returns-in_ok-part-in-InBlock-clause-stays : goal.returns-in_ok-part-in-InBlock-clause-stays
returns-in_ok-part-in-InBlock-clause-stays g c = λ all r.
    let goes = subst (IsParted r.store.blocks all c.args.key c.args.from) c.in-InBlock.is (c.in_ok-part.ensures.part r.start r.shown r.shows r.store all r.rising r.represents_all) in
    let known = place_known g.P.Pages g.O.OnceDisk c.args.root.now c.args.burnt all c.args.pages.now c.args.reader.now c.args.seen.now r c.args.key c.args.from c.in-InBlock.place goes in
    reads_block g.P.Pages g.O.OnceDisk c.args.root.now c.args.burnt all c.args.pages.now c.part_named.new.pages c.args.reader.now c.hist_part.new.reader c.args.seen.now c.hist_part.new.seen c.part_named.ensures.same.shown r
    (c.hist_part.ensures.reads all known) (c.hist_part.ensures.same r.well.honest) c.hist_part.ensures.disk

pub returns-in_err-part-in-InBlock-clause-stays : goal.returns-in_err-part-in-InBlock-clause-stays
returns-in_err-part-in-InBlock-clause-stays g c = λ all r.
    let goes = subst (IsParted r.store.blocks all c.args.key c.args.from) c.in-InBlock.is (c.in_ok-part.ensures.part r.start r.shown r.shows r.store all r.rising r.represents_all) in
    let known = place_known g.P.Pages g.O.OnceDisk c.args.root.now c.args.burnt all c.args.pages.now c.args.reader.now c.args.seen.now r c.args.key c.args.from c.in-InBlock.place goes in
    reads_block g.P.Pages g.O.OnceDisk c.args.root.now c.args.burnt all c.args.pages.now c.part_named.new.pages c.args.reader.now c.hist_part.new.reader c.args.seen.now c.hist_part.new.seen c.part_named.ensures.same.shown r
    (c.hist_part.ensures.reads all known) (c.hist_part.ensures.same r.well.honest) c.hist_part.ensures.disk

pub returns-in_err-part-clause-blames : goal.returns-in_err-part-clause-blames
returns-in_err-part-clause-blames g c = λ all r.
    let b : IfErr c.part_named.result BlamesNone = page_blames c.part_named.result _ c.part_named.ensures.refused (c.part_named.ensures.blames r.start r.shown r.shows r.store all r.represents_all r.named) in
    search (rules, b)

pub returns-in_err-part-in-InBlock-clause-blames : goal.returns-in_err-part-in-InBlock-clause-blames
returns-in_err-part-in-InBlock-clause-blames g c = λ all r.
    let goes = subst (IsParted r.store.blocks all c.args.key c.args.from) c.in-InBlock.is (c.in_ok-part.ensures.part r.start r.shown r.shows r.store all r.rising r.represents_all) in
    let known = place_known g.P.Pages g.O.OnceDisk c.args.root.now c.args.burnt all c.args.pages.now c.args.reader.now c.args.seen.now r c.args.key c.args.from c.in-InBlock.place goes in
    let b = block_blames c.hist_part.result (c.hist_part.ensures.never all known) in
    search (rules, b)
