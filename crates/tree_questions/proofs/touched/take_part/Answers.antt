use Rattle.std.proofs.Common.{rules, ◌<◌, IfErr, subst, arith}
use Rattle.version_model.specs.Ranges.{stamp_end}
use Rattle.tsb_walk.specs.inner.ColumnSpots.{IsSpotAt}
use Rattle.tsb_walk.proofs.PageRepresenting.{goes_on_here}
use Rattle.tsb_runs.proofs.Representing.{leaf_shown}
use Rattle.route_history.specs.Blame.{BlamesNone}
use Rattle.tree_questions.proofs.Reading.{block_blames, page_blames, place_known, reads_block, walk_blames}
use Rattle.tree_questions.proofs.touched.take_part.Goals as goal

pub returns-in_err-at-clause-blames : goal.returns-in_err-at-clause-blames
returns-in_err-at-clause-blames g c = λ all r.
    let b : IfErr c.column_named.result BlamesNone = walk_blames c.column_named.result _ c.column_named.ensures.refused (λ page e. c.column_named.ensures.blames r.start r.shown r.shows r.store all r.represents_all r.named page e) in
    search (rules, b)

pub returns-in_err-take_current-in-InLeaf-clause-blames : goal.returns-in_err-take_current-in-InLeaf-clause-blames
returns-in_err-take_current-in-InLeaf-clause-blames g c = λ all r.
    let there = c.in_ok-at.ensures.there r.start r.shown r.shows in
    let fits : c.args.gathering.now.at < stamp_end = omega (arith, c.stamp_fits.ensures.fits) in
    let l = leaf_shown r.shown r.store all c.args.root.now c.in_ok-at.at.column c.args.gathering.now.from c.args.gathering.now.at there.comes r.represents_all c.in-InLeaf.leaf (subst (IsSpotAt r.shown c.in_ok-at.at.column c.args.gathering.now.from c.args.gathering.now.at) c.in-InLeaf.is there.spot) fits in
    let b : IfErr c.take_current.result BlamesNone = page_blames c.take_current.result _ c.take_current.ensures.refused (λ page e. c.take_current.ensures.bad r.start r.shown (c.column_named.ensures.same.shown r.start r.shown r.shows) page e l.versions l.represents_node) in
    search (rules, b)

pub returns-in_ok-take_current-in-InLeaf-clause-gathered : goal.returns-in_ok-take_current-in-InLeaf-clause-gathered
returns-in_ok-take_current-in-InLeaf-clause-gathered g c = λ all first r begun onward so.
    let there = c.in_ok-at.ensures.there r.start r.shown r.shows in
    let fits : c.args.gathering.now.at < stamp_end = omega (arith, c.stamp_fits.ensures.fits) in
    let l = leaf_shown r.shown r.store all c.args.root.now c.in_ok-at.at.column c.args.gathering.now.from c.args.gathering.now.at there.comes r.represents_all c.in-InLeaf.leaf (subst (IsSpotAt r.shown c.in_ok-at.at.column c.args.gathering.now.from c.args.gathering.now.at) c.in-InLeaf.is there.spot) fits in
    c.in_ok-take_current-in-InLeaf.ensures.gathered r.start r.shown (c.column_named.ensures.same.shown r.start r.shown r.shows) all l.versions first l.represents_node l.shows l.point begun onward so

pub returns-in_err-take_past-in-InPast-clause-stays : goal.returns-in_err-take_past-in-InPast-clause-stays
returns-in_err-take_past-in-InPast-clause-stays g c = λ all r.
    let there = c.in_ok-at.ensures.there r.start r.shown r.shows in
    let goes = goes_on_here r.shown r.store all c.args.root.now c.args.gathering.now.from c.args.gathering.now.at c.in_ok-at.at there r.represents_all c.in-InPast.place c.in-InPast.is in
    let known = place_known g.P.Pages g.O.OnceDisk c.args.root.now c.args.burnt all c.args.pages.now c.args.reader.now c.args.seen.now r c.args.gathering.now.from c.args.gathering.now.at c.in-InPast.place goes in
    reads_block g.P.Pages g.O.OnceDisk c.args.root.now c.args.burnt all c.args.pages.now c.column_named.new.pages c.args.reader.now c.take_past.new.reader c.args.seen.now c.take_past.new.seen c.column_named.ensures.same.shown r
    (c.take_past.ensures.reads all known) (c.take_past.ensures.known r.well.honest) c.take_past.ensures.disk

pub returns-in_ok-take_past-in-InPast-clause-stays : goal.returns-in_ok-take_past-in-InPast-clause-stays
returns-in_ok-take_past-in-InPast-clause-stays g c = λ all r.
    let there = c.in_ok-at.ensures.there r.start r.shown r.shows in
    let goes = goes_on_here r.shown r.store all c.args.root.now c.args.gathering.now.from c.args.gathering.now.at c.in_ok-at.at there r.represents_all c.in-InPast.place c.in-InPast.is in
    let known = place_known g.P.Pages g.O.OnceDisk c.args.root.now c.args.burnt all c.args.pages.now c.args.reader.now c.args.seen.now r c.args.gathering.now.from c.args.gathering.now.at c.in-InPast.place goes in
    reads_block g.P.Pages g.O.OnceDisk c.args.root.now c.args.burnt all c.args.pages.now c.column_named.new.pages c.args.reader.now c.take_past.new.reader c.args.seen.now c.take_past.new.seen c.column_named.ensures.same.shown r
    (c.take_past.ensures.reads all known) (c.take_past.ensures.known r.well.honest) c.take_past.ensures.disk

pub returns-in_err-take_past-in-InPast-clause-blames : goal.returns-in_err-take_past-in-InPast-clause-blames
returns-in_err-take_past-in-InPast-clause-blames g c = λ all r.
    let there = c.in_ok-at.ensures.there r.start r.shown r.shows in
    let goes = goes_on_here r.shown r.store all c.args.root.now c.args.gathering.now.from c.args.gathering.now.at c.in_ok-at.at there r.represents_all c.in-InPast.place c.in-InPast.is in
    let known = place_known g.P.Pages g.O.OnceDisk c.args.root.now c.args.burnt all c.args.pages.now c.args.reader.now c.args.seen.now r c.args.gathering.now.from c.args.gathering.now.at c.in-InPast.place goes in
    let b = block_blames c.take_past.result (c.take_past.ensures.never all known) in
    search (rules, b)

pub returns-in_ok-take_past-in-InPast-clause-gathered : goal.returns-in_ok-take_past-in-InPast-clause-gathered
returns-in_ok-take_past-in-InPast-clause-gathered g c = λ all first r begun onward so.
    let there = c.in_ok-at.ensures.there r.start r.shown r.shows in
    let goes = goes_on_here r.shown r.store all c.args.root.now c.args.gathering.now.from c.args.gathering.now.at c.in_ok-at.at there r.represents_all c.in-InPast.place c.in-InPast.is in
    let known = place_known g.P.Pages g.O.OnceDisk c.args.root.now c.args.burnt all c.args.pages.now c.args.reader.now c.args.seen.now r c.args.gathering.now.from c.args.gathering.now.at c.in-InPast.place goes in
    c.in_ok-take_past-in-InPast.ensures.gathered all first known begun onward so
