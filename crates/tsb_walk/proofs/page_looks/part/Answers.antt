use Rattle.std.proofs.Common.{rules, ◌≡◌, ◌<◌, Err, arith}
use Rattle.version_model.specs.Ranges.{stamp_end}
use Rattle.tsb_walk.specs.declared.error.NodeError.TheVariants.{BadNode}
use Rattle.tsb_walk.proofs.PageWalking.{bad_here}
use Rattle.tsb_walk.proofs.PageRepresenting.{parted_here, goes_on_here, below_here, none_bad}
use Rattle.tsb_walk.proofs.page_looks.part.Goals as goal

pub returns-in_err-at-clause-blames : goal.returns-in_err-at-clause-blames
returns-in_err-at-clause-blames g c = λ start shown shows s all st page e.
    let d : c.column_at.result ≡ Err (BadNode page) = search rules in
    none_bad shown s all c.args.root.now c.args.key c.args.from page (c.column_at.ensures.bad start shown shows page d) st

pub returns-in_err-answer-in-InLeaf-clause-bad : goal.returns-in_err-answer-in-InLeaf-clause-bad
returns-in_err-answer-in-InLeaf-clause-bad g c = λ start shown shows page e.
    let d : c.part_here.result ≡ Err (BadNode page) = search rules in
    let b = c.part_here.ensures.bad start shown (c.column_at.ensures.same.shown start shown shows) page d in
    bad_here shown c.args.root.now c.args.key c.args.from c.in_ok-at.at (c.in_ok-at.ensures.there start shown shows) c.in-InLeaf.current page c.in-InLeaf.is b.0 b.1

pub returns-in_err-answer-in-InLeaf-clause-blames : goal.returns-in_err-answer-in-InLeaf-clause-blames
returns-in_err-answer-in-InLeaf-clause-blames g c = λ start shown shows s all st page e.
    let d : c.part_here.result ≡ Err (BadNode page) = search rules in
    let b = c.part_here.ensures.bad start shown (c.column_at.ensures.same.shown start shown shows) page d in
    let bad = bad_here shown c.args.root.now c.args.key c.args.from c.in_ok-at.at (c.in_ok-at.ensures.there start shown shows) c.in-InLeaf.current page c.in-InLeaf.is b.0 b.1 in
    none_bad shown s all c.args.root.now c.args.key c.args.from page bad st

pub returns-in_ok-answer-in-InLeaf-clause-part : goal.returns-in_ok-answer-in-InLeaf-clause-part
returns-in_ok-answer-in-InLeaf-clause-part g c = λ start shown shows s all rising st.
    let fits : c.args.from < stamp_end = omega (arith, c.stamp_fits.ensures.fits) in
    parted_here shown s all c.args.root.now c.args.key c.args.from c.in_ok-at.at (c.in_ok-at.ensures.there start shown shows) st c.in-InLeaf.current c.in-InLeaf.is fits rising c.in_ok-answer-in-InLeaf.answer
    (λ versions represents_node. c.in_ok-answer-in-InLeaf.ensures.part start shown (c.column_at.ensures.same.shown start shown shows) versions represents_node) c.in_ok-answer-in-InLeaf.ensures.reported

pub returns-in-InPast-clause-part : goal.returns-in-InPast-clause-part
returns-in-InPast-clause-part g c = λ start shown shows s all rising st.
    goes_on_here shown s all c.args.root.now c.args.key c.args.from c.in_ok-at.at (c.in_ok-at.ensures.there start shown shows) st c.in-InPast.place c.in-InPast.is

pub returns-in-InPast-clause-below : goal.returns-in-InPast-clause-below
returns-in-InPast-clause-below g c = λ start shown shows s all st.
    below_here shown s all c.args.root.now c.args.key c.args.from c.in_ok-at.at (c.in_ok-at.ensures.there start shown shows) st c.in-InPast.place c.in-InPast.is
