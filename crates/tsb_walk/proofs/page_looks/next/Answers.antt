use Rattle.std.proofs.Common.{rules, ◌≡◌, ◌<◌, Err, arith}
use Rattle.version_model.specs.Ranges.{stamp_end}
use Rattle.tsb_walk.specs.declared.error.NodeError.TheVariants.{BadNode}
use Rattle.tsb_walk.proofs.PageWalking.{bad_here}
use Rattle.tsb_walk.proofs.PageRepresenting.{looked_here, goes_on_here, below_here, none_bad}
use Rattle.tsb_walk.proofs.page_looks.next.Goals as goal

pub returns-in_err-at-clause-blames : goal.returns-in_err-at-clause-blames
returns-in_err-at-clause-blames g c = λ start shown shows s all st page e.
    let d : c.column_at.result ≡ Err (BadNode page) = search rules in
    none_bad shown s all c.args.root.now c.args.from c.args.stamp page (c.column_at.ensures.bad start shown shows page d) st

pub returns-in_err-answer-in-InLeaf-clause-bad : goal.returns-in_err-answer-in-InLeaf-clause-bad
returns-in_err-answer-in-InLeaf-clause-bad g c = λ start shown shows page e.
    let d : c.next_here.result ≡ Err (BadNode page) = search rules in
    let b = c.next_here.ensures.bad start shown (c.column_at.ensures.same.shown start shown shows) page d in
    bad_here shown c.args.root.now c.args.from c.args.stamp c.in_ok-at.at (c.in_ok-at.ensures.there start shown shows) c.in-InLeaf.current page c.in-InLeaf.is b.0 b.1

pub returns-in_err-answer-in-InLeaf-clause-blames : goal.returns-in_err-answer-in-InLeaf-clause-blames
returns-in_err-answer-in-InLeaf-clause-blames g c = λ start shown shows s all st page e.
    let d : c.next_here.result ≡ Err (BadNode page) = search rules in
    let b = c.next_here.ensures.bad start shown (c.column_at.ensures.same.shown start shown shows) page d in
    let bad = bad_here shown c.args.root.now c.args.from c.args.stamp c.in_ok-at.at (c.in_ok-at.ensures.there start shown shows) c.in-InLeaf.current page c.in-InLeaf.is b.0 b.1 in
    none_bad shown s all c.args.root.now c.args.from c.args.stamp page bad st

pub returns-in_ok-answer-in-InLeaf-clause-next : goal.returns-in_ok-answer-in-InLeaf-clause-next
returns-in_ok-answer-in-InLeaf-clause-next g c = λ start shown shows s all st.
    let fits : c.args.stamp < stamp_end = omega (arith, c.stamp_fits.ensures.fits) in
    looked_here shown s all c.args.root.now c.args.from c.args.stamp c.in_ok-at.at (c.in_ok-at.ensures.there start shown shows) st c.in-InLeaf.current c.in-InLeaf.is fits c.in_ok-answer-in-InLeaf.answer
    (λ versions represents_node. c.in_ok-answer-in-InLeaf.ensures.reached start shown (c.column_at.ensures.same.shown start shown shows) versions represents_node) c.in_ok-answer-in-InLeaf.ensures.border

pub returns-in-InPast-clause-next : goal.returns-in-InPast-clause-next
returns-in-InPast-clause-next g c = λ start shown shows s all st.
    goes_on_here shown s all c.args.root.now c.args.from c.args.stamp c.in_ok-at.at (c.in_ok-at.ensures.there start shown shows) st c.in-InPast.place c.in-InPast.is

pub returns-in-InPast-clause-below : goal.returns-in-InPast-clause-below
returns-in-InPast-clause-below g c = λ start shown shows s all st.
    below_here shown s all c.args.root.now c.args.from c.args.stamp c.in_ok-at.at (c.in_ok-at.ensures.there start shown shows) st c.in-InPast.place c.in-InPast.is
