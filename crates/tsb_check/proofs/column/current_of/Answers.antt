use Rattle.std.proofs.Common.{rules, ◌≡◌, ◌∙◌, Err, refl, sym, subst}
use Rattle.tsb_walk.specs.declared.error.NodeError.TheVariants.{BadNode, Fault}
use Rattle.tsb_walk.specs.PageWays.{IsNoLeaf}
use Rattle.tsb_walk.proofs.Untouched.{reads_then, reads_as}
use Rattle.tsb_check.specs.inner.Columns.{IsColumnAt, IsBadColumn, bad_column, bad_leaf}
use Rattle.tsb_check.proofs.column.current_of.Goals as goal

pub returns-in_err-decoded-clause-bad : goal.returns-in_err-decoded-clause-bad
returns-in_err-decoded-clause-bad g c = λ start shown shows page e.
    let d : c.column_at.result ≡ Err (BadNode page) = search rules in
    let b = c.column_at.ensures.bad start shown shows page d in
    subst (IsBadColumn shown c.args.place.now) b.0 (bad_column b.1)

pub returns-in_err-current-clause-bad : goal.returns-in_err-current-clause-bad
returns-in_err-current-clause-bad g c = λ start shown shows page e.
    let d : c.count_current.result ≡ Err (BadNode page) = search rules in
    let decoded = c.in_ok-decoded.decoded in
    let b = c.count_current.ensures.bad start shown (c.in_ok-decoded.ensures.same.shown start shown shows) page d in
    let column : IsColumnAt shown c.args.place.now = record { parts = decoded.parts.items; start = decoded.current.start; current = decoded.current.page; represents_node = c.in_ok-decoded.ensures.represents_node start shown shows } in
    subst (IsBadColumn shown c.args.place.now) b.0 (bad_leaf column (subst (IsNoLeaf shown c.args.place.now decoded.current.start) (sym b.0) b.1))

pub returns-in_err-current-clause-pages : goal.returns-in_err-current-clause-pages
returns-in_err-current-clause-pages g c =
    reads_then g.P.Pages c.args.pages.now c.column_at.new.pages c.count_current.new.pages _ _ c.in_ok-decoded.ensures.same (λ e. absurd (cc)) (reads_as g.P.Pages c.column_at.new.pages c.count_current.new.pages _ _ c.count_current.ensures.same (λ e. search rules) (λ e. search rules))

pub returns-clause-pages : goal.returns-clause-pages
returns-clause-pages g c =
    reads_then g.P.Pages c.args.pages.now c.column_at.new.pages c.count_current.new.pages _ _ c.in_ok-decoded.ensures.same (λ e. absurd (cc)) (reads_as g.P.Pages c.column_at.new.pages c.count_current.new.pages _ _ c.in_ok-current.ensures.same (λ e. absurd (cc)) (λ e. absurd (cc)))

pub returns-clause-represents_node : goal.returns-clause-represents_node
returns-clause-represents_node g c = λ start shown shows.
    let leaf = c.in_ok-current.ensures.counts start shown (c.in_ok-decoded.ensures.same.shown start shown shows) in
    record { represents_node = c.in_ok-decoded.ensures.represents_node start shown shows; versions = leaf.0; leaf = leaf.1; is = leaf.2 }
