use Rattle.std.proofs.Common.{rules, ◌≡◌, ◌∙◌, ℕ, inl, inr, Err, ap, subst, min}
use Rattle.once_store.specs.Readers.{reader_disk}
use Rattle.tsb_walk.specs.declared.error.NodeError.TheVariants.{BadNode, Damaged}
use Rattle.tsb_walk.specs.Refusals.{of_block}
use Rattle.tsb_walk.proofs.Gathering.{of_damaged}
use Rattle.tsb_check.specs.inner.Columns.{IsColumnAt}
use Rattle.tsb_check.proofs.Columns.{reports_column, damaged_in, reads_in}
use Rattle.tsb_check.proofs.column.count_column.Goals as goal

pub returns-clause-checked : goal.returns-clause-checked
returns-clause-checked g c = λ start shown shows well.
    reports_column shown (g.O.OnceDisk.known c.args.seen.now) (g.O.OnceDisk.block_count (reader_disk c.args.reader.now)) c.args.place.now c.in_ok-decoded.decoded c.in_ok-decoded.current c.in_ok-past.past c.saturating_add.result
    (c.in_ok-decoded.ensures.represents_node start shown shows) c.saturating_add.ensures (c.in_ok-past.ensures.checked well)

pub returns-in_err-past-clause-damaged : goal.returns-in_err-past-clause-damaged
returns-in_err-past-clause-damaged g c = λ start shown shows well block e.
    let h : of_block c.in_err-past.field-0.0 ≡ Damaged block = search rules in
    damaged_in shown (g.O.OnceDisk.known c.args.seen.now) (g.O.OnceDisk.block_count (reader_disk c.args.reader.now)) c.args.place.now c.in_ok-decoded.decoded c.in_ok-decoded.current block (c.in_ok-decoded.ensures.represents_node start shown shows)
    (c.in_err-past.ensures.damaged well block (ap Err (of_damaged c.in_err-past.field-0.0 block h)))

pub returns-in_err-past-clause-reads : goal.returns-in_err-past-clause-reads
returns-in_err-past-clause-reads g c = λ start shown shows well.
    reads_in shown (g.O.OnceDisk.known c.args.seen.now) (g.O.OnceDisk.block_count (reader_disk c.args.reader.now)) c.args.place.now c.in_ok-decoded.decoded c.in_ok-decoded.current _ (c.in_ok-decoded.ensures.represents_node start shown shows) (c.count_before.ensures.reads well)

pub returns-clause-reads : goal.returns-clause-reads
returns-clause-reads g c = λ start shown shows well.
    reads_in shown (g.O.OnceDisk.known c.args.seen.now) (g.O.OnceDisk.block_count (reader_disk c.args.reader.now)) c.args.place.now c.in_ok-decoded.decoded c.in_ok-decoded.current _ (c.in_ok-decoded.ensures.represents_node start shown shows) (c.count_before.ensures.reads well)

pub returns-in_err-check_column-clause-bad : goal.returns-in_err-check_column-clause-bad
returns-in_err-check_column-clause-bad g c = λ start shown shows page e.
    let d : c.check_column.result ≡ Err (BadNode page) = search rules in
    let decoded = c.in_ok-decoded.decoded in
    let column : IsColumnAt shown c.args.place.now = record { parts = decoded.parts.items; start = decoded.current.start; current = decoded.current.page; represents_node = (c.in_ok-decoded.ensures.represents_node start shown shows).represents_node } in
    inr (record { column = column; unused = c.check_column.ensures.bad page d })

pub returns-clause-used : goal.returns-clause-used
returns-clause-used g c = λ start shown shows.
    let decoded = c.in_ok-decoded.decoded in
    let column : IsColumnAt shown c.args.place.now = record { parts = decoded.parts.items; start = decoded.current.start; current = decoded.current.page; represents_node = (c.in_ok-decoded.ensures.represents_node start shown shows).represents_node } in
    record { column = column; used = c.in_ok-check_column.ensures.used }
