use Rattle.std.proofs.Common.{◌≡◌, ◌++◌, ap, ◌∙◌, sym, subst, map, List}
use Rattle.route_meaning.specs.declared.question.Row.{Row}
use Rattle.route_meaning.specs.Rows.{AreRows}
use Rattle.route_meaning.specs.inner.Replay.{row_at}
use Rattle.route_meaning.proofs.Spots.{ordered_as}
use Rattle.route_meaning.proofs.Answering.{answered}
use Rattle.route_meaning.proofs.replay.rows_in.Goals as goal

pub returns : goal.returns
returns c =
    let table = c.in_ok-table.table in
    let rows = c.in_ok-put_rows.ensures ∙ ap (λ l. l ++ map (λ e. row_at e.0 e.1) table.entries) c.in_ok-rows.ensures.items in
    record {
      rows =
          subst (λ (rows : List Row). AreRows c.args.list.now c.args.moment c.args.range.now.select c.args.range.now.low c.args.range.now.high rows) (sym rows)
          (answered c.args.list.now c.args.moment c.args.range.now table c.in_ok-table.ensures (ordered_as table c.len.ensures.ordered));
    }
