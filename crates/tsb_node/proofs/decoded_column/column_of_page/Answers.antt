use Rattle.std.proofs.Common.{◌∙◌, ap}
use Rattle.std.specs.Option.{option_map}
use Rattle.route_model.specs.Units.{moments_in}
use Rattle.tsb_node.specs.Scaling.{scaled}
use Rattle.tsb_node.specs.Columns.{ColumnInPage, IsColumnPage}
use Rattle.tsb_node.specs.Decoded.{decoded_column}
use Rattle.tsb_node.specs.inner.InMoments.{IsColumnFrom}
use Rattle.tsb_node.proofs.Refusals.{refusal_along}
use Rattle.tsb_node.proofs.NodeLaws.{nodes_same, page_begins}
use Rattle.tsb_node.proofs.ColumnReading.{column_made, column_back, column_page_node, column_header, column_entries}
use Rattle.tsb_node.proofs.MomentLaws.{known_at}
use Rattle.tsb_node.proofs.decoded_column.column_of_page.Goals as goal

pub returns-in_default : goal.returns-in_default
returns-in_default c = record { column = λ column is. absurd (c.in_default.ensures.none (column_header is.page.unit is.as_written) (column_entries is.as_written) (column_page_node is.as_written c.args.page.now is.page)) }

pub returns-then-not-is_known : goal.returns-then-not-is_known
returns-then-not-is_known c = record {
  column = λ column is.
      (let page = c.args.page.now in
      let begun = page_begins _ _ page (column_page_node is.as_written page is.page) in
      let unit = (nodes_same _ c.in-Some.header _ c.in-Some.entries.now page begun (page_begins c.in-Some.header c.in-Some.entries.now page c.in-Some.ensures.found)).unit in
      absurd (cc (c.is_known.ensures.1 (known_at _ _ unit is.moments.known), c.if-not-is_known.true)));
}

pub returns : goal.returns
returns c =
    let page = c.args.page.now in
    let h = c.in-Some.header in
    let es = c.in-Some.entries.now in
    let node = c.in-Some.ensures.found in
    record {
      column = refusal_along decoded_column (IsColumnFrom h es) (λ column. IsColumnPage column page)
          (λ column from. record {
            as_written = from.as_written;
            page = column_made h es page from.as_written node from.of;
            moments = record { known = from.known; scaled_is = from.scaled_is };
            valid = from.valid;
            current = ap (λ (x : ColumnInPage). x.bounds.end) from.scaled_is ∙ ap (option_map (scaled (moments_in from.known.unit))) (column_made h es page from.as_written node from.of).page.current;
          })
          (λ column is. record {
            known = known_at _ _ (nodes_same _ h _ es page (page_begins _ _ page (column_page_node is.as_written page is.page)) (page_begins h es page node)).unit is.moments.known;
            as_written = is.as_written;
            of = column_back h es page is.as_written node is.page;
            scaled_is = is.moments.scaled_is;
            valid = is.valid;
          })
          c.column_in.result c.column_in.ensures.column;
    }
