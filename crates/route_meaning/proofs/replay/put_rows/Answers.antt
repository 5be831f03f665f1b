use Rattle.std.proofs.Common.{◌≡◌, ◌++◌, ap, ◌∙◌, sym, rules, map, List}
use Rattle.std.specs.Map.Iter.{deref_pair}
use Rattle.std.proofs.lemmas.Map.Iter.{iter_end}
use Rattle.route_meaning.specs.declared.question.Row.{Row}
use Rattle.route_meaning.specs.inner.Replay.{row_at}
use Rattle.route_meaning.proofs.Answering.{rows_shown}
use Rattle.route_meaning.proofs.replay.put_rows.Goals as goal

pub returns : goal.returns
returns c =
    let whole : map deref_pair c.loop-spot.yielded ≡ c.args.table.now.entries = search (rules, iter_end) in
    c.loop-spot.invariant ∙ ap (λ l. c.args.rows.now.items ++ l) (sym (rows_shown c.loop-spot.yielded) ∙ ap (map (λ e. row_at e.0 e.1)) whole)
