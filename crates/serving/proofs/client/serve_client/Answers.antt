use Rattle.std.proofs.Common.{◌∙◌, ap, inl, inr, refl}
use Rattle.server.specs.declared.connection.Ending.TheVariants as endings
use Rattle.serving.specs.Clients.{done_unless}
use Rattle.serving.proofs.Reading.{among_since}
use Rattle.serving.proofs.client.serve_client.Goals as goal

pub returns-in-Done-clause-served : goal.returns-in-Done-clause-served
returns-in-Done-clause-served g c =
    let e = c.in-Done.ensures.ended in
    (e.0, _, e.1, inl (record { ending = endings.Done; rest = c.serve_lines.new.lines.beyond; ended = e.2; closes = c.done_unless.ensures.closing ∙ ap done_unless c.has_failed.ensures.failed }))

pub returns-in-Feed-clause-reader : goal.returns-in-Feed-clause-reader
returns-in-Feed-clause-reader g c = λ named. among_since c.serve_lines.new.reader c.serve_lines.new.pass c.take_feed.new.pass c.take_feed.ensures.since (c.serve_lines.ensures.reader named)

pub returns-in-Feed-clause-served : goal.returns-in-Feed-clause-served
returns-in-Feed-clause-served g c =
    let e = c.in-Feed.ensures.ended in
    let f = c.take_feed.ensures.fed in (
      e.0,
      _,
      e.1,
      inr (record {
        collector = c.in-Feed.collector;
        limit = c.in-Feed.limit;
        rest = c.serve_lines.new.lines.beyond;
        u = c.serve_lines.new.pass;
        then = c.serve_lines.new.out;
        announced = e.2;
        bytes = f.0;
        given = f.1;
        end = f.2;
        fed = f.3;
        closes = f.4;
      }),
    )

pub returns-in-Stop-clause-served : goal.returns-in-Stop-clause-served
returns-in-Stop-clause-served g c =
    let e = c.in-Stop.ensures.ended in
    (e.0, _, e.1, inl (record { ending = endings.Stop; rest = c.serve_lines.new.lines.beyond; ended = e.2; closes = refl }))

pub returns-in-Failed-clause-served : goal.returns-in-Failed-clause-served
returns-in-Failed-clause-served g c =
    let e = c.in-Failed.ensures.ended in
    (e.0, _, e.1, inl (record { ending = endings.Failed; rest = c.serve_lines.new.lines.beyond; ended = e.2; closes = refl }))
