use Rattle.std.proofs.Common.{◌++◌, ◌∙◌, inl, inr, sym}
use Rattle.std.specs.Prelude.{IsSome}
use Rattle.server.specs.declared.answering.Next.TheVariants as nexts
use Rattle.server.proofs.Serving.{served_none, served_next, at_end, at_line, ends_sent, ends_at, ends_by, ends_unwritten}
use Rattle.server.proofs.connection.serve_lines.Goals as goal

pub loop-init : goal.loop-init
loop-init g c = record {
  next = tt;
  finite = tt;
  reader = c.requires.reader;
  served = served_none (IsSome g.N.OnDisk.disk) c.args.port c.args.shared.now.collectors c.args.lines.now.beyond c.args.pass.now c.args.out.now (g.R.Read.remaining c.args.lines.now.reader);
}

pub returns-in-Ok-End-clause-ended : goal.returns-in-Ok-End-clause-ended
returns-in-Ok-End-clause-ended g c =
    let reads = c.in-Ok-End.ensures.reads in
    let none = at_end (c.loop.lines.beyond ++ reads.0) c.read_line.new.self.line c.read_line.new.self.beyond (g.R.Read.remaining c.read_line.new.self.reader) c.in-Ok-End.field-0 c.in-Ok-End.field-0-is reads.2 in
    ends_sent (IsSome g.N.OnDisk.disk) c.args.port c.args.shared.now.collectors c.args.lines.now.beyond c.args.pass.now c.args.out.now (g.R.Read.remaining c.args.lines.now.reader) (g.R.Read.remaining c.loop.lines.reader) (g.R.Read.remaining c.read_line.new.self.reader) c.loop.lines.beyond reads.0 c.read_line.new.self.beyond c.loop.pass c.loop.out reads.1 c.loop.invariant.served none.0.after_is none.0.none none.2

pub returns-in-Err-clause-ended : goal.returns-in-Err-clause-ended
returns-in-Err-clause-ended g c =
    let reads = c.in-Err.ensures.reads in
    ends_at (IsSome g.N.OnDisk.disk) c.args.port c.args.shared.now.collectors c.args.lines.now.beyond c.args.pass.now c.args.out.now (g.R.Read.remaining c.args.lines.now.reader) (g.R.Read.remaining c.loop.lines.reader) (g.R.Read.remaining c.read_line.new.self.reader) c.loop.lines.beyond reads.0 c.read_line.new.self.line c.read_line.new.self.beyond c.loop.pass c.loop.out c.end_of.new.out c.in-Err.why c.end_of.result reads.1 c.loop.invariant.served reads.2 c.end_of.ensures.reported

pub returns-then-has_failed-clause-ended : goal.returns-then-has_failed-clause-ended
returns-then-has_failed-clause-ended g c =
    let reads = c.in-Ok-Line.ensures.reads in
    let begins = at_line (c.loop.lines.beyond ++ reads.0) c.read_line.new.self.line c.read_line.new.self.beyond (g.R.Read.remaining c.read_line.new.self.reader) c.in-Ok-Line.field-0 c.in-Ok-Line.field-0-is reads.2 in
    ends_unwritten (IsSome g.N.OnDisk.disk) c.args.port c.args.shared.now.collectors c.args.lines.now.beyond c.args.pass.now c.args.out.now (g.R.Read.remaining c.args.lines.now.reader) (g.R.Read.remaining c.loop.lines.reader) (g.R.Read.remaining c.read_line.new.self.reader) c.loop.lines.beyond reads.0 c.read_line.new.self.line c.line.result.now c.read_line.new.self.beyond c.loop.pass c.answer_line-next.new.pass c.loop.out c.answer_line-next.new.out c.flush.new.self c.answer_line-next.result reads.1 c.loop.invariant.served begins c.line.ensures.line c.answer_line-next.ensures.answers c.flush.ensures.reports (sym c.has_failed.ensures.failed ∙ c.if-has_failed.true)

pub loop-preserved : goal.loop-preserved
loop-preserved g c =
    let reads = c.in-Ok-Line.ensures.reads in
    let begins = at_line (c.loop.lines.beyond ++ reads.0) c.read_line.new.self.line c.read_line.new.self.beyond (g.R.Read.remaining c.read_line.new.self.reader) c.in-Ok-Line.field-0 c.in-Ok-Line.field-0-is reads.2 in
    record {
      next = tt;
      finite = tt;
      reader = c.answer_line-next.ensures.reader;
      served = served_next (IsSome g.N.OnDisk.disk) c.args.port c.args.shared.now.collectors c.args.lines.now.beyond c.args.pass.now c.args.out.now (g.R.Read.remaining c.args.lines.now.reader) (g.R.Read.remaining c.loop.lines.reader) (g.R.Read.remaining c.read_line.new.self.reader) c.loop.lines.beyond reads.0 c.read_line.new.self.line c.line.result.now c.read_line.new.self.beyond c.loop.pass c.answer_line-next.new.pass c.loop.out c.answer_line-next.new.out c.flush.new.self reads.1 c.loop.invariant.served begins c.line.ensures.line c.in-Line.ensures.answers c.flush.ensures.reports;
    }

pub returns-in-Feed-clause-ended : goal.returns-in-Feed-clause-ended
returns-in-Feed-clause-ended g c =
    let reads = c.in-Ok-Line.ensures.reads in
    let begins = at_line (c.loop.lines.beyond ++ reads.0) c.read_line.new.self.line c.read_line.new.self.beyond (g.R.Read.remaining c.read_line.new.self.reader) c.in-Ok-Line.field-0 c.in-Ok-Line.field-0-is reads.2 in
    ends_by (IsSome g.N.OnDisk.disk) c.args.port c.args.shared.now.collectors c.args.lines.now.beyond c.args.pass.now c.args.out.now (g.R.Read.remaining c.args.lines.now.reader) (g.R.Read.remaining c.loop.lines.reader) (g.R.Read.remaining c.read_line.new.self.reader) c.loop.lines.beyond reads.0 c.read_line.new.self.line c.line.result.now c.read_line.new.self.beyond c.loop.pass c.answer_line-next.new.pass c.loop.out c.answer_line-next.new.out c.flush.new.self (nexts.Feed c.in-Feed.collector c.in-Feed.limit) reads.1 c.loop.invariant.served begins c.line.ensures.line c.in-Feed.ensures.answers c.flush.ensures.reports

pub returns-in-Quit-clause-ended : goal.returns-in-Quit-clause-ended
returns-in-Quit-clause-ended g c =
    let reads = c.in-Ok-Line.ensures.reads in
    let begins = at_line (c.loop.lines.beyond ++ reads.0) c.read_line.new.self.line c.read_line.new.self.beyond (g.R.Read.remaining c.read_line.new.self.reader) c.in-Ok-Line.field-0 c.in-Ok-Line.field-0-is reads.2 in
    let e = ends_by (IsSome g.N.OnDisk.disk) c.args.port c.args.shared.now.collectors c.args.lines.now.beyond c.args.pass.now c.args.out.now (g.R.Read.remaining c.args.lines.now.reader) (g.R.Read.remaining c.loop.lines.reader) (g.R.Read.remaining c.read_line.new.self.reader) c.loop.lines.beyond reads.0 c.read_line.new.self.line c.line.result.now c.read_line.new.self.beyond c.loop.pass c.answer_line-next.new.pass c.loop.out c.answer_line-next.new.out c.flush.new.self nexts.Quit reads.1 c.loop.invariant.served begins c.line.ensures.line c.in-Quit.ensures.answers c.flush.ensures.reports in
    (e.0, e.1, inl e.2)

pub returns-in-Close-clause-ended : goal.returns-in-Close-clause-ended
returns-in-Close-clause-ended g c =
    let reads = c.in-Ok-Line.ensures.reads in
    let begins = at_line (c.loop.lines.beyond ++ reads.0) c.read_line.new.self.line c.read_line.new.self.beyond (g.R.Read.remaining c.read_line.new.self.reader) c.in-Ok-Line.field-0 c.in-Ok-Line.field-0-is reads.2 in
    let e = ends_by (IsSome g.N.OnDisk.disk) c.args.port c.args.shared.now.collectors c.args.lines.now.beyond c.args.pass.now c.args.out.now (g.R.Read.remaining c.args.lines.now.reader) (g.R.Read.remaining c.loop.lines.reader) (g.R.Read.remaining c.read_line.new.self.reader) c.loop.lines.beyond reads.0 c.read_line.new.self.line c.line.result.now c.read_line.new.self.beyond c.loop.pass c.answer_line-next.new.pass c.loop.out c.answer_line-next.new.out c.flush.new.self nexts.Close reads.1 c.loop.invariant.served begins c.line.ensures.line c.in-Close.ensures.answers c.flush.ensures.reports in
    (e.0, e.1, inr (inl e.2))

pub returns-in-Stop-clause-ended : goal.returns-in-Stop-clause-ended
returns-in-Stop-clause-ended g c =
    let reads = c.in-Ok-Line.ensures.reads in
    let begins = at_line (c.loop.lines.beyond ++ reads.0) c.read_line.new.self.line c.read_line.new.self.beyond (g.R.Read.remaining c.read_line.new.self.reader) c.in-Ok-Line.field-0 c.in-Ok-Line.field-0-is reads.2 in
    ends_by (IsSome g.N.OnDisk.disk) c.args.port c.args.shared.now.collectors c.args.lines.now.beyond c.args.pass.now c.args.out.now (g.R.Read.remaining c.args.lines.now.reader) (g.R.Read.remaining c.loop.lines.reader) (g.R.Read.remaining c.read_line.new.self.reader) c.loop.lines.beyond reads.0 c.read_line.new.self.line c.line.result.now c.read_line.new.self.beyond c.loop.pass c.answer_line-next.new.pass c.loop.out c.answer_line-next.new.out c.flush.new.self nexts.Stop reads.1 c.loop.invariant.served begins c.line.ensures.line c.in-Stop.ensures.answers c.flush.ensures.reports
