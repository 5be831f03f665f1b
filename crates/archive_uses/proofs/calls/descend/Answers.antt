use Rattle.std.proofs.Common.{rules, refl, sym, ap, subst}
use Rattle.disk_archive.specs.Cursors.{asks as query_of}
use Rattle.disk_archive.specs.declared.cursor.Cursor.{Cursor}
use Rattle.archive_uses.specs.Calls.{Turns}
use Rattle.archive_uses.proofs.calls.descend.Goals as goal

pub returns-clause-leads : goal.returns-clause-leads
returns-clause-leads g c hand number question here same =
    let does : Turns {erase = g.E.EraseDisk} {once = g.O.OnceDisk} c.args.archive.now c.descend.new.self c.args.cursor.now c.descend.new.cursor c.descend.result = search rules in
    record {
      number = number;
      question = question;
      here = here;
      asks = ap query_of same;
      cursor = c.descend.new.cursor;
      result = c.descend.result;
      turns = subst (λ (x : Cursor). Turns {erase = g.E.EraseDisk} {once = g.O.OnceDisk} c.args.archive.now c.descend.new.self x c.descend.new.cursor c.descend.result) (sym same) does;
      verdict = refl;
      after = refl;
    }
