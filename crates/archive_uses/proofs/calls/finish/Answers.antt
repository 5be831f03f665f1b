use Rattle.std.proofs.Common.{rules, refl, Some}
use Rattle.archive_uses.specs.Calls.{Finishes}
use Rattle.archive_uses.proofs.calls.finish.Goals as goal

pub returns-clause-leads : goal.returns-clause-leads
returns-clause-leads g c hand number blocks known here well count knows =
    let does : Finishes g.O.OnceDisk c.args.reader.now c.args.seen.now c.args.errand c.args.cursor.now c.finish.new.cursor c.finish.result = search rules in
    record {
      number = number;
      question = record { cursor = c.args.cursor.now; errand = Some (record { errand = c.args.errand; blocks = blocks; known = known }) };
      here = here;
      given = record { errand = c.args.errand; blocks = blocks; known = known };
      has = refl;
      reader = c.args.reader.now;
      seen = c.args.seen.now;
      well = well;
      blocks = count;
      knows = knows;
      cursor = c.finish.new.cursor;
      result = c.finish.result;
      finishes = does;
      after = refl;
    }
