use Rattle.std.proofs.Common.{[], ◌∷◌, inl, refl}
use Rattle.disk_archive.specs.Archives.{is_down}
use Rattle.archive_uses.specs.Use.Call.{ask as a_question}
use Rattle.archive_uses.specs.Use.Use.{called}
use Rattle.archive_uses.specs.Verdicts.{of_ask}
use Rattle.uses_tests.specs.inner.Taking.{alone}
use Rattle.uses_tests.proofs.calls.ask_of.Goals as goal

pub returns : goal.returns
returns c =
    let down = is_down c.ask.new.archive in
    let query = c.rows_of-query.result in
    record {
      takes = record {
        uses = called (a_question query) (of_ask c.ask.result down) ∷ [];
        are = (query, down, refl);
        valid = (tt, tt);
        leads = (alone c.ask.new.archive, (inl (c.ask.ensures.leads, refl)), refl);
      };
    }
