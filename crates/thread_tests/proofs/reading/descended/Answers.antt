use Rattle.std.proofs.Common.{subst}
use Rattle.disk_archive.specs.Descents.{GoesFurther}
use Rattle.disk_archive.specs.declared.descending.Descent.{Descent}
use Rattle.thread_tests.proofs.reading.descended.Goals as goal

pub returns-in-Ok-Historical-clause-fits : goal.returns-in-Ok-Historical-clause-fits
returns-in-Ok-Historical-clause-fits c = (subst (λ (x : Descent). GoesFurther c.args.cursor.now c.descend.new.cursor x) c.in-Ok-Historical.field-0-is c.in-Ok-Historical.ensures.further).1
