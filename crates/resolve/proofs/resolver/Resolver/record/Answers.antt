use Rattle.std.proofs.Common.{◌∷◌, ◌++◌, [], sym, subst}
use Rattle.mrt_records.specs.Values.{reported}
use Rattle.resolve.specs.Tables.{Feed, LastTable}
use Rattle.resolve.proofs.resolver.Resolver.record.Goals as goal

pub returns-clause-table : goal.returns-clause-table
returns-clause-table c = λ ok before h. subst (λ (f : Feed). LastTable (before ++ reported c.args.item.now ∷ []) f.table) (sym c.self.view_is) (c.meaning-meaning.ensures.table ok before h)
