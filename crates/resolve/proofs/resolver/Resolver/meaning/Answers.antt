use Rattle.std.proofs.Common.{subst}
use Rattle.mrt_records.specs.Values.{reported}
use Rattle.mrt_records.specs.declared.item.Item.{Item}
use Rattle.resolve.specs.Tables.{IsPeerTableRecord}
use Rattle.resolve.proofs.Tables.{stays}
use Rattle.resolve.proofs.resolver.Resolver.meaning.Goals as goal

pub returns-in-Message-clause-table : goal.returns-in-Message-clause-table
returns-in-Message-clause-table c = λ ok before h. stays before (reported c.args.item.now) c.args.self.now.table (λ n. subst (λ (i : Item). IsPeerTableRecord (reported i)) c.in-Message.is n) h

pub returns-in-StateChange-clause-table : goal.returns-in-StateChange-clause-table
returns-in-StateChange-clause-table c = λ ok before h. stays before (reported c.args.item.now) c.args.self.now.table (λ n. subst (λ (i : Item). IsPeerTableRecord (reported i)) c.in-StateChange.is n) h

pub returns-in-Rib-clause-table : goal.returns-in-Rib-clause-table
returns-in-Rib-clause-table c = λ ok before h. stays before (reported c.args.item.now) c.args.self.now.table (λ n. subst (λ (i : Item). IsPeerTableRecord (reported i)) c.in-Rib.is n) h

pub returns-in-Skipped-clause-table : goal.returns-in-Skipped-clause-table
returns-in-Skipped-clause-table c = λ ok before h. stays before (reported c.args.item.now) c.args.self.now.table (λ n. subst (λ (i : Item). IsPeerTableRecord (reported i)) c.in-Skipped.is n) h

pub returns-else-is_peer_table-clause-table : goal.returns-else-is_peer_table-clause-table
returns-else-is_peer_table-clause-table c = λ ok before h.
    stays before (reported c.args.item.now) c.args.self.now.table
    (λ n. let is = c.is_peer_table.ensures.1 (subst (λ (i : Item). IsPeerTableRecord (reported i)) c.in-Malformed.is n) in let not = c.if-is_peer_table.false in absurd cc) h
