use Rattle.std.proofs.Common.{ℕ, ◌∷◌, [], sym, subst}
use Rattle.once_store.specs.Shelves.{disk_of, pen_of, next_of}
use Rattle.version_model.specs.declared.part.PartKind.TheVariants.{ColumnBlock}
use Rattle.version_model.specs.Ranges.{high_or}
use Rattle.version_model.specs.Blocks.{OldColumn}
use Rattle.version_model.specs.Pages.{PartsRepresent}
use Rattle.tsb_node.specs.Views.{keys_between, BlockRepresents, represents_old_column}
use Rattle.worm_migration.specs.Columns.{old_column, up_to}
use Rattle.worm_migration.specs.Settled.{with_block}
use Rattle.worm_migration.proofs.Blocks.{settles}
use Rattle.worm_migration.proofs.Pasts.{past_can, past_moved, past_some}
use Rattle.worm_migration.proofs.column.migrate_column.Goals as goal

pub write_old_column-requires-clause-valid : goal.write_old_column-requires-clause-valid
write_old_column-requires-clause-valid g c = past_can c.args.bounds.now c.args.parts.now c.args.at c.requires.past

pub returns-clause-settled : goal.returns-clause-settled
returns-clause-settled g c = λ honest.
    let b = c.args.bounds.now in
    let represents_node : BlockRepresents c.write_old_column.new.block (old_column (keys_between b) c.args.at c.args.parts.now) =
    subst (λ (s : ℕ). BlockRepresents c.write_old_column.new.block (OldColumn (record { low = b.low; high = high_or b.high; start = s; end = c.args.at }) c.args.parts.now)) c.requires.past.from_first
    (represents_old_column (record { bounds = up_to b c.args.at; parts = c.args.parts.now }) c.write_old_column.ensures.written) in
    settles g.O.OnceDisk c.args.shelf.now c.settle.new.shelf c.in_ok-number.number (old_column (keys_between b) c.args.at c.args.parts.now) c.write_old_column.new.block
    (g.met.O.OnceDisk.sound (disk_of c.args.shelf.now) (pen_of c.args.shelf.now) honest) honest c.in_ok-number.ensures.shelf (c.in_ok-number.ensures.settled honest) represents_node

pub returns-clause-past : goal.returns-clause-past
returns-clause-past g c = λ honest blocks all represents_node past.
    let b = c.args.bounds.now in
    let moved = past_moved g.O.OnceDisk c.args.shelf.now c.settle.new.shelf c.in_ok-number.number (keys_between b) c.args.at c.args.parts.now honest c.in_ok-number.ensures.shelf (returns-clause-settled g c honest)
    (past_some b c.args.parts.now c.args.at c.requires.past) blocks all represents_node past in
    subst (λ (s : ℕ). PartsRepresent (with_block c.in_ok-number.number (old_column (keys_between b) c.args.at c.args.parts.now) blocks) (next_of c.settle.new.shelf) all (keys_between b) c.args.at
    (record { start = s; kind = ColumnBlock; block = c.in_ok-number.number } ∷ [])) (sym c.requires.past.from_first) moved
