use Rattle.std.proofs.Common.{rules, ◌≡◌, Err, ap, subst}
use Rattle.tsb_walk.specs.declared.error.NodeError.TheVariants.{Damaged}
use Rattle.tsb_walk.specs.Refusals.{of_block}
use Rattle.tsb_walk.specs.Looked.{IsParted}
use Rattle.tsb_walk.proofs.Gathering.{place_known, of_damaged}
use Rattle.tsb_walk.proofs.key_versions.next_part.Goals as goal

pub returns-in_err-part-in-InBlock-clause-reads : goal.returns-in_err-part-in-InBlock-clause-reads
returns-in_err-part-in-InBlock-clause-reads g c = λ start shown shows s all rising st well known.
    let past = subst (IsParted s.blocks all c.args.key c.args.from) c.in-InBlock.is (c.in_ok-part.ensures.part start shown shows s all rising st) in
    c.hist_part.ensures.reads all (place_known g.O.OnceDisk c.args.reader.now c.args.seen.now s.blocks all c.args.key c.args.from c.in-InBlock.place past well known)

pub returns-in_err-part-in-InBlock-clause-never : goal.returns-in_err-part-in-InBlock-clause-never
returns-in_err-part-in-InBlock-clause-never g c = λ start shown shows s all rising st well known block e.
    let past = subst (IsParted s.blocks all c.args.key c.args.from) c.in-InBlock.is (c.in_ok-part.ensures.part start shown shows s all rising st) in
    let h : of_block c.in_err-part-in-InBlock.field-0.0 ≡ Damaged block = search rules in
    c.in_err-part-in-InBlock.ensures.never all (place_known g.O.OnceDisk c.args.reader.now c.args.seen.now s.blocks all c.args.key c.args.from c.in-InBlock.place past well known) block
    (ap Err (of_damaged c.in_err-part-in-InBlock.field-0.0 block h))

pub returns-in_ok-part-in-InBlock-clause-reads : goal.returns-in_ok-part-in-InBlock-clause-reads
returns-in_ok-part-in-InBlock-clause-reads g c = λ start shown shows s all rising st well known.
    let past = subst (IsParted s.blocks all c.args.key c.args.from) c.in-InBlock.is (c.in_ok-part.ensures.part start shown shows s all rising st) in
    c.hist_part.ensures.reads all (place_known g.O.OnceDisk c.args.reader.now c.args.seen.now s.blocks all c.args.key c.args.from c.in-InBlock.place past well known)

pub returns-in_err-part-clause-inside : goal.returns-in_err-part-clause-inside
returns-in_err-part-clause-inside g c = λ k. k

pub returns-in-Here-clause-inside : goal.returns-in-Here-clause-inside
returns-in-Here-clause-inside g c = λ k. k

pub returns-in_err-part-in-InBlock-clause-inside : goal.returns-in_err-part-in-InBlock-clause-inside
returns-in_err-part-in-InBlock-clause-inside g c = c.hist_part.ensures.inside

pub returns-in_ok-part-in-InBlock-clause-inside : goal.returns-in_ok-part-in-InBlock-clause-inside
returns-in_ok-part-in-InBlock-clause-inside g c = c.hist_part.ensures.inside
