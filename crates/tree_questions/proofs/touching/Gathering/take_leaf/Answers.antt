use Rattle.std.proofs.Common.{rules, ◌≡◌, ◌≤◌, ◌<◌, Err, inl, inr, arith}
use Rattle.tsb_node.specs.declared.leaf_part.ReadFault.TheVariants.{NotANode}
use Rattle.version_model.specs.Ranges.{end_or, high_or}
use Rattle.tree_questions.proofs.TouchedEntries.{gathers}
use Rattle.tree_questions.proofs.touching.Gathering.take_leaf.Goals as goal

pub returns-in_err-entries-clause-leaf : goal.returns-in_err-entries-clause-leaf
returns-in_err-entries-clause-leaf c = λ leaf begins e.
    let d : c.entries_in.result ≡ Err NotANode = search rules in
    c.entries_in.ensures.refused leaf begins d

pub returns-clause-gathered : goal.returns-clause-gathered
returns-clause-gathered c = λ all r leaf first begins shows high end point begun onward so.
    let stamp = c.lesser_stamp-end.ensures in
    let key = c.lesser_key-self.ensures in
    gathers all r leaf.versions c.in_ok-entries.entries.items first c.args.self.now.from c.args.self.now.at c.lesser_stamp-end.result (high_or c.args.self.now.high) (high_or c.lesser_key-self.result) c.args.self.now.keys c.put_all.new.keys shows (c.in_ok-entries.ensures.entries leaf begins) point begun
    (elim stamp.2 [ inl e ↦ omega (arith, onward, e) | inr e ↦ omega (arith, e, end, point.end) ]) (let b : c.lesser_stamp-end.result ≤ end_or c.args.end = stamp.1 in omega (arith, b, end)) key.0 (let b : high_or c.lesser_key-self.result ≤ high_or c.args.high = key.1 in omega (arith, b, high)) c.in_ok-put_all.ensures so
