use Rattle.std.proofs.Common.{rules, ◌≡◌, ◌∙◌, ap, Err, refl, sym}
use Rattle.once_store.specs.declared.error.BlockError.TheVariants.{Damaged}
use Rattle.version_model.specs.Ranges.{range_of}
use Rattle.tsb_walk.proofs.Arriving.{leaf_kept}
use Rattle.tree_questions.proofs.touched.take_past.Goals as goal

pub returns-in_err-last-clause-never : goal.returns-in_err-last-clause-never
returns-in_err-last-clause-never g c = λ all represents_all block e.
    let d : c.leaf_place.result ≡ Err (Damaged block) = search rules in
    c.leaf_place.ensures.never all represents_all block d

pub returns-in_default-clause-never : goal.returns-in_default-clause-never
returns-in_default-clause-never g c = λ all represents_all block e. c.in_default.ensures.none c.in_ok-last.ensures.kept.0 c.in_ok-last.ensures.kept.1

pub returns-in-Ok-clause-gathered : goal.returns-in-Ok-clause-gathered
returns-in-Ok-clause-gathered g c = λ all first represents_all begun onward so.
    let leaf = leaf_kept g.O.OnceDisk c.leaf_place.new.reader all c.in_ok-last.last (c.in_ok-last.ensures.leaf all represents_all) c.in-Some.block.now c.octets.result.now c.in-Some.ensures.some c.octets.ensures.value in
    c.in-Ok.ensures.gathered all (range_of c.in_ok-last.last.bounds) leaf.leaf first leaf.begins leaf.shows refl refl c.in_ok-last.ensures.point begun onward so

pub returns-in-Err-clause-never : goal.returns-in-Err-clause-never
returns-in-Err-clause-never g c = λ all represents_all block e.
    let leaf = leaf_kept g.O.OnceDisk c.leaf_place.new.reader all c.in_ok-last.last (c.in_ok-last.ensures.leaf all represents_all) c.in-Some.block.now c.octets.result.now c.in-Some.ensures.some c.octets.ensures.value in
    let d : c.block_refusal.result ≡ Damaged block = search rules in
    c.take_leaf.ensures.leaf leaf.leaf leaf.begins (c.in-Err.is ∙ ap Err (c.block_refusal.ensures.damaged block d).1)
