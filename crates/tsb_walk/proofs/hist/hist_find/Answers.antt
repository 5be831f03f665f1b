use Rattle.std.proofs.Common.{rules, ◌≡◌, ◌∙◌, ap, Err, sym}
use Rattle.once_store.specs.declared.error.BlockError.TheVariants.{Damaged}
use Rattle.version_model.specs.Ranges.{range_of}
use Rattle.version_model.proofs.api.Shown.{answers_shown}
use Rattle.tsb_walk.specs.Answers.{found_as}
use Rattle.tsb_walk.proofs.Arriving.{leaf_kept, bad_leaf_block}
use Rattle.once_store.specs.Readers.{reader_disk}
use Rattle.tsb_walk.proofs.hist.hist_find.Goals as goal

pub returns-in_err-last-clause-never : goal.returns-in_err-last-clause-never
returns-in_err-last-clause-never g c = λ all represents_all block e.
    let d : c.leaf_place.result ≡ Err (Damaged block) = search rules in
    c.leaf_place.ensures.never all represents_all block d

pub returns-in_default-clause-never : goal.returns-in_default-clause-never
returns-in_default-clause-never g c = λ all represents_all block e. c.in_default.ensures.none c.in_ok-last.ensures.kept.0 c.in_ok-last.ensures.kept.1

pub returns-in-Ok-clause-found : goal.returns-in-Ok-clause-found
returns-in-Ok-clause-found g c = λ all represents_all.
    let leaf = leaf_kept g.O.OnceDisk c.leaf_place.new.reader all c.in_ok-last.last (c.in_ok-last.ensures.leaf all represents_all) c.in-Some.block.now c.octets.result.now c.in-Some.ensures.some c.octets.ensures.value in
    let point = c.in_ok-last.ensures.point in
    answers_shown all (range_of c.in_ok-last.last.bounds) leaf.leaf.versions leaf.shows c.args.key c.args.stamp (found_as c.in-Ok.found) (record { low = point.low; high = point.high }) point.start point.end (c.in-Ok.ensures.found leaf.leaf leaf.begins)

pub returns-in-Err-clause-never : goal.returns-in-Err-clause-never
returns-in-Err-clause-never g c = λ all represents_all block e.
    let leaf = leaf_kept g.O.OnceDisk c.leaf_place.new.reader all c.in_ok-last.last (c.in_ok-last.ensures.leaf all represents_all) c.in-Some.block.now c.octets.result.now c.in-Some.ensures.some c.octets.ensures.value in
    let d : c.block_refusal.result ≡ Damaged block = search rules in
    c.found_in.ensures.leaf leaf.leaf leaf.begins (c.in-Err.is ∙ ap Err (c.block_refusal.ensures.damaged block d).1)

pub returns-in_err-last-clause-inside : goal.returns-in_err-last-clause-inside
returns-in_err-last-clause-inside g c = c.leaf_place.ensures.inside

pub returns-in_default-clause-inside : goal.returns-in_default-clause-inside
returns-in_default-clause-inside g c = c.leaf_place.ensures.inside

pub returns-in-Ok-clause-inside : goal.returns-in-Ok-clause-inside
returns-in-Ok-clause-inside g c = c.leaf_place.ensures.inside

pub returns-in-Err-clause-inside : goal.returns-in-Err-clause-inside
returns-in-Err-clause-inside g c = c.leaf_place.ensures.inside

pub returns-in_err-last-clause-damaged : goal.returns-in_err-last-clause-damaged
returns-in_err-last-clause-damaged g c = λ well known block e.
    let d : c.leaf_place.result ≡ Err (Damaged block) = search rules in
    c.leaf_place.ensures.damaged well known block d

pub returns-in_default-clause-damaged : goal.returns-in_default-clause-damaged
returns-in_default-clause-damaged g c = λ well known block e. absurd (c.in_default.ensures.none c.in_ok-last.ensures.kept.0 c.in_ok-last.ensures.kept.1)

pub returns-in-Err-clause-damaged : goal.returns-in-Err-clause-damaged
returns-in-Err-clause-damaged g c = λ well known block e.
    let d : c.block_refusal.result ≡ Damaged block = search rules in
    let f = c.block_refusal.ensures.damaged block d in
    bad_leaf_block g.O.OnceDisk c.leaf_place.new.reader (g.O.OnceDisk.known c.args.seen.now) (g.O.OnceDisk.block_count (reader_disk c.args.reader.now)) c.args.key c.args.stamp c.args.place.now c.in_ok-last.last (c.in_ok-last.ensures.arrives well known)
    c.in-Some.block.now c.octets.result.now c.in-Some.ensures.some c.octets.ensures.value (λ leaf begins. c.found_in.ensures.leaf leaf begins (c.in-Err.is ∙ ap Err f.1)) block (sym f.0)
