use Rattle.std.proofs.Common.{arith, ◌≡◌, ◌∙◌, ◌<◌, ◌≤◌, ℕ, length, drop, ap, refl, true, false}
use Rattle.version_model.specs.Entries.{versions_of}
use Rattle.tsb_node.specs.Leaves.{LeafNode, BeginsAsLeaf}
use Rattle.tsb_node.specs.inner.Reading.{area}
use Rattle.tsb_node.proofs.MomentLaws.{known_at, known_leaf}
use Rattle.tsb_node.proofs.MomentEntries.{leaf_count, next_in_moments}
use Rattle.tsb_node.proofs.Scanning.{scan_on}
use Rattle.tsb_node.proofs.SplittingLaws.{after_none}
use Rattle.tsb_node.proofs.HoldingLaws.{held_by, whole_here, leaf_holds}
use Rattle.tsb_node.proofs.Parting.{versions_more, all_more, all_kept}
use Rattle.tsb_node.proofs.leaf_entries.entries_in.Goals as goal

pub returns-then-not-begins_with_entries-clause-refused : goal.returns-then-not-begins_with_entries-clause-refused
returns-then-not-begins_with_entries-clause-refused c = λ leaf is e.
    let there : c.split_at-2.result.1.now ≡ area c.args.octets.now = c.split_at-2.ensures.back ∙ ap (drop 120) c.split_at.ensures.front in
    let yes : false ≡ true = c.if-not-begins_with_entries.ensures.1 (held_by c.args.octets.now c.split_at-2.result.1.now c.number2-count.result c.number2-count.ensures.number there (leaf_holds is.as_written c.args.octets.now is.begins)) in
    cc

pub loop-init : goal.loop-init
loop-init c =
    let there : c.split_at-2.result.1.now ≡ area c.args.octets.now = c.split_at-2.ensures.back ∙ ap (drop 120) c.split_at.ensures.front in
    record {
      there = there ∙ after_none (area c.args.octets.now);
      kept = λ leaf is. rw c.new-kept.ensures.items refl;
    }

pub entry_of-requires : goal.entry_of-requires
entry_of-requires c =
    let there : c.split_at-2.result.1.now ≡ area c.args.octets.now = c.split_at-2.ensures.back ∙ ap (drop 120) c.split_at.ensures.front in
    whole_here c.args.octets.now c.split_at-2.result.1.now c.loop.rest.now c.number2-count.result c.loop.counter there (c.if-not-begins_with_entries.ensures.0 refl) c.loop-test.true c.loop.invariant.there

pub whole_size-requires : goal.whole_size-requires
whole_size-requires c =
    let there : c.split_at-2.result.1.now ≡ area c.args.octets.now = c.split_at-2.ensures.back ∙ ap (drop 120) c.split_at.ensures.front in
    whole_here c.args.octets.now c.split_at-2.result.1.now c.loop.rest.now c.number2-count.result c.loop.counter there (c.if-not-begins_with_entries.ensures.0 refl) c.loop-test.true c.loop.invariant.there

pub loop-preserved : goal.loop-preserved
loop-preserved c =
    let rest = c.loop.rest.now in
    let octets = c.args.octets.now in
    let i = c.loop.counter in
    let few : (leaf : LeafNode) → BeginsAsLeaf leaf octets → i < length leaf.versions = λ leaf is. omega (arith, leaf_count leaf octets is, c.loop-test.true, c.number2-count.ensures.number) in
    record {
      there = c.split_at-in-loop.ensures.back ∙ ap (λ (n : ℕ). drop n rest) c.whole_size.ensures ∙ scan_on i rest (area octets) c.loop.invariant.there;
      kept = λ leaf is.
          (let same = c.moments_of-k.ensures.moments (known_at _ _ (known_leaf leaf octets is) is.moments.known) in
          let n = next_in_moments leaf octets rest i c.moments_of-k.result is same (few leaf is) c.loop.invariant.there in
          all_more leaf.versions (versions_of c.loop.kept.items) (versions_of c.keep.new.kept.items) i n.v n.is
          (versions_more c.loop.kept.items c.keep.new.kept.items c.in_ok-entry_of.field-0 n.v c.in_ok-keep.ensures (c.in_ok-entry_of.ensures n.fits ∙ n.read))
          (c.loop.invariant.kept leaf is));
    }

pub returns-clause-entries : goal.returns-clause-entries
returns-clause-entries c = λ leaf is.
    let done : length leaf.versions ≤ c.loop.counter = omega (arith, c.loop-test.false, c.number2-count.ensures.number, leaf_count leaf c.args.octets.now is) in
    all_kept leaf.versions (versions_of c.loop.kept.items) c.loop.counter done (c.loop.invariant.kept leaf is)

pub split_at-requires-in-loop : goal.split_at-requires-in-loop
split_at-requires-in-loop c =
    let there : c.split_at-2.result.1.now ≡ area c.args.octets.now = c.split_at-2.ensures.back ∙ ap (drop 120) c.split_at.ensures.front in
    let whole = whole_here c.args.octets.now c.split_at-2.result.1.now c.loop.rest.now c.number2-count.result c.loop.counter there (c.if-not-begins_with_entries.ensures.0 refl) c.loop-test.true c.loop.invariant.there in
    omega (arith, c.whole_size.ensures, whole)
