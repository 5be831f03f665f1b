use Rattle.std.proofs.Common.{arith, ◌≡◌, ◌∙◌, ◌^◌, ◌<◌, ◌≤◌, ℕ, length, drop, ap, sym, refl, true, false}
use Rattle.std.proofs.lemmas.Bool.{both_ways}
use Rattle.version_model.specs.Entries.{versions_of}
use Rattle.version_model.specs.Ranges.{end_or}
use Rattle.version_model.specs.Looks.{is_of}
use Rattle.version_model.proofs.api.Least.{filtered_yes, filtered_no, filtered_all}
use Rattle.version_model.proofs.api.LooksShown.{is_of_yes, is_of_no}
use Rattle.tsb_node.specs.Leaves.{LeafNode, BeginsAsLeaf}
use Rattle.tsb_node.specs.inner.Reading.{area, version_in}
use Rattle.tsb_node.specs.Scaling.{scaled}
use Rattle.tsb_node.specs.inner.Fields.{number_in}
use Rattle.version_model.specs.Versions.{Version}
use Rattle.tsb_node.proofs.MomentLaws.{known_at, known_leaf}
use Rattle.tsb_node.proofs.MomentEntries.{leaf_count, next_in_moments}
use Rattle.tsb_node.proofs.Scanning.{scan_on}
use Rattle.tsb_node.proofs.SplittingLaws.{after_none}
use Rattle.tsb_node.proofs.HoldingLaws.{held_by, whole_here, leaf_holds}
use Rattle.tsb_node.proofs.Parting.{version_next, versions_more, key_there, stamp_there}
use Rattle.tsb_node.proofs.leaf_part.part.Goals as goal
use Rattle.tsb_node.proofs.leaf_part.part.Goals.{then-is_entry_of+in_ok-entry_of+in_ok-keep, else-is_entry_of}

pub returns-then-not-begins_with_entries-clause-refused : goal.returns-then-not-begins_with_entries-clause-refused
returns-then-not-begins_with_entries-clause-refused c = λ leaf is e.
    let there : c.split_at-2.result.1.now ≡ area c.args.octets.now = c.split_at-2.ensures.back ∙ ap (drop 120) c.split_at.ensures.front in
    let yes : false ≡ true = c.if-not-begins_with_entries.ensures.1 (held_by c.args.octets.now c.split_at-2.result.1.now c.number2-count.result c.number2-count.ensures.number there (leaf_holds is.as_written c.args.octets.now is.begins)) in
    cc

pub loop-init : goal.loop-init
loop-init c =
    let there : c.split_at-2.result.1.now ≡ area c.args.octets.now = c.split_at-2.ensures.back ∙ ap (drop 120) c.split_at.ensures.front in
    record {
      there = there ∙ after_none (area c.args.octets.now);
      kept = λ leaf is. rw c.new-kept.ensures.items refl;
    }

pub is_entry_of-requires : goal.is_entry_of-requires
is_entry_of-requires c =
    let there : c.split_at-2.result.1.now ≡ area c.args.octets.now = c.split_at-2.ensures.back ∙ ap (drop 120) c.split_at.ensures.front in
    whole_here c.args.octets.now c.split_at-2.result.1.now c.loop.rest.now c.number2-count.result c.loop.counter there (c.if-not-begins_with_entries.ensures.0 refl) c.loop-test.true c.loop.invariant.there

pub entry_of-requires : goal.entry_of-requires
entry_of-requires c =
    let there : c.split_at-2.result.1.now ≡ area c.args.octets.now = c.split_at-2.ensures.back ∙ ap (drop 120) c.split_at.ensures.front in
    whole_here c.args.octets.now c.split_at-2.result.1.now c.loop.rest.now c.number2-count.result c.loop.counter there (c.if-not-begins_with_entries.ensures.0 refl) c.loop-test.true c.loop.invariant.there

pub whole_size-requires : goal.whole_size-requires
whole_size-requires c =
    let there : c.split_at-2.result.1.now ≡ area c.args.octets.now = c.split_at-2.ensures.back ∙ ap (drop 120) c.split_at.ensures.front in
    whole_here c.args.octets.now c.split_at-2.result.1.now c.loop.rest.now c.number2-count.result c.loop.counter there (c.if-not-begins_with_entries.ensures.0 refl) c.loop-test.true c.loop.invariant.there

pub loop-preserved : goal.loop-preserved
loop-preserved c =
    let rest = c.loop.rest.now in
    let octets = c.args.octets.now in
    let i = c.loop.counter in
    let key = c.args.key in
    let from = c.args.from in
    let to = end_or c.args.end in
    let p = is_of key from to in
    let old = versions_of c.loop.kept.items in
    let few : (leaf : LeafNode) → BeginsAsLeaf leaf octets → i < length leaf.versions = λ leaf is. omega (arith, leaf_count leaf octets is, c.loop-test.true, c.number2-count.ensures.number) in
    record {
      there = c.split_at-in-loop.ensures.back ∙ ap (λ (n : ℕ). drop n rest) c.whole_size.ensures ∙ scan_on i rest (area octets) c.loop.invariant.there;
      kept = λ leaf is.
          (let same = c.moments_of-k.ensures.moments (known_at _ _ (known_leaf leaf octets is) is.moments.known) in
          let unit = c.moments_of-k.result in
          let n = next_in_moments leaf octets rest i unit is same (few leaf is) c.loop.invariant.there in
          let raw : version_in rest ≡ n.next.v = version_next n.as_written i rest n.next in
          let k = key_there rest n.next.v raw ∙ sym (ap (λ (x : Version). x.key) n.scaled_is) in
          let s = ap (scaled unit) (stamp_there rest n.next.v raw) ∙ sym (ap (λ (x : Version). x.stamp) n.scaled_is) in
          let fits : scaled unit (number_in 16 40 rest) < 256 ^ 16 = omega (arith, s, n.valid.stamp) in
          let before = c.loop.invariant.kept leaf is in
          elim c.if-is_entry_of.branch [
            | then-is_entry_of+in_ok-entry_of+in_ok-keep w ↦ rw w.kept-is (
                let facts = (c.is_entry_of.ensures fits).0 w.if-is_entry_of.true in
                filtered_yes p leaf.versions old i n.v n.is before (versions_of w.keep.new.kept.items)
                (versions_more c.loop.kept.items w.keep.new.kept.items w.in_ok-entry_of.field-0 n.v w.in_ok-keep.ensures (w.in_ok-entry_of.ensures n.fits ∙ n.read))
                (is_of_yes key from to n.v (sym k ∙ facts.0) (omega (arith, facts.1, s)) (omega (arith, facts.2, s))))
            | else-is_entry_of w ↦ rw w.kept-is (
                filtered_no p leaf.versions old i n.v n.is before
                (is_of_no key from to n.v (λ a b d. both_ways _ w.if-is_entry_of.false ((c.is_entry_of.ensures fits).1 (k ∙ a, omega (arith, b, s), omega (arith, d, s))))))
          ]);
    }

pub returns-clause-part : goal.returns-clause-part
returns-clause-part c = λ leaf is.
    let done : length leaf.versions ≤ c.loop.counter = omega (arith, c.loop-test.false, c.number2-count.ensures.number, leaf_count leaf c.args.octets.now is) in
    filtered_all (is_of c.args.key c.args.from (end_or c.args.end)) leaf.versions (versions_of c.loop.kept.items) c.loop.counter done (c.loop.invariant.kept leaf is)

pub split_at-requires-in-loop : goal.split_at-requires-in-loop
split_at-requires-in-loop c =
    let there : c.split_at-2.result.1.now ≡ area c.args.octets.now = c.split_at-2.ensures.back ∙ ap (drop 120) c.split_at.ensures.front in
    let whole = whole_here c.args.octets.now c.split_at-2.result.1.now c.loop.rest.now c.number2-count.result c.loop.counter there (c.if-not-begins_with_entries.ensures.0 refl) c.loop-test.true c.loop.invariant.there in
    omega (arith, c.whole_size.ensures, whole)
