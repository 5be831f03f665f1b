use Rattle.std.proofs.Common.{rules, ◌≤◌, inr, List, length, sym, ap, subst, arith}
use Rattle.std.proofs.lemmas.Bool.{false≢true}
use Rattle.version_model.specs.Entries.{version_of}
use Rattle.version_model.specs.LeafVersions.{IsFrom}
use Rattle.version_model.specs.Sizes.{octets}
use Rattle.version_model.specs.Versions.{Version, Has, IsAbove}
use Rattle.tsb_tree.specs.declared.whole.Whole.{Whole}
use Rattle.tsb_tree.specs.Needs.{IsWhatStays}
use Rattle.tsb_tree.proofs.GrowingWhole.{taken_whole, taken_most, taken_none, taken_only, taken_stays, taken_on}
use Rattle.tsb_tree.proofs.Outliving.{or_else}
use Rattle.tsb_tree.proofs.growing_whole.grow.Goals as goal

pub returns-in_default-clause-takes : goal.returns-in_default-clause-takes
returns-in_default-clause-takes g c honest blocks represents_node =
    (blocks, taken_on c.args.whole.now c.take.new.whole (version_of c.args.entry.now) c.in_ok-take.ensures.taken g.O.OnceDisk c.args.shelf.now blocks represents_node)

pub returns-in_default-clause-whole : goal.returns-in_default-clause-whole
returns-in_default-clause-whole g c =
    taken_whole c.args.whole.now c.take.new.whole (version_of c.args.entry.now) c.in_ok-take.ensures.taken c.requires.whole c.requires.low c.requires.high c.requires.small

pub returns-in_default-clause-most : goal.returns-in_default-clause-most
returns-in_default-clause-most g c =
    taken_most c.args.whole.now c.take.new.whole (version_of c.args.entry.now) c.in_ok-take.ensures.taken c.args.leaf.now.image c.requires.leaf c.requires.small

pub returns-in_default-clause-only : goal.returns-in_default-clause-only
returns-in_default-clause-only g c v h =
    taken_only c.args.whole.now c.take.new.whole (version_of c.args.entry.now) c.in_ok-take.ensures.taken v h

pub split_by_time-requires-clause-whole : goal.split_by_time-requires-clause-whole
split_by_time-requires-clause-whole g c =
    taken_whole c.args.whole.now c.take.new.whole (version_of c.args.entry.now) c.in_ok-take.ensures.taken c.requires.whole c.requires.low c.requires.high c.requires.small

pub returns-in-Ok-clause-most : goal.returns-in-Ok-clause-most
returns-in-Ok-clause-most g c =
    let most : octets c.take.new.whole.leaf ≤ 19363 = taken_most c.args.whole.now c.take.new.whole (version_of c.args.entry.now) c.in_ok-take.ensures.taken c.args.leaf.now.image c.requires.leaf c.requires.small in
    let size : octets c.in-Some.newer ≤ octets c.take.new.whole.leaf = search rules in
    omega (arith, most, size, ap octets c.in-Ok.ensures.leaf)

pub returns-in-Ok-clause-only : goal.returns-in-Ok-clause-only
returns-in-Ok-clause-only g c v h =
    let from : IsFrom c.take.new.whole.leaf c.args.entry.now.stamp c.in-Some.newer = search rules in
    let newer : Has c.in-Some.newer v = subst (λ (l : List Version). Has l v) c.in-Ok.ensures.leaf h in
    taken_only c.args.whole.now c.take.new.whole (version_of c.args.entry.now) c.in_ok-take.ensures.taken v (from.is_in v newer)

pub returns-in_default-clause-stays : goal.returns-in_default-clause-stays
returns-in_default-clause-stays g c =
    let what : IsWhatStays c.take.new.whole.leaf c.args.entry.now.stamp c.take.new.whole.leaf = search rules in
    taken_stays c.args.whole.now c.take.new.whole (version_of c.args.entry.now) c.in_ok-take.ensures.taken c.take.new.whole.leaf what

pub returns-in-Ok-clause-stays : goal.returns-in-Ok-clause-stays
returns-in-Ok-clause-stays g c =
    let what : IsWhatStays c.take.new.whole.leaf c.args.entry.now.stamp c.in-Some.newer = search rules in
    taken_stays c.args.whole.now c.take.new.whole (version_of c.args.entry.now) c.in_ok-take.ensures.taken c.split_by_time.new.whole.leaf (subst (λ (l : List Version). IsWhatStays c.take.new.whole.leaf c.args.entry.now.stamp l) (sym c.in-Ok.ensures.leaf) what)

pub returns-in-Ok-clause-one_block : goal.returns-in-Ok-clause-one_block
returns-in-Ok-clause-one_block g c = inr (or_else (λ (full : 648 ≤ length c.take.new.whole.parts.items). subst (λ (w : Whole). 648 ≤ length w.parts.items) c.in_ok-take.ensures.taken full) c.split_by_time.ensures.one_block)

pub returns-in-Err-clause-one_block : goal.returns-in-Err-clause-one_block
returns-in-Err-clause-one_block g c = inr (or_else (λ (full : 648 ≤ length c.take.new.whole.parts.items). subst (λ (w : Whole). 648 ≤ length w.parts.items) c.in_ok-take.ensures.taken full) c.split_by_time.ensures.one_block)

pub returns-in_default-clause-none_left : goal.returns-in_default-clause-none_left
returns-in_default-clause-none_left g c honest none outlived =
    let above : IsAbove c.args.whole.now.leaf c.args.entry.now.stamp = search rules in
    let what : IsWhatStays c.take.new.whole.leaf c.args.entry.now.stamp c.take.new.whole.leaf = search rules in
    absurd (taken_none c.args.whole.now c.take.new.whole (version_of c.args.entry.now) c.in_ok-take.ensures.taken above what outlived)

pub returns-in-Ok-clause-none_left : goal.returns-in-Ok-clause-none_left
returns-in-Ok-clause-none_left g c honest none outlived = absurd (false≢true (c.in-Ok.ensures.none_left honest none))
