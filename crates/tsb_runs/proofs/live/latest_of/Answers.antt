use Rattle.std.proofs.Common.{◌≡◌, List, [], ◌∷◌, length, refl, sym, subst, arith}
use Rattle.std.specs.Vec.Iter.{into_iter_items}
use Rattle.version_model.specs.declared.entry.Entry.{Entry}
use Rattle.version_model.specs.Entries.{versions_of}
use Rattle.tsb_runs.proofs.Latest.{AreSeen, none_seen, sees_later, sees_other, all_seen}
use Rattle.tsb_runs.proofs.live.latest_of.Goals as goal

no_entries : (l : List Entry) → length l ≡ 0 → l ≡ []
no_entries [] none = refl
no_entries (entry ∷ l) none = absurd (omega (arith, none))

pub loop-entry-init : goal.loop-entry-init
loop-entry-init c = λ rising.
    subst (λ (l : List Entry). AreSeen (versions_of c.args.entries.items) c.args.stamp c.args.from l c.new-latest.result) (sym c.into_iter-entry-iterator.ensures.into_iter_gives.0)
    (none_seen c.args.stamp c.args.from c.args.entries.items c.new-latest.result c.new-latest.ensures.empty rising)

pub returns : goal.returns
returns c = λ rising.
    let step = c.in-None.ensures.steps in
    all_seen (versions_of c.args.entries.items) c.args.stamp c.args.from (into_iter_items c.loop-entry.entry-iterator) c.loop-entry.latest (no_entries (into_iter_items c.loop-entry.entry-iterator) (omega (arith, c.loop-entry.entry-iterator.rest.ok, step.0))) rising (c.loop-entry.invariant rising)

pub loop-entry-preserved-in-Continue-1 : goal.loop-entry-preserved-in-Continue-1
loop-entry-preserved-in-Continue-1 c = λ rising.
    let vs = versions_of c.args.entries.items in
    let rest = into_iter_items c.next.new.self in
    let seen = subst (λ (l : List Entry). AreSeen vs c.args.stamp c.args.from l c.loop-entry.latest) c.in-Some.ensures.steps.0 (c.loop-entry.invariant rising) in
    let both = c.counts.ensures.0 c.if-counts.true in
    sees_later vs c.args.stamp c.args.from c.in-Some.entry rest c.loop-entry.latest seen c.put.new.latest both.0 both.1 c.in_ok-put.ensures

pub loop-entry-preserved-else-counts : goal.loop-entry-preserved-else-counts
loop-entry-preserved-else-counts c = λ rising.
    let vs = versions_of c.args.entries.items in
    let rest = into_iter_items c.next.new.self in
    let seen = subst (λ (l : List Entry). AreSeen vs c.args.stamp c.args.from l c.loop-entry.latest) c.in-Some.ensures.steps.0 (c.loop-entry.invariant rising) in
    sees_other vs c.args.stamp c.args.from c.in-Some.entry rest c.loop-entry.latest seen (λ low upto. absurd (cc (c.counts.ensures.1 (low, upto), c.if-counts.false)))

pub loop-entry-preserved : goal.loop-entry-preserved
loop-entry-preserved c = λ rising.
    let vs = versions_of c.args.entries.items in
    let rest = into_iter_items c.next.new.self in
    let seen = subst (λ (l : List Entry). AreSeen vs c.args.stamp c.args.from l c.loop-entry.latest) c.in-Some.ensures.steps.0 (c.loop-entry.invariant rising) in
    sees_other vs c.args.stamp c.args.from c.in-Some.entry rest c.loop-entry.latest seen (λ low upto. absurd (cc (c.counts.ensures.1 (low, upto), c.if-counts.false)))
