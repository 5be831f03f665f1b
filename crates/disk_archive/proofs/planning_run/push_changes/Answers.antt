use Rattle.std.proofs.Common.{rules, ◌≡◌, ℕ, Bool, false, sym, ◌∙◌, subst}
use Rattle.disk_models.specs.Once.{settled_in}
use Rattle.archive_head.specs.Head.{Contents}
use Rattle.disk_archive.specs.inner.Applications.{MovesOn}
use Rattle.disk_archive.specs.inner.Runs.{WithLeaf}
use Rattle.disk_archive.proofs.Outcomes.{if_none_at}
use Rattle.tsb_tree.specs.declared.leaf_opening.OpenLeaf.{OpenLeaf}
use Rattle.disk_archive.proofs.Running.{below_still, moves_again, waits_still}
use Rattle.disk_archive.proofs.planning_run.push_changes.Goals as goal

pub loop-init : goal.loop-init
loop-init c = record {
  moves = c.in-Some.ensures.moves;
  stays = c.in-Some.ensures.stays;
  lanes = c.push_change.ensures.lanes;
  fresh = c.push_change.ensures.fresh;
  block = c.push_change.ensures.block;
  root = c.push_change.ensures.root;
  page = c.push_change.ensures.page;
}

pub loop-preserved : goal.loop-preserved
loop-preserved c =
    let i = c.loop.invariant in
    let e = c.push_change-in-loop.ensures in
    let some = c.in-Some-push_change.ensures in
    let part : c.loop.whole ≡ false = search rules in
    record {
      moves = λ count o under pages h later w b here below.
          (let s = c.args.settings in
          let m = i.moves count o under pages h later w b here below in
          let old = WithLeaf under c.args.head.now.root c.loop.leaf in
          let new = WithLeaf under c.args.head.now.root c.push_change-in-loop.new.leaf in
          let w' = subst (λ (r : ℕ). WithLeaf under r c.loop.leaf m.pages) (sym i.root) m.shown in
          let more = some.moves count o under m.pages m.after later w' m.head_represents (waits_still count s (settled_in o) old c.loop.head c.loop.whole h m _ later part here) (below_still count s (settled_in o) old c.loop.head c.loop.whole h m _ part below) in
          moves_again count s (settled_in o) old new c.loop.head c.push_change-in-loop.new.head c.loop.whole c.in-Some-push_change.all h m part
          (subst (λ (r : ℕ). MovesOn count s (settled_in o) (WithLeaf under r c.push_change-in-loop.new.leaf) c.push_change-in-loop.new.head c.in-Some-push_change.all m.after) i.root more));
      stays = λ still. some.stays still ∙ i.stays part;
      lanes = e.lanes ∙ i.lanes;
      fresh = e.fresh ∙ i.fresh;
      block = e.block ∙ i.block;
      root = e.root ∙ i.root;
      page = e.page ∙ i.page;
    }

pub returns-then-whole-clause-moves : goal.returns-then-whole-clause-moves
returns-then-whole-clause-moves c count o under pages h later w b here below =
    subst (λ (x : Bool). MovesOn count c.args.settings (settled_in o) (WithLeaf under c.args.head.now.root c.loop.leaf) c.loop.head x h) c.if-whole.true (c.loop.invariant.moves count o under pages h later w b here below)

pub returns-in_default-push_change-clause-moves : goal.returns-in_default-push_change-clause-moves
returns-in_default-push_change-clause-moves c count o under pages h later w b here below =
    let none = c.in_default-push_change.is in
    let e = c.push_change-in-loop.ensures in
    let head = if_none_at c.push_change-in-loop.result _ none e.as_before in
    let leaf = if_none_at c.push_change-in-loop.result _ none e.none in
    subst (λ (x : OpenLeaf). MovesOn count c.args.settings (settled_in o) (WithLeaf under c.args.head.now.root x) c.push_change-in-loop.new.head false h) (sym leaf)
    (subst (λ (x : Contents). MovesOn count c.args.settings (settled_in o) (WithLeaf under c.args.head.now.root c.loop.leaf) x false h) (sym head)
    (subst (λ (x : Bool). MovesOn count c.args.settings (settled_in o) (WithLeaf under c.args.head.now.root c.loop.leaf) c.loop.head x h) c.if-whole.false (c.loop.invariant.moves count o under pages h later w b here below)))
