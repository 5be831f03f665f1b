use Rattle.std.proofs.Common.{◌≡◌, ◌+◌, ℕ, List, ◌++◌, ◌∷◌, [], take, map, subst, sym}
use Rattle.std.specs.List.{AllByRecursion, filter}
use Rattle.version_model.specs.declared.entry.Entry.{Entry}
use Rattle.version_model.specs.Versions.{Version}
use Rattle.route_history.specs.Spans.{before, version_at, subject_key, HasEvent, AreStamped}
use Rattle.route_history.proofs.Stamps.{take_item, before_more, all_more}
use Rattle.route_history.proofs.events.events_before.Goals as goal

pub loop-entry-preserved : goal.loop-entry-preserved
loop-entry-preserved c = λ each.
    let q = c.args.question.now in
    let key : ℕ = subject_key q c.args.subject in
    let done : List Entry = take c.loop-entry.entry-index c.args.entries.now in
    let item : Entry = c.entry-item.result in
    let step : take (c.loop-entry.entry-index + 1) c.args.entries.now ≡ done ++ item ∷ [] = take_item c.args.entries.now c.loop-entry.entry-index item c.entry-item.is c.loop-entry-test.true in
    let both = all_more (HasEvent q.peer q.prefix) key done item (subst (λ (es : List Entry). AllByRecursion (HasEvent q.peer q.prefix) (map (version_at key) es)) step each) in
    let put = c.in_ok-put_event.ensures (filter (before c.args.to) (map (version_at key) done)) both.1 (c.loop-entry.invariant both.0) in
    subst (λ (es : List Entry). AreStamped q (filter (before c.args.to) (map (version_at key) es)) c.put_event.new.news.items) (sym step)
    (subst (λ (vs : List Version). AreStamped q vs c.put_event.new.news.items) (sym (before_more key c.args.to done item)) put)
