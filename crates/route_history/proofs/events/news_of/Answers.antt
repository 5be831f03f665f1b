use Rattle.std.proofs.Common.{rules, ◌≡◌, ◌++◌, List, map, subst, sym, ap, ◌∙◌}
use Rattle.std.specs.List.{filter}
use Rattle.route_model.specs.Keys.{key_number, session_number}
use Rattle.route_meaning.specs.Merged.{by_time}
use Rattle.route_meaning.proofs.Stable.{sorted-by_time}
use Rattle.route_history.specs.declared.events.Stamped.{Stamped}
use Rattle.version_model.specs.Versions.{Version}
use Rattle.route_history.specs.Spans.{before, version_at, stamp_in, AreStamped}
use Rattle.route_history.proofs.Stamps.{stamp_of_event, stamped_append, stamped_sorted}
use Rattle.route_history.proofs.events.news_of.Goals as goal

pub returns : goal.returns
returns c = λ ea eb.
    let q = c.args.question.now in
    let sorted : c.sort_by_key.new.self.items ≡ by_time stamp_of_event (c.in_ok-news.news.items ++ c.in_ok-ends.ends.items) = sorted-by_time stamp_of_event _ _ c.in_ok-sort_by_key.ensures.sorted c.sort_by_key.ensures.stable (λ a r f' k. search rules) ∙ ap (by_time stamp_of_event) c.in_ok-append.ensures.items in
    let va : List Version = filter (before c.args.to) (map (version_at (key_number q.peer q.prefix)) c.args.route.now) in
    let vb : List Version = filter (before c.args.to) (map (version_at (session_number q.peer)) c.args.session.now) in
    subst (λ (l : List Stamped). AreStamped q (by_time stamp_in (va ++ vb)) l) (sym sorted)
    (stamped_sorted q (va ++ vb) (c.in_ok-news.news.items ++ c.in_ok-ends.ends.items) (stamped_append q va vb c.in_ok-news.news.items c.in_ok-ends.ends.items (c.in_ok-news.ensures ea) (c.in_ok-ends.ensures eb)))
