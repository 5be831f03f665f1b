use Rattle.std.proofs.Common.{inl, inr}
use Rattle.query_threads.proofs.Representing.{begins_with, never, promised}
use Rattle.query_threads.proofs.shared.Shared.new.Goals as goal

pub start-board-requires-clause-past : goal.start-board-requires-clause-past
start-board-requires-clause-past g c =
    let o = g.N.OnDisk.disk in elim (promised o) [
      | inl some ↦ (let p = c.requires.represented some in (p.0, g.met.A.Store.right c.args.archive p.0 p.1, ((λ _. (p.1, p.3)), (λ none. absurd (never o some none)), p.2)))
      | inr none ↦ (let p = begins_with c.args.opened.collectors c.requires.some in (p.0, p.1.right, ((λ some. absurd (never o some none)), (λ _. p.1), p.2)))
    ]
