use Rattle.std.proofs.Common.{◌∙◌, ◌+◌, ℕ, length, ap, inl, inr, sym}
use Rattle.board.specs.Past.{Past}
use Rattle.query_threads.proofs.Catching.{as_many}
use Rattle.query_threads.proofs.Representing.{never, promised, stays_as}
use Rattle.query_threads.proofs.desk.follow.Goals as goal

pub advance-requires : goal.advance-requires
advance-requires g c =
    let o = g.N.OnDisk.disk in record {
      past = elim (promised o) [
        | inl some ↦ (let q = c.requires.past some in (q.0, g.met.A.Store.right c.args.archive.now q.0 q.2, q.1, ((λ _. (q.2, q.3)), (λ none. absurd (never o some none)))))
        | inr none ↦ (let all = c.requires.all none in (c.args.writer.now.past, all.right, stays_as c.args.writer.now.past all.right, ((λ some. absurd (never o some none)), (λ _. all))))
      ];
    }

pub catch_up-requires-clause-words : goal.catch_up-requires-clause-words
catch_up-requires-clause-words g c = c.requires.words ∙ ap (λ (n : ℕ). n + 1) (sym (as_many c.args.writer.now.past c.advance.new.writer.past c.advance.ensures.goes_on))

pub returns-clause-words : goal.returns-clause-words
returns-clause-words g c =
    c.requires.words
    ∙ (ap (λ (n : ℕ). n + 1) (sym (as_many c.args.writer.now.past c.advance.new.writer.past c.advance.ensures.goes_on))
    ∙ ap (λ (p : Past). length p.history.intakes + 1) (sym c.catch_up.ensures.past))
