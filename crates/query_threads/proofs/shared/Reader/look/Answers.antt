use Rattle.std.proofs.Common.{ℕ, List, sym, subst}
use Rattle.board.specs.Past.{Among}
use Rattle.query_threads.proofs.shared.Reader.look.Goals as goal

pub returns-clause-kept : goal.returns-clause-kept
returns-clause-kept g c named among =
    c.looks.ensures.kept named (c.self.invariant named) (subst (λ (l : List (ℕ × List ℕ)). Among l c.args.pass.now.past.blocks) (sym c.self.view_is) among)

pub returns-clause-walked : goal.returns-clause-walked
returns-clause-walked g c named among =
    c.looks.ensures.walked named (c.self.invariant named) (subst (λ (l : List (ℕ × List ℕ)). Among l c.args.pass.now.past.blocks) (sym c.self.view_is) among)

pub returns-clause-answer : goal.returns-clause-answer
returns-clause-answer g c named among =
    c.looks.ensures.answer named (c.self.invariant named) (subst (λ (l : List (ℕ × List ℕ)). Among l c.args.pass.now.past.blocks) (sym c.self.view_is) among)

pub returns-clause-reported : goal.returns-clause-reported
returns-clause-reported g c named among =
    c.looks.ensures.reported named (c.self.invariant named) (subst (λ (l : List (ℕ × List ℕ)). Among l c.args.pass.now.past.blocks) (sym c.self.view_is) among)
