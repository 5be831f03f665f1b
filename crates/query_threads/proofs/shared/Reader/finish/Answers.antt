use Rattle.std.proofs.Common.{ℕ, List, IfSome, sym, subst}
use Rattle.board.specs.Past.{Past, Among}
use Rattle.query_threads.specs.Looks.{AreSettled, IsErrandOn}
use Rattle.query_threads.proofs.Looking.{settled_of, among_of, on_ok}
use Rattle.query_threads.proofs.shared.Reader.finish.Goals as goal

pub returns-clause-kept : goal.returns-clause-kept
returns-clause-kept g c named p on among =
    let d = g.A.Store.reads c.self.inside.blocks in
    let known = g.A.Store.known c.args.seen.now in
    let mine = g.A.Store.kept c.self.inside.blocks in
    let here : IsErrandOn (λ e. g.A.Store.located e c.args.cursor.now) g.A.Store.honest g.A.Store.block_count g.A.Store.known p c.args.errand c.args.seen.now d = subst (λ o. IfSome o (IsErrandOn (λ e. g.A.Store.located e c.args.cursor.now) g.A.Store.honest g.A.Store.block_count g.A.Store.known p c.args.errand c.args.seen.now)) (c.self.invariant named) on in
    let was : AreSettled (g.A.Store.block_count d) known mine = settled_of (g.A.Store.block_count d) known p.blocks mine here.found (subst (λ (l : List (ℕ × List ℕ)). Among l p.blocks) (sym c.self.view_is) among) in
    among_of _ _ p.blocks _ here.found (c.finish.ensures.kept p here was)

pub returns-clause-gathered : goal.returns-clause-gathered
returns-clause-gathered g c named =
    let d = g.A.Store.reads c.self.inside.blocks in
    let known = g.A.Store.known c.args.seen.now in
    let mine = g.A.Store.kept c.self.inside.blocks in
    on_ok c.finish.result
    ((p : Past) → IsErrandOn (λ e. g.A.Store.located e c.args.cursor.now) g.A.Store.honest g.A.Store.block_count g.A.Store.known p c.args.errand c.args.seen.now d → AreSettled (g.A.Store.block_count d) known mine → g.A.Store.gathered c.finish.new.cursor p.history)
    ((p : Past) → IfSome g.N.OnDisk.disk (IsErrandOn (λ e. g.A.Store.located e c.args.cursor.now) g.A.Store.honest g.A.Store.block_count g.A.Store.known p c.args.errand c.args.seen.now) → Among c.args.self.now p.blocks → g.A.Store.gathered c.finish.new.cursor p.history)
    c.finish.ensures.gathered
    (λ f p on among.
    let here : IsErrandOn (λ e. g.A.Store.located e c.args.cursor.now) g.A.Store.honest g.A.Store.block_count g.A.Store.known p c.args.errand c.args.seen.now d = subst (λ o. IfSome o (IsErrandOn (λ e. g.A.Store.located e c.args.cursor.now) g.A.Store.honest g.A.Store.block_count g.A.Store.known p c.args.errand c.args.seen.now)) (c.self.invariant named) on in
    f p here (settled_of (g.A.Store.block_count d) known p.blocks mine here.found (subst (λ (l : List (ℕ × List ℕ)). Among l p.blocks) (sym c.self.view_is) among)))

pub returns-clause-sound : goal.returns-clause-sound
returns-clause-sound g c named p on among =
    let d = g.A.Store.reads c.self.inside.blocks in
    let known = g.A.Store.known c.args.seen.now in
    let mine = g.A.Store.kept c.self.inside.blocks in
    let here : IsErrandOn (λ e. g.A.Store.located e c.args.cursor.now) g.A.Store.honest g.A.Store.block_count g.A.Store.known p c.args.errand c.args.seen.now d = subst (λ o. IfSome o (IsErrandOn (λ e. g.A.Store.located e c.args.cursor.now) g.A.Store.honest g.A.Store.block_count g.A.Store.known p c.args.errand c.args.seen.now)) (c.self.invariant named) on in
    c.finish.ensures.sound p here (settled_of (g.A.Store.block_count d) known p.blocks mine here.found (subst (λ (l : List (ℕ × List ℕ)). Among l p.blocks) (sym c.self.view_is) among))
