use Rattle.shared_archive.proofs.Serving.{honest_of, same_blocks}
use Rattle.disk_archive.specs.Archives.{once_of}
use Rattle.query_threads.specs.Looks.{AreTheSettled}
use Rattle.std.proofs.Common.{ℕ, List, Option, inr, refl, subst, sym}
use Rattle.shared_archive.proofs.turns.seen.Goals as goal

pub returns-in-Ok-clause-represents : goal.returns-in-Ok-clause-represents
returns-in-Ok-clause-represents g c = λ p k.
    let honest = honest_of c.args.archive.now p k in
    same_blocks c.args.archive.now p k c.seen.new.self p.history c.seen.ensures.disk (c.seen.ensures.blocks honest) (c.seen.ensures.holds p.history (λ _. k.goes_on) (c.seen.ensures.honest.0 honest))

pub returns-in-Err-clause-represents : goal.returns-in-Err-clause-represents
returns-in-Err-clause-represents g c = λ p k.
    let honest = honest_of c.args.archive.now p k in
    same_blocks c.args.archive.now p k c.seen.new.self p.history c.seen.ensures.disk (c.seen.ensures.blocks honest) (c.seen.ensures.holds p.history (λ _. k.goes_on) (c.seen.ensures.honest.0 honest))

pub returns-in-Ok-clause-honest : goal.returns-in-Ok-clause-honest
returns-in-Ok-clause-honest g c = λ p k. c.in-Ok.ensures.seen (honest_of c.args.archive.now p k)

pub returns-in-Ok-clause-known : goal.returns-in-Ok-clause-known
returns-in-Ok-clause-known g c = λ p k. subst (λ (known : ℕ → Option (List ℕ)). AreTheSettled (g.O.OnceDisk.block_count (once_of c.args.archive.now)) known p.blocks) (sym (c.in-Ok.ensures.known (honest_of c.args.archive.now p k))) k.blocks

pub returns-in-Err-clause-trouble : goal.returns-in-Err-clause-trouble
returns-in-Err-clause-trouble g c = inr (c.in-Err.ensures.counts.counted refl)
