use Rattle.std.proofs.Common.{◌≡◌, ◌∙◌, ℕ, ◌≤◌, suc, inr, sym, ap, subst}
use Rattle.board.specs.Views.{View, durable_of, with_seen}
use Rattle.board.proofs.Numbers.{number_here}
use Rattle.server.proofs.replying.load_count.Goals as goal

pub returns-clause-number : goal.returns-clause-number
returns-clause-number g c = sym (ap (λ (v : View). durable_of v c.args.collector) c.durable.ensures.seen ∙ number_here c.args.pass.now.numbers (suc c.args.collector) c.durable.result)

pub returns-clause-sees : goal.returns-clause-sees
returns-clause-sees g c =
    let number : c.durable.result ≡ durable_of c.durable.new.pass c.args.collector = sym (ap (λ (v : View). durable_of v c.args.collector) c.durable.ensures.seen ∙ number_here c.args.pass.now.numbers (suc c.args.collector) c.durable.result) in
    inr (c.durable.ensures.seen ∙ ap (λ (n : ℕ). with_seen c.args.pass.now (suc c.args.collector) n) number, subst (λ (n : ℕ). durable_of c.args.pass.now c.args.collector ≤ n) number c.durable.ensures.rises)
