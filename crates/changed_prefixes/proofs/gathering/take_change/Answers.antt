use Rattle.std.proofs.Common.{ℕ, sym, ◌∙◌, subst, Some, true≢false}
use Rattle.std.specs.BTreeMap.{Updates}
use Rattle.std.specs.Ordering.{nat_cmp}
use Rattle.std.proofs.lemmas.Option.{same_Some}
use Rattle.changed_prefixes.specs.inner.Gathered.{IsAskedFor}
use Rattle.changed_prefixes.proofs.Taking.{passed, taken}
use Rattle.changed_prefixes.proofs.gathering.take_change.Goals as goal

pub returns-in_default : goal.returns-in_default
returns-in_default c = λ changes g.
    passed c.args.question.now changes c.args.change.now c.args.table.now g (λ s e asked. c.in_default.not-Some s (c.spot_of.ensures ∙ e))

pub returns-in_ok-insert : goal.returns-in_ok-insert
returns-in_ok-insert c = λ changes g.
    taken c.args.question.now changes c.args.change.now c.args.table.now g c.in-Some.spot c.insert.new.self (sym c.spot_of.ensures ∙ c.in-Some.is) c.requires (c.is_asked_for.ensures.0 c.if-is_asked_for.true)
    (subst (λ (k : ℕ). Updates nat_cmp c.args.table.now c.insert.new.self k (Some c.in-Some.spot)) c.prefix.ensures.key c.in_ok-insert.ensures.updates)

pub returns-else-is_asked_for : goal.returns-else-is_asked_for
returns-else-is_asked_for c = λ changes g.
    passed c.args.question.now changes c.args.change.now c.args.table.now g (λ s e asked.
    let same = same_Some c.in-Some.spot s (sym c.in-Some.is ∙ (c.spot_of.ensures ∙ e)) in
    true≢false (sym (c.is_asked_for.ensures.1 (subst (IsAskedFor c.args.question.now) (sym same) asked)) ∙ c.if-is_asked_for.false))
