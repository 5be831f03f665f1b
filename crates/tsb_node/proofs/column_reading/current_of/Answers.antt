use Rattle.std.proofs.Common.{arith, ◌≡◌, ◌∙◌, length, ap, sym}
use Rattle.std.proofs.lemmas.List.{length-append}
use Rattle.tsb_node.specs.Columns.{current_octets}
use Rattle.tsb_node.proofs.PartLaws.{current-size, current_back, current_one}
use Rattle.tsb_node.specs.declared.column.Current.{Current}
use Rattle.tsb_node.proofs.column_reading.current_of.Goals as goal

pub returns-then-entries-lt25-clause-none : goal.returns-then-entries-lt25-clause-none
returns-then-entries-lt25-clause-none c = λ current front is.
    omega (arith, ap length is.encoded, length-append front (current_octets current), current-size current, c.if-entries-lt25.true)

pub returns-in_default-clause-none : goal.returns-in_default-clause-none
returns-in_default-clause-none c = λ current front is.
    let b = current_back c.args.entries.now current front is.encoded in
    c.in_default.ensures.none current is.entry (c.split_at.ensures.back ∙ b.1)

pub returns-then-not-may_follow-clause-none : goal.returns-then-not-may_follow-clause-none
returns-then-not-may_follow-clause-none c = λ current front is.
    let b = current_back c.args.entries.now current front is.encoded in
    let there : c.split_at.result.0.now ≡ front = c.split_at.ensures.front ∙ b.0 in
    let found = c.in-Some.ensures.found in
    let same : c.in-Some.current ≡ current = current_one c.in-Some.current current found.0 is.entry (sym found.1 ∙ c.split_at.ensures.back ∙ b.1) in
    let yes = c.may_follow.ensures.1 (λ none. ap (λ (x : Current). x.start) same ∙ is.alone (sym (ap length there) ∙ none)) in
    absurd (cc (yes, c.if-not-may_follow.true))
