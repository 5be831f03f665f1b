use Rattle.std.proofs.Common.{◌<◌, ℕ, List, Option, Some, None, option_map, subst, arith}
use Rattle.route_model.specs.Keys.{key_number, session_number}
use Rattle.route_model.proofs.api.Keys.{session_below}
use Rattle.route_model.specs.declared.change.Change.{Change}
use Rattle.route_history.specs.Spans.{IsChangeIn}
use Rattle.route_history.proofs.events.prefix_event.Goals as goal

pub returns-in_default-2 : goal.returns-in_default-2
returns-in_default-2 c = λ h.
    let p = c.args.question.now.peer in
    let x = c.args.question.now.prefix in
    let value : Option (List ℕ) = option_map (λ v. v.items) c.args.entry.now.value in
    let said : IsChangeIn p x value c.in_ok-change.field-0 = subst (λ (o : Option (List ℕ)). IsChangeIn p x o c.in_ok-change.field-0) c.value_in.ensures c.in_ok-change.ensures in
    let none : IsChangeIn p x value None = subst (λ (o : Option Change). IsChangeIn p x value o) c.in_default-2.is said in
    let below : session_number p < key_number p x = session_below p x c.encoded_len-len.ensures.valid c.address-address.ensures.valid in
    none c.args.entry.now.stamp h.0.change (λ e. omega (arith, e, below)) h.2.change

pub returns : goal.returns
returns c =
    let p = c.args.question.now.peer in
    let x = c.args.question.now.prefix in
    let value : Option (List ℕ) = option_map (λ v. v.items) c.args.entry.now.value in
    let said : IsChangeIn p x value c.in_ok-change.field-0 = subst (λ (o : Option (List ℕ)). IsChangeIn p x o c.in_ok-change.field-0) c.value_in.ensures c.in_ok-change.ensures in
    let some : IsChangeIn p x value (Some c.in-Some-2.change) = subst (λ (o : Option Change). IsChangeIn p x value o) c.in-Some-2.is said in
    record { time = c.in-Some.ensures.moment; change = some c.args.entry.now.stamp }
