use Rattle.std.proofs.Common.{◌≡◌, subst, sym, ap, ◌∙◌}
use Rattle.std.specs.Bool.{IsTrue}
use Rattle.std.proofs.lemmas.Bool.{false≢true}
use Rattle.std.specs.Option.{IfNone, IfSome}
use Rattle.archive_head.specs.Head.{octets_in}
use Rattle.archive_head.specs.inner.Places.{contents_at, HasNoReading}
use Rattle.archive_head.proofs.Places.{none_read, one_read}
use Rattle.archive_head.proofs.reading.read_in.Goals as goal

pub returns-in_default-clause-none : goal.returns-in_default-clause-none
returns-in_default-clause-none c = λ head n encodes.
    none_read c.args.unit c.octets.result.now c.args.page.now c.args.collectors head c.octets.ensures.value n encodes
    (subst (λ o. IfNone o (HasNoReading c.octets.result.now c.args.collectors)) c.in_default.is c.in_ok-head.ensures.none)

pub returns-then-not-branch-clause-none : goal.returns-then-not-branch-clause-none
returns-then-not-branch-clause-none c = λ head n encodes.
    let is : contents_at c.octets.result.now c.args.collectors ≡ head = one_read c.args.unit c.octets.result.now c.args.page.now c.args.collectors head c.octets.ensures.value n encodes in
    let found = subst (λ o. IfSome o (λ h. h ≡ contents_at c.octets.result.now c.args.collectors)) c.in-Some.is c.in_ok-head.ensures.head in
    let encoded = c.in_ok-is_encoded.ensures.encoded.1 (encodes.encoded ∙ ap (octets_in c.args.unit) (sym (found ∙ is))) in
    false≢true (subst IsTrue c.if-not-branch.true encoded)

pub returns-clause-one : goal.returns-clause-one
returns-clause-one c = λ other n encodes.
    let is : contents_at c.octets.result.now c.args.collectors ≡ other = one_read c.args.unit c.octets.result.now c.args.page.now c.args.collectors other c.octets.ensures.value n encodes in
    let found = subst (λ o. IfSome o (λ h. h ≡ contents_at c.octets.result.now c.args.collectors)) c.in-Some.is c.in_ok-head.ensures.head in
    sym (found ∙ is)
