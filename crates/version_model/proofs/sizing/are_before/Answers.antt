use Rattle.std.proofs.Common.{rules, arith, ap, ◌≡◌, inl, inr}
use Rattle.version_model.specs.Versions.{Version}
use Rattle.version_model.specs.Entries.{versions_of, version_of}
use Rattle.version_model.proofs.Orders.{ge_yes, ge_no}
use Rattle.version_model.proofs.Entries.{read_at, length-versions}
use Rattle.version_model.proofs.Points.{here_or_before, same_here}
use Rattle.std.proofs.lemmas.Option.{slice_get_within}
use Rattle.version_model.proofs.sizing.are_before.Goals as goal

pub returns-then-ge : goal.returns-then-ge
returns-then-ge c =
    let e = c.entry-item.result in
    let at = read_at c.args.entries.now c.loop-entry.entry-index e (omega arith) c.entry-item.is in
    (λ never. absurd (cc), λ above. absurd (omega (arith, ge_yes c.ge.result e.stamp c.args.stamp c.ge.ensures c.if-ge.true, above.above (version_of e) (record { place = c.loop-entry.entry-index; is = at }))))

pub loop-entry-preserved : goal.loop-entry-preserved
loop-entry-preserved c = λ k v lt is.
    let vs = versions_of c.args.entries.now in
    let e = c.entry-item.result in
    let at = read_at c.args.entries.now c.loop-entry.entry-index e (omega arith) c.entry-item.is in
    elim (here_or_before k c.loop-entry.entry-index lt) [
      | inl before ↦ c.loop-entry.invariant k v before is
      | inr here ↦ (let same : version_of e ≡ v = same_here vs 0 c.loop-entry.entry-index (version_of e) at k v here is in omega (arith, ge_no c.ge.result e.stamp c.args.stamp c.ge.ensures c.if-ge.false, ap (λ (x : Version). x.stamp) same))
    ]

pub returns : goal.returns
returns c = (λ _. record { above = λ v has. c.loop-entry.invariant has.place v (omega (arith, slice_get_within (versions_of c.args.entries.now) has.place v has.is, length-versions c.args.entries.now)) has.is }, λ _. search rules)
