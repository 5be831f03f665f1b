use Rattle.std.proofs.Common.{◌≡◌, ◌-◌, suc, inl, inr, Some, get_or, slice_get, subst, ap, arith, rules}
use Rattle.std.proofs.lemmas.Bool.{cases_lt}
use Rattle.std.proofs.lemmas.Option.{slice_get_within}
use Rattle.version_model.specs.declared.entry.Entry.{Entry}
use Rattle.version_model.specs.Versions.{Version}
use Rattle.version_model.specs.Entries.{versions_of, version_of}
use Rattle.version_model.proofs.Orders.{ge_yes, ge_no}
use Rattle.version_model.proofs.Entries.{read_at, is_entry, length-versions}
use Rattle.version_model.proofs.Climbing.{climbs_rising}
use Rattle.version_model.proofs.sizing.are_rising.Goals as goal

pub returns-then-ge : goal.returns-then-ge
returns-then-ge c =
    let es = c.args.entries.now in
    let e = c.index-entries-i.result in
    let f = c.index-entries-i-in-loop-i.result in
    let at = read_at es (c.loop-i.i - 1) e (omega arith) c.index-entries-i.is in
    let at_next = read_at es c.loop-i.i f (omega arith) c.index-entries-i-in-loop-i.is in
    (λ never. absurd (cc), λ rising. absurd (omega (arith, ge_yes c.ge.result (get_or es (c.loop-i.i - 1) e).stamp (get_or es c.loop-i.i f).stamp c.ge.ensures c.if-ge.true, ap (λ (x : Entry). x.stamp) c.index-entries-i.is, ap (λ (x : Entry). x.stamp) c.index-entries-i-in-loop-i.is, rising.rises (c.loop-i.i - 1) c.loop-i.i (version_of e) (version_of f) (omega arith) at at_next)))

pub loop-i-preserved : goal.loop-i-preserved
loop-i-preserved c = λ k v w lt at at_next.
    let es = c.args.entries.now in
    let e = c.index-entries-i.result in
    let f = c.index-entries-i-in-loop-i.result in
    elim (cases_lt (suc k) c.loop-i.i) [
      | inl before ↦ c.loop-i.invariant k v w before at at_next
      | inr here ↦ (let is : v ≡ version_of e = is_entry es (c.loop-i.i - 1) e v c.index-entries-i.is (subst (λ n. slice_get (versions_of es) n ≡ Some v) (let h : k ≡ c.loop-i.i - 1 = omega arith in h) at) in
          let is_next : w ≡ version_of f = is_entry es c.loop-i.i f w c.index-entries-i-in-loop-i.is (subst (λ n. slice_get (versions_of es) n ≡ Some w) (let h : suc k ≡ c.loop-i.i = omega arith in h) at_next) in
          omega (arith, ge_no c.ge.result (get_or es (c.loop-i.i - 1) e).stamp (get_or es c.loop-i.i f).stamp c.ge.ensures c.if-ge.false, ap (λ (x : Entry). x.stamp) c.index-entries-i.is, ap (λ (x : Entry). x.stamp) c.index-entries-i-in-loop-i.is, ap (λ (x : Version). x.stamp) is, ap (λ (x : Version). x.stamp) is_next))
    ]

pub returns : goal.returns
returns c = (
  λ _. climbs_rising (versions_of c.args.entries.now) (record {
    pair = λ k v w at at_next. c.loop-i.invariant k v w (omega (arith, slice_get_within (versions_of c.args.entries.now) (suc k) w at_next, length-versions c.args.entries.now)) at at_next;
  }),
  λ _. search rules,
)
