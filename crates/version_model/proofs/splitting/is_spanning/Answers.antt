use Rattle.std.proofs.Common.{◌≡◌, subst, IsSome}
use Rattle.version_model.specs.Versions.{Version, AsOf}
use Rattle.version_model.specs.Entries.{version_of, versions_of}
use Rattle.version_model.proofs.Entries.{is_entry, spans_iff, some_value}
use Rattle.version_model.proofs.splitting.is_spanning.Goals as goal

pub returns-in-Some : goal.returns-in-Some
returns-in-Some c = λ v at.
    let vs = versions_of c.args.entries.now in
    let e = c.index-entries-i.result in
    let is : v ≡ version_of e = is_entry c.args.entries.now c.args.i e v c.index-entries-i.is at in
    let holds : AsOf vs v.key c.args.at c.in-Some.ensures.0 = rw is c.in-Some.ensures.2 in
    let some : IsSome v.value = rw is (some_value e.value c.if-is_none.ensures) in
    spans_iff vs v c.in-Some.ensures.0 c.args.i c.in-Some.place c.args.at c.requires.rising at c.in-Some.ensures.1 holds some

pub returns-in-None : goal.returns-in-None
returns-in-None c = λ v at.
    let vs = versions_of c.args.entries.now in
    let e = c.index-entries-i.result in
    let is : v ≡ version_of e = is_entry c.args.entries.now c.args.i e v c.index-entries-i.is at in
    (λ never. absurd (cc), λ h. absurd (c.in-None.ensures v (subst (λ (x : Version). AsOf vs x.key c.args.at v) is h.0)))
