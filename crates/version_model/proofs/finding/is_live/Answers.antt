use Rattle.std.proofs.Common.{◌∙◌, sym, refl}
use Rattle.version_model.specs.Entries.{versions_of}
use Rattle.version_model.proofs.api.AsOfs.{live_of, dead_of}
use Rattle.version_model.proofs.Entries.{is_entry, value_some, value_none}
use Rattle.version_model.proofs.finding.is_live.Goals as goal

pub returns-clause-live : goal.returns-clause-live
returns-clause-live c = λ yes.
    let vs = versions_of c.args.entries.now in
    let v = c.in-Some.ensures.0 in
    let same = is_entry c.args.entries.now c.in-Some.i c.index-entries-i.result v c.index-entries-i.is c.in-Some.ensures.1 in
    live_of vs c.args.key c.args.stamp v v.value refl c.in-Some.ensures.2 (rw same (value_some c.index-entries-i.result.value (sym c.is_some.ensures ∙ yes)))

pub returns-clause-dead : goal.returns-clause-dead
returns-clause-dead c = λ no.
    let vs = versions_of c.args.entries.now in
    let v = c.in-Some.ensures.0 in
    let same = is_entry c.args.entries.now c.in-Some.i c.index-entries-i.result v c.index-entries-i.is c.in-Some.ensures.1 in
    dead_of vs c.args.key c.args.stamp v c.requires.rising c.in-Some.ensures.2 (rw same (value_none c.index-entries-i.result.value (sym c.is_some.ensures ∙ no)))
