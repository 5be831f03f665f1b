use Rattle.std.proofs.Common.{rules, ◌≡◌, ◌∙◌, ℕ, List, Err, sym, subst}
use Rattle.once_store.specs.declared.error.BlockError.TheVariants.{Damaged}
use Rattle.tsb_node.specs.declared.leaf_part.ReadFault.TheVariants.{NotANode}
use Rattle.tsb_walk.proofs.Walking.{reads_on, only_kept}
use Rattle.tsb_check.specs.Counted.{IsSoundFor}
use Rattle.tsb_check.specs.inner.Reported.{IsReportedOf}
use Rattle.tsb_check.proofs.Reporting.{sound_whole}
use Rattle.tsb_check.proofs.past.reported_at.Goals as goal

pub returns-in_err-fetch-clause-reads : goal.returns-in_err-fetch-clause-reads
returns-in_err-fetch-clause-reads g c = λ well octets is.
    reads_on g.O.OnceDisk c.args.reader.now c.fetch.new.self c.args.seen.now c.fetch.new.seen c.args.place.now.part.block octets well is c.fetch.ensures.honest c.fetch.ensures.disk c.fetch.ensures.knows

pub returns-in_default-clause-reads : goal.returns-in_default-clause-reads
returns-in_default-clause-reads g c = λ well octets is.
    reads_on g.O.OnceDisk c.args.reader.now c.fetch.new.self c.args.seen.now c.fetch.new.seen c.args.place.now.part.block octets well is c.fetch.ensures.honest c.fetch.ensures.disk c.fetch.ensures.knows

pub returns-in-Ok-clause-reads : goal.returns-in-Ok-clause-reads
returns-in-Ok-clause-reads g c = λ well octets is.
    reads_on g.O.OnceDisk c.args.reader.now c.fetch.new.self c.args.seen.now c.fetch.new.seen c.args.place.now.part.block octets well is c.fetch.ensures.honest c.fetch.ensures.disk c.fetch.ensures.knows

pub returns-in-Err-NotANode-clause-reads : goal.returns-in-Err-NotANode-clause-reads
returns-in-Err-NotANode-clause-reads g c = λ well octets is.
    reads_on g.O.OnceDisk c.args.reader.now c.fetch.new.self c.args.seen.now c.fetch.new.seen c.args.place.now.part.block octets well is c.fetch.ensures.honest c.fetch.ensures.disk c.fetch.ensures.knows

pub returns-in-Err-Memory-clause-reads : goal.returns-in-Err-Memory-clause-reads
returns-in-Err-Memory-clause-reads g c = λ well octets is.
    reads_on g.O.OnceDisk c.args.reader.now c.fetch.new.self c.args.seen.now c.fetch.new.seen c.args.place.now.part.block octets well is c.fetch.ensures.honest c.fetch.ensures.disk c.fetch.ensures.knows

pub returns-in_err-fetch-clause-unsound : goal.returns-in_err-fetch-clause-unsound
returns-in_err-fetch-clause-unsound g c = λ well octets is m e sound.
    let d : c.fetch.result ≡ Err (Damaged m) = search rules in
    (c.fetch.ensures.damaged well.honest octets is.inside is.at m d).1 (sound_whole c.args.place.now octets sound)

pub returns-in_default-clause-unsound : goal.returns-in_default-clause-unsound
returns-in_default-clause-unsound g c = λ well octets is m e sound. c.in_default.ensures.none c.in_ok-fetch.ensures.kept.0 c.in_ok-fetch.ensures.kept.1

pub returns-in-Ok-clause-reported : goal.returns-in-Ok-clause-reported
returns-in-Ok-clause-reported g c = λ well octets is.
    let well' = reads_on g.O.OnceDisk c.args.reader.now c.fetch.new.self c.args.seen.now c.fetch.new.seen c.args.place.now.part.block octets well is c.fetch.ensures.honest c.fetch.ensures.disk c.fetch.ensures.knows in
    let same = only_kept g.O.OnceDisk c.args.reader.now c.fetch.new.self c.args.seen.now c.fetch.new.seen c.args.place.now.part.block octets well' (c.fetch.ensures.same well.honest) is c.in-Some.block.now c.in-Some.ensures.some in
    subst (λ (o : List ℕ). IsReportedOf c.args.place.now o c.in-Ok.reported) same c.in-Ok.ensures.reported

pub returns-in-Err-NotANode-clause-unsound : goal.returns-in-Err-NotANode-clause-unsound
returns-in-Err-NotANode-clause-unsound g c = λ well octets is m e sound.
    let well' = reads_on g.O.OnceDisk c.args.reader.now c.fetch.new.self c.args.seen.now c.fetch.new.seen c.args.place.now.part.block octets well is c.fetch.ensures.honest c.fetch.ensures.disk c.fetch.ensures.knows in
    let same = only_kept g.O.OnceDisk c.args.reader.now c.fetch.new.self c.args.seen.now c.fetch.new.seen c.args.place.now.part.block octets well' (c.fetch.ensures.same well.honest) is c.in-Some.block.now c.in-Some.ensures.some in
    let d : c.reported_by.result ≡ Err NotANode = search rules in
    c.reported_by.ensures.sound (subst (λ (o : List ℕ). IsSoundFor c.args.place.now o) (sym same) sound) d
