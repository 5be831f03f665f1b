use Rattle.std.proofs.Common.{rules, ◌≡◌, ◌∙◌, ℕ, List, Err, sym, subst}
use Rattle.once_store.specs.declared.error.BlockError.TheVariants.{Damaged}
use Rattle.tsb_walk.specs.Ways.{IsFit}
use Rattle.tsb_walk.specs.inner.Steps.{IsStep}
use Rattle.tsb_walk.proofs.Insides.{inside_fewer, inside_read}
use Rattle.tsb_walk.proofs.Blocks.{fit_whole}
use Rattle.tsb_walk.proofs.Walking.{reads_on, only_kept}
use Rattle.tsb_walk.proofs.walk.take_step.Goals as goal

pub returns-in_err-fetch-clause-reads : goal.returns-in_err-fetch-clause-reads
returns-in_err-fetch-clause-reads g c = λ well octets is.
    reads_on g.O.OnceDisk c.args.reader.now c.fetch.new.self c.args.seen.now c.fetch.new.seen c.args.place.now.part.block octets well is c.fetch.ensures.honest c.fetch.ensures.disk c.fetch.ensures.knows

pub returns-in_err-fetch-clause-unfit : goal.returns-in_err-fetch-clause-unfit
returns-in_err-fetch-clause-unfit g c = λ well octets is m e fit.
    let d : c.fetch.result ≡ Err (Damaged m) = search rules in
    (c.fetch.ensures.damaged well.honest octets is.inside is.at m d).1 (fit_whole c.args.place.now octets c.args.key c.args.stamp fit)

pub returns-in_default-clause-reads : goal.returns-in_default-clause-reads
returns-in_default-clause-reads g c = λ well octets is.
    reads_on g.O.OnceDisk c.args.reader.now c.fetch.new.self c.args.seen.now c.fetch.new.seen c.args.place.now.part.block octets well is c.fetch.ensures.honest c.fetch.ensures.disk c.fetch.ensures.knows

pub returns-in_default-clause-unfit : goal.returns-in_default-clause-unfit
returns-in_default-clause-unfit g c = λ well octets is m e fit. c.in_default.ensures.none c.in_ok-fetch.ensures.kept.0 c.in_ok-fetch.ensures.kept.1

pub returns-in-Some-step_in-clause-step : goal.returns-in-Some-step_in-clause-step
returns-in-Some-step_in-clause-step g c = λ well octets is fit.
    let well' = reads_on g.O.OnceDisk c.args.reader.now c.fetch.new.self c.args.seen.now c.fetch.new.seen c.args.place.now.part.block octets well is c.fetch.ensures.honest c.fetch.ensures.disk c.fetch.ensures.knows in
    let same = only_kept g.O.OnceDisk c.args.reader.now c.fetch.new.self c.args.seen.now c.fetch.new.seen c.args.place.now.part.block octets well' (c.fetch.ensures.same well.honest) is c.in-Some.block.now c.in-Some.ensures.some in
    let here : c.octets.result.now ≡ octets = c.octets.ensures.value ∙ same in
    subst (λ (o : List ℕ). IsStep c.args.place.now o c.args.key c.args.stamp c.in-Some-step_in.step) here
    (c.in-Some-step_in.ensures.step (subst (λ (o : List ℕ). IsFit c.args.place.now o c.args.key c.args.stamp) (sym here) fit))

pub returns-in-Some-step_in-clause-reads : goal.returns-in-Some-step_in-clause-reads
returns-in-Some-step_in-clause-reads g c = λ well octets is.
    reads_on g.O.OnceDisk c.args.reader.now c.fetch.new.self c.args.seen.now c.fetch.new.seen c.args.place.now.part.block octets well is c.fetch.ensures.honest c.fetch.ensures.disk c.fetch.ensures.knows

pub returns-in-None-clause-reads : goal.returns-in-None-clause-reads
returns-in-None-clause-reads g c = λ well octets is.
    reads_on g.O.OnceDisk c.args.reader.now c.fetch.new.self c.args.seen.now c.fetch.new.seen c.args.place.now.part.block octets well is c.fetch.ensures.honest c.fetch.ensures.disk c.fetch.ensures.knows

pub returns-in-None-clause-unfit : goal.returns-in-None-clause-unfit
returns-in-None-clause-unfit g c = λ well octets is m e fit.
    let well' = reads_on g.O.OnceDisk c.args.reader.now c.fetch.new.self c.args.seen.now c.fetch.new.seen c.args.place.now.part.block octets well is c.fetch.ensures.honest c.fetch.ensures.disk c.fetch.ensures.knows in
    let same = only_kept g.O.OnceDisk c.args.reader.now c.fetch.new.self c.args.seen.now c.fetch.new.seen c.args.place.now.part.block octets well' (c.fetch.ensures.same well.honest) is c.in-Some.block.now c.in-Some.ensures.some in
    let here : c.octets.result.now ≡ octets = c.octets.ensures.value ∙ same in
    c.in-None.ensures.none (subst (λ (o : List ℕ). IsFit c.args.place.now o c.args.key c.args.stamp) (sym here) fit)

pub returns-in_err-fetch-clause-inside : goal.returns-in_err-fetch-clause-inside
returns-in_err-fetch-clause-inside g c = inside_fewer g.O.OnceDisk c.args.reader.now c.fetch.new.self c.fetch.ensures.disk c.in_err-fetch.ensures.refused

pub returns-in_default-clause-inside : goal.returns-in_default-clause-inside
returns-in_default-clause-inside g c = inside_read g.O.OnceDisk c.args.reader.now c.fetch.new.self c.args.place.now.part.block c.fetch.ensures.disk c.fetch.ensures.first c.in_ok-fetch.ensures.added (λ le none. absurd (let e = c.in_ok-fetch.ensures.beyond le none in cc))

pub returns-in-Some-step_in-clause-inside : goal.returns-in-Some-step_in-clause-inside
returns-in-Some-step_in-clause-inside g c = inside_read g.O.OnceDisk c.args.reader.now c.fetch.new.self c.args.place.now.part.block c.fetch.ensures.disk c.fetch.ensures.first c.in_ok-fetch.ensures.added (λ le none. absurd (let e = c.in_ok-fetch.ensures.beyond le none in cc))

pub returns-in-None-clause-inside : goal.returns-in-None-clause-inside
returns-in-None-clause-inside g c = inside_read g.O.OnceDisk c.args.reader.now c.fetch.new.self c.args.place.now.part.block c.fetch.ensures.disk c.fetch.ensures.first c.in_ok-fetch.ensures.added (λ le none. absurd (let e = c.in_ok-fetch.ensures.beyond le none in cc))
