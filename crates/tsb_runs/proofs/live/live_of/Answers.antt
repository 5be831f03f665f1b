use Rattle.std.proofs.Common.{◌≡◌, ◌∙◌, List, [], ◌∷◌, length, ◌<◌, Some, true, false, ap, refl, sym, subst, arith}
use Rattle.version_model.specs.Ranges.{high_or}
use Rattle.tsb_runs.specs.declared.live.LiveKey.{LiveKey}
use Rattle.tsb_runs.specs.Runs.{AreLive}
use Rattle.tsb_runs.proofs.LiveKeys.{live_more}
use Rattle.tsb_runs.proofs.Latest.{none_left}
use Rattle.tsb_runs.proofs.Steps.{AreTaken, ends_there, takes_first, passes_first}
use Rattle.tsb_runs.proofs.live.live_of.Goals as goal

none_there : {X : Type 0} (l : List X) → (0 < length l → false ≡ true) → l ≡ []
none_there [] never = refl
none_there (x ∷ l) never = absurd (let f : false ≡ true = never (omega arith) in cc)

pub loop-key-init : goal.loop-key-init
loop-key-init c = λ vs s from low latest. record {
  at = from;
  low = omega arith;
  within = low;
  live = subst (AreLive vs s from from) (sym c.new-rows.ensures.items) (λ key a b. absurd (omega (arith, a, b)));
  rest = latest;
}

pub returns-in_default : goal.returns-in_default
returns-in_default c = λ vs s from low latest.
    let so = c.loop-key.invariant vs s from low latest in
    live_more vs s from so.at (high_or c.args.high.now) c.loop-key.rows.items so.within so.live (none_left vs s so.at (high_or c.args.high.now) c.loop-key.latest (none_there c.loop-key.latest.entries c.in_default.ensures.variant.1) so.rest)

pub returns-then-is_past : goal.returns-then-is_past
returns-then-is_past c = λ vs s from low latest.
    ends_there vs s from (high_or c.args.high.now) c.loop-key.rows.items c.loop-key.latest c.pop_first.new.self _ _ (c.loop-key.invariant vs s from low latest) c.in-Some.ensures.value c.in-Some.ensures.least c.in-Some.ensures.updates (c.is_past.ensures.0 c.if-is_past.true)

pub loop-key-smaller-in-Continue-1 : goal.loop-key-smaller-in-Continue-1
loop-key-smaller-in-Continue-1 c = omega (arith, c.in-Some.ensures.len)

pub loop-key-smaller : goal.loop-key-smaller
loop-key-smaller c = omega (arith, c.in-Some.ensures.len)

pub loop-key-preserved-in-Continue-1 : goal.loop-key-preserved-in-Continue-1
loop-key-preserved-in-Continue-1 c = λ vs s from low latest.
    subst (λ (rows : List LiveKey). AreTaken vs s from (high_or c.args.high.now) rows c.pop_first.new.self) (sym c.in_ok-push.ensures.items)
    (takes_first vs s from (high_or c.args.high.now) c.loop-key.rows.items c.loop-key.latest c.pop_first.new.self _ _ (c.loop-key.invariant vs s from low latest) c.in-Some.ensures.value c.in-Some.ensures.least c.in-Some.ensures.updates
    (λ ge. absurd (cc (c.is_past.ensures.1 ge, c.if-is_past.false))) _ refl refl (c.in-Some-value.is ∙ ap Some (sym c.in-Some-value.value-is)))

pub loop-key-preserved : goal.loop-key-preserved
loop-key-preserved c = λ vs s from low latest.
    passes_first vs s from (high_or c.args.high.now) c.loop-key.rows.items c.loop-key.latest c.pop_first.new.self _ _ (c.loop-key.invariant vs s from low latest) c.in-Some.ensures.value c.in-Some.ensures.least c.in-Some.ensures.updates
    (λ ge. absurd (cc (c.is_past.ensures.1 ge, c.if-is_past.false))) c.in_default-value.is
