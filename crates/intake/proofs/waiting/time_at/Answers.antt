use Rattle.std.proofs.Common.{◌≡◌, ◌≤◌, ◌+◌, ◌++◌, ◌∷◌, [], ℕ, Option, None, Some, SomeIff, arith, refl, sym, ◌∙◌, ap, subst}
use Rattle.route_model.specs.Moments.{latest_moment}
use Rattle.std.specs.Int.{w64, to_be_bytes}
use Rattle.intake.specs.Outlines.{ReportsTimes}
use Rattle.intake.proofs.Representing.{used_octets, used_length, used_stand}
use Rattle.intake.proofs.Reporting.{reports_more, follows, follows_length, follows_time}
use Rattle.intake.proofs.waiting.time_at.Goals as goal

not_none : (r : Option ℕ) (P : Type 0) (x : ℕ) → SomeIff r P x → ((y : ℕ) → r ≡ Some y → ⊥) → P → ⊥
not_none None P x is not p = is p
not_none (Some y) P x is not p = not y refl

pub returns-then-ring-at-lt12-clause-breaks : goal.returns-then-ring-at-lt12-clause-breaks
returns-then-ring-at-lt12-clause-breaks g c page is start shown times are reported =
    let ring = c.args.ring in
    let stood = used_octets shown ring in
    record {
      times = times;
      before = reported;
      inside = c.requires.some;
      none = λ time next le more.
          let f = follows shown ring c.args.at next time times stood (used_length shown ring) (used_stand shown ring) le reported more in
          let fits = f.fits in
          absurd (omega (arith, c.if-ring-at-lt12.true));
    }

pub returns-in_default-clause-breaks : goal.returns-in_default-clause-breaks
returns-in_default-clause-breaks g c page is start shown times are reported =
    let ring = c.args.ring in
    let stood = used_octets shown ring in
    let long = used_length shown ring in
    let stand = used_stand shown ring in
    let front = c.deref.ensures.value ∙ c.in_ok-front.ensures.read start shown stood are long stand in
    record {
      times = times;
      before = reported;
      inside = c.requires.some;
      none = λ time next le more.
          let f = follows shown ring c.args.at next time times stood long stand le reported more in
          let same = follows_time ring c.args.at c.length_and_time-len.result.1 stood c.deref.result.now f front c.length_and_time-len.ensures.time in
          let low = f.valid.time in
          absurd (not_none c.new.result (c.length_and_time-len.result.1 ≤ latest_moment) c.length_and_time-len.result.1 c.new.ensures.moment c.in_default.not-Some (omega (arith, same)));
    }

pub returns-then-len-lt8-clause-breaks : goal.returns-then-len-lt8-clause-breaks
returns-then-len-lt8-clause-breaks g c page is start shown times are reported =
    let ring = c.args.ring in
    let stood = used_octets shown ring in
    let long = used_length shown ring in
    let stand = used_stand shown ring in
    let front = c.deref.ensures.value ∙ c.in_ok-front.ensures.read start shown stood are long stand in
    record {
      times = times;
      before = reported;
      inside = c.requires.some;
      none = λ time next le more.
          let f = follows shown ring c.args.at next time times stood long stand le reported more in
          let len = follows_length ring c.args.at c.length_and_time-len.result.0 stood c.deref.result.now f front c.length_and_time-len.ensures.length in
          absurd (omega (arith, c.if-len-lt8.true, len));
    }

pub returns-then-from-min-clause-breaks : goal.returns-then-from-min-clause-breaks
returns-then-from-min-clause-breaks g c page is start shown times are reported =
    let ring = c.args.ring in
    let stood = used_octets shown ring in
    let long = used_length shown ring in
    let stand = used_stand shown ring in
    let front = c.deref.ensures.value ∙ c.in_ok-front.ensures.read start shown stood are long stand in
    record {
      times = times;
      before = reported;
      inside = c.requires.some;
      none = λ time next le more.
          let f = follows shown ring c.args.at next time times stood long stand le reported more in
          let len = follows_length ring c.args.at c.length_and_time-len.result.0 stood c.deref.result.now f front c.length_and_time-len.ensures.length in
          let fits = f.fits in
          let small = f.valid.small in
          absurd (omega (arith, c.if-from-min.true, c.min.ensures, c.from.ensures, len, c.if-ring-at-lt12.false));
    }

pub returns-clause-reported : goal.returns-clause-reported
returns-clause-reported g c start shown times are reported =
    let ring = c.args.ring in
    let stood = used_octets shown ring in
    let long = used_length shown ring in
    let stand = used_stand shown ring in
    let front = c.deref.ensures.value ∙ c.in_ok-front.ensures.read start shown stood are long stand in
    let moment = c.in-Some.ensures.moment in
    let below = moment.0 in
    let same : c.in-Some.moment ≡ c.length_and_time-len.result.1 = moment.1 in
    let place : c.args.at + 4 + c.length_and_time-len.result.0 ≡ c.args.at + 4 + c.from-2.result = omega (arith, c.from-2.ensures) in
    subst (λ k. ReportsTimes shown ring k (times ++ c.in-Some.moment ∷ [])) place
    (reports_more shown ring c.args.at c.length_and_time-len.result.0 c.in-Some.moment times stood c.deref.result.now long stand front c.length_and_time-len.ensures.length_octets (c.length_and_time-len.ensures.time_octets ∙ ap (to_be_bytes w64) (sym same)) (omega (arith, below, same))
    (omega (arith, c.if-len-lt8.false)) (omega (arith, c.if-from-min.false, c.min.ensures, c.from.ensures)) (omega (arith, c.if-from-min.false, c.min.ensures, c.from.ensures, c.if-ring-at-lt12.false)) reported)
