use Rattle.std.proofs.Common.{◌≡◌, ◌∙◌, ◌<◌, ◌≤◌, ◌-◌, List, length, map, take, drop, min, ap, subst, inl, refl, arith}
use Rattle.std.specs.List.{slice_set}
use Rattle.std.proofs.lemmas.List.{length-drop}
use Rattle.sequencer.proofs.api.Setting.{get_some}
use Rattle.route_model.specs.Admission.{Admitted}
use Rattle.route_meaning.specs.Holds.{admitted_time}
use Rattle.route_meaning.specs.Merged.{Placed, merged}
use Rattle.route_meaning.specs.History.{Intake, History, all_of, waiting, bounds, least, settled}
use Rattle.interleaving_core.specs.declared.reply.Reply.TheVariants.{AboveWatermark}
use Rattle.interleaving_core.specs.World.{World, asked}
use Rattle.interleaving_core.specs.Turns.{TakesTurn}
use Rattle.interleaving_core.specs.Does.{WhenUp, last_moment, IsAboveWatermark, DoesTurn}
use Rattle.interleaving_core.proofs.Machines.{world}
use Rattle.interleaving_core.proofs.Settled.{take_all}
use Rattle.interleaving_core.proofs.Wholly.{taken_min, dropped_min, turn_whole, does_turn}
use Rattle.interleaving_core.proofs.machine.Machine.turn.Goals as goal

pub returns-then-number : goal.returns-then-number
returns-then-number c =
    let m = c.self.inside in
    let h : History = record { intakes = m.given.items; whole = m.whole; some = m.some } in
    let q = c.index-question.result.now in
    let lt : c.args.number < length m.questions.items = omega (arith, c.if-number-len.false, c.len.ensures, m.questions.ok.0) in
    let at = get_some m.questions.items c.args.number q lt c.index-question.ensures in
    let k = c.min-whole.result in
    let all : c.in_ok-all.all.items ≡ all_of h = c.in_ok-all.ensures ∙ ap (λ (l : List Intake). merged admitted_time (map (λ (i : Intake). i.admitted) l)) c.deref.ensures.value in
    let place : k ≡ min m.whole (length (all_of h)) = omega (arith, c.min-whole.ensures, c.len-2.ensures, c.in_ok-all.all.ok.0, ap length all) in
    let there : List (Placed Admitted) = c.deref-3.result.now in
    let rest : take (length there - k) (drop k there) ≡ drop k there = take_all (length there - k) (drop k there) (omega (arith, length-drop k there)) in
    let wait : take (length there - k) (drop k there) ≡ waiting h = rest ∙ (ap (drop k) (c.deref-3.ensures.value ∙ all) ∙ dropped_min k m.whole (all_of h) place) in
    let reported : c.in_ok-settled.settled ≡ settled h =
    c.in_ok-settled.ensures ∙ (ap (λ (l : List Intake). least (bounds 0 l (take (length there - k) (drop k there)))) c.deref-2.ensures.value ∙ ap (λ (ps : List (Placed Admitted)). least (bounds 0 m.given.items ps)) wait) in
    let last : c.last_moment.result ≡ last_moment (asked q) = c.last_moment.ensures.moment ∙ ap last_moment c.query.ensures.query in
    let above : settled h ≤ last_moment (asked q) = omega (arith, c.if-number.true, c.number.ensures.number, c.number-2.ensures.number, last, reported) in
    record {
      does = subst (λ (x : World). WhenUp x (AboveWatermark c.in_ok-settled.settled) x (IsAboveWatermark x c.args.number c.in_ok-settled.settled × (x ≡ x))) c.self.view_is
          (inl (c.if-self.false, (record { question = q; here = at; in_progress = c.is_ended.ensures.progress.0 c.if-is_ended.false; reported_is = reported; above = above }, refl)));
      same = tt;
    }

pub returns : goal.returns
returns c =
    let m = c.self.inside in
    let h : History = record { intakes = m.given.items; whole = m.whole; some = m.some } in
    let q = c.index-question.result.now in
    let lt : c.args.number < length m.questions.items = omega (arith, c.if-number-len.false, c.len.ensures, m.questions.ok.0) in
    let at = get_some m.questions.items c.args.number q lt c.index-question.ensures in
    let k = c.min-whole.result in
    let all : c.in_ok-all.all.items ≡ all_of h = c.in_ok-all.ensures ∙ ap (λ (l : List Intake). merged admitted_time (map (λ (i : Intake). i.admitted) l)) c.deref.ensures.value in
    let place : k ≡ min m.whole (length (all_of h)) = omega (arith, c.min-whole.ensures, c.len-2.ensures, c.in_ok-all.all.ok.0, ap length all) in
    let there : List (Placed Admitted) = c.deref-3.result.now in
    let rest : take (length there - k) (drop k there) ≡ drop k there = take_all (length there - k) (drop k there) (omega (arith, length-drop k there)) in
    let wait : take (length there - k) (drop k there) ≡ waiting h = rest ∙ (ap (drop k) (c.deref-3.ensures.value ∙ all) ∙ dropped_min k m.whole (all_of h) place) in
    let reported : c.in_ok-settled.settled ≡ settled h =
    c.in_ok-settled.ensures ∙ (ap (λ (l : List Intake). least (bounds 0 l (take (length there - k) (drop k there)))) c.deref-2.ensures.value ∙ ap (λ (ps : List (Placed Admitted)). least (bounds 0 m.given.items ps)) wait) in
    let last : c.last_moment.result ≡ last_moment (asked q) = c.last_moment.ensures.moment ∙ ap last_moment c.query.ensures.query in
    let below : last_moment (asked q) < settled h = omega (arith, c.if-number.false, c.number.ensures.number, c.number-2.ensures.number, last, reported) in
    let front : take k c.deref-4.result.now ≡ take m.whole (all_of h) = ap (take k) (c.deref-4.ensures.value ∙ all) ∙ taken_min k m.whole (all_of h) place in
    let reply = c.in_ok-turned.turned.reply in
    let new = c.in_ok-turned.turned.question in
    let turn : TakesTurn (take m.whole (all_of h)) c.args.reach q reply new = subst (λ (ps : List (Placed Admitted)). TakesTurn ps c.args.reach q reply new) front c.in_ok-turned.ensures in
    let before : World = world m.given.items m.whole m.some m.questions.items m.down in
    let after : World = world m.given.items m.whole m.some (slice_set m.questions.items c.args.number new) m.down in
    record {
      does = subst (λ (x : World). WhenUp x reply after (DoesTurn x c.args.number c.args.reach reply after)) c.self.view_is
          (inl (c.if-self.false, does_turn before c.args.number c.args.reach reply after (record { question = q; here = at; below = below; new = new; turn = turn_whole h c.args.reach q reply new below turn; after = refl })));
      same = tt;
    }
