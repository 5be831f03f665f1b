use Rattle.std.proofs.Common.{◌∙◌, ℕ, ap}
use Rattle.page_journal.specs.Layout.{gate_place}
use Rattle.page_journal.proofs.Staging.{one}
use Rattle.page_journal.proofs.Turning.{turn_first, turn_second, turn_crash, turn_outside, turn_open}
use Rattle.page_journal.proofs.Writing.{on_ok}
use Rattle.page_journal.proofs.gate.turn.Goals as goal

pub returns-in_err-write_at-clause-crash : goal.returns-in_err-write_at-clause-crash
returns-in_err-write_at-clause-crash g c h = turn_first c.args.newest c.args.oldest _ _ (c.write_at.ensures.within h)

pub returns-in_err-write_at-2-clause-crash : goal.returns-in_err-write_at-2-clause-crash
returns-in_err-write_at-2-clause-crash g c h = turn_second c.args.newest c.args.oldest _ _ (c.write_at.ensures.within h) _ (c.write_at-2.ensures.within (c.write_at.ensures.honest.0 h))

pub returns-clause-crash : goal.returns-clause-crash
returns-clause-crash g c h =
    let h1 = c.write_at.ensures.honest.0 h in
    turn_crash c.args.newest c.args.oldest _ _ (c.write_at.ensures.within h) _ (c.write_at-2.ensures.within h1) _ (c.sync.ensures.lingers (c.write_at-2.ensures.honest.0 h1)).crash

pub returns-clause-turned : goal.returns-clause-turned
returns-clause-turned g c h =
    let h1 = c.write_at.ensures.honest.0 h in
    let first = c.write_at.ensures.within h in
    let second = c.write_at-2.ensures.within h1 in
    let s0 = g.D.EraseDisk.model c.args.disk.now in
    let s1 = g.D.EraseDisk.model c.write_at.new.self in
    let s2 = g.D.EraseDisk.model c.write_at-2.new.self in
    on_ok c.sync.result _ _
    (λ synced. record {
      outside = λ i out other. ap (λ (f : ℕ → ℕ). f i) synced.same ∙ turn_outside c.args.newest c.args.oldest s0 s1 first s2 second i out other;
      is_open = ap (λ (f : ℕ → ℕ). f (gate_place c.args.newest)) synced.same ∙ turn_open c.args.newest c.args.oldest s0 s1 first s2 second c.requires.apart (one s1.octet (gate_place c.args.newest) 165 (c.in_ok-write_at.ensures.octets h));
      closed = ap (λ (f : ℕ → ℕ). f (gate_place c.args.oldest)) synced.same ∙ one s2.octet (gate_place c.args.oldest) 0 (c.in_ok-write_at-2.ensures.octets h1);
      settled = synced.settled;
    })
    (c.sync.ensures.syncs (c.write_at-2.ensures.honest.0 h1))
