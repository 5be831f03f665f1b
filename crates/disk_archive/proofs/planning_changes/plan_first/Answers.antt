use Rattle.std.proofs.Common.{rules, ℕ, ◌-◌, List, length, ap, subst, arith}
use Rattle.disk_archive.specs.Lacks.{IsNextVersion}
use Rattle.disk_archive.specs.inner.Applications.{LackRefusal, OfApply}
use Rattle.disk_archive.proofs.Failing.{reports_as}
use Rattle.disk_archive.proofs.Keeping.{keeps_reported}
use Rattle.disk_archive.proofs.planning_changes.plan_first.Goals as goal

pub plan_step-requires-clause-few : goal.plan_step-requires-clause-few
plan_step-requires-clause-few g c = let n = ap (λ (ns : List ℕ). length ns) c.requires.none in omega (arith, n)

pub unreachable-requires : goal.unreachable-requires
unreachable-requires g c = let n = ap (λ (ns : List ℕ). length ns) c.requires.none in c.plan_step.ensures.first (omega (arith, n)) (search rules)

pub returns-in-Err-Apply-clause-sound : goal.returns-in-Err-Apply-clause-sound
returns-in-Err-Apply-clause-sound g c start h honest r page bad = c.plan_step.ensures.sound start h honest r page (cc)

pub returns-in-Err-Apply-clause-high : goal.returns-in-Err-Apply-clause-high
returns-in-Err-Apply-clause-high g c start shown shows reported = c.plan_step.ensures.high start shown shows (cc)

pub returns-in-Err-Apply-clause-shelf : goal.returns-in-Err-Apply-clause-shelf
returns-in-Err-Apply-clause-shelf g c = keeps_reported g.O.OnceDisk 2 c.args.shelf.now c.plan_step.new.shelf _ _ (λ full. cc) c.plan_step.ensures.shelf

pub returns-in-Ok-clause-shelf : goal.returns-in-Ok-clause-shelf
returns-in-Ok-clause-shelf g c = keeps_reported g.O.OnceDisk 2 c.args.shelf.now c.plan_step.new.shelf _ _ (λ full. absurd cc) c.plan_step.ensures.shelf

pub returns-in-Err-Apply-clause-failed : goal.returns-in-Err-Apply-clause-failed
returns-in-Err-Apply-clause-failed g c = reports_as _ _ _ _ _ _ (λ reported. cc) (λ failed. cc) c.plan_step.ensures.failed

pub returns-in-Ok-clause-failed : goal.returns-in-Ok-clause-failed
returns-in-Ok-clause-failed g c = reports_as _ _ _ _ _ _ (λ reported. absurd cc) (λ failed. absurd cc) c.plan_step.ensures.failed

-- ---- what there is too little of, or enough

pub returns-in-Ok-clause-room : goal.returns-in-Ok-clause-room
returns-in-Ok-clause-room g c start h honest r = c.in-Ok.ensures.room start h honest r

pub returns-in-Err-Apply-clause-lacks : goal.returns-in-Err-Apply-clause-lacks
returns-in-Err-Apply-clause-lacks g c start h honest r =
    subst (OfApply (LackRefusal (IsNextVersion h) r.pages (g.P.Pages.homes c.args.pages.now - g.P.Pages.next c.args.pages.now) c.args.plan.now.head.root)) c.in-Err-Apply.field-0-is (c.in-Err-Apply.ensures.lacks start h honest r)
