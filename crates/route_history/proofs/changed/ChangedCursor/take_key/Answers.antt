use Rattle.std.proofs.Common.{◌≡◌, ◌≤◌, ◌<◌, suc, List, length, refl, sym, subst, arith}
use Rattle.route_meaning.specs.declared.question.Spot.{Spot}
use Rattle.route_meaning.specs.Rows.{most_rows, spot_number}
use Rattle.route_history.specs.Changes.{IsSpotAt, IsChangedSoFar}
use Rattle.route_history.proofs.ChangedTaking.{fills, gains, passes, none_changed, nothing, spot_changed, one_spot}
use Rattle.route_history.proofs.changed.ChangedCursor.take_key.Goals as goal

pub returns-in_default-clause-taken : goal.returns-in_default-clause-taken
returns-in_default-clause-taken c = λ all ps at t so le none within.
    let q = c.args.self.now.question in
    let w = subst (IsSpotAt q c.args.key) c.in_default.is c.spot_at.ensures in
    passes ps q at (suc c.args.key) c.args.self.now.spots.items c.args.self.now.more (omega (arith, le)) (nothing ps q all t at c.args.key none w) so

pub returns-then-len-ge-MAX_ROWS-clause-taken : goal.returns-then-len-ge-MAX_ROWS-clause-taken
returns-then-len-ge-MAX_ROWS-clause-taken c = λ all ps at t so le none within.
    let q = c.args.self.now.question in
    let w = subst (IsSpotAt q c.args.key) c.in-Some.is c.spot_at.ensures in
    (refl, fills ps q at c.in-Some.spot c.args.self.now.spots.items c.args.self.now.more (spot_changed ps q all t c.args.key c.in-Some.spot w within) (omega (arith, w.1, le)) (omega (arith, c.if-len-ge-MAX_ROWS.true)) so)

pub returns-clause-taken : goal.returns-clause-taken
returns-clause-taken c = λ all ps at t so le none within.
    let q = c.args.self.now.question in
    let w = subst (IsSpotAt q c.args.key) c.in-Some.is c.spot_at.ensures in
    subst (λ (l : List Spot). IsChangedSoFar ps q (suc c.args.key) l c.args.self.now.more) (sym c.in_ok-push.ensures.items)
    (gains ps q at c.args.key c.in-Some.spot c.args.self.now.spots.items c.args.self.now.more le (none_changed ps q all t at c.args.key none) (spot_changed ps q all t c.args.key c.in-Some.spot w within) w.1 (one_spot ps q all t c.args.key c.in-Some.spot w) (omega (arith, c.if-len-ge-MAX_ROWS.false)) so)
