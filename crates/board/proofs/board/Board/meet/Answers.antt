use Rattle.std.specs.Prelude.{slice_index}
use Rattle.std.proofs.Common.{◌≡◌, ◌≤◌, le_trans, ℕ, List, Option, sym, ap, ◌∙◌, subst, arith}
use Rattle.board.specs.Past.{Past, GoesOnAs, reach}
use Rattle.board.specs.Views.{View, Within, IsCaughtUp, greatest}
use Rattle.board.specs.inner.Rule.{Known, Starts, past_or}
use Rattle.board.specs.inner.Steps.{both_of}
use Rattle.board.proofs.Reaching.{starts_there}
use Rattle.board.proofs.Numbers.{greatest_left, greatest_right}
use Rattle.board.proofs.Moves.{splits_allowed, hears_allowed, compares_at, takes_allowed}
use Rattle.board.proofs.board.Board.meet.Goals as goal

pub split_seat-asked-requires : goal.split_seat-asked-requires
split_seat-asked-requires g c = (c.pass.invariant.0 ∙ sym c.self.invariant.0, omega (arith, c.self.invariant.1), splits_allowed _ _ _)

pub join_seat-requires : goal.join_seat-requires
join_seat-requires g c =
    let a = c.split_seat-asked.ensures in
    (c.writer.invariant.0 ∙ sym c.self.invariant.0, a.3 ∙ c.pass.invariant.0 ∙ sym c.self.invariant.0, ap (λ m. m.1) a.4, omega (arith, c.self.invariant.1), hears_allowed _ _ _ _ _)

pub load-requires : goal.load-requires
load-requires g c =
    let j = c.join_seat.ensures in
    (j.0 ∙ c.writer.invariant.0 ∙ sym c.self.invariant.0, omega (arith, c.self.invariant.1), compares_at _ _ _ _ _ (ap (λ m. m.1) j.2 ∙ c.writer.invariant.1) (ap (λ m. m.0.writes) j.2 ∙ c.writer.invariant.2))

pub split_seat-reported-requires : goal.split_seat-reported-requires
split_seat-reported-requires g c =
    let j = c.join_seat.ensures in
    (c.load.ensures.0 ∙ j.0 ∙ c.writer.invariant.0 ∙ sym c.self.invariant.0, omega (arith, c.self.invariant.1), splits_allowed _ _ _)

pub join_seat-requires-2 : goal.join_seat-requires-2
join_seat-requires-2 g c =
    let a = c.split_seat-asked.ensures in
    let j = c.join_seat.ensures in
    let t = c.split_seat-reported.ensures in
    (a.0 ∙ c.pass.invariant.0 ∙ sym c.self.invariant.0, t.3 ∙ c.load.ensures.0 ∙ j.0 ∙ c.writer.invariant.0 ∙ sym c.self.invariant.0, ap (λ m. m.1) t.4, omega (arith, c.self.invariant.1), takes_allowed _ _ _ _ _ (ap (λ m. m.0.writes) a.2 ∙ c.pass.invariant.2))

-- what was compared: the pass's past begins the writing seat's, which it then has
pub returns-clause-begins : goal.returns-clause-begins
returns-clause-begins g c =
    let a = c.split_seat-asked.ensures in
    let j = c.join_seat.ensures in
    let l = c.load.ensures in
    let t = c.split_seat-reported.ensures in
    let k = c.join_seat-2.ensures in
    let x = c.pass.inside.seat.me.0.knows.past in
    let y = c.writer.inside.seat.me.0.knows.past in
    let heard : c.join_seat.new.seat.me.0.heard.past ≡ x = ap (λ m. m.0.heard.past) j.2 ∙ ap (λ m. m.0.knows.past) a.4 in
    let known : c.join_seat.new.seat.me.0.knows.past ≡ y = ap (λ m. m.0.knows.past) j.2 in
    let starts : Starts x y = subst (λ (z : Option Past). Starts z y) heard (subst (λ (z : Option Past). Starts c.join_seat.new.seat.me.0.heard.past z) known l.2.2) in
    let after : c.join_seat-2.new.seat.me.0.knows.past ≡ y =
    ap (λ m. m.0.knows.past) k.2 ∙ (ap (λ m. m.0.knows.past) t.4 ∙ (ap (λ v. v.knows.past) l.2.0 ∙ known)) in
    let numbers : c.join_seat-2.new.seat.me.0.knows.numbers ≡ greatest c.pass.inside.seat.me.0.knows.numbers c.split_seat-reported.result.me.0.knows.numbers =
    ap (λ m. m.0.knows.numbers) k.2 ∙ ap (λ m. greatest m.0.knows.numbers c.split_seat-reported.result.me.0.knows.numbers) a.2 in
    record {
      past = subst (λ (v : View). GoesOnAs v.past (past_or c.join_seat-2.new.seat.me.0.knows.past)) c.pass.view_is
          (subst (λ (z : Option Past). GoesOnAs (past_or x) (past_or z)) (sym after) (starts_there x y c.pass.invariant.3 starts));
      numbers = subst (λ (v : View). Within v.numbers c.join_seat-2.new.seat.me.0.knows.numbers) c.pass.view_is
          (subst (λ (ns : List ℕ). Within c.pass.inside.seat.me.0.knows.numbers ns) (sym numbers) (greatest_left c.pass.inside.seat.me.0.knows.numbers c.split_seat-reported.result.me.0.knows.numbers));
    }

pub returns-clause-caught_up : goal.returns-clause-caught_up
returns-clause-caught_up g c up i =
    let a = c.split_seat-asked.ensures in
    let j = c.join_seat.ensures in
    let l = c.load.ensures in
    let t = c.split_seat-reported.ensures in
    let k = c.join_seat-2.ensures in
    let w = c.writer.inside.seat.me.0.knows in
    let p = c.pass.inside.seat.me.0.knows in
    let reported : c.split_seat-reported.result.me.0.knows ≡ w = ap (λ m. m.0.knows) t.4 ∙ (ap (λ v. v.knows) l.2.0 ∙ ap (λ m. m.0.knows) j.2) in
    let after : c.join_seat-2.new.seat.me.0.knows ≡ both_of p w =
    ap (λ m. m.0.knows) k.2 ∙ (ap (λ m. both_of m.0.knows c.split_seat-reported.result.me.0.knows) a.2 ∙ ap (both_of p) reported) in
    let low : reach (past_or w.past).history i ≤ slice_index w.numbers i = subst (λ (v : View). IsCaughtUp v) (sym c.writer.view_is) up i in
    subst (λ (n : Known). reach (past_or n.past).history i ≤ slice_index n.numbers i) (sym after) (le_trans low (greatest_right p.numbers w.numbers i))
