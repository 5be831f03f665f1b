use Rattle.std.proofs.Common.{rules, ◌≡◌, Err, arith}
use Rattle.tsb_walk.specs.declared.error.NodeError.TheVariants.{BadNode}
use Rattle.tsb_walk.specs.PageWays.{here, further}
use Rattle.tsb_walk.proofs.Untouched.{reads_none, reads_then, reads_as}
use Rattle.tsb_walk.proofs.locating.locate.Goals as goal

pub loop-at-init : goal.loop-at-init
loop-at-init g c = record {
  has = c.requires.has;
  some = c.requires.level;
  way = λ start shown shows. here c.args.root.now;
  same = reads_none g.P.Pages c.args.pages.now ⊥ (λ no. no);
}

pub loop-at-preserved : goal.loop-at-preserved
loop-at-preserved g c =
    let i = c.loop-at.invariant in
    record {
      has = c.in_ok-at.ensures.has;
      some = omega (arith, c.in_ok-at.ensures.level, c.loop-at-test.true);
      way = λ start shown shows. further c.args.root.now c.loop-at.at c.in_ok-at.at (i.way start shown shows) (c.in_ok-at.ensures.led start shown (i.same.shown start shown shows));
      same = reads_then g.P.Pages c.args.pages.now c.loop-at.pages c.down.new.pages ⊥ ⊥ i.same (λ no. no) (reads_as g.P.Pages c.loop-at.pages c.down.new.pages _ ⊥ c.in_ok-at.ensures.same (λ e. absurd (cc)) (λ no. absurd no));
    }

pub returns-in_err-at-clause-bad : goal.returns-in_err-at-clause-bad
returns-in_err-at-clause-bad g c = λ start shown shows page e.
    let d : c.down.result ≡ Err (BadNode page) = search rules in
    let i = c.loop-at.invariant in
    let b = c.down.ensures.bad start shown (i.same.shown start shown shows) page d in
    record { last = c.loop-at.at; way = i.way start shown shows; above = c.loop-at-test.true; is = b.0; bad = b.1 }
