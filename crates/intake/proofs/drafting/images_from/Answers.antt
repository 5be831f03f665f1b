use Rattle.std.proofs.Common.{◌≡◌, ◌+◌, ◌/◌, ◌++◌, suc, [], ◌∷◌, arith, ap, ◌∙◌}
use Rattle.page_journal.specs.Layout.{pages_of}
use Rattle.page_journal.specs.Recovers.{laid}
use Rattle.intake.specs.inner.Drafts.{numbers_from}
use Rattle.intake.proofs.Copying.{keeps_more, keeps_stands}
use Rattle.intake.proofs.Images.{numbers_more}
use Rattle.intake.proofs.Untouched.{reads_then, reads_as}
use Rattle.intake.proofs.drafting.images_from.Goals as goal

pub loop-k-preserved : goal.loop-k-preserved
loop-k-preserved g c =
    let i = c.loop-k.invariant in
    let ring = c.args.ring in
    let items = c.loop-k.images.items in
    let page = c.in_ok-page.page in
    let k = c.loop-k.k in
    let was = c.in_ok-page.was in
    let one : suc k ≡ k + 1 = omega arith in
    record {
      numbers = ap pages_of c.in_ok-add_image.ensures
          ∙ (ap (λ m. pages_of (items ++ (ring.low + m, page) ∷ [])) c.wrap.ensures
          ∙ (numbers_more ring.low ring.count (c.args.at / 16384) k items page i.numbers ∙ ap (numbers_from ring.low ring.count (c.args.at / 16384)) one));
      kept = λ start shown are.
          let count = g.met.P.Pages.count c.args.pages.now start shown are in
          keeps_more ring c.args.at c.args.octets k (ring.low + c.wrap.result) items c.add_image.new.images.items page shown c.requires.ring.start (omega (arith, c.requires.ring.inside, count)) c.requires.at c.requires.room
          (omega arith) (ap (λ m. ring.low + m) c.wrap.ensures) c.in_ok-add_image.ensures
          (λ not. c.in_ok-page.ensures.copy (λ is. not (c.is_filled-filled.ensures.0 is)) start shown (i.same.shown start shown are))
          (i.kept start shown are);
      same = reads_as g.P.Pages c.args.pages.now c.begun_page.new.pages _ ⊥ (reads_then g.P.Pages c.args.pages.now c.loop-k.pages c.begun_page.new.pages ⊥ _ i.same (λ no. no) c.begun_page.ensures.same) (λ e. cc) (λ no. absurd no);
    }

pub returns-clause-stood : goal.returns-clause-stood
returns-clause-stood g c start shown stood are long stand = keeps_stands c.args.ring shown (laid c.loop-k.images.items shown) stood long (c.loop-k.invariant.kept start shown are) stand
