use Rattle.std.proofs.Common.{◌≡◌, ◌+◌, ◌≤◌, length, sym, subst, arith}
use Rattle.page_journal.specs.Recovers.{laid}
use Rattle.tsb_tree.specs.Refusals.{CreateRefusal, of_page}
use Rattle.tsb_tree.proofs.Beginning.{shown_first}
use Rattle.tsb_tree.proofs.Growing.{created, first_own, first_pages}
use Rattle.tsb_tree.proofs.Creating.{lay_refused}
use Rattle.tsb_tree.proofs.tree.create.Goals as goal

pub returns-in-Err-clause-refused : goal.returns-in-Err-clause-refused
returns-in-Err-clause-refused g c =
    let inside : c.next_page-page.result + 2 ≤ g.P.Pages.homes c.args.pages.now = omega (arith, c.home_pages.ensures, c.home_pages-else-home_pages-lt2.ensures) in
    let refused = lay_refused c.in-Err.refusal (g.P.Pages.homes c.args.pages.now) c.next_page-page.result (g.P.Pages.named c.args.pages.now) c.in_ok-images.images.items c.in_ok-images.ensures.images.few inside c.in-Err.ensures.refused in
    subst (λ e. CreateRefusal (g.P.Pages.homes c.args.pages.now) (g.P.Pages.next c.args.pages.now) (length (g.P.Pages.named c.args.pages.now)) e) (sym c.from.ensures)
    (subst (λ n. CreateRefusal (g.P.Pages.homes c.args.pages.now) n (length (g.P.Pages.named c.args.pages.now)) (of_page c.in-Err.refusal)) c.next_page-page.ensures refused)

pub returns-in-Ok-clause-created : goal.returns-in-Ok-clause-created
returns-in-Ok-clause-created g c start shown shows =
    let page = c.next_page-page.result in
    let homes = g.P.Pages.homes c.args.pages.now in
    let images = c.in_ok-images.images.items in
    let first = c.in_ok-images.ensures.images in
    let long : length shown ≡ homes = g.met.P.Pages.count c.args.pages.now start shown shows in
    let inside : page + 2 ≤ homes = omega (arith, c.home_pages.ensures, c.home_pages-else-home_pages-lt2.ensures) in
    let zero' : c.new.result ≡ 0 = omega (arith, c.new.ensures.number) in
    rw zero' (record {
      shown = laid images shown;
      shows = c.in-Ok.ensures.ok start shown shows;
      nodes = first_pages page;
      reports = shown_first page images shown first (omega (arith, long, inside));
      own = first_own page;
      has = λ blocks next. created blocks next page (g.P.Pages.next c.lay.new.self) c.in-Ok.ensures.next;
    })
