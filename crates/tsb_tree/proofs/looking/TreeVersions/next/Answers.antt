use Rattle.tsb_walk.specs.Looked.{IsLooked}
use Rattle.tsb_tree.proofs.Looks.{store_of, at_root, ok_all, err_none}
use Rattle.tsb_tree.proofs.looking.TreeVersions.next.Goals as goal

pub returns-clause-next : goal.returns-clause-next
returns-clause-next g c =
    let t = c.args.self.now in
    let e = c.root-root.ensures in
    ok_all g.P.Pages t.pages t.place.root t.place.level (λ blocks all. IsLooked blocks all c.args.from c.args.stamp) c.next.result
    (λ blocks all v. c.next.ensures.next v.start v.shown v.shows (store_of g.P.Pages t.pages t.place.root t.place.level blocks all v) all (at_root g.P.Pages t.pages t.place.root t.place.level c.root-root.result e.page e.level e.keys blocks all v))

pub returns-clause-blames : goal.returns-clause-blames
returns-clause-blames g c =
    let t = c.args.self.now in
    let e = c.root-root.ensures in
    err_none g.P.Pages t.pages t.place.root t.place.level c.next.result (g.P.Pages.down t.pages) c.next.ensures.refused
    (λ blocks all v. c.next.ensures.blames v.start v.shown v.shows (store_of g.P.Pages t.pages t.place.root t.place.level blocks all v) all (at_root g.P.Pages t.pages t.place.root t.place.level c.root-root.result e.page e.level e.keys blocks all v))
