use Rattle.tsb_walk.specs.Looked.{IsParted}
use Rattle.tsb_tree.proofs.Looks.{store_of, at_root, ok_all, err_none}
use Rattle.tsb_tree.proofs.looking.TreeVersions.part.Goals as goal

pub returns-clause-part : goal.returns-clause-part
returns-clause-part g c =
    let t = c.args.self.now in
    let e = c.root-root.ensures in
    ok_all g.P.Pages t.pages t.place.root t.place.level (λ blocks all. IsParted blocks all c.args.key c.args.from) c.part.result
    (λ blocks all v. c.part.ensures.part v.start v.shown v.shows (store_of g.P.Pages t.pages t.place.root t.place.level blocks all v) all v.tree.rising (at_root g.P.Pages t.pages t.place.root t.place.level c.root-root.result e.page e.level e.keys blocks all v))

pub returns-clause-blames : goal.returns-clause-blames
returns-clause-blames g c =
    let t = c.args.self.now in
    let e = c.root-root.ensures in
    err_none g.P.Pages t.pages t.place.root t.place.level c.part.result (g.P.Pages.down t.pages) c.part.ensures.refused
    (λ blocks all v. c.part.ensures.blames v.start v.shown v.shows (store_of g.P.Pages t.pages t.place.root t.place.level blocks all v) all (at_root g.P.Pages t.pages t.place.root t.place.level c.root-root.result e.page e.level e.keys blocks all v))
