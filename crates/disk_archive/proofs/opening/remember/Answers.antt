use Rattle.std.proofs.Common.{rules, ◌≡◌, ◌∙◌, IfErr, sym, subst}
use Rattle.std.proofs.lemmas.Bool.{false≢true}
use Rattle.disk_models.specs.Once.{settled_in}
use Rattle.archive_head.specs.Head.{Contents}
use Rattle.archive_pages.specs.Represented.{HeadRepresents}
use Rattle.disk_archive.specs.Trees.{TreeLocated}
use Rattle.disk_archive.specs.inner.Recalling.{HasRoot}
use Rattle.disk_archive.proofs.Reopened.{passed_on}
use Rattle.disk_archive.proofs.Rooted.{rooted}
use Rattle.disk_archive.proofs.opening.remember.Goals as goal

pub returns-clause-head_represents : goal.returns-clause-head_represents
returns-clause-head_represents g c count o start shown h shows rep =
    subst (λ (x : Contents). HeadRepresents (TreeLocated count) c.args.settings (settled_in o) x shown h) (c.in_ok-head.ensures.one start shown rep.head shows rep.head_represents.lanes_number rep.first) rep.head_represents

pub returns-clause-mirrors : goal.returns-clause-mirrors
returns-clause-mirrors g c count o start shown h shows rep =
    c.in_ok-sequencer.ensures.mirrors count o start shown h (c.read_head.ensures.same.shown start shown shows)
    (subst (λ (x : Contents). HeadRepresents (TreeLocated count) c.args.settings (settled_in o) x shown h) (c.in_ok-head.ensures.one start shown rep.head shows rep.head_represents.lanes_number rep.first) rep.head_represents)

pub returns-in_err-sequencer-clause-sound : goal.returns-in_err-sequencer-clause-sound
returns-in_err-sequencer-clause-sound g c count o start shown h shows rep page is =
    let reported : IfErr c.from_residual-in_err-sequencer.result (λ e. e ≡ c.in_err-sequencer.field-0.0) = search rules in
    let was = passed_on c.from_residual-in_err-sequencer.result c.recall.result c.in_err-sequencer.field-0.0 page reported c.in_err-sequencer.was is in
    c.recall.ensures.sound count o start shown h (c.read_head.ensures.same.shown start shown shows)
    (subst (λ (x : Contents). HeadRepresents (TreeLocated count) c.args.settings (settled_in o) x shown h) (c.in_ok-head.ensures.one start shown rep.head shows rep.head_represents.lanes_number rep.first) rep.head_represents) page was

pub returns-then-not-has_root-clause-sound : goal.returns-then-not-has_root-clause-sound
returns-then-not-has_root-clause-sound g c count o start shown h shows rep page is =
    let now = c.read_head.ensures.same.shown start shown shows in
    let head_represents = subst (λ (x : Contents). HeadRepresents (TreeLocated count) c.args.settings (settled_in o) x shown h) (c.in_ok-head.ensures.one start shown rep.head shows rep.head_represents.lanes_number rep.first) rep.head_represents in
    let homes = g.met.P.Pages.count c.read_head.new.pages start shown now ∙ sym c.home_pages.ensures in
    let has = subst (λ n. HasRoot n c.args.settings c.in_ok-head.head) homes (rooted count c.args.settings o c.in_ok-head.head shown h head_represents) in
    let yes = c.has_root.ensures.has.1 has in
    false≢true (sym c.if-not-has_root.true ∙ yes)
