use Rattle.std.proofs.Common.{◌≡◌, inl, inr, ◌+◌, ◌∷◌, ◌++◌, [], ℕ, length, min, refl, sym, ◌∙◌, ap, subst, arith, Err}
use Rattle.std.proofs.lemmas.Bool.{false≢true}
use Rattle.disk_models.specs.Once.{settled_in}
use Rattle.once_store.specs.Shelves.{disk_of, next_of, pen_of}
use Rattle.archive_head.specs.Head.{Contents}
use Rattle.route_history.specs.Stamps.{stamp_of}
use Rattle.version_model.specs.Pages.{TreeRepresents}
use Rattle.disk_archive.specs.declared.apply_error.ApplyError.TheVariants as applies
use Rattle.disk_archive.specs.declared.change_error.ChangeError.TheVariants as changes
use Rattle.version_model.specs.Entries.{version_of}
use Rattle.once_store.specs.declared.error.AppendError.TheVariants as appends
use Rattle.page_tx.specs.declared.error.PageError.TheVariants as pages
use Rattle.tsb_tree.specs.declared.error.TreeError.TheVariants as trees
use Rattle.tsb_tree.specs.Opened.{HasRootLevel, IsShownRoot}
use Rattle.tsb_tree.specs.NoRoom.{AtRoot}
use Rattle.tsb_tree.specs.Needs.{NeedsLevel, NeedsPages}
use Rattle.tsb_tree.specs.Shelves.{HasNoneBlank}
use Rattle.tsb_tree.specs.Refusals.{BlamesNone, InsertRefusal, ReadRefusal}
use Rattle.disk_archive.specs.inner.Applications.{TreeTakes}
use Rattle.disk_archive.proofs.Failing.{reports_both, reports_first, reports_then, reports_as, tree_apart}
use Rattle.disk_archive.proofs.Faults.{done_not_reported, one_reported}
use Rattle.tsb_tree.specs.Outlived.{LeadsToOutdated}
use Rattle.tsb_tree.proofs.Roots.{tree_root}
use Rattle.disk_archive.proofs.Changing.{change_lacks}
use Rattle.disk_archive.proofs.Lacking.{lacks_none}
use Rattle.disk_archive.proofs.Taking.{shown_at, taken_at}
use Rattle.disk_archive.proofs.planning_application.take_version.Goals as goal

pub returns-in-Err-clause-refused : goal.returns-in-Err-clause-refused
returns-in-Err-clause-refused g c = c.of_tree.ensures.refused _ (λ e. subst (ReadRefusal _) e c.in-Err.ensures.refused)

pub returns-in-Err-insert-clause-refused : goal.returns-in-Err-insert-clause-refused
returns-in-Err-insert-clause-refused g c = c.of_tree-in-Err-insert.ensures.refused _ (λ e. sym c.open.ensures.reads.down ∙ subst (InsertRefusal _ _ _ _ _ _ _) e c.in-Err-insert.ensures.refused)

pub returns-in-Ok-insert-clause-few : goal.returns-in-Ok-insert-clause-few
returns-in-Ok-insert-clause-few g c =
    let was = ap length c.open.ensures.reads.named in
    let few = c.requires.few in
    c.in-Ok-insert.ensures.fits (omega (arith, was, few))

pub returns-in-Err-clause-first : goal.returns-in-Err-clause-first
returns-in-Err-clause-first g c few is = absurd (subst (ReadRefusal _) (c.of_tree.ensures.room (cc is)) c.in-Err.ensures.refused)

pub returns-in-Err-insert-clause-first : goal.returns-in-Err-insert-clause-first
returns-in-Err-insert-clause-first g c few is =
    let many = subst (InsertRefusal _ _ _ _ _ _ _) (c.of_tree-in-Err-insert.ensures.room (cc is)) c.in-Err-insert.ensures.refused in
    let was = ap length c.open.ensures.reads.named in
    let level = c.in-Ok.ensures.few in
    absurd (omega (arith, many, was, level, few))

pub returns-in-Ok-insert-clause-takes : goal.returns-in-Ok-insert-clause-takes
returns-in-Ok-insert-clause-takes g c start shown low versions shows honest t =
    let P = g.P.Pages in
    let O = g.O.OnceDisk in
    let h = c.args.head.now in
    let view = c.head.view_is in
    let reads = c.open.ensures.reads in
    let shows' = reads.shown start shown shows in
    let count : length shown ≡ P.homes c.open.new.pages = g.met.P.Pages.count c.args.pages.now start shown shows ∙ sym reads.homes in
    let next' = reads.next ∙ (c.requires.next ∙ ap (λ n. min h.fresh n) (sym reads.homes)) in
    let root = ap (λ (x : Contents). x.root) view in
    let least : c.new-least.result ≡ stamp_of h.last h.applied = c.new-least.ensures.number ∙ (ap (λ (t : ℕ). stamp_of t c.head.inside.applied) (c.number.ensures.number ∙ ap (λ (x : Contents). x.last) view) ∙ ap (λ (n : ℕ). stamp_of h.last n) (ap (λ (x : Contents). x.applied) view)) in
    let level = c.in-Ok.ensures.opened start shown shows t.store versions t.level t.represents_node (subst (λ (r : ℕ). TreeRepresents t.store versions r t.level) (sym root) t.has.represents_all) in
    let tree = shown_at P c.open.new.pages O c.args.shelf.now start shown low h.root h.fresh h.block (stamp_of h.last h.applied) versions shows' honest count next' c.requires.block t
    c.in-Ok.place.root c.in-Ok.place.level c.in-Ok.place.least (c.in-Ok.ensures.root ∙ root) level (c.in-Ok.ensures.least ∙ least) in
    let all = versions ++ version_of c.args.entry.now ∷ [] in
    let k = c.in-Ok-insert.ensures.ok start shown versions tree in
    let took = taken_at P c.open.new.pages O c.args.shelf.now start shown low h.root h.fresh h.block (stamp_of h.last h.applied) versions shows' honest count next' c.requires.block t
    c.insert.new.pages c.insert.new.shelf c.in-Ok-insert.now all c.insert.ensures.shelf.disk
    (λ after s. g.met.P.Pages.count c.insert.new.pages start after s ∙ c.insert.ensures.homes) k in
    let T = λ (f b l : ℕ). TreeTakes (O.block_count (disk_of c.args.shelf.now)) (settled_in (O.model (pen_of c.insert.new.shelf))) (P.shows c.insert.new.pages start) low c.in-Ok-insert.now.root f b l all shown in
    subst (λ (f : ℕ). T f c.next.result (c.args.entry.now.stamp + 1)) (sym c.next_page.ensures)
    (subst (λ (b : ℕ). T (P.next c.insert.new.pages) b (c.args.entry.now.stamp + 1)) (sym c.next.ensures.next)
    (subst (λ (l : ℕ). T (P.next c.insert.new.pages) (next_of c.insert.new.shelf) l) c.in-Ok-insert.ensures.least took))

pub returns-in-Err-insert-clause-sound : goal.returns-in-Err-insert-clause-sound
returns-in-Err-insert-clause-sound g c start shown low versions shows honest t page e =
    let P = g.P.Pages in
    let O = g.O.OnceDisk in
    let h = c.args.head.now in
    let view = c.head.view_is in
    let reads = c.open.ensures.reads in
    let shows' = reads.shown start shown shows in
    let count : length shown ≡ P.homes c.open.new.pages = g.met.P.Pages.count c.args.pages.now start shown shows ∙ sym reads.homes in
    let next' = reads.next ∙ (c.requires.next ∙ ap (λ n. min h.fresh n) (sym reads.homes)) in
    let root = ap (λ (x : Contents). x.root) view in
    let least : c.new-least.result ≡ stamp_of h.last h.applied = c.new-least.ensures.number ∙ (ap (λ (t : ℕ). stamp_of t c.head.inside.applied) (c.number.ensures.number ∙ ap (λ (x : Contents). x.last) view) ∙ ap (λ (n : ℕ). stamp_of h.last n) (ap (λ (x : Contents). x.applied) view)) in
    let level = c.in-Ok.ensures.opened start shown shows t.store versions t.level t.represents_node (subst (λ (r : ℕ). TreeRepresents t.store versions r t.level) (sym root) t.has.represents_all) in
    let tree = shown_at P c.open.new.pages O c.args.shelf.now start shown low h.root h.fresh h.block (stamp_of h.last h.applied) versions shows' honest count next' c.requires.block t
    c.in-Ok.place.root c.in-Ok.place.level c.in-Ok.place.least (c.in-Ok.ensures.root ∙ root) level (c.in-Ok.ensures.least ∙ least) in
    let reported : c.of_tree-in-Err-insert.result ≡ changes.Apply (applies.BadNode page) = cc in
    subst BlamesNone (c.of_tree-in-Err-insert.ensures.bad page reported) (c.in-Err-insert.ensures.honest start shown versions tree)

-- ---- what is too much

pub returns-in-Err-clause-limits : goal.returns-in-Err-clause-limits
returns-in-Err-clause-limits g c = c.of_tree.ensures.limits _ _ _ (λ e. absurd (subst (ReadRefusal _) e c.in-Err.ensures.refused))

pub returns-in-Err-insert-clause-limits : goal.returns-in-Err-insert-clause-limits
returns-in-Err-insert-clause-limits g c = c.of_tree-in-Err-insert.ensures.limits _ _ _ (λ e.
    let full = subst (InsertRefusal _ _ _ _ _ _ _) e c.in-Err-insert.ensures.refused in
    let level = c.in-Ok.ensures.few in
    let homes = c.open.ensures.reads.homes in
    let next = c.open.ensures.reads.next in
    omega (arith, full, level, homes, next))

pub returns-in-Err-clause-high : goal.returns-in-Err-clause-high
returns-in-Err-clause-high g c start shown shows reported = absurd (subst (ReadRefusal _) (c.of_tree.ensures.high (cc reported)) c.in-Err.ensures.refused)

pub returns-in-Err-insert-clause-high : goal.returns-in-Err-insert-clause-high
returns-in-Err-insert-clause-high g c start shown shows reported =
    let h = c.args.head.now in
    let level : c.in-Ok.place.level ≡ 7 = subst (InsertRefusal _ _ _ _ _ _ _) (c.of_tree-in-Err-insert.ensures.high (cc reported)) c.in-Err-insert.ensures.refused in
    let root = ap (λ (x : Contents). x.root) c.head.view_is in
    subst (λ (n : ℕ). HasRootLevel shown h.root n) level (subst (λ (r : ℕ). HasRootLevel shown r c.in-Ok.place.level) root (c.in-Ok.ensures.level start shown shows))

pub returns-in-Err-clause-lacks : goal.returns-in-Err-clause-lacks
returns-in-Err-clause-lacks g c start shown low versions shows honest t =
    change_lacks _ shown _ _ c.of_tree.result (λ full. absurd (subst (ReadRefusal _) (c.of_tree.ensures.full full) c.in-Err.ensures.refused)) (λ high. absurd (subst (ReadRefusal _) (c.of_tree.ensures.high high) c.in-Err.ensures.refused)) (λ once. absurd (subst (ReadRefusal _) (c.of_tree.ensures.once once) c.in-Err.ensures.refused))

pub returns-in-Err-insert-clause-lacks : goal.returns-in-Err-insert-clause-lacks
returns-in-Err-insert-clause-lacks g c start shown low versions shows honest t =
    let P = g.P.Pages in
    let O = g.O.OnceDisk in
    let h = c.args.head.now in
    let v = version_of c.args.entry.now in
    let view = c.head.view_is in
    let reads = c.open.ensures.reads in
    let homes = reads.homes in
    let next = reads.next in
    let shows' = reads.shown start shown shows in
    let count : length shown ≡ P.homes c.open.new.pages = g.met.P.Pages.count c.args.pages.now start shown shows ∙ sym reads.homes in
    let next' = reads.next ∙ (c.requires.next ∙ ap (λ n. min h.fresh n) (sym reads.homes)) in
    let root = ap (λ (x : Contents). x.root) view in
    let least : c.new-least.result ≡ stamp_of h.last h.applied = c.new-least.ensures.number ∙ (ap (λ (t : ℕ). stamp_of t c.head.inside.applied) (c.number.ensures.number ∙ ap (λ (x : Contents). x.last) view) ∙ ap (λ (n : ℕ). stamp_of h.last n) (ap (λ (x : Contents). x.applied) view)) in
    let level = c.in-Ok.ensures.opened start shown shows t.store versions t.level t.represents_node (subst (λ (r : ℕ). TreeRepresents t.store versions r t.level) (sym root) t.has.represents_all) in
    let here = c.in-Ok.ensures.root ∙ root in
    let tree = shown_at P c.open.new.pages O c.args.shelf.now start shown low h.root h.fresh h.block (stamp_of h.last h.applied) versions shows' honest count next' c.requires.block t
    c.in-Ok.place.root c.in-Ok.place.level c.in-Ok.place.least here level (c.in-Ok.ensures.least ∙ least) in
    let e = c.of_tree-in-Err-insert.ensures in
    change_lacks _ shown _ _ c.of_tree-in-Err-insert.result
    (λ full.
    let w = c.in-Err-insert.ensures.lacks_pages start shown versions tree (ap Err (e.full full)) in
    let more = w.2 in
    let used = c.requires.next in
    record {
      version = v;
      its = refl;
      level = c.in-Ok.place.level;
      needed = w.0;
      needs = subst (λ (r : ℕ). AtRoot (λ place. NeedsPages shown v place w.0) r c.in-Ok.place.level) here w.1;
      above = omega (arith, more, homes, next, used);
    })
    (λ high.
    let seven : c.in-Ok.place.level ≡ 7 = subst (InsertRefusal _ _ _ _ _ _ _) (e.high high) c.in-Err-insert.ensures.refused in
    record {
      version = v;
      its = refl;
      highest = subst (λ (n : ℕ). IsShownRoot shown h.root n) (sym level ∙ seven) (tree_root shown t.store versions h.root t.level t.represents_node t.has.represents_all);
      needs = subst (λ (n : ℕ). AtRoot (NeedsLevel shown v) h.root n) seven (subst (λ (r : ℕ). AtRoot (NeedsLevel shown v) r c.in-Ok.place.level) here (c.in-Err-insert.ensures.high start shown versions tree (ap Err (e.high high))));
    })
    (λ once. record {
      version = v;
      its = refl;
      level = c.in-Ok.place.level;
      needs = subst (λ (r : ℕ). AtRoot (LeadsToOutdated shown v) r c.in-Ok.place.level) here (c.in-Err-insert.ensures.once start shown versions tree _ (ap Err (e.once once)));
    })

pub returns-in-Ok-insert-clause-room : goal.returns-in-Ok-insert-clause-room
returns-in-Ok-insert-clause-room g c start shown low versions shows honest t =
    let P = g.P.Pages in
    let O = g.O.OnceDisk in
    let h = c.args.head.now in
    let v = version_of c.args.entry.now in
    let view = c.head.view_is in
    let reads = c.open.ensures.reads in
    let homes = reads.homes in
    let next = reads.next in
    let shows' = reads.shown start shown shows in
    let count : length shown ≡ P.homes c.open.new.pages = g.met.P.Pages.count c.args.pages.now start shown shows ∙ sym reads.homes in
    let next' = reads.next ∙ (c.requires.next ∙ ap (λ n. min h.fresh n) (sym reads.homes)) in
    let root = ap (λ (x : Contents). x.root) view in
    let least : c.new-least.result ≡ stamp_of h.last h.applied = c.new-least.ensures.number ∙ (ap (λ (t : ℕ). stamp_of t c.head.inside.applied) (c.number.ensures.number ∙ ap (λ (x : Contents). x.last) view) ∙ ap (λ (n : ℕ). stamp_of h.last n) (ap (λ (x : Contents). x.applied) view)) in
    let level = c.in-Ok.ensures.opened start shown shows t.store versions t.level t.represents_node (subst (λ (r : ℕ). TreeRepresents t.store versions r t.level) (sym root) t.has.represents_all) in
    let here = c.in-Ok.ensures.root ∙ root in
    let tree = shown_at P c.open.new.pages O c.args.shelf.now start shown low h.root h.fresh h.block (stamp_of h.last h.applied) versions shows' honest count next' c.requires.block t
    c.in-Ok.place.root c.in-Ok.place.level c.in-Ok.place.least here level (c.in-Ok.ensures.least ∙ least) in
    let i = c.in-Ok-insert.ensures in
    let u = i.uses start shown versions tree in
    let used = u.2 in
    let last = g.met.P.Pages.last c.insert.new.pages in
    let all = c.insert.ensures.homes in
    lacks_none v shown _ h.root c.in-Ok.place.level u.0 (subst (λ (r : ℕ). AtRoot (λ place. NeedsPages shown v place u.0) r c.in-Ok.place.level) here u.1) (HasNoneBlank O c.args.shelf.now) (omega (arith, used, last, all, homes, next)) c.in-Ok-insert.now.level
    (subst (λ (r : ℕ). HasRootLevel shown r c.in-Ok.place.level) root (c.in-Ok.ensures.level start shown shows)) i.few
    (λ needs. i.rises start shown versions tree (subst (λ (r : ℕ). AtRoot (NeedsLevel shown v) r c.in-Ok.place.level) (sym here) needs))
    (λ none leads. false≢true (i.none_left start shown versions tree none (subst (λ (r : ℕ). AtRoot (LeadsToOutdated shown v) r c.in-Ok.place.level) (sym here) leads)))

-- ---- how often both disks failed

pub returns-in-Err-clause-failed : goal.returns-in-Err-clause-failed
returns-in-Err-clause-failed g c =
    reports_as _ _ _ _ _ _
    (λ reported. (let is : c.of_tree.result ≡ changes.Apply applies.Fault = cc in elim (c.of_tree.ensures.fault.0 is) [
      | inl pages ↦ c.in-Err.is ∙ ap Err pages
      | inr once ↦ absurd (subst (ReadRefusal _) once c.in-Err.ensures.refused)
    ]))
    (λ failed. ap Err (c.of_tree.ensures.fault.1 (inl (one_reported c.open.result c.in-Err.refusal (trees.Pages pages.Fault) c.in-Err.is failed))))
    (reports_first _ _ _ _ _ _ c.open.ensures.reads.device)

pub returns-in-Ok-insert-clause-failed : goal.returns-in-Ok-insert-clause-failed
returns-in-Ok-insert-clause-failed g c =
    let quiet = c.open.ensures.reads.device.quiet (done_not_reported c.open.result c.in-Ok.place (trees.Pages pages.Fault) c.in-Ok.is) in
    let s = c.insert.ensures.shelf in
    reports_then _ _ _ _ _ _ _ (quiet, refl)
    (reports_both c.insert.result (trees.Pages pages.Fault) (trees.Once appends.Fault) _ _ _ _ _ _ _ tree_apart (λ reported. absurd cc)
    (λ failed. absurd (done_not_reported c.insert.result c.in-Ok-insert.now (trees.Pages pages.Fault) c.in-Ok-insert.is failed))
    (λ failed. absurd (done_not_reported c.insert.result c.in-Ok-insert.now (trees.Once appends.Fault) c.in-Ok-insert.is failed)) c.insert.ensures.device s.quiet s.counted)

pub returns-in-Err-insert-clause-failed : goal.returns-in-Err-insert-clause-failed
returns-in-Err-insert-clause-failed g c =
    let quiet = c.open.ensures.reads.device.quiet (done_not_reported c.open.result c.in-Ok.place (trees.Pages pages.Fault) c.in-Ok.is) in
    let s = c.insert.ensures.shelf in
    let e = c.in-Err-insert.refusal in
    reports_then _ _ _ _ _ _ _ (quiet, refl)
    (reports_both c.insert.result (trees.Pages pages.Fault) (trees.Once appends.Fault) _ _ _ _ _ _ _ tree_apart
    (λ reported. (let is : c.of_tree-in-Err-insert.result ≡ changes.Apply applies.Fault = cc in elim (c.of_tree-in-Err-insert.ensures.fault.0 is) [
      | inl pages ↦ inl (c.in-Err-insert.is ∙ ap Err pages)
      | inr once ↦ inr (c.in-Err-insert.is ∙ ap Err once)
    ]))
    (λ failed. ap Err (c.of_tree-in-Err-insert.ensures.fault.1 (inl (one_reported c.insert.result e (trees.Pages pages.Fault) c.in-Err-insert.is failed))))
    (λ failed. ap Err (c.of_tree-in-Err-insert.ensures.fault.1 (inr (one_reported c.insert.result e (trees.Once appends.Fault) c.in-Err-insert.is failed)))) c.insert.ensures.device s.quiet s.counted)
