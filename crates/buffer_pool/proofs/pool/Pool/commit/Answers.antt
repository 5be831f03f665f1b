use Rattle.std.proofs.Common.{◌≡◌, ◌≢◌, ⊎_elim, inl, inr, rules, List, length, sym, subst}
use Rattle.disk_models.specs.Erase.{Leaves}
use Rattle.page_journal.specs.Layout.{Image, pages_of}
use Rattle.page_journal.specs.Journal.{Keeps, disk_of, home_pages, note_of}
use Rattle.page_journal.specs.Recovers.{laid, AreBelow, IsListed, RecoversEither}
use Rattle.page_journal.specs.declared.error.PostError.TheVariants as posts
use Rattle.page_journal.proofs.api.Kept.{gives_or_not, kept_length}
use Rattle.buffer_pool.proofs.Waiting.{posted_among, unchanged_pool}
use Rattle.buffer_pool.proofs.pool.Pool.commit.Goals as goal

pub returns-in_err-post-clause-crash : goal.returns-in_err-post-clause-crash
returns-in_err-post-clause-crash g c h pages m =
    let old = c.args.self.now.journal in
    subst (λ (l : List Image). Leaves (g.D.EraseDisk.model (disk_of old)) (g.D.EraseDisk.model (disk_of c.post.new.journal)) (RecoversEither (home_pages old) (note_of old) pages (laid l pages))) c.deref.ensures.value
    (c.post.ensures.crash h pages m.keeps)

pub returns-clause-crash : goal.returns-clause-crash
returns-clause-crash g c h pages m =
    let old = c.args.self.now.journal in
    subst (λ (l : List Image). Leaves (g.D.EraseDisk.model (disk_of old)) (g.D.EraseDisk.model (disk_of c.post.new.journal)) (RecoversEither (home_pages old) (note_of old) pages (laid l pages))) c.deref.ensures.value
    (c.post.ensures.crash h pages m.keeps)

pub returns-clause-maps : goal.returns-clause-maps
returns-clause-maps g c h pages m =
    let old = c.args.self.now.journal in
    let images = c.args.images.items in
    let long : length pages ≡ home_pages old = kept_length g.D.EraseDisk old pages m.keeps in
    record {
      keeps = subst (λ (l : List Image). Keeps g.D.EraseDisk c.post.new.journal (laid l pages)) c.deref.ensures.value (c.in_ok-post.ensures.posted h pages m.keeps);
      held = c.take_all.ensures.holds pages (subst (λ k. AreBelow k (pages_of images)) (sym long) c.requires.below) m.held;
    }

pub returns-in_err-post-clause-unchanged : goal.returns-in_err-post-clause-unchanged
returns-in_err-post-clause-unchanged g c = unchanged_pool (λ e. e ≢ posts.Fault) c.args.self.now c.post.new.journal c.from_residual.result _ (search rules)

pub invariant_of-self-2 : goal.invariant_of-self-2
invariant_of-self-2 g c = record {
  dirty = λ m there.
      let self = c.args.self.now in
      let same = c.deref.ensures.value in
      posted_among c.deref.result.now self.journal c.post.new.journal m c.post.ensures.empty
      (λ some. ⊎_elim (λ yes. (c.in_ok-post.ensures.turned some yes).unhomed) (λ no. (c.in_ok-post.ensures.taken some no).unhomed) (gives_or_not g.D.EraseDisk self.journal))
      (⊎_elim
      (λ listed. inl (subst (λ (l : List Image). IsListed m (pages_of l)) (sym same) listed))
      (λ was. inr (self.dirty m was))
      (c.take_all.ensures.only m there));
}
