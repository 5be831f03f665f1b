use Rattle.std.proofs.Common.{◌≡◌, ◌∙◌, ⊎_elim, ℕ, List, length, ap, sym, subst, arith, false, Result, Ok, Err}
use Rattle.std.specs.Result.{OnOk, IfErr}
use Rattle.disk_models.specs.declared.erase.EraseDisk.{Ghosts}
use Rattle.disk_models.specs.Erase.{Leaves}
use Rattle.page_journal.specs.Calls.{TakesSlot, TakesTurn}
use Rattle.page_journal.specs.declared.journal.Journal.{Journal}
use Rattle.page_journal.specs.Journal.{GivesBack, closed_slots, disk_of, home_pages, needs_recovery, note_of, unhomed_pages}
use Rattle.page_journal.specs.Layout.{Image, pages_of}
use Rattle.page_journal.specs.Recovers.{AreDistinct, RecoversEither, laid}
use Rattle.page_journal.specs.Refusals.{PostRefusal, PostsAt}
use Rattle.page_tx.specs.Images.{joined}
use Rattle.page_journal.proofs.api.Kept.{gives_or_not}
use Rattle.std.proofs.lemmas.Result.{on_ok_weaker}
use Rattle.page_tx.proofs.Laying.{length_pages_of}
use Rattle.page_tx.proofs.tx.Tx.commit.Goals as goal

pub commit-requires-clause-distinct : goal.commit-requires-clause-distinct
commit-requires-clause-distinct g c =
    let same : c.args.self.now.images.items ≡ c.replace-images.result.items = ap (λ v. v.items) (sym c.replace-images.ensures.value) in
    subst (λ (l : List Image). AreDistinct (pages_of l)) same c.args.self.now.distinct

pub returns-clause-crash : goal.returns-clause-crash
returns-clause-crash g c start shown s =
    let journal = c.args.self.now.pool.journal in
    let same : c.replace-images.result.items ≡ c.args.self.now.images.items = ap (λ v. v.items) c.replace-images.ensures.value in
    let s0 = g.D.EraseDisk.model (disk_of journal) in
    let s1 = g.D.EraseDisk.model (disk_of c.commit.new.self.journal) in
    let is : laid c.replace-images.result.items start.pages ≡ shown = ap (λ (l : List Image). laid l start.pages) same ∙ sym s.over in
    subst (λ (k : List ℕ). Leaves s0 s1 (RecoversEither (home_pages journal) k start.pages shown)) s.noted
    (subst (λ (l : List (List ℕ)). Leaves s0 s1 (RecoversEither (home_pages journal) (note_of journal) start.pages l)) is (c.commit.ensures.crash s.honest start.pages s.maps))

pub returns-clause-accepted : goal.returns-clause-accepted
returns-clause-accepted g c =
    let journal = c.args.self.now.pool.journal in
    let same : c.replace-images.result.items ≡ c.args.self.now.images.items = ap (λ v. v.items) c.replace-images.ensures.value in
    subst (λ k. OnOk c.commit.result (PostsAt (needs_recovery journal) k (closed_slots journal))) (ap length same ∙ sym (length_pages_of c.args.self.now.images.items)) c.commit.ensures.accepted

pub returns-clause-refused : goal.returns-clause-refused
returns-clause-refused g c =
    let journal = c.args.self.now.pool.journal in
    let same : c.replace-images.result.items ≡ c.args.self.now.images.items = ap (λ v. v.items) c.replace-images.ensures.value in
    subst (λ k. IfErr c.commit.result (PostRefusal (needs_recovery journal) k (closed_slots journal))) (ap length same ∙ sym (length_pages_of c.args.self.now.images.items)) c.commit.ensures.refused

pub returns-clause-empty : goal.returns-clause-empty
returns-clause-empty g c none =
    let same = ap (λ v. length v.items) c.replace-images.ensures.value in
    let long = length_pages_of c.args.self.now.images.items in
    c.commit.ensures.empty (omega (arith, none, same, long))

-- what a slot that was taken says, whether or not the oldest one was closed
took : {D : Type 0} {device : Ghosts D} {A E : Type 0} (posted : List Image) (old new : Journal D device) (r : Result A E) → (¬ GivesBack device old → OnOk r (TakesSlot device posted old new)) → (GivesBack device old → OnOk r (TakesTurn device posted old new))
    → OnOk r (unhomed_pages new ≡ joined (unhomed_pages old) (pages_of posted)) × OnOk r (needs_recovery new ≡ false)
took {D} {device} posted old new (Ok x) taken turned = ⊎_elim (λ yes. let t = turned yes in (t.unhomed, t.usable)) (λ no. let t = taken no in (t.unhomed, t.usable)) (gives_or_not device old)
took posted old new (Err e) taken turned = (tt, tt)

pub returns-clause-dirty : goal.returns-clause-dirty
returns-clause-dirty g c some =
    let old = c.args.self.now.pool.journal in
    let new = c.commit.new.self.journal in
    let same : c.replace-images.result.items ≡ c.args.self.now.images.items = ap (λ v. v.items) c.replace-images.ensures.value in
    let long = length_pages_of c.args.self.now.images.items in
    let number = ap (λ v. length v.items) c.replace-images.ensures.value in
    subst (λ (l : List Image). OnOk c.commit.result (unhomed_pages new ≡ joined (unhomed_pages old) (pages_of l))) same
    (took c.replace-images.result.items old new c.commit.result (c.commit.ensures.taken (omega (arith, some, number, long))) (c.commit.ensures.turned (omega (arith, some, number, long)))).0

pub returns-clause-usable : goal.returns-clause-usable
returns-clause-usable g c some =
    let old = c.args.self.now.pool.journal in
    let new = c.commit.new.self.journal in
    let long = length_pages_of c.args.self.now.images.items in
    let number = ap (λ v. length v.items) c.replace-images.ensures.value in
    (took c.replace-images.result.items old new c.commit.result (c.commit.ensures.taken (omega (arith, some, number, long))) (c.commit.ensures.turned (omega (arith, some, number, long)))).1

pub returns-clause-taken : goal.returns-clause-taken
returns-clause-taken g c some none =
    let long = length_pages_of c.args.self.now.images.items in
    let number = ap (λ v. length v.items) c.replace-images.ensures.value in
    on_ok_weaker c.commit.result (λ t. t.opened) (c.commit.ensures.taken (omega (arith, some, number, long)) none)

pub returns-clause-turned : goal.returns-clause-turned
returns-clause-turned g c some gives =
    let long = length_pages_of c.args.self.now.images.items in
    let number = ap (λ v. length v.items) c.replace-images.ensures.value in
    on_ok_weaker c.commit.result (λ t. t.opened) (c.commit.ensures.turned (omega (arith, some, number, long)) gives)
