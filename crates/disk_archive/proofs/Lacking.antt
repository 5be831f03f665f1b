-- Where a change is refused since there are too few pages, levels or blocks, and where there are enough.
use Rattle.std.proofs.Common.{◌≡◌, ◌≢◌, ◌≤◌, inl, inr, ℕ, suc, Bool, List, [], ◌∷◌, refl, sym, ◌∙◌, subst, arith, Result, Ok, Err}
use Rattle.std.specs.Prelude.{IfErr}
use Rattle.page_tx.specs.declared.error.PageError.{PageError}
use Rattle.page_tx.specs.declared.error.PageError.TheVariants as pages
use Rattle.page_journal.specs.declared.error.UseError.{UseError}
use Rattle.page_journal.specs.declared.error.UseError.TheVariants as uses
use Rattle.intake.specs.Calls.{PageRefusal}
use Rattle.route_model.specs.Admission.{Admitted}
use Rattle.route_meaning.specs.Merged.{Placed}
use Rattle.route_meaning.specs.History.{History, waiting}
use Rattle.route_history.specs.Kept.{Timed, AreVersions}
use Rattle.tsb_tree.specs.Needs.{NeedsLevel, NeedsPages}
use Rattle.tsb_tree.specs.NoRoom.{AtRoot}
use Rattle.tsb_tree.specs.Opened.{HasRootLevel, is_key_node}
use Rattle.tsb_tree.specs.Outlived.{LeadsToOutdated, outdated_leaf, outdated_below}
use Rattle.tsb_node.specs.Views.{PageRepresents}
use Rattle.tsb_walk.specs.declared.page_place.PagePlace.{PagePlace}
use Rattle.tsb_walk.specs.Shown.{keys_at}
use Rattle.version_model.specs.Pages.{Keys, KeyNode, all_keys}
use Rattle.version_model.specs.Versions.{Version}
use Rattle.archive_head.specs.Head.{Contents}
use Rattle.archive_pages.specs.declared.settings.Settings.{Settings}
use Rattle.archive_pages.specs.Refusals.{HeadRefusal}
use Rattle.archive_pages.specs.Changes.{next_change}
use Rattle.archive_pages.specs.Represented.{HeadRepresents}
use Rattle.disk_archive.specs.declared.apply_error.ApplyError.{ApplyError}
use Rattle.disk_archive.specs.declared.apply_error.ApplyError.TheVariants as applies
use Rattle.disk_archive.specs.Lacks.{HasRoom, IsNextVersion, LacksLevel, LacksNone, LacksPages, NeedsBlock, OneLacksNone}
use Rattle.disk_archive.specs.Trees.{TreeLocated}
use Rattle.disk_archive.specs.inner.Applications.{ApplyRefusal, FrontRefusal, LackRefusal, LimitRefusal, apply_of_use}
use Rattle.disk_archive.proofs.OneNeed.{tree_need}

-- ---- the first admission isn't read

pub front_applies : (down : Bool) (e : ApplyError) → FrontRefusal down e → ApplyRefusal down e
front_applies down applies.NeedsRecovery f = f
front_applies down applies.CounterFull f = tt
front_applies down applies.TooHigh f = tt
front_applies down applies.PagesFull f = tt
front_applies down applies.OnceFull f = tt
front_applies down (applies.BadNode page) f = tt
front_applies down applies.Fault f = tt
front_applies down applies.OutOfMemory f = tt

pub front_limits : (down : Bool) (homes next count : ℕ) (e : ApplyError) → FrontRefusal down e → LimitRefusal homes next count e
front_limits down homes next count applies.NeedsRecovery f = tt
front_limits down homes next count applies.CounterFull f = absurd f
front_limits down homes next count applies.TooHigh f = absurd f
front_limits down homes next count applies.PagesFull f = absurd f
front_limits down homes next count applies.OnceFull f = absurd f
front_limits down homes next count (applies.BadNode page) f = tt
front_limits down homes next count applies.Fault f = tt
front_limits down homes next count applies.OutOfMemory f = tt

pub front_lacks : (down : Bool) (is : Version → Type 0) (shown : List (List ℕ)) (left root : ℕ) (e : ApplyError) → FrontRefusal down e → LackRefusal is shown left root e
front_lacks down is shown left root applies.NeedsRecovery f = tt
front_lacks down is shown left root applies.CounterFull f = absurd f
front_lacks down is shown left root applies.TooHigh f = absurd f
front_lacks down is shown left root applies.PagesFull f = absurd f
front_lacks down is shown left root applies.OnceFull f = absurd f
front_lacks down is shown left root (applies.BadNode page) f = tt
front_lacks down is shown left root applies.Fault f = tt
front_lacks down is shown left root applies.OutOfMemory f = tt

-- where the head isn't laid over its page, nothing is read either
pub head_reads : (down : Bool) (n : ℕ) (e : PageError) → e ≢ pages.TooManyImages → HeadRefusal n e → PageRefusal down e
head_reads down n pages.Fault few r = absurd r
head_reads down n pages.NeedsRecovery few r = absurd r
head_reads down n pages.TooManyImages few r = absurd (few refl)
head_reads down n pages.PagesFull few r = absurd r
head_reads down n pages.OutOfMemory few r = tt

-- ---- a version isn't taken

-- only pages, a level and a block are to be looked at
pub lacks_by : (is : Version → Type 0) (shown : List (List ℕ)) (left root : ℕ) (e : ApplyError) → (e ≡ applies.PagesFull → LacksPages is shown left root) → (e ≡ applies.TooHigh → LacksLevel is shown root)
    → (e ≡ applies.OnceFull → NeedsBlock is shown root) → LackRefusal is shown left root e
lacks_by is shown left root applies.NeedsRecovery full high once = tt
lacks_by is shown left root applies.CounterFull full high once = tt
lacks_by is shown left root applies.TooHigh full high once = high refl
lacks_by is shown left root applies.PagesFull full high once = full refl
lacks_by is shown left root applies.OnceFull full high once = once refl
lacks_by is shown left root (applies.BadNode page) full high once = tt
lacks_by is shown left root applies.Fault full high once = tt
lacks_by is shown left root applies.OutOfMemory full high once = tt

-- the same of a version of which more is known
pub lacks_as : (was is : Version → Type 0) (shown : List (List ℕ)) (left root : ℕ) (e : ApplyError) → ((v : Version) → was v → is v) → LackRefusal was shown left root e → LackRefusal is shown left root e
lacks_as was is shown left root applies.NeedsRecovery more l = tt
lacks_as was is shown left root applies.CounterFull more l = tt
lacks_as was is shown left root applies.TooHigh more l = record { version = l.version; its = more l.version l.its; highest = l.highest; needs = l.needs }
lacks_as was is shown left root applies.PagesFull more l = record { version = l.version; its = more l.version l.its; level = l.level; needed = l.needed; needs = l.needs; above = l.above }
lacks_as was is shown left root applies.OnceFull more l = record { version = l.version; its = more l.version l.its; level = l.level; needs = l.needs }
lacks_as was is shown left root (applies.BadNode page) more l = tt
lacks_as was is shown left root applies.Fault more l = tt
lacks_as was is shown left root applies.OutOfMemory more l = tt

-- the same where as many pages are left, of the same tree
pub lacks_at : (is : Version → Type 0) (shown : List (List ℕ)) (left root left' root' : ℕ) (e : ApplyError) → left' ≡ left → root' ≡ root → LackRefusal is shown left' root' e → LackRefusal is shown left root e
lacks_at is shown left root left' root' e n r l = subst (λ m. LackRefusal is shown m root e) n (subst (λ m. LackRefusal is shown left' m e) r l)

-- a commit refuses neither
pub lacks_commit : (is : Version → Type 0) (shown : List (List ℕ)) (left root : ℕ) (e : UseError) → LackRefusal is shown left root (apply_of_use e)
lacks_commit is shown left root uses.Fault = tt
lacks_commit is shown left root uses.NeedsRecovery = tt

-- ---- the next change

-- its version, by the head
pub next_version : (count : ℕ) (s : Settings) (settled : ℕ → List ℕ → Type 0) (head : Contents) (shown : List (List ℕ)) (h : History) (first : Placed Admitted) (later : List (Placed Admitted)) (v : Version)
    → HeadRepresents (TreeLocated count) s settled head shown h → waiting h ≡ first ∷ later → AreVersions head.applied (next_change head.begun first) (v ∷ []) → IsNextVersion h v
next_version count s settled head shown h first later v b here is = record {
  first = first;
  later = later;
  here = here;
  version = subst (λ (n : ℕ). AreVersions n (next_change h.some first) (v ∷ [])) b.numbered (subst (λ (n : ℕ). AreVersions head.applied (next_change n first) (v ∷ [])) b.begun is);
}

-- and only its version is one by the head
pub version_next : (count : ℕ) (s : Settings) (settled : ℕ → List ℕ → Type 0) (head : Contents) (shown : List (List ℕ)) (h : History) (first : Placed Admitted) (later : List (Placed Admitted)) (v : Version)
    → HeadRepresents (TreeLocated count) s settled head shown h → waiting h ≡ first ∷ later → IsNextVersion h v → AreVersions head.applied (next_change head.begun first) (v ∷ [])
version_next count s settled head shown h first later v b here is =
    let same : is.first ≡ first = (let e : is.first ∷ is.later ≡ first ∷ later = sym is.here ∙ here in cc) in
    subst (λ (p : Placed Admitted). AreVersions head.applied (next_change head.begun p) (v ∷ [])) same
    (subst (λ (n : ℕ). AreVersions head.applied (next_change n is.first) (v ∷ [])) (sym b.begun) (subst (λ (n : ℕ). AreVersions n (next_change h.some is.first) (v ∷ [])) (sym b.numbered) is.version))

-- ---- a version is taken

-- the way from a place of all keys is that from one of the same page and of its root's level
level_of : (shown : List (List ℕ)) (v : Version) (level : ℕ) (place : PagePlace) → keys_at place ≡ all_keys → HasRootLevel shown place.page level → LeadsToOutdated shown v place
    → (at : PagePlace) × (at.page ≡ place.page) × (at.level ≡ level) × (keys_at at ≡ keys_at place) × LeadsToOutdated shown v at
level_of shown v level _ keys is (outdated_leaf column page image of filled outdated) =
    let at : PagePlace = record { page = column.page; level = level; low = column.low; high = column.high } in (
      at,
      refl,
      refl,
      refl,
      outdated_leaf at page image (record { parts = of.parts; start = of.start; versions = of.versions; column = of.column; at = of.at; represents_node = of.represents_node })
          (record { start = filled.start; versions = filled.versions; represents_node = filled.represents_node; filled = filled.filled })
          (record { start = outdated.start; versions = outdated.versions; represents_node = outdated.represents_node; outlived = outdated.outlived }),
    )
level_of shown v level _ keys is (outdated_below place next lower rest) =
    let decoded : PageRepresents lower.represents_node.octets (KeyNode place.level all_keys lower.children) = subst (λ (k : Keys). PageRepresents lower.represents_node.octets (KeyNode place.level k lower.children)) keys lower.represents_node.represents_node in
    let same : level ≡ place.level = is place.level (lower.represents_node.octets, lower.represents_node.at, is_key_node place.level lower.children decoded) in
    (place, refl, sym same, refl, outdated_below place next lower rest)

-- where the tree was given as many pages as it needs, and rises where it has to
module _ (v : Version) (shown : List (List ℕ)) (left root level n : ℕ) (at : AtRoot (λ place. NeedsPages shown v place n) root level) where
  enough_of : n ≤ left → LacksPages (λ w. w ≡ v) shown left root → ⊥
  enough_of few l =
      let needs : AtRoot (λ place. NeedsPages shown v place l.needed) root l.level = subst (λ (w : Version). AtRoot (λ place. NeedsPages shown w place l.needed) root l.level) l.its l.needs in
      let same : n ≡ l.needed = tree_need shown v at.0 needs.0 n l.needed (at.1 ∙ sym needs.1) at.4 needs.4 in
      let above = l.above in
      omega (arith, same, few, above)

  below_of : (now : ℕ) → HasRootLevel shown root level → now ≤ 7 → (AtRoot (NeedsLevel shown v) root level → now ≡ suc level) → LacksLevel (λ w. w ≡ v) shown root → ⊥
  below_of now is most rises l =
      let seven : level ≡ 7 = is 7 l.highest in
      let needs : AtRoot (NeedsLevel shown v) root 7 = subst (λ (w : Version). AtRoot (NeedsLevel shown w) root 7) l.its l.needs in
      let up = rises (subst (λ (k : ℕ). AtRoot (NeedsLevel shown v) root k) (sym seven) needs) in
      omega (arith, seven, up, most)

  block_of : (none_blank : Type 0) → HasRootLevel shown root level → (none_blank → AtRoot (LeadsToOutdated shown v) root level → ⊥) → NeedsBlock (λ w. w ≡ v) shown root → none_blank → ⊥
  block_of none_blank is never l none =
      let needs : AtRoot (LeadsToOutdated shown v) root l.level = subst (λ (w : Version). AtRoot (LeadsToOutdated shown w) root l.level) l.its l.needs in
      let found = level_of shown v level needs.0 needs.3 (subst (λ (r : ℕ). HasRootLevel shown r level) (sym needs.1) is) needs.4 in
      never none (found.0, found.1 ∙ needs.1, found.2, found.3 ∙ needs.3, found.4)

  pub lacks_none : (none_blank : Type 0) → n ≤ left → (now : ℕ) → HasRootLevel shown root level → now ≤ 7 → (AtRoot (NeedsLevel shown v) root level → now ≡ suc level) → (none_blank → AtRoot (LeadsToOutdated shown v) root level → ⊥)
      → LacksNone v shown left root none_blank
  lacks_none none_blank few now is most rises never = record { enough = enough_of few; below = below_of now is most rises; block = block_of none_blank is never }

-- the same of one of the versions of which more is known
pub one_as : (was is : Version → Type 0) (shown : List (List ℕ)) (left root : ℕ) (none_blank : Type 0) → ((v : Version) → was v → is v) → ((v : Version) → is v → was v) → OneLacksNone was shown left root none_blank → OneLacksNone is shown left root none_blank
one_as was is shown left root none_blank more back (inl none) = inl (λ v h. none v (back v h))
one_as was is shown left root none_blank more back (inr one) = inr (one.0, more one.0 one.1, one.2)

-- a change that isn't there has no version
pub none_versions : (n : ℕ) (shown : List (List ℕ)) (left root : ℕ) (none_blank : Type 0) (ts : List Timed) → ts ≡ [] → OneLacksNone (λ v. AreVersions n ts (v ∷ [])) shown left root none_blank
none_versions n shown left root none_blank ts none = inl (λ v is. subst (λ (us : List Timed). AreVersions n us (v ∷ [])) none is)

-- the same where as many pages are left, of the same tree, and as many changes are applied
pub room_at : (is : Version → Type 0) (shown : List (List ℕ)) (left root count left' root' count' : ℕ) (none_blank : Type 0) → left' ≡ left → root' ≡ root → count' ≡ count → HasRoom is shown left' root' count' none_blank → HasRoom is shown left root count none_blank
room_at is shown left root count left' root' count' none_blank n r c room =
    subst (λ m. HasRoom is shown m root count none_blank) n (subst (λ m. HasRoom is shown left' m count none_blank) r (subst (λ m. HasRoom is shown left' root' m none_blank) c room))

-- ---- what is returned

pub lacks_pages : {X : Type 0} (is : Version → Type 0) (shown : List (List ℕ)) (left root : ℕ) (r : Result X ApplyError) → IfErr r (LackRefusal is shown left root) → r ≡ Err applies.PagesFull → LacksPages is shown left root
lacks_pages is shown left root (Ok x) l reported = absurd cc
lacks_pages is shown left root (Err e) l reported = let same : e ≡ applies.PagesFull = cc in subst (LackRefusal is shown left root) same l

pub lacks_level : {X : Type 0} (is : Version → Type 0) (shown : List (List ℕ)) (left root : ℕ) (r : Result X ApplyError) → IfErr r (LackRefusal is shown left root) → r ≡ Err applies.TooHigh → LacksLevel is shown root
lacks_level is shown left root (Ok x) l reported = absurd cc
lacks_level is shown left root (Err e) l reported = let same : e ≡ applies.TooHigh = cc in subst (LackRefusal is shown left root) same l

pub lacks_block : {X : Type 0} (is : Version → Type 0) (shown : List (List ℕ)) (left root : ℕ) (r : Result X ApplyError) → IfErr r (LackRefusal is shown left root) → r ≡ Err applies.OnceFull → NeedsBlock is shown root
lacks_block is shown left root (Ok x) l reported = absurd cc
lacks_block is shown left root (Err e) l reported = let same : e ≡ applies.OnceFull = cc in subst (LackRefusal is shown left root) same l
