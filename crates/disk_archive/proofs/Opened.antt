-- What a crash leaves of disks that are opened, and whose first page is then written again.
use Rattle.std.proofs.Common.{◌≡◌, ◌⊎◌, inr, ⊎_elim, ℕ, refl, sym, subst, arith}
use Rattle.disk_models.specs.Erase.{DiskState, IsSound, Leaves, MayLeave}
use Rattle.disk_models.specs.Once.{Grows, OnceState}
use Rattle.disk_models.specs.Left.{CrashPair, HasSettled, Left, LeftNow, TriedWithin, WithSettled}
use Rattle.disk_models.proofs.api.Pairs.{now_is_pair}
use Rattle.route_meaning.specs.History.{History}
use Rattle.disk_archive.specs.Openings.{ReadsAs}
use Rattle.disk_archive.specs.Sites.{LeftRepresents, Site}
use Rattle.disk_archive.specs.inner.Guarding.{CrashRepresentsOr}
use Rattle.disk_archive.proofs.Calling.{grows_none}
use Rattle.disk_archive.proofs.Reopened.{inside_read}

-- Each crash inside both: one before the page is written could be left at the start, or while the disks were opened. Nothing is burnt
-- between them.
pub inside_again : (site : Site) (blocks : ℕ) (e0 e1 e2 : DiskState) (o om o1 o2 : OnceState) (h : History) → (r : ReadsAs site blocks e0 o h) → o1 ≡ o → o2 ≡ o → CrashRepresentsOr e1 e0.clock (MayLeave e0) site.homes site.note r.represents.pages
    → Leaves e1 e2 (WithSettled o1 (LeftRepresents site h)) → (left : Left) → CrashPair e0 e2 o om o2 left → LeftNow e0 o left ⊎ LeftRepresents site h left
inside_again site blocks e0 e1 e2 o om o1 o2 h r opened same m l left pair = ⊎_elim
    (λ was. inside_read site blocks e0 e1 o om o h r refl m left (record {
      erase = was;
      tried = pair.tried;
      within = subst (λ (x : OnceState). TriedWithin x left) same pair.within;
      settled = pair.settled;
      order = pair.order;
    }))
    (λ means. inr (means left refl (subst (λ (x : OnceState). HasSettled x left) (sym opened) pair.settled)))
    (l.before e0.clock left.erase m.later pair.erase)

-- and each one after them
pub after_again : (site : Site) (blocks : ℕ) (e0 e1 e2 : DiskState) (o o1 o2 : OnceState) (h : History) → (r : ReadsAs site blocks e0 o h) → IsSound e2 → o1 ≡ o → o2 ≡ o → CrashRepresentsOr e1 e0.clock (MayLeave e0) site.homes site.note r.represents.pages
    → Leaves e1 e2 (WithSettled o1 (LeftRepresents site h)) → (left : Left) → LeftNow e2 o2 left → LeftNow e0 o left ⊎ LeftRepresents site h left
after_again site blocks e0 e1 e2 o o1 o2 h r sound opened same m l left now =
    let grows : Grows o o2 = subst (λ (x : OnceState). Grows o x) (sym same) (grows_none o) in
    let first = m.later in
    let later = l.later in
    inside_again site blocks e0 e1 e2 o o o1 o2 h r opened same m l left (now_is_pair e0 e2 o o o2 sound (omega (arith, first, later)) grows grows left now)
