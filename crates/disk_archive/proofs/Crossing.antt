-- What a crash leaves of both disks represents a history, over a call that reads, or burns, and then commits.
use Rattle.std.proofs.Common.{◌≡◌, inl, inr, ⊎_elim, ℕ, List, refl, sym, subst, arith}
use Rattle.disk_models.specs.Erase.{DiskState, MayLeave, Leaves, IsSound}
use Rattle.disk_models.specs.Once.{OnceState, Grows, settled_in}
use Rattle.disk_models.specs.Left.{Left, HasSettled, WithSettled, CrashPair}
use Rattle.disk_models.proofs.api.Moments.{leaves_weaker}
use Rattle.page_journal.specs.Recovers.{Recovers, RecoversEither}
use Rattle.route_meaning.specs.History.{History}
use Rattle.archive_head.specs.Head.{Contents}
use Rattle.archive_pages.proofs.api.Representing.{head_represents_grown}
use Rattle.disk_archive.specs.Trees.{TreeLocated}
use Rattle.disk_archive.specs.Sites.{Site, LeftRepresents, LeftEither}
use Rattle.disk_archive.specs.inner.Planning.{Headed}
use Rattle.disk_archive.proofs.api.Trees.{tree_grows}

-- octets that mean such pages represent the history, with each write-once disk that has what is settled
pub now_represents : (site : Site) (o : OnceState) (head : Contents) (pages : List (List ℕ)) (h : History) (left : Left) → Headed site.blocks site.settings (settled_in o) head pages h
    → Recovers site.homes site.note left.erase pages → HasSettled o left → LeftRepresents site h left
now_represents site o head pages h left k means has = record {
  pages = pages;
  means = means;
  represents = record {
    head = head;
    valid = k.valid;
    first = k.first;
    head_represents = head_represents_grown (TreeLocated site.blocks) (tree_grows site.blocks) site.settings (settled_in o) (settled_in left.once) has head pages h k.head_represents;
  };
}

-- Reads and burns up to e and om, and then writes, with no burn among them.
pub then_writes : (e0 e e1 : DiskState) (o0 om o1 : OnceState) (P : Left → Type 0) → IsSound e → e.clock ≡ e0.clock
    → ((left : Left) → MayLeave e0 left.erase → HasSettled o0 left → P left) → ((left : Left) → MayLeave e left.erase → HasSettled o0 left → P left)
    → Leaves e e1 (WithSettled om P) → (left : Left) → CrashPair e0 e1 o0 om o1 left → P left
then_writes e0 e e1 o0 om o1 P sound clock first later l left pair = ⊎_elim
    (λ was. later left (sound.only_now left.erase (subst (λ t. e.left_since t left.erase) (sym clock) was)) pair.settled)
    (λ p. ⊎_elim (λ may. first left may pair.settled) (λ has. p left refl has) pair.order)
    (l.before e0.clock left.erase (omega (arith, clock)) pair.erase)

-- No erasable write was begun.
pub no_write : (e0 e1 : DiskState) (o0 om o1 : OnceState) (P : Left → Type 0) → IsSound e1 → e1.clock ≡ e0.clock
    → ((left : Left) → MayLeave e1 left.erase → HasSettled o0 left → P left) → (left : Left) → CrashPair e0 e1 o0 om o1 left → P left
no_write e0 e1 o0 om o1 P sound clock here left pair = here left (sound.only_now left.erase (subst (λ t. e1.left_since t left.erase) (sym clock) pair.erase)) pair.settled

-- Pages that represent the history before, or those that represent the one after, are meant at each crash of a commit.
pub leaves_either : (site : Site) (e e1 : DiskState) (o0 om : OnceState) (head next : Contents) (pages shown : List (List ℕ)) (h g : History) → Grows o0 om
    → Headed site.blocks site.settings (settled_in o0) head pages h → Headed site.blocks site.settings (settled_in om) next shown g
    → Leaves e e1 (RecoversEither site.homes site.note pages shown) → Leaves e e1 (WithSettled om (LeftEither site h g))
leaves_either site e e1 o0 om head next pages shown h g grows k n l = leaves_weaker e e1 (RecoversEither site.homes site.note pages shown) (WithSettled om (LeftEither site h g))
    (λ c either left is has. ⊎_elim
    (λ means. inl (now_represents site o0 head pages h left k (subst (λ (f : ℕ → ℕ). Recovers site.homes site.note f pages) (sym is) means) (λ b octets settled. has b octets (grows.settled b octets settled))))
    (λ means. inr (now_represents site om next shown g left n (subst (λ (f : ℕ → ℕ). Recovers site.homes site.note f shown) (sym is) means) has))
    either) l
