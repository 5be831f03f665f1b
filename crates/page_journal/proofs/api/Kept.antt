-- What a journal keeps.
use Rattle.std.proofs.Common.{◌≡◌, ◌≤◌, ◌^◌, ◌⊎◌, inl, inr, ⊎_elim, ℕ, List, [], ◌∷◌, length, refl, arith}
use Rattle.std.proofs.lemmas.Bool.{cases_eq, cases_lt}
use Rattle.disk_models.specs.declared.erase.EraseDisk.{Ghosts}
use Rattle.disk_models.specs.Erase.{MayLeave}
use Rattle.page_journal.specs.declared.journal.Journal.{Journal}
use Rattle.page_journal.specs.Bookkeeping.{open_slots}
use Rattle.page_journal.specs.Journal.{GivesBack, Keeps, closed_slots, disk_of, home_pages, note_of, oldest_slot_pages}
use Rattle.page_journal.specs.Recovers.{Recovers}
use Rattle.page_journal.proofs.Keeping.{length_meant, now_means}

-- as many pages as it has home pages
pub kept_length : {D : Type 0} (device : Ghosts D) (journal : Journal D device) (pages : List (List ℕ)) → Keeps device journal pages → length pages ≡ home_pages journal
kept_length device journal pages keeps =
    length_meant journal.homes journal.note (open_slots journal.first journal.opened) (device.model journal.disk).octet pages
    (now_means journal.homes journal.note (open_slots journal.first journal.opened) (device.model journal.disk) pages keeps.represents)

-- whatever a crash leaves now means them
pub kept_recovers : {D : Type 0} (device : Ghosts D) (journal : Journal D device) (pages : List (List ℕ)) → Keeps device journal pages
    → (c : ℕ → ℕ) → MayLeave (device.model (disk_of journal)) c → Recovers (home_pages journal) (note_of journal) c pages
kept_recovers device journal pages keeps c may = (open_slots journal.first journal.opened, keeps.represents c may)

list_or_not : (l : List ℕ) → (l ≡ []) ⊎ (¬ (l ≡ []))
list_or_not [] = inl refl
list_or_not (n ∷ l) = inr (λ e. absurd (cc))

-- it gives a slot back, or it doesn't
pub gives_or_not : {D : Type 0} (device : Ghosts D) (journal : Journal D device) → GivesBack device journal ⊎ (¬ GivesBack device journal)
gives_or_not device journal = ⊎_elim
    (λ last. ⊎_elim
    (λ home. ⊎_elim
    (λ number. inl (record { last = last; home = home; number = number }))
    (λ (high : 2 ^ 63 ≤ journal.next). inr (λ g. absurd (omega (arith, high, g.number))))
    (cases_lt journal.next (2 ^ 63)))
    (λ none. inr (λ g. none g.home))
    (list_or_not (oldest_slot_pages journal)))
    (λ none. inr (λ g. none g.last))
    (cases_eq (closed_slots journal) 1)
