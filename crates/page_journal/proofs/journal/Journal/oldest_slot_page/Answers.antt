use Rattle.std.proofs.Common.{◌∙◌, List, ap}
use Rattle.std.specs.List.{slice_get}
use Rattle.page_journal.specs.Bookkeeping.{unhomed_numbers, waiting_in}
use Rattle.page_journal.specs.declared.unhomed.Unhomed.{Unhomed}
use Rattle.page_journal.proofs.Listing.{if_at, if_below, if_waiting}
use Rattle.page_journal.proofs.journal.Journal.oldest_slot_page.Goals as goal

pub returns-clause-page : goal.returns-clause-page
returns-clause-page g c =
    c.first_in.ensures ∙ ap (λ (l : List Unhomed). slice_get (waiting_in c.args.self.now.first l) 0) c.deref.ensures.0

pub returns-clause-listed : goal.returns-clause-listed
returns-clause-listed g c =
    let self = c.args.self.now in
    if_waiting self.first self.unhomed.items c.first_in.result (if_at (waiting_in self.first self.unhomed.items) 0 c.first_in.result
    (c.first_in.ensures ∙ ap (λ (l : List Unhomed). slice_get (waiting_in self.first l) 0) c.deref.ensures.0))

pub returns-clause-below : goal.returns-clause-below
returns-clause-below g c =
    let self = c.args.self.now in
    if_below (unhomed_numbers self.unhomed.items) self.homes c.first_in.result self.below
    (if_waiting self.first self.unhomed.items c.first_in.result (if_at (waiting_in self.first self.unhomed.items) 0 c.first_in.result
    (c.first_in.ensures ∙ ap (λ (l : List Unhomed). slice_get (waiting_in self.first l) 0) c.deref.ensures.0)))
