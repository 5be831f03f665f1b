use Rattle.std.proofs.Common.{◌∙◌, List, ap}
use Rattle.std.specs.List.{slice_get}
use Rattle.page_journal.specs.Bookkeeping.{unhomed_numbers}
use Rattle.page_journal.specs.declared.unhomed.Unhomed.{Unhomed}
use Rattle.page_journal.proofs.Listing.{if_at, if_below}
use Rattle.page_journal.proofs.journal.Journal.oldest_unhomed.Goals as goal

pub returns-clause-oldest : goal.returns-clause-oldest
returns-clause-oldest g c =
    c.oldest.ensures.oldest ∙ ap (λ (l : List Unhomed). slice_get (unhomed_numbers l) 0) c.deref.ensures.0

pub returns-clause-listed : goal.returns-clause-listed
returns-clause-listed g c =
    let ns = unhomed_numbers c.args.self.now.unhomed.items in
    if_at ns 0 c.oldest.result (c.oldest.ensures.oldest ∙ ap (λ (l : List Unhomed). slice_get (unhomed_numbers l) 0) c.deref.ensures.0)

pub returns-clause-below : goal.returns-clause-below
returns-clause-below g c =
    let ns = unhomed_numbers c.args.self.now.unhomed.items in
    if_below ns c.args.self.now.homes c.oldest.result c.args.self.now.below
    (if_at ns 0 c.oldest.result (c.oldest.ensures.oldest ∙ ap (λ (l : List Unhomed). slice_get (unhomed_numbers l) 0) c.deref.ensures.0))
