use Rattle.std.proofs.Common.{◌≡◌, ◌∙◌, ⊎_elim, ℕ, List, Bool, false, Option, inl, inr, ap, sym, subst, true≢false}
use Rattle.std.specs.Option.{is_some}
use Rattle.page_journal.specs.Bookkeeping.{is_among}
use Rattle.page_journal.specs.Layout.{Image, pages_of}
use Rattle.page_journal.specs.Recovers.{IsListed}
use Rattle.page_tx.proofs.Joining.{listed_among}
use Rattle.page_tx.proofs.Laying.{found_listed}
use Rattle.page_tx.proofs.tx.TxPages.fetch.Goals as goal

pub returns-then-is_some-clause-resident : goal.returns-then-is_some-clause-resident
returns-then-is_some-clause-resident g c =
    inl (subst (λ (l : List Image). IsListed c.args.n (pages_of l)) c.deref.ensures.value
    (found_listed c.deref.result.now c.args.n c.place_of.result (sym c.is_some.ensures ∙ c.if-is_some.true) c.place_of.ensures.some c.place_of.ensures.number))

pub returns-then-is_some-clause-ok : goal.returns-then-is_some-clause-ok
returns-then-is_some-clause-ok g c =
    inr (subst (λ (l : List Image). IsListed c.args.n (pages_of l)) c.deref.ensures.value
    (found_listed c.deref.result.now c.args.n c.place_of.result (sym c.is_some.ensures ∙ c.if-is_some.true) c.place_of.ensures.some c.place_of.ensures.number))

-- where none was found, no image is held
none_held : (n : ℕ) (items from : List Image) (o : Option ℕ) (b : Bool) → from ≡ items → is_some o ≡ is_among n (pages_of from) → b ≡ is_some o → b ≡ false → IsListed n (pages_of items) → ⊥
none_held n items from o b same found is none listed =
    true≢false (sym (ap (λ (l : List Image). is_among n (pages_of l)) same ∙ listed_among n (pages_of items) listed) ∙ sym found ∙ sym is ∙ none)

pub returns-in_err-fetch-clause-there : goal.returns-in_err-fetch-clause-there
returns-in_err-fetch-clause-there g c up there = ⊎_elim
    (λ listed. absurd (none_held c.args.n c.args.self.now.images.items c.deref.result.now c.place_of.result c.is_some.result c.deref.ensures.value c.place_of.ensures.found c.is_some.ensures c.if-is_some.false listed))
    (λ resident. absurd (true≢false (sym (c.in_err-fetch.ensures.there up resident))))
    there

pub returns-in_err-fetch-clause-held : goal.returns-in_err-fetch-clause-held
returns-in_err-fetch-clause-held g c listed =
    absurd (none_held c.args.n c.args.self.now.images.items c.deref.result.now c.place_of.result c.is_some.result c.deref.ensures.value c.place_of.ensures.found c.is_some.ensures c.if-is_some.false listed)

pub returns-clause-ok : goal.returns-clause-ok
returns-clause-ok g c = inl c.in_ok-fetch.ensures.ok

pub returns-in_err-fetch-clause-same : goal.returns-in_err-fetch-clause-same
returns-in_err-fetch-clause-same g c start shown s = record {
  honest = c.fetch.ensures.serves.honest.0 s.honest;
  maps = c.fetch.ensures.maps s.honest start.pages s.maps;
  noted = c.fetch.ensures.same.note ∙ s.noted;
  clocked = (c.fetch.ensures.stays s.honest).clock ∙ s.clocked;
  over = s.over;
}

pub returns-clause-same : goal.returns-clause-same
returns-clause-same g c start shown s = record {
  honest = c.fetch.ensures.serves.honest.0 s.honest;
  maps = c.fetch.ensures.maps s.honest start.pages s.maps;
  noted = c.fetch.ensures.same.note ∙ s.noted;
  clocked = (c.fetch.ensures.stays s.honest).clock ∙ s.clocked;
  over = s.over;
}
