-- Calls that set no page, one after another.
use Rattle.std.proofs.Common.{◌≡◌, ℕ, ◌+◌, Result, Err, IfErr, refl, sym, ◌∙◌, ap, subst, min}
use Rattle.page_tx.specs.declared.pages.Pages.{Ghosts}
use Rattle.page_tx.specs.Device.{KeepsDevice}
use Rattle.intake.specs.declared.error.ReadError.{ReadError}
use Rattle.intake.specs.declared.error.ReadError.TheVariants as reads
use Rattle.intake.specs.Calls.{OnlyReads}

pub keeps_then : (a b c : Type 0) (m n o : ℕ) (one two : Type 0) → KeepsDevice a b m n one → (one → ⊥) → KeepsDevice b c n o two → KeepsDevice a c m o two
keeps_then a b c m n o one two k not l = record {
  honest = ((λ h. l.honest.0 (k.honest.0 h)), (λ h. k.honest.1 (l.honest.1 h)));
  quiet = λ no. l.quiet no ∙ k.quiet not;
  counted = λ yes. l.counted yes ∙ ap (λ x. min (x + 1) 18446744073709551615) (k.quiet not);
}

pub keeps_as : (a b : Type 0) (m n : ℕ) (one two : Type 0) → KeepsDevice a b m n one → (one → two) → (two → one) → KeepsDevice a b m n two
keeps_as a b m n one two k to from = record { honest = k.honest; quiet = λ no. k.quiet (λ yes. no (to yes)); counted = λ yes. k.counted (from yes) }

pub reads_none : {P : Type 0} (pages : Ghosts P) (p : P) (failed : Type 0) → (failed → ⊥) → OnlyReads pages p p failed
reads_none pages p failed not = record {
  shown = λ start shown are. are;
  homes = refl;
  next = refl;
  named = refl;
  down = refl;
  device = record { honest = ((λ h. h), (λ h. h)); quiet = λ no. refl; counted = λ yes. absurd (not yes) };
}

pub reads_then : {P : Type 0} (pages : Ghosts P) (a b c : P) (one two : Type 0) → OnlyReads pages a b one → (one → ⊥) → OnlyReads pages b c two → OnlyReads pages a c two
reads_then pages a b c one two r not s = record {
  shown = λ start shown are. s.shown start shown (r.shown start shown are);
  homes = s.homes ∙ r.homes;
  next = s.next ∙ r.next;
  named = s.named ∙ r.named;
  down = s.down ∙ r.down;
  device = keeps_then (pages.honest a) (pages.honest b) (pages.honest c) (pages.faults a) (pages.faults b) (pages.faults c) one two r.device not s.device;
}

pub reads_as : {P : Type 0} (pages : Ghosts P) (a b : P) (one two : Type 0) → OnlyReads pages a b one → (one → two) → (two → one) → OnlyReads pages a b two
reads_as pages a b one two r to from = record {
  shown = r.shown;
  homes = r.homes;
  next = r.next;
  named = r.named;
  down = r.down;
  device = keeps_as (pages.honest a) (pages.honest b) (pages.faults a) (pages.faults b) one two r.device to from;
}

-- a refusal that is passed on is the one that came
pub passed_on : {T U : Type 0} (r : Result T ReadError) (s : Result U ReadError) (e : ReadError) (page : ℕ) → IfErr r (λ x. x ≡ e) → s ≡ Err e → r ≡ Err (reads.BadNode page) → s ≡ Err (reads.BadNode page)
passed_on {T} {U} r s e page reported was is = was ∙ ap (λ (x : ReadError). Err x) (sym (subst (λ (r : Result T ReadError). IfErr r (λ x. x ≡ e)) is reported))
