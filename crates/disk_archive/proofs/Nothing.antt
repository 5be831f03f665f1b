-- A batch without a record.
use Rattle.std.proofs.Common.{◌≡◌, ◌+◌, ℕ, List, [], length, eqb, Bool, true, false, refl, sym, ◌∙◌, ap, subst, arith, true≢false}
use Rattle.std.proofs.lemmas.List.{nil_from_length}
use Rattle.std.proofs.lemmas.Bool.Decides.{Decides-eqb}
use Rattle.disk_models.specs.declared.erase.EraseDisk.{Ghosts as EraseGhosts}
use Rattle.disk_models.specs.declared.once.OnceDisk.{Ghosts as OnceGhosts}
use Rattle.route_model.specs.Admission.{Admitted}
use Rattle.route_meaning.specs.History.{Intake, History}
use Rattle.interleaving_core.specs.Does.{IsReply}
use Rattle.interleaving_core.specs.Steps.{given}
use Rattle.interleaving_core.proofs.api.Joining.{given_none}
use Rattle.interleaving_core.specs.declared.reply.BatchReply.{BatchReply}
use Rattle.disk_archive.specs.declared.archive.Archive.{Archive}
use Rattle.disk_archive.specs.Archives.{Represents}

pub is_nil : (batch : List Admitted) (r : Bool) → r ≡ eqb (length batch) 0 → r ≡ true → batch ≡ []
is_nil batch r e t = nil_from_length batch ((Decides-eqb (length batch) 0).0 (sym e ∙ t))

pub not_nil : (batch : List Admitted) (r : Bool) → r ≡ eqb (length batch) 0 → r ≡ false → batch ≡ [] → ⊥
not_nil batch r e f none = let t : true ≡ eqb (length batch) 0 = sym (ap (λ (l : List Admitted). eqb (length l) 0) none) in absurd (true≢false (t ∙ (sym e ∙ f)))

-- an archive that represents the history represents it with such a batch
pub represents_none : {E O Pen Seen : Type 0} {erase : EraseGhosts E} {once : OnceGhosts O Pen Seen} (a : Archive E O Pen Seen erase once) (h : History) (c : ℕ) (batch : List Admitted) → batch ≡ [] → Represents a h → Represents a (given h c batch)
represents_none a h c batch none k = subst (λ (b : List Admitted). Represents a (given h c b)) (sym none) (subst (λ (g : History). Represents a g) (sym (given_none h c)) k)

-- what is returned for such a batch is so for the batch
pub reply_none : (i : Intake) (c : ℕ) (batch : List Admitted) (reported : BatchReply) → batch ≡ [] → IsReply i c [] reported → IsReply i c batch reported
reply_none i c batch reported none r = subst (λ (b : List Admitted). IsReply i c b reported) (sym none) r
