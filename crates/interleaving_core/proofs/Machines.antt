-- The machine's fields, and the world that they are.
use Rattle.std.proofs.Common.{◌≡◌, ℕ, zero, suc, ◌<◌, ◌≤◌, List, [], ◌∷◌, ◌++◌, length, map, take, drop, get_or, ◌+◌, refl, sym, ap, ◌∙◌, arith, Some, Bool}
use Rattle.std.specs.List.{slice_get, slice_set}
use Rattle.std.proofs.lemmas.Option.{same_Some}
use Rattle.sequencer.proofs.api.Setting.{one_there}
use Rattle.route_meaning.specs.History.{Intake}
use Rattle.interleaving_core.specs.declared.query.Query.{Query}
use Rattle.interleaving_core.specs.declared.question.Question.{Question}
use Rattle.interleaving_core.specs.declared.question.Question.TheVariants.{Ended}
use Rattle.route_model.specs.Admission.{Admitted}
use Rattle.interleaving_core.specs.declared.reply.BatchReply.{BatchReply}
use Rattle.interleaving_core.specs.declared.reply.Reply.TheVariants.{Marked, MarkBack}
use Rattle.interleaving_core.specs.Steps.{changed, with_batch, with_mark, given}
use Rattle.interleaving_core.specs.World.{World, asked, ended}
use Rattle.interleaving_core.specs.Does.{IsReply, Admits, DoesMark}
use Rattle.interleaving_core.proofs.Places.{there}

-- the world of these fields
abbrev pub world : List Intake → ℕ → ℕ → List Question → Bool → World
world given whole some questions down = record { history = record { intakes = given; whole = whole; some = some }; questions = questions; down = down }

-- an intake that is set is one that is changed
pub set_changed : (c : ℕ) (f : Intake → Intake) (is : List Intake) (i new : Intake) → slice_get is c ≡ Some i → new ≡ f i → slice_set is c new ≡ changed c f is
set_changed c f [] i new at e = refl
set_changed zero f (j ∷ is) i new at e = ap (λ (x : Intake). x ∷ is) (e ∙ ap f (sym (same_Some j i at)))
set_changed (suc c) f (j ∷ is) i new at e = ap (λ (l : List Intake). j ∷ l) (set_changed c f is i new at e)

pub set_same : (is : List Intake) (c : ℕ) (i : Intake) → slice_get is c ≡ Some i → slice_set is c i ≡ is
set_same [] c i at = refl
set_same (j ∷ is) zero i at = ap (λ (x : Intake). x ∷ is) (sym (same_Some j i at))
set_same (j ∷ is) (suc c) i at = ap (λ (l : List Intake). j ∷ l) (set_same is c i at)

module _ (is : List Intake) (whole some : ℕ) (questions : List Question) (down : Bool) (c : ℕ) (i new : Intake) (at : slice_get is c ≡ Some i) where
  pub admits : (batch : List Admitted) (reported : BatchReply) → new ≡ with_batch batch i → IsReply i c batch reported → Admits (world is whole some questions down) c batch reported (world (slice_set is c new) whole some questions down)
  admits batch reported e reply = record {
    intake = i;
    here = at;
    reply = reply;
    after = ap (λ (l : List Intake). world l whole some questions down) (set_changed c (with_batch batch) is i new at e);
  }

  pub marks : (mark : ℕ) → (i.mark ≤ mark) × (new ≡ with_mark mark i) → DoesMark (world is whole some questions down) c mark Marked (world (slice_set is c new) whole some questions down)
  marks mark raised = (
    there is c i at,
    λ above. (let same : above.intake ≡ i = one_there (slice_get is c) above.intake i above.here at in omega (arith, above.above, raised.0, ap (λ (x : Intake). x.mark) same)),
    ap (λ (l : List Intake). world l whole some questions down) (set_changed c (with_mark mark) is i new at raised.1),
  )

  pub marks_back : (mark : ℕ) → (mark < i.mark) × (new ≡ i) → DoesMark (world is whole some questions down) c mark MarkBack (world (slice_set is c new) whole some questions down)
  marks_back mark back = (
    record { intake = i; here = at; above = back.0 },
    ap (λ (l : List Intake). world l whole some questions down) (ap (λ (x : Intake). slice_set is c x) back.1 ∙ set_same is c i at),
  )

ended_at : (qs : List Question) (i : ℕ) (q : Question) (x : Query) → i < length qs → q ≡ get_or (map ended (take i qs) ++ drop i qs) i q → x ≡ asked q → slice_set (map ended (take i qs) ++ drop i qs) i (Ended x) ≡ map ended (take (suc i) qs) ++ drop (suc i) qs
ended_at [] i q x lt e a = absurd (omega arith)
ended_at (p ∷ qs) zero q x lt e a = ap (λ (y : Query). Ended y ∷ qs) (a ∙ ap asked e)
ended_at (p ∷ qs) (suc i) q x lt e a = ap (λ (l : List Question). ended p ∷ l) (ended_at qs i q x (omega arith) e a)

-- one question more is ended
pub ended_more : (qs now : List Question) (i : ℕ) (q : Question) (x : Query) → now ≡ map ended (take i qs) ++ drop i qs → i < length qs → q ≡ get_or now i q → x ≡ asked q → slice_set now i (Ended x) ≡ map ended (take (i + 1) qs) ++ drop (i + 1) qs
ended_more qs now i q x is lt e a =
    let at : q ≡ get_or (map ended (take i qs) ++ drop i qs) i q = e ∙ ap (λ (l : List Question). get_or l i q) is in
    ap (λ (l : List Question). slice_set l i (Ended x)) is ∙ (ended_at qs i q x lt at a ∙ ap (λ (n : ℕ). map ended (take n qs) ++ drop n qs) (let n : suc i ≡ i + 1 = omega arith in n))
