-- What is gathered where the cursor has leapt.
use Rattle.std.proofs.Common.{◌≡◌, ℕ, ◌<◌, ◌≤◌, ◌^◌, List, Bool, Some, None, Option, refl, sym, ap, ◌∙◌, inl, inr, arith, subst}
use Rattle.std.proofs.lemmas.Option.{same_Some}
use Rattle.route_model.specs.Admission.{Admitted}
use Rattle.route_meaning.specs.declared.question.Row.{Row}
use Rattle.route_meaning.specs.declared.question.RowsQuestion.{RowsQuestion}
use Rattle.route_meaning.specs.Merged.{Placed}
use Rattle.route_meaning.specs.Rows.{IsAnswer}
use Rattle.version_model.specs.Versions.{Version}
use Rattle.route_history.specs.declared.front.Front.{Front}
use Rattle.route_history.specs.declared.rows.RowsCursor.{RowsCursor}
use Rattle.route_history.specs.Fronts.{number_at, front_number}
use Rattle.route_history.specs.Walks.{Reports, IsUnderWay, IsGathered, Gathered, Rose, NotBack, IsWithin, left_of, IsSame, HasLeapt, Leaps}
use Rattle.version_model.specs.Blocks.{BlockNode}
use Rattle.route_history.specs.declared.rows_turn.RowsTurn.{RowsTurn}
use Rattle.route_history.specs.declared.rows_turn.RowsTurn.TheVariants.{Done, Again, Historical}
use Rattle.route_history.specs.RowTurns.{IsTurn, IsReported}
use Rattle.route_history.proofs.Taking.{takes_leap, takes_over}

pub has_leapt : (c : RowsCursor) (front : Front) (result : Option Front) → c.front ≡ Some front → Leaps c.question (number_at front) (front_number result) → HasLeapt c (record { question = c.question; front = result; ended = c.ended; rows = c.rows; more = c.more }) result
has_leapt c front None e leaps = (refl, refl, refl, refl, inr (number_at front, ap front_number e, leaps))
has_leapt c front (Some to) e leaps = (refl, refl, refl, refl, refl, (number_at front, ap front_number e, leaps))

pub gathered_as : (all : List Version) (ps : List (Placed Admitted)) (q q' : RowsQuestion) (f f' : Option ℕ) (ended ended' : Option ℕ) (rows rows' : List Row) (more more' : Bool) → q' ≡ q → f' ≡ f → ended' ≡ ended → rows' ≡ rows → more' ≡ more → IsGathered all ps q f ended rows more → IsGathered all ps q' f' ended' rows' more'
gathered_as all ps q q' f f' ended ended' rows rows' more more' a b c d e g =
    subst (λ (x : RowsQuestion). IsGathered all ps x f' ended' rows' more') (sym a)
    (subst (λ (x : Option ℕ). IsGathered all ps q x ended' rows' more') (sym b)
    (subst (λ (x : Option ℕ). IsGathered all ps q f x rows' more') (sym c)
    (subst (λ (x : List Row). IsGathered all ps q f ended x more') (sym d)
    (subst (λ (x : Bool). IsGathered all ps q f ended rows x) (sym e) g))))

module _ (all : List Version) (ps : List (Placed Admitted)) (c d : RowsCursor) (t : Reports all ps c.question.moment) (g : Gathered all ps c) where
  -- at a front of the cursor
  at_front : (at : ℕ) → front_number c.front ≡ Some at → IsUnderWay all ps c.question at c.ended c.rows.items c.more
  at_front at e = subst (λ (f : Option ℕ). IsGathered all ps c.question f c.ended c.rows.items c.more) e g

  pub leapt_none : HasLeapt c d None → IsAnswer ps c.question d.rows.items d.more
  leapt_none h =
      let whole : IsAnswer ps c.question c.rows.items c.more = elim h.4 [
        | inl over ↦ subst (λ (f : Option ℕ). IsGathered all ps c.question f c.ended c.rows.items c.more) (ap front_number over) g
        | inr x ↦ takes_over all ps c.question t x.0 c.ended c.rows.items c.more (at_front x.0 x.1) x.2
      ] in
      subst (λ (rows : List Row). IsAnswer ps c.question rows d.more) (sym h.1) (subst (λ (more : Bool). IsAnswer ps c.question c.rows.items more) (sym h.2) whole)

  pub leapt_over : HasLeapt c d None → Gathered all ps d
  leapt_over h = gathered_as all ps c.question d.question None (front_number d.front) d.ended d.ended d.rows.items d.rows.items d.more d.more h.0 (ap front_number h.3) refl refl refl (leapt_none h)

  pub leapt_gathered : (front : Front) → HasLeapt c d (Some front) → Gathered all ps d
  leapt_gathered front h =
      let x = h.5 in
      gathered_as all ps c.question d.question (Some (number_at front)) (front_number d.front) c.ended d.ended c.rows.items d.rows.items c.more d.more h.0 (ap front_number h.4) h.3 h.1 h.2
      (takes_leap all ps c.question t x.0 (number_at front) c.ended c.rows.items c.more (at_front x.0 x.1) x.2)

  pub leapt_under : (front : Front) → HasLeapt c d (Some front) → IsUnderWay all ps d.question (number_at front) d.ended d.rows.items d.more
  leapt_under front h = subst (λ (f : Option ℕ). IsGathered all ps d.question f d.ended d.rows.items d.more) (ap front_number h.4) (leapt_gathered front h)

pub rose_further : (c d : RowsCursor) (front : Front) (to : Option ℕ) → HasLeapt c d (Some front) → Rose (Some (number_at front)) to → Rose (front_number c.front) to
rose_further c d front to h r = let x = h.5 in subst (λ (f : Option ℕ). Rose f to) (sym x.1) (further x.0 (number_at front) to x.2.0 r)
  where
    further : (a b : ℕ) (o : Option ℕ) → a ≤ b → Rose (Some b) o → Rose (Some a) o
    further a b None le r' = tt
    further a b (Some n) le r' = let lt : b < n = r' in omega (arith, le, lt)

pub rose_from : (f : Option Front) (front : Front) (to : Option ℕ) → f ≡ Some front → Rose (Some (number_at front)) to → Rose (front_number f) to
rose_from f front to e r = subst (λ (o : Option Front). Rose (front_number o) to) (sym e) r

pub under_front : (all : List Version) (ps : List (Placed Admitted)) (c : RowsCursor) (front : Front) → c.front ≡ Some front → Gathered all ps c → IsUnderWay all ps c.question (number_at front) c.ended c.rows.items c.more
under_front all ps c front e g = subst (λ (f : Option ℕ). IsGathered all ps c.question f c.ended c.rows.items c.more) (ap front_number e) g

-- what the cursor returns after a look is the turn
pub reported_turn : (old : ℕ → Option BlockNode) (all : List Version) (ps : List (Placed Admitted)) (c d e : RowsCursor) (turn : RowsTurn) → IsReported d e turn → Gathered all ps d → d.question ≡ c.question → Rose (front_number c.front) (front_number d.front) → IsTurn old all ps c e turn
reported_turn old all ps c d e (Done answer) reported g same rose =
    let whole : IsAnswer ps d.question d.rows.items d.more = subst (λ (f : Option Front). IsGathered all ps d.question (front_number f) d.ended d.rows.items d.more) reported.0 g in
    subst (λ (q : RowsQuestion). IsAnswer ps q answer.rows.items answer.more) same (subst (λ (rows : List Row). IsAnswer ps d.question rows answer.more) (sym reported.1) (subst (λ (more : Bool). IsAnswer ps d.question d.rows.items more) (sym reported.2) whole))
reported_turn old all ps c d e Again reported g same rose =
    subst (λ (x : RowsCursor). Gathered all ps x × (x.question ≡ c.question) × Rose (front_number c.front) (front_number x.front)) (sym reported) (g, same, rose)
reported_turn old all ps c d e (Historical errand) reported g same rose = absurd reported

pub gathered_same : (all : List Version) (ps : List (Placed Admitted)) (c d : RowsCursor) → IsSame c d → Gathered all ps c → Gathered all ps d
gathered_same all ps c d s g = gathered_as all ps c.question d.question (front_number c.front) (front_number d.front) c.ended d.ended c.rows.items d.rows.items c.more d.more s.question (ap front_number s.front) s.ended s.rows s.more g

pub not_back : (c d : RowsCursor) (front : Front) → HasLeapt c d (Some front) → NotBack (front_number c.front) (front_number d.front)
not_back c d front h = let x = h.5 in subst (λ (f : Option ℕ). NotBack f (front_number d.front)) (sym x.1) (subst (λ (f : Option Front). NotBack (Some x.0) (front_number f)) (sym h.4) x.2.0)

-- each turn leaves less of the walk
pub less_left : (f g : Option ℕ) → Rose f g → IsWithin g → left_of g < left_of f
less_left None g r w = absurd r
less_left (Some a) None r w = omega arith
less_left (Some a) (Some b) r w = let lt : a < b = r in let le : b ≤ 2 ^ 320 = w in omega arith

pub rose_on : (f g h : Option ℕ) → NotBack f g → Rose g h → Rose f h
rose_on None g h n r = absurd n
rose_on (Some a) None h n r = absurd r
rose_on (Some a) (Some b) None n r = tt
rose_on (Some a) (Some b) (Some c) n r = let le : a ≤ b = n in let lt : b < c = r in omega arith

-- the front is at the key that is given for it
pub same_front : (f : Option Front) (front : Front) (from : ℕ) → f ≡ Some front → front_number f ≡ Some from → from ≡ number_at front
same_front f front from e here = sym (same_Some (number_at front) from (ap front_number (sym e) ∙ here))
