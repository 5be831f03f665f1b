-- What is gathered where a look has been taken in.
use Rattle.std.proofs.Common.{◌≡◌, ℕ, suc, ◌<◌, ◌≤◌, List, [], ◌∷◌, ◌++◌, length, Bool, true, cond, refl, sym, inl, inr, arith, subst, Some, None, Option, ltb}
use Rattle.std.proofs.lemmas.Bool.{cases_lt, lt-ltb, le-ltb}
use Rattle.std.proofs.lemmas.List.{length-append}
use Rattle.route_model.specs.Admission.{Admitted}
use Rattle.route_meaning.specs.declared.question.Row.{Row}
use Rattle.route_meaning.specs.declared.question.RowsQuestion.{RowsQuestion}
use Rattle.route_meaning.specs.Merged.{Placed}
use Rattle.route_meaning.specs.Rows.{row_number, AreRows, IsAnswer, most_rows}
use Rattle.version_model.specs.Versions.{Version, Found, Answers}
use Rattle.version_model.specs.Looks.{NoneWithin}
use Rattle.version_model.specs.Ranges.{key_end}
use Rattle.route_history.proofs.KeyEnds.{key_below}
use Rattle.route_history.specs.Stamps.{last_stamp}
use Rattle.route_model.specs.PeerKeys.{first_key}
use Rattle.route_history.specs.Walks.{Reports, AreRowsBelow, EndedAt, Ended, IsUnderWay, IsRowAt, Leaps, RowlessFrom}
use Rattle.route_history.proofs.RowsBelow.{NoRows, rows_pass, rows_gain, rows_up_to, rows_all, answer_few, answer_full}

-- ---- first keys

pub first_low : (n : ℕ) → first_key n ≤ n
first_low n = omega arith

pub first_between : (m n : ℕ) → first_key n < m → m ≤ n → first_key m ≡ first_key n
first_between m n lt le = omega arith

pub first_next : (n : ℕ) → first_key (suc n) < suc n → first_key (suc n) ≡ first_key n
first_next n lt = omega arith

module _ (all : List Version) (ps : List (Placed Admitted)) (q : RowsQuestion) where
  abbrev S : ℕ
  S = last_stamp q.moment

  -- the session of a key's peer, as the walk knows it
  pub known : (at key : ℕ) (ended : Option ℕ) → at ≤ key → Ended all S at ended → NoneWithin all S at key → first_key key < key → EndedAt all S (first_key key) (cond (ltb (first_key key) at) ended None)
  known at key ended le was none lt = elim (cases_lt (first_key key) at) [
    | inl before ↦ rw (lt-ltb (first_key key) at before) (
        let same : first_key at ≡ first_key key = first_between at key before le in
        subst (λ (n : ℕ). EndedAt all S n ended) same (was (omega (arith, same, before))))
    | inr beyond ↦ rw (le-ltb (first_key key) at beyond) (None, none (first_key key) beyond lt, refl)
  ]

  ended_after : (key : ℕ) (ended : Option ℕ) → EndedAt all S (first_key key) ended → Ended all S (suc key) ended
  ended_after key ended e = λ lt. subst (λ (n : ℕ). EndedAt all S n ended) (sym (first_next key lt)) e

  -- no row where no key has a value
  no_rows : Reports all ps q.moment → (at to : ℕ) → NoneWithin all S at to → NoRows ps q at to
  no_rows t at to none row selected above holds low high = t.has_value row.peer row.prefix row.route holds (none (row_number row) low high)

  pub takes_end : Reports all ps q.moment → (at : ℕ) (ended : Option ℕ) (rows : List Row) (more : Bool) → IsUnderWay all ps q at ended rows more → NoneWithin all S at key_end → IsAnswer ps q rows more
  takes_end t at ended rows more u none =
      subst (IsAnswer ps q rows) (sym u.alone)
      (answer_few ps q rows u.few (rows_all ps q at rows (λ row selected above holds low. t.has_value row.peer row.prefix row.route holds (none (row_number row) low (let fits = t.fits row.peer row.prefix row.route holds in key_below row.peer row.prefix fits.0 fits.1))) u.are))

  pub takes_past : Reports all ps q.moment → (at high : ℕ) (ended : Option ℕ) (rows : List Row) (more : Bool) → IsUnderWay all ps q at ended rows more → at < high → NoneWithin all S at high → IsUnderWay all ps q high (cond (ltb (first_key high) at) ended None) rows more
  takes_past t at high ended rows more u lt none = record {
    are = rows_pass ps q at high rows (omega arith) (no_rows t at high none) u.are;
    few = u.few;
    alone = u.alone;
    session = λ below. known at high ended (omega arith) u.session none below;
  }

  pub takes_session : Reports all ps q.moment → (at key : ℕ) (found : Found) (ended : Option ℕ) (rows : List Row) (more : Bool) → IsUnderWay all ps q at ended rows more → at ≤ key → Answers all key S (Some found) → NoneWithin all S at key → first_key key ≡ key → IsRowAt ps q key None → IsUnderWay all ps q (suc key) (Some found.stamp) rows more
  takes_session t at key found ended rows more u le answers none first nothing = record {
    are = rows_pass ps q at (suc key) rows (omega arith) (passed t at key none nothing) u.are;
    few = u.few;
    alone = u.alone;
    session = ended_after key (Some found.stamp) (Some found, subst (λ (n : ℕ). Answers all n S (Some found)) (sym first) answers, refl);
  }
    where
      passed : Reports all ps q.moment → (at key : ℕ) → NoneWithin all S at key → IsRowAt ps q key None → NoRows ps q at (suc key)
      passed t at key none nothing row selected above holds low high = elim (cases_lt (row_number row) key) [
        | inl lt ↦ no_rows t at key none row selected above holds low lt
        | inr ge ↦ nothing row (omega arith) selected above holds
      ]

  pub takes_nothing : Reports all ps q.moment → (at key : ℕ) (ended : Option ℕ) (rows : List Row) (more : Bool) → IsUnderWay all ps q at ended rows more → at ≤ key → NoneWithin all S at key → first_key key < key → IsRowAt ps q key None → IsUnderWay all ps q (suc key) (cond (ltb (first_key key) at) ended None) rows more
  takes_nothing t at key ended rows more u le none first nothing = record {
    are = rows_pass ps q at (suc key) rows (omega arith) (passed t at key none nothing) u.are;
    few = u.few;
    alone = u.alone;
    session = ended_after key _ (known at key ended le u.session none first);
  }
    where
      passed : Reports all ps q.moment → (at key : ℕ) → NoneWithin all S at key → IsRowAt ps q key None → NoRows ps q at (suc key)
      passed t at key none nothing row selected above holds low high = elim (cases_lt (row_number row) key) [
        | inl lt ↦ no_rows t at key none row selected above holds low lt
        | inr ge ↦ nothing row (omega arith) selected above holds
      ]

  pub takes_row : Reports all ps q.moment → (at key : ℕ) (row : Row) (ended : Option ℕ) (rows : List Row) (more : Bool) → IsUnderWay all ps q at ended rows more → at ≤ key → NoneWithin all S at key → first_key key < key → IsRowAt ps q key (Some row) → length rows < most_rows → IsUnderWay all ps q (suc key) (cond (ltb (first_key key) at) ended None) (rows ++ row ∷ []) more
  takes_row t at key row ended rows more u le none first there room = record {
    are = rows_gain ps q at key row rows le (no_rows t at key none) there u.are;
    few = (let e = length-append rows (row ∷ []) in omega (arith, e, room));
    alone = u.alone;
    session = ended_after key _ (known at key ended le u.session none first);
  }

  pub takes_full : Reports all ps q.moment → (at key : ℕ) (row : Row) (ended : Option ℕ) (rows : List Row) (more : Bool) → IsUnderWay all ps q at ended rows more → at ≤ key → NoneWithin all S at key → IsRowAt ps q key (Some row) → most_rows ≤ length rows → IsAnswer ps q rows true
  takes_full t at key row ended rows more u le none there full =
      let gained : AreRows ps q.moment q.select q.after (Some (record { peer = row.peer; prefix = row.prefix })) (rows ++ row ∷ []) = rows_up_to ps q row (rows ++ row ∷ []) (subst (λ (n : ℕ). AreRowsBelow ps q (suc n) (rows ++ row ∷ [])) (sym there.0) (rows_gain ps q at key row rows le (no_rows t at key none) there u.are)) in
      let later = t.listed q.select (Some (record { peer = row.peer; prefix = row.prefix })) in
      answer_full ps q rows later.0 row (let few : length rows ≤ most_rows = u.few in omega arith) there.2 gained later.1

  -- a leap keeps what is gathered
  pub takes_leap : Reports all ps q.moment → (at to : ℕ) (ended : Option ℕ) (rows : List Row) (more : Bool) → IsUnderWay all ps q at ended rows more → Leaps q at (Some to) → IsUnderWay all ps q to ended rows more
  takes_leap t at to ended rows more u leap = record {
    are = rows_pass ps q at to rows leap.0 (λ row selected above holds low high. (let fits = t.fits row.peer row.prefix row.route holds in leap.1 row.peer row.prefix fits.0 fits.1 selected above low high)) u.are;
    few = u.few;
    alone = u.alone;
    session = λ below. elim leap.2 [
      | inl is ↦ absurd (omega (arith, is, below))
      | inr same ↦ subst (λ (n : ℕ). EndedAt all S n ended) (sym same.0) (u.session same.1)
    ];
  }

  pub takes_over : Reports all ps q.moment → (at : ℕ) (ended : Option ℕ) (rows : List Row) (more : Bool) → IsUnderWay all ps q at ended rows more → RowlessFrom q at → IsAnswer ps q rows more
  takes_over t at ended rows more u none =
      subst (IsAnswer ps q rows) (sym u.alone)
      (answer_few ps q rows u.few (rows_all ps q at rows (λ row selected above holds low. (let fits = t.fits row.peer row.prefix row.route holds in none row.peer row.prefix fits.0 fits.1 selected above low)) u.are))

  -- the same at equal numbers
  pub under_as : (at at' : ℕ) (ended ended' : Option ℕ) (rows rows' : List Row) (more : Bool) → at' ≡ at → ended' ≡ ended → rows' ≡ rows → IsUnderWay all ps q at ended rows more → IsUnderWay all ps q at' ended' rows' more
  under_as at at' ended ended' rows rows' more a e r u = subst (λ (n : ℕ). IsUnderWay all ps q n ended' rows' more) (sym a) (subst (λ (o : Option ℕ). IsUnderWay all ps q at o rows' more) (sym e) (subst (λ (l : List Row). IsUnderWay all ps q at ended l more) (sym r) u))
