use Rattle.std.proofs.Common.{◌≡◌, ◌≤◌, ◌<◌, length, Some, None, subst, sym, ◌∙◌, arith, refl, Result, Ok, Err, OnErr}
use Rattle.std.proofs.lemmas.Bool.{eqb-true, eq-eqb, false≢true}
use Rattle.route_meaning.specs.Rows.{most_rows}
use Rattle.version_model.specs.Versions.{found_at}
use Rattle.route_history.specs.Stamps.{last_stamp}
use Rattle.route_model.specs.PeerKeys.{first_key}
use Rattle.route_history.specs.Fronts.{number_at}
use Rattle.route_history.specs.Walks.{Gathered, IsRowAt, EndedAt}
use Rattle.route_history.proofs.RowsAt.{no_session}
use Rattle.route_history.proofs.Taking.{known, first_low, takes_session, takes_nothing, takes_row, takes_full, under_as}
use Rattle.route_history.proofs.rows.RowsCursor.take_found.Goals as goal

pub returns-then-eq-clause-taken : goal.returns-then-eq-clause-taken
returns-then-eq-clause-taken c = λ all ps t u r.
    let q = c.args.self.now.question in
    let first : first_key c.args.key ≡ c.args.key = sym c.first_of_peer.ensures.key ∙ eqb-true _ _ (sym c.eq.ensures ∙ c.if-eq.true) in
    subst (Gathered all ps) (sym c.go_on.ensures)
    (under_as all ps q _ _ _ _ _ _ _ c.beyond.ensures refl refl
    (takes_session all ps q t (number_at c.args.front) c.args.key (found_at c.args.stamp c.args.octets.now) c.args.self.now.ended c.args.self.now.rows.items c.args.self.now.more u r.0 r.1 r.2 first (no_session all ps q c.args.key t first)))

on_err : {V E : Type 0} (r : Result V E) (P : Type 0) → P → OnErr r P
on_err (Ok v) P p = tt
on_err (Err e) P p = p

pub returns-in_default-clause-taken : goal.returns-in_default-clause-taken
returns-in_default-clause-taken c = λ all ps t u r.
    let q = c.args.self.now.question in
    let lt : first_key c.args.key < c.args.key = (let le = first_low c.args.key in let ne : first_key c.args.key ≡ c.args.key → ⊥ = λ e. false≢true (sym c.if-eq.false ∙ c.eq.ensures ∙ eq-eqb _ _ (c.first_of_peer.ensures.key ∙ e)) in omega arith) in
    let session : EndedAt all (last_stamp q.moment) (first_key c.args.key) c.known-ended.result = subst (EndedAt all (last_stamp q.moment) (first_key c.args.key)) (sym c.known-ended.ensures) (known all ps q (number_at c.args.front) c.args.key c.args.self.now.ended r.0 u.session r.2 lt) in
    let nothing : IsRowAt ps q c.args.key None = subst (IsRowAt ps q c.args.key) c.in_default.is (c.in_ok-row.ensures all ps t r.1 session) in
    subst (Gathered all ps) (sym c.go_on-in_default.ensures)
    (under_as all ps q _ _ _ _ _ _ _ c.beyond-in_default.ensures c.known-ended.ensures refl
    (takes_nothing all ps q t (number_at c.args.front) c.args.key c.args.self.now.ended c.args.self.now.rows.items c.args.self.now.more u r.0 r.2 lt nothing))

pub returns-then-len-ge-MAX_ROWS-clause-taken : goal.returns-then-len-ge-MAX_ROWS-clause-taken
returns-then-len-ge-MAX_ROWS-clause-taken c = λ all ps t u r.
    let q = c.args.self.now.question in
    let lt : first_key c.args.key < c.args.key = (let le = first_low c.args.key in let ne : first_key c.args.key ≡ c.args.key → ⊥ = λ e. false≢true (sym c.if-eq.false ∙ c.eq.ensures ∙ eq-eqb _ _ (c.first_of_peer.ensures.key ∙ e)) in omega arith) in
    let session : EndedAt all (last_stamp q.moment) (first_key c.args.key) c.known-ended.result = subst (EndedAt all (last_stamp q.moment) (first_key c.args.key)) (sym c.known-ended.ensures) (known all ps q (number_at c.args.front) c.args.key c.args.self.now.ended r.0 u.session r.2 lt) in
    let there : IsRowAt ps q c.args.key (Some c.in-Some.row) = subst (IsRowAt ps q c.args.key) c.in-Some.is (c.in_ok-row.ensures all ps t r.1 session) in
    takes_full all ps q t (number_at c.args.front) c.args.key c.in-Some.row c.args.self.now.ended c.args.self.now.rows.items c.args.self.now.more u r.0 r.2 there (omega (arith, c.if-len-ge-MAX_ROWS.true))

pub returns-in_err-push-clause-same : goal.returns-in_err-push-clause-same
returns-in_err-push-clause-same c = on_err c.from_residual-in_err-push.result _ (record { question = refl; front = refl; ended = refl; rows = c.in_err-push.ensures.items; more = refl })

pub returns-clause-taken : goal.returns-clause-taken
returns-clause-taken c = λ all ps t u r.
    let q = c.args.self.now.question in
    let lt : first_key c.args.key < c.args.key = (let le = first_low c.args.key in let ne : first_key c.args.key ≡ c.args.key → ⊥ = λ e. false≢true (sym c.if-eq.false ∙ c.eq.ensures ∙ eq-eqb _ _ (c.first_of_peer.ensures.key ∙ e)) in omega arith) in
    let session : EndedAt all (last_stamp q.moment) (first_key c.args.key) c.known-ended.result = subst (EndedAt all (last_stamp q.moment) (first_key c.args.key)) (sym c.known-ended.ensures) (known all ps q (number_at c.args.front) c.args.key c.args.self.now.ended r.0 u.session r.2 lt) in
    let there : IsRowAt ps q c.args.key (Some c.in-Some.row) = subst (IsRowAt ps q c.args.key) c.in-Some.is (c.in_ok-row.ensures all ps t r.1 session) in
    subst (Gathered all ps) (sym c.go_on-2.ensures)
    (under_as all ps q _ _ _ _ _ _ _ c.beyond-2.ensures c.known-ended.ensures c.in_ok-push.ensures.items
    (takes_row all ps q t (number_at c.args.front) c.args.key c.in-Some.row c.args.self.now.ended c.args.self.now.rows.items c.args.self.now.more u r.0 r.2 lt there (let few : length c.args.self.now.rows.items ≤ most_rows = u.few in omega (arith, c.if-len-ge-MAX_ROWS.false, few))))
