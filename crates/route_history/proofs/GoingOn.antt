-- What is gathered of a history stays right when later versions are added.
use Rattle.std.proofs.Common.{◌≡◌, ℕ, suc, ◌<◌, ◌≤◌, ◌&&◌, List, [], ◌∷◌, ◌++◌, Bool, true, false, Some, None, Option, refl, sym, ap, ◌∙◌, subst, arith, length, drop, take, leb, append-nil}
use Rattle.std.specs.List.{AllByRecursion, AllZip, filter}
use Rattle.std.proofs.lemmas.Bool.{le-ltb}
use Rattle.std.proofs.lemmas.List.Elements.{filter-append}
use Rattle.route_model.specs.Admission.{Admitted}
use Rattle.route_model.specs.Keys.{key_number, session_number}
use Rattle.route_meaning.specs.declared.question.Event.{Event}
use Rattle.route_meaning.specs.declared.question.EventsQuestion.{EventsQuestion}
use Rattle.route_meaning.specs.Merged.{Placed}
use Rattle.version_model.specs.Versions.{Version}
use Rattle.route_history.specs.Stamps.{last_stamp}
use Rattle.route_history.specs.Spans.{is_of_two, span_start, span_end, asked, IsEventOf, HasReported, HasReportedSo, EventsGoOn}
use Rattle.route_history.specs.declared.events.EventsCursor.{EventsCursor}

none_later : (a b from at last : ℕ) (more : List Version) → at ≤ suc last → AllByRecursion (λ v. last < v.stamp) more → filter (is_of_two a b from at) more ≡ []
none_later a b from at last [] le all = refl
none_later a b from at last (v ∷ more) le all =
    let lt : last < v.stamp = all.0 in
    let out : is_of_two a b from at v ≡ false = rw (le-ltb v.stamp at (omega (arith, lt, le))) (and_out _ (leb from v.stamp)) in
    rw out (none_later a b from at last more le all.1)
  where
    and_out : (c d : Bool) → (c && (d && false)) ≡ false
    and_out true true = refl
    and_out true false = refl
    and_out false d = refl

reported_stays : (all new : List Version) (ps qs : List (Placed Admitted)) (q : EventsQuestion) (at : Option ℕ) (left : ℕ) (reported : List Event) (more : Bool) → EventsGoOn all new ps qs q → HasReported all ps q at left reported more → HasReported new qs q at left reported more
reported_stays all new ps qs q None left reported more g h = record { first = h.first ∙ ap (take Rattle.route_meaning.specs.Rows.most_rows) g.reported; rest = h.rest ∙ ap (λ (l : List Event). Rattle.std.proofs.Common.ltb Rattle.route_meaning.specs.Rows.most_rows (length l)) g.reported }
reported_stays all new ps qs q (Some at) left reported more g h =
    let a : ℕ = key_number q.peer q.prefix in
    let b : ℕ = session_number q.peer in
    let high : at < span_end q = h.high in
    let same : asked new q at ≡ asked all q at = ap (filter (is_of_two a b (span_start q) at)) g.added ∙ filter-append (is_of_two a b (span_start q) at) all g.more ∙ ap (λ l. asked all q at ++ l) (none_later a b (span_start q) at (last_stamp q.to) g.more (omega (arith, high)) g.later) ∙ append-nil (asked all q at) in
    record {
      low = h.low;
      high = h.high;
      are = subst (λ (vs : List Version). AllZip (IsEventOf q.peer q.prefix) (drop q.skip vs) reported) (sym same) h.are;
      left_is = h.left_is ∙ ap (λ (vs : List Version). Rattle.std.proofs.Common.◌-◌ q.skip (length vs)) (sym same);
      few = h.few;
      alone = h.alone;
    }

pub reported_goes_on : (all new : List Version) (ps qs : List (Placed Admitted)) (c : EventsCursor) → EventsGoOn all new ps qs c.question → HasReportedSo all ps c → HasReportedSo new qs c
reported_goes_on all new ps qs c g h = reported_stays all new ps qs c.question c.at c.left c.reported.items c.more g h
