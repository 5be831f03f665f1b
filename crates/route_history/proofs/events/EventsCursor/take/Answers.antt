use Rattle.std.proofs.Common.{◌≡◌, ◌⊎◌, inl, inr, ℕ, ◌-◌, ◌<◌, ◌≤◌, List, ◌++◌, map, drop, length, Some, Bool, true, subst, sym, ap, ◌∙◌, arith}
use Rattle.std.proofs.lemmas.Bool.{eqb-true, eq-eqb, false≢true}
use Rattle.route_model.specs.Keys.{key_number, session_number}
use Rattle.route_model.proofs.api.Keys.{session_below}
use Rattle.route_meaning.specs.declared.question.Event.{Event}
use Rattle.route_meaning.specs.Rows.{most_rows}
use Rattle.version_model.specs.Ranges.{end_or}
use Rattle.route_history.specs.Spans.{span_start, span_end, asked, event_in, HasReportedSo, IsReporting, AreStamped, version_at, before, stamp_in}
use Rattle.version_model.specs.declared.entry.Entry.{Entry}
use Rattle.version_model.specs.Looks.{IsPart}
use Rattle.route_history.specs.Spans.{HasEvent}
use Rattle.std.specs.List.{AllByRecursion}
use Rattle.route_history.proofs.KeyVersionsOf.{part_at, all_first, all_second}
use Rattle.std.specs.List.{filter}
use Rattle.route_meaning.specs.Merged.{by_time}
use Rattle.route_meaning.specs.Events.{IsEventsAnswer}
use Rattle.route_history.specs.Walks.{Rose}
use Rattle.route_history.specs.declared.events.EventsCursor.{EventsCursor}
use Rattle.route_history.proofs.Stamps.{drop_events, events_length}
use Rattle.route_history.proofs.HistoryRounds.{Zips, news_by_parts, round, reports_on, reports_all, reports_more}
use Rattle.route_history.proofs.events.EventsCursor.take.Goals as goal
use Rattle.route_history.proofs.events.EventsCursor.take.Goals.{then-len-gt-MAX_ROWS, else-len-gt-MAX_ROWS+then-is_same, else-len-gt-MAX_ROWS+else-is_same}

-- the least of three numbers that isn't the last of them is above what the first two are above
risen : (at to a b other end : ℕ) → at < a → at < b → (to ≡ end → ⊥) → (to ≡ a) ⊎ (to ≡ other) → (other ≡ b) ⊎ (other ≡ end) → at < to
risen at to a b other end la lb ne (inl e) o = omega (arith, la, e)
risen at to a b other end la lb ne (inr e) (inl f) = omega (arith, lb, e, f)
risen at to a b other end la lb ne (inr e) (inr f) = absurd (ne (e ∙ f))

pub returns-clause-reported : goal.returns-clause-reported
returns-clause-reported c = λ all ps t u a b.
    let q = c.args.self.now.question in
    let at : ℕ = c.args.at in
    let low : span_start q ≤ at = u.low in
    let high : at < span_end q = u.high in
    let to : ℕ = c.lesser-to.result in
    let below : session_number q.peer < key_number q.peer q.prefix = session_below q.peer q.prefix c.encoded_len-len.ensures.valid c.address-address.ensures.valid in
    let ne : key_number q.peer q.prefix ≡ session_number q.peer → ⊥ = λ e. omega (arith, e, below) in
    let end : c.end_of-end.result ≡ span_end q = c.end_of-end.ensures.end in
    let la : to ≤ end_or c.args.route.now.reported = c.lesser-to.ensures.low in
    let lb : to ≤ end_or c.args.session.now.reported = omega (arith, c.lesser-to.ensures.high, c.lesser.ensures.low) in
    let within : to ≤ span_end q = omega (arith, c.lesser-to.ensures.high, c.lesser.ensures.high, end) in
    let above : at < to = c.lesser-to.ensures.above at a.above (c.lesser.ensures.above at b.above (omega (arith, high, end))) in
    let k : ℕ = key_number q.peer q.prefix in
    let n : ℕ = session_number q.peer in
    let pa : IsPart all k at (map (version_at k) c.args.route.now.entries.items) c.args.route.now.reported = part_at all k at c.args.route.now.entries.items c.args.route.now.reported a in
    let pb : IsPart all n at (map (version_at n) c.args.session.now.entries.items) c.args.session.now.reported = part_at all n at c.args.session.now.entries.items c.args.session.now.reported b in
    let ea : AllByRecursion (HasEvent q.peer q.prefix) (map (version_at k) c.deref.result.now) = subst (λ (es : List Entry). AllByRecursion (HasEvent q.peer q.prefix) (map (version_at k) es)) (sym c.deref.ensures.value) (all_first _ all k n at _ c.args.route.now.reported pa t.each) in
    let eb : AllByRecursion (HasEvent q.peer q.prefix) (map (version_at n) c.deref-2.result.now) = subst (λ (es : List Entry). AllByRecursion (HasEvent q.peer q.prefix) (map (version_at n) es)) (sym c.deref-2.ensures.value) (all_second _ all k n at _ c.args.session.now.reported pb t.each) in
    let news = c.in_ok-news.ensures ea eb in
    let second : AreStamped q (by_time stamp_in (filter (before to) (map (version_at k) c.deref.result.now) ++ filter (before to) (map (version_at n) c.args.session.now.entries.items))) c.in_ok-news.news.items = subst (λ (es : List Entry). AreStamped q (by_time stamp_in (filter (before to) (map (version_at k) c.deref.result.now) ++ filter (before to) (map (version_at n) es))) c.in_ok-news.news.items) c.deref-2.ensures.value news in
    let stamped : AreStamped q (by_time stamp_in (filter (before to) (map (version_at k) c.args.route.now.entries.items) ++ filter (before to) (map (version_at n) c.args.session.now.entries.items))) c.in_ok-news.news.items = subst (λ (es : List Entry). AreStamped q (by_time stamp_in (filter (before to) (map (version_at k) es) ++ filter (before to) (map (version_at n) c.args.session.now.entries.items))) c.in_ok-news.news.items) c.deref.ensures.value second in
    let zips = news_by_parts all ps q t ne at to c.args.route.now.reported c.args.session.now.reported (map (version_at k) c.args.route.now.entries.items) (map (version_at n) c.args.session.now.entries.items) c.in_ok-news.news.items pa pb la lb stamped in
    let reach : at ≤ to = omega (arith, above) in
    let r = round all ps q t ne at to c.args.self.now.left c.args.self.now.reported.items (map event_in c.in_ok-news.news.items) c.args.self.now.more u low reach zips in
    let reported : c.append.new.self.items ≡ c.args.self.now.reported.items ++ drop c.args.self.now.left (map event_in c.in_ok-news.news.items) = c.in_ok-append.ensures.items ∙ ap (λ (l : List Event). c.args.self.now.reported.items ++ l) (c.in_ok-fresh.ensures ∙ drop_events c.args.self.now.left c.in_ok-news.news.items) in
    let are : Zips q.peer q.prefix (drop q.skip (asked all q to)) c.append.new.self.items = subst (Zips q.peer q.prefix (drop q.skip (asked all q to))) (sym reported) r.0 in
    let items : List Event = c.append.new.self.items in
    elim c.if-len-gt-MAX_ROWS.branch [
      | then-len-gt-MAX_ROWS w ↦ subst (λ (d : EventsCursor). HasReportedSo all ps d × Rose (Some at) d.at) (sym w.self-is) (
        subst (λ (l : List Event). IsEventsAnswer ps q l true) (sym w.truncate.ensures.items)
            (reports_more all ps q t ne to items (let h : span_start q ≤ to = omega (arith, low, reach) in h) within are (let h : most_rows < length items = omega (arith, w.if-len-gt-MAX_ROWS.true, c.len.ensures) in h)),
        tt,
      )
      | else-len-gt-MAX_ROWS+then-is_same w ↦ subst (λ (d : EventsCursor). HasReportedSo all ps d × Rose (Some at) d.at) (sym w.self-is) (
        let whole : to ≡ span_end q = eqb-true _ _ (sym w.is_same.ensures ∙ w.if-is_same.true) ∙ end in
            subst (λ (more : Bool). IsEventsAnswer ps q items more) (sym u.alone)
            (reports_all all ps q t ne items (subst (λ (m : ℕ). Zips q.peer q.prefix (drop q.skip (asked all q m)) items) whole are) (let h : length items ≤ most_rows = omega (arith, w.if-len-gt-MAX_ROWS.false, c.len.ensures) in h)),
        tt,
      )
      | else-len-gt-MAX_ROWS+else-is_same w ↦ subst (λ (d : EventsCursor). HasReportedSo all ps d × Rose (Some at) d.at) (sym w.self-is) (
        let left : c.saturating_sub-self.result ≡ q.skip - length (asked all q to) = omega (arith, c.saturating_sub-self.ensures, c.len-count.ensures, events_length c.in_ok-news.news.items, r.1) in
            subst (λ (more : Bool). IsReporting all q to c.saturating_sub-self.result items more) (sym u.alone)
            (reports_on all ps q t ne to c.saturating_sub-self.result items (let h : span_start q ≤ to = omega (arith, low, reach) in h) (let ne' : to ≡ c.end_of-end.result → ⊥ = (λ e. false≢true (sym w.if-is_same.false ∙ w.is_same.ensures ∙ eq-eqb _ _ e)) in let h : to < span_end q = omega (arith, within, end, ne') in h) are left (let h : length items ≤ most_rows = omega (arith, w.if-len-gt-MAX_ROWS.false, c.len.ensures) in h)),
        above,
      )
    ]

pub returns-clause-rose : goal.returns-clause-rose
returns-clause-rose c = λ a b.
    let at : ℕ = c.args.at in
    let to : ℕ = c.lesser-to.result in
    let la : at < end_or c.args.route.now.reported = a in
    let lb : at < end_or c.args.session.now.reported = b in
    elim c.if-len-gt-MAX_ROWS.branch [
      | then-len-gt-MAX_ROWS w ↦ subst (λ (d : EventsCursor). Rose (Some at) d.at) (sym w.self-is) tt
      | else-len-gt-MAX_ROWS+then-is_same w ↦ subst (λ (d : EventsCursor). Rose (Some at) d.at) (sym w.self-is) tt
      | else-len-gt-MAX_ROWS+else-is_same w ↦ subst (λ (d : EventsCursor). Rose (Some at) d.at) (sym w.self-is) (
          let ne : to ≡ c.end_of-end.result → ⊥ = λ e. false≢true (sym w.if-is_same.false ∙ w.is_same.ensures ∙ eq-eqb _ _ e) in
          let above : at < to = risen at to (end_or c.args.route.now.reported) (end_or c.args.session.now.reported) c.lesser.result c.end_of-end.result la lb ne c.lesser-to.ensures.one c.lesser.ensures.one in
          above)
    ]
