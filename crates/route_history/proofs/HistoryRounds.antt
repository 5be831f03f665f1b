-- What a round of a history question gathers.
use Rattle.std.proofs.Common.{◌≡◌, ℕ, zero, suc, ◌+◌, ◌-◌, ◌<◌, ◌≤◌, ◌⊎◌, inl, inr, List, [], ◌∷◌, ◌++◌, length, map, take, drop, Bool, true, false, Option, Some, None, refl, sym, ap, ◌∙◌, subst, arith, leb}
use Rattle.std.specs.List.{AllZip, filter}
use Rattle.std.proofs.lemmas.Bool.{lt-ltb, le-ltb, lt-leb, cases_lt}
use Rattle.std.proofs.lemmas.Option.{same_Some, none-some}
use Rattle.std.proofs.lemmas.List.{length-append}
use Rattle.route_model.specs.declared.peer.Peer.{Peer}
use Rattle.route_model.specs.declared.route.Route.{Route}
use Rattle.route_model.specs.declared.change.Change.{Change}
use Rattle.route_model.specs.declared.change.Change.TheVariants.{Announce, Withdraw, Down}
use Rattle.route_model.specs.Admission.{Admitted}
use Rattle.route_model.specs.Prefix.{IpPrefix}
use Rattle.route_model.specs.Encoding.{EncodesRoute}
use Rattle.route_model.specs.Keys.{key_number, session_number}
use Rattle.route_model.proofs.Fields.{some_is}
use Rattle.route_model.proofs.Decoding.{route_encoded}
use Rattle.route_meaning.specs.declared.question.Event.{Event}
use Rattle.route_meaning.specs.declared.question.EventsQuestion.{EventsQuestion}
use Rattle.route_meaning.specs.Merged.{Placed}
use Rattle.route_meaning.specs.Rows.{most_rows}
use Rattle.route_meaning.specs.Events.{all_events, between, events, IsEventsAnswer}
use Rattle.version_model.specs.Versions.{Version}
use Rattle.route_history.specs.Spans.{is_of_two, IsChangeOf, IsEventOf, span_start, span_end, asked, ReportsEvents, IsReporting, before, stamp_in, AreStamped, event_in}
use Rattle.version_model.specs.Looks.{IsPart, is_of}
use Rattle.version_model.specs.Ranges.{end_or}
use Rattle.route_history.specs.declared.events.Stamped.{Stamped}
use Rattle.route_meaning.specs.Merged.{by_time}
use Rattle.route_history.proofs.Stamps.{stamped_reported}
use Rattle.route_history.proofs.Parts.{asked_further, parts_merged}

-- ---- a version stands for one event

routes_one : (r s : Route) (octets : List ℕ) → EncodesRoute r octets → EncodesRoute s octets → r ≡ s
routes_one r s octets ir is = some_is r s (sym (route_encoded r octets ir) ∙ route_encoded s octets is)

changes_one : (p : Peer) (x : IpPrefix) (v : Version) (c d : Change) → (key_number p x ≡ session_number p → ⊥) → IsChangeOf p x v c → IsChangeOf p x v d → c ≡ d
changes_one p x v (Announce q y r) (Announce q' y' r') ne a b =
    let o = a.3 in let o' = b.3 in
    let same : o.0 ≡ o'.0 = same_Some _ _ (sym o.1 ∙ o'.1) in
    let routes : r ≡ r' = routes_one r r' o'.0 (subst (λ (l : List ℕ). EncodesRoute r l) same o.2) o'.2 in
    λ i. Announce ((a.0 ∙ sym b.0) i) ((a.1 ∙ sym b.1) i) (routes i)
changes_one p x v (Announce q y r) (Withdraw q' y') ne a b = let o = a.3 in absurd (none-some o.0 (sym b.3 ∙ o.1))
changes_one p x v (Announce q y r) (Down q') ne a b = absurd (ne (sym a.2 ∙ b.1))
changes_one p x v (Withdraw q y) (Announce q' y' r') ne a b = let o = b.3 in absurd (none-some o.0 (sym a.3 ∙ o.1))
changes_one p x v (Withdraw q y) (Withdraw q' y') ne a b = λ i. Withdraw ((a.0 ∙ sym b.0) i) ((a.1 ∙ sym b.1) i)
changes_one p x v (Withdraw q y) (Down q') ne a b = absurd (ne (sym a.2 ∙ b.1))
changes_one p x v (Down q) (Announce q' y' r') ne a b = absurd (ne (sym b.2 ∙ a.1))
changes_one p x v (Down q) (Withdraw q' y') ne a b = absurd (ne (sym b.2 ∙ a.1))
changes_one p x v (Down q) (Down q') ne a b = λ i. Down ((a.0 ∙ sym b.0) i)

events_one : (p : Peer) (x : IpPrefix) (v : Version) (e f : Event) → (key_number p x ≡ session_number p → ⊥) → IsEventOf p x v e → IsEventOf p x v f → e ≡ f
events_one p x v e f ne a b =
    let times : e.time ≡ f.time = a.time ∙ sym b.time in
    let changes : e.change ≡ f.change = changes_one p x v e.change f.change ne a.change b.change in
    λ i. record { time = times i; change = changes i }

-- ---- lists side by side

module _ (p : Peer) (x : IpPrefix) where
  abbrev pub Zips : List Version → List Event → Type 0
  Zips vs es = AllZip (IsEventOf p x) vs es

  pub zips_one : (key_number p x ≡ session_number p → ⊥) → (vs : List Version) (es fs : List Event) → Zips vs es → Zips vs fs → es ≡ fs
  zips_one ne [] [] [] a b = refl
  zips_one ne [] (e ∷ es) fs a b = absurd a
  zips_one ne [] [] (f ∷ fs) a b = absurd b
  zips_one ne (v ∷ vs) [] fs a b = absurd a
  zips_one ne (v ∷ vs) (e ∷ es) [] a b = absurd b
  zips_one ne (v ∷ vs) (e ∷ es) (f ∷ fs) a b = let head : e ≡ f = events_one p x v e f ne a.0 b.0 in let rest : es ≡ fs = zips_one ne vs es fs a.1 b.1 in λ i. head i ∷ rest i

  pub zips_length : (vs : List Version) (es : List Event) → Zips vs es → length vs ≡ length es
  zips_length [] [] a = refl
  zips_length [] (e ∷ es) a = absurd a
  zips_length (v ∷ vs) [] a = absurd a
  zips_length (v ∷ vs) (e ∷ es) a = ap (λ n. suc n) (zips_length vs es a.1)

  pub zips_append : (vs ws : List Version) (es fs : List Event) → Zips vs es → Zips ws fs → Zips (vs ++ ws) (es ++ fs)
  zips_append [] ws [] fs a b = b
  zips_append [] ws (e ∷ es) fs a b = absurd a
  zips_append (v ∷ vs) ws [] fs a b = absurd a
  zips_append (v ∷ vs) ws (e ∷ es) fs a b = (a.0, zips_append vs ws es fs a.1 b)

  pub zips_drop : (n : ℕ) (vs : List Version) (es : List Event) → Zips vs es → Zips (drop n vs) (drop n es)
  zips_drop zero vs es a = a
  zips_drop (suc n) [] [] a = tt
  zips_drop (suc n) [] (e ∷ es) a = absurd a
  zips_drop (suc n) (v ∷ vs) [] a = absurd a
  zips_drop (suc n) (v ∷ vs) (e ∷ es) a = zips_drop n vs es a.1

  -- what stands for the front, and what for the rest
  pub zips_split : (vs ws : List Version) (es : List Event) → Zips (vs ++ ws) es → (fs : List Event) × (gs : List Event) × (es ≡ fs ++ gs) × Zips vs fs
  zips_split [] ws es a = ([], es, refl, tt)
  zips_split (v ∷ vs) ws [] a = absurd a
  zips_split (v ∷ vs) ws (e ∷ es) a = let r = zips_split vs ws es a.1 in (e ∷ r.0, r.1, ap (λ l. e ∷ l) r.2, (a.0, r.3))

drop_append : {X : Type 0} (n : ℕ) (xs ys : List X) → drop n (xs ++ ys) ≡ drop n xs ++ drop (n - length xs) ys
drop_append zero xs ys = ap (λ (k : ℕ). xs ++ drop k ys) (let e : 0 ≡ 0 - length xs = omega arith in e)
drop_append (suc n) [] ys = ap (λ (k : ℕ). drop k ys) (let e : suc n ≡ suc n - 0 = omega arith in e)
drop_append (suc n) (x ∷ xs) ys = drop_append n xs ys ∙ ap (λ (k : ℕ). drop n xs ++ drop k ys) (let e : n - length xs ≡ suc n - suc (length xs) = omega arith in e)

take_whole : (n : ℕ) (es : List Event) → length es ≤ n → take n es ≡ es
take_whole zero [] le = refl
take_whole zero (e ∷ es) le = absurd (omega arith)
take_whole (suc n) [] le = refl
take_whole (suc n) (e ∷ es) le = ap (λ l. e ∷ l) (take_whole n es (omega arith))

take_front : (n : ℕ) (es fs : List Event) → n ≤ length es → take n (es ++ fs) ≡ take n es
take_front zero es fs le = refl
take_front (suc n) [] fs le = absurd (omega arith)
take_front (suc n) (e ∷ es) fs le = ap (λ l. e ∷ l) (take_front n es fs (omega arith))

module _ (all : List Version) (ps : List (Placed Admitted)) (q : EventsQuestion) (t : ReportsEvents all ps q) (ne : key_number q.peer q.prefix ≡ session_number q.peer → ⊥) where
  -- the versions of the two keys from a stamp on and before another
  abbrev pub news_of : ℕ → ℕ → List Version
  news_of at to = filter (is_of_two (key_number q.peer q.prefix) (session_number q.peer) at to) all

  -- a round: what is gathered before `at`, and what is new before `to`
  pub round : (at to left : ℕ) (reported news : List Event) (more : Bool) → IsReporting all q at left reported more → span_start q ≤ at → at ≤ to → Zips q.peer q.prefix (news_of at to) news
      → Zips q.peer q.prefix (drop q.skip (asked all q to)) (reported ++ drop left news) × (left - length news ≡ q.skip - length (asked all q to))
  round at to left reported news more u low high zips =
      let further : asked all q to ≡ asked all q at ++ news_of at to = asked_further all (key_number q.peer q.prefix) (session_number q.peer) (span_start q) at to t.rising low high in
      let cut : drop q.skip (asked all q to) ≡ drop q.skip (asked all q at) ++ drop left (news_of at to) = ap (drop q.skip) further ∙ drop_append q.skip (asked all q at) (news_of at to) ∙ ap (λ (n : ℕ). drop q.skip (asked all q at) ++ drop n (news_of at to)) (sym u.left_is) in (
        subst (λ (vs : List Version). Zips q.peer q.prefix vs (reported ++ drop left news)) (sym cut)
            (zips_append q.peer q.prefix (drop q.skip (asked all q at)) (drop left (news_of at to)) reported (drop left news) u.are (zips_drop q.peer q.prefix left (news_of at to) news zips)),
        (let e = zips_length q.peer q.prefix (news_of at to) news zips in let f = ap length further ∙ length-append (asked all q at) (news_of at to) in omega (arith, e, f, u.left_is)),
      )

  -- the walk goes on
  pub reports_on : (to left : ℕ) (reported : List Event) → span_start q ≤ to → to < span_end q → Zips q.peer q.prefix (drop q.skip (asked all q to)) reported → left ≡ q.skip - length (asked all q to) → length reported ≤ most_rows → IsReporting all q to left reported false
  reports_on to left reported low high zips left_is few = record { low = low; high = high; are = zips; left_is = left_is; few = few; alone = refl }

  -- all is gathered
  pub reports_all : (reported : List Event) → Zips q.peer q.prefix (drop q.skip (asked all q (span_end q))) reported → length reported ≤ most_rows → IsEventsAnswer ps q reported false
  reports_all reported zips few =
      let same : reported ≡ events ps q = zips_one q.peer q.prefix ne (drop q.skip (asked all q (span_end q))) reported (events ps q) zips (zips_drop q.peer q.prefix q.skip (asked all q (span_end q)) (all_events q.peer q.prefix (between q.from q.to ps)) t.reported) in
      record {
        first = sym (take_whole most_rows reported few) ∙ ap (take most_rows) same;
        rest = sym (le-ltb most_rows (length reported) few) ∙ ap (λ (l : List Event). Rattle.std.proofs.Common.ltb most_rows (length l)) same;
      }

  -- more is gathered than an answer has
  pub reports_more : (to : ℕ) (reported : List Event) → span_start q ≤ to → to ≤ span_end q → Zips q.peer q.prefix (drop q.skip (asked all q to)) reported → most_rows < length reported → IsEventsAnswer ps q (take most_rows reported) true
  reports_more to reported low within zips many =
      let whole : List Event = all_events q.peer q.prefix (between q.from q.to ps) in
      let further : asked all q (span_end q) ≡ asked all q to ++ news_of to (span_end q) = asked_further all (key_number q.peer q.prefix) (session_number q.peer) (span_start q) to (span_end q) t.rising low within in
      let parts = zips_split q.peer q.prefix (asked all q to) (news_of to (span_end q)) whole (subst (λ (vs : List Version). Zips q.peer q.prefix vs whole) further t.reported) in
      let same : reported ≡ drop q.skip parts.0 = zips_one q.peer q.prefix ne (drop q.skip (asked all q to)) reported (drop q.skip parts.0) zips (zips_drop q.peer q.prefix q.skip (asked all q to) parts.0 parts.3) in
      let later : List Event = drop (q.skip - length parts.0) parts.1 in
      let are : events ps q ≡ reported ++ later = ap (drop q.skip) parts.2 ∙ drop_append q.skip parts.0 parts.1 ∙ ap (λ (l : List Event). l ++ later) (sym same) in
      record {
        first = sym (ap (take most_rows) are ∙ take_front most_rows reported later (omega (arith, many)));
        rest = sym (ap (λ (l : List Event). Rattle.std.proofs.Common.ltb most_rows (length l)) are ∙ lt-ltb most_rows (length (reported ++ later)) (let e = length-append reported later in omega (arith, e, many)));
      }

  -- what is new, by the parts of both keys
  pub news_by_parts : (at to : ℕ) (reported_a reported_b : Option ℕ) (va vb : List Version) (news : List Stamped) → IsPart all (key_number q.peer q.prefix) at va reported_a → IsPart all (session_number q.peer) at vb reported_b → to ≤ end_or reported_a → to ≤ end_or reported_b
      → AreStamped q (by_time stamp_in (filter (before to) va ++ filter (before to) vb)) news → Zips q.peer q.prefix (news_of at to) (map event_in news)
  news_by_parts at to reported_a reported_b va vb news a b la lb zips =
      let e : by_time stamp_in (filter (before to) va ++ filter (before to) vb) ≡ news_of at to =
      ap (λ (l : List Version). by_time stamp_in (filter (before to) l ++ filter (before to) vb)) a.are
      ∙ ap (λ (l : List Version). by_time stamp_in (filter (before to) (filter (is_of (key_number q.peer q.prefix) at (end_or reported_a)) all) ++ filter (before to) l)) b.are
      ∙ parts_merged all (key_number q.peer q.prefix) (session_number q.peer) at (end_or reported_a) (end_or reported_b) to t.rising ne la lb in
      stamped_reported q (news_of at to) news (subst (λ (l : List Version). AreStamped q l news) e zips)

  -- before the first stamp of the span there is nothing
  none_before : (at : ℕ) → at ≤ span_start q → asked all q at ≡ []
  none_before at le = empty all
    where
      out : (v : Version) → is_of_two (key_number q.peer q.prefix) (session_number q.peer) (span_start q) at v ≡ false
      out v = elim (cases_lt v.stamp at) [
        | inl lt ↦ rw (lt-leb (span_start q) v.stamp (omega (arith, lt, le))) (and_false _)
        | inr ge ↦ rw (le-ltb v.stamp at ge) (and_out _ (leb (span_start q) v.stamp))
      ]
        where
          and_false : (c : Bool) → Rattle.std.specs.Prelude.◌&&◌ c false ≡ false
          and_false true = refl
          and_false false = refl

          and_out : (c d : Bool) → Rattle.std.specs.Prelude.◌&&◌ c (Rattle.std.specs.Prelude.◌&&◌ d false) ≡ false
          and_out true true = refl
          and_out true false = refl
          and_out false d = refl

      empty : (vs : List Version) → filter (is_of_two (key_number q.peer q.prefix) (session_number q.peer) (span_start q) at) vs ≡ []
      empty [] = refl
      empty (v ∷ vs) = rw (out v) (empty vs)

  drop_none : (n : ℕ) → drop {A = Version} n [] ≡ []
  drop_none zero = refl
  drop_none (suc n) = refl

  -- a walk begins
  pub begins : (reported : List Event) → reported ≡ [] → span_start q < span_end q → IsReporting all q (span_start q) q.skip reported false
  begins reported e lt =
      let none = none_before (span_start q) (omega arith) in
      subst (λ (l : List Event). IsReporting all q (span_start q) q.skip l false) (sym e) (record {
        low = omega arith;
        high = lt;
        are = subst (λ (vs : List Version). Zips q.peer q.prefix vs []) (sym (ap (drop q.skip) none ∙ drop_none q.skip)) tt;
        left_is = (let f = ap length none in omega (arith, f));
        few = omega arith;
        alone = refl;
      })

  -- a span that is empty
  pub nothing : (reported : List Event) → reported ≡ [] → span_end q ≤ span_start q → IsEventsAnswer ps q reported false
  nothing reported e le = subst (λ (l : List Event). IsEventsAnswer ps q l false) (sym e) (reports_all [] (subst (λ (vs : List Version). Zips q.peer q.prefix vs []) (sym (ap (drop q.skip) (none_before (span_end q) le) ∙ drop_none q.skip)) tt) (omega arith))
