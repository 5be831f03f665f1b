-- Events with stamps beside versions.
use Rattle.std.proofs.Math.Seq.{take-suc}
use Rattle.std.proofs.Common.{get_or, ◌+◌, ◌≡◌, ℕ, zero, suc, ◌<◌, ◌≤◌, List, [], ◌∷◌, ◌++◌, length, map, take, drop, leb, refl, sym, ap, ◌∙◌, subst, arith, inl, inr}
use Rattle.std.specs.List.{AllByRecursion, filter}
use Rattle.std.proofs.lemmas.Bool.{cases_Bool, lt-ltb, le-ltb}
use Rattle.route_meaning.specs.declared.question.EventsQuestion.{EventsQuestion}
use Rattle.route_meaning.specs.Merged.{insert_by, by_time}
use Rattle.route_history.specs.declared.events.Stamped.{Stamped}
use Rattle.version_model.specs.Versions.{Version}
use Rattle.version_model.specs.declared.entry.Entry.{Entry}
use Rattle.route_history.specs.Spans.{version_at, before, stamp_in, IsStamped, AreStamped, AreReported, event_in}

abbrev pub stamp_of_event : Stamped → ℕ
stamp_of_event s = s.stamp

pub one_more : (q : EventsQuestion) (vs : List Version) (news : List Stamped) (v : Version) (s : Stamped) → AreStamped q vs news → IsStamped q.peer q.prefix v s → AreStamped q (vs ++ v ∷ []) (news ++ s ∷ [])
one_more q [] [] v s a b = (b, tt)
one_more q [] (n ∷ ns) v s a b = absurd a
one_more q (w ∷ ws) [] v s a b = absurd a
one_more q (w ∷ ws) (n ∷ ns) v s a b = (a.0, one_more q ws ns v s a.1 b)

filter_one : (to : ℕ) (vs : List Version) (v : Version) → filter (before to) (vs ++ v ∷ []) ≡ filter (before to) vs ++ filter (before to) (v ∷ [])
filter_one to [] v = refl
filter_one to (w ∷ ws) v = elim (cases_Bool (before to w)) [
  | inl hit ↦ rw hit (ap (λ l. w ∷ l) (filter_one to ws v))
  | inr miss ↦ rw miss (filter_one to ws v)
]

map_one : (key : ℕ) (es : List Entry) (e : Entry) → map (version_at key) (es ++ e ∷ []) ≡ map (version_at key) es ++ version_at key e ∷ []
map_one key [] e = refl
map_one key (d ∷ ds) e = ap (λ l. version_at key d ∷ l) (map_one key ds e)

append_nil : (vs : List Version) → vs ++ [] ≡ vs
append_nil [] = refl
append_nil (v ∷ vs) = ap (λ l. v ∷ l) (append_nil vs)

-- a version that isn't before the bound
pub put_after : (q : EventsQuestion) (to : ℕ) (vs : List Version) (v : Version) (news : List Stamped) → AreStamped q vs news → to ≤ v.stamp → AreStamped q (vs ++ filter (before to) (v ∷ [])) news
put_after q to vs v news a ge = subst (λ ws. AreStamped q ws news) (sym (ap (λ l. vs ++ l) (rw (le-ltb v.stamp to ge) refl) ∙ append_nil vs)) a

-- a version before the bound, with its event
pub put_before : (q : EventsQuestion) (to : ℕ) (vs : List Version) (v : Version) (news : List Stamped) (s : Stamped) → AreStamped q vs news → v.stamp < to → IsStamped q.peer q.prefix v s → AreStamped q (vs ++ filter (before to) (v ∷ [])) (news ++ s ∷ [])
put_before q to vs v news s a lt is = subst (λ ws. AreStamped q ws (news ++ s ∷ [])) (sym (ap (λ l. vs ++ l) (rw (lt-ltb v.stamp to lt) refl))) (one_more q vs news v s a is)

-- one entry more
pub before_more : (key to : ℕ) (es : List Entry) (e : Entry) → filter (before to) (map (version_at key) (es ++ e ∷ [])) ≡ filter (before to) (map (version_at key) es) ++ filter (before to) (version_at key e ∷ [])
before_more key to es e = ap (filter (before to)) (map_one key es e) ∙ filter_one to (map (version_at key) es) (version_at key e)

all_split : (P : Version → Type 0) (vs : List Version) (v : Version) → AllByRecursion P (vs ++ v ∷ []) → AllByRecursion P vs × P v
all_split P [] v a = (tt, a.0)
all_split P (w ∷ vs) v a = let r = all_split P vs v a.1 in ((a.0, r.0), r.1)

-- what holds of one entry more
pub all_more : (P : Version → Type 0) (key : ℕ) (es : List Entry) (e : Entry) → AllByRecursion P (map (version_at key) (es ++ e ∷ [])) → AllByRecursion P (map (version_at key) es) × P (version_at key e)
all_more P key es e a = all_split P (map (version_at key) es) (version_at key e) (subst (AllByRecursion P) (map_one key es e) a)

-- all entries
pub take_all : (es : List Entry) (n : ℕ) → length es ≤ n → take n es ≡ es
take_all [] zero le = refl
take_all [] (suc n) le = refl
take_all (e ∷ es) zero le = absurd (omega arith)
take_all (e ∷ es) (suc n) le = ap (λ l. e ∷ l) (take_all es n (omega arith))

pub stamped_append : (q : EventsQuestion) (vs ws : List Version) (xs ys : List Stamped) → AreStamped q vs xs → AreStamped q ws ys → AreStamped q (vs ++ ws) (xs ++ ys)
stamped_append q [] ws [] ys a b = b
stamped_append q [] ws (x ∷ xs) ys a b = absurd a
stamped_append q (v ∷ vs) ws [] ys a b = absurd a
stamped_append q (v ∷ vs) ws (x ∷ xs) ys a b = (a.0, stamped_append q vs ws xs ys a.1 b)

-- sorted alike
stamped_insert : (q : EventsQuestion) (v : Version) (s : Stamped) (vs : List Version) (xs : List Stamped) → IsStamped q.peer q.prefix v s → AreStamped q vs xs → AreStamped q (insert_by stamp_in v vs) (insert_by stamp_of_event s xs)
stamped_insert q v s [] [] is a = (is, tt)
stamped_insert q v s [] (x ∷ xs) is a = absurd a
stamped_insert q v s (w ∷ ws) [] is a = absurd a
stamped_insert q v s (w ∷ ws) (x ∷ xs) is a =
    let same : leb s.stamp x.stamp ≡ leb v.stamp w.stamp = λ i. leb (is.0 i) (a.0.0 i) in
    elim (cases_Bool (leb v.stamp w.stamp)) [
      | inl le ↦ rw (same, le) (is, a)
      | inr gt ↦ rw (same, gt) (a.0, stamped_insert q v s ws xs is a.1)
    ]

pub stamped_sorted : (q : EventsQuestion) (vs : List Version) (xs : List Stamped) → AreStamped q vs xs → AreStamped q (by_time stamp_in vs) (by_time stamp_of_event xs)
stamped_sorted q [] [] a = tt
stamped_sorted q [] (x ∷ xs) a = absurd a
stamped_sorted q (v ∷ vs) [] a = absurd a
stamped_sorted q (v ∷ vs) (x ∷ xs) a = stamped_insert q v x (by_time stamp_in vs) (by_time stamp_of_event xs) a.0 (stamped_sorted q vs xs a.1)

pub stamped_reported : (q : EventsQuestion) (vs : List Version) (xs : List Stamped) → AreStamped q vs xs → AreReported q vs (map event_in xs)
stamped_reported q [] [] a = tt
stamped_reported q [] (x ∷ xs) a = absurd a
stamped_reported q (v ∷ vs) [] a = absurd a
stamped_reported q (v ∷ vs) (x ∷ xs) a = (a.0.1, stamped_reported q vs xs a.1)

pub take_item : (l : List Entry) (i : ℕ) (x : Entry) → x ≡ get_or l i x → i < length l → take (i + 1) l ≡ take i l ++ x ∷ []
take_item l i x e lt = ap (λ (n : ℕ). take n l) (let s : i + 1 ≡ suc i = omega arith in s) ∙ take-suc l i x lt ∙ ap (λ (y : Entry). take i l ++ y ∷ []) (sym e)

pub drop_events : (n : ℕ) (xs : List Stamped) → map event_in (drop n xs) ≡ drop n (map event_in xs)
drop_events zero xs = refl
drop_events (suc n) [] = refl
drop_events (suc n) (x ∷ xs) = drop_events n xs

pub events_length : (xs : List Stamped) → length (map event_in xs) ≡ length xs
events_length [] = refl
events_length (x ∷ xs) = ap (λ (n : ℕ). suc n) (events_length xs)
