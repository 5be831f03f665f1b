-- The versions of applied changes, and that of the next one.
use Rattle.std.proofs.Common.{◌≡◌, ℕ, suc, ◌+◌, ◌*◌, ◌≤◌, List, [], ◌∷◌, ◌++◌, length, map, sym, subst, arith}
use Rattle.std.specs.List.{AllByRecursion}
use Rattle.std.proofs.Math.Nat.{mul-le-mul_left}
use Rattle.route_model.specs.declared.change.Change.{Change}
use Rattle.route_model.specs.Admission.{Admitted}
use Rattle.route_meaning.specs.Holds.{time_of}
use Rattle.route_meaning.specs.Merged.{Placed}
use Rattle.version_model.specs.Versions.{Version}
use Rattle.route_history.specs.Stamps.{orders, stamp_of}
use Rattle.route_history.specs.Kept.{Timed, at_time, timed, IsVersion, AreVersions, HaveVersions}
use Rattle.route_history.specs.Growing.{AreBefore}

none_first : (n : ℕ) → 0 + n ≡ n
none_first n = omega arith

one_more : (n : ℕ) (ts : List Timed) (vs : List Version) (t : Timed) (v : Version) → AreVersions n ts vs → IsVersion (n + length vs) t v → AreVersions n (ts ++ t ∷ []) (vs ++ v ∷ [])
one_more n [] [] t v k is = (subst (λ (m : ℕ). IsVersion m t v) (let e : n + 0 ≡ n = omega arith in e) is, tt)
one_more n [] (w ∷ ws) t v k is = absurd k
one_more n (u ∷ us) [] t v k is = absurd k
one_more n (u ∷ us) (w ∷ ws) t v k is = (k.0, one_more (suc n) us ws t v k.1 (subst (λ (m : ℕ). IsVersion m t v) (let e : n + suc (length ws) ≡ suc n + length ws = omega arith in e) is))

pub kept_one_more : (ps qs : List (Placed Admitted)) (all : List Version) (t : Timed) (v : Version) → timed qs ≡ timed ps ++ t ∷ [] → HaveVersions ps all → IsVersion (length all) t v → HaveVersions qs (all ++ v ∷ [])
kept_one_more ps qs all t v next kept is = subst (λ (ts : List Timed). AreVersions 0 ts (all ++ v ∷ [])) (sym next) (one_more 0 (timed ps) all t v kept (subst (λ (m : ℕ). IsVersion m t v) (sym (none_first (length all))) is))

all_until : (time u : ℕ) (cs : List Change) (ts : List Timed) → u ≤ time → AllByRecursion (λ t. t.time ≤ time) ts → AllByRecursion (λ t. t.time ≤ time) (map (at_time u) cs ++ ts)
all_until time u [] ts le a = a
all_until time u (c ∷ cs) ts le a = (le, all_until time u cs ts le a)

timed_all_until : (time : ℕ) (ps : List (Placed Admitted)) → AllByRecursion (λ p. time_of p ≤ time) ps → AllByRecursion (λ t. t.time ≤ time) (timed ps)
timed_all_until time [] a = tt
timed_all_until time (p ∷ ps) a = all_until time (time_of p) p.item.changes (timed ps) a.0 (timed_all_until time ps a.1)

stamps_before : (time n : ℕ) (ts : List Timed) (vs : List Version) → AllByRecursion (λ t. t.time ≤ time) ts → AreVersions n ts vs → AreBefore (stamp_of time (n + length vs)) vs
stamps_before time n [] [] a k = tt
stamps_before time n [] (v ∷ vs) a k = absurd k
stamps_before time n (t ∷ ts) [] a k = tt
stamps_before time n (t ∷ ts) (v ∷ vs) a k =
    let le : t.time ≤ time = a.0 in
    let h : orders * t.time ≤ orders * time = mul-le-mul_left orders le in
    let is : v.stamp ≡ stamp_of t.time n = k.0.stamp in
    (omega (arith, h, is), subst (λ (m : ℕ). AreBefore (stamp_of time m) vs) (let e : suc n + length vs ≡ n + suc (length vs) = omega arith in e) (stamps_before time (suc n) ts vs a.1 k.1))

pub kept_before : (ps : List (Placed Admitted)) (all : List Version) (time : ℕ) → AllByRecursion (λ p. time_of p ≤ time) ps → HaveVersions ps all → AreBefore (stamp_of time (length all)) all
kept_before ps all time a kept = subst (λ (m : ℕ). AreBefore (stamp_of time m) all) (none_first (length all)) (stamps_before time 0 (timed ps) all (timed_all_until time ps a) kept)
