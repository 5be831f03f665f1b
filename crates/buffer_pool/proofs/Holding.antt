-- Pages in memory that are committed pages.
use Rattle.std.proofs.Common.{◌≡◌, ◌≢◌, ◌<◌, ◌≤◌, ◌+◌, ◌==◌, not, filter, ◌⊎◌, inl, inr, ⊎_elim, ℕ, zero, suc, Bool, true, false, List, [], ◌∷◌, length, set, Some, Contains, IfSome, Option, None, Bor, Result, Ok, Err, OnOk, OnErr, IsSome, cond, true≢false, nat_eq, refl, sym, ◌∙◌, ap, subst, arith}
use Rattle.std.specs.List.{slice_get}
use Rattle.std.specs.Option.{is_some, option_copied, option_map_or}
use Rattle.std.specs.Cmp.{nat_eq_equiv}
use Rattle.std.specs.Map.{lookup, lookup_entry, remove_entry}
use Rattle.std.proofs.lemmas.Bool.{cases_eq, cond-true, cond-false}
use Rattle.std.proofs.lemmas.Bool.Decides.{nat_tests}
use Rattle.std.proofs.lemmas.List.{length-set, get_or-set_same, get_or-set_other}
use Rattle.std.proofs.lemmas.Option.{slice_get-get_or}
use Rattle.std.specs.Ordering.{nat_cmp}
use Rattle.std.specs.BTreeMap.{BTreeMap, get}
use Rattle.std.specs.Result.{IfErr, IsErrOf}
use Rattle.disk_models.specs.declared.erase.EraseDisk.{Ghosts}
use Rattle.disk_models.specs.Erase.{DiskState, Leaves}
use Rattle.page_journal.specs.declared.error.UseError.{UseError}
use Rattle.page_journal.specs.declared.error.UseError.TheVariants as uses
use Rattle.page_journal.specs.declared.journal.Journal.{Journal}
use Rattle.page_journal.specs.Calls.{IsDown}
use Rattle.page_journal.specs.Journal.{needs_recovery}
use Rattle.disk_models.proofs.api.Moments.{leaves_then}
use Rattle.page_journal.specs.Recovers.{IsListed, Recovers}
use Rattle.lru.specs.LruCache.{LruCache, lru_cache, promoted, put_entries}
use Rattle.lru.proofs.Splits.{Contains-nil, Contains-cons}
use Rattle.lru.proofs.CallerLemmas.{Contains-put_entries, Contains-lookup, Contains-lookup_entry, lookup-put_entries}
use Rattle.buffer_pool.specs.Held.{AreCommitted}
use Rattle.buffer_pool.specs.inner.Taking.{Has, IsDropped}

some_none : (q : List ℕ) → Some q ≡ None → ⊥
some_none q e = cc

pub eq_same : (m n : ℕ) → m ≡ n → nat_eq m n ≡ true
eq_same m n is = grind (arith, nat_tests)

pub same_eq : (m n : ℕ) → nat_eq m n ≡ true → m ≡ n
same_eq m n is = grind (arith, nat_tests)

pub other_eq : (m n : ℕ) → m ≢ n → nat_eq m n ≡ false
other_eq m n ne = grind (arith, nat_tests)

-- whoever is the same as n is the same as whoever is the same as n
pub tests_alike : (n x y : ℕ) → nat_eq n x ≡ true → nat_eq n y ≡ nat_eq x y
tests_alike n x y is = ap (λ k. nat_eq k y) (same_eq n x is)

-- what is there is found
pub found : (n : ℕ) (es : List (ℕ × List ℕ)) (page : List ℕ) → Contains es (n, page) → is_some (lookup (nat_eq n) es) ≡ true
found n [] page c = absurd (Contains-nil (n, page) c)
found n (f ∷ es) page c = ⊎_elim
    (λ (is : n ≡ f.0). ap is_some (cond-true (nat_eq n f.0) (Some f.1) (lookup (nat_eq n) es) (eq_same n f.0 is)))
    (λ (ne : n ≡ f.0 → ⊥). ap is_some (cond-false (nat_eq n f.0) (Some f.1) (lookup (nat_eq n) es) (other_eq n f.0 ne))
    ∙ found n es page (⊎_elim (λ (e : f ≡ (n, page)). absurd (ne (ap (λ (p : ℕ × List ℕ). p.0) (sym e)))) (λ d. d) (Contains-cons f es (n, page) c)))
    (cases_eq n f.0)

entry_found : (n : ℕ) (es : List (ℕ × List ℕ)) (o : Option (ℕ × List ℕ)) → lookup_entry (nat_eq n) es ≡ o → is_some (lookup (nat_eq n) es) ≡ true
    → is_some (lookup (nat_eq n) (option_map_or (λ e. e ∷ remove_entry (nat_eq n) es) o es)) ≡ true
entry_found n es None is there = there
entry_found n es (Some e) is there =
    let passes : nat_eq n e.0 ≡ true = (Contains-lookup_entry (nat_eq n) es e is).1 in
    ap is_some (cond-true (nat_eq n e.0) (Some e.1) (lookup (nat_eq n) (remove_entry (nat_eq n) es)) passes)

first_found : (n : ℕ) (es : List (ℕ × List ℕ)) → is_some (lookup (nat_eq n) es) ≡ true → is_some (lookup (nat_eq n) (promoted (nat_eq n) es)) ≡ true
first_found n es there = entry_found n es (lookup_entry (nat_eq n) es) refl there

-- a committed page goes into the cache
pub put_shown : (read : LruCache ℕ (List ℕ)) (n : ℕ) (page : List ℕ) (map : List (List ℕ)) → AreCommitted read map → slice_get map n ≡ Some page
    → (m : ℕ) (q : List ℕ) → Contains (put_entries nat_eq read n page) (m, q) → slice_get map m ≡ Some q
put_shown read n page map shown is m q c = ⊎_elim
    (λ old. shown m q old)
    (λ put.
    let same : m ≡ n = ⊎_elim (λ e. e) (λ old. sym (same_eq n m old.2)) put.1 in
    ap (slice_get map) same ∙ is ∙ ap (λ (p : List ℕ). Some p) (sym put.0))
    (Contains-put_entries nat_eq read n page (m, q) c)

-- what was found is found after it was made the last one that was used
pub promoted_found : (n : ℕ) (old new : LruCache ℕ (List ℕ)) → new ≡ lru_cache (promoted (nat_eq n) old.entries) old.cap → is_some (lookup (nat_eq n) old.entries) ≡ true → is_some (lookup (nat_eq n) new.entries) ≡ true
promoted_found n old new is there = ap (λ (l : LruCache ℕ (List ℕ)). is_some (lookup (nat_eq n) l.entries)) is ∙ first_found n old.entries there

some_weaker : (o : Option (List ℕ)) (P Q : List ℕ → Type 0) → ((q : List ℕ) → P q → Q q) → IfSome o P → IfSome o Q
some_weaker None P Q so p = tt
some_weaker (Some q) P Q so p = so q p

-- where there is a page
get_lt : (map : List (List ℕ)) (m : ℕ) (q : List ℕ) → slice_get map m ≡ Some q → m < length map
get_lt [] m q is = absurd (some_none q (sym is))
get_lt (p ∷ map) zero q is = omega arith
get_lt (p ∷ map) (suc m) q is = let lt = get_lt map m q is in omega (arith, lt)

-- a committed page that is replaced, and the others
pub set_here : (map : List (List ℕ)) (n : ℕ) (page : List ℕ) → n < length map → slice_get (set map n page) n ≡ Some page
set_here map n page lt = slice_get-get_or (set map n page) n [] (omega (arith, lt, length-set map n page)) ∙ ap (λ (p : List ℕ). Some p) (get_or-set_same map n page [] lt)

pub set_other : (map : List (List ℕ)) (n m : ℕ) (page : List ℕ) → m ≢ n → m < length map → slice_get (set map n page) m ≡ slice_get map m
set_other map n m page ne lt =
    slice_get-get_or (set map n page) m [] (omega (arith, lt, length-set map n page))
    ∙ ap (λ (p : List ℕ). Some p) (get_or-set_other map n m page [] ne)
    ∙ sym (slice_get-get_or map m [] lt)

-- what a lookup finds
found_shown : (read : LruCache ℕ (List ℕ)) (n : ℕ) (map : List (List ℕ)) → AreCommitted read map → (o : Option (List ℕ)) → lookup (nat_eq n) read.entries ≡ o → IfSome o (λ page. slice_get map n ≡ Some page)
found_shown read n map shown None is = tt
found_shown read n map shown (Some page) is =
    let there = Contains-lookup (nat_eq n) read.entries page is in
    ap (slice_get map) (same_eq n there.0 there.2) ∙ shown there.0 page there.1

pub peek_shown : (read : LruCache ℕ (List ℕ)) (n : ℕ) (map : List (List ℕ)) (r : Option (Bor (List ℕ))) → AreCommitted read map → option_copied r ≡ lookup (nat_eq n) read.entries → IfSome r (λ page. slice_get map n ≡ Some page.now)
peek_shown read n map None shown is = tt
peek_shown read n map (Some page) shown is = found_shown read n map shown (Some page.now) (sym is)

-- after a page is replaced
pub taken_shown : (old new : BTreeMap ℕ (List ℕ)) (n : ℕ) (page : List ℕ) (map : List (List ℕ)) → n < length map → ((m : ℕ) → IfSome (get nat_cmp old m) (λ q. slice_get map m ≡ Some q))
    → ((m : ℕ) → IfSome (get nat_cmp new m) (Has old n page m)) → (m : ℕ) → IfSome (get nat_cmp new m) (λ q. slice_get (set map n page) m ≡ Some q)
taken_shown old new n page map lt shown has m = some_weaker (get nat_cmp new m) (Has old n page m) (λ q. slice_get (set map n page) m ≡ Some q)
    (λ q is. ⊎_elim
    (λ here. ap (slice_get (set map n page)) here.0 ∙ set_here map n page lt ∙ ap (λ (p : List ℕ). Some p) (sym here.1))
    (λ there.
    let before : slice_get map m ≡ Some q = subst (λ (o : Option (List ℕ)). IfSome o (λ r. slice_get map m ≡ Some r)) there.1 (shown m) in
    set_other map n m page there.0 (get_lt map m q before) ∙ before)
    is)
    (has m)

pub dropped_shown : (n : ℕ) (old new : LruCache ℕ (List ℕ)) (page : List ℕ) (map : List (List ℕ)) → IsDropped n old new → AreCommitted old map → AreCommitted new (set map n page)
dropped_shown n old new page map dropped shown m q there =
    let was = dropped m q there in
    let before = shown m q was.0 in
    set_other map n m page was.1 (get_lt map m q before) ∙ before

-- a page that was kept, or wasn't because memory ran out
pub kept_shown : {T E : Type 0} (r : Result T E) (old new : LruCache ℕ (List ℕ)) (n : ℕ) (page : List ℕ) (map : List (List ℕ)) → OnOk r (new ≡ lru_cache (put_entries nat_eq old n page) old.cap) → OnErr r (new ≡ old)
    → AreCommitted old map → slice_get map n ≡ Some page → AreCommitted new map
kept_shown (Ok x) old new n page map put same shown is m q there = put_shown old n page map shown is m q (subst (λ (l : LruCache ℕ (List ℕ)). Contains l.entries (m, q)) put there)
kept_shown (Err e) old new n page map put same shown is m q there = shown m q (subst (λ (l : LruCache ℕ (List ℕ)). Contains l.entries (m, q)) same there)

pub kept_found : (old new : LruCache ℕ (List ℕ)) (n : ℕ) (page : List ℕ) → new ≡ lru_cache (put_entries nat_eq old n page) old.cap → IsSome (lookup (nat_eq n) new.entries)
kept_found old new n page put = subst (λ (l : LruCache ℕ (List ℕ)). IsSome (lookup (nat_eq n) l.entries)) (sym put) (subst (λ (o : Option (List ℕ)). IsSome o) (sym (lookup-put_entries nat_eq old n page nat_eq_equiv)) refl)

unless : (b : Bool) (o : Option (List ℕ)) (P : List ℕ → Type 0) → IfSome o P → IfSome (cond b None o) P
unless true o P p = tt
unless false o P p = p

-- after one is taken out
pub removed_shown : (old new : BTreeMap ℕ (List ℕ)) (test : ℕ → Bool) (map : List (List ℕ)) → ((q : ℕ) → get nat_cmp new q ≡ cond (test q) None (get nat_cmp old q)) → ((m : ℕ) → IfSome (get nat_cmp old m) (λ q. slice_get map m ≡ Some q))
    → (m : ℕ) → IfSome (get nat_cmp new m) (λ q. slice_get map m ≡ Some q)
removed_shown old new test map updates shown m = subst (λ (o : Option (List ℕ)). IfSome o (λ q. slice_get map m ≡ Some q)) (sym (updates m)) (unless (test m) (get nat_cmp old m) (λ q. slice_get map m ≡ Some q) (shown m))

test_same : (m n : ℕ) → m ≡ n → (m == n) ≡ true
test_same m n is = grind (arith, nat_tests)

test_other : (m n : ℕ) → m ≢ n → (m == n) ≡ false
test_other m n ne = grind (arith, nat_tests)

filter_le : (ns : List ℕ) (n : ℕ) → length (filter (λ m. not (m == n)) ns) ≤ length ns
filter_le [] n = omega arith
filter_le (m ∷ ns) n = ⊎_elim
    (λ (is : m ≡ n). omega (arith, filter_le ns n, ap length (cond-false (not (m == n)) (m ∷ filter (λ k. not (k == n)) ns) (filter (λ k. not (k == n)) ns) (ap not (test_same m n is)))))
    (λ (ne : m ≡ n → ⊥). omega (arith, filter_le ns n, ap length (cond-true (not (m == n)) (m ∷ filter (λ k. not (k == n)) ns) (filter (λ k. not (k == n)) ns) (ap not (test_other m n ne)))))
    (cases_eq m n)

-- without one of them there are fewer
pub fewer : (ns : List ℕ) (n : ℕ) → IsListed n ns → length (filter (λ m. not (m == n)) ns) + 1 ≤ length ns
fewer [] n listed = absurd listed
fewer (m ∷ ns) n listed = ⊎_elim
    (λ (is : m ≡ n). omega (arith, filter_le ns n, ap length (cond-false (not (m == n)) (m ∷ filter (λ k. not (k == n)) ns) (filter (λ k. not (k == n)) ns) (ap not (test_same m n is)))))
    (λ (ne : m ≡ n → ⊥).
    let there : IsListed n ns = ⊎_elim (λ e. absurd (ne (sym e))) (λ t. t) listed in
    omega (arith, fewer ns n there, ap length (cond-true (not (m == n)) (m ∷ filter (λ k. not (k == n)) ns) (filter (λ k. not (k == n)) ns) (ap not (test_other m n ne)))))
    (cases_eq m n)

-- one call after another, of which none changes what the disk says of itself
pub crash_then : (s0 s1 s2 : DiskState) (homes0 homes1 : ℕ) (note0 note1 : List ℕ) (pages : List (List ℕ)) → homes1 ≡ homes0 → note1 ≡ note0 → Leaves s0 s1 (λ c. Recovers homes0 note0 c pages) → Leaves s1 s2 (λ c. Recovers homes1 note1 c pages)
    → Leaves s0 s2 (λ c. Recovers homes0 note0 c pages)
crash_then s0 s1 s2 homes0 homes1 note0 note1 pages homes note one two = leaves_then s0 s1 s2 (λ c. Recovers homes0 note0 c pages) one
    (subst (λ k. Leaves s1 s2 (λ c. Recovers k note0 c pages)) homes (subst (λ (k : List ℕ). Leaves s1 s2 (λ c. Recovers homes1 k c pages)) note two))

pub not_fault : uses.NeedsRecovery ≡ uses.Fault → ⊥
not_fault is = cc

-- How a last step of a journal ends that leaves it usable: it succeeded, or nothing was done.
pub ended : {D : Type 0} {device : Ghosts D} (old new : Journal D device) (r : Result (Unit {0}) UseError) (A : Type 0) → OnOk r A → IfErr r (λ e. e ≢ uses.Fault → new ≡ old) → (IsErrOf r uses.Fault → IsDown device old new)
    → needs_recovery new ≡ false → A ⊎ (new ≡ old)
ended old new (Ok x) A done same down up = inl done
ended old new (Err uses.Fault) A done same down up = absurd (true≢false (sym (down refl).recovery ∙ up))
ended old new (Err uses.NeedsRecovery) A done same down up = inr (same (λ is. absurd (not_fault is)))
