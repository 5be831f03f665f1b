-- Pages that wait in memory are among those that aren't home.
use Rattle.std.proofs.Common.{◌≡◌, ◌≢◌, ◌⊎◌, inl, inr, ⊎_elim, ◌==◌, not, filter, ◌++◌, ℕ, Bool, true, false, List, [], ◌∷◌, Option, Some, None, IfSome, IsSome, cond, true≢false, length, ◌<◌, arith, Result, Ok, Err, Equal, refl, sym, ◌∙◌, ap, subst}
use Rattle.std.specs.Ordering.{is_eq, nat_cmp}
use Rattle.std.specs.Cmp.{nat_cmp_is}
use Rattle.std.specs.BTreeMap.{BTreeMap, get}
use Rattle.std.specs.List.{slice_get}
use Rattle.std.specs.Result.{IfErr, IsErrOf, OnErr, OnOk}
use Rattle.std.proofs.Props.{props}
use Rattle.std.proofs.lemmas.Bool.{cases_eq, cond-true, cond-false, eq-eqb, ne_eqb}
use Rattle.disk_models.specs.declared.erase.EraseDisk.{Ghosts}
use Rattle.page_journal.specs.Bookkeeping.{is_among, without}
use Rattle.page_journal.specs.Calls.{IsDown}
use Rattle.page_journal.specs.Journal.{unhomed_pages}
use Rattle.page_journal.specs.Layout.{Image, pages_of}
use Rattle.page_journal.specs.Recovers.{IsListed}
use Rattle.page_journal.specs.declared.error.UseError.{UseError}
use Rattle.page_journal.specs.declared.error.UseError.TheVariants as uses
use Rattle.page_journal.specs.declared.journal.Journal.{Journal}
use Rattle.buffer_pool.specs.declared.pool.Pool.{Pool}
use Rattle.buffer_pool.specs.Pool.{oldest_dirty}
use Rattle.buffer_pool.specs.inner.Taking.{Has}
use Rattle.buffer_pool.proofs.Holding.{not_fault}

-- ---- which numbers are there

pub among_listed : (n : ℕ) (ns : List ℕ) → is_among n ns ≡ true → IsListed n ns
among_listed n [] is = absurd (true≢false (sym is))
among_listed n (m ∷ ns) is = ⊎_elim
    (λ (same : m ≡ n). inl (sym same))
    (λ (ne : m ≡ n → ⊥). inr (among_listed n ns (sym (cond-false (m == n) true (is_among n ns) (ne_eqb m n ne)) ∙ is)))
    (cases_eq m n)

among_here : (n m : ℕ) (ns : List ℕ) → m ≡ n → is_among n (m ∷ ns) ≡ true
among_here n m ns same = cond-true (m == n) true (is_among n ns) (eq-eqb m n same)

among_later : (n m : ℕ) (ns : List ℕ) → is_among n ns ≡ true → is_among n (m ∷ ns) ≡ true
among_later n m ns is = ⊎_elim
    (λ (same : m ≡ n). among_here n m ns same)
    (λ (ne : m ≡ n → ⊥). cond-false (m == n) true (is_among n ns) (ne_eqb m n ne) ∙ is)
    (cases_eq m n)

among_first : (n : ℕ) (ns others : List ℕ) → is_among n ns ≡ true → is_among n (ns ++ others) ≡ true
among_first n [] others is = absurd (true≢false (sym is))
among_first n (m ∷ ns) others is = ⊎_elim
    (λ (same : m ≡ n). among_here n m (ns ++ others) same)
    (λ (ne : m ≡ n → ⊥). among_later n m (ns ++ others) (among_first n ns others (sym (cond-false (m == n) true (is_among n ns) (ne_eqb m n ne)) ∙ is)))
    (cases_eq m n)

among_second : (n : ℕ) (ns others : List ℕ) → is_among n others ≡ true → is_among n (ns ++ others) ≡ true
among_second n [] others is = is
among_second n (m ∷ ns) others is = among_later n m (ns ++ others) (among_second n ns others is)

-- a number that a filter keeps
among_filter : (n : ℕ) (test : ℕ → Bool) (ns : List ℕ) → test n ≡ true → is_among n ns ≡ true → is_among n (filter test ns) ≡ true
among_filter n test [] passes is = is
among_filter n test (m ∷ ns) passes is = ⊎_elim
    (λ (same : m ≡ n). ap (is_among n) (cond-true (test m) (m ∷ filter test ns) (filter test ns) (ap test same ∙ passes)) ∙ among_here n m (filter test ns) same)
    (λ (ne : m ≡ n → ⊥).
    let rest : is_among n (filter test ns) ≡ true = among_filter n test ns passes (sym (cond-false (m == n) true (is_among n ns) (ne_eqb m n ne)) ∙ is) in
    kept (test m) n m (filter test ns) rest)
    (cases_eq m n)
  where
    kept : (b : Bool) (n m : ℕ) (ns : List ℕ) → is_among n ns ≡ true → is_among n (cond b (m ∷ ns) ns) ≡ true
    kept true n m ns is = among_later n m ns is
    kept false n m ns is = is

listed_among : (n : ℕ) (ns : List ℕ) → IsListed n ns → is_among n ns ≡ true
listed_among n [] listed = absurd listed
listed_among n (m ∷ ns) listed = ⊎_elim (λ same. among_here n m ns (sym same)) (λ later. among_later n m ns (listed_among n ns later)) listed

-- one of the others is among all
pub among_joined : (n : ℕ) (ns others : List ℕ) → IsListed n others → is_among n (ns ++ without ns others) ≡ true
among_joined n ns others listed = by_case (is_among n ns) refl
  where
    by_case : (b : Bool) → is_among n ns ≡ b → is_among n (ns ++ without ns others) ≡ true
    by_case true is = among_first n ns (without ns others) is
    by_case false is = among_second n ns (without ns others) (among_filter n (λ k. not (is_among k ns)) others (ap not is) (listed_among n others listed))

-- ---- which pages wait

-- a page that is there after one was taken in
pub taken_only : (old : BTreeMap ℕ (List ℕ)) (n : ℕ) (page : List ℕ) (m : ℕ) (o : Option (List ℕ)) → IfSome o (Has old n page m) → IsSome o → (m ≡ n) ⊎ IsSome (get nat_cmp old m)
taken_only old n page m None has there = absurd (true≢false (sym there))
taken_only old n page m (Some q) has there = ⊎_elim (λ here. inl here.0) (λ was. inr (subst (λ (o : Option (List ℕ)). IsSome o) (sym was.1) refl)) has

unless_there : (b : Bool) (o : Option (List ℕ)) → IsSome (cond b None o) → (b ≡ false) × IsSome o
unless_there true o there = absurd (true≢false (sym there))
unless_there false o there = (refl, there)

-- a page that is there after one was taken out
pub removed_only : (old new : BTreeMap ℕ (List ℕ)) (n : ℕ) → ((q : ℕ) → get nat_cmp new q ≡ cond (is_eq (nat_cmp n q)) None (get nat_cmp old q)) → (m : ℕ) → IsSome (get nat_cmp new m) → (m ≢ n) × IsSome (get nat_cmp old m)
removed_only old new n updates m there =
    let is = unless_there (is_eq (nat_cmp n m)) (get nat_cmp old m) (subst (λ (o : Option (List ℕ)). IsSome o) (updates m) there) in
    ((λ same. absurd (true≢false (ap is_eq (nat_cmp_is n m Equal (sym same)) ∙ is.0))), is.1)

-- without the page that was written home
pub homed_among : (m n : ℕ) (ns : List ℕ) → m ≢ n → is_among m ns ≡ true → is_among m (filter (λ k. not (k == n)) ns) ≡ true
homed_among m n ns ne is = among_filter m (λ k. not (k == n)) ns (ap not (ne_eqb m n ne)) is

abbrev pub Waits : {D : Type 0} {device : Ghosts D} → BTreeMap ℕ (List ℕ) → Journal D device → Type 0
Waits committed journal = (n : ℕ) → IsSome (get nat_cmp committed n) → is_among n (unhomed_pages journal) ≡ true

waits_once : {D : Type 0} {device : Ghosts D} (committed : BTreeMap ℕ (List ℕ)) (journal : Journal D device) → IsProp (Waits committed journal)
waits_once committed journal = Prim.hlevel props

-- the pool with the journal that it has
pub with_journal : {D : Type 0} {device : Ghosts D} (pool : Pool D device) (journal : Journal D device) → journal ≡ pool.journal → (waits : Waits pool.committed journal)
    → record { journal = journal; committed = pool.committed; cached = pool.cached; spare = pool.spare; dirty = waits } ≡ pool
with_journal {D} {device} pool journal same =
    subst (λ (j : Journal D device). (waits : Waits pool.committed j) → ◌≡◌ {A = Pool D device} record { journal = j; committed = pool.committed; cached = pool.cached; spare = pool.spare; dirty = waits } pool) (sym same)
    (λ waits. ap (λ (w : Waits pool.committed pool.journal). record { journal = pool.journal; committed = pool.committed; cached = pool.cached; spare = pool.spare; dirty = w }) (waits_once pool.committed pool.journal waits pool.dirty))

-- a refusal that leaves the journal as it was leaves the pool so
pub unchanged_pool : {D T E : Type 0} {device : Ghosts D} (Q : E → Type 0) (pool : Pool D device) (journal : Journal D device) (r : Result T E) (waits : Waits pool.committed journal) → IfErr r (λ e. Q e → journal ≡ pool.journal)
    → IfErr r (λ e. Q e → ◌≡◌ {A = Pool D device} record { journal = journal; committed = pool.committed; cached = pool.cached; spare = pool.spare; dirty = waits } pool)
unchanged_pool Q pool journal (Ok x) waits same = tt
unchanged_pool Q pool journal (Err e) waits same = λ q. with_journal pool journal (same q) waits

-- a page that isn't home, where a failure leaves what isn't
pub failed_same : {D : Type 0} {device : Ghosts D} (old new : Journal D device) (r : Result (Unit {0}) UseError) → IfErr r (λ e. e ≢ uses.Fault → new ≡ old) → (IsErrOf r uses.Fault → IsDown device old new)
    → OnErr r (unhomed_pages new ≡ unhomed_pages old)
failed_same old new (Ok x) same down = tt
failed_same old new (Err uses.Fault) same down = (down refl).unhomed
failed_same old new (Err uses.NeedsRecovery) same down = ap unhomed_pages (same not_fault)

pub homed_or_not : (m n : ℕ) (old new : List ℕ) (r : Result (Unit {0}) UseError) → OnOk r (new ≡ filter (λ k. not (k == n)) old) → OnErr r (new ≡ old) → m ≢ n → is_among m old ≡ true → is_among m new ≡ true
homed_or_not m n old new (Ok x) home same ne is = ap (is_among m) home ∙ homed_among m n old ne is
homed_or_not m n old new (Err e) home same ne is = ap (is_among m) same ∙ is

-- a page that wasn't home before a post, or is one of its pages
pub posted_among : {D : Type 0} {device : Ghosts D} (images : List Image) (old new : Journal D device) (m : ℕ) → (length images ≡ 0 → new ≡ old) → (0 < length images → unhomed_pages new ≡ unhomed_pages old ++ without (unhomed_pages old) (pages_of images))
    → IsListed m (pages_of images) ⊎ (is_among m (unhomed_pages old) ≡ true) → is_among m (unhomed_pages new) ≡ true
posted_among [] old new m same takes is = ⊎_elim (λ none. absurd none) (λ was. ap (λ j. is_among m (unhomed_pages j)) (same refl) ∙ was) is
posted_among (image ∷ images) old new m same takes is =
    let now = takes (omega arith) in
    let all = unhomed_pages old in
    ap (is_among m) now ∙ ⊎_elim
    (λ listed. among_joined m all (pages_of (image ∷ images)) listed)
    (λ was. among_first m all (without all (pages_of (image ∷ images))) was)
    is

kept_listed : (n m : ℕ) (b : Bool) (ns kept : List ℕ) → (IsListed n kept → IsListed n ns) → IsListed n (cond b (m ∷ kept) kept) → IsListed n (m ∷ ns)
kept_listed n m true ns kept rest is = ⊎_elim (λ here. inl here) (λ later. inr (rest later)) is
kept_listed n m false ns kept rest is = inr (rest is)

-- a number that is left was there
pub filter_listed : (n : ℕ) (test : ℕ → Bool) (ns : List ℕ) → IsListed n (filter test ns) → IsListed n ns
filter_listed n test [] listed = listed
filter_listed n test (m ∷ ns) listed = kept_listed n m (test m) ns (filter test ns) (filter_listed n test ns) listed

-- a page that isn't home after a flush wasn't before it
pub flushed_listed : {D : Type 0} {device : Ghosts D} (n : ℕ) (old new : Pool D device) (r : Result Bool UseError)
    → OnOk r (IfSome (oldest_dirty old) (λ k. unhomed_pages new.journal ≡ filter (λ m. not (m == k)) (unhomed_pages old.journal)))
    → (length (unhomed_pages old.journal) ≡ 0 → new ≡ old) → OnErr r (unhomed_pages new.journal ≡ unhomed_pages old.journal)
    → IsListed n (unhomed_pages new.journal) → IsListed n (unhomed_pages old.journal)
flushed_listed n old new (Err e) oldest none same listed = subst (IsListed n) same listed
flushed_listed n old new (Ok more) oldest none same listed = first_gone n (unhomed_pages old.journal) (unhomed_pages new.journal) oldest (λ empty. ap (λ p. unhomed_pages p.journal) (none empty)) listed
  where
    first_gone : (n : ℕ) (before after : List ℕ) → IfSome (slice_get before 0) (λ k. after ≡ filter (λ m. not (m == k)) before) → (length before ≡ 0 → after ≡ before) → IsListed n after → IsListed n before
    first_gone n [] after gone same listed = subst (IsListed n) (same refl) listed
    first_gone n (k ∷ ns) after gone same listed = filter_listed n (λ m. not (m == k)) (k ∷ ns) (subst (IsListed n) gone listed)

-- no first number, no number
pub none_first : (ns : List ℕ) → None ≡ slice_get ns 0 → ns ≡ []
none_first [] is = refl
none_first (n ∷ ns) is = absurd (cc)
