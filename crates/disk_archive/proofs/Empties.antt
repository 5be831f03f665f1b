-- What an archive begins with to which nothing was given.
use Rattle.std.proofs.Common.{◌≡◌, ◌≢◌, ◌<◌, ◌≤◌, ◌⊎◌, inl, inr, ⊎_elim, ℕ, zero, suc, ◌+◌, ◌*◌, ◌^◌, List, [], ◌∷◌, ◌++◌, length, map, replicate, set, refl, sym, ◌∙◌, ap, subst, arith, None, length-set, get_or-set_same, get_or-set_other}
use Rattle.std.specs.List.{AllByRecursion}
use Rattle.std.proofs.Math.Nat.{mul-le-mul_right}
use Rattle.std.proofs.lemmas.List.{length-replicate, length-map}
use Rattle.std.proofs.lemmas.Option.{none-some}
use Rattle.disk_models.specs.Erase.{DiskState, IsSound, Leaves}
use Rattle.disk_models.specs.Once.{OnceState, settled_in}
use Rattle.disk_models.specs.Left.{CrashPair, Left, LeftNow, WithSettled}
use Rattle.disk_models.proofs.api.Growing.{grows_none}
use Rattle.disk_models.proofs.api.Moments.{leaves_weaker}
use Rattle.disk_models.proofs.api.Pairs.{inside_opening, now_is_pair}
use Rattle.page_journal.specs.Identity.{HasNoJournal}
use Rattle.page_journal.specs.Layout.{Image, homes_from, pages_of}
use Rattle.page_journal.specs.Recovers.{laid, AreBelow, NoneOrJournal, Recovers}
use Rattle.page_journal.proofs.Covering.{length-homes_from, length-laid}
use Rattle.page_journal.proofs.Opening.{laid-append}
use Rattle.route_meaning.specs.Holds.{admitted_time, time_of}
use Rattle.route_meaning.specs.Merged.{all_placed, by_time, parts}
use Rattle.route_meaning.specs.History.{Intake, History, waiting}
use Rattle.route_meaning.proofs.api.Beginning.{Begins-refl}
use Rattle.sequencer.specs.Lanes.{Waiting, marks, waiting_times}
use Rattle.interleaving_core.specs.Steps.{empty}
use Rattle.tsb_tree.specs.Trees.{ReportsFirst}
use Rattle.archive_head.specs.Head.{Contents, IsHead, IsLane, head_octets}
use Rattle.archive_head.proofs.api.Heads.{encodes_written}
use Rattle.archive_pages.specs.declared.settings.Settings.{Settings}
use Rattle.archive_pages.specs.Places.{AreSettings, tree_low}
use Rattle.archive_pages.specs.Represented.{HeadRepresents}
use Rattle.archive_pages.proofs.api.Representing.{head_represents_headed}
use Rattle.archive_pages.proofs.api.Creating.{head_represents_created}
use Rattle.disk_archive.specs.Creations.{LeavesNoneOrEmpty, homes_on, site_on}
use Rattle.disk_archive.specs.Mirrors.{Mirrors}
use Rattle.disk_archive.specs.Notes.{note_octets}
use Rattle.disk_archive.specs.Sites.{Site, Rests}
use Rattle.disk_archive.specs.Trees.{TreeLocated}
use Rattle.disk_archive.specs.inner.Creating.{CrashRepresents, bare_head, bare_lane}
use Rattle.disk_archive.specs.inner.Planning.{Headed}
use Rattle.disk_archive.proofs.Crossing.{now_represents}
use Rattle.disk_archive.proofs.api.Trees.{tree_framed}

-- ---- the head

lanes_fit : (n : ℕ) → AllByRecursion IsLane (replicate n bare_lane)
lanes_fit zero = tt
lanes_fit (suc n) = (record { offered = omega arith; admitted = omega arith; mark = omega arith; first = omega arith; used = omega arith; since = omega arith }, lanes_fit n)

pub tree_low_few : (s : Settings) → AreSettings s → tree_low s ≤ 1048561
tree_low_few s some =
    let all : s.collectors * s.ring ≤ 16 * s.ring = mul-le-mul_right s.ring some.few in
    let large = some.large in
    omega (arith, all, large)

pub head_fits : (s : Settings) (block : ℕ) → AreSettings s → block < 2 ^ 64 → IsHead (bare_head s block)
head_fits s block some lt =
    let low = tree_low_few s some in
    record {
      applied = omega arith;
      last = omega arith;
      begun = omega arith;
      fresh = omega (arith, low);
      block = lt;
      root = omega (arith, low);
      few = (let n = length-replicate s.collectors bare_lane in let few = some.few in omega (arith, n, few));
      lanes = lanes_fit s.collectors;
    }

-- ---- the pages

pub below_push : (homes n : ℕ) (page : List ℕ) (images : List Image) → n < homes → AreBelow homes (pages_of images) → AreBelow homes (pages_of (images ++ (n, page) ∷ []))
below_push homes n page [] lt below = (lt, tt)
below_push homes n page (image ∷ images) lt below = (below.0, below_push homes n page images lt below.1)

pub located_first : (count : ℕ) (pages : List (List ℕ)) (settled : ℕ → List ℕ → Type 0) (low block : ℕ) → ReportsFirst pages low → TreeLocated count pages settled low low (low + 2) block 0 []
located_first count pages settled low block t = record {
  level = 1;
  store = record { nodes = t.nodes; limit = low + 2; blocks = λ _. None; next = 0 };
  represents_node = t.reports;
  own = t.own;
  limit = refl;
  blocks = λ n node here. absurd (none-some node here);
  next = omega arith;
  has = t.has (λ _. None) 0;
}

head_represents_first : (count : ℕ) (s : Settings) (settled : ℕ → List ℕ → Type 0) (block : ℕ) (pages : List (List ℕ)) → AreSettings s → tree_low s + 2 ≤ length pages → ReportsFirst pages (tree_low s) → HeadRepresents (TreeLocated count) s settled (bare_head s block) pages (empty s.collectors)
head_represents_first count s settled block pages some inside t = head_represents_created (TreeLocated count) s settled (bare_head s block) pages refl refl refl refl some (omega (arith, inside)) (located_first count pages settled (tree_low s) block t)

-- the head is laid over the first page
headed_bare : (count : ℕ) (s : Settings) (settled : ℕ → List ℕ → Type 0) (block : ℕ) (pages : List (List ℕ)) → AreSettings s → IsHead (bare_head s block) → tree_low s + 2 ≤ length pages → ReportsFirst pages (tree_low s) → Headed count s settled (bare_head s block) (set pages 0 (head_octets (bare_head s block))) (empty s.collectors)
headed_bare count s settled block pages some valid inside t =
    let head = bare_head s block in
    record {
      valid = valid;
      first = encodes_written head _ valid (get_or-set_same pages 0 (head_octets head) [] (omega (arith, inside)));
      head_represents = head_represents_headed (TreeLocated count) s settled (tree_framed count settled) head pages (set pages 0 (head_octets head)) (empty s.collectors) (length-set pages 0 (head_octets head))
          (λ n ge. get_or-set_other pages 0 n (head_octets head) [] (let other : n ≢ 0 = omega (arith, ge) in other)) (head_represents_first count s settled block pages some inside t);
    }

pub headed_first : (count : ℕ) (s : Settings) (settled : ℕ → List ℕ → Type 0) (head : Contents) (block : ℕ) (images : List Image) (shown : List (List ℕ)) → AreSettings s → IsHead head → head ≡ bare_head s block → tree_low s + 2 ≤ length shown
    → ((pages : List (List ℕ)) → tree_low s + 2 ≤ length pages → ReportsFirst (laid images pages) (tree_low s))
    → Headed count s settled head (laid (images ++ (0, head_octets head) ∷ []) shown) (empty s.collectors)
headed_first count s settled head block images shown some valid is inside reports =
    let n = length-laid images shown in
    let whole : Headed count s settled head (set (laid images shown) 0 (head_octets head)) (empty s.collectors) =
    subst (λ (x : Contents). Headed count s settled x (set (laid images shown) 0 (head_octets x)) (empty s.collectors)) (sym is)
    (headed_bare count s settled block (laid images shown) some (subst IsHead is valid) (omega (arith, n, inside)) (reports shown inside)) in
    subst (λ (pages : List (List ℕ)). Headed count s settled head pages (empty s.collectors)) (sym (laid-append images ((0, head_octets head) ∷ []) shown)) whole

-- over the home pages of a disk
pub headed_on : (count : ℕ) (s : Settings) (o : OnceState) (head : Contents) (made images : List Image) (f : ℕ → ℕ) (homes : ℕ) → images ≡ made → tree_low s + 2 ≤ homes
    → ((count : ℕ) (o : OnceState) (shown : List (List ℕ)) → tree_low s + 2 ≤ length shown → Headed count s (settled_in o) head (laid made shown) (empty s.collectors))
    → Headed count s (settled_in o) head (laid images (homes_from f 0 homes)) (empty s.collectors)
headed_on count s o head made images f homes same large headed =
    let shown = homes_from f 0 homes in
    let long = length-homes_from f 0 homes in
    subst (λ (l : List Image). Headed count s (settled_in o) head (laid l shown) (empty s.collectors)) (sym same) (headed count o shown (omega (arith, long, large)))

-- ---- what is kept in memory

abbrev nothing : Intake
nothing = record { admitted = []; mark = 0; offered = 0 }

none_placed : (c n : ℕ) → all_placed c (map (λ (i : Intake). i.admitted) (replicate n nothing)) ≡ []
none_placed c zero = refl
none_placed c (suc n) = none_placed (suc c) n

none_waits : (n : ℕ) → waiting (empty n) ≡ []
none_waits n = ap (by_time time_of) (none_placed 0 n)

marks_none : (n : ℕ) → map (λ (i : Intake). i.mark) (replicate n nothing) ≡ replicate n 0
marks_none zero = refl
marks_none (suc n) = ap (λ (l : List ℕ). 0 ∷ l) (marks_none n)

times_none : (k n : ℕ) → map (map admitted_time) (parts k n []) ≡ replicate n []
times_none k zero = refl
times_none k (suc n) = ap (λ (l : List (List ℕ)). [] ∷ l) (times_none (suc k) n)

pub mirrors_empty : (lanes : List Waiting) (n : ℕ) → marks lanes ≡ replicate n 0 → waiting_times lanes ≡ replicate n [] → Mirrors lanes (empty n)
mirrors_empty lanes n m t = record {
  marks = m ∙ sym (marks_none n);
  times = t ∙ sym (ap (λ k. map (map admitted_time) (parts 0 k (waiting (empty n)))) (length-replicate n nothing) ∙ (ap (λ ps. map (map admitted_time) (parts 0 n ps)) (none_waits n) ∙ times_none 0 n));
}

pub numbers_empty : (lanes : List Waiting) (n : ℕ) → marks lanes ≡ replicate n 0 → length lanes ≡ n
numbers_empty lanes n m = sym (length-map lanes (λ (w : Waiting). w.mark)) ∙ (ap length m ∙ length-replicate n 0)

-- ---- what a crash leaves

pub rests_first : (site : Site) (head : Contents) (pages : List (List ℕ)) (h : History) (e : DiskState) (o : OnceState) → Headed site.blocks site.settings (settled_in o) head pages h → CrashRepresents site.homes site.note e pages → Rests site e o h
rests_first site head pages h e o k means left now = (h, Begins-refl h, now_represents site o head pages h left k (means left.erase now.erase) now.settled)

pub same_site : (s : Settings) {homes homes' blocks blocks' : ℕ} {note note' : List ℕ} → homes ≡ homes' → note ≡ note' → blocks ≡ blocks'
    → (let one : Site = record { settings = s; homes = homes; note = note; blocks = blocks } in let other : Site = record { settings = s; homes = homes'; note = note'; blocks = blocks' } in one ≡ other)
same_site s {homes = homes} {homes' = homes'} {blocks = blocks} {blocks' = blocks'} {note = note} {note' = note'} h n b =
    let with' : ℕ → List ℕ → ℕ → Site = λ x y z. record { settings = s; homes = x; note = y; blocks = z } in
    ap (λ (x : ℕ). with' x note blocks) h ∙ (ap (λ (y : List ℕ). with' homes' y blocks) n ∙ ap (λ (z : ℕ). with' homes' note' z) b)

-- the first pages represent the history of an archive to which nothing was given
pub leaves_first : (site : Site) (head : Contents) (pages : List (List ℕ)) (e f : DiskState) (o : OnceState) → Headed site.blocks site.settings (settled_in o) head pages (empty site.settings.collectors)
    → Leaves e f (NoneOrJournal site.homes site.note pages) → Leaves e f (WithSettled o (LeavesNoneOrEmpty site))
leaves_first site head pages e f o k l = leaves_weaker e f (NoneOrJournal site.homes site.note pages) (WithSettled o (LeavesNoneOrEmpty site))
    (λ c is left same has. ⊎_elim
    (λ none. inl (subst HasNoJournal (sym same) none))
    (λ means. inr (now_represents site o head pages (empty site.settings.collectors) left k (subst (λ (x : ℕ → ℕ). Recovers site.homes site.note x pages) (sym same) means) has))
    is) l

-- the same on the site that the disks give
pub leaves_on : (s : Settings) (size count : ℕ) (e f : DiskState) (o q : OnceState) {homes blocks : ℕ} {note : List ℕ} → homes ≡ homes_on size → note ≡ note_octets count s → blocks ≡ count → q ≡ o
    → Leaves e f (WithSettled q (LeavesNoneOrEmpty (record { settings = s; homes = homes; note = note; blocks = blocks }))) → Leaves e f (WithSettled o (LeavesNoneOrEmpty (site_on s size count)))
leaves_on s size count e f o q h n b same l =
    subst (λ (x : OnceState). Leaves e f (WithSettled x (LeavesNoneOrEmpty (site_on s size count)))) same
    (subst (λ (site : Site). Leaves e f (WithSettled q (LeavesNoneOrEmpty site))) (same_site s h n b) l)

-- a crash inside the call, which burns nothing
pub inside_creating : (site : Site) (e f : DiskState) (o p : OnceState) → IsSound e → p ≡ o → Leaves e f (WithSettled o (LeavesNoneOrEmpty site)) → (left : Left) → CrashPair e f o o p left → LeftNow e o left ⊎ LeavesNoneOrEmpty site left
inside_creating site e f o p sound same l left pair = inside_opening e f o (LeavesNoneOrEmpty site) sound l left (subst (λ (x : OnceState). CrashPair e f o o x left) same pair)

-- and one after it
pub after_creating : (site : Site) (e f : DiskState) (o p : OnceState) → IsSound e → IsSound f → p ≡ o → Leaves e f (WithSettled o (LeavesNoneOrEmpty site)) → (left : Left) → LeftNow f p left → LeftNow e o left ⊎ LeavesNoneOrEmpty site left
after_creating site e f o p sound later same l left now =
    let here : LeftNow f o left = subst (λ (x : OnceState). LeftNow f x left) same now in
    inside_opening e f o (LeavesNoneOrEmpty site) sound l left (now_is_pair e f o o o later l.later (grows_none o) (grows_none o) left here)
