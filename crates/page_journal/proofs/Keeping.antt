-- What a journal keeps over its steps.
use Rattle.std.proofs.Common.{◌≡◌, ◌≢◌, ◌<◌, ◌≤◌, ⊎_elim, ℕ, List, [], length, get_or, flat_map, refl, sym, ◌∙◌, ap, subst, arith, Some}
use Rattle.std.specs.List.{AllByRecursion, slice_get}
use Rattle.std.proofs.lemmas.Bool.{cases_eq}
use Rattle.std.proofs.lemmas.Option.{slice_get-get_or, get_or_from_slice_get}
use Rattle.disk_models.specs.Octets.{octets, Within}
use Rattle.disk_models.specs.Erase.{DiskState, MayLeave, MayLeaveBut, Leaves, WritesWithin, Syncs}
use Rattle.disk_models.proofs.api.OctetLemmas.{octets_agree}
use Rattle.disk_models.proofs.api.Moments.{leaves_then, leaves_weaker, may_leave_now, synced_leave}
use Rattle.page_journal.specs.Layout.{Image, pages_of, home_place, image_place, images, homes_from}
use Rattle.page_journal.specs.inner.Writing.{HasImages}
use Rattle.page_journal.specs.Recovers.{laid, IsListed, RecoversBy, Recovers, RepresentsPages}
use Rattle.page_journal.specs.Bookkeeping.{AreNumbered, HasImage, IsImage, IsOf, place_of, unhomed_numbers}
use Rattle.page_journal.specs.inner.Entering.{unhomed_after}
use Rattle.page_journal.specs.inner.Laying.{HomesRepresent}
use Rattle.page_journal.specs.declared.unhomed.Unhomed.{Unhomed}
use Rattle.page_journal.proofs.Covering.{length-laid, length-homes_from, get_or-homes_from, are_homes, torn_home}
use Rattle.page_journal.proofs.Placing.{all_others, covered_listed, has_same, others, place_cases, place_forgotten, place_kept, place_same, none_unhomed}
use Rattle.page_journal.proofs.Entries.{all_after, posted_shown}
use Rattle.page_journal.proofs.Posting.{number_same, numbers_same}
use Rattle.page_journal.proofs.Frame.{InSlot, whole_of}
use Rattle.disk_models.proofs.api.Overlay.{overlay, overlay_out, before_crash}

-- each page is shown at its place
abbrev pub ShownAt : ℕ → List Unhomed → (ℕ → ℕ) → List (List ℕ) → Type 0
ShownAt homes unhomed f pages = (n : ℕ) → n < homes → slice_get pages n ≡ Some (octets f (place_of unhomed n) 16384)

-- what isn't home is an image of its slot, in whatever a crash leaves
abbrev pub CoveredIn : List Unhomed → DiskState → Type 0
CoveredIn unhomed s = (c : ℕ → ℕ) → MayLeave s c → AllByRecursion (HasImage c) unhomed

-- there are as many pages as home pages
pub length_meant : (homes : ℕ) (note order : List ℕ) (f : ℕ → ℕ) (pages : List (List ℕ)) → RecoversBy homes note order f pages → length pages ≡ homes
length_meant homes note order f pages r = ap length r.meaning ∙ length-laid (flat_map (images f) order) (homes_from f 0 homes) ∙ length-homes_from f 0 homes

-- what a read gives is something that a crash may leave
pub now_means : (homes : ℕ) (note order : List ℕ) (s : DiskState) (pages : List (List ℕ)) → RepresentsPages homes note order s pages → RecoversBy homes note order s.octet pages
now_means homes note order s pages represents = represents s.octet (λ i settled. refl)

-- a home page is written that an open slot covers
module _ (homes : ℕ) (note order : List ℕ) (n : ℕ) (s0 s1 : DiskState) (unhomed : List Unhomed) (pages : List (List ℕ)) (w : WritesWithin (home_place n) 16384 s0 s1)
    (represents : RepresentsPages homes note order s0 pages) (of : AllByRecursion (IsOf order) unhomed) (covered : CoveredIn unhomed s0) (listed : IsListed n (unhomed_numbers unhomed)) where
  covers : (d : ℕ → ℕ) → MayLeave s0 d → IsListed n (pages_of (flat_map (images d) order))
  covers d may = covered_listed d order unhomed of (covered d may) n listed

  pub home_represents : RepresentsPages homes note order s1 pages
  home_represents c may = (torn_home homes note order n s0 pages represents covers c (may_leave_now (home_place n) 16384 s0 s1 c w may)).0

  pub home_covered : CoveredIn (others n unhomed) s1
  home_covered c may = all_others (HasImage c) unhomed n ((torn_home homes note order n s0 pages represents covers c (may_leave_now (home_place n) 16384 s0 s1 c w may)).1 unhomed of covered)

  -- a crash while it is written
  pub home_crash : Leaves s0 s1 (λ c. Recovers homes note c pages)
  home_crash = leaves_weaker s0 s1 (MayLeaveBut (home_place n) 16384 s0) (λ c. Recovers homes note c pages) (λ c may. (order, (torn_home homes note order n s0 pages represents covers c may).0)) w.crash

  pub home_numbered : (next : ℕ) → ((c : ℕ → ℕ) → MayLeave s0 c → AreNumbered next order c) → (c : ℕ → ℕ) → MayLeave s1 c → AreNumbered next order c
  home_numbered next numbered c may =
      let torn : MayLeaveBut (home_place n) 16384 s0 c = may_leave_now (home_place n) 16384 s0 s1 c w may in
      let d = overlay (home_place n) 16384 s0.octet c in
      let was : MayLeave s0 d = before_crash (home_place n) 16384 s0 c torn in
      numbers_same next order c d (λ t there.
      let low : t < 8 = (whole_of homes d t order there (represents d was).slots.whole).below in
      number_same c d t (λ i v. sym (overlay_out (home_place n) 16384 s0.octet c i (λ x. absurd (omega (arith, low, v.1, x.0))))))
      (numbered d was)

  pub home_shown : (page : List ℕ) → octets s1.octet (home_place n) 16384 ≡ page → slice_get pages n ≡ Some page → AllByRecursion IsImage unhomed → ShownAt homes unhomed s0.octet pages → ShownAt homes (others n unhomed) s1.octet pages
  home_shown page now is all shown m lt = ⊎_elim
      (λ (e : m ≡ n).
      ap (slice_get pages) e ∙ is ∙ ap (λ (p : List ℕ). Some p) (sym now)
      ∙ ap (λ at. Some (octets s1.octet at 16384)) (sym (place_forgotten unhomed n))
      ∙ ap (λ k. Some (octets s1.octet (place_of (others n unhomed) k) 16384)) (sym e))
      (λ (ne : m ≡ n → ⊥).
      let at = place_of unhomed m in
      let apart : (i : ℕ) → Within at 16384 i → ¬ Within (home_place n) 16384 i = λ i v x. ⊎_elim
      (λ (home : at ≡ home_place m). absurd (omega (arith, ne, home, v.0, v.1, x.0, x.1)))
      (λ low. absurd (omega (arith, low.2, low.4, v.1, x.0)))
      (place_cases unhomed m order all of) in
      shown m lt ∙ ap (λ (p : List ℕ). Some p) (sym (octets_agree s1.octet s0.octet at 16384 (λ i v. w.outside i (apart i v))))
      ∙ ap (λ k. Some (octets s1.octet k 16384)) (sym (place_kept unhomed n m ne)))
      (cases_eq m n)

-- all is home and synced, and no slot is open
module _ (homes : ℕ) (note : List ℕ) (s : DiskState) (pages : List (List ℕ)) (h : HomesRepresent homes note [] s pages) where
  pub stands_represents : RepresentsPages homes note [] s pages
  stands_represents c may = subst (λ f. RecoversBy homes note [] f pages) (sym (synced_leave s c h.settled may)) h.home.means

  pub stands_shown : ShownAt homes [] s.octet pages
  stands_shown n lt =
      slice_get-get_or pages n [] (omega (arith, lt, length_meant homes note [] s.octet pages h.home.means))
      ∙ ap (λ (p : List (List ℕ)). Some (get_or p n [])) h.home.home
      ∙ ap (λ (p : List ℕ). Some p) (get_or-homes_from s.octet homes n lt)

-- Where each page is shown home, the home pages are the map; a sync fixes that.
pub shown_stands : (homes : ℕ) (note order : List ℕ) (s0 s1 : DiskState) (pages : List (List ℕ)) → RepresentsPages homes note order s0 pages → ShownAt homes [] s0.octet pages → Syncs s0 s1 → HomesRepresent homes note order s1 pages
shown_stands homes note order s0 s1 pages represents shown synced =
    let means : RecoversBy homes note order s0.octet pages = now_means homes note order s0 pages represents in
    let home : pages ≡ homes_from s0.octet 0 homes =
    are_homes s0.octet homes pages (length_meant homes note order s0.octet pages means) (λ n lt. get_or_from_slice_get pages n (octets s0.octet (home_place n) 16384) [] (shown n lt)) in
    record {
      settled = synced.settled;
      home = record {
        means = subst (λ f. RecoversBy homes note order f pages) (sym synced.same) means;
        home = home ∙ ap (λ f. homes_from f 0 homes) (sym synced.same);
      };
    }

-- a page is shown still where none of the slots of the list was written, and no home page
pub shown_stays : (homes : ℕ) (order : List ℕ) (unhomed : List Unhomed) (f g : ℕ → ℕ) (pages : List (List ℕ)) → AllByRecursion IsImage unhomed → AllByRecursion (IsOf order) unhomed → ((i : ℕ) → home_place 0 ≤ i → g i ≡ f i)
    → ((t : ℕ) → IsListed t order → (i : ℕ) → image_place t 0 ≤ i → i < image_place t 31 → g i ≡ f i) → ShownAt homes unhomed f pages → ShownAt homes unhomed g pages
shown_stays homes order unhomed f g pages all of home there shown n lt = shown n lt ∙ ap (λ (p : List ℕ). Some p) (sym (place_same unhomed order f g all of home there n))

-- outside a slot nothing was written: so not in the others, and no home page
pub others_stay : (slot : ℕ) (order : List ℕ) (f g : ℕ → ℕ) → slot < 8 → ¬ IsListed slot order → ((i : ℕ) → ¬ InSlot slot i → g i ≡ f i)
    → ((i : ℕ) → home_place 0 ≤ i → g i ≡ f i) × ((t : ℕ) → IsListed t order → (i : ℕ) → image_place t 0 ≤ i → i < image_place t 31 → g i ≡ f i)
others_stay slot order f g low out outside = (
  λ i high. outside i (λ v. absurd (omega (arith, low, high, v.1))),
  λ t listed i after before. outside i (λ v.
      let ne : t ≢ slot = λ e. out (subst (λ u. IsListed u order) e listed) in
      absurd (omega (arith, ne, after, before, v.0, v.1))),
)

-- each page is shown after a post into a slot
pub post_shown : (homes : ℕ) (note order : List ℕ) (slot : ℕ) (f g : ℕ → ℕ) (pages : List (List ℕ)) → slot < 8 → ¬ IsListed slot order → RecoversBy homes note order f pages
    → (unhomed : List Unhomed) → AllByRecursion IsImage unhomed → AllByRecursion (IsOf order) unhomed → ShownAt homes unhomed f pages
    → (named : List Image) → ((i : ℕ) → ¬ InSlot slot i → g i ≡ f i) → HasImages g slot 0 named
    → ShownAt homes (unhomed_after slot 0 named unhomed) g (laid named pages)
post_shown homes note order slot f g pages low out means unhomed all of shown named outside stand n lt =
    let stay = others_stay slot order f g low out outside in
    posted_shown g slot named 0 unhomed pages n stand (omega (arith, lt, length_meant homes note order f pages means))
    (shown_stays homes order unhomed f g pages all of stay.0 stay.1 shown n lt)

-- and what isn't home is an image of its slot
pub post_covered : (slot : ℕ) (order : List ℕ) (s : DiskState) (f : ℕ → ℕ) (unhomed : List Unhomed) (named : List Image) → ((i : ℕ) → ¬ s.unsynced i) → AllByRecursion (IsOf order) unhomed → AllByRecursion (HasImage f) unhomed
    → ((t : ℕ) → IsListed t order → images s.octet t ≡ images f t) → images s.octet slot ≡ named → CoveredIn (unhomed_after slot 0 named unhomed) s
post_covered slot order s f unhomed named settled of covered same are c may = subst (λ g. AllByRecursion (HasImage g) (unhomed_after slot 0 named unhomed)) (sym (synced_leave s c settled may))
    (all_after (HasImage s.octet) slot 0 named unhomed (λ k image lt listed. subst (λ (is : List Image). IsListed image.0 (pages_of is)) (sym are) listed)
    (has_same f s.octet order unhomed same of covered))

pub whole_page : (at m : ℕ) (s0 s1 : DiskState) → m ≡ 16384 → WritesWithin at m s0 s1 → WritesWithin at 16384 s0 s1
whole_page at m s0 s1 is w = subst (λ k. WritesWithin at k s0 s1) is w

-- a checkpoint: a sync, and then the gates
module _ (homes : ℕ) (note order : List ℕ) (s0 s1 s2 : DiskState) (unhomed : List Unhomed) (all : unhomed_numbers unhomed ≡ []) (pages : List (List ℕ))
    (represents : RepresentsPages homes note order s0 pages) (shown : ShownAt homes unhomed s0.octet pages) where
  pub checkpoint_stands : Syncs s0 s1 → HomesRepresent homes note order s1 pages
  checkpoint_stands synced = shown_stands homes note order s0 s1 pages represents
      (subst (λ (l : List Unhomed). ShownAt homes l s0.octet pages) (none_unhomed unhomed all) shown) synced

  pub checkpoint_crash : Leaves s0 s1 (MayLeave s0) → Leaves s1 s2 (λ c. Recovers homes note c pages) → Leaves s0 s2 (λ c. Recovers homes note c pages)
  checkpoint_crash one two = leaves_then s0 s1 s2 (λ c. Recovers homes note c pages)
      (leaves_weaker s0 s1 (MayLeave s0) (λ c. Recovers homes note c pages) (λ c may. (order, represents c may)) one) two
