-- A post that closes the oldest slot: as the new gate is opened, that of the oldest one is closed.
use Rattle.std.proofs.Common.{◌≡◌, ◌≢◌, ◌<◌, ◌≤◌, ◌^◌, ⊎_elim, inr, ℕ, ◌+◌, ◌*◌, ◌==◌, if◌then◌else◌, List, [], ◌∷◌, ◌++◌, length, flat_map, refl, sym, ◌∙◌, ap, subst, arith, Some}
use Rattle.std.specs.List.{AllByRecursion}
use Rattle.std.proofs.lemmas.Bool.{cases_eq, cond-true, cond-false, eq-eqb, ne_eqb}
use Rattle.std.proofs.lemmas.Option.{get_or_from_slice_get}
use Rattle.disk_models.specs.Octets.{octets, Within}
use Rattle.disk_models.specs.Erase.{DiskState, MayLeave, MayLeaveBut, Leaves, WritesWithin}
use Rattle.disk_models.proofs.api.OctetLemmas.{octets_agree}
use Rattle.disk_models.proofs.api.Moments.{leaves_then, leaves_weaker, synced_leave}
use Rattle.page_journal.specs.Layout.{Image, gate_place, header_place, home_place, images, pages_of, homes_from}
use Rattle.page_journal.specs.inner.Writing.{header_octets, Fills, MayLeaveButGates, OpensGate, TurnsGates}
use Rattle.page_journal.specs.inner.Entering.{unhomed_after}
use Rattle.page_journal.specs.Bookkeeping.{AreNumbered, IsImage, IsOf, place_of}
use Rattle.page_journal.specs.Recovers.{laid, AreBelow, AreDistinct, IsListed, RecoversBy, RecoversEither, RepresentsPages}
use Rattle.page_journal.specs.declared.unhomed.Unhomed.{Unhomed}
use Rattle.page_journal.proofs.Closing.{is_needless, later_apart, needless_closed}
use Rattle.page_journal.proofs.Frame.{InBody, InSlot, SameSlot, same_open, same_slot, whole_of}
use Rattle.page_journal.proofs.Keeping.{CoveredIn, ShownAt, others_stay, post_covered, post_shown, shown_stays}
use Rattle.page_journal.proofs.Placing.{has_same, home_or_image}
use Rattle.page_journal.proofs.Posting.{IsFree, fill_crash, lower_still, number_same, numbers_same, post_images, post_numbered, post_others, post_outside, post_represents, post_stand, stand_same, torn_fill, torn_gate}
use Rattle.page_journal.proofs.Staging.{length-header_octets}

-- ---- the two writes, and the sync

module _ (newest oldest : ℕ) (s0 s1 : DiskState) (first : WritesWithin (gate_place newest) 1 s0 s1) where
  pub turn_first : Leaves s0 s1 (MayLeaveButGates newest oldest s0)
  turn_first = leaves_weaker s0 s1 (MayLeaveBut (gate_place newest) 1 s0) (MayLeaveButGates newest oldest s0) (λ c may i settled out other. may i settled out) first.crash

  module _ (s2 : DiskState) (second : WritesWithin (gate_place oldest) 1 s1 s2) where
    still : (i : ℕ) → ¬ s0.unsynced i → ¬ Within (gate_place newest) 1 i → ¬ s1.unsynced i
    still i settled out un = ⊎_elim (λ was. settled was) (λ w. out w) (first.unsynced i un)

    pub turn_second : Leaves s0 s2 (MayLeaveButGates newest oldest s0)
    turn_second = leaves_then s0 s1 s2 (MayLeaveButGates newest oldest s0) turn_first
        (leaves_weaker s1 s2 (MayLeaveBut (gate_place oldest) 1 s1) (MayLeaveButGates newest oldest s0)
        (λ c may i settled out other. may i (still i settled out) other ∙ first.outside i out) second.crash)

    pub turn_crash : (s3 : DiskState) → Leaves s2 s3 (MayLeave s2) → Leaves s0 s3 (MayLeaveButGates newest oldest s0)
    turn_crash s3 synced = leaves_then s0 s2 s3 (MayLeaveButGates newest oldest s0) turn_second
        (leaves_weaker s2 s3 (MayLeave s2) (MayLeaveButGates newest oldest s0)
        (λ c may i settled out other.
        may i (λ un. ⊎_elim (λ was. still i settled out was) (λ w. other w) (second.unsynced i un)) ∙ second.outside i other ∙ first.outside i out) synced)

    pub turn_outside : (i : ℕ) → ¬ Within (gate_place newest) 1 i → ¬ Within (gate_place oldest) 1 i → s2.octet i ≡ s0.octet i
    turn_outside i out other = second.outside i other ∙ first.outside i out

    pub turn_open : newest ≢ oldest → s1.octet (gate_place newest) ≡ 165 → s2.octet (gate_place newest) ≡ 165
    turn_open apart is = second.outside (gate_place newest) (λ w. absurd (omega (arith, apart, w.0, w.1))) ∙ is

-- ---- octets with another one at a place

put : ℕ → ℕ → (ℕ → ℕ) → ℕ → ℕ
put at v f i = if i == at then v else f i

put_here : (at v : ℕ) (f : ℕ → ℕ) (i : ℕ) → i ≡ at → put at v f i ≡ v
unfolding put
put_here at v f i is = cond-true (i == at) v (f i) (eq-eqb i at is)

put_else : (at v : ℕ) (f : ℕ → ℕ) (i : ℕ) → i ≢ at → put at v f i ≡ f i
unfolding put
put_else at v f i ne = cond-false (i == at) v (f i) (ne_eqb i at ne)

-- ---- the oldest slot isn't needed once the new one is filled, and before its gate is opened

module _ (homes : ℕ) (note rest : List ℕ) (slot next oldest : ℕ) (below : slot < 8) (low : oldest < 8) (apart : slot ≢ oldest) (s0 s1 : DiskState) (pages : List (List ℕ))
    (represents : RepresentsPages homes note (oldest ∷ rest) s0 pages) (free : (c : ℕ → ℕ) → MayLeave s0 c → IsFree slot next (oldest ∷ rest) c)
    (named : List Image) (header : List ℕ) (some : ¬ (length named ≡ 0)) (few : length named ≤ 31) (fits : next < 2 ^ 64) (small : 265 + homes < 2 ^ 50)
    (inside : AreBelow homes (pages_of named)) (distinct : AreDistinct (pages_of named)) (is_header : header ≡ header_octets next named) (fills : Fills slot header named s0 s1)
    (unhomed : List Unhomed) (all : AllByRecursion IsImage unhomed) (of : AllByRecursion (IsOf rest) unhomed) (shown : ShownAt homes unhomed s0.octet pages) (covered : CoveredIn unhomed s0) where
  here : MayLeave s0 s0.octet
  here i settled = refl

  means : RecoversBy homes note (oldest ∷ rest) s0.octet pages
  means = represents s0.octet here

  filled : RecoversBy homes note (oldest ∷ rest) s1.octet pages × IsFree slot next (oldest ∷ rest) s1.octet
  filled = torn_fill homes note (oldest ∷ rest) slot next below s0 pages represents free s1.octet (λ i settled out. fills.outside i out)

  unlisted : ¬ IsListed slot (oldest ∷ rest)
  unlisted listed = (free s0.octet here).closed (whole_of homes s0.octet slot (oldest ∷ rest) listed means.slots.whole).is_open

  out_rest : ¬ IsListed slot rest
  out_rest listed = unlisted (inr listed)

  fill_outside : (i : ℕ) → ¬ InSlot slot i → s1.octet i ≡ s0.octet i
  fill_outside i out = fills.outside i (λ w. out (omega (arith, w.0), omega (arith, w.1)))

  filled_shown : ShownAt homes unhomed s1.octet pages
  filled_shown =
      let stay = others_stay slot rest s0.octet s1.octet below out_rest fill_outside in
      shown_stays homes rest unhomed s0.octet s1.octet pages all of stay.0 stay.1 shown

  filled_slots : (t : ℕ) → IsListed t rest → SameSlot s1.octet s0.octet t
  filled_slots t listed = same_open homes s1.octet s0.octet slot below fill_outside (free s0.octet here).closed t (whole_of homes s0.octet t (oldest ∷ rest) (inr listed) means.slots.whole)

  filled_others : (t : ℕ) → IsListed t rest → images s1.octet t ≡ images s0.octet t
  filled_others t listed = (filled_slots t listed).contents

  needless : pages ≡ laid (flat_map (images s1.octet) rest) (homes_from s1.octet 0 homes)
  needless = is_needless homes note oldest rest s1.octet s1.octet pages low (λ j out. refl) filled.0 (λ n lt out.
      let at : place_of unhomed n ≡ home_place n = home_or_image s1.octet rest unhomed n of (has_same s0.octet s1.octet rest unhomed filled_others of (covered s0.octet here)) out in
      get_or_from_slice_get pages n (octets s1.octet (home_place n) 16384) [] (filled_shown n lt ∙ ap (λ k. Some (octets s1.octet k 16384)) at))

  -- the disk, as if its gate were closed already: with any octet but A5
  abbrev shut : ℕ → DiskState
  shut v = record { octet = put (gate_place oldest) v s1.octet; unsynced = λ i. ⊥; clock = s1.clock; left_since = s1.left_since }

  shut_agree : (v i : ℕ) → ¬ Within (gate_place oldest) 1 i → put (gate_place oldest) v s1.octet i ≡ s1.octet i
  shut_agree v i out = put_else (gate_place oldest) v s1.octet i (λ e. out (omega (arith, e), omega (arith, e)))

  shut_high : (v t i : ℕ) → header_place t ≤ i → i < header_place t + 524288 → put (gate_place oldest) v s1.octet i ≡ s1.octet i
  shut_high v t i after before = shut_agree v i (λ w. absurd (omega (arith, after, before, w.0, w.1)))

  shut_means : (v : ℕ) → v ≢ 165 → RecoversBy homes note rest (put (gate_place oldest) v s1.octet) pages
  shut_means v ne = needless_closed homes note oldest rest (put (gate_place oldest) v s1.octet) s1.octet pages low (shut_agree v) filled.0 needless
      (λ is. ne (sym (put_here (gate_place oldest) v s1.octet (gate_place oldest) refl) ∙ is))

  shut_free : (v : ℕ) → IsFree slot next rest (put (gate_place oldest) v s1.octet)
  shut_free v = record {
    closed = λ is. filled.1.closed (sym (shut_agree v (gate_place slot) (λ w. absurd (omega (arith, apart, w.0, w.1)))) ∙ is);
    lower = lower_still next rest (put (gate_place oldest) v s1.octet) s1.octet (λ t listed. number_same (put (gate_place oldest) v s1.octet) s1.octet t (λ i w. shut_high v t i w.0 (omega (arith, w.1)))) filled.1.lower.1;
  }

  shut_represents : (v : ℕ) → v ≢ 165 → RepresentsPages homes note rest (shut v) pages
  shut_represents v ne c may = subst (λ f. RecoversBy homes note rest f pages) (sym (synced_leave (shut v) c (λ i un. un) may)) (shut_means v ne)

  shut_frees : (v : ℕ) (c : ℕ → ℕ) → MayLeave (shut v) c → IsFree slot next rest c
  shut_frees v c may = subst (IsFree slot next rest) (sym (synced_leave (shut v) c (λ i un. un) may)) (shut_free v)

  shut_fills : (v : ℕ) → Fills slot header named (shut v) (shut v)
  shut_fills v =
      let long : length header ≡ 9 + 8 * length named = ap length is_header ∙ length-header_octets next named in
      record {
        outside = λ i out. refl;
        header_stands = octets_agree (put (gate_place oldest) v s1.octet) s1.octet (header_place slot) (length header) (λ i w. shut_high v slot i w.0 (omega (arith, w.1, long, few))) ∙ fills.header_stands;
        images_stand = stand_same s1.octet (put (gate_place oldest) v s1.octet) slot (λ i w. shut_high v slot i w.0 w.1) named 0 (omega (arith, few)) fills.images_stand;
        settled = λ i un. un;
      }

  -- each gate is open or it isn't
  pub torn_turn : (c : ℕ → ℕ) → MayLeaveButGates slot oldest s1 c → RecoversEither homes note pages (laid named pages) c
  torn_turn c may =
      let g = gate_place oldest in
      let agree : (i : ℕ) → ¬ Within (gate_place slot) 1 i → i ≢ g → c i ≡ s1.octet i = λ i out ne. may i (fills.settled i) out (λ w. ne (omega (arith, w.0, w.1))) in
      ⊎_elim
      (λ (is : c g ≡ 165). torn_gate homes note (oldest ∷ rest) slot next below s0 pages represents free named header s1 (omega (arith, some)) few fits (omega (arith, small)) inside distinct is_header fills c (λ i settled out. ⊎_elim
      (λ (e : i ≡ g). ap c e ∙ is ∙ sym filled.0.slots.whole.0.is_open ∙ ap s1.octet (sym e))
      (λ ne. agree i out ne)
      (cases_eq i g)))
      (λ (no : c g ≡ 165 → ⊥). torn_gate homes note rest slot next below (shut (c g)) pages (shut_represents (c g) no) (shut_frees (c g)) named header (shut (c g)) (omega (arith, some)) few fits (omega (arith, small)) inside distinct is_header (shut_fills (c g)) c (λ i settled out. ⊎_elim
      (λ (e : i ≡ g). ap c e ∙ sym (put_here g (c g) s1.octet i e))
      (λ ne. agree i out ne ∙ sym (put_else g (c g) s1.octet i ne))
      (cases_eq i g)))
      (cases_eq (c g) 165)

  pub closing_crash : (s2 : DiskState) → Leaves s0 s1 (MayLeaveBut (header_place slot) 524288 s0) → Leaves s1 s2 (MayLeaveButGates slot oldest s1) → Leaves s0 s2 (RecoversEither homes note pages (laid named pages))
  closing_crash s2 one two = leaves_then s0 s1 s2 (RecoversEither homes note pages (laid named pages))
      (fill_crash homes note (oldest ∷ rest) slot next below s0 s1 pages represents free named header one)
      (leaves_weaker s1 s2 (MayLeaveButGates slot oldest s1) (RecoversEither homes note pages (laid named pages)) torn_turn two)

  -- ---- once both are written for good

  module _ (s2 : DiskState) (turns : TurnsGates slot oldest s1 s2) where
    none : ◌≢◌ {A = ℕ} 0 165
    none e = absurd (omega (arith, e))

    opens : OpensGate slot (shut 0) s2
    opens = record {
      outside = λ i out. ⊎_elim
          (λ (e : i ≡ gate_place oldest). ap s2.octet e ∙ turns.closed ∙ sym (put_here (gate_place oldest) 0 s1.octet i e))
          (λ (ne : i ≡ gate_place oldest → ⊥). turns.outside i out (λ w. ne (omega (arith, w.0, w.1))) ∙ sym (put_else (gate_place oldest) 0 s1.octet i ne))
          (cases_eq i (gate_place oldest));
      is_open = turns.is_open;
      settled = turns.settled;
    }

    pub closing_represents : RepresentsPages homes note (rest ++ slot ∷ []) s2 (laid named pages)
    closing_represents = post_represents homes note rest slot next below (shut 0) (shut 0) pages (shut_represents 0 none) (shut_frees 0) named header s2 some few fits small inside distinct is_header (shut_fills 0) opens

    shut_numbered : AreNumbered next (oldest ∷ rest) s0.octet → AreNumbered next rest (put (gate_place oldest) 0 s1.octet)
    shut_numbered numbered = numbers_same next rest (put (gate_place oldest) 0 s1.octet) s0.octet
        (λ t listed. number_same (put (gate_place oldest) 0 s1.octet) s1.octet t (λ i w. shut_high 0 t i w.0 (omega (arith, w.1))) ∙ (filled_slots t listed).number) numbered.1

    pub closing_numbered : AreNumbered next (oldest ∷ rest) s0.octet → (c : ℕ → ℕ) → MayLeave s2 c → AreNumbered (next + 1) (rest ++ slot ∷ []) c
    closing_numbered numbered = post_numbered homes note rest slot next below (shut 0) (shut 0) pages (shut_represents 0 none) (shut_frees 0) named header s2 some few fits small inside distinct is_header (shut_fills 0) opens (shut_numbered numbered)

    shut_shown : ShownAt homes unhomed (put (gate_place oldest) 0 s1.octet) pages
    shut_shown = shown_stays homes rest unhomed s1.octet (put (gate_place oldest) 0 s1.octet) pages all of
        (λ i high. shut_agree 0 i (λ w. absurd (omega (arith, low, high, w.1))))
        (λ t listed i after before. shut_high 0 t i (omega (arith, after)) (omega (arith, before)))
        filled_shown

    pub closing_shown : ShownAt homes (unhomed_after slot 0 named unhomed) s2.octet (laid named pages)
    closing_shown = post_shown homes note rest slot (put (gate_place oldest) 0 s1.octet) s2.octet pages below out_rest (shut_means 0 none) unhomed all of shut_shown named
        (post_outside homes note rest slot next below (shut 0) (shut 0) pages (shut_represents 0 none) (shut_frees 0) named header s2 some few fits small inside distinct is_header (shut_fills 0) opens)
        (post_stand homes note rest slot next below (shut 0) (shut 0) pages (shut_represents 0 none) (shut_frees 0) named header s2 some few fits small inside distinct is_header (shut_fills 0) opens)

    shut_others : (t : ℕ) → IsListed t rest → images (put (gate_place oldest) 0 s1.octet) t ≡ images s1.octet t
    shut_others t listed =
        let w = whole_of homes s1.octet t (oldest ∷ rest) (inr listed) filled.0.slots.whole in
        let ne : t ≢ oldest = later_apart s1.octet oldest t rest filled.0.slots.rising.0 listed in
        (same_slot (put (gate_place oldest) 0 s1.octet) s1.octet t (λ i v. shut_high 0 t i v.0 v.1) (shut_agree 0 (gate_place t) (λ u. absurd (omega (arith, ne, u.0, u.1)))) w.few).contents

    pub closing_covered : CoveredIn (unhomed_after slot 0 named unhomed) s2
    closing_covered = post_covered slot rest s2 s0.octet unhomed named turns.settled of (covered s0.octet here)
        (λ t listed. post_others homes note rest slot next below (shut 0) (shut 0) pages (shut_represents 0 none) (shut_frees 0) named header s2 some few fits small inside distinct is_header (shut_fills 0) opens t listed ∙ shut_others t listed ∙ filled_others t listed)
        (post_images homes note rest slot next below (shut 0) (shut 0) pages (shut_represents 0 none) (shut_frees 0) named header s2 some few fits small inside distinct is_header (shut_fills 0) opens)

-- opening and closing gates writes no header and no image
pub turns_body : (newest oldest : ℕ) (s1 s2 : DiskState) → TurnsGates newest oldest s1 s2 → (i : ℕ) → InBody newest i → s2.octet i ≡ s1.octet i
turns_body newest oldest s1 s2 turns i w = turns.outside i (λ v. absurd (omega (arith, w.0, v.1))) (λ v. absurd (omega (arith, w.0, w.1, v.0, v.1)))
