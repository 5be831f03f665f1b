use Rattle.std.proofs.Common.{rules, ◌≡◌, ◌∙◌, inl, inr, Err, refl, sym, subst, arith, ℕ, List}
use Rattle.std.proofs.lemmas.List.{nil_from_length}
use Rattle.once_store.specs.Readers.{reader_disk}
use Rattle.tsb_walk.specs.declared.error.NodeError.TheVariants.{BadNode, Damaged}
use Rattle.tsb_walk.proofs.Untouched.{reads_none, reads_then, reads_as}
use Rattle.tsb_walk.proofs.Walking.{honest_on}
use Rattle.tsb_check.proofs.GoingUnder.{under_first, counts_first, counts_last, went_under, under_by, bad_by, damaged_by}
use Rattle.tsb_check.proofs.Used.{used_first, used_by, used_last, unused_by}
use Rattle.tsb_check.proofs.checking.count_under.Goals as goal

pub loop-place-init : goal.loop-place-init
loop-place-init g c = record {
  pages = reads_none g.P.Pages c.args.pages.now ⊥ (λ never. never);
  under = λ start shown shows. under_first shown c.args.places.items c.args.places.items refl;
  used = λ start shown shows. used_first shown c.args.in_use.now c.args.places.items c.args.places.items refl;
  went = λ start shown shows well. inl (well, counts_first shown (g.O.OnceDisk.known c.args.seen.now) (g.O.OnceDisk.block_count (reader_disk c.args.reader.now)) c.args.places.items c.args.places.items refl);
  same = λ h. refl;
  disk = refl;
  capacity = refl;
  honest = (λ h. h, λ h. h);
  faults = refl;
}

pub loop-place-preserved : goal.loop-place-preserved
loop-place-preserved g c =
    let i = c.loop-place.invariant in
    let H = g.O.OnceDisk.honest_seen in
    record {
      pages = reads_then g.P.Pages c.args.pages.now c.loop-place.pages c.take_place.new.pages ⊥ ⊥ i.pages (λ never. never) (reads_as g.P.Pages c.loop-place.pages c.take_place.new.pages _ ⊥ c.in_ok-more.ensures.pages (λ e. absurd (cc)) (λ never. absurd never));
      under = λ start shown shows.
          under_by g.O.OnceDisk shown c.args.places.items c.args.reader.now c.args.seen.now c.loop-place.reader c.loop-place.seen c.loop-place.left.items c.pop.new.self.items c.in-Some.place c.loop-place.count i.same i.disk (i.under start shown shows)
          (i.went start shown shows) c.in-Some.ensures.items c.take_place.new.left.items (c.in_ok-more.ensures.left start shown (i.pages.shown start shown shows));
      used = λ start shown shows.
          used_by shown c.args.in_use.now c.args.places.items c.loop-place.left.items c.pop.new.self.items c.in-Some.place c.in-Some.ensures.items c.take_place.new.left.items
          (c.in_ok-more.ensures.left start shown (i.pages.shown start shown shows)) (c.in_ok-more.ensures.used start shown (i.pages.shown start shown shows)) (i.used start shown shows);
      went = λ start shown shows.
          went_under g.O.OnceDisk shown c.args.places.items c.args.reader.now c.args.seen.now c.loop-place.reader c.loop-place.seen c.loop-place.left.items c.pop.new.self.items c.in-Some.place c.loop-place.count i.same i.disk (i.under start shown shows)
          (i.went start shown shows) c.in-Some.ensures.items c.take_place.new.reader c.take_place.new.seen c.take_place.new.left.items c.in_ok-more.more c.saturating_add-count.result
          (λ well. c.in_ok-more.ensures.checked start shown (i.pages.shown start shown shows) well) (λ well. c.in_ok-more.ensures.reads start shown (i.pages.shown start shown shows) well) c.saturating_add-count.ensures;
      same = λ h. c.in_ok-more.ensures.same (subst (λ d. H d c.loop-place.seen) (sym i.disk) (i.honest.0 h)) ∙ i.same h;
      disk = c.in_ok-more.ensures.disk ∙ i.disk;
      capacity = c.in_ok-more.ensures.capacity ∙ i.capacity;
      honest = honest_on H (reader_disk c.args.reader.now) (reader_disk c.loop-place.reader) c.args.seen.now c.loop-place.seen c.take_place.new.seen i.disk i.honest c.in_ok-more.ensures.honest;
      faults = c.in_ok-more.ensures.quiet (λ e. absurd (cc)) ∙ i.faults;
    }

pub returns-in_err-more-clause-bad : goal.returns-in_err-more-clause-bad
returns-in_err-more-clause-bad g c = λ start shown shows page e.
    let d : c.take_place.result ≡ Err (BadNode page) = search rules in
    let i = c.loop-place.invariant in
    elim (c.take_place.ensures.bad start shown (i.pages.shown start shown shows) page d) [
      | inl bad ↦ inl (bad_by g.O.OnceDisk shown c.args.places.items c.args.reader.now c.args.seen.now c.loop-place.reader c.loop-place.seen c.loop-place.left.items c.pop.new.self.items c.in-Some.place c.loop-place.count i.same i.disk (i.under start shown shows)
          (i.went start shown shows) c.in-Some.ensures.items page bad)
      | inr unused ↦ inr (unused_by shown c.args.in_use.now c.args.places.items c.loop-place.left.items c.pop.new.self.items c.in-Some.place c.in-Some.ensures.items (i.under start shown shows) page unused)
    ]

pub returns-in_err-more-clause-damaged : goal.returns-in_err-more-clause-damaged
returns-in_err-more-clause-damaged g c = λ start shown shows well block e.
    let d : c.take_place.result ≡ Err (Damaged block) = search rules in
    let i = c.loop-place.invariant in
    damaged_by g.O.OnceDisk shown c.args.places.items c.args.reader.now c.args.seen.now c.loop-place.reader c.loop-place.seen c.loop-place.left.items c.pop.new.self.items c.in-Some.place c.loop-place.count i.same i.disk (i.under start shown shows)
    (i.went start shown shows) c.in-Some.ensures.items block (λ w. c.take_place.ensures.damaged start shown (i.pages.shown start shown shows) w block d) well

pub returns-clause-checked : goal.returns-clause-checked
returns-clause-checked g c = λ start shown shows well.
    let empty = nil_from_length c.loop-place.left.items (omega (arith, c.loop-place.left.ok.0, c.in_default.ensures.cases.0)) in
    elim (c.loop-place.invariant.went start shown shows well) [
      | inl there ↦ inl (counts_last shown (g.O.OnceDisk.known c.args.seen.now) (g.O.OnceDisk.block_count (reader_disk c.args.reader.now)) c.args.places.items c.loop-place.left.items c.loop-place.count empty there.1)
      | inr lost ↦ inr lost
    ]

pub returns-clause-used : goal.returns-clause-used
returns-clause-used g c = λ start shown shows.
    let empty = nil_from_length c.loop-place.left.items (omega (arith, c.loop-place.left.ok.0, c.in_default.ensures.cases.0)) in
    used_last shown c.args.in_use.now c.args.places.items c.loop-place.left.items empty (c.loop-place.invariant.used start shown shows)
