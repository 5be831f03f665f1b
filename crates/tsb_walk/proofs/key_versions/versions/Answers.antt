use Rattle.std.proofs.Common.{◌≡◌, ◌∙◌, ap, refl, sym, subst, filter, ℕ, Option, arith}
use Rattle.once_store.specs.Readers.{reader_disk}
use Rattle.version_model.specs.Ranges.{end_or}
use Rattle.version_model.specs.Looks.{is_of}
use Rattle.version_model.specs.Entries.{versions_of}
use Rattle.tsb_walk.proofs.Gathering.{known_on, none_gathered, gathered}
use Rattle.tsb_walk.proofs.Untouched.{reads_none, reads_then, reads_as}
use Rattle.tsb_walk.proofs.Walking.{honest_on}
use Rattle.tsb_walk.proofs.key_versions.versions.Goals as goal

pub loop-all-init : goal.loop-all-init
loop-all-init g c = record {
  pages = reads_none g.P.Pages c.args.pages.now ⊥ (λ never. never);
  reported = λ start shown shows s all rising st well known. none_gathered c.args.key c.new-from.result all c.new-all.result.items c.new-all.ensures.items c.new-from.ensures.number;
  reads = λ start shown shows s all rising st well known. well;
  inside = λ k. k;
  known = λ h. refl;
  disk = refl;
  capacity = refl;
  honest = (λ h. h, λ h. h);
  faults = refl;
}

pub returns-in-None-clause-versions : goal.returns-in-None-clause-versions
returns-in-None-clause-versions g c = λ start shown shows s all rising st well known.
    let i = c.loop-all.invariant in
    let shows' = i.pages.shown start shown shows in
    let w = i.reads start shown shows s all rising st well known in
    let k = known_on g.O.OnceDisk c.args.reader.now c.loop-all.reader c.args.seen.now c.loop-all.seen s.blocks (i.known well.honest) i.disk known in
    let part = c.in_ok-part.ensures.part start shown shows' s all rising st w k in
    let new : versions_of c.append.new.self.items ≡ filter (is_of c.args.key 0 (end_or c.in_ok-part.part.reported)) all =
    gathered all c.args.key c.loop-all.from c.in_ok-part.part.reported c.loop-all.all.items c.in_ok-part.part.entries.items c.append.new.self.items rising c.in_ok-append.ensures.items (i.reported start shown shows s all rising st well known) part in
    record { above = omega arith; are = new ∙ ap (λ (t : Option ℕ). filter (is_of c.args.key 0 (end_or t)) all) c.in-None.is }

pub loop-all-preserved : goal.loop-all-preserved
loop-all-preserved g c =
    let i = c.loop-all.invariant in
    let H = g.O.OnceDisk.honest_seen in
    record {
      pages = reads_then g.P.Pages c.args.pages.now c.loop-all.pages c.next_part.new.pages ⊥ ⊥ i.pages (λ never. never) (reads_as g.P.Pages c.loop-all.pages c.next_part.new.pages _ ⊥ c.in_ok-part.ensures.same (λ e. absurd (cc)) (λ never. absurd never));
      reported = λ start shown shows s all rising st well known.
          let i = c.loop-all.invariant in
          let shows' = i.pages.shown start shown shows in
          let w = i.reads start shown shows s all rising st well known in
          let k = known_on g.O.OnceDisk c.args.reader.now c.loop-all.reader c.args.seen.now c.loop-all.seen s.blocks (i.known well.honest) i.disk known in
          let part = c.in_ok-part.ensures.part start shown shows' s all rising st w k in
          let new : versions_of c.append.new.self.items ≡ filter (is_of c.args.key 0 (end_or c.in_ok-part.part.reported)) all =
          gathered all c.args.key c.loop-all.from c.in_ok-part.part.reported c.loop-all.all.items c.in_ok-part.part.entries.items c.append.new.self.items rising c.in_ok-append.ensures.items (i.reported start shown shows s all rising st well known) part in
          new ∙ ap (λ (t : Option ℕ). filter (is_of c.args.key 0 (end_or t)) all) c.in-Some.is;
      reads = λ start shown shows s all rising st well known.
          let i = c.loop-all.invariant in
          let shows' = i.pages.shown start shown shows in
          let w = i.reads start shown shows s all rising st well known in
          let k = known_on g.O.OnceDisk c.args.reader.now c.loop-all.reader c.args.seen.now c.loop-all.seen s.blocks (i.known well.honest) i.disk known in
          c.in_ok-part.ensures.reads start shown shows' s all rising st w k;
      inside = λ k. c.in_ok-part.ensures.inside (i.inside k);
      known = λ h. c.in_ok-part.ensures.known (subst (λ d. H d c.loop-all.seen) (sym i.disk) (i.honest.0 h)) ∙ i.known h;
      disk = c.in_ok-part.ensures.disk ∙ i.disk;
      capacity = c.in_ok-part.ensures.capacity ∙ i.capacity;
      honest = honest_on H (reader_disk c.args.reader.now) (reader_disk c.loop-all.reader) c.args.seen.now c.loop-all.seen c.next_part.new.seen i.disk i.honest c.in_ok-part.ensures.honest;
      faults = c.in_ok-part.ensures.quiet (λ e. absurd (cc)) ∙ i.faults;
    }

pub returns-in_err-part-clause-inside : goal.returns-in_err-part-clause-inside
returns-in_err-part-clause-inside g c = λ k. c.next_part.ensures.inside (c.loop-all.invariant.inside k)

pub returns-in_err-append-clause-inside : goal.returns-in_err-append-clause-inside
returns-in_err-append-clause-inside g c = λ k. c.next_part.ensures.inside (c.loop-all.invariant.inside k)

pub returns-in-None-clause-inside : goal.returns-in-None-clause-inside
returns-in-None-clause-inside g c = λ k. c.next_part.ensures.inside (c.loop-all.invariant.inside k)
