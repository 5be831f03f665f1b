use Rattle.std.proofs.Common.{rules, ◌≡◌, ◌∙◌, inl, inr, Err, refl, sym, subst, arith, ℕ, List}
use Rattle.std.proofs.lemmas.List.{nil_from_length}
use Rattle.once_store.specs.declared.error.BlockError.TheVariants.{Damaged}
use Rattle.once_store.specs.Readers.{reader_disk}
use Rattle.tsb_walk.proofs.Walking.{honest_on}
use Rattle.tsb_check.proofs.Going.{goes_first, goes_last}
use Rattle.tsb_check.proofs.Loops.{went_on, reads_or, damaged_or}
use Rattle.tsb_check.proofs.past.count_past.Goals as goal

pub loop-place-init : goal.loop-place-init
loop-place-init g c = record {
  went = λ well. inl (well, goes_first (g.O.OnceDisk.known c.args.seen.now) (g.O.OnceDisk.block_count (reader_disk c.args.reader.now)) c.args.places.items c.args.places.items refl);
  same = λ h. refl;
  disk = refl;
  capacity = refl;
  honest = (λ h. h, λ h. h);
  faults = refl;
}

pub loop-place-preserved : goal.loop-place-preserved
loop-place-preserved g c =
    let i = c.loop-place.invariant in
    let H = g.O.OnceDisk.honest_seen in
    record {
      went = went_on g.O.OnceDisk c.args.places.items c.args.reader.now c.args.seen.now c.loop-place.reader c.loop-place.seen c.loop-place.left.items c.pop.new.self.items c.in-Some.place c.loop-place.count i.same i.disk i.went c.in-Some.ensures.items
          c.reported_at.new.reader c.reported_at.new.seen c.take.new.left.items c.in_ok-count.count c.in_ok-reported.reported (λ well octets is. c.in_ok-reported.ensures.reported well octets is) (λ well octets is. c.reported_at.ensures.reads well octets is) c.in_ok-count.ensures.taken;
      same = λ h. c.reported_at.ensures.same (subst (λ d. H d c.loop-place.seen) (sym i.disk) (i.honest.0 h)) ∙ i.same h;
      disk = c.reported_at.ensures.disk ∙ i.disk;
      capacity = c.reported_at.ensures.capacity ∙ i.capacity;
      honest = honest_on H (reader_disk c.args.reader.now) (reader_disk c.loop-place.reader) c.args.seen.now c.loop-place.seen c.reported_at.new.seen i.disk i.honest c.reported_at.ensures.honest;
      faults = c.in_ok-reported.ensures.quiet (λ e. absurd (cc)) ∙ i.faults;
    }

pub returns-in_err-reported-clause-reads : goal.returns-in_err-reported-clause-reads
returns-in_err-reported-clause-reads g c =
    let i = c.loop-place.invariant in
    reads_or g.O.OnceDisk c.args.places.items c.args.reader.now c.args.seen.now c.loop-place.reader c.loop-place.seen c.loop-place.left.items c.pop.new.self.items c.in-Some.place c.loop-place.count i.same i.disk i.went c.in-Some.ensures.items
    c.reported_at.new.reader c.reported_at.new.seen (λ well octets is. c.reported_at.ensures.reads well octets is)

pub returns-in_err-reported-clause-damaged : goal.returns-in_err-reported-clause-damaged
returns-in_err-reported-clause-damaged g c = λ well block e.
    let d : c.reported_at.result ≡ Err (Damaged block) = search rules in
    let i = c.loop-place.invariant in
    damaged_or g.O.OnceDisk c.args.places.items c.args.reader.now c.args.seen.now c.loop-place.reader c.loop-place.seen c.loop-place.left.items c.pop.new.self.items c.in-Some.place c.loop-place.count i.same i.disk i.went c.in-Some.ensures.items
    block (c.reported_at.ensures.number block d) (λ w octets is sound. c.reported_at.ensures.unsound w octets is block d sound) well

pub returns-in_err-count-clause-reads : goal.returns-in_err-count-clause-reads
returns-in_err-count-clause-reads g c =
    let i = c.loop-place.invariant in
    reads_or g.O.OnceDisk c.args.places.items c.args.reader.now c.args.seen.now c.loop-place.reader c.loop-place.seen c.loop-place.left.items c.pop.new.self.items c.in-Some.place c.loop-place.count i.same i.disk i.went c.in-Some.ensures.items
    c.reported_at.new.reader c.reported_at.new.seen (λ well octets is. c.reported_at.ensures.reads well octets is)

pub returns-clause-checked : goal.returns-clause-checked
returns-clause-checked g c = λ well.
    let empty = nil_from_length c.loop-place.left.items (omega (arith, c.loop-place.left.ok.0, c.in_default.ensures.cases.0)) in
    elim (c.loop-place.invariant.went well) [
      | inl there ↦ inl (goes_last (g.O.OnceDisk.known c.args.seen.now) (g.O.OnceDisk.block_count (reader_disk c.args.reader.now)) c.args.places.items c.loop-place.left.items c.loop-place.count empty there.1)
      | inr lost ↦ inr lost
    ]

pub returns-clause-reads : goal.returns-clause-reads
returns-clause-reads g c = λ well. elim (c.loop-place.invariant.went well) [
  | inl there ↦ inl there.0
  | inr lost ↦ inr lost
]
