use Rattle.std.proofs.Common.{◌≤◌, ◌+◌, ℕ, ◌++◌, ◌∷◌, [], ◌∙◌, Ok, Err, Some, None, refl, sym, ap, subst, length}
use Rattle.std.specs.Prelude.{IsSome}
use Rattle.mrt_records.specs.Values.{reported}
use Rattle.archive_calls.specs.Limits.{batch_octets}
use Rattle.service.specs.Turns.{turns_for}
use Rattle.service.specs.FeedTexts.{capped}
use Rattle.service.proofs.Following.{on_ok, on_ok_more, both_ok, ok_is_none, remembered}
use Rattle.shared_feed.proofs.Making.{done_no_more, done_refuse, done_counted, refused_counted}
use Rattle.shared_feed.proofs.Following.{after_more, after_where, place_of}
use Rattle.shared_feed.proofs.GivingUp.{stops_at, stops_before, gives_out_of_memory}
use Rattle.shared_feed.proofs.feeding.Feeding.take.Goals as goal

pub returns-in-Ok-Some : goal.returns-in-Ok-Some
returns-in-Ok-Some g c = record {
  beyond = λ k limit v records was b.
      let r = reported c.args.item.now in
      let same = c.gather.ensures.same in
      let counts = c.count_record.ensures in
      let takes = rw c.in-Ok-Some.field-0-is at c.in-Ok-Some.ensures.takes in
      after_where c.gather.result (IsSome g.N.OnDisk.disk) k limit v records r (Ok (Some c.in-Ok-Some.admission)) c.read_next.new.resolver c.args.self.now c.gather.new.self c.args.pass.now c.gather.new.pass was _ _ b
      same.collector same.limit same.resolver takes (on_ok _ c.gather.result (ok_is_none _))
      (c.gather.ensures.gathered (record { octets = b.counted.octets; fit = b.counted.fit; one = b.counted.one; few = b.counted.few }))
      (c.gather.ensures.counted (record { octets = b.counted.octets; fit = b.counted.fit; one = b.counted.one; few = b.counted.few }))
      (c.gather.ensures.done k v (turns_for limit 0 [] b.results) was (length b.results) (record { octets = b.counted.octets; fit = b.counted.fit; one = b.counted.one; few = b.counted.few }) b.collector
      (done_counted (IsSome g.N.OnDisk.disk) k v (turns_for limit 0 [] b.results) c.args.self.now.counts c.count_record.new.self c.args.pass.now was _ counts.admitted counts.late counts.refused b.done))
      (same.records ∙ counts.records) (same.skipped ∙ counts.skipped);
  given_up = λ k limit v records was b.
      let counts = c.count_record.ensures in
      let takes = rw c.in-Ok-Some.field-0-is at c.in-Ok-Some.ensures.takes in
      stops_at c.gather.result (IsSome g.N.OnDisk.disk) k limit v records c.args.item.now (Ok (Some c.in-Ok-Some.admission)) c.read_next.new.resolver c.args.self.now c.args.pass.now c.gather.new.pass was _ _ b takes (ok_is_none _)
      (c.gather.ensures.given_up k v (turns_for limit 0 [] b.results) was (length b.results) b.collector (record { octets = b.counted.octets; fit = b.counted.fit; one = b.counted.one; few = b.counted.few })
      (done_counted (IsSome g.N.OnDisk.disk) k v (turns_for limit 0 [] b.results) c.args.self.now.counts c.count_record.new.self c.args.pass.now was _ counts.admitted counts.late counts.refused b.done));
}

pub returns-in-Ok-None : goal.returns-in-Ok-None
returns-in-Ok-None g c = record {
  beyond = λ k limit v records was b.
      let r = reported c.args.item.now in
      let counts = c.count_record.ensures in
      let takes = rw c.in-Ok-None.field-0-is at c.in-Ok-None.ensures.takes in
      after_more (IsSome g.N.OnDisk.disk) k limit v records r (Ok None) c.read_next.new.resolver c.args.self.now _ c.args.pass.now c.args.pass.now was _ _ b
      refl refl refl takes (ok_is_none None)
      refl (record { octets = b.counted.octets; fit = b.counted.fit; one = b.counted.one; few = b.counted.few })
      (done_no_more (IsSome g.N.OnDisk.disk) k v (turns_for limit 0 [] b.results) c.count_record.new.self c.args.pass.now was _
      (done_counted (IsSome g.N.OnDisk.disk) k v (turns_for limit 0 [] b.results) c.args.self.now.counts c.count_record.new.self c.args.pass.now was _ counts.admitted counts.late counts.refused b.done))
      counts.records counts.skipped;
  given_up = λ k limit v records was b. tt;
}

pub returns-in-Err : goal.returns-in-Err
returns-in-Err g c = record {
  beyond = λ k limit v records was b.
      let r = reported c.args.item.now in
      let same = c.refuse.ensures.same in
      let counts = c.count_record.ensures in
      after_where c.refuse.result (IsSome g.N.OnDisk.disk) k limit v records r (Err c.in-Err.fault) c.read_next.new.resolver c.args.self.now c.refuse.new.self c.args.pass.now c.args.pass.now was _ _ b
      same.collector same.limit same.resolver c.in-Err.ensures.takes (remembered c.refuse.result c.in-Err.fault c.refuse.ensures.remembered)
      (on_ok _ c.refuse.result c.refuse.ensures.gathered)
      (on_ok _ c.refuse.result (refused_counted c.args.self.now c.refuse.new.self c.refuse.ensures.octets c.refuse.ensures.gathered same.limit b.counted))
      (on_ok_more _ _ c.refuse.result (both_ok _ _ c.refuse.result c.refuse.ensures.counted c.refuse.ensures.reported)
      (λ both. done_refuse (IsSome g.N.OnDisk.disk) k v (turns_for limit 0 [] b.results) c.args.self.now.counts c.refuse.new.self.counts c.args.pass.now was _ _ c.args.self.now.counts.records (length b.results) c.in-Err.fault
      (place_of (IsSome g.N.OnDisk.disk) k limit v records c.args.self.now c.args.pass.now was _ b) both.1 (c.refuse.ensures.admitted ∙ counts.admitted) (c.refuse.ensures.late ∙ counts.late) (both.0 ∙ ap (λ (n : ℕ). capped (n + 1)) counts.refused) b.done))
      (same.records ∙ counts.records) (same.skipped ∙ counts.skipped);
  given_up = λ k limit v records was b.
      stops_before c.refuse.result (IsSome g.N.OnDisk.disk) k limit v records c.args.item.now c.args.self.now c.args.pass.now c.args.pass.now was _ _ b
      (gives_out_of_memory c.refuse.result (IsSome g.N.OnDisk.disk) k v (turns_for limit 0 [] b.results) c.args.self.now.counts c.args.pass.now was _ _ c.refuse.ensures.lacking c.refuse.ensures.unreported b.done);
}
