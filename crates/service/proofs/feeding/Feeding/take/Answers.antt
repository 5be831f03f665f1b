use Rattle.std.proofs.Common.{◌+◌, ℕ, [], ◌∙◌, Ok, Err, Some, None, refl, ap, length}
use Rattle.mrt_records.specs.Values.{reported}
use Rattle.service.specs.Turns.{turns_for}
use Rattle.service.specs.FeedTexts.{capped}
use Rattle.service.proofs.Turning.{done_no_more, done_refuse}
use Rattle.service.proofs.GivingUp.{stops_at, stops_before, gives_out_of_memory, never_outside}
use Rattle.service.proofs.Following.{after_more, after_where, done_counted, place_of, on_ok, on_ok_more, both_ok, ok_is_none, remembered, refused_counted}
use Rattle.service.proofs.feeding.Feeding.take.Goals as goal

pub returns-in-Ok-Some : goal.returns-in-Ok-Some
returns-in-Ok-Some g c = record {
  beyond = λ rule k dropped limit h records was b.
      let r = reported c.args.item.now in
      let same = c.gather.ensures.same in
      let counts = c.count_record.ensures in
      let takes = rw c.in-Ok-Some.field-0-is at c.in-Ok-Some.ensures.takes in
      after_where c.gather.result rule k dropped limit h records r (Ok (Some c.in-Ok-Some.admission)) c.read_next.new.resolver c.read_next.new.dropping c.args.self.now c.gather.new.self (g.A.RouteSource.represents c.args.archive.now) (g.A.RouteSource.represents c.gather.new.archive) was _ _ b
      same.collector same.limit same.rule same.resolver same.dropping takes (on_ok _ c.gather.result (ok_is_none _))
      (c.gather.ensures.gathered (record { octets = b.counted.octets; fit = b.counted.fit; one = b.counted.one; few = b.counted.few }))
      (c.gather.ensures.counted (record { octets = b.counted.octets; fit = b.counted.fit; one = b.counted.one; few = b.counted.few }))
      (c.gather.ensures.done k h (turns_for limit 0 [] b.results) was (length b.results) (record { octets = b.counted.octets; fit = b.counted.fit; one = b.counted.one; few = b.counted.few }) b.collector
      (done_counted k h (turns_for limit 0 [] b.results) c.args.self.now.counts c.count_record.new.self (g.A.RouteSource.represents c.args.archive.now) was _ counts.admitted counts.late counts.refused b.done))
      (same.records ∙ counts.records) (same.skipped ∙ counts.skipped);
  inside = c.gather.ensures.inside;
  most = c.gather.ensures.most;
  given_up = λ rule k dropped limit h records was b.
      let counts = c.count_record.ensures in
      let takes = rw c.in-Ok-Some.field-0-is at c.in-Ok-Some.ensures.takes in
      stops_at c.gather.result rule k dropped limit h records c.args.item.now (Ok (Some c.in-Ok-Some.admission)) c.read_next.new.resolver c.read_next.new.dropping c.args.self.now (g.A.RouteSource.represents c.args.archive.now) (g.A.RouteSource.represents c.gather.new.archive) was _ _ b takes (ok_is_none _)
      (c.gather.ensures.given_up k h (turns_for limit 0 [] b.results) was (length b.results) b.collector (record { octets = b.counted.octets; fit = b.counted.fit; one = b.counted.one; few = b.counted.few })
      (done_counted k h (turns_for limit 0 [] b.results) c.args.self.now.counts c.count_record.new.self (g.A.RouteSource.represents c.args.archive.now) was _ counts.admitted counts.late counts.refused b.done));
}

pub returns-in-Ok-None : goal.returns-in-Ok-None
returns-in-Ok-None g c = record {
  beyond = λ rule k dropped limit h records was b.
      let r = reported c.args.item.now in
      let counts = c.count_record.ensures in
      let takes = rw c.in-Ok-None.field-0-is at c.in-Ok-None.ensures.takes in
      after_more rule k dropped limit h records r (Ok None) c.read_next.new.resolver c.read_next.new.dropping c.args.self.now _ (g.A.RouteSource.represents c.args.archive.now) (g.A.RouteSource.represents c.args.archive.now) was _ _ b
      refl refl refl refl refl takes (ok_is_none None)
      refl (record { octets = b.counted.octets; fit = b.counted.fit; one = b.counted.one; few = b.counted.few })
      (done_no_more k h (turns_for limit 0 [] b.results) c.count_record.new.self (g.A.RouteSource.represents c.args.archive.now) was _
      (done_counted k h (turns_for limit 0 [] b.results) c.args.self.now.counts c.count_record.new.self (g.A.RouteSource.represents c.args.archive.now) was _ counts.admitted counts.late counts.refused b.done))
      counts.records counts.skipped;
  inside = λ e. absurd cc;
  most = refl;
  given_up = λ rule k dropped limit h records was b. tt;
}

pub returns-in-Err : goal.returns-in-Err
returns-in-Err g c = record {
  beyond = λ rule k dropped limit h records was b.
      let r = reported c.args.item.now in
      let same = c.refuse.ensures.same in
      let counts = c.count_record.ensures in
      after_where c.refuse.result rule k dropped limit h records r (Err c.in-Err.fault) c.read_next.new.resolver c.read_next.new.dropping c.args.self.now c.refuse.new.self (g.A.RouteSource.represents c.args.archive.now) (g.A.RouteSource.represents c.args.archive.now) was _ _ b
      same.collector same.limit same.rule same.resolver same.dropping c.in-Err.ensures.takes (remembered c.refuse.result c.in-Err.fault c.refuse.ensures.remembered)
      (on_ok _ c.refuse.result c.refuse.ensures.gathered)
      (on_ok _ c.refuse.result (refused_counted c.args.self.now c.refuse.new.self c.refuse.ensures.octets c.refuse.ensures.gathered same.limit b.counted))
      (on_ok_more _ _ c.refuse.result (both_ok _ _ c.refuse.result c.refuse.ensures.counted c.refuse.ensures.reported)
      (λ both. done_refuse k h (turns_for limit 0 [] b.results) c.args.self.now.counts c.refuse.new.self.counts (g.A.RouteSource.represents c.args.archive.now) was _ _ c.args.self.now.counts.records (length b.results) c.in-Err.fault
      (place_of rule k dropped limit h records c.args.self.now (g.A.RouteSource.represents c.args.archive.now) was _ b) both.1 (c.refuse.ensures.admitted ∙ counts.admitted) (c.refuse.ensures.late ∙ counts.late) (both.0 ∙ ap (λ (n : ℕ). capped (n + 1)) counts.refused) b.done))
      (same.records ∙ counts.records) (same.skipped ∙ counts.skipped);
  most = refl;
  inside = λ e. never_outside c.refuse.result c.refuse.ensures.lacking e;
  given_up = λ rule k dropped limit h records was b.
      stops_before c.refuse.result rule k dropped limit h records c.args.item.now c.args.self.now (g.A.RouteSource.represents c.args.archive.now) (g.A.RouteSource.represents c.args.archive.now) was _ _ b
      (gives_out_of_memory c.refuse.result k h (turns_for limit 0 [] b.results) c.args.self.now.counts (g.A.RouteSource.represents c.args.archive.now) was _ _ c.refuse.ensures.lacking c.refuse.ensures.unreported b.done);
}
