-- What a load leaves in an archive, if all that the archive represents has another property: that the disks which it returned keep it.
use Rattle.std.proofs.Common.{inl, inr, Bool, ℕ, List, Option, None, Some}
use Rattle.resolve.specs.declared.without_hop.WithoutHop.{WithoutHop}
use Rattle.route_meaning.specs.History.{History}
use Rattle.service.specs.Represented.{Represented}
use Rattle.service.specs.Feeds.{Sums, limits_for}
use Rattle.service.specs.FileLoads.{AreLoaded, FileState, IsFileEnd, IsLoadedTo, mark_unless, with_mark_at}
use Rattle.service.specs.FeedTexts.{intake_in}
use Rattle.service.specs.Loads.{IsFailedLoad, IsGivenUpLoad, IsLoaded, IsLoadEnd, IsMarkedBack, IsRefusedLoad, IsUnloaded}
use Rattle.service.specs.Outputs.{OutputState}
use Rattle.service.specs.Resuming.{dropped_where}
use Rattle.service.specs.Running.{AreFilesLoaded, settings_of}
use Rattle.service.specs.declared.faults.FeedCut.{FeedCut}
use Rattle.service.specs.declared.faults.LoadStop.{LoadStop}
use Rattle.service.specs.declared.faults.LoadStop.TheVariants as stops
use Rattle.service.specs.declared.invocation.Loading.{Loading}
use Rattle.service.specs.declared.limits.BatchLimits.{BatchLimits}
use Rattle.service.specs.declared.settings.LoadSettings.{LoadSettings}
use Rattle.service.specs.declared.status.Status.{Status}
use Rattle.service.specs.declared.status.Status.TheVariants as statuses

module _ (P Q : Represented) (so : (g : History) → P g → Q g) where
  loaded_so : (rule : WithoutHop) (c dropped : ℕ) (limit : BatchLimits) (mark : Option ℕ) (h : History) (bytes : List ℕ) (cut : Option FeedCut) (sums : Sums) (was now : OutputState)
      → IsLoaded rule c dropped limit mark h bytes cut sums P was now → IsLoaded rule c dropped limit mark h bytes cut sums Q was now
  loaded_so rule c dropped limit mark h bytes cut sums was now l = record {
    rest = l.rest;
    records = l.records;
    results = l.results;
    feed = l.feed;
    cut_is = l.cut_is;
    applied = record { now = l.applied.now; intakes_are = l.applied.intakes_are; idle = l.applied.idle; represented = so l.applied.now l.applied.represented };
    wrote = l.wrote;
    summed = l.summed;
  }

  given_up_so : (rule : WithoutHop) (c dropped : ℕ) (limit : BatchLimits) (h : History) (bytes : List ℕ) (sums : Sums) (lost_was lost : Bool) (was now : OutputState)
      → IsGivenUpLoad rule c dropped limit h bytes sums lost_was lost P was now → IsGivenUpLoad rule c dropped limit h bytes sums lost_was lost Q was now
  given_up_so rule c dropped limit h bytes sums lost_was lost was now l = record {
    why = l.why;
    outside = l.outside;
    inside = l.inside;
    between = l.between;
    given_up = l.given_up;
    applied = record { now = l.applied.now; intakes_are = l.applied.intakes_are; idle = l.applied.idle; represented = so l.applied.now l.applied.represented };
    wrote = l.wrote;
  }

  marked_back_so : (rule : WithoutHop) (c dropped : ℕ) (limit : BatchLimits) (mark : Option ℕ) (h : History) (bytes : List ℕ) (sums : Sums) (was now : OutputState)
      → IsMarkedBack rule c dropped limit mark h bytes sums P was now → IsMarkedBack rule c dropped limit mark h bytes sums Q was now
  marked_back_so rule c dropped limit mark h bytes sums was now l = record {
    lower = l.lower;
    asked = l.asked;
    records = l.records;
    results = l.results;
    feed = l.feed;
    above = l.above;
    wrote = l.wrote;
    summed = l.summed;
    represented = record { now = l.represented.now; are = l.represented.are; represented = so l.represented.now l.represented.represented };
  }

  unloaded_so : (rule : WithoutHop) (c dropped : ℕ) (limit : BatchLimits) (mark : Option ℕ) (h : History) (bytes : List ℕ) (sums : Sums) (lost_was lost : Bool) (was now : OutputState) (why : LoadStop)
      → IsUnloaded rule c dropped limit mark h bytes sums lost_was lost P was now why → IsUnloaded rule c dropped limit mark h bytes sums lost_was lost Q was now why
  unloaded_so rule c dropped limit mark h bytes sums lost_was lost was now stops.NoCollector u = (u.0, so h u.1, u.2, u.3, u.4)
  unloaded_so rule c dropped limit mark h bytes sums lost_was lost was now stops.MarkBack u = (marked_back_so rule c dropped limit mark h bytes sums was now u.0, u.1)
  unloaded_so rule c dropped limit mark h bytes sums lost_was lost was now (stops.Trouble trouble) u = (u.0, u.1, u.2, so u.2 u.3, u.4)

  refused_so : (rule : WithoutHop) (c dropped : ℕ) (limit : BatchLimits) (mark : Option ℕ) (h : History) (bytes : List ℕ) (sums : Sums) (lost_was lost : Bool) (was now err_was err_now : OutputState)
      → IsRefusedLoad rule c dropped limit mark h bytes sums lost_was lost P was now err_was err_now → IsRefusedLoad rule c dropped limit mark h bytes sums lost_was lost Q was now err_was err_now
  refused_so rule c dropped limit mark h bytes sums lost_was lost was now err_was err_now (inl l) = inl (l.0, loaded_so rule c dropped limit None h bytes (Some l.0) sums was now l.1, l.2, l.3)
  refused_so rule c dropped limit mark h bytes sums lost_was lost was now err_was err_now (inr (inl l)) = inr (inl (given_up_so rule c dropped limit h bytes sums lost_was lost was now l.0, l.1))
  refused_so rule c dropped limit mark h bytes sums lost_was lost was now err_was err_now (inr (inr l)) = inr (inr (l.0, unloaded_so rule c dropped limit mark h bytes sums lost_was lost was now l.0 l.1, l.2))

  failed_so : (rule : WithoutHop) (c dropped : ℕ) (limit : BatchLimits) (mark : Option ℕ) (h : History) (bytes : List ℕ) (sums : Sums) (lost_was lost : Bool) (was now err_was err_now : OutputState)
      → IsFailedLoad rule c dropped limit mark h bytes sums lost_was lost P was now err_was err_now → IsFailedLoad rule c dropped limit mark h bytes sums lost_was lost Q was now err_was err_now
  failed_so rule c dropped limit mark h bytes sums lost_was lost was now err_was err_now (inl l) = inl (l.0, l.1, so l.1 l.2, l.3, l.4, l.5, l.6)
  failed_so rule c dropped limit mark h bytes sums lost_was lost was now err_was err_now (inr l) = inr (l.0, unloaded_so rule c dropped limit mark h bytes sums lost_was lost was now l.0 l.1, l.2)

  ended_so : (rule : WithoutHop) (c dropped : ℕ) (limit : BatchLimits) (mark : Option ℕ) (h : History) (bytes : List ℕ) (sums : Sums) (lost_was lost : Bool) (status : Status) (was now err_was err_now : OutputState)
      → IsLoadEnd rule c dropped limit mark h bytes sums lost_was lost status P was now err_was err_now → IsLoadEnd rule c dropped limit mark h bytes sums lost_was lost status Q was now err_was err_now
  ended_so rule c dropped limit mark h bytes sums lost_was lost statuses.Done was now err_was err_now e = (e.0, loaded_so rule c dropped limit mark h bytes None sums was now e.1, e.2, e.3, e.4, e.5)
  ended_so rule c dropped limit mark h bytes sums lost_was lost statuses.Refused was now err_was err_now e = (refused_so rule c dropped limit mark h bytes sums lost_was lost was now err_was err_now e.0, e.1, e.2)
  ended_so rule c dropped limit mark h bytes sums lost_was lost statuses.Failed was now err_was err_now e = (failed_so rule c dropped limit mark h bytes sums lost_was lost was now err_was err_now e.0, e.1)

  file_so : (how : LoadSettings) (most dropped left : ℕ) (h : History) (bytes : List ℕ) (file file_now : FileState) (status : Status) (was now err_was err_now : OutputState)
      → IsFileEnd how most dropped left h bytes file.input.failed file_now.input.failed status file_now.report P was now err_was err_now → IsFileEnd how most dropped left h bytes file.input.failed file_now.input.failed status file_now.report Q was now err_was err_now
  file_so how most dropped left h bytes file file_now status was now err_was err_now e = record {
    sums = e.sums;
    drops = e.drops;
    reported = e.reported;
    plain = e.plain;
    status_is = e.status_is;
    ended = ended_so how.feed.rule how.feed.collector dropped (limits_for how.feed most) (mark_unless file_now.report.is_held how.mark) h bytes e.sums file.input.failed file_now.input.failed e.plain was now err_was err_now e.ended;
  }

  to_so : (how : LoadSettings) (most dropped : ℕ) (h : History) (files files_now : List FileState) (status : Status) (was now err_was err_now : OutputState)
      → IsLoadedTo how most dropped h files files_now status P was now err_was err_now → IsLoadedTo how most dropped h files files_now status Q was now err_was err_now
  to_so how most dropped h files files_now status was now err_was err_now l = record {
    front = l.front;
    front_now = l.front_now;
    file = l.file;
    file_now = l.file_now;
    later = l.later;
    parts = l.parts;
    parts_now = l.parts_now;
    left = l.left;
    left_now = l.left_now;
    next = l.next;
    between = l.between;
    whole = l.whole;
    bytes = l.bytes;
    given = l.given;
    ended = file_so (with_mark_at l.later how) most l.left l.left_now l.next l.bytes l.file l.file_now status l.between now err_was err_now l.ended;
    last = l.last;
  }

  all_so : (how : LoadSettings) (most : ℕ) (h : History) (files files_now : List FileState) (status : Status) (was now err_was err_now : OutputState)
      → AreLoaded how most h files files_now status P was now err_was err_now → AreLoaded how most h files files_now status Q was now err_was err_now
  all_so how most h files files_now status was now err_was err_now (inl none) = inl (none.0, none.1, so h none.2, none.3, none.4)
  all_so how most h files files_now status was now err_was err_now (inr l) = inr (to_so how most (dropped_where how.resume (intake_in h.intakes how.feed.collector)) h files files_now status was now err_was err_now l)

  -- a load of files
  pub files_so : (asked : Loading) (most : ℕ) (h : History) (files files_now : List FileState) (code : ℕ) (was now err_was err_now : OutputState)
      → AreFilesLoaded asked most h files files_now code P was now err_was err_now → AreFilesLoaded asked most h files files_now code Q was now err_was err_now
  files_so asked most h files files_now code was now err_was err_now l = record {
    loaded = l.loaded;
    loaded_to = l.loaded_to;
    loaded_err = l.loaded_err;
    load = all_so (settings_of asked) most h files files_now l.loaded was l.loaded_to err_was l.loaded_err l.load;
    written = l.written;
  }
