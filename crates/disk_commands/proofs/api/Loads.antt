-- What a load leaves is one history: how it ended is so of an archive that represents this one alone.
use Rattle.std.proofs.Common.{◌≡◌, inl, inr, refl, Bool, ℕ, List, Option, None, Some}
use Rattle.resolve.specs.declared.without_hop.WithoutHop.{WithoutHop}
use Rattle.route_meaning.specs.History.{History}
use Rattle.service.specs.Represented.{Represented}
use Rattle.service.specs.Feeds.{Sums, limits_for}
use Rattle.service.specs.FileLoads.{AreLoaded, FileState, IsFileEnd, IsLoadedTo, mark_unless, with_mark_at}
use Rattle.service.specs.FeedTexts.{intake_in}
use Rattle.service.specs.Loads.{IsFailedLoad, IsGivenUpLoad, IsLoaded, IsLoadEnd, IsMarkedBack, IsRefusedLoad, IsUnloaded}
use Rattle.service.specs.Outputs.{OutputState}
use Rattle.service.specs.Resuming.{dropped_where}
use Rattle.service.specs.Running.{AreFilesLoaded, settings_of}
use Rattle.service.specs.declared.faults.FeedCut.{FeedCut}
use Rattle.service.specs.declared.faults.LoadStop.{LoadStop}
use Rattle.service.specs.declared.faults.LoadStop.TheVariants as stops
use Rattle.service.specs.declared.invocation.Loading.{Loading}
use Rattle.service.specs.declared.limits.BatchLimits.{BatchLimits}
use Rattle.service.specs.declared.settings.LoadSettings.{LoadSettings}
use Rattle.service.specs.declared.status.Status.{Status}
use Rattle.service.specs.declared.status.Status.TheVariants as statuses

-- a history is left that is represented, and of which this is so alone
abbrev pub Leaves : Represented → (Represented → Type 0) → Type 0
Leaves P R = (g : History) × P g × R (λ k. k ≡ g)

module _ (P : Represented) where
  loaded_at : (rule : WithoutHop) (c dropped : ℕ) (limit : BatchLimits) (mark : Option ℕ) (h : History) (bytes : List ℕ) (cut : Option FeedCut) (sums : Sums) (was now : OutputState)
      → IsLoaded rule c dropped limit mark h bytes cut sums P was now → Leaves P (λ Q. IsLoaded rule c dropped limit mark h bytes cut sums Q was now)
  loaded_at rule c dropped limit mark h bytes cut sums was now l = (
    l.applied.now,
    l.applied.represented,
    record {
      rest = l.rest;
      records = l.records;
      results = l.results;
      feed = l.feed;
      cut_is = l.cut_is;
      applied = record { now = l.applied.now; intakes_are = l.applied.intakes_are; idle = l.applied.idle; represented = refl };
      wrote = l.wrote;
      summed = l.summed;
    },
  )

  given_up_at : (rule : WithoutHop) (c dropped : ℕ) (limit : BatchLimits) (h : History) (bytes : List ℕ) (sums : Sums) (lost_was lost : Bool) (was now : OutputState)
      → IsGivenUpLoad rule c dropped limit h bytes sums lost_was lost P was now → Leaves P (λ Q. IsGivenUpLoad rule c dropped limit h bytes sums lost_was lost Q was now)
  given_up_at rule c dropped limit h bytes sums lost_was lost was now l = (
    l.applied.now,
    l.applied.represented,
    record {
      why = l.why;
      outside = l.outside;
      inside = l.inside;
      between = l.between;
      given_up = l.given_up;
      applied = record { now = l.applied.now; intakes_are = l.applied.intakes_are; idle = l.applied.idle; represented = refl };
      wrote = l.wrote;
    },
  )

  marked_back_at : (rule : WithoutHop) (c dropped : ℕ) (limit : BatchLimits) (mark : Option ℕ) (h : History) (bytes : List ℕ) (sums : Sums) (was now : OutputState)
      → IsMarkedBack rule c dropped limit mark h bytes sums P was now → Leaves P (λ Q. IsMarkedBack rule c dropped limit mark h bytes sums Q was now)
  marked_back_at rule c dropped limit mark h bytes sums was now l = (
    l.represented.now,
    l.represented.represented,
    record {
      lower = l.lower;
      asked = l.asked;
      records = l.records;
      results = l.results;
      feed = l.feed;
      above = l.above;
      wrote = l.wrote;
      summed = l.summed;
      represented = record { now = l.represented.now; are = l.represented.are; represented = refl };
    },
  )

  unloaded_at : (rule : WithoutHop) (c dropped : ℕ) (limit : BatchLimits) (mark : Option ℕ) (h : History) (bytes : List ℕ) (sums : Sums) (lost_was lost : Bool) (was now : OutputState) (why : LoadStop)
      → IsUnloaded rule c dropped limit mark h bytes sums lost_was lost P was now why → Leaves P (λ Q. IsUnloaded rule c dropped limit mark h bytes sums lost_was lost Q was now why)
  unloaded_at rule c dropped limit mark h bytes sums lost_was lost was now stops.NoCollector u = (h, u.1, (u.0, refl, u.2, u.3, u.4))
  unloaded_at rule c dropped limit mark h bytes sums lost_was lost was now stops.MarkBack u = let a = marked_back_at rule c dropped limit mark h bytes sums was now u.0 in (a.0, a.1, (a.2, u.1))
  unloaded_at rule c dropped limit mark h bytes sums lost_was lost was now (stops.Trouble trouble) u = (u.2, u.3, (u.0, u.1, u.2, refl, u.4))

  refused_at : (rule : WithoutHop) (c dropped : ℕ) (limit : BatchLimits) (mark : Option ℕ) (h : History) (bytes : List ℕ) (sums : Sums) (lost_was lost : Bool) (was now err_was err_now : OutputState)
      → IsRefusedLoad rule c dropped limit mark h bytes sums lost_was lost P was now err_was err_now → Leaves P (λ Q. IsRefusedLoad rule c dropped limit mark h bytes sums lost_was lost Q was now err_was err_now)
  refused_at rule c dropped limit mark h bytes sums lost_was lost was now err_was err_now (inl l) = let a = loaded_at rule c dropped limit None h bytes (Some l.0) sums was now l.1 in (a.0, a.1, inl (l.0, a.2, l.2, l.3))
  refused_at rule c dropped limit mark h bytes sums lost_was lost was now err_was err_now (inr (inl l)) = let a = given_up_at rule c dropped limit h bytes sums lost_was lost was now l.0 in (a.0, a.1, inr (inl (a.2, l.1)))
  refused_at rule c dropped limit mark h bytes sums lost_was lost was now err_was err_now (inr (inr l)) = let a = unloaded_at rule c dropped limit mark h bytes sums lost_was lost was now l.0 l.1 in (a.0, a.1, inr (inr (l.0, a.2, l.2)))

  failed_at : (rule : WithoutHop) (c dropped : ℕ) (limit : BatchLimits) (mark : Option ℕ) (h : History) (bytes : List ℕ) (sums : Sums) (lost_was lost : Bool) (was now err_was err_now : OutputState)
      → IsFailedLoad rule c dropped limit mark h bytes sums lost_was lost P was now err_was err_now → Leaves P (λ Q. IsFailedLoad rule c dropped limit mark h bytes sums lost_was lost Q was now err_was err_now)
  failed_at rule c dropped limit mark h bytes sums lost_was lost was now err_was err_now (inl l) = (l.1, l.2, inl (l.0, l.1, refl, l.3, l.4, l.5, l.6))
  failed_at rule c dropped limit mark h bytes sums lost_was lost was now err_was err_now (inr l) = let a = unloaded_at rule c dropped limit mark h bytes sums lost_was lost was now l.0 l.1 in (a.0, a.1, inr (l.0, a.2, l.2))

  ended_at : (rule : WithoutHop) (c dropped : ℕ) (limit : BatchLimits) (mark : Option ℕ) (h : History) (bytes : List ℕ) (sums : Sums) (lost_was lost : Bool) (status : Status) (was now err_was err_now : OutputState)
      → IsLoadEnd rule c dropped limit mark h bytes sums lost_was lost status P was now err_was err_now → Leaves P (λ Q. IsLoadEnd rule c dropped limit mark h bytes sums lost_was lost status Q was now err_was err_now)
  ended_at rule c dropped limit mark h bytes sums lost_was lost statuses.Done was now err_was err_now e = let a = loaded_at rule c dropped limit mark h bytes None sums was now e.1 in (a.0, a.1, (e.0, a.2, e.2, e.3, e.4, e.5))
  ended_at rule c dropped limit mark h bytes sums lost_was lost statuses.Refused was now err_was err_now e = let a = refused_at rule c dropped limit mark h bytes sums lost_was lost was now err_was err_now e.0 in (a.0, a.1, (a.2, e.1, e.2))
  ended_at rule c dropped limit mark h bytes sums lost_was lost statuses.Failed was now err_was err_now e = let a = failed_at rule c dropped limit mark h bytes sums lost_was lost was now err_was err_now e.0 in (a.0, a.1, (a.2, e.1))

  file_at : (how : LoadSettings) (most dropped left : ℕ) (h : History) (bytes : List ℕ) (file file_now : FileState) (status : Status) (was now err_was err_now : OutputState)
      → IsFileEnd how most dropped left h bytes file.input.failed file_now.input.failed status file_now.report P was now err_was err_now
      → Leaves P (λ Q. IsFileEnd how most dropped left h bytes file.input.failed file_now.input.failed status file_now.report Q was now err_was err_now)
  file_at how most dropped left h bytes file file_now status was now err_was err_now e =
      let a = ended_at how.feed.rule how.feed.collector dropped (limits_for how.feed most) (mark_unless file_now.report.is_held how.mark) h bytes e.sums file.input.failed file_now.input.failed e.plain was now err_was err_now e.ended in
      (a.0, a.1, record { sums = e.sums; drops = e.drops; reported = e.reported; plain = e.plain; status_is = e.status_is; ended = a.2 })

  to_at : (how : LoadSettings) (most dropped : ℕ) (h : History) (files files_now : List FileState) (status : Status) (was now err_was err_now : OutputState)
      → IsLoadedTo how most dropped h files files_now status P was now err_was err_now → Leaves P (λ Q. IsLoadedTo how most dropped h files files_now status Q was now err_was err_now)
  to_at how most dropped h files files_now status was now err_was err_now l =
      let a = file_at (with_mark_at l.later how) most l.left l.left_now l.next l.bytes l.file l.file_now status l.between now err_was err_now l.ended in (
        a.0,
        a.1,
        record {
          front = l.front;
          front_now = l.front_now;
          file = l.file;
          file_now = l.file_now;
          later = l.later;
          parts = l.parts;
          parts_now = l.parts_now;
          left = l.left;
          left_now = l.left_now;
          next = l.next;
          between = l.between;
          whole = l.whole;
          bytes = l.bytes;
          given = l.given;
          ended = a.2;
          last = l.last;
        },
      )

  all_at : (how : LoadSettings) (most : ℕ) (h : History) (files files_now : List FileState) (status : Status) (was now err_was err_now : OutputState)
      → AreLoaded how most h files files_now status P was now err_was err_now → Leaves P (λ Q. AreLoaded how most h files files_now status Q was now err_was err_now)
  all_at how most h files files_now status was now err_was err_now (inl none) = (h, none.2, inl (none.0, none.1, refl, none.3, none.4))
  all_at how most h files files_now status was now err_was err_now (inr l) = let a = to_at how most (dropped_where how.resume (intake_in h.intakes how.feed.collector)) h files files_now status was now err_was err_now l in (a.0, a.1, inr a.2)

  -- a load of files
  pub files_at : (asked : Loading) (most : ℕ) (h : History) (files files_now : List FileState) (code : ℕ) (was now err_was err_now : OutputState)
      → AreFilesLoaded asked most h files files_now code P was now err_was err_now → Leaves P (λ Q. AreFilesLoaded asked most h files files_now code Q was now err_was err_now)
  files_at asked most h files files_now code was now err_was err_now l =
      let a = all_at (settings_of asked) most h files files_now l.loaded was l.loaded_to err_was l.loaded_err l.load in
      (a.0, a.1, record { loaded = l.loaded; loaded_to = l.loaded_to; loaded_err = l.loaded_err; load = a.2; written = l.written })
