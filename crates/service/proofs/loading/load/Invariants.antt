use Rattle.std.proofs.Common.{◌≡◌, ◌<◌, length, map}
use Rattle.route_meaning.specs.History.{History}
use Rattle.service.specs.FeedTexts.{intake_in}
use Rattle.service.specs.Resuming.{dropped_where}
use Rattle.service.proofs.Files.{IsAt}
use Rattle.service.proofs.loading.load.Given as goal

abbrev pub invariant-loop-place : goal.invariant-loop-place
invariant-loop-place g l = record {
  goes : 0 < length l.initial.files → l.place < length l.initial.files;
  as_many : length l.files ≡ length l.initial.files;
  reads : map (λ f. f.input.failed) l.files ≡ map (λ f. f.input.failed) l.initial.files;
  most : g.A.RouteArchive.most l.archive ≡ g.A.RouteArchive.most l.initial.archive;
  stands : (h : History) → g.A.RouteSource.represents l.initial.archive h
      → IsAt l.how (g.A.RouteArchive.most l.initial.archive) (dropped_where l.how.resume (intake_in h.intakes l.how.feed.collector)) l.dropping h (map (λ f. record { input = f.input; report = f.report }) l.initial.files) (map (λ f. record { input = f.input; report = f.report }) l.files) l.place
      (g.A.RouteSource.represents l.archive) l.initial.out l.out l.initial.err l.err;
}
