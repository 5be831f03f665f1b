use Rattle.std.proofs.Common.{map, subst}
use Rattle.service.specs.FileLoads.{AreLoaded}
use Rattle.service.specs.declared.settings.LoadSettings.{LoadSettings}
use Rattle.service.proofs.Statuses.{done_where_0}
use Rattle.service.proofs.running.load_files.Goals as goal

pub returns : goal.returns
returns g c =
    let written = c.finish.ensures.written in
    record {
      ended = λ h represented. record {
        loaded = c.load-loaded.result;
        loaded_to = c.load-loaded.new.out;
        loaded_err = c.load-loaded.new.err;
        load =
            subst (λ (how : LoadSettings). AreLoaded how (g.A.RouteArchive.most c.args.archive.now) h (map (λ f. record { input = f.input; report = f.report }) c.args.files.now) (map (λ f. record { input = f.input; report = f.report }) c.load-loaded.new.files) c.load-loaded.result (g.A.RouteSource.represents c.load-loaded.new.archive) c.args.out.now c.load-loaded.new.out c.args.err.now c.load-loaded.new.err)
            c.settings_of.ensures.settings (c.load-loaded.ensures.ended h represented);
        written = written;
      };
      sound = λ none. c.load-loaded.ensures.sound (done_where_0 _ _ _ _ _ _ written none);
    }
