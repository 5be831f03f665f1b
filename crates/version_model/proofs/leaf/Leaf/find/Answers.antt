use Rattle.std.proofs.Common.{◌≡◌, ◌∙◌, ap, None, ℕ, Vec, Global}
use Rattle.std.specs.Option.{option_map}
use Rattle.version_model.specs.Versions.{Version}
use Rattle.version_model.specs.Entries.{version_of, versions_of}
use Rattle.version_model.proofs.api.AsOfs.{answer_of}
use Rattle.version_model.proofs.Entries.{is_entry}
use Rattle.version_model.proofs.leaf.Leaf.find.Goals as goal

pub returns-in-None : goal.returns-in-None
returns-in-None c =
    let found = rw c.deref.ensures.value at c.in-Some.ensures in
    let e = c.index-entry.result.now in
    let is : found.0 ≡ version_of e = is_entry c.self.inside.entries.items c.in-Some.i e found.0 c.index-entry.ensures found.1 in
    record {
      answers = rw (← c.self.view_is) (answer_of (versions_of c.self.inside.entries.items) c.args.key c.args.stamp found.0 None c.self.invariant found.2
          (ap (λ (v : Version). v.value) is ∙ ap (option_map (λ (v : Vec ℕ Global). v.items)) c.in-None.is));
    }
