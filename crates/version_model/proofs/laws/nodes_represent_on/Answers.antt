use Rattle.version_model.proofs.api.Grown.{NodeRepresents-grows}
use Rattle.version_model.proofs.api.TreeKept.{represents_kept}
use Rattle.version_model.proofs.laws.nodes_represent_on.Goals as goal

pub returns : goal.returns
returns c = record {
  grows = λ nodes limit old new next further all level keys page grows more. NodeRepresents-grows old new next further all grows more nodes limit level keys page;
  elsewhere = λ s t all new v level keys page adds above grows next_grows limit_grows nonempty away same.
      represents_kept s.nodes t.nodes s.limit t.limit s.blocks t.blocks s.next t.next all new v
      (record { adds = adds; above = above; grows = grows; next_grows = next_grows; limit_grows = limit_grows }) level keys page nonempty away same;
}
