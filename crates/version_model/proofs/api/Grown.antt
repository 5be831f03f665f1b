-- What stood stands with more settled blocks.
use Rattle.std.proofs.Common.{ℕ, ◌≤◌, inl, inr, List, Option, arith}
use Rattle.version_model.specs.declared.part.Part.{Part}
use Rattle.version_model.specs.Versions.{Version}
use Rattle.version_model.specs.Blocks.{BlockNode, Grows}
use Rattle.version_model.specs.Pages.{Keys, PageNode, PartsRepresent, NodeRepresents, column, key_node}
use Rattle.version_model.proofs.api.PastKept.{PartRepresents-grows}

module _ (old new : ℕ → Option BlockNode) (next next' : ℕ) (all : List Version) (grows : Grows old new) (further : next ≤ next') where
  pub PartsRepresent-grows : (keys : Keys) (start : ℕ) (parts : List Part) → PartsRepresent old next all keys start parts → PartsRepresent new next' all keys start parts
  PartsRepresent-grows keys start parts past = record {
    are_parts = elim past.are_parts [
      | inl none ↦ inl none
      | inr are ↦ inr (record { first = are.first; at_first = are.at_first; from_start = are.from_start; lower = λ i part at. omega (arith, are.lower i part at, further); inside = are.inside })
    ];
    stand = λ s part is. PartRepresents-grows old new all grows s part (past.stand s part is);
  }

  pub NodeRepresents-grows : (nodes : ℕ → Option PageNode) (limit level : ℕ) (keys : Keys) (page : ℕ) → NodeRepresents nodes limit old next all level keys page → NodeRepresents nodes limit new next' all level keys page
  NodeRepresents-grows nodes limit _ _ _ (column keys page c) = column keys page (record {
    parts = c.parts;
    current = c.current;
    start = c.start;
    versions = c.versions;
    in_limit = c.in_limit;
    at = c.at;
    current_in_limit = c.current_in_limit;
    at_current = c.at_current;
    shows = c.shows;
    past = PartsRepresent-grows keys c.start c.parts c.past;
    started = c.started;
  })
  NodeRepresents-grows nodes limit _ _ _ (key_node level keys page children in_limit at are stand) = key_node level keys page children in_limit at are (λ inner child is. NodeRepresents-grows nodes limit level inner child.page (stand inner child is))
