-- A tree that stands has its root among its own pages, and among those that were used.
use Rattle.std.proofs.Common.{◌≡◌, ◌<◌, ℕ, suc, List, length, Some, inl, inr, sym, ◌∙◌, arith}
use Rattle.std.proofs.lemmas.Bool.{cases_lt}
use Rattle.std.proofs.lemmas.Option.{slice_get_within}
use Rattle.disk_models.specs.Once.{OnceState, settled_in}
use Rattle.route_meaning.specs.History.{History}
use Rattle.version_model.specs.Versions.{Version}
use Rattle.version_model.specs.Pages.{PageNode, Keys, Store, NodeRepresentsIn, all_keys, ColumnNode, KeyNode, column, key_node}
use Rattle.archive_head.specs.Head.{Contents}
use Rattle.archive_pages.specs.declared.settings.Settings.{Settings}
use Rattle.archive_pages.specs.Represented.{HeadRepresents}
use Rattle.archive_pages.specs.Places.{tree_low}
use Rattle.disk_archive.specs.Trees.{TreeLocated}
use Rattle.disk_archive.specs.inner.Recalling.{HasRoot}
use Rattle.disk_archive.proofs.api.Trees.{not_own}

-- the page says something, and is one of those in use
pub record IsUsed (s : Store) (page : ℕ) : Type 0 where
  pub node : PageNode
  pub here : s.nodes page ≡ Some node
  pub used : page < s.limit

used_by : (s : Store) (all : List Version) (level : ℕ) (keys : Keys) (page : ℕ) → NodeRepresentsIn s all level keys page → IsUsed s page
used_by s all _ _ _ (column keys page c) = record { node = ColumnNode keys c.parts c.start c.current; here = c.at; used = c.in_limit }
used_by s all _ _ _ (key_node level keys page children in_limit at are stand) = record { node = KeyNode (suc level) keys children; here = at; used = in_limit }

pub rooted : (count : ℕ) (s : Settings) (o : OnceState) (head : Contents) (shown : List (List ℕ)) (h : History) → HeadRepresents (TreeLocated count) s (settled_in o) head shown h → HasRoot (length shown) s head
rooted count s o head shown h b =
    let t = b.tree in
    let u = used_by t.store b.versions t.level all_keys head.root t.has.represents_all.represents_all in
    let represents_node = t.represents_node head.root u.node u.here in
    record {
      low = elim (cases_lt head.root (tree_low s)) [ inl lt ↦ absurd (not_own u.node (sym (t.own head.root lt) ∙ u.here)) | inr ge ↦ ge ];
      used = (let limit = t.limit in let used = u.used in omega (arith, limit, used));
      inside = slice_get_within shown head.root represents_node.octets represents_node.at;
    }
