-- What a check returns of a tree.
use Rattle.std.proofs.Common.{◌≡◌, ℕ, ◌⊎◌, inl, inr, List, [], ◌∷◌, Option, length, sym, ◌∙◌, ap, subst, Result, Ok, Err, IfOk}
use Rattle.version_model.specs.Versions.{Version}
use Rattle.version_model.specs.Pages.{Keys, Store, NodeRepresentsIn, TreeRepresents, all_keys}
use Rattle.tsb_walk.specs.declared.error.NodeError.{NodeError}
use Rattle.tsb_walk.specs.declared.page_place.PagePlace.{PagePlace}
use Rattle.tsb_walk.specs.Knowing.{AreKnown}
use Rattle.tsb_walk.specs.Shown.{RepresentNodes, keys_at}
use Rattle.tsb_check.specs.Counted.{reported}
use Rattle.tsb_check.specs.Pages.{ReportsTree, IsUnknownUnder}
use Rattle.tsb_check.proofs.Representing.{tree_reported, none_unknown_under}

if_ok : (r : Result ℕ NodeError) (P Q : ℕ → Type 0) → ((n : ℕ) → P n → Q n) → IfOk r P → IfOk r Q
if_ok (Ok n) P Q to is = to n is
if_ok (Err e) P Q to is = is

module _ (shown : List (List ℕ)) (s : Store) (all : List Version) (are_shown : RepresentNodes shown s.nodes) (known : ℕ → Option (List ℕ)) (count : ℕ) (are : AreKnown known count s.blocks) (root : PagePlace) where
  pub root_represents : keys_at root ≡ all_keys → TreeRepresents s all root.page root.level → NodeRepresentsIn s all root.level (keys_at root) root.page
  root_represents keys tree = subst (λ (k : Keys). NodeRepresentsIn s all root.level k root.page) (sym keys) tree.represents_all

  total_is : keys_at root ≡ all_keys → TreeRepresents s all root.page root.level → (n : ℕ) → ReportsTree shown known count (root ∷ []) n ⊎ IsUnknownUnder shown known count (root ∷ []) → n ≡ reported (length all)
  total_is keys tree n (inl reports) = reports.is ∙ ap reported (tree_reported shown s all are_shown known count are root reports.total keys tree reports.counted)
  total_is keys tree n (inr lost) = absurd (none_unknown_under shown s all are_shown known count are (root ∷ []) lost (root_represents keys tree, tt))

  pub all_counted : keys_at root ≡ all_keys → TreeRepresents s all root.page root.level → (r : Result ℕ NodeError) → IfOk r (λ n. ReportsTree shown known count (root ∷ []) n ⊎ IsUnknownUnder shown known count (root ∷ [])) → IfOk r (λ n. n ≡ reported (length all))
  all_counted keys tree r is = if_ok r (λ n. ReportsTree shown known count (root ∷ []) n ⊎ IsUnknownUnder shown known count (root ∷ [])) (λ n. n ≡ reported (length all)) (total_is keys tree) is
