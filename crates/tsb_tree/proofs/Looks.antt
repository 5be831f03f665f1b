-- Lookups in a tree, by what its pages show.
use Rattle.std.proofs.Common.{◌≡◌, ℕ, List, Option, Result, Ok, Err, IfOk, IfErr, Bool, refl, sym, subst}
use Rattle.page_tx.specs.declared.pages.Pages.{Ghosts}
use Rattle.route_history.specs.Blame.{BlamesNone}
use Rattle.tsb_walk.specs.declared.error.NodeError.{NodeError}
use Rattle.tsb_walk.specs.declared.error.NodeError.TheVariants as walks
use Rattle.tsb_walk.specs.declared.page_place.PagePlace.{PagePlace}
use Rattle.tsb_walk.specs.Refusals.{LookRefusal}
use Rattle.tsb_walk.specs.Shown.{RepresentsShown, keys_at}
use Rattle.version_model.specs.Blocks.{BlockNode}
use Rattle.version_model.specs.Pages.{Keys, Store, NodeRepresentsIn, all_keys}
use Rattle.version_model.specs.Versions.{Version}
use Rattle.tsb_tree.specs.Opened.{RepresentsVersions}

module _ {P : Type 0} (pages : Ghosts P) (held : P) (root level : ℕ) where
  -- what is in use by the tree that is shown
  abbrev pub store_of : (blocks : ℕ → Option BlockNode) (all : List Version) → RepresentsVersions pages held blocks all root level → Store
  store_of blocks all v = record { nodes = v.nodes; limit = v.limit; blocks = blocks; next = v.next }

  -- the tree stands at the place of its root
  pub at_root : (place : PagePlace) → place.page ≡ root → place.level ≡ level → keys_at place ≡ all_keys → (blocks : ℕ → Option BlockNode) (all : List Version) (v : RepresentsVersions pages held blocks all root level) → RepresentsShown v.shown (store_of blocks all v) all place
  at_root place page_is level_is keys_are blocks all v =
      let s = store_of blocks all v in
      record {
        are_shown = v.reports;
        represents_all = subst (λ (p : ℕ). NodeRepresentsIn s all place.level (keys_at place) p) (sym page_is)
            (subst (λ (k : Keys). NodeRepresentsIn s all place.level k root) (sym keys_are) (subst (λ (l : ℕ). NodeRepresentsIn s all l all_keys root) (sym level_is) v.tree.represents_all));
      }

  -- what an answer is for each such tree, it is for all of them
  pub ok_all : {A : Type 0} (Q : (ℕ → Option BlockNode) → List Version → A → Type 0) (r : Result A NodeError)
      → ((blocks : ℕ → Option BlockNode) (all : List Version) → RepresentsVersions pages held blocks all root level → IfOk r (Q blocks all))
      → IfOk r (λ a. (blocks : ℕ → Option BlockNode) (all : List Version) → RepresentsVersions pages held blocks all root level → Q blocks all a)
  ok_all Q (Ok a) h = h
  ok_all Q (Err e) h = tt

  -- where no page is reported as bad, nothing is blamed
  pub err_none : {A : Type 0} (r : Result A NodeError) (down : Bool) → IfErr r (LookRefusal down)
      → ((blocks : ℕ → Option BlockNode) (all : List Version) → RepresentsVersions pages held blocks all root level → (page : ℕ) → r ≡ Err (walks.BadNode page) → ⊥)
      → IfErr r (λ refusal. (blocks : ℕ → Option BlockNode) (all : List Version) → RepresentsVersions pages held blocks all root level → BlamesNone refusal)
  err_none (Ok a) down refused h = tt
  err_none (Err (walks.BadNode page)) down refused h = λ blocks all v. h blocks all v page refl
  err_none (Err (walks.Damaged block)) down refused h = absurd refused
  err_none (Err walks.Fault) down refused h = λ blocks all v. tt
  err_none (Err walks.OnceFault) down refused h = λ blocks all v. tt
  err_none (Err walks.NeedsRecovery) down refused h = λ blocks all v. tt
  err_none (Err walks.OutOfMemory) down refused h = λ blocks all v. tt
