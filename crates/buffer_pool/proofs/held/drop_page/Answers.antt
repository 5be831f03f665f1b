use Rattle.std.proofs.Common.{◌≡◌, ◌∙◌, List, ℕ, Contains, None, cond, nat_eq, ap, sym, subst, true≢false, refl}
use Rattle.std.specs.Option.{is_some}
use Rattle.std.specs.Cmp.{nat_eq_equiv}
use Rattle.std.specs.Map.{lookup}
use Rattle.std.proofs.lemmas.Map.{lookup-remove_entry}
use Rattle.lru.specs.LruCache.{LruCache}
use Rattle.lru.proofs.CallerLemmas.{Contains-remove_entry}
use Rattle.buffer_pool.proofs.Holding.{eq_same, found, tests_alike}
use Rattle.buffer_pool.proofs.held.drop_page.Goals as goal

pub returns-clause-dropped : goal.returns-clause-dropped
returns-clause-dropped c m page there =
    let n = c.args.n in
    let es = c.args.pages.now.entries in
    let now = c.pop.new.self.entries in
    let was = subst (λ (l : LruCache ℕ (List ℕ)). Contains l.entries (m, page)) c.pop.ensures.entries there in
    let gone : lookup (nat_eq n) now ≡ None =
    ap (λ (l : LruCache ℕ (List ℕ)). lookup (nat_eq n) l.entries) c.pop.ensures.entries
    ∙ lookup-remove_entry nat_eq_equiv (nat_eq n) (tests_alike n) n es c.len-distinct.ensures.valid.0
    ∙ ap (λ b. cond b None (lookup (nat_eq n) es)) (eq_same n n refl) in (
      Contains-remove_entry _ es (m, page) was,
      λ e. true≢false (sym (found n now page (subst (λ k. Contains now (k, page)) e there)) ∙ ap is_some gone),
    )
