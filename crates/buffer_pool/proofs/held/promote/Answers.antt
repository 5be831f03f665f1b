use Rattle.std.proofs.Common.{◌∙◌, List, ℕ, Contains, sym, subst}
use Rattle.lru.specs.LruCache.{LruCache}
use Rattle.lru.proofs.CallerLemmas.{Contains-promoted}
use Rattle.buffer_pool.proofs.Holding.{promoted_found}
use Rattle.buffer_pool.proofs.held.promote.Goals as goal

pub returns-clause-kept : goal.returns-clause-kept
returns-clause-kept c holds = promoted_found c.args.n c.args.pages.now c.promote.new.self c.promote.ensures.entries (sym c.promote.ensures.value ∙ holds)

pub returns-clause-shown : goal.returns-clause-shown
returns-clause-shown c map shown m page there =
    shown m page (Contains-promoted _ c.args.pages.now.entries (m, page) (subst (λ (l : LruCache ℕ (List ℕ)). Contains l.entries (m, page)) c.promote.ensures.entries there))
