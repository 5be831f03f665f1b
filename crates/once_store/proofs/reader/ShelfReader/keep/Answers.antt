use Rattle.std.proofs.Common.{ℕ, List, subst, sym, ap, ◌∙◌}
use Rattle.std.specs.List.{Contains}
use Rattle.lru.specs.LruCache.{LruCache}
use Rattle.once_store.specs.Digests.{IsWhole}
use Rattle.once_store.proofs.Kept.{put_all, put_kept, put_only, put_stays, put_first}
use Rattle.once_store.proofs.reader.ShelfReader.keep.Goals as goal

pub returns-clause-kept : goal.returns-clause-kept
returns-clause-kept g c = subst (λ (l : LruCache ℕ (List ℕ)). Contains l.entries (c.args.n, c.args.block)) (sym c.in_ok-put.ensures.entries) (put_kept c.args.self.now.kept c.args.n c.args.block)

pub returns-clause-only : goal.returns-clause-only
returns-clause-only g c = λ m other k. put_only c.args.self.now.kept c.args.n c.args.block m other (subst (λ (l : LruCache ℕ (List ℕ)). Contains l.entries (m, other)) c.in_ok-put.ensures.entries k)

pub invariant_of-self : goal.invariant_of-self
invariant_of-self g c = record { whole = put_all (λ e. IsWhole e.1) c.put.result c.args.self.now.kept c.put.new.self c.args.n c.args.block c.put.ensures.entries c.put.ensures.err c.args.self.now.whole c.requires }

pub returns-clause-stays : goal.returns-clause-stays
returns-clause-stays g c = λ room none m other k. subst (λ (l : LruCache ℕ (List ℕ)). Contains l.entries (m, other)) (sym c.in_ok-put.ensures.entries) (put_stays c.args.self.now.kept c.args.n c.args.block room none m other k)

pub returns-clause-added : goal.returns-clause-added
returns-clause-added g c = λ none. ap (λ (l : LruCache ℕ (List ℕ)). l.entries) c.in_ok-put.ensures.entries ∙ put_first c.args.self.now.kept c.args.n c.args.block none
