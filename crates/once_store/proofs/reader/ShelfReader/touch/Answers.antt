use Rattle.std.proofs.Common.{ℕ, List, length, subst, sym, ap, ◌∙◌}
use Rattle.std.specs.List.{Contains}
use Rattle.lru.specs.LruCache.{LruCache, lru_cache}
use Rattle.once_store.specs.Digests.{IsWhole}
use Rattle.once_store.proofs.Kept.{all_of, in_all, touched, promoted_was, promoted_all, promoted_none, is_found, moved, as_many}
use Rattle.once_store.proofs.reader.ShelfReader.touch.Goals as goal

pub invariant_of-self : goal.invariant_of-self
invariant_of-self g c = record {
  whole = all_of (λ e. IsWhole e.1) c.promote.new.self.entries (λ e k. in_all (λ e. IsWhole e.1) c.args.self.now.kept.entries e c.args.self.now.whole (promoted_was c.args.n c.args.self.now.kept c.promote.new.self c.promote.ensures.entries e k));
}

pub returns-clause-fewer : goal.returns-clause-fewer
returns-clause-fewer g c = λ m block k. promoted_was c.args.n c.args.self.now.kept c.promote.new.self c.promote.ensures.entries (m, block) k

pub returns-clause-kept : goal.returns-clause-kept
returns-clause-kept g c = λ e.
    let t = touched c.args.n c.args.self.now.kept.entries (sym c.promote.ensures.value ∙ e) in
    let k = subst (λ (l : LruCache ℕ (List ℕ)). Contains l.entries (c.args.n, t.0)) (sym c.promote.ensures.entries) t.1 in
    (t.0, k, in_all (λ e. IsWhole e.1) c.args.self.now.kept.entries (c.args.n, t.0) c.args.self.now.whole (promoted_was c.args.n c.args.self.now.kept c.promote.new.self c.promote.ensures.entries (c.args.n, t.0) k))

pub returns-clause-found : goal.returns-clause-found
returns-clause-found g c = λ block k. c.promote.ensures.value ∙ is_found c.args.n c.args.self.now.kept.entries block k

pub returns-clause-missed : goal.returns-clause-missed
returns-clause-missed g c = λ e. c.promote.ensures.entries ∙ ap (λ es. lru_cache es c.args.self.now.kept.cap) (promoted_none c.args.n c.args.self.now.kept.entries (sym c.promote.ensures.value ∙ e))

pub returns-clause-all : goal.returns-clause-all
returns-clause-all g c = λ m block k. subst (λ (l : LruCache ℕ (List ℕ)). Contains l.entries (m, block)) (sym c.promote.ensures.entries) (promoted_all c.args.n c.args.self.now.kept.entries (m, block) k)

pub returns-clause-first : goal.returns-clause-first
returns-clause-first g c = λ e.
    let m = moved c.args.n c.args.self.now.kept.entries (sym c.promote.ensures.value ∙ e) in
    (m.0, ap (λ (l : LruCache ℕ (List ℕ)). l.entries) c.promote.ensures.entries ∙ m.1)

pub returns-clause-count : goal.returns-clause-count
returns-clause-count g c = ap (λ (l : LruCache ℕ (List ℕ)). length l.entries) c.promote.ensures.entries ∙ as_many c.args.n c.args.self.now.kept.entries
