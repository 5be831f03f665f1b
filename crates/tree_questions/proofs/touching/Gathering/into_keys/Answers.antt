use Rattle.std.proofs.Common.{◌≡◌, ◌∙◌, ℕ, List, [], ◌∷◌, length, ◌<◌, true, false, refl, sym, subst, arith}
use Rattle.version_model.specs.Ranges.{high_or}
use Rattle.tree_questions.proofs.TouchedEntries.{AreTaken, ends_there, takes_all, takes_next, takes_none}
use Rattle.tree_questions.proofs.touching.Gathering.into_keys.Goals as goal

none_there : {X : Type 0} (l : List X) → (0 < length l → false ≡ true) → l ≡ []
none_there [] never = refl
none_there (x ∷ l) never = absurd (let f : false ≡ true = never (omega arith) in cc)

pub loop-key-init : goal.loop-key-init
loop-key-init c = λ all first low so.
    subst (λ (l : List ℕ). AreTaken all first c.args.self.at c.args.self.from (high_or c.args.self.high) l c.args.self.keys) (sym c.new-found.ensures.items)
    (takes_none all first c.args.self.at c.args.self.from (high_or c.args.self.high) c.args.self.keys low so)

pub returns-in_default-clause-keys : goal.returns-in_default-clause-keys
returns-in_default-clause-keys c = λ all first low so.
    takes_all all first c.args.self.at c.args.self.from (high_or c.args.self.high) c.loop-key.found.items c.loop-key.keys (none_there c.loop-key.keys.entries c.in_default.ensures.variant.1) (c.loop-key.invariant all first low so)

pub returns-then-is_past-clause-keys : goal.returns-then-is_past-clause-keys
returns-then-is_past-clause-keys c = λ all first low so.
    ends_there all first c.args.self.at c.args.self.from (high_or c.args.self.high) c.loop-key.found.items c.loop-key.keys c.pop_first.new.self _ _ (c.loop-key.invariant all first low so) c.in-Some.ensures.value c.in-Some.ensures.least (c.is_past.ensures.0 c.if-is_past.true)

pub loop-key-smaller : goal.loop-key-smaller
loop-key-smaller c = omega (arith, c.in-Some.ensures.len)

pub loop-key-preserved : goal.loop-key-preserved
loop-key-preserved c = λ all first low so.
    subst (λ (l : List ℕ). AreTaken all first c.args.self.at c.args.self.from (high_or c.args.self.high) l c.pop_first.new.self) (sym c.in_ok-push.ensures.items)
    (takes_next all first c.args.self.at c.args.self.from (high_or c.args.self.high) c.loop-key.found.items c.loop-key.keys c.pop_first.new.self _ _ (c.loop-key.invariant all first low so) c.in-Some.ensures.value c.in-Some.ensures.least (λ ge. absurd (cc (c.is_past.ensures.1 ge, c.if-is_past.false))) c.in-Some.ensures.updates)
