use Rattle.std.proofs.Common.{◌∙◌, ap, sym, ℕ, Bool}
use Rattle.disk_memory.proofs.both.crash_all.Goals as goal

pub returns-clause-allowed : goal.returns-clause-allowed
returns-clause-allowed c = record {
  erase = c.in_ok-erase.ensures.allowed;
  tried = λ n tried. ap (λ (f : ℕ → Bool). f n) c.in_ok-once.ensures.allowed.tried ∙ tried;
  within = λ n tried. ap (λ (f : ℕ → Bool). f n) (sym c.in_ok-once.ensures.allowed.tried) ∙ tried;
  settled = c.in_ok-once.ensures.allowed.settled;
}
