use Rattle.std.proofs.Common.{◌≡◌, ◌+◌, List, ℕ, length, drop, subst, arith}
use Rattle.std.proofs.lemmas.Slice.{between_to_end}
use Rattle.mrt_records.specs.Records.{body_length}
use Rattle.mrt_records.specs.inner.Front.{IsToppedUp}
use Rattle.mrt_records.proofs.api.Streams.{filled_whole}
use Rattle.mrt_records.proofs.feeding.fill.Goals as goal

pub returns-in-Ok-clause-ok : goal.returns-in-Ok-clause-ok
returns-in-Ok-clause-ok c =
    let held : c.deref.result.now ≡ c.top_up.new.held.items = c.deref.ensures.value in
    let len : c.u32_at-len.result ≡ body_length c.top_up.new.held.items = rw (← held) c.u32_at-len.ensures.number in
    let left = between_to_end c.args.piece.now c.in_ok-first.first (length c.args.piece.now) (omega arith) in
    filled_whole c.args.held.now.items c.top_up.new.held.items c.top_up-2.new.held.items c.args.piece.now c.in_ok-first.first c.in-Ok.second
    c.requires c.in_ok-first.ensures.ok (omega arith) (omega (arith, len))
    (subst (λ (n : ℕ). IsToppedUp c.top_up.new.held.items c.top_up-2.new.held.items (drop c.in_ok-first.first c.args.piece.now) (12 + n) c.in-Ok.second) len
    (subst (λ (p : List ℕ). IsToppedUp c.top_up.new.held.items c.top_up-2.new.held.items p (12 + c.u32_at-len.result) c.in-Ok.second) left c.in-Ok.ensures.ok))
