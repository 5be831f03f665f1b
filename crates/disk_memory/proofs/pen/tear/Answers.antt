use Rattle.std.proofs.Common.{◌≡◌, ◌∙◌, ◌++◌, ◌∷◌, [], List, slice_get, option_copied, ap, arith}
use Rattle.disk_memory.specs.Burning.{Burning, torn_burning}
use Rattle.disk_memory.proofs.Results.{got_is, bound_of}
use Rattle.disk_memory.proofs.Burnings.{torn_burnings_next}
use Rattle.disk_memory.proofs.pen.tear.Goals as goal

pub loop-k-preserved : goal.loop-k-preserved
loop-k-preserved c =
    let burn : Burning = c.index-burns-k.result in
    let found : option_copied c.get.result ≡ slice_get c.args.choice.now c.loop-k.k =
    got_is c.args.choice.now c.loop-k.k c.get.result c.get.ensures.lookup.1 (bound_of c.args.choice.now c.loop-k.k c.get.result c.get.ensures.lookup.0) in
    ◌∙◌ {A = List Burning} c.in_ok-push.ensures.items
    (◌∙◌ {A = List Burning} (ap (λ (left : Burning). c.loop-k.into.items ++ left ∷ []) (c.in_ok-left.ensures ∙ ap (λ torn. torn_burning torn burn) found))
    (torn_burnings_next c.args.choice.now c.args.burns.now c.loop-k.into.items c.args.into.now.items c.loop-k.k burn (omega arith) c.index-burns-k.is c.loop-k.invariant))
