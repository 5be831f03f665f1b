use Rattle.std.proofs.Common.{◌∷◌, []}
use Rattle.mrt_records.specs.Streams.{Gains}
use Rattle.mrt_records.proofs.api.Streams.{goes_cons}
use Rattle.mrt_records.proofs.feeding.feed_whole.Goals as goal

pub returns-in-Ok-clause-ok : goal.returns-in-Ok-clause-ok
returns-in-Ok-clause-ok c =
    let gained : Gains c.args.out.now.items c.push_item.new.out.items (c.args.held.now.items ∷ []) = rw (← c.deref.ensures.value) c.in_ok-push_item.ensures.ok in
    goes_cons c.in-Ok.over c.args.held.now.items c.args.bytes.now _ c.args.out.now.items _ _ c.requires gained c.in-Ok.ensures.ok
