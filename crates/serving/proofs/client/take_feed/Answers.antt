use Rattle.std.proofs.Common.{◌∙◌, ap}
use Rattle.serving.specs.Clients.{closing_after}
use Rattle.serving.proofs.client.take_feed.Goals as goal

pub returns-clause-fed : goal.returns-clause-fed
returns-clause-fed g c =
    let f = c.feed-end.ensures.ended in
    (f.0, f.1, c.feed-end.result, f.2, c.closing_after.ensures.closing ∙ ap (closing_after c.feed-end.result) c.has_failed.ensures.failed)
