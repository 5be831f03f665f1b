use Rattle.std.proofs.Common.{◌∙◌, ap, length}
use Rattle.std.proofs.lemmas.List.{length-replicate}
use Rattle.archive_head.specs.Head.{Contents}
use Rattle.disk_archive.specs.inner.Creating.{bare_lane}
use Rattle.disk_archive.proofs.Empties.{mirrors_empty, numbers_empty}
use Rattle.disk_archive.proofs.beginning.make_empty.Goals as goal

pub returns-clause-lanes : goal.returns-clause-lanes
returns-clause-lanes c = ap (λ (h : Contents). length h.lanes) c.in_ok-head.ensures.head ∙ length-replicate c.args.settings.collectors bare_lane

pub returns-clause-numbers : goal.returns-clause-numbers
returns-clause-numbers c = numbers_empty c.in_ok-sequencer.sequencer c.args.settings.collectors c.in_ok-sequencer.ensures.marks

pub returns-clause-mirrors : goal.returns-clause-mirrors
returns-clause-mirrors c = mirrors_empty c.in_ok-sequencer.sequencer c.args.settings.collectors c.in_ok-sequencer.ensures.marks c.in_ok-sequencer.ensures.times
