use Rattle.disk_calls.proofs.Serving.{own_of}
use Rattle.disk_calls.proofs.keeping.reader_of.Goals as goal

pub returns : goal.returns
returns g c = record { own = own_of c.args.archive.now c.reader.result c.ok.result c.reader.ensures.disk c.reader.ensures.none c.ok.ensures.value }
