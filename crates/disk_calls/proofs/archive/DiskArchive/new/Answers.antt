use Rattle.disk_calls.proofs.archive.DiskArchive.new.Goals as goal

pub returns-clause-represents : goal.returns-clause-represents
returns-clause-represents g c = λ h goes_on. record { goes_on = goes_on; reads = c.reader_of-reader.ensures.own }
