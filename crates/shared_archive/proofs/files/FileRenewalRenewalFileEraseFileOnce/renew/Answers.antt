use Rattle.shared_archive.proofs.files.FileRenewalRenewalFileEraseFileOnce.renew.Goals as goal

pub returns-clause-rests : goal.returns-clause-rests
returns-clause-rests g c = λ ring p r. absurd r.erasable
