use Rattle.std.proofs.Common.{◌∙◌, inl}
use Rattle.disk_commands.proofs.Keeping.{kept_refused}
use Rattle.disk_commands.proofs.opening.open_disks.Goals as goal

pub returns-in-Ok-clause-represents : goal.returns-in-Ok-clause-represents
returns-in-Ok-clause-represents g c = λ h r. (
  c.new.ensures.represents h (inl (c.in-Ok.ensures.opened r.follow.0 r.follow.1 r.site h r.reads)),
  c.new.ensures.site ∙ c.in-Ok.ensures.site r.follow.0 r.site h r.reads,
)

pub returns-in-Err-clause-why : goal.returns-in-Err-clause-why
returns-in-Err-clause-why g c = λ h r room. c.in-Err.ensures.undamaged r.follow.0 r.site h r.reads room

pub returns-in-Err-clause-kept : goal.returns-in-Err-clause-kept
returns-in-Err-clause-kept g c = λ h k. kept_refused g.E.EraseDisk g.O.OnceDisk c.args.disks _ h c.in-Err.ensures.erase.0 c.in-Err.ensures.disk c.in-Err.ensures.once.0 (c.in-Err.ensures.after k.follow.0 k.follow.1) k
