use Rattle.std.proofs.Common.{◌++◌, ◌∷◌, [], List, length, refl, ap, ◌∙◌}
use Rattle.disk_memory.specs.Memory.{calls_of}
use Rattle.disk_memory.specs.Writing.{Writing}
use Rattle.disk_memory.specs.declared.call.Call.TheVariants.{Write}
use Rattle.disk_memory.proofs.Replaying.{same_within, more_within, more_done}
use Rattle.disk_memory.proofs.Results.{whole}
use Rattle.disk_memory.proofs.erase.MemEraseEraseDisk.write_at.Goals as goal

pub returns-in_err-record-clause-within : goal.returns-in_err-record-clause-within
returns-in_err-record-clause-within c = same_within c.args.at (length c.args.from.now) _ _ c.in_err-record.ensures.err

pub returns-then-fails-clause-within : goal.returns-then-fails-clause-within
returns-then-fails-clause-within c =
    more_within (record { at = c.args.at; length = length c.args.from.now; octets = _ }) (calls_of c.args.self.now) _
    (ap calls_of c.fault-then-fails.ensures ∙ c.in_ok-record.ensures.ok ∙ ap (λ (w : Writing). calls_of c.args.self.now ++ Write w ∷ []) c.in-Ok.ensures)

pub returns-clause-octets : goal.returns-clause-octets
returns-clause-octets c =
    let w : Writing = record { at = c.args.at; length = length c.args.from.now; octets = c.args.from.now } in
    let octets = whole c.cut_or-failure.result c.is_some-fails.result c.args.from.now c.is_some-fails.ensures c.if-fails.false in
    more_done w (calls_of c.args.self.now) _ refl
    (c.in_ok-record.ensures.ok ∙ ap (λ (w : Writing). calls_of c.args.self.now ++ Write w ∷ []) (c.in-Ok.ensures ∙ ap (λ (o : List _). record w { octets = o }) octets))

pub returns-clause-within : goal.returns-clause-within
returns-clause-within c =
    more_within (record { at = c.args.at; length = length c.args.from.now; octets = _ }) (calls_of c.args.self.now) _
    (c.in_ok-record.ensures.ok ∙ ap (λ (w : Writing). calls_of c.args.self.now ++ Write w ∷ []) c.in-Ok.ensures)
