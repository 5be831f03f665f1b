use Rattle.std.proofs.Common.{◌≡◌, ◌+◌, ◌-◌, ◌*◌, ℕ, sym, ◌∙◌, ap, arith}
use Rattle.disk_models.specs.Octets.{octets}
use Rattle.disk_models.proofs.api.OctetLemmas.{octet_of}
use Rattle.page_journal.specs.Layout.{gate_place, header_place, number_from}
use Rattle.file_archive.proofs.slots.number_of.Goals as goal

pub returns-then-gate-clause-closed : goal.returns-then-gate-clause-closed
returns-then-gate-clause-closed g c honest is_open =
    let f = (g.E.EraseDisk.model c.args.disk.now).octet in
    let header = c.header_of-header.result in
    let at : 16384 * (header - 1) + 0 ≡ gate_place c.args.slot = omega (arith, c.header_of-header.ensures) in
    let here = octet_of f (16384 * (header - 1)) 1 c.read.new.into 0 (sym (c.in_ok-read.ensures.octets honest)) (omega arith) in
    c.if-gate.true (sym here ∙ (ap f at ∙ is_open))

pub returns-clause-open : goal.returns-clause-open
unfolding number_from
returns-clause-open g c honest =
    let f = (g.E.EraseDisk.model c.args.disk.now).octet in
    let header = c.header_of-header.result in
    let at : 16384 * (header - 1) + 0 ≡ gate_place c.args.slot = omega (arith, c.header_of-header.ensures) in
    let next : 16384 * header ≡ header_place c.args.slot = omega (arith, c.header_of-header.ensures) in
    let here = octet_of f (16384 * (header - 1)) 1 c.read.new.into 0 (sym (c.in_ok-read.ensures.octets honest)) (omega arith) in
    let same = (c.in_ok-read.ensures.stays honest).same in
    let read = c.in_ok-read-2.ensures.octets (c.in_ok-read.ensures.honest.0 honest) in
    (ap f (sym at) ∙ (here ∙ c.if-gate.false), c.from_be_bytes.ensures ∙ ap number_from (read ∙ (ap (λ (h : ℕ → ℕ). octets h (16384 * header) 8) same ∙ ap (λ n. octets f n 8) next)))
