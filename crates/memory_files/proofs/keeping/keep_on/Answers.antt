use Rattle.std.proofs.Common.{◌≡◌, ◌∙◌, List, ℕ, length, sym, subst}
use Rattle.std.proofs.lemmas.Result.{on_ok_weaker}
use Rattle.disk_models.specs.Octets.{octets}
use Rattle.memory_files.proofs.Kept.{kept_then, read_as_written}
use Rattle.memory_files.proofs.keeping.keep_on.Goals as goal

pub returns-clause-kept : goal.returns-clause-kept
returns-clause-kept g c honest =
    let at_write = (g.D.EraseDisk.model c.write_at.new.self).octet in
    let h1 = c.write_at.ensures.honest.0 honest in
    let h2 = c.sync.ensures.honest.0 h1 in
    let written = subst (λ (xs : List ℕ). octets at_write c.args.at (length xs) ≡ xs) c.octets.ensures.value (c.in_ok-write_at.ensures.octets honest) in
    on_ok_weaker c.read_from.result
    (λ _. kept_then c.args.at c.args.page.now (g.D.EraseDisk.model c.write_at.new.self) (g.D.EraseDisk.model c.sync.new.self) (g.D.EraseDisk.model c.read_from.new.disk) written (c.in_ok-sync.ensures.syncs h1) (c.read_from.ensures.stays h2))
    (c.read_from.ensures.octets h2)

pub returns-clause-read : goal.returns-clause-read
returns-clause-read g c honest =
    let at_write = (g.D.EraseDisk.model c.write_at.new.self).octet in
    let h1 = c.write_at.ensures.honest.0 honest in
    let h2 = c.sync.ensures.honest.0 h1 in
    let written = subst (λ (xs : List ℕ). octets at_write c.args.at (length xs) ≡ xs) c.octets.ensures.value (c.in_ok-write_at.ensures.octets honest) in
    let long : length c.args.page.now ≡ 16384 = subst (λ (xs : List ℕ). length xs ≡ 16384) c.octets.ensures.value c.octets.ensures.size in
    on_ok_weaker c.read_from.result
    (λ is. read_as_written c.args.at c.args.page.now c.read_from.new.self (g.D.EraseDisk.model c.write_at.new.self) (g.D.EraseDisk.model c.sync.new.self) long written (c.in_ok-sync.ensures.syncs h1) is)
    (c.read_from.ensures.octets h2)
