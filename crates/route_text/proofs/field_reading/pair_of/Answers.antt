use Rattle.std.proofs.Common.{◌++◌, ◌∙◌, ap, length, refl}
use Rattle.route_text.proofs.Fields.{pair_filled, pair_valid, pair_at}
use Rattle.route_text.proofs.field_reading.pair_of.Goals as goal

pub returns-clause-octets : goal.returns-clause-octets
returns-clause-octets c =
    let g = c.copy_from_slice.ensures.after in
    let l = c.copy_from_slice-2.ensures.after in
    pair_filled c.copy_from_slice.new.self c.copy_from_slice-2.new.self _ c.copy_from_slice.ensures.len (ap length l ∙ c.told-local) refl ∙ (λ i. g i ++ l i)

pub returns-clause-valid : goal.returns-clause-valid
returns-clause-valid c =
    pair_at _ c.args.global.now c.args.local.now (returns-clause-octets c) (pair_valid c.args.global.now c.args.local.now c.told-global c.told-local c.fits-global c.fits-local)
