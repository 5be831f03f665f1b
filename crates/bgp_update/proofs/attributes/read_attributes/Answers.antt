use Rattle.std.proofs.Common.{List, sym, subst}
use Rattle.bgp_update.specs.declared.attribute.PathAttribute.{PathAttribute}
use Rattle.bgp_update.specs.AttributeFields.{AreListed}
use Rattle.bgp_update.proofs.api.OneReading.{of_listed}
use Rattle.bgp_update.proofs.attributes.read_attributes.Goals as goal

pub returns : goal.returns
returns c =
    let listed : AreListed c.args.bytes.now c.deref.result.now = subst (λ (t : List PathAttribute). AreListed c.args.bytes.now t) (sym c.deref.ensures.value) c.in_ok-list.ensures in
    record { attributes = of_listed c.args.width c.args.bytes.now c.deref.result.now c.reading_of.result listed c.reading_of.ensures }
