use Rattle.route_model.proofs.Routes.{one_ascends}
use Rattle.route_model.proofs.attribute.+is_ascending.Goals as goal

pub returns-in-len1 : goal.returns-in-len1
returns-in-len1 t c = one_ascends c.args.items.now c.in-len1.len_below
