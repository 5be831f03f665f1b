use Rattle.std.proofs.Common.{ap, sym, Ok}
use Rattle.route_text.proofs.Fields.{is_nil, optional_none}
use Rattle.route_text.proofs.field_reading.read_optional.Goals as goal

pub returns-then-is_empty-clause-only : goal.returns-then-is_empty-clause-only
returns-then-is_empty-clause-only c number valid e =
    ap Ok (sym (optional_none c.args.text.now number (is_nil c.args.text.now _ c.is_empty.ensures c.if-is_empty.true) valid e))
