use Rattle.std.proofs.Common.{arith, ◌<◌}
use Rattle.version_model.specs.Sizes.{octets}
use Rattle.tsb_tree.proofs.Needing.{uses_one, uses_two}
use Rattle.tsb_tree.proofs.Shaping.{are_small}
use Rattle.tsb_tree.proofs.splitting_column.lay_out.Goals as goal

pub split_key_of-requires : goal.split_key_of-requires
split_key_of-requires c =
    let much : 10821 < octets c.args.whole.leaf = omega arith in
    record { full = record { single = c.requires.single; small = are_small c.args.whole c.requires.whole; much = much; most = c.requires.most } }

pub lay_two-requires-clause-full : goal.lay_two-requires-clause-full
lay_two-requires-clause-full c =
    let much : 10821 < octets c.args.whole.leaf = omega arith in
    record { single = c.requires.single; small = are_small c.args.whole c.requires.whole; much = much; most = c.requires.most }

pub returns-then-octets-le-MOST_KEPT-clause-uses : goal.returns-then-octets-le-MOST_KEPT-clause-uses
returns-then-octets-le-MOST_KEPT-clause-uses c =
    uses_one _ _ _ _ c.in_ok-lay_one.ensures.new c.in_ok-lay_one.ensures.unused (omega arith)

pub returns-clause-uses : goal.returns-clause-uses
returns-clause-uses c =
    let much : 10821 < octets c.args.whole.leaf = omega arith in
    uses_two _ _ _ c.args.page c.args.current c.args.whole _ _ c.in_ok-lay_two.ensures.two c.in_ok-lay_two.ensures.laid much
