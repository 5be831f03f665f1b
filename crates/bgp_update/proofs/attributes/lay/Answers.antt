use Rattle.std.proofs.Common.{◌≤◌, ℕ, List, length, sym, ap, subst, arith}
use Rattle.bgp_update.specs.Paths.{IsPath}
use Rattle.bgp_update.specs.Joining.{count}
use Rattle.bgp_update.proofs.Laid.{stays_malformed, stays_shorter, is_laid, joined_few}
use Rattle.bgp_update.proofs.attributes.lay.Goals as goal

pub returns-in_default-2-clause-laid : goal.returns-in_default-2-clause-laid
returns-in_default-2-clause-laid c =
    rw c.in-Some.is (stays_malformed c.in-Some.value c.args.own.items
    (λ path is. c.in_ok-longer.ensures.none c.in_default-2.is path (subst (λ (t : List ℕ). IsPath 4 t path) (sym c.as_slice.ensures.octets) is)))

pub returns-then-count_of-clause-laid : goal.returns-then-count_of-clause-laid
returns-then-count_of-clause-laid c =
    let found = rw c.in-Some-2.is at c.in_ok-longer.ensures.found in
    let is = subst (λ (t : List ℕ). IsPath 4 t c.in-Some-2.longer.items) c.as_slice.ensures.octets found.0 in
    let own = ap count c.deref.ensures.value in
    let longer = ap count c.deref-2.ensures.value in
    rw c.in-Some.is (stays_shorter c.in-Some.value c.args.own.items c.in-Some-2.longer.items is
    (omega (arith, own, longer, c.count_of.ensures, c.count_of-2.ensures, c.if-count_of.true)))

pub returns-clause-laid : goal.returns-clause-laid
returns-clause-laid c =
    let found = rw c.in-Some-2.is at c.in_ok-longer.ensures.found in
    let is = subst (λ (t : List ℕ). IsPath 4 t c.in-Some-2.longer.items) c.as_slice.ensures.octets found.0 in
    let own = ap count c.deref.ensures.value in
    let longer = ap count c.deref-2.ensures.value in
    let le : count c.in-Some-2.longer.items ≤ count c.args.own.items = omega (arith, own, longer, c.count_of.ensures, c.count_of-2.ensures, c.if-count_of.false) in
    rw c.in-Some.is (is_laid c.in-Some.value c.args.own.items c.in-Some-2.longer.items c.in_ok-path.path.items c.requires.none_empty is le c.in_ok-path.ensures.path)

pub returns-clause-few : goal.returns-clause-few
returns-clause-few c =
    let found = rw c.in-Some-2.is at c.in_ok-longer.ensures.found in
    let own = ap count c.deref.ensures.value in
    let longer = ap count c.deref-2.ensures.value in
    let le : count c.in-Some-2.longer.items ≤ count c.args.own.items = omega (arith, own, longer, c.count_of.ensures, c.count_of-2.ensures, c.if-count_of.false) in
    omega (arith, ap length c.in_ok-path.ensures.path, joined_few c.args.own.items c.in-Some-2.longer.items le, found.1, c.requires.few)
