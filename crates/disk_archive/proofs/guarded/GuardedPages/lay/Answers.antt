use Rattle.std.proofs.Common.{arith}
use Rattle.disk_archive.proofs.Looking.{all_new}
use Rattle.disk_archive.proofs.guarded.GuardedPages.lay.Goals as goal

pub returns-then-len-gt31-clause-refused : goal.returns-then-len-gt31-clause-refused
returns-then-len-gt31-clause-refused g c =
    let n = all_new c.args.images.items in
    let homes = c.home_pages.ensures.homes in
    let low = c.if-unused-home_pages.false in
    let many = c.if-len-gt31.true in
    let long = c.len.ensures in
    (omega (arith, homes, low), omega (arith, n, many, long))

pub returns-clause-refused : goal.returns-clause-refused
returns-clause-refused g c =
    let n = all_new c.args.images.items in
    let homes = c.home_pages.ensures.homes in
    let low = c.if-unused-home_pages.false in
    let few = c.if-len-gt31.false in
    let long = c.len.ensures in
    (omega (arith, homes, low), omega (arith, n, few, long))
