use Rattle.std.proofs.Common.{◌≡◌, length, arith}
use Rattle.changed_prefixes.proofs.Cut.{cut}
use Rattle.changed_prefixes.proofs.answering.answer_changed.Goals as goal

pub returns : goal.returns
returns c =
    let spots = c.in_ok-spots.spots in
    let size : c.len-more.result ≡ length spots.items = omega (arith, c.len-more.ensures, spots.ok) in
    record { answer = rw (c.truncate.ensures.items, size) (cut c.args.list.now c.args.question.now spots.items c.in_ok-spots.ensures) }
