use Rattle.std.proofs.Common.{◌≡◌, ◌≤◌, ◌+◌, ◌%◌, ◌/◌, ◌<◌, ◌++◌, [], length, take, drop, arith, sym, ap, ◌∙◌, length-append, length-take, length-drop}
use Rattle.std.proofs.lemmas.Option.{get_or_from_slice_get}
use Rattle.intake.specs.Ring.{size_of}
use Rattle.intake.proofs.Wrapping.{wrapped_low}
use Rattle.intake.proofs.Pieces.{piece_read}
use Rattle.intake.proofs.reading.read_piece.Goals as goal

pub returns-clause-read : goal.returns-clause-read
returns-clause-read g c =
    let start = c.wrap-at.result % 16384 in
    let number = c.args.ring.low + c.wrap-at.result / 16384 in
    let n = c.min-len.result in
    let octets = c.octets-octets.result.now in
    let piece = take n (drop start octets) in
    let items : c.extend_from_slice.new.self.items ≡ c.args.out.now.items ++ piece = c.in_ok-extend_from_slice.ensures.items ∙ ap (λ k. c.args.out.now.items ++ take k (drop start octets)) (omega arith) in
    let page_is = c.octets-octets.ensures.value in
    let size = c.octets-octets.ensures.size in
    let d = length-drop start octets in
    let few : start + n ≤ 16384 = omega (arith, c.min-len.ensures) in
    let len : length piece ≡ n = (let l = length-take n (drop start octets) in omega arith) in (
      n,
      omega (arith, c.min-len.ensures, c.requires.some),
      omega (arith, c.min-len.ensures),
      (let e = ap length items in let l = length-append c.args.out.now.items piece in omega arith),
      λ begun shown stood are used stand.
          let low = wrapped_low (size_of c.args.ring) c.args.ring.first c.args.from c.requires.ring.start (omega (arith, c.requires.inside, c.requires.ring.used)) in
          let inside = c.requires.ring.inside in
          let below : number < g.P.Pages.homes c.fetch.new.self = omega (arith, c.fetch.ensures.homes, low, c.wrap-at.ensures) in
          let there = get_or_from_slice_get shown number c.in-Some.page.now [] (c.in-Some.ensures.shown begun shown (c.in_ok-fetch.ensures.same begun shown are) below) in
          items ∙ ap (λ l. c.args.out.now.items ++ l)
          (piece_read (g.P.Pages.homes c.args.pages.now) shown c.args.ring stood octets c.wrap-at.result c.args.from n c.requires.ring c.wrap-at.ensures few (omega (arith, c.min-len.ensures, c.requires.inside))
          (page_is ∙ sym there) size used stand),
    )
