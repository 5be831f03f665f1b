use Rattle.std.proofs.Common.{◌≡◌, ◌∙◌, ◌+◌, ℕ, List, length, ap, subst, arith}
use Rattle.std.specs.Option.{option_map}
use Rattle.tsb_node.specs.Numbers.{octets_of}
use Rattle.tsb_node.specs.inner.Fields.{number_in}
use Rattle.tsb_node.specs.Leaves.{entry, entries, value_encoded}
use Rattle.tsb_node.specs.inner.Laying.{laid}
use Rattle.tsb_node.specs.Pushing.{version}
use Rattle.tsb_node.proofs.Entries.{entry-size}
use Rattle.tsb_node.proofs.Leaves.{leaf_represents, entries-count, begins_page}
use Rattle.tsb_node.proofs.WrittenNow.{leaf_now}
use Rattle.tsb_node.proofs.Laying.{laid_is, page_pushed, version_valid}
use Rattle.route_model.specs.Octets.{AreOctets}
use Rattle.tsb_node.proofs.leaf.push_written.Goals as goal

pub returns-then-used-size-gt-ROOM-clause-pushed : goal.returns-then-used-size-gt-ROOM-clause-pushed
returns-then-used-size-gt-ROOM-clause-pushed c = λ leaf page is above.
    let represents_node = leaf_represents leaf c.args.page.now (begins_page leaf c.args.page.now page.page) in
    let used : c.number2-used.result ≡ length (entries leaf.versions) = c.number2-used.ensures.number ∙ ap (number_in 2 6) c.octets-2.ensures.value ∙ represents_node.used_is in
    omega (arith, used, entry-size (version c.args.key c.args.stamp (option_map (λ x. x.now) c.args.value)), ap length c.octets_in.ensures.value, c.if-used-size-gt-ROOM.true)

pub returns-then-count-clause-pushed : goal.returns-then-count-clause-pushed
returns-then-count-clause-pushed c = λ leaf page is above.
    let represents_node = leaf_represents leaf c.args.page.now (begins_page leaf c.args.page.now page.page) in
    let counted : c.number2-count.result ≡ length leaf.versions = c.number2-count.ensures.number ∙ ap (number_in 2 4) c.octets.ensures.value ∙ represents_node.count_is in
    omega (arith, counted, c.if-count.true, entries-count leaf.versions, page.page.valid.fits)

pub returns-clause-pushed : goal.returns-clause-pushed
returns-clause-pushed c = λ leaf page is above.
    let v = version c.args.key c.args.stamp (option_map (λ x. x.now) c.args.value) in
    let represents_node = leaf_represents leaf c.args.page.now (begins_page leaf c.args.page.now page.page) in
    let counted : c.number2-count.result ≡ length leaf.versions = c.number2-count.ensures.number ∙ ap (number_in 2 4) c.octets.ensures.value ∙ represents_node.count_is in
    let used : c.number2-used.result ≡ length (entries leaf.versions) = c.number2-used.ensures.number ∙ ap (number_in 2 6) c.octets-2.ensures.value ∙ represents_node.used_is in
    let size : 59 + length c.octets_in.result.now ≡ length (entry v) = omega (arith, entry-size v, ap length c.octets_in.ensures.value) in
    let sum : c.number2-used.result + (59 + length c.octets_in.result.now) ≡ c.number2-used.result + length (entry v) = ap (λ (n : ℕ). c.number2-used.result + n) size in
    let each : AreOctets (value_encoded (option_map (λ x. x.now) c.args.value)) = subst AreOctets c.octets_in.ensures.value c.octets_in.ensures.octets in
    let one = c.put_entry.ensures in
    let two = laid_is 4 c.two_octets.result c.put_entry.new.page c.put.new.self c.put.ensures ∙ ap (λ (t : List ℕ). laid 4 t c.put_entry.new.page) c.two_octets.ensures in
    let three = laid_is 6 c.two_octets-2.result c.put.new.self c.put-2.new.self c.put-2.ensures
    ∙ ap (λ (t : List ℕ). laid 6 t c.put.new.self) (c.two_octets-2.ensures ∙ ap (octets_of 2) sum) in
    rw (three, two, one) (leaf_now _ _ (page_pushed leaf v c.args.page.now c.number2-count.result c.number2-used.result page.page page.now
    (version_valid leaf.bounds c.args.key c.args.stamp (option_map (λ x. x.now) c.args.value) is c.key_fits.ensures.fits c.stamp_fits.ensures.fits c.requires.short each) above counted used (omega (arith, size, c.if-used-size-gt-ROOM.false))))
