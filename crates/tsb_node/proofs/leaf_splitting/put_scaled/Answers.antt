use Rattle.std.proofs.Common.{◌≡◌, ◌∙◌, ◌+◌, ◌<◌, ◌^◌, ℕ, List, length, ap, sym, subst, arith}
use Rattle.tsb_node.specs.Numbers.{octets_of}
use Rattle.version_model.specs.Versions.{Version}
use Rattle.tsb_node.specs.Scaling.{scaled}
use Rattle.tsb_node.specs.Leaves.{entry}
use Rattle.tsb_node.specs.inner.Laying.{laid}
use Rattle.tsb_node.proofs.Laying.{laid_is, entry_restamped}
use Rattle.tsb_node.proofs.MomentLaws.{version_same}
use Rattle.tsb_node.proofs.SplittingLaws.{stamp_of_entry}
use Rattle.tsb_node.proofs.leaf_splitting.put_scaled.Goals as goal

pub returns : goal.returns
returns g c = λ b v valid encoded fits.
    let at = c.args.at in
    let old = c.args.sheet.now in
    let stamp : c.stamp_at.result ≡ v.stamp = c.stamp_at.ensures.number ∙ stamp_of_entry b v c.args.entry.now valid encoded in
    let moment = c.stamp_in_moments.ensures (subst (λ (s : ℕ). scaled c.args.k s < 256 ^ 16) (sym stamp) fits) ∙ ap (scaled c.args.k) stamp in
    let e1 = laid_is at c.args.entry.now old c.put.new.self c.put.ensures ∙ ap (λ (t : List ℕ). laid at t old) encoded in
    let e2 = laid_is (at + 40) c.stamp_octets.result c.put.new.self c.put-2.new.self c.put-2.ensures
    ∙ ap (λ (t : List ℕ). laid (at + 40) t c.put.new.self) (c.stamp_octets.ensures ∙ ap (octets_of 16) moment) ∙ ap (laid (at + 40) (octets_of 16 (scaled c.args.k v.stamp))) e1 in
    e2 ∙ entry_restamped at v (scaled c.args.k v.stamp) old (omega (arith, c.requires.room, ap length encoded, c.octets-octets.ensures.size, ap length c.octets-octets.ensures.value))

pub returns-then-k-eq1 : goal.returns-then-k-eq1
returns-then-k-eq1 g c = λ b v valid encoded fits.
    let old = c.args.sheet.now in
    laid_is c.args.at c.args.entry.now old c.put.new.self c.put.ensures ∙ ap (λ (t : List ℕ). laid c.args.at t old) encoded
    ∙ ap (λ (x : Version). laid c.args.at (entry x) old) (sym (version_same c.args.k v c.if-k-eq1.true))
