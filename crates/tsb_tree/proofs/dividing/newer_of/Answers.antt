use Rattle.std.proofs.Common.{ℕ, List, subst, sym, ◌∙◌}
use Rattle.version_model.specs.LeafVersions.{IsFrom}
use Rattle.version_model.specs.Versions.{Version, IsAbove, IsRising}
use Rattle.version_model.proofs.api.Pushed.{IsRising-push}
use Rattle.version_model.specs.Sizes.{IsSingle}
use Rattle.tsb_tree.proofs.Outliving.{outlived_of}
use Rattle.tsb_tree.proofs.Taking.{single_of}
use Rattle.tsb_tree.proofs.dividing.newer_of.Goals as goal

pub returns-then-len-clause-single : goal.returns-then-len-clause-single
returns-then-len-clause-single c front v is stamp above =
    let since = c.in_ok-newer.ensures in
    let same = since.same (sym c.len.ensures.len ∙ c.if-len.true ∙ c.len-2.ensures.len) in
    subst IsSingle same (single_of c.args.leaf.now front c.in_ok-newer.newer v c.args.at is stamp above since.from since.rising)

pub returns-clause-single : goal.returns-clause-single
returns-clause-single c front v is stamp above = single_of c.args.leaf.now front c.in_ok-newer.newer v c.args.at is stamp above c.in_ok-newer.ensures.from c.in_ok-newer.ensures.rising

pub returns-clause-moves : goal.returns-clause-moves
returns-clause-moves c front v is stamp above rising =
    let since = c.in_ok-newer.ensures in
    let up : IsAbove front v.stamp = subst (λ (s : ℕ). IsAbove front s) (sym stamp) above in
    let all : IsRising c.args.leaf.now = subst IsRising (sym is) (IsRising-push front v rising up) in
    outlived_of c.args.leaf.now front c.in_ok-newer.newer v c.args.at is stamp above all since.from since.rising (λ e. c.if-len.false (c.len.ensures.len ∙ e ∙ sym c.len-2.ensures.len))

pub returns-then-len-clause-stays : goal.returns-then-len-clause-stays
returns-then-len-clause-stays c =
    let since = c.in_ok-newer.ensures in
    let same = since.same (sym c.len.ensures.len ∙ c.if-len.true ∙ c.len-2.ensures.len) in
    record { from = subst (λ (l : List Version). IsFrom c.args.leaf.now c.args.at l) same since.from; rising = subst IsRising same since.rising }

pub returns-clause-stays : goal.returns-clause-stays
returns-clause-stays c = record { from = c.in_ok-newer.ensures.from; rising = c.in_ok-newer.ensures.rising }
