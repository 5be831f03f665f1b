use Rattle.std.proofs.Common.{inl, inr, ap, arith}
use Rattle.std.proofs.lemmas.Bool.{false≢true}
use Rattle.version_model.specs.Versions.{Version}
use Rattle.tsb_tree.proofs.LayingOut.{can_be_laid}
use Rattle.tsb_tree.proofs.Needing.{layout_full}
use Rattle.tsb_tree.proofs.splitting_column.split_column.Goals as goal

pub returns-in-Ok-clause-takes : goal.returns-in-Ok-clause-takes
returns-in-Ok-clause-takes g c honest blocks represents_node =
    let grown = c.in_ok-grow.ensures.takes honest blocks represents_node in
    record { more = grown.0; whole = c.grow.new.whole; takes = grown.1; laid = c.in-Ok.ensures.laid }

pub returns-in-Ok-clause-laid : goal.returns-in-Ok-clause-laid
returns-in-Ok-clause-laid g c in_page in_current =
    can_be_laid c.args.unused.homes c.args.unused.next c.args.page c.args.leaf.now.page c.grow.new.whole c.in-Ok.change c.in-Ok.change.new in_page in_current c.in-Ok.ensures.inside c.in-Ok.ensures.laid

pub returns-in-Err-clause-honest : goal.returns-in-Err-clause-honest
returns-in-Err-clause-honest g c above forward bounded inside =
    c.in-Err.ensures.honest (λ v h. elim (c.in_ok-grow.ensures.only v h) [ inl old ↦ bounded v old | inr new ↦ omega (arith, inside, ap (λ (x : Version). x.key) new) ])

pub returns-in-Ok-clause-uses : goal.returns-in-Ok-clause-uses
returns-in-Ok-clause-uses g c = (c.grow.new.whole.leaf, c.in_ok-grow.ensures.stays, c.in-Ok.ensures.uses)

pub returns-in-Err-clause-lacks_pages : goal.returns-in-Err-clause-lacks_pages
returns-in-Err-clause-lacks_pages g c is =
    (c.grow.new.whole.leaf, c.in_ok-grow.ensures.stays, c.in-Err.ensures.lacks_pages is, layout_full _ _ _ c.in-Err.ensures.refused (cc))

pub returns-in-Ok-clause-none_left : goal.returns-in-Ok-clause-none_left
returns-in-Ok-clause-none_left g c honest none outlived = absurd (false≢true (c.in_ok-grow.ensures.none_left honest none outlived))
