use Rattle.std.proofs.Common.{rules, ◌<◌, refl, arith}
use Rattle.version_model.specs.Entries.{version_of}
use Rattle.version_model.specs.Ranges.{stamp_end}
use Rattle.tsb_walk.specs.Shown.{HasKey}
use Rattle.tsb_tree.specs.declared.error.TreeError.{TreeError}
use Rattle.tsb_tree.proofs.Growing.{not_back}
use Rattle.tsb_tree.proofs.OpenLeaves.{column_stands, leaf_open, leaf_takes}
use Rattle.tsb_tree.proofs.Pushing.{above_leaf, filled_here, leaf_here, pushed_false, pushed_true, within}
use Rattle.tsb_tree.proofs.leaf_opening.push_version.Goals as goal

pub returns-in-Ok-clause-takes : goal.returns-in-Ok-clause-takes
returns-in-Ok-clause-takes c shown s all root level least is are has later did =
    let leaf = c.args.leaf.now in
    let v = version_of c.args.entry.now in
    let of_key : HasKey leaf.column v.key = c.has.ensures.0 (search rules) in
    let stands = column_stands shown s all root level least leaf is are has in
    let l = leaf_here s all leaf.column shown is.lowest are stands leaf.page leaf.image is.of in
    let page = pushed_true TreeError l.leaf v c.push_entry.new.image c.in-Ok.pushed did
    (c.in-Ok.ensures.pushed l.leaf l.page (within s all leaf.column shown is.lowest are stands leaf.page leaf.image is.of v.key of_key) (above_leaf s all leaf.column shown is.lowest are stands leaf.page leaf.image is.of v.stamp (not_back s all root level least v.stamp has later))) in
    let in_time : v.stamp < stamp_end = omega (arith, c.requires.end) in
    leaf_takes shown s all root level least leaf is are has v later c.requires.inside in_time of_key c.push_entry.new.image page (record leaf { image = c.push_entry.new.image }) refl refl

pub returns-in-Ok-clause-open : goal.returns-in-Ok-clause-open
returns-in-Ok-clause-open c shown s all root level least is are has later did =
    let leaf = c.args.leaf.now in
    let v = version_of c.args.entry.now in
    let of_key : HasKey leaf.column v.key = c.has.ensures.0 (search rules) in
    let stands = column_stands shown s all root level least leaf is are has in
    let l = leaf_here s all leaf.column shown is.lowest are stands leaf.page leaf.image is.of in
    let page = pushed_true TreeError l.leaf v c.push_entry.new.image c.in-Ok.pushed did
    (c.in-Ok.ensures.pushed l.leaf l.page (within s all leaf.column shown is.lowest are stands leaf.page leaf.image is.of v.key of_key) (above_leaf s all leaf.column shown is.lowest are stands leaf.page leaf.image is.of v.stamp (not_back s all root level least v.stamp has later))) in
    let in_time : v.stamp < stamp_end = omega (arith, c.requires.end) in
    leaf_open shown s all root level least leaf is are has v later c.requires.inside in_time of_key c.push_entry.new.image page (record leaf { image = c.push_entry.new.image }) refl refl refl

pub returns-in-Ok-clause-refuses : goal.returns-in-Ok-clause-refuses
returns-in-Ok-clause-refuses c shown s all root level least is are has later not of_key =
    let leaf = c.args.leaf.now in
    let v = version_of c.args.entry.now in
    let stands = column_stands shown s all root level least leaf is are has in
    let l = leaf_here s all leaf.column shown is.lowest are stands leaf.page leaf.image is.of in
    filled_here s all leaf.column shown is.lowest are stands leaf.page leaf.image is.of v
    (pushed_false TreeError l.leaf v c.push_entry.new.image c.in-Ok.pushed not
    (c.in-Ok.ensures.pushed l.leaf l.page (within s all leaf.column shown is.lowest are stands leaf.page leaf.image is.of v.key of_key) (above_leaf s all leaf.column shown is.lowest are stands leaf.page leaf.image is.of v.stamp (not_back s all root level least v.stamp has later))))

pub returns-in-Err-clause-refuses : goal.returns-in-Err-clause-refuses
returns-in-Err-clause-refuses c shown s all root level least is are has later not of_key =
    let leaf = c.args.leaf.now in
    let v = version_of c.args.entry.now in
    let stands = column_stands shown s all root level least leaf is are has in
    let l = leaf_here s all leaf.column shown is.lowest are stands leaf.page leaf.image is.of in
    absurd (c.in-Err.ensures.pushed l.leaf l.page (within s all leaf.column shown is.lowest are stands leaf.page leaf.image is.of v.key of_key) (above_leaf s all leaf.column shown is.lowest are stands leaf.page leaf.image is.of v.stamp (not_back s all root level least v.stamp has later)))
