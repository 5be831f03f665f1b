use Rattle.std.proofs.Common.{rules, ◌≡◌, Err, Result, IfErr, refl, sym, ◌∙◌, subst}
use Rattle.std.proofs.lemmas.Bool.{false≢true}
use Rattle.version_model.specs.Pages.{CurrentLeaf}
use Rattle.tsb_node.specs.Decoded.{decoded_column}
use Rattle.tsb_node.specs.Views.{represents_leaf, keys_between}
use Rattle.tsb_node.proofs.api.Pages.{one_decoded}
use Rattle.tsb_walk.specs.Shown.{keys_at}
use Rattle.tsb_tree.specs.declared.error.TreeError.{TreeError}
use Rattle.tsb_tree.specs.declared.whole.Whole.{Whole}
use Rattle.tsb_tree.specs.Refusals.{IsHonest, ReadRefusal}
use Rattle.tsb_tree.proofs.Columns.{whole_read, leaf_at}
use Rattle.tsb_tree.proofs.Representing.{leaf_of}
use Rattle.tsb_tree.proofs.reading_whole.whole_in.Goals as goal

pub returns-in_err-decoded-clause-refused : goal.returns-in_err-decoded-clause-refused
returns-in_err-decoded-clause-refused c down =
    let h = c.in_err-decoded.ensures.refused down in
    let d : c.from_residual.result ≡ Err c.in_err-decoded.field-0.0 = search rules in
    subst (λ (r : Result Whole TreeError). IfErr r (ReadRefusal down)) (sym d) h

pub returns-in_err-bounds-clause-honest : goal.returns-in_err-bounds-clause-honest
returns-in_err-bounds-clause-honest c parts start versions col leaf =
    let l = leaf_of c.args.leaf.now.image _ (keys_at c.args.place.now) start versions refl leaf in
    let h = c.in_err-bounds.ensures.honest l.leaf l.page in
    let d : c.from_residual-in_err-bounds.result ≡ Err c.in_err-bounds.field-0.0 = search rules in
    subst (λ (r : Result Whole TreeError). IsHonest r) (sym d) h

pub returns-in_err-bounds-clause-refused : goal.returns-in_err-bounds-clause-refused
returns-in_err-bounds-clause-refused c down =
    let h = c.in_err-bounds.ensures.refused down in
    let d : c.from_residual-in_err-bounds.result ≡ Err c.in_err-bounds.field-0.0 = search rules in
    subst (λ (r : Result Whole TreeError). IfErr r (ReadRefusal down)) (sym d) h

pub returns-then-ne-clause-honest : goal.returns-then-ne-clause-honest
returns-then-ne-clause-honest c parts start versions col leaf =
    let decoded : CurrentLeaf (keys_between c.in_ok-bounds.bounds) c.in_ok-bounds.bounds.start c.in_ok-bounds.versions ≡ CurrentLeaf (keys_at c.args.place.now) start versions
    = one_decoded c.args.leaf.now.image _ _ (represents_leaf (record { bounds = c.in_ok-bounds.bounds; versions = c.in_ok-bounds.versions }) c.in_ok-bounds.ensures.leaf) leaf in
    let column = (c.in_ok-decoded.ensures.represents_node (keys_at c.args.place.now) parts start c.args.leaf.now.page col).0 in
    let s : c.in_ok-decoded.decoded.current.start ≡ start = cc in
    let t : c.in_ok-bounds.bounds.start ≡ start = cc in
    let e : c.in_ok-bounds.bounds.start ≡ c.in_ok-decoded.decoded.current.start = t ∙ sym s in
    search rules

pub returns-then-not-are_its_keys-2-clause-honest : goal.returns-then-not-are_its_keys-2-clause-honest
returns-then-not-are_its_keys-2-clause-honest c parts start versions col leaf =
    let decoded : CurrentLeaf (keys_between c.in_ok-bounds.bounds) c.in_ok-bounds.bounds.start c.in_ok-bounds.versions ≡ CurrentLeaf (keys_at c.args.place.now) start versions
    = one_decoded c.args.leaf.now.image _ _ (represents_leaf (record { bounds = c.in_ok-bounds.bounds; versions = c.in_ok-bounds.versions }) c.in_ok-bounds.ensures.leaf) leaf in
    let e : keys_between c.in_ok-bounds.bounds ≡ keys_at c.args.place.now = cc in
    absurd (false≢true (sym c.if-not-are_its_keys-2.true ∙ c.are_its_keys-2.ensures.1 e))

pub returns-clause-whole : goal.returns-clause-whole
returns-clause-whole c =
    let leaf = leaf_at c.in_ok-bounds.bounds c.in_ok-bounds.versions c.args.leaf.now.image c.in_ok-bounds.ensures.leaf in
    let start : c.in_ok-bounds.bounds.start ≡ c.in_ok-decoded.decoded.current.start = search rules in
    whole_read _ (decoded_column c.in_ok-decoded.decoded) c.args.leaf.now.image c.in_ok-decoded.ensures.valid refl start leaf
