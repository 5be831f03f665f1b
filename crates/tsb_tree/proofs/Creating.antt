-- A tree of no version.
use Rattle.std.proofs.Common.{◌≡◌, ℕ, ◌+◌, ◌≤◌, Bool, true, false, not, List, [], length, None, refl, ◌∙◌, ap, subst, arith}
use Rattle.std.proofs.lemmas.List.Filters.{length-filter_both}
use Rattle.page_journal.specs.Bookkeeping.{is_among, without}
use Rattle.page_tx.specs.Images.{joined}
use Rattle.page_tx.specs.Refusals.{LayRefusal}
use Rattle.page_tx.specs.declared.error.PageError.{PageError}
use Rattle.page_tx.specs.declared.error.PageError.TheVariants.{Fault, NeedsRecovery, TooManyImages, PagesFull, OutOfMemory}
use Rattle.page_tx.proofs.Joining.{length_joined}
use Rattle.page_tx.proofs.Laying.{length_pages_of}
use Rattle.page_journal.specs.Layout.{Image, pages_of}
use Rattle.version_model.specs.Pages.{ColumnNode, CurrentLeaf, all_keys}
use Rattle.version_model.specs.Ranges.{high_or}
use Rattle.tsb_node.specs.Views.{PageRepresents}
use Rattle.tsb_tree.specs.declared.whole.Whole.{Whole}
use Rattle.tsb_tree.specs.Refusals.{CreateRefusal, of_page}
use Rattle.tsb_tree.specs.Wholes.{keys, column_node, leaf_node, keys_of_whole}

not_not : (b : Bool) → b ≡ not (not b)
not_not true = refl
not_not false = refl

pub without_few : (ns old : List ℕ) → length (without ns old) ≤ length old
without_few ns old = let both = length-filter_both (λ n. not (is_among n ns)) (λ n. is_among n ns) (λ n. not_not (is_among n ns)) old in omega (arith, both)

-- a refusal to lay two images
pub lay_refused : (e : PageError) (homes next : ℕ) (named : List ℕ) (images : List Image) → length images ≤ 2 → next + 2 ≤ homes → LayRefusal homes (next + 2) (length (joined named (pages_of images))) e → CreateRefusal homes next (length named) (of_page e)
lay_refused Fault homes next named images few fits is = is
lay_refused NeedsRecovery homes next named images few fits is = is
lay_refused TooManyImages homes next named images few fits is = (fits, omega (arith, is.1, length_joined named (pages_of images), without_few named (pages_of images), length_pages_of images, few))
lay_refused PagesFull homes next named images few fits is = absurd (omega (arith, is, fits))
lay_refused OutOfMemory homes next named images few fits is = fits

-- an empty column, and its leaf
pub first_column : (w : Whole) (current : ℕ) (octets : List ℕ) → w.low ≡ 0 → w.high ≡ None → w.parts.items ≡ [] → w.start ≡ 0 → PageRepresents octets (column_node w current) → PageRepresents octets (ColumnNode all_keys [] 0 current)
first_column w current octets low high parts start represents_node =
    let k : keys_of_whole w ≡ all_keys = ap (λ x. keys x (high_or w.high)) low ∙ ap (λ x. keys 0 (high_or x)) high in
    let same : column_node w current ≡ ColumnNode all_keys [] 0 current = ap (λ x. ColumnNode x w.parts.items w.start current) k ∙ ap (λ x. ColumnNode all_keys x w.start current) parts ∙ ap (λ x. ColumnNode all_keys [] x current) start in
    subst (PageRepresents octets) same represents_node

pub first_leaf : (w : Whole) (octets : List ℕ) → w.low ≡ 0 → w.high ≡ None → w.start ≡ 0 → w.leaf ≡ [] → PageRepresents octets (leaf_node w) → PageRepresents octets (CurrentLeaf all_keys 0 [])
first_leaf w octets low high start leaf represents_node =
    let k : keys_of_whole w ≡ all_keys = ap (λ x. keys x (high_or w.high)) low ∙ ap (λ x. keys 0 (high_or x)) high in
    let same : leaf_node w ≡ CurrentLeaf all_keys 0 [] = ap (λ x. CurrentLeaf x w.start w.leaf) k ∙ ap (λ x. CurrentLeaf all_keys x w.leaf) start ∙ ap (λ x. CurrentLeaf all_keys 0 x) leaf in
    subst (PageRepresents octets) same represents_node
