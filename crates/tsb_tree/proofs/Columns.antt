-- A column that stands is what its pages represent, and what is laid of it is planned.
use Rattle.std.proofs.Common.{◌≡◌, ℕ, ◌<◌, inl, inr, List, [], ◌∷◌, ◌++◌, Some, Result, Ok, Err, IfOk, slice_get, refl, sym, ◌∙◌, ap, subst, arith}
use Rattle.std.proofs.lemmas.Option.{same_Some}
use Rattle.tsb_node.specs.declared.column.Current.{Current}
use Rattle.tsb_node.specs.Views.{PageRepresents, represents_leaf}
use Rattle.tsb_node.proofs.api.Pages.{one_decoded}
use Rattle.tsb_node.specs.Leaves.{IsLeafPage, IsVersionOf}
use Rattle.tsb_node.specs.Columns.{ColumnInPage, IsColumn, BeginsAt, starts_of}
use Rattle.tsb_walk.specs.declared.page_place.PagePlace.{PagePlace}
use Rattle.tsb_walk.specs.declared.page_steps.ColumnSpot.{ColumnSpot}
use Rattle.tsb_walk.specs.declared.page_steps.ColumnSpot.TheVariants.{InPast}
use Rattle.tsb_walk.specs.inner.PageSteps.{IsSpotOf}
use Rattle.tsb_walk.specs.Shown.{RepresentsNode, RepresentNodes, keys_at}
use Rattle.version_model.specs.declared.bounds.Bounds.{Bounds}
use Rattle.version_model.specs.declared.part.Part.{Part}
use Rattle.version_model.specs.declared.part.Place.{Place}
use Rattle.version_model.specs.Blocks.{IsPartOf}
use Rattle.version_model.specs.Ranges.{range_of}
use Rattle.version_model.specs.Versions.{Version, Has}
use Rattle.version_model.specs.Pages.{PageNode, ColumnNode, CurrentLeaf, ColumnRepresents, Store, NodeRepresentsIn, past_range}
use Rattle.version_model.proofs.api.Pushed.{no_at_nil}
use Rattle.version_model.proofs.api.Representing.{column_of}
use Rattle.tsb_tree.specs.declared.whole.Whole.{Whole}
use Rattle.tsb_tree.specs.Read.{IsColumnFor, RepresentsColumn}
use Rattle.tsb_tree.specs.Shapes.{IsWhole, bounds_from, leaf_in_page}
use Rattle.tsb_tree.specs.Wholes.{IsAt, column_node, leaf_node}
use Rattle.tsb_tree.proofs.Representing.{each_get}

-- a page that is shown represents what its octets represent
pub one_shown : (shown : List (List ℕ)) (page : ℕ) (octets : List ℕ) (a b : PageNode) → slice_get shown page ≡ Some octets → PageRepresents octets a → RepresentsNode shown page b → a ≡ b
one_shown shown page octets a b at p q = one_decoded octets a b p (subst (λ (o : List ℕ). PageRepresents o b) (same_Some _ _ (sym q.at ∙ at)) q.represents_node)

pub represents_one : (shown : List (List ℕ)) (page : ℕ) (a b : PageNode) → RepresentsNode shown page a → RepresentsNode shown page b → a ≡ b
represents_one shown page a b p q = one_shown shown page p.octets a b p.at p.represents_node q

module _ (s : Store) (all : List Version) (place : PagePlace) (shown : List (List ℕ)) (level : place.level ≡ 1) (are : RepresentNodes shown s.nodes) (represents_all : NodeRepresentsIn s all place.level (keys_at place) place.page) where
  pub column : ColumnRepresents s.nodes s.limit s.blocks s.next all (keys_at place) place.page
  column = column_of s.nodes s.limit s.blocks s.next all place.level (keys_at place) place.page level represents_all

  -- a column in memory is the one that stands
  pub is_at : (w : Whole) (current : ℕ) (image : List ℕ) → RepresentsNode shown place.page (column_node w current) → slice_get shown current ≡ Some image → IsLeafPage (leaf_in_page w) image → IsAt s.nodes place.page current w
  is_at w current image represents_node at_leaf leaf =
      let c = column in
      let decoded : column_node w current ≡ ColumnNode (keys_at place) c.parts c.start c.current = represents_one shown place.page _ _ represents_node (are place.page _ c.at) in
      let e : c.current ≡ current = cc in
      let at_current : s.nodes current ≡ Some (CurrentLeaf (keys_at place) c.start c.versions) = ap s.nodes (sym e) ∙ c.at_current in
      let decoded_leaf : leaf_node w ≡ CurrentLeaf (keys_at place) c.start c.versions = one_shown shown current image _ _ at_leaf (represents_leaf (leaf_in_page w) leaf) (are current _ at_current) in
      record { at = c.at ∙ ap Some (sym decoded); at_current = at_current ∙ ap Some (sym decoded_leaf) }

  -- a column that stands is shown, with its current leaf
  pub column_shown : (stamp : ℕ) → ((v : Version) → Has all v → v.stamp < stamp) → RepresentsColumn shown place stamp
  column_shown stamp above =
      let c = column in
      record {
        parts = c.parts;
        start = c.start;
        current = c.current;
        next = s.next;
        versions = c.versions;
        column = are place.page _ c.at;
        leaf = are c.current _ c.at_current;
        are_parts = elim c.past.are_parts [ inl none ↦ inl none.0 | inr parts ↦ inr parts ];
        before = elim (c.started stamp above) [ inl lt ↦ omega (arith, lt) | inr e ↦ omega (arith, e) ];
      }

-- where the parts follow one another up to the current leaf, a stamp that isn't before it lies in none of them
pub past_not : (octets : List ℕ) (place : PagePlace) (key stamp : ℕ) (spot : ColumnSpot) (past : Place) (parts : List Part) (start current next : ℕ) → spot ≡ InPast past → IsSpotOf place parts start current key stamp spot
    → IsColumnFor octets place stamp parts start current next → ⊥
past_not octets place key stamp spot past parts start current next e there col =
    let is : IsSpotOf place parts start current key stamp (InPast past) = subst (IsSpotOf place parts start current key stamp) e there in
    elim col.are_parts [
      | inl none ↦ no_at_nil is.0.place past.part (subst (λ (ps : List Part). slice_get ps is.0.place ≡ Some past.part) none is.0.at)
      | inr are ↦ (let inside = are.inside _ _ is.0 in let before = is.1.end in absurd (omega (arith, inside.1, before, col.before)))
    ]

-- what was read of a column and its leaf fits a page
pub whole_read : (w : Whole) (decoded : ColumnInPage) (image : List ℕ) → IsColumn decoded → w.parts.items ≡ decoded.parts → w.start ≡ decoded.current.start → IsLeafPage (leaf_in_page w) image → IsWhole w
whole_read w decoded image column parts start leaf = record {
  order = record { high = leaf.valid.bounds.order.high; end = tt };
  each = λ v h.
      (let short = (each_get (IsVersionOf (bounds_from w.low w.high w.start)) w.leaf h.place v leaf.valid.each h.is).short in
      record { low = short.low; high = short.high; size = short.size });
  follow = λ current. rw (parts, start) (record {
    from_first = refl;
    first = subst (λ (n : ℕ). BeginsAt n (starts_of decoded.parts ++ decoded.current.start ∷ [])) column.follow.from_first column.follow.first;
    rising = column.follow.rising;
    fits = column.follow.fits;
  });
}

-- the leaf of a page is current
pub leaf_at : (b : Bounds) (versions : List Version) (image : List ℕ) → IsLeafPage (record { bounds = b; versions = versions }) image → IsLeafPage (record { bounds = bounds_from b.low b.high b.start; versions = versions }) image
leaf_at b versions image leaf =
    let same : b ≡ bounds_from b.low b.high b.start = λ i. record { low = b.low; high = b.high; start = b.start; end = leaf.current i } in
    subst (λ (x : Bounds). IsLeafPage (record { bounds = x; versions = versions }) image) same leaf

pub decoded_at : (shown : List (List ℕ)) (page : ℕ) (octets : List ℕ) (node : PageNode) → slice_get shown page ≡ Some octets → RepresentsNode shown page node → PageRepresents octets node
decoded_at shown page octets node at represents_node = subst (λ (o : List ℕ). PageRepresents o node) (same_Some _ _ (sym represents_node.at ∙ at)) represents_node.represents_node

-- what an answer represents, of what it represented before
pub ok_map : {A E : Type 0} (P Q : A → Type 0) (r : Result A E) → ((x : A) → P x → Q x) → IfOk r P → IfOk r Q
ok_map P Q (Ok x) f h = f x h
ok_map P Q (Err e) f h = tt

pub ok_both : {A E : Type 0} (P Q R : A → Type 0) (r : Result A E) → ((x : A) → P x → Q x → R x) → IfOk r P → IfOk r Q → IfOk r R
ok_both P Q R (Ok x) f h k = f x h k
ok_both P Q R (Err e) f h k = tt

-- the image of the page where a column has its current leaf represents that leaf
pub current_represents : (shown : List (List ℕ)) (place : PagePlace) (found : Current) (stamp : ℕ) (image : List ℕ) (is : RepresentsColumn shown place stamp) → found.start ≡ is.start → found.page ≡ is.current → slice_get shown found.page ≡ Some image
    → PageRepresents image (CurrentLeaf (keys_at place) found.start is.versions)
current_represents shown place found stamp image is start page at =
    decoded_at shown found.page image _ at
    (subst (λ (n : ℕ). RepresentsNode shown n (CurrentLeaf (keys_at place) found.start is.versions)) (sym page) (subst (λ (b : ℕ). RepresentsNode shown is.current (CurrentLeaf (keys_at place) b is.versions)) (sym start) is.leaf))
