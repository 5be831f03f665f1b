use Rattle.std.proofs.Common.{◌≡◌, ◌∙◌, ap, refl, sym, subst}
use Rattle.tsb_node.specs.Parts.{BeginsAsColumn}
use Rattle.tsb_node.specs.Views.{keys_between}
use Rattle.tsb_node.proofs.api.Pages.{column_begins}
use Rattle.tsb_walk.specs.Shown.{keys_at}
use Rattle.tsb_walk.proofs.OnePage.{decoded_column_page, spot_as, none_as}
use Rattle.tsb_walk.proofs.page_steps.spot_in.Goals as goal

pub returns-in_default-clause-none : goal.returns-in_default-clause-none
returns-in_default-clause-none c = λ parts start current represents_node.
    let decoded = decoded_column_page c.args.page.now _ represents_node (keys_at c.args.place.now) parts start current refl in
    absurd (c.in_default.not-Ok _ (c.column_head.ensures.column decoded.column (subst (BeginsAsColumn decoded.column) (sym c.octets.ensures.value) (column_begins decoded.column c.args.page.now decoded.page))))

pub returns-then-not-are_its_keys-clause-none : goal.returns-then-not-are_its_keys-clause-none
returns-then-not-are_its_keys-clause-none c = λ parts start current represents_node.
    let decoded = decoded_column_page c.args.page.now _ represents_node (keys_at c.args.place.now) parts start current refl in
    let head = c.column_head.ensures.column decoded.column (subst (BeginsAsColumn decoded.column) (sym c.octets.ensures.value) (column_begins decoded.column c.args.page.now decoded.page)) in
    let bounds : c.in-Ok.bounds ≡ decoded.column.bounds = cc (c.in-Ok.is, head) in
    absurd (cc (c.are_its_keys.ensures.1 (ap keys_between bounds ∙ decoded.keys_are), c.if-not-are_its_keys.true))

pub returns-in_default-spot_for-clause-none : goal.returns-in_default-spot_for-clause-none
returns-in_default-spot_for-clause-none c = λ parts start current represents_node.
    let decoded = decoded_column_page c.args.page.now _ represents_node (keys_at c.args.place.now) parts start current refl in
    absurd (c.in_default-spot_for.ensures.spot decoded.column (subst (BeginsAsColumn decoded.column) (sym c.octets-2.ensures.value) (column_begins decoded.column c.args.page.now decoded.page)))

pub returns-clause-spot : goal.returns-clause-spot
returns-clause-spot c = λ parts start current represents_node.
    let decoded = decoded_column_page c.args.page.now _ represents_node (keys_at c.args.place.now) parts start current refl in
    let spot = c.in-Ok-spot_for.ensures.spot decoded.column (subst (BeginsAsColumn decoded.column) (sym c.octets-2.ensures.value) (column_begins decoded.column c.args.page.now decoded.page)) in
    spot_as c.column_spot.result c.args.place.now decoded.column parts start current c.args.key c.args.stamp decoded.parts_are decoded.start_is decoded.page_is (c.column_spot.ensures.spot decoded.column decoded.keys_are spot)

pub returns-clause-none : goal.returns-clause-none
returns-clause-none c = none_as c.column_spot.result _ _ (λ never. λ parts start current represents_node. (
    let decoded = decoded_column_page c.args.page.now _ represents_node (keys_at c.args.place.now) parts start current refl in
    never decoded.column (c.in-Ok-spot_for.ensures.spot decoded.column (subst (BeginsAsColumn decoded.column) (sym c.octets-2.ensures.value) (column_begins decoded.column c.args.page.now decoded.page))))) c.column_spot.ensures.none
