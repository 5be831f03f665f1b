use Rattle.std.proofs.Common.{◌≡◌, ◌∙◌, List, arith, ap, refl, sym, subst}
use Rattle.version_model.specs.declared.child.Child.{Child}
use Rattle.tsb_node.specs.Children.{BeginsAsKeyNode}
use Rattle.tsb_node.specs.Views.{keys_between}
use Rattle.tsb_node.proofs.api.Pages.{key_node_begins}
use Rattle.tsb_walk.specs.Shown.{keys_at}
use Rattle.tsb_walk.specs.inner.PageSteps.{IsChildAt}
use Rattle.tsb_walk.proofs.OnePage.{key_node_decoded, key_within, child_is, child_has}
use Rattle.tsb_walk.proofs.page_steps.child_in.Goals as goal

pub child_place-next-requires : goal.child_place-next-requires
child_place-next-requires c = record { above = omega (arith, c.in-Ok.ensures.level.0, c.if-head-place.false) }

pub returns-in_default-clause-none : goal.returns-in_default-clause-none
returns-in_default-clause-none c = λ children represents_node.
    let decoded = key_node_decoded c.args.page.now _ represents_node c.args.place.now.level (keys_at c.args.place.now) children refl in
    let head = c.key_node_head.ensures.head decoded.node (subst (BeginsAsKeyNode decoded.node) (sym c.octets.ensures.value) (key_node_begins decoded.node c.args.page.now decoded.page)) in
    absurd (c.in_default.not-Ok _ head)

pub returns-then-head-place-clause-none : goal.returns-then-head-place-clause-none
returns-then-head-place-clause-none c = λ children represents_node.
    let decoded = key_node_decoded c.args.page.now _ represents_node c.args.place.now.level (keys_at c.args.place.now) children refl in
    let head = c.key_node_head.ensures.head decoded.node (subst (BeginsAsKeyNode decoded.node) (sym c.octets.ensures.value) (key_node_begins decoded.node c.args.page.now decoded.page)) in
    let level : c.in-Ok.head.level ≡ decoded.node.level = cc (c.in-Ok.is, head) in
    c.if-head-place.true (level ∙ decoded.level_is)

pub returns-then-not-are_its_keys-clause-none : goal.returns-then-not-are_its_keys-clause-none
returns-then-not-are_its_keys-clause-none c = λ children represents_node.
    let decoded = key_node_decoded c.args.page.now _ represents_node c.args.place.now.level (keys_at c.args.place.now) children refl in
    let head = c.key_node_head.ensures.head decoded.node (subst (BeginsAsKeyNode decoded.node) (sym c.octets.ensures.value) (key_node_begins decoded.node c.args.page.now decoded.page)) in
    let bounds : c.in-Ok.head.bounds ≡ decoded.node.bounds = cc (c.in-Ok.is, head) in
    absurd (cc (c.are_its_keys.ensures.1 (ap keys_between bounds ∙ decoded.keys_are), c.if-not-are_its_keys.true))

pub returns-in_default-child_for-clause-none : goal.returns-in_default-child_for-clause-none
returns-in_default-child_for-clause-none c = λ children represents_node.
    let decoded = key_node_decoded c.args.page.now _ represents_node c.args.place.now.level (keys_at c.args.place.now) children refl in
    let begins = subst (BeginsAsKeyNode decoded.node) (sym c.octets-2.ensures.value) (key_node_begins decoded.node c.args.page.now decoded.page) in
    absurd (c.in_default-child_for.ensures.under decoded.node begins (key_within decoded.node.bounds c.args.place.now c.args.key decoded.keys_are c.requires.has))

pub returns-then-not-has-clause-none : goal.returns-then-not-has-clause-none
returns-then-not-has-clause-none c = λ children represents_node.
    let decoded = key_node_decoded c.args.page.now _ represents_node c.args.place.now.level (keys_at c.args.place.now) children refl in
    let begins = subst (BeginsAsKeyNode decoded.node) (sym c.octets-2.ensures.value) (key_node_begins decoded.node c.args.page.now decoded.page) in
    let under = c.in-Ok-child_for.ensures.under decoded.node begins (key_within decoded.node.bounds c.args.place.now c.args.key decoded.keys_are c.requires.has) in
    let has = child_has decoded.node c.child_place-next.result c.args.key c.in-Ok-child_for.under (omega (arith, c.key_fits.ensures.fits)) under c.child_place-next.ensures.low c.child_place-next.ensures.high in
    absurd (cc (c.has.ensures.1 has, c.if-not-has.true))

pub returns-clause-child : goal.returns-clause-child
returns-clause-child c = λ children represents_node.
    let decoded = key_node_decoded c.args.page.now _ represents_node c.args.place.now.level (keys_at c.args.place.now) children refl in
    let begins = subst (BeginsAsKeyNode decoded.node) (sym c.octets-2.ensures.value) (key_node_begins decoded.node c.args.page.now decoded.page) in
    let under = c.in-Ok-child_for.ensures.under decoded.node begins (key_within decoded.node.bounds c.args.place.now c.args.key decoded.keys_are c.requires.has) in
    subst (λ (cs : List Child). IsChildAt c.args.place.now cs c.child_place-next.result) decoded.same
    (child_is decoded.node c.args.place.now c.child_place-next.result c.args.key c.in-Ok-child_for.under decoded.keys_are under c.child_place-next.ensures.page c.child_place-next.ensures.low c.child_place-next.ensures.high)
