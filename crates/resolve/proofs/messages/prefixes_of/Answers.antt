use Rattle.std.proofs.Common.{◌≡◌, List, Option, sym, subst}
use Rattle.std.specs.BTreeSet.{contains, IsFromIterResult}
use Rattle.std.specs.List.{list_any}
use Rattle.std.specs.Result.{IfOk}
use Rattle.std.proofs.lemmas.Result.{IfOk-weaker}
use Rattle.route_model.specs.Prefix.{IpPrefix}
use Rattle.route_model.specs.contracts.prefix.PrefixOrd.TheImpl as prefix_ord
use Rattle.route_meaning.specs.Holds.{same_prefix}
use Rattle.bgp_update.specs.declared.update.Announcement.{Announcement}
use Rattle.bgp_update.specs.Messages.{option_reported}
use Rattle.resolve.specs.Changes.{is_among}
use Rattle.resolve.proofs.PrefixSets.{set_has}
use Rattle.resolve.proofs.messages.prefixes_of.Goals as goal

pub returns-in-Some : goal.returns-in-Some
returns-in-Some c =
    let prefixes = c.in-Some.announcement.prefixes.items in
    let made : IfOk c.set_of.result (IsFromIterResult (prefix_ord.cmp-value).it prefixes) =
    subst (λ (t : List IpPrefix). IfOk c.set_of.result (IsFromIterResult (prefix_ord.cmp-value).it t)) c.deref.ensures.value c.set_of.ensures in
    subst (λ (o : Option Announcement). IfOk c.set_of.result (λ set. (x : IpPrefix) → contains (prefix_ord.cmp-value).it set x ≡ is_among (option_reported o) x)) (sym c.in-Some.is)
    (IfOk-weaker c.set_of.result (IsFromIterResult (prefix_ord.cmp-value).it prefixes) (λ set. (x : IpPrefix) → contains (prefix_ord.cmp-value).it set x ≡ list_any (λ y. same_prefix x y) prefixes) (λ set is x. set_has set prefixes x is) made)
