use Rattle.std.proofs.Common.{◌≡◌, ◌∙◌, ℕ, List, Some, None, ap, subst, drop}
use Rattle.tsb_node.specs.inner.Fields.{number_in}
use Rattle.tsb_node.specs.inner.Reading.{area, versions_in}
use Rattle.tsb_node.specs.inner.Scanning.{IsLast, IsBroken}
use Rattle.tsb_node.proofs.Scanning.{scanned, scanned_none, broken_none, found_is}
use Rattle.tsb_node.proofs.leaf.find_written.Goals as goal

pub returns-in_err-rest : goal.returns-in_err-rest
returns-in_err-rest c =
    let there : c.split_at-2.result.1.now ≡ area c.args.octets.now = c.split_at-2.ensures.back ∙ ap (drop 120) c.split_at.ensures.front in
    record {
      found = λ leaf is. absurd (broken_none leaf c.args.octets.now
          (subst (λ (t : List ℕ). IsBroken t (number_in 2 4 c.args.octets.now)) there
          (subst (λ (n : ℕ). IsBroken c.split_at-2.result.1.now n) c.number2-count.ensures.number c.in_err-rest.ensures.broken)) is);
    }

pub returns-in-Some : goal.returns-in-Some
returns-in-Some c =
    let there : c.split_at-2.result.1.now ≡ area c.args.octets.now = c.split_at-2.ensures.back ∙ ap (drop 120) c.split_at.ensures.front in
    let last = rw c.in-Some.is at c.in_ok-rest.ensures.last in
    let key = c.args.key in
    let moved = subst (λ (t : List ℕ). IsLast (versions_in (number_in 2 4 c.args.octets.now) t) t key c.args.stamp (number_in 2 4 c.args.octets.now) (Some c.in-Some.rest)) there
    (subst (λ (n : ℕ). IsLast (versions_in n c.split_at-2.result.1.now) c.split_at-2.result.1.now key c.args.stamp n (Some c.in-Some.rest)) c.number2-count.ensures.number last) in
    record {
      found = λ leaf is. found_is leaf.versions key c.args.stamp c.in-Some.rest c.found_at.result
          c.as_slice.result.now c.as_slice.ensures.octets c.found_at.ensures.stamp c.found_at.ensures.value (scanned leaf c.args.octets.now key c.args.stamp c.in-Some.rest is moved);
    }

pub returns-in-None : goal.returns-in-None
returns-in-None c =
    let there : c.split_at-2.result.1.now ≡ area c.args.octets.now = c.split_at-2.ensures.back ∙ ap (drop 120) c.split_at.ensures.front in
    let last = rw c.in-None.is at c.in_ok-rest.ensures.last in
    let moved = subst (λ (t : List ℕ). IsLast (versions_in (number_in 2 4 c.args.octets.now) t) t c.args.key c.args.stamp (number_in 2 4 c.args.octets.now) None) there
    (subst (λ (n : ℕ). IsLast (versions_in n c.split_at-2.result.1.now) c.split_at-2.result.1.now c.args.key c.args.stamp n None) c.number2-count.ensures.number last) in
    record { found = λ leaf is v holds. scanned_none leaf c.args.octets.now c.args.key c.args.stamp is moved v holds }
