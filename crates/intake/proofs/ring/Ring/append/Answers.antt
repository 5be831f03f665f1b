use Rattle.std.proofs.Common.{◌≡◌, ◌≤◌, ◌+◌, ◌<◌, ◌++◌, ℕ, Bool, Result, Ok, Err, IfErr, List, length, arith, rules, refl, sym, ◌∙◌, ap, subst, length-append}
use Rattle.std.specs.List.{flat_map, sum_by}
use Rattle.std.proofs.lemmas.Grind.{flat_map-append}
use Rattle.page_journal.specs.Layout.{pages_of}
use Rattle.page_journal.specs.Recovers.{laid}
use Rattle.page_tx.specs.declared.error.PageError.{PageError}
use Rattle.page_tx.specs.declared.error.PageError.TheVariants as refusals
use Rattle.page_tx.specs.Images.{joined}
use Rattle.page_tx.specs.Refusals.{LayRefusal}
use Rattle.page_tx.specs.inner.Laid.{length_laid}
use Rattle.route_model.specs.Admission.{Admitted}
use Rattle.intake.specs.declared.error.IntakeError.{IntakeError}
use Rattle.intake.specs.declared.error.IntakeError.TheVariants as intakes
use Rattle.intake.specs.declared.ring.Ring.{Ring}
use Rattle.intake.specs.Ring.{entry, entry_octets, octets_for, HasOctets, RingRepresents}
use Rattle.intake.specs.Calls.{AppendRefusal, most_pages}
use Rattle.intake.proofs.Entries.{valid_both}
use Rattle.intake.proofs.Images.{are_below, are_distinct, joined_few, laid_changes}
use Rattle.intake.proofs.Spanning.{lists_after, distinct_joined}
use Rattle.intake.proofs.Unique.{octets_sum}
use Rattle.intake.proofs.ring.Ring.append.Goals as goal

pub lay-requires-clause-below : goal.lay-requires-clause-below
lay-requires-clause-below g c =
    let n = c.in_ok-images.ensures.numbers in
    let ring = c.args.self.now in
    are_below ring.low ring.count n.0 (g.P.Pages.homes c.draft.new.pages) (pages_of c.in_ok-images.images.items) n.1 (let i = c.requires.ring.inside in omega (arith, c.draft.ensures.same.homes)) n.2

pub lay-requires-clause-distinct : goal.lay-requires-clause-distinct
lay-requires-clause-distinct g c =
    let n = c.in_ok-images.ensures.numbers in
    let ring = c.args.self.now in
    are_distinct ring.low ring.count n.0 (pages_of c.in_ok-images.images.items) n.1 n.2

lay_refused : (down : Bool) (homes unused some first count all : ℕ) (refusal : PageError) → some ≡ homes → first ≡ unused → count ≤ all → LayRefusal some first count refusal → AppendRefusal down homes unused all (intakes.Pages refusal)
lay_refused down homes unused some first count all refusals.Fault h u few reported = absurd reported
lay_refused down homes unused some first count all refusals.NeedsRecovery h u few reported = absurd reported
lay_refused down homes unused some first count all refusals.TooManyImages h u few reported = let t = reported.1 in omega arith
lay_refused down homes unused some first count all refusals.PagesFull h u few reported = omega arith
lay_refused down homes unused some first count all refusals.OutOfMemory h u few reported = tt

if_err : {T : Type 0} (r : Result T IntakeError) (e : IntakeError) (P : IntakeError → Type 0) → IfErr r (λ x. x ≡ e) → P e → IfErr r P
if_err (Ok x) e P is p = tt
if_err (Err x) e P is p = subst P (sym is) p

pub returns-in_err-lay-clause-refused : goal.returns-in_err-lay-clause-refused
returns-in_err-lay-clause-refused g c =
    let same = c.draft.ensures.same in
    let named = ap length same.named in
    let few = joined_few (g.P.Pages.named c.draft.new.pages) c.in_ok-images.images.items in
    let octets = ap most_pages c.in-Some.ensures.octets in
    let is : IfErr c.from_residual-in_err-lay.result (λ e. e ≡ intakes.Pages c.in_err-lay.field-0.0) = search rules in
    if_err c.from_residual-in_err-lay.result (intakes.Pages c.in_err-lay.field-0.0)
    (AppendRefusal (g.P.Pages.down c.args.pages.now) (g.P.Pages.homes c.args.pages.now) (g.P.Pages.next c.args.pages.now) (length (g.P.Pages.named c.args.pages.now) + most_pages (octets_for c.args.batch.now))) is
    (lay_refused (g.P.Pages.down c.args.pages.now) (g.P.Pages.homes c.args.pages.now) (g.P.Pages.next c.args.pages.now) (g.P.Pages.homes c.draft.new.pages) c.next_page-unused.result
    (length (joined (g.P.Pages.named c.draft.new.pages) (pages_of c.in_ok-images.images.items))) (length (g.P.Pages.named c.args.pages.now) + most_pages (octets_for c.args.batch.now)) c.in_err-lay.field-0.0
    same.homes (c.next_page-unused.ensures ∙ same.next) (omega (arith, named, few, octets, c.in_ok-images.ensures.few)) c.in_err-lay.ensures.refused)

pub returns-clause-appended : goal.returns-clause-appended
returns-clause-appended g c start shown waits are holds =
    let ring = c.args.self.now in
    let batch = c.args.batch.now in
    let items = c.in_ok-images.images.items in
    let n = c.in_ok-images.ensures.numbers in
    let both = flat_map-append entry waits batch in
    let long = length-append (flat_map entry waits) (flat_map entry batch) in
    let len = ap length both in
    let size = holds.size in
    let octets = c.in-Some.ensures.octets in
    let after : Ring = record ring { used = ring.used + c.in-Some.octets } in
    let now : RingRepresents (laid items shown) after (waits ++ batch) =
    record {
      valid = valid_both waits batch holds.valid c.in_ok-images.ensures.valid;
      size = omega arith;
      octets = subst (λ (l : List ℕ). HasOctets (laid items shown) after l) (sym both) (c.in_ok-images.ensures.represents_all start shown (flat_map entry waits) are holds.size holds.octets);
    } in
    record {
      pages = laid items shown;
      shown = c.in_ok-lay.ensures.ok start shown (c.draft.ensures.same.shown start shown are);
      changes = (let ch = laid_changes ring n.0 items shown n.1 n.2 in record { count = ch.count; below = ch.below; above = ch.above });
      represents_all = (let count = g.met.P.Pages.count c.args.pages.now start shown are in let length = length_laid items shown in let r = c.requires.ring in let room = c.in-Some.ensures.some in record {
        place = record { inside = (let i = r.inside in omega arith); small = r.small; few = r.few; start = r.start; used = (let u = r.used in omega (arith, c.free.ensures)) };
        holds = now;
        only = λ others other. c.rings_hold_one_list.ensures.one after (laid items shown) others (waits ++ batch) other now;
      });
    }

pub returns-clause-added : goal.returns-clause-added
returns-clause-added g c start shown are =
    let ring = c.args.self.now in
    let items = c.in_ok-images.images.items in
    let n = c.in_ok-images.ensures.numbers in
    record {
      pages = laid items shown;
      shown = c.in_ok-lay.ensures.ok start shown (c.draft.ensures.same.shown start shown are);
      outside = (let ch = laid_changes ring n.0 items shown n.1 n.2 in record { count = ch.count; below = ch.below; above = ch.above });
      beyond = λ used long stand. c.in_ok-images.ensures.represents_all start shown used are long stand;
    }

pub returns-clause-few : goal.returns-clause-few
returns-clause-few g c =
    let same = c.draft.ensures.same in
    let named = ap length same.named in
    let few = joined_few (g.P.Pages.named c.draft.new.pages) c.in_ok-images.images.items in
    let octets = ap most_pages c.in-Some.ensures.octets in
    let now = ap length c.in_ok-lay.ensures.named in
    omega (arith, named, few, octets, now, c.in_ok-images.ensures.few)

pub returns-clause-set : goal.returns-clause-set
returns-clause-set g c =
    lists_after c.args.self.now c.in-Some.octets (octets_for c.args.batch.now) (g.P.Pages.named c.draft.new.pages) (g.P.Pages.named c.args.pages.now) (g.P.Pages.named c.lay.new.self) (pages_of c.in_ok-images.images.items) c.draft.ensures.same.named c.in_ok-lay.ensures.named c.in-Some.ensures.octets c.in_ok-images.ensures.beyond

within : (batch : List Admitted) (octets : ℕ) → octets_for batch ≡ octets → octets ≤ 262144 → most_pages (octets_for batch) ≤ 17
within batch octets is small = omega arith

pub returns-clause-few_of_batch : goal.returns-clause-few_of_batch
returns-clause-few_of_batch g c small =
    let same = c.draft.ensures.same in
    let named = ap length same.named in
    let few = joined_few (g.P.Pages.named c.draft.new.pages) c.in_ok-images.images.items in
    let octets = ap most_pages c.in-Some.ensures.octets in
    let now = ap length c.in_ok-lay.ensures.named in
    let most = within c.args.batch.now (sum_by entry_octets c.args.batch.now) (octets_sum c.args.batch.now) small in
    omega (arith, named, few, octets, now, c.in_ok-images.ensures.few)

too_many : {T : Type 0} (r : Result T IntakeError) (x : PageError) → IfErr r (λ e. e ≡ intakes.Pages x) → r ≡ Err (intakes.Pages refusals.TooManyImages) → x ≡ refusals.TooManyImages
too_many {T} r x is e = let same : intakes.Pages refusals.TooManyImages ≡ intakes.Pages x = subst (λ (s : Result T IntakeError). IfErr s (λ y. y ≡ intakes.Pages x)) e is in cc

many : (homes first count : ℕ) (x : PageError) → x ≡ refusals.TooManyImages → LayRefusal homes first count x → 31 < count
many homes first count x e reported = (subst (LayRefusal homes first count) e reported).1

pub returns-in_err-lay-clause-room : goal.returns-in_err-lay-clause-room
returns-in_err-lay-clause-room g c too =
    let items = c.in_ok-images.images.items in
    let held = g.P.Pages.named c.draft.new.pages in
    let old = g.P.Pages.named c.args.pages.now in
    let n = c.in_ok-images.ensures.numbers in
    let ring = c.args.self.now in
    let is : IfErr c.from_residual-in_err-lay.result (λ e. e ≡ intakes.Pages c.in_err-lay.field-0.0) = search rules in
    record {
      all = joined held (pages_of items);
      distinct = distinct_joined held (pages_of items) (g.met.P.Pages.distinct c.draft.new.pages) (are_distinct ring.low ring.count n.0 (pages_of items) n.1 n.2);
      lists = lists_after ring c.in-Some.octets (octets_for c.args.batch.now) held old (joined held (pages_of items)) (pages_of items) c.draft.ensures.same.named refl c.in-Some.ensures.octets c.in_ok-images.ensures.beyond;
      many = many _ _ _ c.in_err-lay.field-0.0 (too_many c.from_residual-in_err-lay.result c.in_err-lay.field-0.0 is too) c.in_err-lay.ensures.refused;
    }

pub returns-in_err-lay-clause-room_of_batch : goal.returns-in_err-lay-clause-room_of_batch
returns-in_err-lay-clause-room_of_batch g c small few too =
    let held = g.P.Pages.named c.draft.new.pages in
    let named = ap length c.draft.ensures.same.named in
    let joint = joined_few held c.in_ok-images.images.items in
    let octets = ap most_pages c.in-Some.ensures.octets in
    let most = within c.args.batch.now (sum_by entry_octets c.args.batch.now) (octets_sum c.args.batch.now) small in
    let is : IfErr c.from_residual-in_err-lay.result (λ e. e ≡ intakes.Pages c.in_err-lay.field-0.0) = search rules in
    let over = many _ _ _ c.in_err-lay.field-0.0 (too_many c.from_residual-in_err-lay.result c.in_err-lay.field-0.0 is too) c.in_err-lay.ensures.refused in
    absurd (omega (arith, named, joint, octets, most, over, few, c.in_ok-images.ensures.few))
