use Rattle.std.proofs.Common.{◌≡◌, ◌<◌, ◌∙◌, ⊎_elim, ℕ, List, [], ◌∷◌, ◌++◌, length, Option, None, Some, IfSome, ap, sym, subst, arith, length-append}
use Rattle.std.specs.List.{AllByRecursion, slice_get}
use Rattle.std.proofs.lemmas.Option.{slice_get-get_or}
use Rattle.page_journal.specs.Layout.{Image, pages_of}
use Rattle.page_journal.specs.Recovers.{laid}
use Rattle.page_journal.proofs.api.Kept.{kept_length}
use Rattle.page_tx.specs.inner.Placing.{with_image}
use Rattle.page_tx.specs.inner.Laid.{length_laid}
use Rattle.page_tx.proofs.Laying.{new_apart, not_listed}
use Rattle.page_tx.proofs.api.Laid.{shown_image, shown_other}
use Rattle.page_tx.proofs.tx.TxPages.page.Goals as goal

-- no image of the page is held
apart : (n : ℕ) (items from : List Image) → from ≡ items → from ++ (n, []) ∷ [] ≡ with_image n [] from → AllByRecursion (λ other. n ≡ other → ⊥) (pages_of items)
apart n items from is new =
    let here : items ++ (n, []) ∷ [] ≡ with_image n [] items = subst (λ (l : List Image). l ++ (n, []) ∷ [] ≡ with_image n [] l) is new in
    let long = length-append items ((n, []) ∷ []) in
    let len = ap length here in
    new_apart n [] items (omega (arith, long, len))

if_weaker : {A : Type 0} (o : Option A) (P Q : A → Type 0) → ((a : A) → P a → Q a) → IfSome o P → IfSome o Q
if_weaker None P Q so p = tt
if_weaker (Some a) P Q so p = so a p

pub returns-in-Some-clause-shown : goal.returns-in-Some-clause-shown
returns-in-Some-clause-shown g c start shown s lt =
    let self = c.args.self.now in
    let items = self.images.items in
    let k = c.in-Some.k in
    let image : Image = c.index.result.now in
    let value = c.deref.ensures.value in
    let long = ap length value in
    let some = c.in-Some.ensures.some in
    let low : k < length items = omega (arith, long, some) in
    let there : slice_get items k ≡ Some image = slice_get-get_or items k image low ∙ ap (λ (i : Image). Some i) (sym c.index.ensures) in
    let number : image.0 ≡ c.args.n = c.in-Some.ensures.number image (ap (λ (l : List Image). slice_get l k) value ∙ there) in
    let here : slice_get items k ≡ Some (c.args.n, image.1) = there ∙ ap (λ n. Some (n, image.1)) number in
    let count = kept_length g.D.EraseDisk self.pool.journal start.pages s.maps.keeps in
    let inside : c.args.n < length start.pages = omega (arith, lt, count) in
    let all = length_laid items start.pages in
    ap (λ (l : List (List ℕ)). slice_get l c.args.n) s.over
    ∙ slice_get-get_or (laid items start.pages) c.args.n [] (omega (arith, inside, all))
    ∙ ap (λ (p : List ℕ). Some p) (shown_image c.args.n k image.1 items start.pages self.distinct inside here)

pub returns-in-None-clause-there : goal.returns-in-None-clause-there
returns-in-None-clause-there g c there =
    let items = c.args.self.now.images.items in
    ⊎_elim
    (λ listed. absurd (not_listed c.args.n (pages_of items) (apart c.args.n items c.deref.result.now c.deref.ensures.value (c.in-None.ensures.none [])) listed))
    (λ resident. c.page.ensures.there resident)
    there

pub returns-in-None-clause-shown : goal.returns-in-None-clause-shown
returns-in-None-clause-shown g c start shown s lt =
    let self = c.args.self.now in
    let items = self.images.items in
    let count = kept_length g.D.EraseDisk self.pool.journal start.pages s.maps.keeps in
    let inside : c.args.n < length start.pages = omega (arith, lt, count) in
    let all = length_laid items start.pages in
    let same : slice_get shown c.args.n ≡ slice_get start.pages c.args.n =
    ap (λ (l : List (List ℕ)). slice_get l c.args.n) s.over
    ∙ slice_get-get_or (laid items start.pages) c.args.n [] (omega (arith, inside, all))
    ∙ ap (λ (p : List ℕ). Some p) (shown_other c.args.n items start.pages (apart c.args.n items c.deref.result.now c.deref.ensures.value (c.in-None.ensures.none [])))
    ∙ sym (slice_get-get_or start.pages c.args.n [] inside) in
    if_weaker c.page.result _ _ (λ page is. same ∙ is) (c.page.ensures.shown start.pages s.maps)
