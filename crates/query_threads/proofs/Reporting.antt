-- What an archive returns holds of it as it was and as the call left it.
use Rattle.std.proofs.Common.{◌≡◌, ℕ, List, Option, Some, None, Result, IfSome, inl, inr, le_trans, refl, subst}
use Rattle.std.proofs.lemmas.Result.{IfErr-weaker}
use Rattle.std.specs.Prelude.{IfErr, IsSome}
use Rattle.board.specs.Past.{Past, GoesOnAs}
use Rattle.board.specs.Views.{View, IsFrontOf}
use Rattle.query_threads.specs.Looks.{AreTheSettled, IsErrandOn}
use Rattle.query_threads.specs.Seeing.{ComesOf, Since}
use Rattle.query_threads.proofs.Seen.{goes_on_then}
use Rattle.query_threads.specs.Troubles.{OnAdmitTrouble, OnMarkTrouble, OnAskTrouble}
use Rattle.query_threads.specs.declared.refusal.Trouble.{Trouble}
use Rattle.query_threads.specs.declared.refusal.AdmitError.{AdmitError}
use Rattle.query_threads.specs.declared.refusal.AdmitError.TheVariants as admits
use Rattle.query_threads.specs.declared.refusal.MarkError.{MarkError}
use Rattle.query_threads.specs.declared.refusal.MarkError.TheVariants as marks
use Rattle.query_threads.specs.declared.refusal.AskError.{AskError}
use Rattle.query_threads.specs.declared.refusal.AskError.TheVariants as asks

-- ---- what is so of a trouble, by the refusals

pub admit_trouble : (P Q : Trouble → Type 0) → ((t : Trouble) → P t → Q t) → (e : AdmitError) → OnAdmitTrouble P e → OnAdmitTrouble Q e
admit_trouble P Q f admits.NoCollector is = tt
admit_trouble P Q f admits.BatchTooLarge is = tt
admit_trouble P Q f admits.CounterFull is = tt
admit_trouble P Q f admits.IntakeFull is = tt
admit_trouble P Q f (admits.Trouble t) is = f t is

pub mark_trouble : (P Q : Trouble → Type 0) → ((t : Trouble) → P t → Q t) → (e : MarkError) → OnMarkTrouble P e → OnMarkTrouble Q e
mark_trouble P Q f marks.NoCollector is = tt
mark_trouble P Q f marks.MarkBack is = tt
mark_trouble P Q f (marks.Trouble t) is = f t is

pub ask_trouble : (P Q : Trouble → Type 0) → ((t : Trouble) → P t → Q t) → (e : AskError) → OnAskTrouble P e → OnAskTrouble Q e
ask_trouble P Q f (asks.AboveWatermark mark) is = tt
ask_trouble P Q f (asks.Trouble t) is = f t is

-- ---- an archive of which something is so, between two meetings with the writing seat

module _ {A D : Type 0} (disk : Option D) (disk_of : A → D) (represents : A → Past → Type 0) (old new : View) (was is : A)
    (on : IsSome disk → disk ≡ Some (disk_of was)) (before : IsSome disk → (p : Past) × represents was p × IsFrontOf p old × GoesOnAs p new.past) (after : IsSome disk → represents is new.past) where
  -- what is so comes of it
  pub comes_of : (does : A → A → Type 0) → does was is → ComesOf disk disk_of represents does old new
  comes_of does so = record { was = was; is = is; done = so; on = on; before = before; after = after }

  pub admit_comes : (reports : A → Trouble → A → Type 0) {T : Type 0} (r : Result T AdmitError) → IfErr r (OnAdmitTrouble (λ t. reports was t is)) → IfErr r (OnAdmitTrouble (λ t. ComesOf disk disk_of represents (λ a b. reports a t b) old new))
  admit_comes reports r = IfErr-weaker r _ _ (admit_trouble (λ t. reports was t is) (λ t. ComesOf disk disk_of represents (λ a b. reports a t b) old new) (λ t. comes_of (λ a b. reports a t b)))

  pub mark_comes : (reports : A → Trouble → A → Type 0) {T : Type 0} (r : Result T MarkError) → IfErr r (OnMarkTrouble (λ t. reports was t is)) → IfErr r (OnMarkTrouble (λ t. ComesOf disk disk_of represents (λ a b. reports a t b) old new))
  mark_comes reports r = IfErr-weaker r _ _ (mark_trouble (λ t. reports was t is) (λ t. ComesOf disk disk_of represents (λ a b. reports a t b) old new) (λ t. comes_of (λ a b. reports a t b)))

-- ---- what a view since then begins was begun by the one before

front_since : (p : Past) (u v : View) → Since u v → IsFrontOf p v → IsFrontOf p u
front_since p u v (inl e) f = subst (λ (x : View). IsFrontOf p x) e f
front_since p u v (inr b) f = record { past = goes_on_then u.past v.past p b.past f.past; numbers = λ i. le_trans (b.numbers i) (f.numbers i) }

pub comes_since : {A D : Type 0} (disk : Option D) (disk_of : A → D) (represents : A → Past → Type 0) (does : A → A → Type 0) (u v w : View) → Since u v → ComesOf disk disk_of represents does v w → ComesOf disk disk_of represents does u w
comes_since disk disk_of represents does u v w since k = record { was = k.was; is = k.is; done = k.done; on = k.on; before = λ named. (let p = k.before named in (p.0, p.1, front_since p.0 u v since p.2, p.3)); after = k.after }

-- ---- a look that failed

-- a look that was got with an errand over a past is one at the disk that is named, and found the past's blocks
pub look_at : {D E S : Type 0} (disk : Option D) (located : E → D → Past → Type 0) (honest : D → S → Type 0) (count : D → ℕ) (known : S → ℕ → Option (List ℕ)) (p : Past) (errand : E) (seen : S)
    → (IsSome disk → IfSome disk (IsErrandOn located honest count known p errand seen)) → IfSome disk (λ d. honest d seen × AreTheSettled (count d) (known seen) p.blocks)
look_at None located honest count known p errand seen on = tt
look_at (Some d) located honest count known p errand seen on = let k = on refl in (k.follows, k.found)
