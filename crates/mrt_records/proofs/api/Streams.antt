-- Laws of records that stand one after another.
use Rattle.std.proofs.Common.{◌≡◌, ℕ, ◌+◌, ◌-◌, ◌<◌, ◌≤◌, inl, inr, List, [], ◌∷◌, ◌++◌, length, take, drop, refl, sym, ap, subst, ◌∙◌, append_assoc, arith}
use Rattle.std.specs.Prelude.{Bool, true, false}
use Rattle.std.specs.List.{AllByRecursion}
use Rattle.std.proofs.lemmas.List.{append-nil, take_at, take-append-drop, length-append, length-drop, length-take, take_all}
use Rattle.std.proofs.Math.Seq.{take-add}
use Rattle.std.proofs.lemmas.Bool.{cases_lt}
use Rattle.route_model.specs.Sequence.{joined, Each}
use Rattle.route_model.specs.Octets.{number_at}
use Rattle.mrt_records.specs.Records.{body_length, IsRecord, Over, BeginsWithRecord, Frames}
use Rattle.mrt_records.specs.Streams.{IsItem, Gains, GainsFrames, EndsOver}
use Rattle.route_model.proofs.api.Fronts.{number_at-append}
use Rattle.mrt_records.specs.inner.Front.{IsPart, IsFront, IsToppedUp, IsFilled}
use Rattle.mrt_records.specs.declared.front.Front.{Front}
use Rattle.mrt_records.specs.declared.front.Front.TheVariants as fronts
use Rattle.mrt_records.specs.Feeding.{IsHeld, Goes}
use Rattle.mrt_records.specs.declared.item.Item.{Item}
use Rattle.route_model.specs.Reading.{BeginsWith}
use Rattle.route_model.proofs.api.Sequences.{joined-push, Each-append, same_fronts, IsPrefixFree, sequences_agree}

pub body_length-take : (n : ℕ) (bytes : List ℕ) → 12 ≤ n → n ≤ length bytes → body_length (take n bytes) ≡ body_length bytes
body_length-take n bytes low high =
    sym (number_at-append 4 8 (take n bytes) (drop n bytes) (omega (arith, length-take n bytes)))
    ∙ ap (λ (t : List ℕ). number_at 4 8 t) (take-append-drop n bytes)

pub whole_front : (n : ℕ) (bytes : List ℕ) → n ≤ length bytes → n ≡ 12 + body_length bytes → body_length bytes ≤ 131072 → IsRecord (take n bytes)
whole_front n bytes high len limit =
    let same = body_length-take n bytes (omega arith) high in
    let size = length-take n bytes in
    record { header = omega (arith, size); limit = omega (arith, same); whole = omega (arith, size, same) }

-- the front that is a record determines its length
front_length : (bytes : List ℕ) (b : BeginsWithRecord bytes) → (body_length bytes ≡ body_length b.0) × (12 + body_length bytes ≤ length bytes) × (body_length bytes ≤ 131072)
front_length bytes b =
    let same : body_length bytes ≡ body_length b.0 = ap (λ (t : List ℕ). number_at 4 8 t) b.3 ∙ number_at-append 4 8 b.0 b.1 (omega (arith, b.2.header)) in
    let size : length bytes ≡ length b.0 + length b.1 = ap length b.3 ∙ length-append b.0 b.1 in
    (same, omega (arith, same, size, b.2.whole), omega (arith, same, b.2.limit))

pub part_begins_none : (bytes : List ℕ) → IsPart bytes → BeginsWithRecord bytes → ⊥
part_begins_none bytes (inl short) b = let f = front_length bytes b in omega (arith, short, f.1)
part_begins_none bytes (inr cut) b = let f = front_length bytes b in omega (arith, cut.2, f.1)

pub over_begins_none : (bytes : List ℕ) → Over bytes → BeginsWithRecord bytes → ⊥
over_begins_none bytes over b = let f = front_length bytes b in omega (arith, over.above, f.2)

-- more octets leave it above the limit
pub over-append : (bytes more : List ℕ) → Over bytes → Over (bytes ++ more)
over-append bytes more over =
    let same = number_at-append 4 8 bytes more (omega (arith, over.header)) in
    record { header = omega (arith, over.header, length-append bytes more); above = omega (arith, same, over.above) }

pub over-take : (bytes : List ℕ) → Over bytes → Over (take 12 bytes)
over-take bytes over =
    let same = body_length-take 12 bytes (omega arith) over.header in
    record { header = omega (arith, length-take 12 bytes, over.header); above = omega (arith, same, over.above) }

-- no record begins another
IsItself : List ℕ → List ℕ → Type 0
IsItself a v = IsRecord a × (v ≡ a)

records_free : IsPrefixFree IsItself
unfolding IsItself
records_free = record {
  one = λ a b x y v w p q e.
      let fa = front_length (a ++ x) (a, x, p.0, refl) in
      let fb = front_length (a ++ x) (b, y, q.0, e) in
      let same = same_fronts a b x y (omega (arith, p.0.whole, q.0.whole, fa.0, fb.0)) e in
      (same.0, p.1 ∙ same.0 ∙ sym q.1);
  some = λ v p. omega (arith, p.0.header);
}

each_itself : (records : List (List ℕ)) → AllByRecursion IsRecord records → Each IsItself records records
unfolding IsItself
each_itself [] p = tt
each_itself (r ∷ records) p = ((p.0, refl), each_itself records p.1)

begins_itself : (bytes : List ℕ) → BeginsWith IsItself bytes → BeginsWithRecord bytes
unfolding IsItself
begins_itself bytes b = (b.field, b.more, b.is_field.0, b.parts)

-- a stream has one list of records and one rest
pub frames_one : (bytes : List ℕ) (rs ss : List (List ℕ)) (x y : List ℕ) → Frames bytes rs x → Frames bytes ss y → (rs ≡ ss) × (x ≡ y)
frames_one bytes rs ss x y p q =
    let both = sequences_agree IsItself records_free rs ss rs ss x y (each_itself rs p.each) (each_itself ss q.each) (sym p.whole ∙ q.whole)
    (λ b. p.ended (begins_itself x b)) (λ b. q.ended (begins_itself y b)) in
    (both.0, both.2)

pub all-append : {A : Type 0} (P : A → Type 0) (xs ys : List A) → AllByRecursion P xs → AllByRecursion P ys → AllByRecursion P (xs ++ ys)
all-append P [] ys p q = q
all-append P (x ∷ xs) ys p q = (p.0, all-append P xs ys p.1 q)

-- how far a list of items has come in octets: the records already read, what they gave, and what is left
pub record Progress (bytes rest : List ℕ) (old new : List Item) : Type 0 where
  pub records : List (List ℕ)
  pub each : AllByRecursion IsRecord records
  pub whole : bytes ≡ joined records ++ rest
  pub gains : Gains old new records

pub progress_start : (bytes : List ℕ) (old : List Item) → Progress bytes bytes old old
progress_start bytes old = record { records = []; each = tt; whole = refl; gains = ([], tt, sym (append-nil old)) }

pub gains_then : (old mid new : List Item) (rs ss : List (List ℕ)) → Gains old mid rs → Gains mid new ss → Gains old new (rs ++ ss)
gains_then old mid new rs ss p q =
    (p.0 ++ q.0, Each-append IsItem rs ss p.0 q.0 p.1 q.1, q.2 ∙ ap (λ (t : List Item). t ++ q.0) p.2 ∙ append_assoc old p.0 q.0)

pub progress_on : (bytes rest first after : List ℕ) (old mid new : List Item) → Progress bytes rest old mid
    → IsRecord first → rest ≡ first ++ after → Gains mid new (first ∷ []) → Progress bytes after old new
progress_on bytes rest first after old mid new p r e g = record {
  records = p.records ++ first ∷ [];
  each = all-append IsRecord p.records (first ∷ []) p.each (r, tt);
  whole = p.whole ∙ ap (λ (t : List ℕ). joined p.records ++ t) e ∙ sym (append_assoc (joined p.records) first after) ∙ ap (λ (t : List ℕ). t ++ after) (sym (joined-push p.records first));
  gains = gains_then old mid new p.records (first ∷ []) p.gains g;
}

-- the items before a mark
pub gains_take : (old new : List Item) (rs : List (List ℕ)) (n : ℕ) → n ≡ length old → Gains old new rs → take n new ≡ old
gains_take old new rs n e g = ap (λ (t : List Item). take n t) g.2 ∙ take_at old g.0 n (sym e)

pub progress_ends : (bytes rest : List ℕ) (old new : List Item) → Progress bytes rest old new → (BeginsWithRecord rest → ⊥) → GainsFrames bytes rest old new
progress_ends bytes rest old new p stop = (p.records, record { whole = p.whole; each = p.each; ended = stop }, p.gains)

pub not_whole : (bytes : List ℕ) (front : Front) → IsFront bytes front → ((n : ℕ) → front ≡ fronts.Whole n → ⊥) → BeginsWithRecord bytes → ⊥
not_whole bytes fronts.Part h other b = part_begins_none bytes h b
not_whole bytes fronts.Over h other b = over_begins_none bytes h b
not_whole bytes (fronts.Whole n) h other b = other n refl

-- ---- filling up a record

part_is_short : (bytes : List ℕ) → IsPart bytes → 12 ≤ length bytes → 12 + body_length bytes ≤ length bytes → ⊥
part_is_short bytes (inl short) long whole = omega arith
part_is_short bytes (inr cut) long whole = omega (arith, cut.2)

pub filled_short : (old mid piece : List ℕ) (n : ℕ) → IsToppedUp old mid piece 12 n → length mid < 12 → IsFilled old mid piece n
filled_short old mid piece n t short = record {
  within = t.within;
  moved = t.moved;
  record_only = λ b. absurd (part_begins_none mid (inl short) b);
  part_all = λ _. elim (cases_lt n (length piece)) [ inl less ↦ absurd (omega (arith, t.enough less)) | inr all ↦ omega (arith, t.within) ];
}

over_is_no_part : (bytes : List ℕ) → Over bytes → IsPart bytes → ⊥
over_is_no_part bytes over (inl short) = omega (arith, over.header)
over_is_no_part bytes over (inr cut) = omega (arith, over.above)

pub filled_over : (old mid piece : List ℕ) (n : ℕ) → IsToppedUp old mid piece 12 n → Over mid → IsFilled old mid piece n
filled_over old mid piece n t over = record {
  within = t.within;
  moved = t.moved;
  record_only = λ b. absurd (over_begins_none mid over b);
  part_all = λ p. absurd (over_is_no_part mid over p);
}

-- a record that is filled up to its length is the record
filled_length : (old mid new piece : List ℕ) (first second : ℕ) → (BeginsWithRecord old → ⊥) → IsToppedUp old mid piece 12 first → 12 ≤ length mid
    → IsToppedUp mid new (drop first piece) (12 + body_length mid) second → body_length new ≡ body_length mid → BeginsWithRecord new → length new ≤ 12 + body_length mid
filled_length old mid new piece first second no_record t long u same b =
    elim (cases_lt 0 second) [
      | inl some ↦ u.no_more some
      | inr none ↦
          let zero_second : second ≡ 0 = omega arith in
          let mid_is : new ≡ mid = u.moved ∙ ap (λ (n : ℕ). mid ++ take n (drop first piece)) zero_second ∙ append-nil mid in
          elim (cases_lt 0 first) [
            | inl some ↦ omega (arith, t.no_more some, ap length mid_is)
            | inr none ↦
                let zero_first : first ≡ 0 = omega arith in
                let old_is : mid ≡ old = t.moved ∙ ap (λ (n : ℕ). old ++ take n piece) zero_first ∙ append-nil old in
                absurd (no_record (subst (λ (x : List ℕ). BeginsWithRecord x) (mid_is ∙ old_is) b))
          ]
    ]

pub filled_whole : (old mid new piece : List ℕ) (first second : ℕ) → (BeginsWithRecord old → ⊥) → IsToppedUp old mid piece 12 first → 12 ≤ length mid → body_length mid ≤ 131072
    → IsToppedUp mid new (drop first piece) (12 + body_length mid) second → IsFilled old new piece (first + second)
filled_whole old mid new piece first second no_record t long limit u =
    let same : body_length new ≡ body_length mid = ap (λ (x : List ℕ). number_at 4 8 x) u.moved ∙ number_at-append 4 8 mid (take second (drop first piece)) (omega arith) in
    let left : length (drop first piece) ≡ length piece - first = length-drop first piece in
    record {
      within = omega (arith, t.within, u.within, left);
      moved = u.moved ∙ ap (λ (x : List ℕ). x ++ take second (drop first piece)) t.moved ∙ append_assoc old (take first piece) (take second (drop first piece)) ∙ ap (λ (x : List ℕ). old ++ x) (sym (take-add first second piece));
      record_only = λ b.
          let f = front_length new b in
          let size = filled_length old mid new piece first second no_record t long u same b in
          record { header = omega (arith, f.1); limit = f.2; whole = omega (arith, f.1, size, same) };
      part_all = λ p. elim (cases_lt (first + second) (length piece)) [
        | inl less ↦ absurd (part_is_short new p (omega (arith, u.enough (omega (arith, left)), same)) (omega (arith, u.enough (omega (arith, left)), same)))
        | inr all ↦ omega (arith, t.within, u.within, left)
      ];
    }

-- ---- the whole records of a piece after what is held

-- a record, and then the records of what follows it
pub frames_cons : (first bytes rest : List ℕ) (old mid new : List Item) → IsRecord first → Gains old mid (first ∷ []) → GainsFrames bytes rest mid new → GainsFrames (first ++ bytes) rest old new
frames_cons first bytes rest old mid new r g f = (
  first ∷ f.0,
  record {
    whole = ap (λ (t : List ℕ). first ++ t) f.1.whole ∙ sym (append_assoc first (joined f.0) rest);
    each = (r, f.1.each);
    ended = f.1.ended;
  },
  gains_then old mid new (first ∷ []) f.0 g f.2,
)

pub frames_none : (bytes : List ℕ) (old : List Item) → (BeginsWithRecord bytes → ⊥) → GainsFrames bytes bytes old old
frames_none bytes old stop = ([], record { whole = refl; each = tt; ended = stop }, ([], tt, sym (append-nil old)))

-- a framer never holds a whole record
pub goes_ends : (over : Bool) (bytes held : List ℕ) (old new : List Item) → Goes over bytes held old new → BeginsWithRecord held → ⊥
goes_ends false bytes held old new f b = f.0.1.ended b
goes_ends true bytes held old new f b = over_begins_none held f.2 b

-- a record, and then what follows it
pub goes_cons : (over : Bool) (first bytes held : List ℕ) (old mid new : List Item) → IsRecord first → Gains old mid (first ∷ [])
    → Goes over bytes held mid new → Goes over (first ++ bytes) held old new
goes_cons false first bytes held old mid new is g f = (frames_cons first bytes held old mid new is g f.0, f.1)
goes_cons true first bytes held old mid new is g f = (f.0, frames_cons first bytes (held ++ f.0) old mid new is g f.1, f.2)

pub goes_held : (over : Bool) (bytes rest held : List ℕ) (old new : List Item) → GainsFrames bytes rest old new → IsHeld over rest held → Goes over bytes held old new
goes_held false bytes rest held old new g h = (subst (λ (t : List ℕ). GainsFrames bytes t old new) (sym h.0) g, λ over. h.1 (subst (λ (t : List ℕ). Over t) h.0 over))
goes_held true bytes rest held old new g h = (h.1, subst (λ (t : List ℕ). GainsFrames bytes t old new) h.2 g, h.0)

-- a whole record is held
pub filled_record : (old held piece : List ℕ) (n k : ℕ) → IsFilled old held piece n → IsFront held (fronts.Whole k) → IsRecord held
filled_record old held piece n k f front = f.record_only (take k held, drop k held, front.2, sym (take-append-drop k held))

-- all of the piece is held, and it's no record yet
pub filled_part : (old held piece : List ℕ) (n : ℕ) (items : List Item) → IsFilled old held piece n → IsPart held → Goes false (old ++ piece) held items items
filled_part old held piece n items f part =
    let all : held ≡ old ++ piece = f.moved ∙ ap (λ (t : List ℕ). old ++ t) (take_all n piece (omega (arith, f.part_all part))) in
    (subst (λ (t : List ℕ). GainsFrames t held items items) all (frames_none held items (part_begins_none held part)), λ over. over_is_no_part held over part)

-- the octets held, and then what follows in the piece
pub filled_parts : (old held piece : List ℕ) (n : ℕ) → IsFilled old held piece n → held ++ drop n piece ≡ old ++ piece
filled_parts old held piece n f = ap (λ (t : List ℕ). t ++ drop n piece) f.moved ∙ append_assoc old (take n piece) (drop n piece) ∙ ap (λ (t : List ℕ). old ++ t) (take-append-drop n piece)

pub filled_beyond : (old held piece : List ℕ) (n : ℕ) (items : List Item) → IsFilled old held piece n → Over held → Goes true (old ++ piece) held items items
filled_beyond old held piece n items f over =
    let above = over-append held (drop n piece) over in
    (drop n piece, subst (λ (t : List ℕ). GainsFrames t (held ++ drop n piece) items items) (filled_parts old held piece n f) (frames_none (held ++ drop n piece) items (over_begins_none (held ++ drop n piece) above)), over)

-- more octets after those above the limit add nothing
pub over_stays : (was piece : List ℕ) (old : List Item) → Over was → EndsOver (was ++ piece) was old old
over_stays was piece old over = (piece, frames_none (was ++ piece) old (over_begins_none (was ++ piece) (over-append was piece over)), over)
