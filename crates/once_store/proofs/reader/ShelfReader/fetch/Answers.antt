use Rattle.std.proofs.Common.{◌≡◌, ◌∷◌, ◌-◌, ℕ, List, Result, Ok, Err, OnErr, length, take, Some, sym, ap, ◌∙◌, subst, inl, inr, arith}
use Rattle.std.proofs.lemmas.Bool.{false≢true}
use Rattle.std.specs.List.{Contains}
use Rattle.std.proofs.lemmas.List.{length-take}
use Rattle.lru.specs.LruCache.{LruCache}
use Rattle.once_store.specs.Digests.{IsWhole}
use Rattle.once_store.specs.Readers.{IsCached}
use Rattle.once_store.proofs.Kept.{Pairs, LeftOf, read_known, left_of, left_cut, left_by_one}
use Rattle.once_store.proofs.reader.ShelfReader.fetch.Goals as goal

pub returns-then-touch-clause-octets : goal.returns-then-touch-clause-octets
returns-then-touch-clause-octets g c = λ h k block e.
    let t = c.touch.ensures.kept c.if-touch.true in
    let was = k c.args.n t.0 (c.touch.ensures.fewer c.args.n t.0 t.1) in
    let same : t.0 ≡ block = cc in
    (subst (λ (b : List ℕ). IsCached c.touch.new.self c.args.n b) same t.1, subst IsWhole same t.2)

pub returns-then-touch-clause-knows : goal.returns-then-touch-clause-knows
returns-then-touch-clause-knows g c = λ h k s n block kept. k n block (c.touch.ensures.fewer n block kept)

pub returns-then-n-blocks-clause-knows : goal.returns-then-n-blocks-clause-knows
returns-then-n-blocks-clause-knows g c = λ h k s n block kept. k n block (c.touch.ensures.fewer n block kept)

pub returns-in_err-block-clause-knows : goal.returns-in_err-block-clause-knows
returns-in_err-block-clause-knows g c = λ h k s n block kept. k n block (c.touch.ensures.fewer n block (c.room.ensures.fewer n block kept))

pub returns-in_err-read-clause-knows : goal.returns-in_err-read-clause-knows
returns-in_err-read-clause-knows g c = λ h k s n block kept.
    let there = subst (λ d. g.O.OnceDisk.honest_seen d c.args.seen.now) (sym (c.deref-2.ensures ∙ c.room.ensures.disk ∙ c.touch.ensures.disk)) h in
    ap (λ f. f n) (c.read.ensures.same there) ∙ k n block (c.touch.ensures.fewer n block (c.room.ensures.fewer n block kept))

pub returns-in_err-checked-clause-knows : goal.returns-in_err-checked-clause-knows
returns-in_err-checked-clause-knows g c = λ h k s n block kept.
    let there = subst (λ d. g.O.OnceDisk.honest_seen d c.args.seen.now) (sym (c.deref-2.ensures ∙ c.room.ensures.disk ∙ c.touch.ensures.disk)) h in
    ap (λ f. f n) (c.read.ensures.same there) ∙ k n block (c.touch.ensures.fewer n block (c.room.ensures.fewer n block kept))

pub returns-in_err-keep-clause-knows : goal.returns-in_err-keep-clause-knows
returns-in_err-keep-clause-knows g c = λ h k s n block kept.
    let there = subst (λ d. g.O.OnceDisk.honest_seen d c.args.seen.now) (sym (c.deref-2.ensures ∙ c.room.ensures.disk ∙ c.touch.ensures.disk)) h in
    let read = read_known (g.O.OnceDisk.known c.args.seen.now) c.args.n c.read.new.into s (c.in_ok-read.ensures.octets there) in
    ap (λ f. f n) (c.read.ensures.same there) ∙ elim (c.keep.ensures.only n block kept) [
      | inl was ↦ k n block (c.touch.ensures.fewer n block (c.room.ensures.fewer n block was))
      | inr is ↦ ap (g.O.OnceDisk.known c.args.seen.now) is.0 ∙ (read ∙ ap Some (sym is.1))
    ]

pub returns-clause-knows : goal.returns-clause-knows
returns-clause-knows g c = λ h k s n block kept.
    let there = subst (λ d. g.O.OnceDisk.honest_seen d c.args.seen.now) (sym (c.deref-2.ensures ∙ c.room.ensures.disk ∙ c.touch.ensures.disk)) h in
    let read = read_known (g.O.OnceDisk.known c.args.seen.now) c.args.n c.read.new.into s (c.in_ok-read.ensures.octets there) in
    ap (λ f. f n) (c.read.ensures.same there) ∙ elim (c.keep.ensures.only n block kept) [
      | inl was ↦ k n block (c.touch.ensures.fewer n block (c.room.ensures.fewer n block was))
      | inr is ↦ ap (g.O.OnceDisk.known c.args.seen.now) is.0 ∙ (read ∙ ap Some (sym is.1))
    ]

pub returns-then-touch-clause-beyond : goal.returns-then-touch-clause-beyond
returns-then-touch-clause-beyond g c = λ le none.
    let t = c.touch.ensures.kept c.if-touch.true in
    absurd (none t.0 (c.touch.ensures.fewer c.args.n t.0 t.1))

pub returns-in_err-block-clause-hit : goal.returns-in_err-block-clause-hit
returns-in_err-block-clause-hit g c = λ block k. absurd (false≢true (sym c.if-touch.false ∙ c.touch.ensures.found block k))

pub returns-in_err-block-clause-all : goal.returns-in_err-block-clause-all
returns-in_err-block-clause-all g c = λ block k. absurd (false≢true (sym c.if-touch.false ∙ c.touch.ensures.found block k))

pub returns-in_err-read-clause-hit : goal.returns-in_err-read-clause-hit
returns-in_err-read-clause-hit g c = λ block k. absurd (false≢true (sym c.if-touch.false ∙ c.touch.ensures.found block k))

pub returns-in_err-read-clause-unread : goal.returns-in_err-read-clause-unread
returns-in_err-read-clause-unread g c = λ block k. absurd (false≢true (sym c.if-touch.false ∙ c.touch.ensures.found block k))

pub returns-in_err-read-clause-all : goal.returns-in_err-read-clause-all
returns-in_err-read-clause-all g c = λ block k. absurd (false≢true (sym c.if-touch.false ∙ c.touch.ensures.found block k))

pub returns-in_err-checked-clause-hit : goal.returns-in_err-checked-clause-hit
returns-in_err-checked-clause-hit g c = λ block k. absurd (false≢true (sym c.if-touch.false ∙ c.touch.ensures.found block k))

pub returns-in_err-checked-clause-unread : goal.returns-in_err-checked-clause-unread
returns-in_err-checked-clause-unread g c = λ block k. absurd (false≢true (sym c.if-touch.false ∙ c.touch.ensures.found block k))

pub returns-in_err-checked-clause-all : goal.returns-in_err-checked-clause-all
returns-in_err-checked-clause-all g c = λ block k. absurd (false≢true (sym c.if-touch.false ∙ c.touch.ensures.found block k))

pub returns-in_err-keep-clause-hit : goal.returns-in_err-keep-clause-hit
returns-in_err-keep-clause-hit g c = λ block k. absurd (false≢true (sym c.if-touch.false ∙ c.touch.ensures.found block k))

pub returns-in_err-keep-clause-unread : goal.returns-in_err-keep-clause-unread
returns-in_err-keep-clause-unread g c = λ block k. absurd (false≢true (sym c.if-touch.false ∙ c.touch.ensures.found block k))

pub returns-in_err-keep-clause-all : goal.returns-in_err-keep-clause-all
returns-in_err-keep-clause-all g c = λ block k. absurd (false≢true (sym c.if-touch.false ∙ c.touch.ensures.found block k))

pub returns-clause-unread : goal.returns-clause-unread
returns-clause-unread g c = λ block k. absurd (false≢true (sym c.if-touch.false ∙ c.touch.ensures.found block k))

pub returns-clause-all : goal.returns-clause-all
returns-clause-all g c = λ block k. absurd (false≢true (sym c.if-touch.false ∙ c.touch.ensures.found block k))

-- where there is room, a block that isn't kept makes nothing go
pub returns-in_err-keep-clause-stays : goal.returns-in_err-keep-clause-stays
returns-in_err-keep-clause-stays g c = λ room m other k.
    let missed = c.touch.ensures.missed c.if-touch.false in
    let same : c.room.new.self.kept ≡ c.args.self.now.kept = c.room.ensures.stays (rw missed room) ∙ missed in
    subst (λ (l : LruCache ℕ (List ℕ)). Contains l.entries (m, other)) (sym (c.in_err-keep.ensures.refused ∙ same)) k

pub returns-clause-stays : goal.returns-clause-stays
returns-clause-stays g c = λ room m other k.
    let missed = c.touch.ensures.missed c.if-touch.false in
    let same : c.room.new.self.kept ≡ c.args.self.now.kept = c.room.ensures.stays (rw missed room) ∙ missed in
    let none : (b : List ℕ) → Contains c.room.new.self.kept.entries (c.args.n, b) → ⊥ = λ b there. false≢true (sym c.if-touch.false ∙ c.touch.ensures.found b (subst (λ (l : LruCache ℕ (List ℕ)). Contains l.entries (c.args.n, b)) same there)) in
    c.in_ok-keep.ensures.stays (rw same room) none m other (subst (λ (l : LruCache ℕ (List ℕ)). Contains l.entries (m, other)) (sym same) k)

pub returns-then-n-blocks-clause-first : goal.returns-then-n-blocks-clause-first
returns-then-n-blocks-clause-first g c = λ block k. absurd (false≢true (sym c.if-touch.false ∙ c.touch.ensures.found block k))

pub returns-in_err-block-clause-first : goal.returns-in_err-block-clause-first
returns-in_err-block-clause-first g c = λ block k. absurd (false≢true (sym c.if-touch.false ∙ c.touch.ensures.found block k))

pub returns-in_err-read-clause-first : goal.returns-in_err-read-clause-first
returns-in_err-read-clause-first g c = λ block k. absurd (false≢true (sym c.if-touch.false ∙ c.touch.ensures.found block k))

pub returns-in_err-checked-clause-first : goal.returns-in_err-checked-clause-first
returns-in_err-checked-clause-first g c = λ block k. absurd (false≢true (sym c.if-touch.false ∙ c.touch.ensures.found block k))

pub returns-in_err-keep-clause-first : goal.returns-in_err-keep-clause-first
returns-in_err-keep-clause-first g c = λ block k. absurd (false≢true (sym c.if-touch.false ∙ c.touch.ensures.found block k))

pub returns-clause-first : goal.returns-clause-first
returns-clause-first g c = λ block k. absurd (false≢true (sym c.if-touch.false ∙ c.touch.ensures.found block k))

pub returns-then-touch-clause-added : goal.returns-then-touch-clause-added
returns-then-touch-clause-added g c = λ none.
    let t = c.touch.ensures.kept c.if-touch.true in
    absurd (none t.0 (c.touch.ensures.fewer c.args.n t.0 t.1))

on_each_err : {T E : Type 0} {P : Type 0} (r : Result T E) → P → OnErr r P
on_each_err (Ok _) p = tt
on_each_err (Err _) p = p

pub returns-in_err-keep-clause-refused : goal.returns-in_err-keep-clause-refused
returns-in_err-keep-clause-refused g c = on_each_err c.from_residual-in_err-keep.result (λ m other k.
    c.touch.ensures.fewer m other (c.room.ensures.fewer m other (subst (λ (l : LruCache ℕ (List ℕ)). Contains l.entries (m, other)) c.in_err-keep.ensures.refused k)))

pub returns-in_err-keep-clause-left : goal.returns-in_err-keep-clause-left
returns-in_err-keep-clause-left g c =
    let missed = ap (λ (l : LruCache ℕ (List ℕ)). l.entries) (c.touch.ensures.missed c.if-touch.false) in
    let room = left_of c.touch.new.self.kept.cap c.touch.new.self.kept.entries c.room.new.self.kept.entries (λ below. ap (λ (l : LruCache ℕ (List ℕ)). l.entries) (c.room.ensures.stays below)) c.room.ensures.last in
    let same = ap (λ (l : LruCache ℕ (List ℕ)). l.entries) c.in_err-keep.ensures.refused in
    on_each_err c.from_residual-in_err-keep.result (subst (λ (cap : ℕ). LeftOf cap c.args.self.now.kept.entries c.keep.new.self.kept.entries) c.touch.ensures.capacity (subst (λ (left : Pairs). LeftOf c.touch.new.self.kept.cap c.args.self.now.kept.entries left) (sym same) (subst (λ (es : Pairs). LeftOf c.touch.new.self.kept.cap es c.room.new.self.kept.entries) missed room)))

pub returns-in_err-keep-clause-one : goal.returns-in_err-keep-clause-one
returns-in_err-keep-clause-one g c =
    let room = left_of c.touch.new.self.kept.cap c.touch.new.self.kept.entries c.room.new.self.kept.entries (λ below. ap (λ (l : LruCache ℕ (List ℕ)). l.entries) (c.room.ensures.stays below)) c.room.ensures.last in
    let same = ap (λ (l : LruCache ℕ (List ℕ)). length l.entries) c.in_err-keep.ensures.refused in
    let one = left_by_one c.touch.new.self.kept.cap c.touch.new.self.kept.entries c.room.new.self.kept.entries c.room.ensures.few room in
    omega (arith, one, same, c.touch.ensures.count)

-- the block that was read stands before those that are left
pub returns-clause-added : goal.returns-clause-added
returns-clause-added g c = λ none.
    let missed = ap (λ (l : LruCache ℕ (List ℕ)). l.entries) (c.touch.ensures.missed c.if-touch.false) in
    let room = left_of c.touch.new.self.kept.cap c.touch.new.self.kept.entries c.room.new.self.kept.entries (λ below. ap (λ (l : LruCache ℕ (List ℕ)). l.entries) (c.room.ensures.stays below)) c.room.ensures.last in
    let put = c.in_ok-keep.ensures.added (λ other k. none other (c.touch.ensures.fewer c.args.n other (c.room.ensures.fewer c.args.n other k))) in
    let cut = left_cut c.touch.new.self.kept.cap c.touch.new.self.kept.entries c.room.new.self.kept.entries room in
    let same = ap (λ (k : ℕ). take (k - 1) c.room.new.self.kept.entries) c.room.ensures.capacity ∙ (cut ∙ (ap (λ (k : ℕ). take (k - 1) c.touch.new.self.kept.entries) c.touch.ensures.capacity ∙ ap (λ (es : Pairs). take (c.args.self.now.kept.cap - 1) es) missed)) in
    (c.read.new.into, put ∙ ap (λ (es : Pairs). (c.args.n, c.read.new.into) ∷ es) same)

pub returns-clause-one : goal.returns-clause-one
returns-clause-one g c =
    let room = left_of c.touch.new.self.kept.cap c.touch.new.self.kept.entries c.room.new.self.kept.entries (λ below. ap (λ (l : LruCache ℕ (List ℕ)). l.entries) (c.room.ensures.stays below)) c.room.ensures.last in
    let one = left_by_one c.touch.new.self.kept.cap c.touch.new.self.kept.entries c.room.new.self.kept.entries c.room.ensures.few room in
    let gone : (other : List ℕ) → IsCached c.args.self.now c.args.n other → ⊥ = λ other k. false≢true (sym c.if-touch.false ∙ c.touch.ensures.found other k) in
    let put = c.in_ok-keep.ensures.added (λ other k. gone other (c.touch.ensures.fewer c.args.n other (c.room.ensures.fewer c.args.n other k))) in
    omega (arith, one, ap (λ (es : Pairs). length es) put, length-take (c.room.new.self.kept.cap - 1) c.room.new.self.kept.entries, c.touch.ensures.count, c.room.ensures.few, c.room.ensures.capacity)
