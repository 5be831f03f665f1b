-- Reading the places of a page that encodes a head gives that head.
use Rattle.std.proofs.Common.{◌≡◌, ℕ, zero, suc, ◌+◌, ◌*◌, ◌-◌, ◌^◌, ◌<◌, List, [], ◌∷◌, ◌++◌, length, replicate, flat_map, refl, sym, ap, subst, inl, inr, ◌∙◌, arith}
use Rattle.std.specs.List.{AllByRecursion}
use Rattle.std.proofs.lemmas.List.{length-append, append_assoc}
use Rattle.route_model.specs.Octets.{number_at, Encodes}
use Rattle.route_model.specs.declared.unit.Unit.{Unit}
use Rattle.route_model.specs.declared.unit.Unit.TheVariants.{Seconds, Microseconds}
use Rattle.route_model.specs.Units.{unit_number}
use Rattle.archive_head.specs.declared.lane.Lane.{Lane}
use Rattle.archive_head.specs.Head.{number, lane_octets, octets_in, Contents, IsLane, IsHead}
use Rattle.archive_head.specs.inner.Places.{lane_at, lanes_from, contents_at, HasNoReading}
use Rattle.archive_head.proofs.Encoding.{length-numbers, length-lane, beyond, number_read}

-- one more collector is read
pub lanes_more : (octets : List ℕ) (i n : ℕ) → lanes_from octets i (suc n) ≡ lanes_from octets i n ++ (lane_at octets (64 + 64 * (i + n)) ∷ [])
lanes_more octets i zero = ap (λ (k : ℕ). lane_at octets (64 + 64 * k) ∷ []) (let e : i ≡ i + 0 = omega arith in e)
lanes_more octets i (suc n) = ap (λ (ls : List Lane). lane_at octets (64 + 64 * i) ∷ ls) (lanes_more octets (suc i) n ∙ ap (λ (k : ℕ). lanes_from octets (suc i) n ++ (lane_at octets (64 + 64 * k) ∷ [])) (let e : suc i + n ≡ i + suc n = omega arith in e))

-- so do the first ones
pub lanes_next : (octets : List ℕ) (n : ℕ) → lanes_from octets 0 (n + 1) ≡ lanes_from octets 0 n ++ (lane_at octets (64 + 64 * n) ∷ [])
lanes_next octets n = ap (lanes_from octets 0) (let e : n + 1 ≡ suc n = omega arith in e) ∙ lanes_more octets 0 n ∙ ap (λ (k : ℕ). lanes_from octets 0 n ++ (lane_at octets (64 + 64 * k) ∷ [])) (let e : 0 + n ≡ n = omega arith in e)

-- what holds of each and of one more holds of all
pub lanes_valid : (ls : List Lane) (l : Lane) → AllByRecursion IsLane ls → IsLane l → AllByRecursion IsLane (ls ++ l ∷ [])
lanes_valid [] l are is = (is, tt)
lanes_valid (a ∷ ls) l are is = (are.0, lanes_valid ls l are.1 is)

-- as many collectors are read as are asked for
pub length-lanes_from : (octets : List ℕ) (i n : ℕ) → length (lanes_from octets i n) ≡ n
length-lanes_from octets i zero = refl
length-lanes_from octets i (suc n) = ap suc (length-lanes_from octets (suc i) n)

-- a collector's octets, wherever they stand, are read as what is kept of it
pub lane_read : (front rest : List ℕ) (l : Lane) (place : ℕ) → IsLane l → length front ≡ place → lane_at (front ++ (lane_octets l ++ rest)) place ≡ l
lane_read front rest l place is at =
    let ns : List ℕ = l.offered ∷ l.admitted ∷ l.mark ∷ l.first ∷ l.used ∷ l.since ∷ 0 ∷ 0 ∷ [] in
    let octets : List ℕ = front ++ (lane_octets l ++ rest) in
    let one : (k : ℕ) → number_at 8 (place + 8 * k) octets ≡ number_at 8 (8 * k) (lane_octets l ++ rest) = λ k. ap (λ (p : ℕ). number_at 8 (p + 8 * k) octets) (sym at) ∙ beyond front (lane_octets l ++ rest) (8 * k) in
    let o : number_at 8 place octets ≡ l.offered = ap (λ (p : ℕ). number_at 8 p octets) (let e : place ≡ place + 8 * 0 = omega arith in e) ∙ one 0 ∙ number_read ns rest 0 (omega arith) is.offered in
    let a : number_at 8 (place + 8) octets ≡ l.admitted = one 1 ∙ number_read ns rest 1 (omega arith) is.admitted in
    let m : number_at 8 (place + 16) octets ≡ l.mark = one 2 ∙ number_read ns rest 2 (omega arith) (omega (arith, is.mark)) in
    let f : number_at 8 (place + 24) octets ≡ l.first = one 3 ∙ number_read ns rest 3 (omega arith) is.first in
    let u : number_at 8 (place + 32) octets ≡ l.used = one 4 ∙ number_read ns rest 4 (omega arith) is.used in
    let s : number_at 8 (place + 40) octets ≡ l.since = one 5 ∙ number_read ns rest 5 (omega arith) is.since in
    rw (o, a, m, f, u, s) refl

-- and so are those of all collectors
pub lanes_read : (front rest : List ℕ) (ls : List Lane) (i : ℕ) → AllByRecursion IsLane ls → length front ≡ 64 + 64 * i → lanes_from (front ++ (flat_map lane_octets ls ++ rest)) i (length ls) ≡ ls
lanes_read front rest [] i are at = refl
lanes_read front rest (l ∷ ls) i are at =
    let tail : List ℕ = flat_map lane_octets ls ++ rest in
    let same : front ++ ((lane_octets l ++ flat_map lane_octets ls) ++ rest) ≡ front ++ (lane_octets l ++ tail) = ap (λ (t : List ℕ). front ++ t) (append_assoc (lane_octets l) (flat_map lane_octets ls) rest) in
    let next : front ++ (lane_octets l ++ tail) ≡ (front ++ lane_octets l) ++ tail = sym (append_assoc front (lane_octets l) tail) in
    let long : length (front ++ lane_octets l) ≡ 64 + 64 * suc i = omega (arith, at, length-append front (lane_octets l), length-lane l) in
    let here : lane_at (front ++ (lane_octets l ++ tail)) (64 + 64 * i) ≡ l = lane_read front tail l (64 + 64 * i) are.0 at in
    let later : lanes_from (front ++ (lane_octets l ++ tail)) (suc i) (length ls) ≡ ls = ap (λ (o : List ℕ). lanes_from o (suc i) (length ls)) next ∙ lanes_read (front ++ lane_octets l) rest ls (suc i) are.1 long in
    ap (λ (o : List ℕ). lanes_from o i (suc (length ls))) same
    ∙ ap (λ (a : Lane). a ∷ lanes_from (front ++ (lane_octets l ++ tail)) (suc i) (length ls)) here
    ∙ ap (λ (ks : List Lane). l ∷ ks) later

-- a page that encodes a head in a unit is read as that head
pub head_read : (u : Unit) (h : Contents) → IsHead h → contents_at (octets_in u h) (length h.lanes) ≡ h
head_read u h is =
    let ns : List ℕ = h.applied ∷ h.last ∷ h.begun ∷ h.fresh ∷ h.block ∷ h.root ∷ unit_number u ∷ 0 ∷ [] in
    let zeros : List ℕ = replicate (16320 - 64 * length h.lanes) 0 in
    let rest : List ℕ = flat_map lane_octets h.lanes ++ zeros in
    let a : number_at 8 0 (octets_in u h) ≡ h.applied = number_read ns rest 0 (omega arith) is.applied in
    let l : number_at 8 8 (octets_in u h) ≡ h.last = number_read ns rest 1 (omega arith) (omega (arith, is.last)) in
    let b : number_at 8 16 (octets_in u h) ≡ h.begun = number_read ns rest 2 (omega arith) is.begun in
    let f : number_at 8 24 (octets_in u h) ≡ h.fresh = number_read ns rest 3 (omega arith) is.fresh in
    let k : number_at 8 32 (octets_in u h) ≡ h.block = number_read ns rest 4 (omega arith) is.block in
    let r : number_at 8 40 (octets_in u h) ≡ h.root = number_read ns rest 5 (omega arith) is.root in
    let ls : lanes_from (octets_in u h) 0 (length h.lanes) ≡ h.lanes = lanes_read (flat_map number ns) zeros h.lanes 0 is.lanes (length-numbers ns) in
    rw (a, l, b, f, k, r, ls) refl

small : (u : Unit) → unit_number u < 2 ^ 64
small Seconds = omega arith
small Microseconds = omega arith

-- and its unit is the one that it names
pub unit_read : (u : Unit) (h : Contents) → number_at 8 48 (octets_in u h) ≡ unit_number u
unit_read u h = number_read (h.applied ∷ h.last ∷ h.begun ∷ h.fresh ∷ h.block ∷ h.root ∷ unit_number u ∷ 0 ∷ []) (flat_map lane_octets h.lanes ++ replicate (16320 - 64 * length h.lanes) 0) 6 (omega arith) (small u)

-- where all collectors that are read are such, so is each
pub lane_in : (octets : List ℕ) (i n k : ℕ) → k < n → AllByRecursion IsLane (lanes_from octets i n) → IsLane (lane_at octets (64 + 64 * (i + k)))
lane_in octets i zero k lt are = absurd (omega arith)
lane_in octets i (suc n) zero lt are = subst (λ (j : ℕ). IsLane (lane_at octets (64 + 64 * j))) (let e : i ≡ i + 0 = omega arith in e) are.0
lane_in octets i (suc n) (suc k) lt are = subst (λ (j : ℕ). IsLane (lane_at octets (64 + 64 * j))) (let e : suc i + k ≡ i + suc k = omega arith in e) (lane_in octets (suc i) n k (omega (arith, lt)) are.1)

-- what is read from a page is a head that it encodes
pub one_read : (u : Unit) (octets page : List ℕ) (count : ℕ) (head : Contents) → octets ≡ page → length head.lanes ≡ count → Encodes IsHead (octets_in u) head page → contents_at octets count ≡ head
one_read u octets page count head same n encodes =
    ap (λ (o : List ℕ). contents_at o count) (same ∙ encodes.encoded) ∙ ap (contents_at (octets_in u head)) (sym n) ∙ head_read u head encodes.valid

-- and it has a reading
pub none_read : (u : Unit) (octets page : List ℕ) (count : ℕ) (head : Contents) → octets ≡ page → length head.lanes ≡ count → Encodes IsHead (octets_in u) head page → HasNoReading octets count → ⊥
none_read u octets page count head same n encodes lacks =
    let is : contents_at octets count ≡ head = one_read u octets page count head same n encodes in
    let last : number_at 8 8 octets ≡ head.last = ap (λ (h : Contents). h.last) is in
    let lanes : lanes_from octets 0 count ≡ head.lanes = ap (λ (h : Contents). h.lanes) is in
    let are : AllByRecursion IsLane (lanes_from octets 0 count) = subst (AllByRecursion IsLane) (sym lanes) encodes.valid.lanes in
    elim lacks [
      | inl above ↦ let most = encodes.valid.last in omega (arith, last, most, above)
      | inr there ↦ let lane = subst (λ (j : ℕ). IsLane (lane_at octets (64 + 64 * j))) (let e : 0 + there.0 ≡ there.0 = omega arith in e) (lane_in octets 0 count there.0 there.1 are) in let most = lane.mark in let bad = there.2 in omega (arith, most, bad)
    ]
