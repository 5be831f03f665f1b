-- A page is read as a leaf exactly where it is one.
use Rattle.std.proofs.Common.{◌≡◌, ℕ, suc, ◌+◌, ◌-◌, ◌^◌, ◌<◌, ◌≤◌, List, [], ◌∷◌, ◌++◌, length, take, drop, replicate, Option, Some, None, refl, sym, ap, ◌∙◌, append_assoc, arith}
use Rattle.std.specs.List.{All}
use Rattle.std.specs.Option.{is_some}
use Rattle.std.proofs.Common.{false, true, not, Bool}
use Rattle.std.proofs.lemmas.List.{length-take, length-drop, take-append-drop, take-take, take_at, drop_at}
use Rattle.version_model.specs.declared.bounds.Bounds.{Bounds}
use Rattle.tsb_node.specs.declared.header.Header.{Header}
use Rattle.tsb_node.specs.Nodes.{header, body}
use Rattle.tsb_node.specs.Headers.{HasHeader}
use Rattle.std.proofs.Common.{IsSome}
use Rattle.tsb_node.specs.inner.Reading.{area}
use Rattle.tsb_node.proofs.Leaves.{header-size, body-size, body_area}
use Rattle.tsb_node.proofs.HeaderLaws.{has_represents, first_some, high_is, end_is}

pub all_zeros : (xs : List ℕ) → All (λ octet. octet ≡ 0) xs → xs ≡ replicate (length xs) 0
all_zeros [] all = refl
all_zeros (x ∷ xs) all =
    let head : x ≡ 0 = all 0 0 (omega arith) in
    let tail : xs ≡ replicate (length xs) 0 = all_zeros xs (λ k d lt. all (suc k) d (omega arith)) in
    cc (head, tail)

-- two headers of the same octets are one
pub record SameHeader (h g : Header) : Type 0 where
  pub kind : h.kind ≡ g.kind
  pub unit : h.unit ≡ g.unit
  pub level : h.level ≡ g.level
  pub count : h.count ≡ g.count
  pub used : h.used ≡ g.used
  pub bounds : h.bounds ≡ g.bounds

pub header_one : (h g : Header) (octets : List ℕ) → HasHeader h octets → HasHeader g octets → SameHeader h g
header_one h g octets a b =
    let s = has_represents h octets a in
    let t = has_represents g octets b in
    let low : h.bounds.low ≡ g.bounds.low = sym s.low_is ∙ t.low_is in
    let start : h.bounds.start ≡ g.bounds.start = sym s.start_is ∙ t.start_is in
    let high : h.bounds.high ≡ g.bounds.high = high_is g octets h.bounds.high b (sym s.high_is) (first_some (λ n. n + 1 < 256 ^ 40) (λ n. h.bounds.low < n) h.bounds.high a.bounds.order.high) in
    let end : h.bounds.end ≡ g.bounds.end = end_is g octets h.bounds.end b (sym s.end_is) (first_some (λ n. n + 1 < 256 ^ 16) (λ n. h.bounds.start < n) h.bounds.end a.bounds.order.end) in
    record {
      kind = sym s.kind_is ∙ t.kind_is;
      unit = sym s.unit_is ∙ t.unit_is;
      level = sym s.level_is ∙ t.level_is;
      count = sym s.count_is ∙ t.count_is;
      used = sym s.used_is ∙ t.used_is;
      bounds = λ i. record { low = low i; high = high i; start = start i; end = end i };
    }

-- the parts of a node
pub record Parts (unit kind level count : ℕ) (b : Bounds) (es octets : List ℕ) : Type 0 where
  pub front : take 120 octets ≡ header kind unit level count (length es) b
  pub entries_are : take (length es) (area octets) ≡ es
  pub rest_is : drop (length es) (area octets) ≡ replicate (16232 - length es) 0

pub node_parts : (unit kind level count : ℕ) (b : Bounds) (es last octets : List ℕ) → length es ≤ 16232 → octets ≡ body unit kind level count b es ++ last → Parts unit kind level count b es octets
unfolding body
node_parts unit kind level count b es last octets fits is =
    let h : List ℕ = header kind unit level count (length es) b in
    let z : List ℕ = replicate (16232 - length es) 0 in
    let all : octets ≡ h ++ (es ++ (z ++ last)) = is ∙ append_assoc (h ++ es) z last ∙ append_assoc h es (z ++ last) in
    let here : area octets ≡ es ++ z = ap area is ∙ body_area unit kind level count b es last fits in
    record {
      front = ap (take 120) all ∙ take_at h (es ++ (z ++ last)) 120 (header-size kind unit level count (length es) b);
      entries_are = ap (take (length es)) here ∙ take_at es z (length es) refl;
      rest_is = ap (drop (length es)) here ∙ drop_at es z (length es) refl;
    }

-- what has these parts is the node, with anything after it
pub parts_node : (unit kind level count used : ℕ) (b : Bounds) (es octets : List ℕ) → length octets ≡ 16384 → used ≡ length es → used ≤ 16232 → take 120 octets ≡ header kind unit level count used b
    → take used (area octets) ≡ es → All (λ octet. octet ≡ 0) (drop used (area octets)) → octets ≡ body unit kind level count b es ++ drop 16352 octets
unfolding body
parts_node unit kind level count used b es octets size same fits front here zeros_all =
    let h : List ℕ = header kind unit level count (length es) b in
    let node : List ℕ = take 16352 octets in
    let rest : List ℕ = drop used (area octets) in
    let long : length rest ≡ 16232 - length es = omega (arith, length-drop used (area octets), length-drop 120 node, length-take 16352 octets) in
    let z : rest ≡ replicate (16232 - length es) 0 = all_zeros rest zeros_all ∙ ap (λ (n : ℕ). replicate n 0) long in
    let within : 120 ≤ 16352 = omega arith in
    let head : take 120 node ≡ h = take-take 120 16352 octets within ∙ front ∙ ap (λ (n : ℕ). header kind unit level count n b) same in
    let inner : area octets ≡ es ++ replicate (16232 - length es) 0 = sym (take-append-drop used (area octets)) ∙ ap (λ (t : List ℕ). t ++ rest) here ∙ ap (λ (t : List ℕ). es ++ t) z in
    let whole : node ≡ (h ++ es) ++ replicate (16232 - length es) 0 =
    sym (take-append-drop 120 node) ∙ ap (λ (t : List ℕ). t ++ area octets) head ∙ ap (λ (t : List ℕ). h ++ t) inner ∙ sym (append_assoc h es (replicate (16232 - length es) 0)) in
    sym (take-append-drop 16352 octets) ∙ ap (λ (t : List ℕ). t ++ drop 16352 octets) whole

-- what follows a node
pub node_last : (unit kind level count : ℕ) (b : Bounds) (es last octets : List ℕ) → length es ≤ 16232 → octets ≡ body unit kind level count b es ++ last → (take 16352 octets ≡ body unit kind level count b es) × (drop 16352 octets ≡ last)
node_last unit kind level count b es last octets fits is =
    (ap (take 16352) is ∙ take_at (body unit kind level count b es) last 16352 (body-size unit kind level count b es fits), ap (drop 16352) is ∙ drop_at (body unit kind level count b es) last 16352 (body-size unit kind level count b es fits))

-- ---- ends that may be missing

pub none_from : (o : Option ℕ) → is_some o ≡ false → o ≡ None
none_from None e = refl
none_from (Some n) e = absurd cc

pub some_from : (o : Option ℕ) (r : Bool) → is_some o ≡ not r → r ≡ false → IsSome o
some_from o r e f = e ∙ ap not f

pub some_not_none : (o : Option ℕ) (r : Bool) → IsSome o → is_some o ≡ not r → r ≡ true → ⊥
some_not_none o r s e t = cc (s, e, ap not t)
