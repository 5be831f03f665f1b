-- A line is one request at most.
use Rattle.std.proofs.Common.{◌≡◌, ℕ, ◌<◌, ◌≤◌, ◌^◌, true, false, List, ◌∷◌, Option, Some, None, codes, decimal, arith, refl, sym, ap, subst, ◌∙◌, ⊎_elim}
use Rattle.route_model.specs.Moments.{latest_moment}
use Rattle.std.specs.Str.{bytes_eq}
use Rattle.std.proofs.lemmas.Fmt.{decimal_injective}
use Rattle.std.proofs.lemmas.Slice.Eq.{bytes_eq-Decides}
use Rattle.route_model.specs.declared.address.Address.{Address}
use Rattle.route_model.specs.declared.peer.Peer.{Peer}
use Rattle.route_model.specs.Prefix.{IpPrefix}
use Rattle.route_meaning.specs.declared.question.Select.{Select}
use Rattle.route_meaning.specs.declared.question.Select.TheVariants.{Route, ByPrefix, Covering, PeerTable, All}
use Rattle.route_meaning.specs.declared.question.Spot.{Spot}
use Rattle.route_meaning.specs.declared.question.RowsQuestion.{RowsQuestion}
use Rattle.route_meaning.specs.declared.question.EventsQuestion.{EventsQuestion}
use Rattle.route_meaning.specs.declared.question.ChangedQuestion.{ChangedQuestion}
use Rattle.route_text.specs.AddressText.{IsAddressText}
use Rattle.route_text.specs.MomentText.{IsMomentText}
use Rattle.route_text.specs.PrefixText.{IsPrefixText}
use Rattle.route_text.proofs.api.Addresses.{IsAddressText_unique}
use Rattle.route_text.proofs.api.OneValue.{one_instant, one_prefix}
use Rattle.interleaving_core.specs.declared.query.Query.TheVariants.{Rows, Events}
use Rattle.service.specs.Requests.{words_of, AreNumberWords, ArePeerWords, AreSpotWords, AreAfterWords, AreRouteWords, ArePrefixWords, AreCoverWords, ArePeerTableWords, AreAllWords, AreSelectWords, AreRowsWords, AreSkipWords, AreEventsWords, AreChangedWords, AreDurableWords, AreRequestWords, IsRequestLine}
use Rattle.service.specs.declared.request.Request.{Request}
use Rattle.service.specs.declared.request.Request.TheVariants.{Question, Changed, Watermark, Durable}
use Rattle.service.proofs.Words.{first_of, rest_of, nothing}

abbrev Text : Type 0
Text = List ℕ

-- words whose first ones differ aren't the same
differ : (a b : Text) (xs ys words : List Text) → bytes_eq a b ≡ false → words ≡ a ∷ xs → words ≡ b ∷ ys → ⊥
differ a b xs ys words apart h k =
    let same : bytes_eq a b ≡ true = (bytes_eq-Decides a b).1 (first_of _ _ _ _ (sym h ∙ k)) in
    absurd cc

same_number : (a b last : ℕ) (text : Text) → last < 2 ^ 64 → a ≤ last → b ≤ last → text ≡ decimal a → text ≡ decimal b → a ≡ b
same_number a b last text fits small also e f = decimal_injective a b (omega (arith, fits, small)) (omega (arith, fits, also)) (sym e ∙ f)

-- ---- peers and spots

one_peer : (collector address as_number : Text) (p q : Peer) → ArePeerWords collector address as_number p → ArePeerWords collector address as_number q → p ≡ q
one_peer collector address as_number p q h k =
    let collectors = same_number p.collector q.collector 15 collector (omega arith) h.few k.few h.collector_is k.collector_is in
    let addresses = IsAddressText_unique address p.address q.address h.address_is k.address_is in
    let numbers = same_number p.as_number q.as_number 4294967295 as_number (omega arith) h.in_range k.in_range h.as_number_is k.as_number_is in
    λ i. record { collector = collectors i; address = addresses i; as_number = numbers i }

-- the same of words that are equal
same_peer : (a b c d e f : Text) (p q : Peer) → a ≡ d → b ≡ e → c ≡ f → ArePeerWords a b c p → ArePeerWords d e f q → p ≡ q
same_peer a b c d e f p q first second third h k =
    one_peer d e f p q
    (subst (λ (x : Text). ArePeerWords x e f p) first
    (subst (λ (x : Text). ArePeerWords a x f p) second
    (subst (λ (x : Text). ArePeerWords a b x p) third h))) k

same_moment : (a b : Text) (m n : ℕ) → a ≡ b → IsMomentText a m → IsMomentText b n → m ≡ n
same_moment a b m n e h k = one_instant latest_moment (omega arith) b m n (subst (λ (x : Text). IsMomentText x m) e h) k

same_prefix : (a b : Text) (p q : IpPrefix) → a ≡ b → IsPrefixText a p → IsPrefixText b q → p ≡ q
same_prefix a b p q e h k = one_prefix b p q (subst (λ (x : Text). IsPrefixText x p) e h) k

one_spot : (words : List Text) (s t : Spot) → AreSpotWords words s → AreSpotWords words t → s ≡ t
one_spot words s t h k =
    let beyond = sym h.are ∙ k.are in
    let collector : h.collector ≡ k.collector = first_of _ _ _ _ beyond in
    let beyond-2 = rest_of _ _ _ _ beyond in
    let address : h.address ≡ k.address = first_of _ _ _ _ beyond-2 in
    let beyond-3 = rest_of _ _ _ _ beyond-2 in
    let as_number : h.as_number ≡ k.as_number = first_of _ _ _ _ beyond-3 in
    let beyond-4 = rest_of _ _ _ _ beyond-3 in
    let prefix : h.prefix ≡ k.prefix = first_of _ _ _ _ beyond-4 in
    let peers = same_peer _ _ _ _ _ _ s.peer t.peer collector address as_number h.peer_is k.peer_is in
    let prefixes = same_prefix _ _ s.prefix t.prefix prefix h.prefix_is k.prefix_is in
    λ i. record { peer = peers i; prefix = prefixes i }

same_spot : (xs ys : List Text) (s t : Spot) → xs ≡ ys → AreSpotWords xs s → AreSpotWords ys t → s ≡ t
same_spot xs ys s t e h k = one_spot ys s t (subst (λ (x : List Text). AreSpotWords x s) e h) k

one_after : (words : List Text) (a b : Option Spot) → AreAfterWords words a → AreAfterWords words b → a ≡ b
one_after words None None h k = refl
one_after words None (Some t) h k = absurd (nothing (codes "after") k.0 (sym h ∙ k.1))
one_after words (Some s) None h k = absurd (nothing (codes "after") h.0 (sym k ∙ h.1))
one_after words (Some s) (Some t) h k = ap Some (same_spot h.0 k.0 s t (rest_of _ _ _ _ (sym h.1 ∙ k.1)) h.2 k.2)

same_after : (xs ys : List Text) (a b : Option Spot) → xs ≡ ys → AreAfterWords xs a → AreAfterWords ys b → a ≡ b
same_after xs ys a b e h k = one_after ys a b (subst (λ (x : List Text). AreAfterWords x a) e h) k

-- ---- which rows are asked for

one_route : (words : List Text) (s t : Spot) → AreRouteWords words s → AreRouteWords words t → s ≡ t
one_route words s t h k = same_spot h.named k.named s t (rest_of _ _ _ _ (sym h.are ∙ k.are)) h.spot_is k.spot_is

one_by_prefix : (words : List Text) (p q : IpPrefix) (a b : Option Spot) → ArePrefixWords words p a → ArePrefixWords words q b → (p ≡ q) × (a ≡ b)
one_by_prefix words p q a b h k =
    let beyond = rest_of _ _ _ _ (sym h.are ∙ k.are) in
    (same_prefix _ _ p q (first_of _ _ _ _ beyond) h.prefix_is k.prefix_is, same_after _ _ a b (rest_of _ _ _ _ beyond) h.after_is k.after_is)

one_covering : (words : List Text) (p q : Address) (a b : Option Spot) → AreCoverWords words p a → AreCoverWords words q b → (p ≡ q) × (a ≡ b)
one_covering words p q a b h k =
    let beyond = rest_of _ _ _ _ (sym h.are ∙ k.are) in
    let text : h.text ≡ k.text = first_of _ _ _ _ beyond in
    (IsAddressText_unique k.text p q (subst (λ (x : Text). IsAddressText x p) text h.address_is) k.address_is, same_after _ _ a b (rest_of _ _ _ _ beyond) h.after_is k.after_is)

one_table : (words : List Text) (p q : Peer) (a b : Option Spot) → ArePeerTableWords words p a → ArePeerTableWords words q b → (p ≡ q) × (a ≡ b)
one_table words p q a b h k =
    let beyond = rest_of _ _ _ _ (sym h.are ∙ k.are) in
    let beyond-2 = rest_of _ _ _ _ beyond in
    let beyond-3 = rest_of _ _ _ _ beyond-2 in
    (same_peer _ _ _ _ _ _ p q (first_of _ _ _ _ beyond) (first_of _ _ _ _ beyond-2) (first_of _ _ _ _ beyond-3) h.peer_is k.peer_is, same_after _ _ a b (rest_of _ _ _ _ beyond-3) h.after_is k.after_is)

one_all : (words : List Text) (a b : Option Spot) → AreAllWords words a → AreAllWords words b → a ≡ b
one_all words a b h k = same_after _ _ a b (rest_of _ _ _ _ (sym h.are ∙ k.are)) h.after_is k.after_is

one_select : (words : List Text) (s t : Select) (a b : Option Spot) → AreSelectWords words s a → AreSelectWords words t b → (s ≡ t) × (a ≡ b)
one_select words (Route p x) (Route q y) a b h k =
    let spots = one_route words (record { peer = p; prefix = x }) (record { peer = q; prefix = y }) h.0 k.0 in
    ((λ i. Route (spots i).peer (spots i).prefix), h.1 ∙ sym k.1)
one_select words (Route p x) (ByPrefix y) a b h k = absurd (differ _ _ _ _ words refl h.0.are k.are)
one_select words (Route p x) (Covering y) a b h k = absurd (differ _ _ _ _ words refl h.0.are k.are)
one_select words (Route p x) (PeerTable y) a b h k = absurd (differ _ _ _ _ words refl h.0.are k.are)
one_select words (Route p x) All a b h k = absurd (differ _ _ _ _ words refl h.0.are k.are)
one_select words (ByPrefix x) (Route q y) a b h k = absurd (differ _ _ _ _ words refl h.are k.0.are)
one_select words (ByPrefix x) (ByPrefix y) a b h k = let e = one_by_prefix words x y a b h k in (ap ByPrefix e.0, e.1)
one_select words (ByPrefix x) (Covering y) a b h k = absurd (differ _ _ _ _ words refl h.are k.are)
one_select words (ByPrefix x) (PeerTable y) a b h k = absurd (differ _ _ _ _ words refl h.are k.are)
one_select words (ByPrefix x) All a b h k = absurd (differ _ _ _ _ words refl h.are k.are)
one_select words (Covering x) (Route q y) a b h k = absurd (differ _ _ _ _ words refl h.are k.0.are)
one_select words (Covering x) (ByPrefix y) a b h k = absurd (differ _ _ _ _ words refl h.are k.are)
one_select words (Covering x) (Covering y) a b h k = let e = one_covering words x y a b h k in (ap Covering e.0, e.1)
one_select words (Covering x) (PeerTable y) a b h k = absurd (differ _ _ _ _ words refl h.are k.are)
one_select words (Covering x) All a b h k = absurd (differ _ _ _ _ words refl h.are k.are)
one_select words (PeerTable x) (Route q y) a b h k = absurd (differ _ _ _ _ words refl h.are k.0.are)
one_select words (PeerTable x) (ByPrefix y) a b h k = absurd (differ _ _ _ _ words refl h.are k.are)
one_select words (PeerTable x) (Covering y) a b h k = absurd (differ _ _ _ _ words refl h.are k.are)
one_select words (PeerTable x) (PeerTable y) a b h k = let e = one_table words x y a b h k in (ap PeerTable e.0, e.1)
one_select words (PeerTable x) All a b h k = absurd (differ _ _ _ _ words refl h.are k.are)
one_select words All (Route q y) a b h k = absurd (differ _ _ _ _ words refl h.are k.0.are)
one_select words All (ByPrefix y) a b h k = absurd (differ _ _ _ _ words refl h.are k.are)
one_select words All (Covering y) a b h k = absurd (differ _ _ _ _ words refl h.are k.are)
one_select words All (PeerTable y) a b h k = absurd (differ _ _ _ _ words refl h.are k.are)
one_select words All All a b h k = (refl, one_all words a b h k)

-- ---- questions

one_rows : (words : List Text) (q r : RowsQuestion) → AreRowsWords words q → AreRowsWords words r → q ≡ r
one_rows words q r h k =
    let beyond = rest_of _ _ _ _ (sym h.are ∙ k.are) in
    let moment : h.moment ≡ k.moment = first_of _ _ _ _ beyond in
    let asked : h.asked ≡ k.asked = rest_of _ _ _ _ beyond in
    let moments = same_moment _ _ q.moment r.moment moment h.moment_is k.moment_is in
    let selects = one_select k.asked q.select r.select q.after r.after (subst (λ (x : List Text). AreSelectWords x q.select q.after) asked h.select_is) k.select_is in
    let select = selects.0 in
    let after = selects.1 in
    λ i. record { moment = moments i; select = select i; after = after i }

one_number : (last : ℕ) → last < 2 ^ 64 → (words : List Text) (a b : ℕ) → AreNumberWords last words a → AreNumberWords last words b → a ≡ b
one_number last fits words a b h k = same_number a b last h.text fits h.within k.within h.number_is (first_of _ _ _ _ (sym h.are ∙ k.are) ∙ k.number_is)

same_only_number : (last : ℕ) → last < 2 ^ 64 → (xs ys : List Text) (a b : ℕ) → xs ≡ ys → AreNumberWords last xs a → AreNumberWords last ys b → a ≡ b
same_only_number last fits xs ys a b e h k = one_number last fits ys a b (subst (λ (x : List Text). AreNumberWords last x a) e h) k

one_skip : (words : List Text) (a b : ℕ) → AreSkipWords words a → AreSkipWords words b → a ≡ b
one_skip words a b h k =
    ⊎_elim
    (λ none. ⊎_elim (λ also. none.1 ∙ sym also.1) (λ some. absurd (nothing (codes "skip") some.0 (sym none.0 ∙ some.1))) k)
    (λ some. ⊎_elim (λ none. absurd (nothing (codes "skip") some.0 (sym none.0 ∙ some.1))) (λ also. same_only_number 18446744073709551615 (omega arith) some.0 also.0 a b (rest_of _ _ _ _ (sym some.1 ∙ also.1)) some.2 also.2) k)
    h

one_events : (words : List Text) (q r : EventsQuestion) → AreEventsWords words q → AreEventsWords words r → q ≡ r
one_events words q r h k =
    let beyond = rest_of _ _ _ _ (sym h.are ∙ k.are) in
    let from : h.from ≡ k.from = first_of _ _ _ _ beyond in
    let beyond-2 = rest_of _ _ _ _ beyond in
    let to : h.to ≡ k.to = first_of _ _ _ _ beyond-2 in
    let beyond-3 = rest_of _ _ _ _ beyond-2 in
    let beyond-4 = rest_of _ _ _ _ beyond-3 in
    let beyond-5 = rest_of _ _ _ _ beyond-4 in
    let beyond-6 = rest_of _ _ _ _ beyond-5 in
    let beyond-7 : h.beyond ≡ k.beyond = rest_of _ _ _ _ beyond-6 in
    let froms = same_moment _ _ q.from r.from from h.from_is k.from_is in
    let tos = same_moment _ _ q.to r.to to h.to_is k.to_is in
    let peers = same_peer _ _ _ _ _ _ q.peer r.peer (first_of _ _ _ _ beyond-3) (first_of _ _ _ _ beyond-4) (first_of _ _ _ _ beyond-5) h.peer_is k.peer_is in
    let prefixes = same_prefix _ _ q.prefix r.prefix (first_of _ _ _ _ beyond-6) h.prefix_is k.prefix_is in
    let skips = one_skip k.beyond q.skip r.skip (subst (λ (x : List Text). AreSkipWords x q.skip) beyond-7 h.skip_is) k.skip_is in
    λ i. record { from = froms i; to = tos i; peer = peers i; prefix = prefixes i; skip = skips i }

one_changed : (words : List Text) (q r : ChangedQuestion) → AreChangedWords words q → AreChangedWords words r → q ≡ r
one_changed words q r h k =
    let beyond = rest_of _ _ _ _ (sym h.are ∙ k.are) in
    let from : h.from ≡ k.from = first_of _ _ _ _ beyond in
    let beyond-2 = rest_of _ _ _ _ beyond in
    let to : h.to ≡ k.to = first_of _ _ _ _ beyond-2 in
    let beyond-3 = rest_of _ _ _ _ beyond-2 in
    let beyond-4 = rest_of _ _ _ _ beyond-3 in
    let froms = same_moment _ _ q.from r.from from h.from_is k.from_is in
    let tos = same_moment _ _ q.to r.to to h.to_is k.to_is in
    let lows = same_prefix _ _ q.low r.low (first_of _ _ _ _ beyond-3) h.low_is k.low_is in
    let highs = same_prefix _ _ q.high r.high (first_of _ _ _ _ beyond-4) h.high_is k.high_is in
    let afters = same_after _ _ q.after r.after (rest_of _ _ _ _ beyond-4) h.after_is k.after_is in
    λ i. record { from = froms i; to = tos i; low = lows i; high = highs i; after = afters i }

-- ---- requests

one_durable : (words : List Text) (a b : ℕ) → AreDurableWords words a → AreDurableWords words b → a ≡ b
one_durable words a b h k = same_only_number 15 (omega arith) h.named k.named a b (rest_of _ _ _ _ (sym h.are ∙ k.are)) h.collector_is k.collector_is

one_of_words : (words : List Text) (q r : Request) → AreRequestWords words q → AreRequestWords words r → q ≡ r
one_of_words words (Question (Rows q)) (Question (Rows r)) h k = ap (λ (x : RowsQuestion). Question (Rows x)) (one_rows words q r h k)
one_of_words words (Question (Rows q)) (Question (Events r)) h k = absurd (differ _ _ _ _ words refl h.are k.are)
one_of_words words (Question (Rows q)) (Changed r) h k = absurd (differ _ _ _ _ words refl h.are k.are)
one_of_words words (Question (Rows q)) Watermark h k = absurd (differ _ _ _ _ words refl h.are k)
one_of_words words (Question (Rows q)) (Durable d) h k = absurd (differ _ _ _ _ words refl h.are k.are)
one_of_words words (Question (Events q)) (Question (Rows r)) h k = absurd (differ _ _ _ _ words refl h.are k.are)
one_of_words words (Question (Events q)) (Question (Events r)) h k = ap (λ (x : EventsQuestion). Question (Events x)) (one_events words q r h k)
one_of_words words (Question (Events q)) (Changed r) h k = absurd (differ _ _ _ _ words refl h.are k.are)
one_of_words words (Question (Events q)) Watermark h k = absurd (differ _ _ _ _ words refl h.are k)
one_of_words words (Question (Events q)) (Durable d) h k = absurd (differ _ _ _ _ words refl h.are k.are)
one_of_words words (Changed q) (Question (Rows r)) h k = absurd (differ _ _ _ _ words refl h.are k.are)
one_of_words words (Changed q) (Question (Events r)) h k = absurd (differ _ _ _ _ words refl h.are k.are)
one_of_words words (Changed q) (Changed r) h k = ap Changed (one_changed words q r h k)
one_of_words words (Changed q) Watermark h k = absurd (differ _ _ _ _ words refl h.are k)
one_of_words words (Changed q) (Durable d) h k = absurd (differ _ _ _ _ words refl h.are k.are)
one_of_words words Watermark (Question (Rows r)) h k = absurd (differ _ _ _ _ words refl h k.are)
one_of_words words Watermark (Question (Events r)) h k = absurd (differ _ _ _ _ words refl h k.are)
one_of_words words Watermark (Changed r) h k = absurd (differ _ _ _ _ words refl h k.are)
one_of_words words Watermark Watermark h k = refl
one_of_words words Watermark (Durable d) h k = absurd (differ _ _ _ _ words refl h k.are)
one_of_words words (Durable c) (Question (Rows r)) h k = absurd (differ _ _ _ _ words refl h.are k.are)
one_of_words words (Durable c) (Question (Events r)) h k = absurd (differ _ _ _ _ words refl h.are k.are)
one_of_words words (Durable c) (Changed r) h k = absurd (differ _ _ _ _ words refl h.are k.are)
one_of_words words (Durable c) Watermark h k = absurd (differ _ _ _ _ words refl h.are k)
one_of_words words (Durable c) (Durable d) h k = ap Durable (one_durable words c d h k)

pub one_request : (line : List ℕ) (q r : Request) → IsRequestLine line q → IsRequestLine line r → q ≡ r
one_request line q r h k = one_of_words (words_of line) q r h k
