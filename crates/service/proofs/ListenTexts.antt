-- The two sides of the colon in where a server takes connections.
use Rattle.std.proofs.Common.{◌≡◌, ◌≢◌, ℕ, zero, suc, ◌<◌, List, [], ◌∷◌, Option, MatchOption, length, get_or, None, Result, Ok, Err, OnErr, codes, decimal, append_assoc, sym, subst, ap, ◌∙◌, arith, ⊎_elim, Bor}
use Rattle.std.specs.Net.Grammar.{IsDotted}
use Rattle.std.specs.Net.Socket.{v4_port}
use Rattle.std.specs.Net.Text.{ipv4_text}
use Rattle.std.specs.declared.net.socket_addr.SocketAddrV4.{SocketAddrV4}
use Rattle.std.proofs.NetLemmas.Alphabet.{IsDigitOrDot, All-ipv4_text}
use Rattle.std.proofs.lemmas.List.Elements.{All-get_or}
use Rattle.std.proofs.lemmas.Str.Pattern.{IsSplitOnceResult, split_after}
use Rattle.service.specs.Listening.{IsListenText}

small : (a b c d : ℕ) → (a < 256) × (b < 256) × (c < 256) × (d < 256) → (k : ℕ) → get_or (a ∷ b ∷ c ∷ d ∷ []) k 0 < 256
small a b c d fit zero = fit.0
small a b c d fit (suc zero) = fit.1
small a b c d fit (suc (suc zero)) = fit.2
small a b c d fit (suc (suc (suc zero))) = fit.3
small a b c d fit (suc (suc (suc (suc k)))) = omega arith

no_colon : IsDigitOrDot 58 → ⊥
no_colon h = ⊎_elim (λ d. omega arith) (λ d. omega arith) h

-- no colon stands in an address
Lacks-colon : (text octets : List ℕ) → IsDotted text octets → (i : ℕ) → i < length text → get_or text i 0 ≢ 58
Lacks-colon text octets h i within e =
    let o : List ℕ = h.a ∷ h.b ∷ h.c ∷ h.d ∷ [] in
    let is : text ≡ ipv4_text o = h.spelled in
    let all = All-ipv4_text o (small h.a h.b h.c h.d h.fit) in
    let inside : i < length (ipv4_text o) = subst (λ (t : List ℕ). i < length t) is within in
    let here : get_or (ipv4_text o) i 0 ≡ 58 = sym (ap (λ (t : List ℕ). get_or t i 0) is) ∙ e in
    no_colon (subst IsDigitOrDot here (All-get_or IsDigitOrDot (ipv4_text o) i 0 inside all))

-- where a text is cut at its first colon, the address and the port are the two sides
pub listen_parts : (text : List ℕ) (r : Option (Bor (List ℕ) × Bor (List ℕ))) (listen : SocketAddrV4) (h : IsListenText text listen) → IsSplitOnceResult 58 text r → MatchOption r ⊥ (λ x. (x.0.now ≡ h.address) × (x.1.now ≡ decimal (v4_port listen)))
listen_parts text r listen h is =
    split_after 58 text h.address (decimal (v4_port listen)) r is (omega arith) (h.encoded ∙ append_assoc h.address (codes ":") (decimal (v4_port listen))) (Lacks-colon h.address _ h.is_address)

-- a text without a colon is no such one
pub listen_none : (text : List ℕ) (listen : SocketAddrV4) → IsSplitOnceResult 58 text None → IsListenText text listen → ⊥
listen_none text listen is h = listen_parts text None listen h is

-- what holds of each refusal holds of this one
pub always : {A E : Type 0} (r : Result A E) (P : Type 0) → P → OnErr r P
always (Ok x) P p = tt
always (Err e) P p = p
