-- Octets that are read two digits at a time.
use Rattle.std.proofs.Common.{◌≡◌, ℕ, suc, ◌/◌, ◌%◌, ◌<◌, List, [], ◌∷◌, ◌++◌, flat_map, refl, sym, ◌∙◌, append_assoc}
use Rattle.std.proofs.lemmas.List.{append-nil}
use Rattle.std.specs.Char.{digit_char}
use Rattle.route_model.specs.Octets.{AreOctets}
use Rattle.route_text.specs.RouteText.{octet_text}

-- of all octets these are read, and the rest of the text writes those that are left
pub record OctetsLeft (all done rest : List ℕ) : Type 0 where
  pub more : List ℕ
  pub octets : AreOctets more
  pub split : all ≡ done ++ more
  pub text : rest ≡ flat_map octet_text more

pub octets_begin : (all text : List ℕ) → AreOctets all → text ≡ flat_map octet_text all → OctetsLeft all [] text
octets_begin all text octets e = record { more = all; octets = octets; split = refl; text = e }

-- where no text is left no octet is
pub octets_end : (all done : List ℕ) → OctetsLeft all done [] → done ≡ all
octets_end all done h = at h.more h.split h.text
  where
    at : (more : List ℕ) → all ≡ done ++ more → [] ≡ flat_map octet_text more → done ≡ all
    at [] split text = sym (split ∙ append-nil done)
    at (o ∷ more) split text = cc

-- the two digits at the front are those of the next octet
pub record NextOctet (all done : List ℕ) (high low : ℕ) (after : List ℕ) : Type 0 where
  pub octet : ℕ
  pub small : octet < 256
  pub high_digit : high ≡ digit_char (octet / 16)
  pub low_digit : low ≡ digit_char (octet % 16)
  pub left : OctetsLeft all (done ++ octet ∷ []) after

pub next_octet : (all done after : List ℕ) (high low : ℕ) → OctetsLeft all done (high ∷ low ∷ after) → NextOctet all done high low after
next_octet all done after high low h = at h.more h.octets h.split h.text
  where
    at : (more : List ℕ) → AreOctets more → all ≡ done ++ more → high ∷ low ∷ after ≡ flat_map octet_text more → NextOctet all done high low after
    at [] octets split text = absurd (let bad : ⊥ = cc in bad)
    at (o ∷ more) octets split text = record {
      octet = o;
      small = octets 0;
      high_digit = cc;
      low_digit = cc;
      left = record {
        more = more;
        octets = λ i. octets (suc i);
        split = split ∙ sym (append_assoc done (o ∷ []) more);
        text = cc;
      };
    }

-- digits come in twos
pub octets_odd : (all done : List ℕ) (high : ℕ) → OctetsLeft all done (high ∷ []) → ⊥
octets_odd all done high h = at h.more h.text
  where
    at : (more : List ℕ) → high ∷ [] ≡ flat_map octet_text more → ⊥
    at [] text = cc
    at (o ∷ more) text = cc
