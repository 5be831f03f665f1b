-- Texts that are written one after another.
use Rattle.std.proofs.Common.{◌≡◌, ℕ, take, drop, take-append-drop, Bool, true, false, List, [], ◌++◌, Option, Some, None, refl, sym, ap, ◌∙◌, subst, append_assoc, append-nil, eqb, length}
use Rattle.std.proofs.lemmas.List.{nil_from_length}
use Rattle.std.proofs.lemmas.Bool.Decides.{Decides-eqb}
use Rattle.std.specs.Io.KnownBytes.{Appends, Keeps}
use Rattle.std.proofs.KnownBytes.{Appends-nil, Appends-trans}
use Rattle.service.specs.Outputs.{OutputState, Reports}
use Rattle.service.specs.Refusals.{ReportsFailure}

pub is_nil : (octets : List ℕ) (r : Bool) → r ≡ eqb (length octets) 0 → r ≡ true → octets ≡ []
is_nil octets r e t = nil_from_length octets ((Decides-eqb (length octets) 0).0 (sym e ∙ t))

-- nothing is written
pub Reports-nil : (was : OutputState) → Reports was was []
Reports-nil was = record { front = []; rest = []; parts = refl; wrote = Appends-nil was.held; whole = λ e. refl; stays = λ e. (e, refl) }

-- nothing is written after a write that failed
pub Reports-none : (was : OutputState) (text : List ℕ) → was.failed ≡ true → Reports was was text
Reports-none was text failed = record { front = []; rest = text; parts = refl; wrote = Appends-nil was.held; whole = λ sound. absurd cc; stays = λ e. (e, refl) }

-- of the octets some are written, and these are left
pub record Put (octets rest : List ℕ) (was now : Option (List ℕ)) : Type 0 where
  pub done : List ℕ
  pub parts : octets ≡ done ++ rest
  pub wrote : Appends was now done

pub put_none : (octets : List ℕ) (was : Option (List ℕ)) → Put octets octets was was
put_none octets was = record { done = []; parts = refl; wrote = Appends-nil was }

pub put_more : (octets rest left : List ℕ) (count : ℕ) (was mid now : Option (List ℕ)) → left ≡ drop count rest → Appends mid now (take count rest) → Put octets rest was mid → Put octets left was now
put_more octets rest left count was mid now is more p = subst (λ (t : List ℕ). Put octets t was now) (sym is) (record {
  done = p.done ++ take count rest;
  parts = p.parts ∙ ap (λ (t : List ℕ). p.done ++ t) (sym (take-append-drop count rest)) ∙ sym (append_assoc p.done (take count rest) (drop count rest));
  wrote = Appends-trans was mid now p.done (take count rest) p.wrote more;
})

-- known octets that stay are those with none after them
pub kept_none : (old new : Option (List ℕ)) → Keeps old new → Appends old new []
kept_none None new kept = tt
kept_none (Some xs) None kept = absurd kept
kept_none (Some xs) (Some ys) kept = kept ∙ sym (append-nil xs)

pub put_all : (octets rest : List ℕ) (was now : OutputState) → was.failed ≡ false → rest ≡ [] → Put octets rest was.held now.held → Reports was now octets
put_all octets rest was now sound none p = record { front = p.done; rest = rest; parts = p.parts; wrote = p.wrote; whole = λ e. none; stays = λ failed. absurd cc }

pub put_some : (octets rest : List ℕ) (was mid now : OutputState) → was.failed ≡ false → now.failed ≡ true → Put octets rest was.held mid.held → Appends mid.held now.held [] → Reports was now octets
put_some octets rest was mid now sound failed p none = record {
  front = p.done;
  rest = rest;
  parts = p.parts;
  wrote = subst (Appends was.held now.held) (append-nil p.done) (Appends-trans was.held mid.held now.held p.done [] p.wrote none);
  whole = λ e. absurd cc;
  stays = λ e. absurd cc;
}

-- a text, and then another
trans_by : (failed : Bool) (was mid now : OutputState) (a b : List ℕ) → mid.failed ≡ failed → Reports was mid a → Reports mid now b → Reports was now (a ++ b)
trans_by true was mid now a b e p q =
    let stayed = q.stays e in
    record {
      front = p.front;
      rest = p.rest ++ b;
      parts = ap (λ (t : List ℕ). t ++ b) p.parts ∙ append_assoc p.front p.rest b;
      wrote = subst (Appends was.held now.held) (append-nil p.front) (Appends-trans was.held mid.held now.held p.front [] p.wrote (subst (Appends mid.held now.held) stayed.1 q.wrote));
      whole = λ f. let t = stayed.0 in absurd cc;
      stays = λ f. (stayed.0, (p.stays f).1);
    }
trans_by false was mid now a b e p q =
    let none = p.whole e in
    record {
      front = a ++ q.front;
      rest = q.rest;
      parts = ap (λ (t : List ℕ). a ++ t) q.parts ∙ sym (append_assoc a q.front q.rest);
      wrote = Appends-trans was.held mid.held now.held a q.front (subst (Appends was.held mid.held) (sym (p.parts ∙ ap (λ (t : List ℕ). p.front ++ t) none ∙ append-nil p.front)) p.wrote) q.wrote;
      whole = q.whole;
      stays = λ f. let t = (p.stays f).0 in absurd cc;
    }

pub Reports-trans : (was mid now : OutputState) (a b : List ℕ) → Reports was mid a → Reports mid now b → Reports was now (a ++ b)
Reports-trans was mid now a b p q = trans_by mid.failed was mid now a b refl p q

-- standard error stays as it was where standard output hasn't failed
pub still_failed : (failed err_failed : Bool) (err_was err_now : OutputState) → failed ≡ false → err_was.failed ≡ err_failed → ReportsFailure failed err_was err_now → err_now.failed ≡ err_failed
still_failed failed err_failed err_was err_now sound e t = ap (λ (s : OutputState). s.failed) (t.quiet sound) ∙ e

-- a text, and then what is buffered
pub Reports-flushed : (was mid now : OutputState) (text : List ℕ) → Reports was mid text → Reports mid now [] → Reports was now text
Reports-flushed was mid now text p q = subst (Reports was now) (append-nil text) (Reports-trans was mid now text [] p q)
