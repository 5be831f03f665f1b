-- An archive's tree stands wherever its own pages are the same, and wherever more blocks are settled.
use Rattle.std.proofs.Common.{◌≡◌, ℕ, zero, suc, List, [], ◌∷◌, length, inl, inr, sym, ◌∙◌, ap, arith, Some, None}
use Rattle.std.specs.List.{slice_get}
use Rattle.std.proofs.lemmas.Bool.{cases_lt}
use Rattle.intake.specs.Ring.{page_at}
use Rattle.archive_pages.specs.Represented.{IsFramed, IsGrowing}
use Rattle.disk_archive.specs.Trees.{TreeLocated}

same_page : (old new : List (List ℕ)) (n : ℕ) (octets : List ℕ) → length new ≡ length old → page_at new n ≡ page_at old n → slice_get old n ≡ Some octets → slice_get new n ≡ Some octets
same_page [] new n octets len e at = cc
same_page (o ∷ old) [] n octets len e at = absurd (omega (arith, len))
same_page (o ∷ old) (p ∷ new) zero octets len e at = let here : o ≡ octets = cc in ap Some (e ∙ here)
same_page (o ∷ old) (p ∷ new) (suc n) octets len e at = same_page old new n octets (omega (arith, len)) e at

pub not_own : {X : Type 0} (x : X) → None ≡ Some x → ⊥
not_own x e = cc

pub tree_framed : (count : ℕ) (settled : ℕ → List ℕ → Type 0) → IsFramed (TreeLocated count) settled
tree_framed count settled low root fresh block next_stamp versions old new len same t = record {
  level = t.level;
  store = t.store;
  represents_node = λ page node here. elim (cases_lt page low) [
    | inl lt ↦ absurd (not_own node (sym (t.own page lt) ∙ here))
    | inr ge ↦ (let s = t.represents_node page node here in record { octets = s.octets; at = same_page old new page s.octets len (same page ge) s.at; represents_node = s.represents_node })
  ];
  own = t.own;
  limit = t.limit;
  blocks = t.blocks;
  next = t.next;
  has = t.has;
}

pub tree_grows : (count : ℕ) → IsGrowing (TreeLocated count)
tree_grows count few many more low root fresh block next_stamp versions pages t = record {
  level = t.level;
  store = t.store;
  represents_node = t.represents_node;
  own = t.own;
  limit = t.limit;
  blocks = λ n node here. (let b = t.blocks n node here in record { inside = b.inside; octets = b.octets; here = more n b.octets b.here; represents_node = b.represents_node });
  next = t.next;
  has = t.has;
}
