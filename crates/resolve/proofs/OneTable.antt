-- After any records there is one peer table.
use Rattle.std.proofs.Common.{◌≡◌, ◌∙◌, ◌⊎◌, inl, inr, List, [], ◌∷◌, ◌++◌, Option, None, refl, sym, ap, subst}
use Rattle.std.proofs.lemmas.Bool.Decides.{eqb_tells}
use Rattle.std.specs.List.{AllByRecursion}
use Rattle.mrt_records.specs.Values.{Reported, Read, Skipped, Malformed, PeerTable, Message, StateChange, Rib}
use Rattle.mrt_records.specs.declared.neighbor.Neighbor.{Neighbor}
use Rattle.resolve.specs.Tables.{IsPeerTableRecord, LastTable, peers_of}

-- no record is a peer table
abbrev HasNone : List Reported → Type 0
HasNone records = AllByRecursion (λ r. IsPeerTableRecord r → ⊥) records

-- the last peer table of the records has these peers
abbrev HasLast : List Reported → Option (List Neighbor) → Type 0
HasLast records table =
    (before after : List Reported) × (last : Reported) × (records ≡ before ++ last ∷ after) × IsPeerTableRecord last × HasNone after × (table ≡ peers_of last)

is_table : (r : Reported) → IsPeerTableRecord r ⊎ (IsPeerTableRecord r → ⊥)
is_table (Read (PeerTable peers)) = inl tt
is_table (Read (Message time peer width octets)) = inr (λ x. x)
is_table (Read (StateChange time peer state)) = inr (λ x. x)
is_table (Read (Rib time prefix entries)) = inr (λ x. x)
is_table (Skipped kind subtype) = inr (λ x. x)
is_table (Malformed kind subtype) =
    elim (eqb_tells kind 13) [
      | inl k ↦ elim (eqb_tells subtype 1) [ inl s ↦ inl (k.1, s.1) | inr s ↦ inr (λ x. s.1 x.1) ]
      | inr k ↦ inr (λ x. k.1 x.0)
    ]

in_front : (r : Reported) (rs : List Reported) → ((table : Option (List Neighbor)) × LastTable rs table) → (table : Option (List Neighbor)) × LastTable (r ∷ rs) table
in_front r rs (table, inr (before, after, last, parts, is, rest, same)) = (table, inr (r ∷ before, after, last, ap (λ (t : List Reported). r ∷ t) parts, is, rest, same))
in_front r rs (table, inl none) = elim (is_table r) [ inl is ↦ (peers_of r, inr ([], rs, r, refl, is, none.0, refl)) | inr other ↦ (None, inl ((other, none.0), refl)) ]

pub some_table : (records : List Reported) → (table : Option (List Neighbor)) × LastTable records table
some_table [] = (None, inl (tt, refl))
some_table (r ∷ rs) = in_front r rs (some_table rs)

none_there : (before after : List Reported) (last : Reported) → IsPeerTableRecord last → HasNone (before ++ last ∷ after) → ⊥
none_there [] after last is none = none.0 is
none_there (b ∷ before) after last is none = none_there before after last is none.1

not_both : (records : List Reported) (table : Option (List Neighbor)) → HasNone records → HasLast records table → ⊥
not_both records table none (before, after, last, parts, is, rest, same) = none_there before after last is (subst (λ (t : List Reported). HasNone t) parts none)

-- after a record and others: the last peer table is among the others, or it is the first, or there is none
abbrev Parted : Reported → List Reported → Option (List Neighbor) → Type 0
Parted r rs table = HasLast rs table ⊎ (HasNone rs × ((IsPeerTableRecord r × (table ≡ peers_of r)) ⊎ ((IsPeerTableRecord r → ⊥) × (table ≡ None))))

parted : (r : Reported) (rs : List Reported) (table : Option (List Neighbor)) → LastTable (r ∷ rs) table → Parted r rs table
parted r rs table (inl none) = inr (none.0.1, inr (none.0.0, none.1))
parted r rs table (inr ([], after, last, parts, is, rest, same)) =
    let first : last ≡ r = cc in
    let others : after ≡ rs = cc in
    inr (subst (λ (t : List Reported). HasNone t) others rest, inl (subst (λ (t : Reported). IsPeerTableRecord t) first is, same ∙ ap peers_of first))
parted r rs table (inr (b ∷ before, after, last, parts, is, rest, same)) =
    let others : rs ≡ before ++ last ∷ after = cc in
    inl (before, after, last, others, is, rest, same)

one_of_parted : (r : Reported) (rs : List Reported) (x y : Option (List Neighbor)) → (LastTable rs x → LastTable rs y → x ≡ y) → Parted r rs x → Parted r rs y → x ≡ y
one_of_parted r rs x y more (inl h) (inl k) = more (inr h) (inr k)
one_of_parted r rs x y more (inl h) (inr k) = absurd (not_both rs x k.0 h)
one_of_parted r rs x y more (inr h) (inl k) = absurd (not_both rs y h.0 k)
one_of_parted r rs x y more (inr (n, inl h)) (inr (m, inl k)) = h.1 ∙ sym k.1
one_of_parted r rs x y more (inr (n, inl h)) (inr (m, inr k)) = absurd (k.0 h.0)
one_of_parted r rs x y more (inr (n, inr h)) (inr (m, inl k)) = absurd (h.0 k.0)
one_of_parted r rs x y more (inr (n, inr h)) (inr (m, inr k)) = h.1 ∙ sym k.1

of_no_records : (table : Option (List Neighbor)) → LastTable [] table → table ≡ None
of_no_records table (inl none) = none.1
of_no_records table (inr ([], after, last, parts, is, rest, same)) = absurd cc
of_no_records table (inr (b ∷ before, after, last, parts, is, rest, same)) = absurd cc

pub one_table : (records : List Reported) (x y : Option (List Neighbor)) → LastTable records x → LastTable records y → x ≡ y
one_table [] x y a b = of_no_records x a ∙ sym (of_no_records y b)
one_table (r ∷ rs) x y a b = one_of_parted r rs x y (one_table rs x y) (parted r rs x a) (parted r rs y b)
