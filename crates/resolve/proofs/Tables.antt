-- The last peer table of a feed, as records come.
use Rattle.std.proofs.Common.{◌≡◌, ◌∙◌, inl, inr, List, [], ◌∷◌, ◌++◌, Option, refl, ap}
use Rattle.std.proofs.lemmas.List.{append_assoc}
use Rattle.std.specs.List.{AllByRecursion}
use Rattle.mrt_records.specs.Values.{Reported}
use Rattle.mrt_records.specs.declared.neighbor.Neighbor.{Neighbor}
use Rattle.resolve.specs.Tables.{IsPeerTableRecord, LastTable, peers_of}

all_more : (P : Reported → Type 0) (xs : List Reported) (x : Reported) → AllByRecursion P xs → P x → AllByRecursion P (xs ++ x ∷ [])
all_more P [] x all is = (is, tt)
all_more P (y ∷ ys) x all is = (all.0, all_more P ys x all.1 is)

-- a record of another kind leaves the table
pub stays : (before : List Reported) (r : Reported) (table : Option (List Neighbor)) → (IsPeerTableRecord r → ⊥) → LastTable before table → LastTable (before ++ r ∷ []) table
stays before r table other (inl none) = inl (all_more (λ s. IsPeerTableRecord s → ⊥) before r none.0 other, none.1)
stays before r table other (inr (front, after, last, parts, is, rest, same)) =
    inr (front, after ++ r ∷ [], last, ap (λ (t : List Reported). t ++ r ∷ []) parts ∙ append_assoc front (last ∷ after) (r ∷ []), is, all_more (λ s. IsPeerTableRecord s → ⊥) after r rest other, same)

-- a peer table becomes the table
pub comes : (before : List Reported) (r : Reported) (table : Option (List Neighbor)) → IsPeerTableRecord r → table ≡ peers_of r → LastTable (before ++ r ∷ []) table
comes before r table is same = inr (before, [], r, refl, is, tt, same)
