-- Where the last sync stands.
use Rattle.std.proofs.Common.{ℕ, List, [], ◌∷◌, ◌++◌, length, map, refl, sym, ◌∙◌, ap, arith, take_all, length-append}
use Rattle.std.proofs.lemmas.List.{take-append-le, drop-append-le, drop_all, map-append}
use Rattle.disk_memory.specs.declared.call.Call.{Call}
use Rattle.disk_memory.specs.declared.call.Call.TheVariants.{Write, Sync}
use Rattle.disk_memory.specs.Writing.{Writing}
use Rattle.disk_memory.specs.Replay.{Image, image_of}
use Rattle.disk_memory.specs.inner.Replaying.{SplitsAtSync}
use Rattle.disk_memory.proofs.Replaying.{image_write, image_sync}

pub split_none : SplitsAtSync 0 []
split_none = record { inside = omega arith; synced = refl; since = refl }

-- one write more
pub split_write : (count : ℕ) (calls : List Call) (w : Writing) → SplitsAtSync count calls → SplitsAtSync count (calls ++ Write w ∷ [])
split_write count calls w s = record {
  inside = omega (arith, s.inside, length-append calls (Write w ∷ []));
  synced = ap (λ (l : List Call). image_of l) (take-append-le count calls (Write w ∷ []) s.inside) ∙ s.synced
      ∙ ap (λ (m : Image). record { synced = m.synced; waiting = [] }) (sym (image_write calls w));
  since = drop-append-le count calls (Write w ∷ []) s.inside ∙ ap (λ (l : List Call). l ++ Write w ∷ []) s.since
      ∙ sym (map-append Write (image_of calls).waiting (w ∷ [])) ∙ ap (λ (m : Image). map Write m.waiting) (sym (image_write calls w));
}

-- one sync more
pub split_sync : (calls : List Call) → SplitsAtSync (length (calls ++ Sync ∷ [])) (calls ++ Sync ∷ [])
split_sync calls = record {
  inside = omega arith;
  synced = ap (λ (l : List Call). image_of l) (take_all (length (calls ++ Sync ∷ [])) (calls ++ Sync ∷ []) (omega arith))
      ∙ image_sync calls ∙ ap (λ (m : Image). record { synced = m.synced; waiting = [] }) (sym (image_sync calls));
  since = drop_all (length (calls ++ Sync ∷ [])) (calls ++ Sync ∷ []) (omega arith) ∙ ap (λ (m : Image). map Write m.waiting) (sym (image_sync calls));
}
