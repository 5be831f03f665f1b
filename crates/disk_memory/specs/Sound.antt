-- The law of an erasable disk, of the one in memory.
use Rattle.std.proofs.Common.{List, length, sym, subst, take_all}
use Rattle.std.proofs.Math.Nat.{le_refl}
use Rattle.disk_models.specs.Erase.{IsSound}
use Rattle.disk_memory.specs.declared.call.Call.{Call}
use Rattle.disk_memory.specs.Replay.{IsLeftBy, state_of}

-- the crashes at this moment are those that may happen now
pub state_is_sound : (calls : List Call) → IsSound (state_of calls)
state_is_sound calls = record {
  counts_now = λ t c le may. (length calls, le, le_refl (length calls), subst (λ (l : List Call). IsLeftBy l c) (sym (take_all (length calls) calls (le_refl (length calls)))) may);
  only_now = λ c left. subst (λ (l : List Call). IsLeftBy l c) (take_all left.0 calls left.1) left.3;
}
