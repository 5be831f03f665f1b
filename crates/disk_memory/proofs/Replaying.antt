-- One call more.
use Rattle.std.proofs.Common.{◌≡◌, ◌<◌, ◌≤◌, ◌⊎◌, inl, inr, ⊎_elim, ℕ, ◌+◌, ◌-◌, List, [], ◌∷◌, ◌++◌, length, get_or, refl, sym, ◌∙◌, ap, subst, arith, take_all, length-append}
use Rattle.std.proofs.lemmas.List.{take-append-le}
use Rattle.std.proofs.lemmas.Bool.{cases_lt}
use Rattle.disk_models.specs.Octets.{octets, Within}
use Rattle.disk_models.specs.Erase.{MayLeave, MayLeaveBut, Leaves, WritesWithin, Lingers, Syncs, Stays}
use Rattle.disk_models.proofs.api.Moments.{leaves_none, within_none, stays_none, as_before_none}
use Rattle.disk_models.proofs.api.OctetLemmas.{octets_by_index}
use Rattle.disk_memory.specs.declared.call.Call.{Call}
use Rattle.disk_memory.specs.declared.call.Call.TheVariants.{Write, Sync}
use Rattle.disk_memory.specs.Writing.{Writing}
use Rattle.disk_memory.specs.Replay.{written, all_written, Image, image_after, image_of, octet_of, IsWithinSome, IsUnsynced, IsLeftBy, state_of}
use Rattle.disk_memory.specs.inner.Replaying.{replayed}
use Rattle.disk_memory.proofs.Laying.{written_out, written_in, written_agrees, all_written-append, within_some-append, within_some_before, within_some_last}

pub image_after-append : (calls more : List Call) (m : Image) → image_after (calls ++ more) m ≡ image_after more (image_after calls m)
image_after-append [] more m = refl
image_after-append (Write w ∷ calls) more m = image_after-append calls more _
image_after-append (Sync ∷ calls) more m = image_after-append calls more _

pub replayed-append : (calls more : List Call) (f : ℕ → ℕ) → replayed (calls ++ more) f ≡ replayed more (replayed calls f)
replayed-append [] more f = refl
replayed-append (Write w ∷ calls) more f = replayed-append calls more (written w f)
replayed-append (Sync ∷ calls) more f = replayed-append calls more f

-- a read replays the writes
pub replayed-image : (calls : List Call) (m : Image) → replayed calls (all_written m.waiting m.synced) ≡ all_written (image_after calls m).waiting (image_after calls m).synced
replayed-image [] m = refl
replayed-image (Write w ∷ calls) m =
    ap (λ (f : ℕ → ℕ). replayed calls f) (sym (all_written-append m.waiting (w ∷ []) m.synced))
    ∙ replayed-image calls (record { synced = m.synced; waiting = m.waiting ++ w ∷ [] })
replayed-image (Sync ∷ calls) m = replayed-image calls (record { synced = all_written m.waiting m.synced; waiting = [] })

pub replayed_octets : (calls : List Call) → replayed calls (λ _. 0) ≡ octet_of calls
replayed_octets calls = replayed-image calls (record { synced = λ _. 0; waiting = [] })

pub replayed_agree : (calls : List Call) (f g : ℕ → ℕ) (i : ℕ) → f i ≡ g i → replayed calls f i ≡ replayed calls g i
replayed_agree [] f g i same = same
replayed_agree (Write w ∷ calls) f g i same = replayed_agree calls (written w f) (written w g) i (written_agrees w f g i same)
replayed_agree (Sync ∷ calls) f g i same = replayed_agree calls f g i same

-- the moments so far are those from before the call, and the one after it
later_left : (calls : List Call) (call : Call) (t : ℕ) (c : ℕ → ℕ) → t ≤ length calls
    → (state_of (calls ++ call ∷ [])).left_since t c → (state_of calls).left_since t c ⊎ IsLeftBy (calls ++ call ∷ []) c
later_left calls call t c le left = ⊎_elim
    (λ (new : length calls < left.0). inr (subst (λ (l : List Call). IsLeftBy l c) (take_all left.0 (calls ++ call ∷ []) (omega (arith, new, length-append calls (call ∷ [])))) left.3))
    (λ (old : left.0 ≤ length calls). inl (left.0, left.1, old, subst (λ (l : List Call). IsLeftBy l c) (take-append-le left.0 calls (call ∷ []) old) left.3))
    (cases_lt (length calls) left.0)

earlier_left : (calls : List Call) (call : Call) (t : ℕ) (c : ℕ → ℕ) → (state_of calls).left_since t c → (state_of (calls ++ call ∷ [])).left_since t c
earlier_left calls call t c left =
    (left.0, left.1, omega (arith, left.2, length-append calls (call ∷ [])), subst (λ (l : List Call). IsLeftBy l c) (sym (take-append-le left.0 calls (call ∷ []) left.2)) left.3)

leaves_one : (calls : List Call) (call : Call) (P : (ℕ → ℕ) → Type 0) → ((c : ℕ → ℕ) → IsLeftBy (calls ++ call ∷ []) c → P c) → Leaves (state_of calls) (state_of (calls ++ call ∷ [])) P
leaves_one calls call P so = record {
  later = omega (arith, length-append calls (call ∷ []));
  before = λ t c le left. ⊎_elim (λ was. inl was) (λ now. inr (so c now)) (later_left calls call t c le left);
  keeps = λ t c le left. earlier_left calls call t c left;
}

longer : (calls : List Call) (call : Call) → length calls < length (calls ++ call ∷ [])
longer calls call = omega (arith, length-append calls (call ∷ []))

module _ (calls : List Call) (w : Writing) where
  pub image_write : image_of (calls ++ Write w ∷ []) ≡ record { synced = (image_of calls).synced; waiting = (image_of calls).waiting ++ w ∷ [] }
  image_write = image_after-append calls (Write w ∷ []) (record { synced = λ _. 0; waiting = [] })

  pub write_octet : octet_of (calls ++ Write w ∷ []) ≡ written w (octet_of calls)
  write_octet =
      ap (λ (m : Image). all_written m.waiting m.synced) image_write
      ∙ all_written-append (image_of calls).waiting (w ∷ []) (image_of calls).synced

  write_unsynced : (i : ℕ) → IsUnsynced (calls ++ Write w ∷ []) i → IsUnsynced calls i ⊎ Within w.at w.length i
  write_unsynced i un = within_some-append (image_of calls).waiting w i (subst (λ (m : Image). IsWithinSome m.waiting i) image_write un)

  write_still : (i : ℕ) → IsUnsynced calls i → IsUnsynced (calls ++ Write w ∷ []) i
  write_still i un = subst (λ (m : Image). IsWithinSome m.waiting i) (sym image_write) (within_some_before (image_of calls).waiting w i un)

  pub write_torn : (i : ℕ) → Within w.at w.length i → IsUnsynced (calls ++ Write w ∷ []) i
  write_torn i inn = subst (λ (m : Image). IsWithinSome m.waiting i) (sym image_write) (within_some_last (image_of calls).waiting w i inn)

  pub write_step : WritesWithin w.at w.length (state_of calls) (state_of (calls ++ Write w ∷ []))
  write_step = record {
    outside = λ i out. ap (λ (f : ℕ → ℕ). f i) write_octet ∙ written_out w (octet_of calls) i out;
    unsynced = write_unsynced;
    still = write_still;
    moves = inl (longer calls (Write w));
    crash = leaves_one calls (Write w) (MayLeaveBut w.at w.length (state_of calls)) (λ c left i settled out.
        left i (λ un. ⊎_elim (λ was. settled was) (λ inn. out inn) (write_unsynced i un))
        ∙ ap (λ (f : ℕ → ℕ). f i) write_octet ∙ written_out w (octet_of calls) i out);
  }

  pub write_done : length w.octets ≡ w.length → octets (octet_of (calls ++ Write w ∷ [])) w.at w.length ≡ w.octets
  write_done long = sym (octets_by_index w.octets (octet_of (calls ++ Write w ∷ [])) w.at w.length long (λ k lt.
      let place : w.at + k - w.at ≡ k = omega arith in
      sym (ap (λ (f : ℕ → ℕ). f (w.at + k)) write_octet
      ∙ written_in w (octet_of calls) (w.at + k) (omega arith) (omega (arith, lt, long))
      ∙ ap (λ j. get_or w.octets j 0) place)))

module _ (calls : List Call) where
  pub image_sync : image_of (calls ++ Sync ∷ []) ≡ record { synced = octet_of calls; waiting = [] }
  image_sync = image_after-append calls (Sync ∷ []) (record { synced = λ _. 0; waiting = [] })

  pub sync_octet : octet_of (calls ++ Sync ∷ []) ≡ octet_of calls
  sync_octet = ap (λ (m : Image). all_written m.waiting m.synced) image_sync

  pub sync_unsynced : (i : ℕ) → ¬ IsUnsynced (calls ++ Sync ∷ []) i
  sync_unsynced i un = subst (λ (m : Image). IsWithinSome m.waiting i) image_sync un

  pub sync_step : Lingers (state_of calls) (state_of (calls ++ Sync ∷ []))
  sync_step = record {
    one_of = λ i settled. ap (λ (f : ℕ → ℕ). f i) sync_octet;
    unsynced = λ i un. absurd (sync_unsynced i un);
    moves = inl (longer calls Sync);
    crash = leaves_one calls Sync (MayLeave (state_of calls)) (λ c left i settled. left i (sync_unsynced i) ∙ ap (λ (f : ℕ → ℕ). f i) sync_octet);
  }

  pub sync_done : Syncs (state_of calls) (state_of (calls ++ Sync ∷ []))
  sync_done = record { same = sync_octet; settled = sync_unsynced }

-- the same, where the calls after it are named by an equation
pub same_stays : (calls after : List Call) → after ≡ calls → Stays (state_of calls) (state_of after)
same_stays calls after is = subst (λ (l : List Call). Stays (state_of calls) (state_of l)) (sym is) (stays_none (state_of calls))

pub same_within : (at n : ℕ) (calls after : List Call) → after ≡ calls → WritesWithin at n (state_of calls) (state_of after)
same_within at n calls after is = subst (λ (l : List Call). WritesWithin at n (state_of calls) (state_of l)) (sym is) (within_none at n (state_of calls))

pub same_lingers : (calls after : List Call) → after ≡ calls → Lingers (state_of calls) (state_of after)
same_lingers calls after is = subst (λ (l : List Call). Lingers (state_of calls) (state_of l)) (sym is) (record {
  one_of = λ i settled. refl;
  unsynced = λ i un. un;
  moves = inr (as_before_none (state_of calls));
  crash = leaves_none (state_of calls) (MayLeave (state_of calls));
})

pub same_unsynced : (calls after : List Call) → after ≡ calls → (i : ℕ) → IsUnsynced calls i → IsUnsynced after i
same_unsynced calls after is i un = subst (λ (l : List Call). IsUnsynced l i) (sym is) un

pub more_within : (w : Writing) (calls after : List Call) → after ≡ calls ++ Write w ∷ [] → WritesWithin w.at w.length (state_of calls) (state_of after)
more_within w calls after is = subst (λ (l : List Call). WritesWithin w.at w.length (state_of calls) (state_of l)) (sym is) (write_step calls w)

pub more_done : (w : Writing) (calls after : List Call) → length w.octets ≡ w.length → after ≡ calls ++ Write w ∷ [] → octets (octet_of after) w.at w.length ≡ w.octets
more_done w calls after long is = subst (λ (l : List Call). octets (octet_of l) w.at w.length ≡ w.octets) (sym is) (write_done calls w long)

pub more_lingers : (calls after : List Call) → after ≡ calls ++ Sync ∷ [] → Lingers (state_of calls) (state_of after)
more_lingers calls after is = subst (λ (l : List Call). Lingers (state_of calls) (state_of l)) (sym is) (sync_step calls)

pub more_synced : (calls after : List Call) → after ≡ calls ++ Sync ∷ [] → Syncs (state_of calls) (state_of after)
more_synced calls after is = subst (λ (l : List Call). Syncs (state_of calls) (state_of l)) (sym is) (sync_done calls)
