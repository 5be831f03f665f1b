use Rattle.std.proofs.Common.{◌≡◌, ◌+◌, ◌++◌, ◌∷◌, [], ◌≤◌, ℕ, List, length, take, drop, refl, sym, subst, arith, length-drop}
use Rattle.route_model.specs.Reading.{BeginsWith}
use Rattle.route_model.proofs.api.Sequences.{read_none}
use Rattle.mrt_records.specs.Entries.{IsEntryField}
use Rattle.mrt_records.specs.Places.{entries_in}
use Rattle.mrt_records.specs.declared.entries.Place.{Place}
use Rattle.mrt_records.proofs.EntryFields.{made, entries_free, places_on, places_within}
use Rattle.mrt_records.proofs.rib.places_of.Goals as goal

pub returns-in_default-clause-entries : goal.returns-in_default-clause-entries
returns-in_default-clause-entries c =
    read_none IsEntryField entries_free c.args.bytes.now (drop c.loop-next.next c.args.bytes.now) (entries_in c.args.bytes.now c.loop-next.places.items) c.loop-next.invariant.reads
    (λ b. c.in_default.ensures.none (subst (λ (t : List ℕ). BeginsWith IsEntryField t) (sym c.split_at.ensures.back) b))
    (omega (arith, length-drop c.loop-next.next c.args.bytes.now))

pub loop-next-preserved : goal.loop-next-preserved
loop-next-preserved c =
    let bytes = c.args.bytes.now in
    let next = c.loop-next.next in
    let size = c.in-Some.size in
    let place : Place = record { peer_index = c.in-Some.peer_index; size = size; start = next + 8 } in
    let pushed : c.push.new.self.items ≡ c.loop-next.places.items ++ place ∷ [] = c.in_ok-push.ensures.items in
    let back : c.split_at.result.1.now ≡ drop next bytes = c.split_at.ensures.back in
    let found = subst (λ (t : List ℕ). IsEntryField (take (8 + size) t) (made c.in-Some.peer_index (take size (drop 8 t)))) back c.in-Some.ensures.found.0 in
    let room : next + 8 + size ≤ length bytes = omega (arith, c.in-Some.ensures.found.1, length-drop next bytes) in
    record {
      reads = places_on bytes next size c.loop-next.places.items c.push.new.self.items place c.loop-next.invariant.reads found refl refl pushed;
      reached = room;
      within = places_within bytes c.loop-next.places.items c.push.new.self.items place pushed c.loop-next.invariant.within room;
    }
