use Rattle.std.proofs.Common.{◌≡◌, List, length, arith}
use Rattle.std.proofs.lemmas.Result.{err_from_is_err_and}
use Rattle.std.proofs.lemmas.List.{length-map}
use Rattle.route_model.specs.Sequence.{Sequence}
use Rattle.route_model.proofs.api.Readings.{no_reading_of_part}
use Rattle.mrt_records.specs.Entries.{Entry, IsEntryField}
use Rattle.mrt_records.specs.Places.{entry_in, entries_in}
use Rattle.mrt_records.proofs.Bodies.{entries_none}
use Rattle.mrt_records.proofs.rib.read_entries.Goals as goal

pub returns-in_err-places : goal.returns-in_err-places
returns-in_err-places c =
    let p = err_from_is_err_and c.from_residual.result c.from_residual.ensures.1 in
    rw (p.1, p.2) (no_reading_of_part (Sequence IsEntryField c.args.bytes.now) (λ (e : List Entry). Sequence IsEntryField c.args.bytes.now e × length e ≡ c.args.count)
    (λ (e : List Entry). e) (λ e q. q.0) c.in_err-places.field-0.0 c.in_err-places.ensures.entries)

pub returns-then-len-count : goal.returns-then-len-count
returns-then-len-count c = λ ws q.
    let size : length (entries_in c.args.bytes.now c.in_ok-places.places.items) ≡ length c.in_ok-places.places.items = length-map c.in_ok-places.places.items (entry_in c.args.bytes.now) in
    entries_none c.args.bytes.now c.args.count (entries_in c.args.bytes.now c.in_ok-places.places.items) ws c.in_ok-places.ensures.entries (λ e. omega (arith, e, size)) q.0 q.1
