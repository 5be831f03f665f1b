-- What a look found, and the blocks of a past.
use Rattle.std.proofs.Common.{ℕ, List, Option, Result, Ok, Err}
use Rattle.std.specs.Prelude.{OnOk}
use Rattle.board.specs.Past.{Among}
use Rattle.query_threads.specs.Looks.{AreSettled, AreTheSettled}

pub settled_of : (count : ℕ) (known : ℕ → Option (List ℕ)) (blocks kept : List (ℕ × List ℕ)) → AreTheSettled count known blocks → Among kept blocks → AreSettled count known kept
settled_of count known blocks kept the among n octets is = (the n octets).0 (among n octets is)

pub among_of : (count : ℕ) (known : ℕ → Option (List ℕ)) (blocks kept : List (ℕ × List ℕ)) → AreTheSettled count known blocks → AreSettled count known kept → Among kept blocks
among_of count known blocks kept the settled n octets is = (the n octets).1 (settled n octets is)

pub on_ok : {T E : Type 0} (r : Result T E) (P Q : Type 0) → OnOk r P → (P → Q) → OnOk r Q
on_ok (Ok x) P Q p f = f p
on_ok (Err e) P Q p f = tt
