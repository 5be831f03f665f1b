use Rattle.std.proofs.Common.{refl}
use Rattle.std.proofs.lemmas.List.{append-nil}
use Rattle.route_model.proofs.peer.Peer.encode.Goals as goal

pub returns : goal.returns
returns c = record {
  encoding = record {
    valid = c.peer_len-len.ensures.valid;
    encoded = rw (append-nil c.copy_from_slice.new.self, c.copy_from_slice-2.ensures.after, c.wide.ensures.wide, c.copy_from_slice.ensures.after, c.to_be_bytes.ensures, c.family.ensures.family) refl;
  };
}
