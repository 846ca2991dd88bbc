-- A packet of bytes in its frame is bytes.
use Prim.Native.Nat.{ℕ, ◌+◌, ◌≤◌}
use mathlib.Core.List.{List, [], ◌∷◌}
use native.Mathlib.Nat.{mod-lt}
use native.Mathlib.Omega.{arith}
use lib.Dec.{lit<}
use lib.ListN.{length}
use Rattle.octets.specs.Number.{Octets}
use Rattle.octets.proofs.Bytes.{no-octets, one_more, both-octets}
use Rattle.packet.specs.Frame.{headed, checksum_of, frame_of}

pub frame-octets : (p : List ℕ) → length p ≤ 254 → Octets p → Octets (frame_of p)
unfolding frame_of
frame-octets p short octets =
    both-octets (headed p) (checksum_of (headed p) ∷ []) (one_more (length p + 1) p (omega arith) octets) (one_more (checksum_of (headed p)) [] (mod-lt _ (lit< tt)) no-octets)
