-- Written to the lent rest.
use native.Mathlib.Omega.{arith}
use Rattle.octets.proofs.Overlay.{put-from}
use Rattle.octets.proofs.put_at.Goals as goal

pub returns : goal.returns
returns c = let a = c.args in put-from a.memory.now a.place a.bytes.now (omega arith) c.put.ensures
