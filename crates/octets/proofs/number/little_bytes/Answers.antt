-- A turn sets the next digit, and what is left of the number loses it.
use Rattle.octets.proofs.InBytes.{begun-little, little-turn, next-digit}
use Rattle.octets.proofs.number.little_bytes.Goals as goal

pub loop-byte-init : goal.loop-byte-init
loop-byte-init g c = begun-little g.row.N c.args.n

pub loop-byte-preserved : goal.loop-byte-preserved
loop-byte-preserved g c =
    let l = c.loop-byte in
    let n = c.args.n in
    (rw l.invariant.1 (little-turn g.row.N l.byte-index n l.byte-items c.loop-byte-test.true l.invariant.0), rw l.invariant.1 (next-digit l.byte-index n))
