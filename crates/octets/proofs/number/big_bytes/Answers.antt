-- A turn sets the next digit, and what is left of the number loses it.
use Rattle.octets.proofs.InBytes.{begun-big, big-turn, next-digit}
use Rattle.octets.proofs.number.big_bytes.Goals as goal

pub loop-i-init : goal.loop-i-init
loop-i-init g c = begun-big g.row.N c.args.n

pub loop-i-preserved : goal.loop-i-preserved
loop-i-preserved g c =
    let l = c.loop-i in
    let n = c.args.n in
    (rw l.invariant.1 (big-turn g.row.N l.i n l.bytes c.loop-i-test.true l.invariant.0), rw l.invariant.1 (next-digit l.i n))
