-- After i turns the first i words stand over the output.
use native.Mathlib.Omega.{arith}
use lib.ListN.{take, drop}
use Rattle.octets.proofs.Overlay.{over_nothing}
use Rattle.device.proofs.Payload.{words-found, words-next, words-done}
use Rattle.device.proofs.execute.put_words.Goals as goal

pub loop-i-init : goal.loop-i-init
loop-i-init c = over_nothing _

pub loop-i-preserved : goal.loop-i-preserved
loop-i-preserved c = words-next c.loop-i.i _ c.args.data.now c.loop-i-test.true (omega arith) c.loop-i.invariant c.little_bytes.ensures c.put.ensures

pub returns : goal.returns
returns c =
    let a = c.args in
    let end = c.min-end.result in
    let found = rw (← c.min.ensures) at (words-found a.settings.now a.base a.count end c.min-end.ensures) in
    words-done _ a.data.now (take a.count (drop a.base a.settings.now)) c.loop-i.i c.loop-i-test.false c.loop-i.invariant found
