-- After k turns the first k fields stand over the output.
use Prim.Native.Nat.{◌+◌, ◌*◌, ◌≤◌}
use mathlib.Core.Path.{◌≡◌}
use native.Mathlib.Omega.{arith}
use lib.ListN.{length}
use Rattle.saves.specs.Save.{word_packet, rising}
use Rattle.saves.proofs.Saved.{length-words, length-word-packet, rising_none, rising-next}
use Rattle.saves.proofs.save.put_settings.Goals as goal

pub loop-k-init : goal.loop-k-init
loop-k-init c = rising_none _ _

pub loop-k-preserved : goal.loop-k-preserved
loop-k-preserved c =
    let a = c.args in
    let s = a.settings.now in
    let k = c.loop-k.k in
    let is : 13 * k ≡ length (rising (word_packet s) k) = omega (arith, length-words s k) in
    let room : 13 * k + (length (word_packet s k) + 5) ≤ length a.out.now = omega (arith, length-word-packet s k) in
    (rising-next (word_packet s) k (13 * k) a.out.now is room c.loop-k.invariant c.put_setting.ensures).1
