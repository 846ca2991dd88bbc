-- The four parts are put one behind the other.
use Prim.Native.Nat.{ℕ, ◌+◌, ◌*◌, ◌≤◌}
use mathlib.Core.Path.{◌≡◌, refl}
use native.Mathlib.Omega.{arith}
use lib.ListN.{length}
use Rattle.octets.proofs.Choosing.{below, above}
use Rattle.processor.specs.Memory.{memory}
use Rattle.saves.specs.Save.{blocks, room}
use Rattle.saves.proofs.Saved.{length-save, parts-put}
use Rattle.saves.proofs.save.save_sized.Goals as goal

pub returns-then-out-end : goal.returns-then-out-end
unfolding room blocks
returns-then-out-end c = rw length-save (below _ _ _ _ _ (omega arith) refl)

pub returns : goal.returns
unfolding room blocks
returns c =
    let a = c.args in
    let m = memory a.eeprom.now a.settings.now in
    let e = length m.eeprom in
    let s = length m.settings in
    let words : ℕ = 11 + e + 8 * blocks e in
    let count : c.div_ceil-blocks.result ≡ blocks e = omega (arith, c.div_ceil-blocks.ensures) in
    let enough : room e s ≤ length a.out.now = omega arith in
    let whole = parts-put m a.out.now enough words (words + 13 * s) refl refl _ _ _ _ c.put_shape.ensures (rw count at c.put_blocks.ensures) (rw count at c.put_settings.ensures) (rw count at c.put_end.ensures) in
    let size : words + 13 * s + 7 ≡ room e s = omega arith in
    rw (count, whole, length-save m, ← size) (above _ _ _ _ _ (omega arith) refl)
