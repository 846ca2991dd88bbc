-- After k turns the first k rows stand over the output.
use Rattle.std.proofs.Common.{◌≡◌, ◌+◌, ◌*◌, ◌≤◌, length, refl, arith}
use Rattle.intel_hex.specs.Writing.{export_rows}
use Rattle.intel_hex.proofs.Written.{export_line, length-line, length-rows}
use Rattle.images.proofs.Exported.{rows_none, rows_next}
use Rattle.images.proofs.export.put_rows.Goals as goal

pub loop-k-init : goal.loop-k-init
loop-k-init c = (refl, rows_none _ _)

pub loop-k-preserved : goal.loop-k-preserved
loop-k-preserved c =
    let a = c.args in
    let e = a.eeprom.now in
    let k = c.loop-k.k in
    let is : 44 * k ≡ length (export_rows e k) = omega (arith, length-rows e k) in
    let room : 44 * k + length (export_line e k) ≤ length a.out.now = omega (arith, length-line e k) in
    rows_next e k (44 * k) a.out.now is room c.loop-k.invariant.1 c.put_row.ensures
