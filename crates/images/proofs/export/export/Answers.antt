-- The rows, and the end record behind them.
use Rattle.std.proofs.Common.{◌≡◌, ℕ, ◌+◌, ◌*◌, [], ◌∷◌, ◌++◌, length, refl, arith}
use Rattle.octets.proofs.Choosing.{below, above}
use Rattle.octets.proofs.Overlay.{put_rest}
use Rattle.intel_hex.specs.Format.{end_text}
use Rattle.intel_hex.specs.Writing.{export_rows, rows_for, export_of, export_room}
use Rattle.intel_hex.proofs.Written.{rows_whole, length-export}
use Rattle.images.proofs.export.export.Goals as goal

pub returns-then-out-end : goal.returns-then-out-end
unfolding export_room rows_for
returns-then-out-end c = above _ _ _ _ _ (omega arith) (rw length-export (below _ _ _ _ _ (omega arith) refl))

pub returns : goal.returns
unfolding export_of export_room rows_for
returns c =
    let a = c.args in
    let eeprom = a.eeprom.now in
    let l = a.out.now in
    let e = length eeprom in
    let rows : c.div_ceil-rows.result ≡ rows_for e = omega arith in
    let end : ℕ = 2 * e + 12 * c.div_ceil-rows.result in
    let whole = put_rest (export_rows eeprom (rows_for e)) l (rw rows at c.put_rows.ensures) (end_text ++ (10 ∷ [])) end c.put.ensures (omega (arith, rows, rows_whole eeprom)) (omega arith) in
    rw (whole, rows, length-export eeprom) (above _ _ _ _ _ (omega arith) (above _ _ _ _ _ (omega arith) refl))
