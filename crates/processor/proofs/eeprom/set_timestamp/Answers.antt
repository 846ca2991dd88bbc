-- Both places are within, once the higher is.
use native.Mathlib.Omega.{arith}
use Rattle.processor.proofs.Written.{stamped}
use Rattle.processor.proofs.eeprom.set_timestamp.Goals as goal

pub returns : goal.returns
returns c =
    stamped c.args.value c.args.eeprom.now c.if-eeprom-gt-LARGEST.false (omega (arith, c.if-eeprom.false))
    (rw c.big_bytes.ensures at c.put_at.ensures)
    (rw c.big_bytes-2.ensures at c.put_at-2.ensures)
