-- The calls that write the EEPROM: "the serial, timestamp and write_eeprom calls name theirs, every place checked
-- first, 7 beyond E". The EEPROM's size is checked before them.
use Rattle.std.specs.Prelude.{ℕ, ◌+◌, ◌-◌, ◌%◌, ◌^◌, List, [], ◌∷◌, length}
use Rattle.octets.specs.Refusals.{outside, wrong_sizes}
use Rattle.octets.specs.Outcome.{Outcome, accepted, refused}
use Rattle.octets.specs.Choice.{if_lt}
use Rattle.octets.specs.Number.{big_bytes}
use Rattle.octets.specs.Over.{over_at}
use Rattle.facts.specs.Eeprom.{at_serial, at_timestamp, at_timestamp2x4}

abbrev pub write_bytes : ℕ → List ℕ → List ℕ → Outcome Unit × List ℕ
write_bytes a bytes e =
    if_lt 65536 (length e) (refused wrong_sizes, e)
    (if_lt (length e) (a + length bytes) (refused outside, e) (accepted tt, over_at a bytes e))

abbrev pub write_u8 : ℕ → ℕ → List ℕ → Outcome Unit × List ℕ
write_u8 a value = write_bytes a (value ∷ [])

abbrev pub write_u16 : ℕ → ℕ → List ℕ → Outcome Unit × List ℕ
write_u16 a value = write_bytes a (big_bytes 2 value)

abbrev pub write_u32 : ℕ → ℕ → List ℕ → Outcome Unit × List ℕ
write_u32 a value = write_bytes a (big_bytes 4 value)

-- the Rust's `saturating_sub`: the subtraction of whole numbers stops at 0
abbrev pub set_serial : ℕ → List ℕ → Outcome Unit × List ℕ
set_serial value = write_u32 at_serial (value - 900000)

-- both places, the second for the low half
abbrev pub set_timestamp : ℕ → List ℕ → Outcome Unit × List ℕ
set_timestamp value e =
    if_lt 65536 (length e) (refused wrong_sizes, e)
    (if_lt (length e) (at_timestamp + 4) (refused outside, e)
    (if_lt (length e) (at_timestamp2x4 + 2) (refused outside, e)
    (accepted tt, over_at at_timestamp2x4 (big_bytes 2 (value % 2 ^ 16)) (over_at at_timestamp (big_bytes 4 value) e))))
