-- A save of one processor, replayed on another or on itself later.
use Rattle.std.specs.Prelude.{ℕ, ◌≤◌, ◌≡◌, List, length, take}
use Rattle.octets.specs.Outcome.{accepted}
use Rattle.processor.specs.Memory.{Memory}
use Rattle.saves.specs.Save.{room, saved_into}
use Rattle.saves.specs.Replay.{replay_of}

-- "EEPROM has E bytes, settings S words, each 0 to 65,536"
abbrev pub Sized : Memory → Type 0
Sized m = (length m.eeprom ≤ 65536) × (length m.settings ≤ 65536)

abbrev pub SameSizes : Memory → Memory → Type 0
SameSizes m m' = (length m.eeprom ≡ length m'.eeprom) × (length m.settings ≡ length m'.settings)

-- "Room: 18 + E + 8 times ceil(E/32) + 13S."
abbrev pub room_for : Memory → ℕ
room_for m = room (length m.eeprom) (length m.settings)

-- the one's save is written to this output, and what was written there is accepted by the other, which is then as the one
pub record Restored (one other : Memory) (out : List ℕ) : Type 0 where
  pub is_written : (saved_into one out).0 ≡ accepted (room_for one)
  pub is_replayed : replay_of other (take (room_for one) (saved_into one out).1) ≡ (accepted tt, one)
