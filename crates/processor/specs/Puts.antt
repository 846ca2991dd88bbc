-- What a write puts at a place, by itself and without the memory.
use Rattle.std.specs.Prelude.{ℕ, ◌+◌, ◌-◌, ◌≤◌, ◌<◌, List, [], ◌∷◌, length}
use Rattle.std.proofs.Math.Option.{Option, none, some}
use Rattle.octets.specs.Choice.{if_lt, if_eq}
use Rattle.octets.specs.Number.{at}
use Rattle.processor.specs.Memory.{Store, to_eeprom, to_settings}

-- at an address of the EEPROM
abbrev pub puts_byte : Store → ℕ → Option ℕ
puts_byte (to_eeprom a b) i = if_lt i a none (if_lt i (a + length b) (some (at b (i - a))) none)
puts_byte (to_settings a w) i = none

-- at a word of the settings
abbrev pub puts_word : Store → ℕ → Option ℕ
puts_word (to_eeprom a b) i = none
puts_word (to_settings a w) i = if_eq i a (some w) none

-- what is put there, else what was there
abbrev pub or_before : Option ℕ → ℕ → ℕ
or_before (some n) before = n
or_before none before = before

-- a write that lies within memories of so many bytes and words
abbrev pub Within : ℕ → ℕ → Store → Type 0
Within e s (to_eeprom a b) = a + length b ≤ e
Within e s (to_settings a w) = a < s

abbrev pub AllWithin : ℕ → ℕ → List Store → Type 0
AllWithin e s [] = Unit
AllWithin e s (w ∷ ws) = Within e s w × AllWithin e s ws
