-- The memories of a processor. "EEPROM has E bytes, settings S words"
use Rattle.std.specs.Prelude.{ℕ, Bool, true, false, List, [], ◌∷◌, length}
use Rattle.octets.specs.Choice.{if_lt}
use Rattle.octets.specs.Over.{into_at}

pub record Memory : Type 0 where
  pub eeprom : List ℕ
  pub settings : List ℕ

abbrev pub memory : List ℕ → List ℕ → Memory
memory eeprom settings = record { eeprom = eeprom; settings = settings }

-- "each 0 to 65,536, else 14"
abbrev pub too_large : ℕ → ℕ → Bool
too_large e s = if_lt 65536 e true (if_lt 65536 s true false)

abbrev pub oversized : Memory → Bool
oversized m = too_large (length m.eeprom) (length m.settings)

-- A write to the memories, what a call puts where: bytes to the EEPROM from an address on, or a word to the settings. (`Write` is
-- the command.)
pub data Store : Type 0 where
  to_eeprom : ℕ → List ℕ → Store
  to_settings : ℕ → ℕ → Store

-- written over what stands there; where that is outside, nothing
abbrev pub put_at : ℕ → List ℕ → List ℕ → List ℕ
put_at a b memory = (into_at a b memory).1

abbrev pub store_one : Store → Memory → Memory
store_one (to_eeprom a b) m = memory (put_at a b m.eeprom) m.settings
store_one (to_settings a w) m = memory m.eeprom (put_at a (w ∷ []) m.settings)

-- one after the other
abbrev pub store : List Store → Memory → Memory
store [] m = m
store (w ∷ ws) m = store ws (store_one w m)
