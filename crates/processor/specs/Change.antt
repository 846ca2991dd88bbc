-- What a change of the code stands for: the write, or none, that it makes.
use Rattle.std.specs.Prelude.{ℕ, List, [], ◌∷◌}
use Rattle.octets.specs.Place.{part_of}
use Rattle.processor.specs.Memory.{Store, to_eeprom, to_settings}
use Rattle.processor.specs.declared.change.Change.{Change}
use Rattle.processor.specs.declared.change.Change.TheVariants.{Nothing, EepromByte, EepromBytes, SettingsWord}

-- p is the payload that is lent beside it
abbrev pub writes_in : List ℕ → Change → List Store
writes_in p Nothing = []
writes_in p (EepromByte a value) = to_eeprom a (value ∷ []) ∷ []
writes_in p (EepromBytes a place) = to_eeprom a (part_of p place) ∷ []
writes_in p (SettingsWord a value) = to_settings a value ∷ []
