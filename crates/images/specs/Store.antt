-- "Storing the image in a processor is one more call, and it names all E bytes."
use Rattle.std.specs.Prelude.{ℕ, List, length}
use Rattle.octets.specs.Refusals.{wrong_sizes}
use Rattle.octets.specs.Outcome.{Outcome, accepted, refused}
use Rattle.octets.specs.Choice.{if_lt, if_eq}

-- "memory sizes wrong or different"
abbrev pub stored_image : List ℕ → List ℕ → Outcome Unit × List ℕ
stored_image image eeprom =
    if_lt 65536 (length eeprom) (refused wrong_sizes, eeprom)
    (if_eq (length image) (length eeprom) (accepted tt, image) (refused wrong_sizes, eeprom))
