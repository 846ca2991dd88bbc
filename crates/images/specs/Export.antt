-- Writing an EEPROM's text to an output.
use Rattle.std.specs.Prelude.{ℕ, List, length}
use Rattle.octets.specs.Refusals.{wrong_sizes}
use Rattle.octets.specs.Outcome.{Outcome, refused}
use Rattle.octets.specs.Choice.{if_lt}
use Rattle.octets.specs.Over.{into}
use Rattle.intel_hex.specs.Writing.{export_of}

-- "14 first; .. 6 for export"
abbrev pub exported_into : List ℕ → List ℕ → Outcome ℕ × List ℕ
exported_into eeprom out = if_lt 65536 (length eeprom) (refused wrong_sizes, out) (into (export_of eeprom) out)
