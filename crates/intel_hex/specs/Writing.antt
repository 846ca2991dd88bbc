-- "export of the EEPROM in rows of 16 data bytes, the last shorter, upper case, LF, then the end record"
use Rattle.std.specs.Prelude.{ℕ, zero, suc, ◌+◌, ◌*◌, ◌/◌, List, [], ◌∷◌, ◌++◌, length, take, drop}
use Rattle.intel_hex.specs.Format.{HexRow, hex_row, row_text, end_text}

abbrev pub export_row : List ℕ → ℕ → HexRow
export_row eeprom k = hex_row (16 * k) (take 16 (drop (16 * k) eeprom))

-- the first so many of them
unfoldable pub export_rows : List ℕ → ℕ → List ℕ
export_rows eeprom zero = []
export_rows eeprom (suc k) = export_rows eeprom k ++ (row_text (export_row eeprom k) ++ (10 ∷ []))

-- ceil(E/16)
unfoldable pub rows_for : ℕ → ℕ
rows_for e = (e + 15) / 16

unfoldable pub export_of : List ℕ → List ℕ
export_of eeprom = export_rows eeprom (rows_for (length eeprom)) ++ (end_text ++ (10 ∷ []))

-- what it takes: two digits a byte, twelve bytes a row beside them, and twelve for the end record
unfoldable pub export_room : ℕ → ℕ
export_room e = 2 * e + 12 * rows_for e + 12
