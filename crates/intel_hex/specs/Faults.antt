-- What is wrong with a text that is none of the format, by Format.antt alone: "the first bad row going forward, and within it 16 malformed
-- text, other record type, no end record or text after it, 17 wrong record checksum, 7 row address plus count beyond E, 18 byte named
-- twice".
use Rattle.std.specs.Prelude.{ℕ, ◌≤◌, ◌<◌, ◌≡◌}
use mathlib.Core.List.{List, [], ◌∷◌, ◌++◌, Memᴰ}
use Rattle.octets.specs.Refusals.{outside, malformed, record_checksum, named_twice}
use Rattle.text.specs.Digits.{pairs_of}
use Rattle.intel_hex.specs.Format.{HexRow, row_end, Sayable, with_sum, row_text, end_text, LineEnd, lf, crlf, ending, RowLines, capitals, Names, RowsFit}

-- ---- one line, in capitals and without its line end
-- a data record's text, whatever its checksum
abbrev pub Spells : List ℕ → HexRow → ℕ → Type 0
Spells line r sum = (line ≡ 58 ∷ pairs_of (with_sum r sum)) × Sayable r × (sum < 256)

-- a byte that the row and one of these name
pub record Twice (r : HexRow) (rows : List HexRow) : Type 0 where
  pub row : HexRow
  pub among : Memᴰ row rows
  pub byte : ℕ
  pub there : Names row byte
  pub here : Names r byte

-- what is wrong with the line behind these rows, and its number
pub data BadLine (e : ℕ) (rows : List HexRow) (line : List ℕ) : ℕ → Type 0 where
  -- "16 malformed text, other record type"
  no_record : ((r : HexRow) (sum : ℕ) → Spells line r sum → ⊥) → (line ≡ end_text → ⊥) → BadLine e rows line malformed
  -- "17 wrong record checksum"
  wrong-sum : (r : HexRow) (sum : ℕ) → Spells line r sum → (line ≡ row_text r → ⊥) → BadLine e rows line record_checksum
  -- "7 row address plus count beyond E"
  beyond : (r : HexRow) → line ≡ row_text r → Sayable r → e < row_end r → BadLine e rows line outside
  -- "18 byte named twice"
  twice : (r : HexRow) → line ≡ row_text r → Sayable r → row_end r ≤ e → Twice r rows → BadLine e rows line named_twice

-- ---- where it stands
-- a list that has no b
abbrev pub Without : ℕ → List ℕ → Type 0
Without b [] = Unit
Without b (c ∷ l) = (c ≡ b → ⊥) × Without b l

-- a line before its line end: it has no LF in it, and a CR right before the LF is of the line end
abbrev pub Before : LineEnd → List ℕ → Type 0
Before lf line = Without 10 line × ((front : List ℕ) → line ≡ front ++ (13 ∷ []) → ⊥)
Before crlf line = Without 10 line

-- what is wrong with what stands behind the lines of these rows, and its number
pub data BadRest (e : ℕ) (rows : List HexRow) (rest : List ℕ) : ℕ → Type 0 where
  bad-line : (line : List ℕ) (end : LineEnd) (behind : List ℕ) {k : ℕ} → rest ≡ line ++ (ending end ++ behind) → Before end line → BadLine e rows (capitals line) k → BadRest e rows rest k
  -- "no end record": the last line is none, and lacks its line end
  no_end : Without 10 rest → (capitals rest ≡ end_text → ⊥) → BadRest e rows rest malformed
  -- "or text after it"
  text-after : (line : List ℕ) (end : LineEnd) (b : ℕ) (behind : List ℕ) → rest ≡ line ++ (ending end ++ (b ∷ behind)) → capitals line ≡ end_text → BadRest e rows rest malformed

-- "the first bad row going forward": behind the lines of rows that fit
pub record FirstBad (e : ℕ) (text : List ℕ) (k : ℕ) : Type 0 where
  pub rows : List HexRow
  pub front : List ℕ
  pub rest : List ℕ
  pub cut : text ≡ front ++ rest
  pub good : RowLines rows (capitals front)
  pub fit : RowsFit e [] rows
  pub bad : BadRest e rows rest k
