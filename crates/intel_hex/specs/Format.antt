-- The format, "the public Hexadecimal Object File Format Specification, types 00 and 01 only": which texts there are. How a text is
-- read stands in Reading.antt, and what is wrong with a text that is none in Faults.antt.
use Rattle.std.specs.Prelude.{ℕ, ◌+◌, ◌-◌, ◌%◌, ◌≤◌, ◌<◌, ◌≡◌, List, [], ◌∷◌, ◌++◌, length}
use Rattle.std.proofs.Math.Option.{Option, none, some}
use Rattle.octets.specs.Choice.{if_lt}
use Rattle.octets.specs.Number.{Octets, big_bytes}
use Rattle.text.specs.Digits.{pairs_of}
use Rattle.packet.specs.Frame.{checksum_of}

-- ---- a row
-- what a data record says: bytes from an address on
pub record HexRow : Type 0 where
  pub start : ℕ
  pub bytes : List ℕ

abbrev pub hex_row : ℕ → List ℕ → HexRow
hex_row start bytes = record { start = start; bytes = bytes }

-- behind the last byte that it names
abbrev pub row_end : HexRow → ℕ
row_end r = r.start + length r.bytes

-- that its count and its address can be said: a byte, and two
abbrev pub Sayable : HexRow → Type 0
Sayable r = Octets r.bytes × (length r.bytes < 256) × (r.start < 65536)

-- its record's bytes: how many data bytes there are, the address, type 00, the data
abbrev pub record_of : HexRow → List ℕ
record_of r = length r.bytes ∷ (big_bytes 2 r.start ++ (0 ∷ r.bytes))

-- and one behind them
abbrev pub with_sum : HexRow → ℕ → List ℕ
with_sum r sum = record_of r ++ (sum ∷ [])

-- the checksum makes the sum of all 0 modulo 256
abbrev pub complement : ℕ → ℕ
complement sum = (256 - sum) % 256

abbrev pub closed_record : HexRow → List ℕ
closed_record r = with_sum r (complement (checksum_of (record_of r)))

-- a colon, and each byte as two digits
unfoldable pub row_text : HexRow → List ℕ
row_text r = 58 ∷ pairs_of (closed_record r)

-- "the end record `:00000001FF`"
abbrev pub end_text : List ℕ
end_text = 58 ∷ 48 ∷ 48 ∷ 48 ∷ 48 ∷ 48 ∷ 48 ∷ 48 ∷ 49 ∷ 70 ∷ 70 ∷ []

-- ---- lines
-- "with LF or CRLF"
pub data LineEnd : Type 0 where
  lf : LineEnd
  crlf : LineEnd

abbrev pub ending : LineEnd → List ℕ
ending lf = 10 ∷ []
ending crlf = 13 ∷ 10 ∷ []

-- "its line end may be missing"
abbrev pub last_ending : Option LineEnd → List ℕ
last_ending none = []
last_ending (some e) = ending e

-- the lines of these rows, each with its line end
abbrev pub RowLines : List HexRow → List ℕ → Type 0
RowLines [] text = text ≡ []
RowLines (r ∷ rows) text = (end : LineEnd) × (behind : List ℕ) × (text ≡ row_text r ++ (ending end ++ behind)) × RowLines rows behind

-- a text of these rows: their lines, then the end record
abbrev pub TextOf : List HexRow → List ℕ → Type 0
TextOf rows text = (front : List ℕ) × (last : Option LineEnd) × (text ≡ front ++ (end_text ++ last_ending last)) × RowLines rows front

-- "either case": the same in capitals
abbrev pub capital : ℕ → ℕ
capital b = if_lt b 97 b (if_lt 122 b b (b - 32))

unfoldable pub capitals : List ℕ → List ℕ
capitals [] = []
capitals (b ∷ l) = capital b ∷ capitals l

-- ---- rows in an image of e bytes
-- "addresses do not wrap"
abbrev pub RowFits : ℕ → HexRow → Type 0
RowFits e r = Sayable r × (row_end r ≤ e)

-- "two rows may not name one byte"
abbrev pub Names : HexRow → ℕ → Type 0
Names r i = (r.start ≤ i) × (i < row_end r)

abbrev pub Apart : HexRow → HexRow → Type 0
Apart r s = (i : ℕ) → Names r i → Names s i → ⊥

abbrev pub ApartFrom : HexRow → List HexRow → Type 0
ApartFrom r [] = Unit
ApartFrom r (s ∷ rows) = Apart s r × ApartFrom r rows

-- rows behind others, none naming a byte that one before it names
abbrev pub RowsFit : ℕ → List HexRow → List HexRow → Type 0
RowsFit e before [] = Unit
RowsFit e before (r ∷ rows) = RowFits e r × ApartFrom r before × RowsFit e (before ++ (r ∷ [])) rows

-- ---- a text of the format for an image of e bytes, with its rows
pub record IsHex (e : ℕ) (text : List ℕ) (rows : List HexRow) : Type 0 where
  pub reads : TextOf rows (capitals text)
  pub fitting : RowsFit e [] rows
