-- Reading a text: its rows, or the number of "the first bad row going forward, and within it 16 .., 17 .., 7 .., 18".
use Rattle.std.specs.Prelude.{ℕ, ◌+◌, ◌%◌, min, max, List, [], ◌∷◌, ◌++◌, length, drop}
use Rattle.std.proofs.Math.Option.{Option, none, some}
use Rattle.octets.specs.Refusals.{outside, malformed, record_checksum, named_twice}
use Rattle.octets.specs.Outcome.{Outcome, accepted, refused, and_then}
use Rattle.octets.specs.Choice.{pick, if_lt, if_eq}
use Rattle.octets.specs.Number.{at, big_at}
use Rattle.octets.specs.Place.{place_at, part_of}
use Rattle.text.specs.Read.{not_digits, pairs_in}
use Rattle.packet.specs.Frame.{checksum_of}
use Rattle.intel_hex.specs.Format.{HexRow, hex_row, row_end}

-- ---- lines: what stands between line ends, and behind the last one
-- with one byte more at the front of the first
abbrev pub joined : ℕ → List (List ℕ) → List (List ℕ)
joined b [] = (b ∷ []) ∷ []
joined b (line ∷ lines) = (b ∷ line) ∷ lines

unfoldable pub lines_in : List ℕ → List (List ℕ)
lines_in [] = [] ∷ []
lines_in (b ∷ l) = if_eq b 10 ([] ∷ lines_in l) (joined b (lines_in l))

-- of a line that ends in CRLF, what stands before both
unfoldable pub without_cr : List ℕ → List ℕ
without_cr [] = []
without_cr (b ∷ []) = if_eq b 13 [] (b ∷ [])
without_cr (b ∷ c ∷ l) = b ∷ without_cr (c ∷ l)

-- ---- one line: a row, or none for the end record; "16 malformed text, other record type", then "17 wrong record checksum"
-- a colon, then digits of either case, two for a byte
abbrev pub bytes_in : List ℕ → Outcome (List ℕ)
bytes_in line =
    if_eq (at line 0) 58
    (pick (not_digits (drop 1 line)) (refused malformed)
    (if_eq (length (drop 1 line) % 2) 1 (refused malformed) (accepted (pairs_in (drop 1 line)))))
    (refused malformed)

-- "import takes no other" end record: behind the type 01, no count, no address, and the checksum FF
abbrev pub end_in : List ℕ → Outcome (Option HexRow)
end_in bytes = if_eq (big_at 3 bytes 0) 0 (if_eq (at bytes 4) 0xFF (accepted none) (refused malformed)) (refused malformed)

abbrev pub data_in : List ℕ → Outcome (Option HexRow)
data_in bytes =
    if_eq (at bytes 3) 0
    (if_eq (checksum_of bytes) 0 (accepted (some (hex_row (big_at 2 bytes 1) (part_of bytes (place_at 4 (at bytes 0)))))) (refused record_checksum))
    (refused malformed)

-- a count, two address bytes, the type, as many data bytes as the count says, the checksum
unfoldable pub record_in : List ℕ → Outcome (Option HexRow)
record_in bytes =
    if_lt (length bytes) 5 (refused malformed)
    (if_eq (at bytes 0 + 5) (length bytes) (if_eq (at bytes 3) 1 (end_in bytes) (data_in bytes)) (refused malformed))

unfoldable pub line_in : List ℕ → Outcome (Option HexRow)
line_in line = and_then (bytes_in line) record_in

-- ---- a row behind others: "7 row address plus count beyond E, 18 byte named twice"
-- whether two rows have a byte in common: where the one that begins later begins, neither has ended
abbrev pub meets : HexRow → HexRow → ℕ → Outcome Unit → Outcome Unit
meets r s k next = if_lt (max r.start s.start) (min (row_end r) (row_end s)) (refused k) next

abbrev pub apart_from : HexRow → List HexRow → Outcome Unit
apart_from r [] = accepted tt
apart_from r (s ∷ rows) = meets r s named_twice (apart_from r rows)

abbrev pub fits_behind : ℕ → List HexRow → HexRow → Outcome Unit
fits_behind e rows r = if_lt e (row_end r) (refused outside) (apart_from r rows)

-- ---- a text, whose rows so far are these
-- the last line lacks its line end, as only the end record may
abbrev pub rows_at_last : List HexRow → Outcome (Option HexRow) → Outcome (List HexRow)
rows_at_last rows (accepted none) = accepted rows
rows_at_last rows (accepted (some r)) = refused malformed
rows_at_last rows (refused k) = refused malformed

-- "text after it"
abbrev pub rows_at_end : List HexRow → List (List ℕ) → Outcome (List HexRow)
rows_at_end rows [] = refused malformed
rows_at_end rows ([] ∷ []) = accepted rows
rows_at_end rows ((b ∷ line) ∷ lines) = refused malformed
rows_at_end rows ([] ∷ line ∷ lines) = refused malformed

-- by what its line is: the rows go on, or end here
abbrev pub rows_behind : List HexRow → List (List ℕ) → (HexRow → Outcome (List HexRow)) → Outcome (Option HexRow) → Outcome (List HexRow)
rows_behind rows lines next (accepted (some r)) = next r
rows_behind rows lines next (accepted none) = rows_at_end rows lines
rows_behind rows lines next (refused k) = refused k

unfoldable pub rows_from : ℕ → List HexRow → List (List ℕ) → Outcome (List HexRow)
rows_from e rows [] = refused malformed
rows_from e rows (line ∷ []) = rows_at_last rows (line_in line)
rows_from e rows (line ∷ next ∷ lines) =
    rows_behind rows (next ∷ lines) (λ r. and_then (fits_behind e rows r) (λ u. rows_from e (rows ++ (r ∷ [])) (next ∷ lines))) (line_in (without_cr line))

unfoldable pub rows_in : ℕ → List ℕ → Outcome (List HexRow)
rows_in e text = rows_from e [] (lines_in text)
