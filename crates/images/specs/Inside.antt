-- What the private functions promise.
use Rattle.std.specs.Prelude.{◌≡◌, ℕ, ◌+◌, ◌/◌, ◌%◌, ◌^◌, ◌<◌, ◌≤◌, Bool, true, false, ◌⊎◌, List, [], ◌∷◌, ◌++◌, length, drop}
use Rattle.std.specs.Prelude.{Result, Ok, Err, Option as OrNone, Some, None}
use Rattle.std.proofs.Math.Option.{Option, none, some}
use Rattle.octets.specs.Refusals.{number_of, outside, named_twice}
use Rattle.octets.specs.Outcome.{Outcome, accepted, refused}
use Rattle.octets.specs.Choice.{if_lt}
use Rattle.octets.specs.Number.{at}
use Rattle.octets.specs.Place.{place_at, part_of}
use Rattle.text.specs.Lines.{until_of}
use Rattle.processor.specs.Memory.{put_at}
use Rattle.intel_hex.specs.Format.{HexRow, hex_row}
use Rattle.intel_hex.specs.Reading.{lines_in, without_cr, line_in, rows_from}
use Rattle.octets.specs.declared.refusal.Refusal.{Refusal}
use Rattle.octets.specs.declared.refusal.Refusal.TheVariants.{Malformed}
use Rattle.images.specs.declared.row.Row.{Row}
use Rattle.images.specs.declared.judge.Step.{Step}
use Rattle.images.specs.declared.judge.Step.TheVariants.{Row as OneRow, End as AtEnd}

-- ---- lines
abbrev pub first_line : List (List ℕ) → List ℕ
first_line [] = []
first_line (line ∷ []) = line
first_line (line ∷ next ∷ lines) = without_cr line

abbrev pub behind_line : List ℕ → List ℕ
behind_line l = drop (until_of 10 l + 1) l

-- a row, or none for the end record
abbrev pub Line : Type 0
Line = Result (OrNone Row) Refusal

-- what a line says, whose bytes these are
abbrev pub lined : List ℕ → Line → Outcome (Option HexRow)
lined bytes (Ok (Some row)) = accepted (some (hex_row row.start (part_of bytes (place_at 4 row.count))))
lined bytes (Ok None) = accepted none
lined bytes (Err k) = refused (number_of k)

-- the data that it says stand in so many bytes, before the checksum
abbrev pub Held : ℕ → Line → Type 0
Held n (Ok (Some row)) = row.count + 5 ≤ n
Held n (Ok None) = Unit
Held n (Err k) = Unit

-- the same without its data
abbrev pub extent_of : Option HexRow → Option (ℕ × ℕ)
extent_of none = none
extent_of (some r) = some (r.start, length r.bytes)

abbrev pub extent_told : Line → Outcome (Option (ℕ × ℕ))
extent_told (Ok (Some row)) = accepted (some (row.start, row.count))
extent_told (Ok None) = accepted none
extent_told (Err k) = refused (number_of k)

-- ---- the rows up to the first line that is none
abbrev pub with_row : Outcome (Option HexRow) → List HexRow → List HexRow
with_row (accepted (some r)) rows = r ∷ rows
with_row (accepted none) rows = []
with_row (refused k) rows = []

unfoldable pub rows_here : List (List ℕ) → List HexRow
rows_here [] = []
rows_here (line ∷ []) = with_row (line_in line) []
rows_here (line ∷ next ∷ lines) = with_row (line_in (without_cr line)) (rows_here (next ∷ lines))

abbrev pub placed_line : Outcome (Option HexRow) → List ℕ → Bool × List ℕ
placed_line (accepted (some r)) image = (true, put_at r.start r.bytes image)
placed_line (accepted none) image = (false, image)
placed_line (refused k) image = (false, image)

-- ---- marks, a bit for each byte of an image
abbrev pub bit_at : List ℕ → ℕ → ℕ
bit_at marks i = at marks (i / 8) / 2 ^ (i % 8) % 2

-- bits from start up to end, and those of a list else
abbrev pub one_in : ℕ → ℕ → ℕ → ℕ → ℕ
one_in start end i other = if_lt i start other (if_lt i end 1 other)

-- that one byte, or those of a row, are marked, unless one of them was
abbrev pub MarksOne : ℕ → List ℕ → List ℕ → Bool → Type 0
MarksOne place before after true = bit_at before place ≡ 1
MarksOne place before after false = (bit_at before place ≡ 0) × (length after ≡ length before) × ((i : ℕ) → bit_at after i ≡ one_in place (place + 1) i (bit_at before i))

abbrev pub MarksRow : ℕ → ℕ → List ℕ → List ℕ → Bool → Type 0
MarksRow start count before after true = (i : ℕ) × (start ≤ i) × (i < start + count) × (bit_at before i ≡ 1)
MarksRow start count before after false =
    ((i : ℕ) → start ≤ i → i < start + count → bit_at before i ≡ 0) × (length after ≡ length before)
    × ((i : ℕ) → bit_at after i ≡ one_in start (start + count) i (bit_at before i))

-- the bit of a byte that rows have named
unfoldable pub named_bit : List HexRow → ℕ → ℕ
named_bit [] i = 0
named_bit (r ∷ rows) i = one_in r.start (r.start + length r.bytes) i (named_bit rows i)

abbrev pub Marked : List ℕ → List HexRow → Type 0
Marked marks rows = (length marks ≡ 8192) × ((i : ℕ) → i < 65536 → bit_at marks i ≡ named_bit rows i)

-- ---- the last line, where it lacks its line end
abbrev pub last_step : Line → Result Step Refusal
last_step (Ok (Some row)) = Err Malformed
last_step (Ok None) = Ok AtEnd
last_step (Err k) = Err Malformed

-- ---- one row, and one line, behind rows that are marked
abbrev pub FitOf : ℕ → ℕ → ℕ → List ℕ → List ℕ → Result Step Refusal → Type 0
FitOf e start count before after (Ok OneRow) = (start + count ≤ e) × MarksRow start count before after false
FitOf e start count before after (Err k) =
    ((e < start + count) × (number_of k ≡ outside)) ⊎ ((start + count ≤ e) × MarksRow start count before after true × (number_of k ≡ named_twice))
FitOf e start count before after (Ok AtEnd) = ⊥

abbrev pub StepOf : ℕ → List ℕ → List ℕ → List ℕ → Result Step Refusal → Type 0
StepOf e text before after (Ok OneRow) =
    (length (behind_line text) < length text)
    × ((rows : List HexRow) → Marked before rows → (r : HexRow) × Marked after (rows ++ (r ∷ [])) × (rows_from e rows (lines_in text) ≡ rows_from e (rows ++ (r ∷ [])) (lines_in (behind_line text))))
StepOf e text before after (Ok AtEnd) = (rows : List HexRow) → Marked before rows → rows_from e rows (lines_in text) ≡ accepted rows
StepOf e text before after (Err k) = (rows : List HexRow) → Marked before rows → rows_from e rows (lines_in text) ≡ refused (number_of k)
