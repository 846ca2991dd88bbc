-- Reading a text into an image.
use Rattle.std.specs.Prelude.{◌≡◌, ℕ, ◌<◌, ◌≤◌, ◌⊎◌, List, [], ◌∷◌, length, replicate}
use Rattle.std.proofs.Math.Option.{Option, none, some}
use Rattle.octets.specs.Refusals.{wrong_sizes}
use Rattle.octets.specs.Outcome.{Outcome, accepted, refused}
use Rattle.octets.specs.Choice.{if_lt}
use Rattle.processor.specs.Memory.{put_at, to_eeprom}
use Rattle.processor.specs.Puts.{puts_byte}
use Rattle.intel_hex.specs.Format.{HexRow}
use Rattle.intel_hex.specs.Reading.{rows_in}
use Rattle.intel_hex.specs.Faults.{FirstBad}

-- the rows of a text for an image of e bytes: "14 first; then the first bad row going forward"
unfoldable pub judged_for : ℕ → List ℕ → Outcome (List HexRow)
judged_for e text = if_lt 65536 e (refused wrong_sizes) (rows_in e text)

-- ---- "into a lent image of E bytes filled with 0xFF first"
abbrev pub placed : List HexRow → List ℕ → List ℕ
placed [] image = image
placed (r ∷ rows) image = placed rows (put_at r.start r.bytes image)

abbrev pub image_of : ℕ → List HexRow → List ℕ
image_of e rows = placed rows (replicate e 0xFF)

-- what rows name at a byte: none, or what the first that names it has there. Of rows that fit no two do.
abbrev pub row_byte : HexRow → ℕ → Option ℕ
row_byte r i = puts_byte (to_eeprom r.start r.bytes) i

abbrev pub or_later : Option ℕ → Option ℕ → Option ℕ
or_later (some n) later = some n
or_later none later = later

abbrev pub named_at : List HexRow → ℕ → Option ℕ
named_at [] i = none
named_at (r ∷ rows) i = or_later (row_byte r i) (named_at rows i)

-- "Import checks the whole text before it touches the image"
abbrev pub filled : List ℕ → Outcome (List HexRow) → Outcome Unit × List ℕ
filled image (accepted rows) = (accepted tt, image_of (length image) rows)
filled image (refused k) = (refused k, image)

unfoldable pub imported_into : List ℕ → List ℕ → Outcome Unit × List ℕ
imported_into text image = filled image (judged_for (length image) text)

-- what is refused, by the format alone: "14 first; then the first bad row going forward"
abbrev pub Unimported : List ℕ → List ℕ → ℕ → Type 0
Unimported text image k = ((65536 < length image) × (k ≡ wrong_sizes)) ⊎ ((length image ≤ 65536) × FirstBad (length image) text k)
