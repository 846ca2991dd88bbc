-- A packet is a row of fields: numbers, addresses, values, and parts of the bytes that the caller lends.
use Rattle.std.specs.Prelude.{ℕ, zero, suc, ◌-◌, Bool, true, false, List, [], ◌∷◌, ◌++◌, length}
use Rattle.octets.specs.Refusals.{address_length, outside, too_long}
use Rattle.octets.specs.Outcome.{Outcome, accepted, refused}
use Rattle.octets.specs.Choice.{pick, if_lt}
use Rattle.octets.specs.Over.{settle}
use Rattle.octets.specs.Number.{big_bytes}
use Rattle.octets.specs.Place.{floats_at, part_of, is_outside}
use Rattle.packet.specs.Frame.{frame_of}
use Rattle.fields.specs.Addr.{wrong_length, addr_bytes}
use Rattle.fields.specs.Value.{value_bytes, value_outside}
use Rattle.fields.specs.declared.row.Field.{Field}
use Rattle.fields.specs.declared.row.Field.TheVariants.{Nothing, Byte, Word, Address, Coded, Payload, Floats}

-- the bytes of a field; p is what the caller lends. "numbers are big-endian unless said"
abbrev pub field_bytes : List ℕ → Field → List ℕ
field_bytes p Nothing = []
field_bytes p (Byte n) = n ∷ []
field_bytes p (Word n) = big_bytes 2 n
field_bytes p (Address a) = addr_bytes a
field_bytes p (Coded v) = value_bytes v p
field_bytes p (Payload place) = part_of p place
field_bytes p (Floats start count) = part_of p (floats_at start count)

unfoldable pub packet_of : List ℕ → List Field → List ℕ
packet_of p [] = []
packet_of p (f ∷ fs) = field_bytes p f ++ packet_of p fs

-- "address to be written, in a record of length other than 2 or 3"
abbrev pub misaddressed : Field → Bool
misaddressed Nothing = false
misaddressed (Byte n) = false
misaddressed (Word n) = false
misaddressed (Address a) = wrong_length a.len
misaddressed (Coded v) = false
misaddressed (Payload place) = false
misaddressed (Floats start count) = false

-- "address, place or part outside memory, view or payload": here a place outside so many lent bytes
abbrev pub misplaced : ℕ → Field → Bool
misplaced have Nothing = false
misplaced have (Byte n) = false
misplaced have (Word n) = false
misplaced have (Address a) = false
misplaced have (Coded v) = value_outside v have
misplaced have (Payload place) = is_outside place have
misplaced have (Floats start count) = is_outside (floats_at start count) have

unfoldable pub any_of : (Field → Bool) → List Field → Bool
any_of test [] = false
any_of test (f ∷ fs) = pick (test f) true (any_of test fs)

-- "Encoding: 8, 7, 5, 6."
unfoldable pub encoded_of : List ℕ → List Field → Outcome (List ℕ)
encoded_of p row =
    pick (any_of misaddressed row) (refused address_length)
    (pick (any_of (misplaced (length p)) row) (refused outside)
    (if_lt 254 (length (packet_of p row)) (refused too_long) (accepted (packet_of p row))))

abbrev pub row_into : List ℕ → List Field → List ℕ → Outcome ℕ × List ℕ
row_into p row out = settle (encoded_of p row) (λ bytes. bytes) out

abbrev pub row_frame_into : List ℕ → List Field → List ℕ → Outcome ℕ × List ℕ
row_frame_into p row out = settle (encoded_of p row) frame_of out

-- a row in an array of eight: what is not needed is Nothing
unfoldable pub nothings : ℕ → List Field
nothings zero = []
nothings (suc k) = Nothing ∷ nothings k

unfoldable pub padded : List Field → List Field
padded row = row ++ nothings (8 - length row)
