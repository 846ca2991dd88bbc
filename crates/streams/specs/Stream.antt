-- Reading the fields of a save: frames, one behind the other, and what stands behind them.
use Rattle.std.specs.Prelude.{ℕ, zero, suc, ◌+◌, ◌-◌, List, [], ◌∷◌, length, drop}
use Rattle.octets.specs.Refusals.{wrong_field}
use Rattle.octets.specs.Outcome.{Outcome, accepted, refused}
use Rattle.octets.specs.Choice.{if_lt, if_eq}
use Rattle.octets.specs.Number.{at, big_at}
use Rattle.octets.specs.Place.{place_at, part_of}
use Rattle.packet.specs.Receipt.{length_byte}
use Rattle.streams.specs.declared.shape.Shape.{Shape}

-- "one-byte tag, two-byte length, content"
abbrev pub length_of : List ℕ → ℕ
length_of l = big_at 2 l 1

unfoldable pub content_of : List ℕ → List ℕ
content_of l = part_of l (place_at 3 (length_of l))

unfoldable pub behind : List ℕ → List ℕ
behind l = drop (3 + length_of l) l

-- the tag of the first field; "a field short" has none, and 0 is no tag
unfoldable pub tag_of : List ℕ → ℕ
tag_of l = if_lt (length l) 3 0 (if_lt (length l) (3 + length_of l) 0 (at l 0))

-- the packet in a frame, whatever its checksum: "for length byte L, the packet is bytes 1 to L-1"
abbrev pub packet_in : List ℕ → List ℕ
packet_in frame = part_of frame (place_at 1 (length_byte frame - 1))

-- the frames of the 10 fields that come first, and the rest
pub record Stream : Type 0 where
  pub frames : List (List ℕ)
  pub tail : List ℕ

abbrev pub stream : List (List ℕ) → List ℕ → Stream
stream frames tail = record { frames = frames; tail = tail }

abbrev pub with_frame : List ℕ → Stream → Stream
with_frame frame s = stream (frame ∷ s.frames) s.tail

unfoldable pub stream_up_to : ℕ → List ℕ → Stream
stream_up_to zero l = stream [] l
stream_up_to (suc n) l = if_eq (tag_of l) 0x10 (with_frame (content_of l) (stream_up_to n (behind l))) (stream [] l)

-- each field takes a byte, so that there are no more fields than bytes
unfoldable pub stream_of : List ℕ → Stream
stream_of l = stream_up_to (length l) l

-- Behind the frames the stream is "Last 7F: four bytes, the count of 10 fields" and nothing more: "a field short, a tag
-- unknown or out of order, or an 01 or 7F of wrong length 13; .. wrong count or bytes after: 13".
unfoldable pub end_of : ℕ → List ℕ → Outcome Unit
end_of n l =
    if_eq (length l) 7
    (if_eq (at l 0) 0x7F
    (if_eq (length_of l) 4 (if_eq (big_at 4 l 3) n (accepted tt) (refused wrong_field)) (refused wrong_field))
    (refused wrong_field))
    (refused wrong_field)

abbrev pub shape : ℕ → ℕ → Shape
shape e s = record { eeprom = e; settings = s }

-- The sizes in the first field, which is eleven bytes: what else stands there is "a field short, a tag unknown or out of
-- order, or an 01 .. of wrong length 13".
unfoldable pub shape_of : List ℕ → Outcome Shape
shape_of l =
    if_lt (length l) 11 (refused wrong_field)
    (if_eq (at l 0) 0x01 (if_eq (length_of l) 8 (accepted (shape (big_at 4 l 3) (big_at 4 l 7))) (refused wrong_field)) (refused wrong_field))
