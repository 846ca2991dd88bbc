-- What only private functions promise: a part of the text at its place, and the text frame by frame.
use Rattle.std.specs.Prelude.{ℕ, ◌+◌, ◌≤◌, ◌≡◌, List, length}
use Rattle.octets.specs.Over.{over_at}
use Rattle.streams.specs.declared.shape.Shape.{Shape}
use Rattle.streams.specs.Stream.{stream_of}
use Rattle.streams.specs.Inside.{frames_write}
use Rattle.listed.specs.Listing.{write_lines, text_for}

-- Where a page has room for it, a text stands there from a place to the end that is told.
pub record Adds (t : List ℕ) (at : ℕ) (page : List ℕ) (end : ℕ) (left : List ℕ) : Type 0 where
  pub told : at + length t ≤ length page → end ≡ at + length t
  pub text : at + length t ≤ length page → left ≡ over_at at t page

-- the lines of the frames that come first in a stream
unfoldable pub lines_of : ℕ → ℕ → List ℕ → List ℕ
lines_of e s l = write_lines (frames_write e s (stream_of l).frames)

abbrev pub frames_text : Shape → List ℕ → List ℕ
frames_text shape l = text_for shape (frames_write shape.eeprom shape.settings (stream_of l).frames) (length (stream_of l).frames)
