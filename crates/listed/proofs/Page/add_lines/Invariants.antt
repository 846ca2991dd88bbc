-- What is left to add are the lines of the frames that are left.
use Prim.Native.Nat.{ℕ, ◌+◌, ◌≤◌}
use mathlib.Core.Path.{◌≡◌}
use mathlib.Core.List.{List}
use lib.ListN.{length}
use Rattle.streams.specs.Stream.{stream_of}
use Rattle.listed.specs.Inside.{Adds, lines_of}
use Rattle.listed.proofs.Page.add_lines.Given as goal

abbrev pub invariant-loop-rest : goal.invariant-loop-rest
invariant-loop-rest l =
    let lines = lines_of l.shape.eeprom l.shape.settings in record {
      count : l.frames + length (stream_of l.rest).frames ≡ length (stream_of l.fields).frames;
      fewer : l.frames + length l.rest ≤ length l.fields;
      left : (r : ℕ) (o : List ℕ) → Adds (lines l.rest) l.self.end l.self.bytes r o → Adds (lines l.fields) l.initial.self.end l.initial.self.bytes r o;
    }

abbrev pub decreases-loop-rest : goal.decreases-loop-rest
decreases-loop-rest l = length l.rest
