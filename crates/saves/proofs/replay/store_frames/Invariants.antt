-- What is left to store, stored, is what all of it is.
use Prim.Native.Nat.{ℕ}
use mathlib.Core.Path.{◌≡◌}
use mathlib.Core.List.{List}
use lib.ListN.{length}
use Rattle.processor.specs.Memory.{Memory, memory, store as store_all}
use Rattle.streams.specs.Stream.{stream_of}
use Rattle.streams.specs.Inside.{frames_write}
use Rattle.saves.proofs.replay.store_frames.Given as goal

-- what the frames of some fields leave of the memories
abbrev pub stores : List ℕ → List ℕ → List ℕ → List ℕ → List ℕ → Memory
stores e s fields eeprom settings = store_all (frames_write (length e) (length s) (stream_of fields).frames) (memory eeprom settings)

abbrev pub invariant-loop-rest : goal.invariant-loop-rest
invariant-loop-rest l =
    (length l.eeprom ≡ length l.initial.eeprom) × (length l.settings ≡ length l.initial.settings)
    × (stores l.initial.eeprom l.initial.settings l.rest l.eeprom l.settings ≡ stores l.initial.eeprom l.initial.settings l.fields l.initial.eeprom l.initial.settings)

abbrev pub decreases-loop-rest : goal.decreases-loop-rest
decreases-loop-rest l = length l.rest
