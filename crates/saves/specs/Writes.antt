-- The frames of a save, and what it writes: a write for each of them.
use Rattle.std.specs.Prelude.{ℕ, zero, suc, ◌*◌, ◌^◌, ◌<◌, List, [], ◌∷◌, ◌++◌, length, take, drop}
use Rattle.octets.specs.Number.{at}
use Rattle.packet.specs.Frame.{frame_of}
use Rattle.processor.specs.Memory.{Memory, Store, to_eeprom, to_settings}
use Rattle.saves.specs.Save.{memory_packet, word_packet, blocks}

-- a list of words
abbrev pub Words : List ℕ → Type 0
Words l = (i : ℕ) → at l i < 2 ^ 32

-- the first so many of them
unfoldable pub each : {A : Type 0} → (ℕ → A) → ℕ → List A
each f zero = []
each f (suc k) = each f k ++ (f k ∷ [])

-- those of the EEPROM's blocks, then those of the words
abbrev pub frames_for : Memory → List (List ℕ)
frames_for m =
    each (λ k. frame_of (memory_packet m.eeprom k)) (blocks (length m.eeprom))
    ++ each (λ k. frame_of (word_packet m.settings k)) (length m.settings)

abbrev pub block_store : List ℕ → ℕ → Store
block_store eeprom k = to_eeprom (32 * k) (take 32 (drop (32 * k) eeprom))

abbrev pub word_store : List ℕ → ℕ → Store
word_store settings k = to_settings k (at settings k)

abbrev pub writes_for : Memory → List Store
writes_for m =
    each (block_store m.eeprom) (blocks (length m.eeprom))
    ++ each (word_store m.settings) (length m.settings)
