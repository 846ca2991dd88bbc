-- The payload of an answer, which comes from the memories.
use Rattle.std.specs.Prelude.{ℕ, ◌-◌, List, [], ◌∷◌, ◌++◌, take, drop, replicate}
use Rattle.octets.specs.Number.{little_bytes}
use Rattle.octets.specs.Place.{place_at, part_of}
use Rattle.responses.specs.declared.Responses.{Responses}
use Rattle.responses.specs.declared.Responses.TheVariants.{Ack, Read, MemoryData, FloatData, HardwareId, FirLoadSize, ConfigChanged, Unk02, Unknown}
use Rattle.processor.specs.Memory.{Memory}
use Rattle.device.specs.Effect.{taken_of}

-- "only 65,535 - addr bytes come from EEPROM and 0xFF fills up"
abbrev pub memory_part : List ℕ → ℕ → ℕ → List ℕ
memory_part eeprom a size = part_of eeprom (place_at a (taken_of a size)) ++ replicate (size - taken_of a size) 0xFF

-- a word's bytes, the least significant first: the bits of its float
abbrev pub word_bytes : List ℕ → List ℕ
word_bytes [] = []
word_bytes (w ∷ ws) = little_bytes 4 w ++ word_bytes ws

abbrev pub words_part : List ℕ → ℕ → ℕ → List ℕ
words_part settings a count = word_bytes (take count (drop a settings))

abbrev pub data_of : Memory → Responses → List ℕ
data_of m Ack = []
data_of m (Read addr values) = []
data_of m (MemoryData view) = memory_part m.eeprom view.base view.data.len
data_of m (FloatData view) = words_part m.settings view.base view.count
data_of m (HardwareId id) = []
data_of m (FirLoadSize size) = []
data_of m ConfigChanged = []
data_of m Unk02 = []
data_of m (Unknown id payload) = []
