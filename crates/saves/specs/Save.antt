-- What a save is, as document 01 has it under "Saves (added)".
use Rattle.std.specs.Prelude.{ℕ, zero, suc, ◌+◌, ◌-◌, ◌*◌, ◌/◌, min, true, List, [], ◌∷◌, ◌++◌, length}
use Rattle.octets.specs.Refusals.{wrong_sizes}
use Rattle.octets.specs.Outcome.{Outcome, refused}
use Rattle.octets.specs.Choice.{pick}
use Rattle.octets.specs.Over.{into}
use Rattle.octets.specs.Number.{at, big_bytes, little_bytes}
use Rattle.octets.specs.Place.{place_at}
use Rattle.octets.specs.declared.Place.{Place}
use Rattle.packet.specs.Frame.{frame_of}
use Rattle.fields.specs.Addr.{addr_of}
use Rattle.fields.specs.Row.{packet_of}
use Rattle.fields.specs.declared.value.Value.TheVariants.{Unknown}
use Rattle.commands.specs.Encode.{command_row}
use Rattle.commands.specs.declared.Commands.{Commands}
use Rattle.commands.specs.declared.Commands.TheVariants.{WriteMemory, Write}
use Rattle.processor.specs.Memory.{Memory, oversized}

-- "Fields: one-byte tag, two-byte length, content; numbers are big-endian."
unfoldable pub save_field : ℕ → List ℕ → List ℕ
save_field tag content = tag ∷ (big_bytes 2 (length content) ++ content)

-- "First 01: E and S, four bytes each."
unfoldable pub shape_field : ℕ → ℕ → List ℕ
shape_field e s = save_field 0x01 (big_bytes 4 e ++ big_bytes 4 s)

-- "Then tag 10, one frame each"
unfoldable pub frame_field : List ℕ → List ℕ
frame_field packet = save_field 0x10 (frame_of packet)

-- a command's packet by demand 2's definition; its payload stands in p, and it has no values beside it
abbrev pub command_packet : List ℕ → Commands → List ℕ
command_packet p command = packet_of p (command_row command [])

-- "WriteMemory of 32 bytes in rising order, the last shorter"
abbrev pub block_at : ℕ → ℕ → Place
block_at e k = place_at (32 * k) (min 32 (e - 32 * k))

unfoldable pub memory_packet : List ℕ → ℕ → List ℕ
memory_packet eeprom k = command_packet eeprom (WriteMemory (32 * k) (block_at (length eeprom) k))

-- "then Write with 3-byte address, extra bit set, for each word rising"
unfoldable pub word_packet : List ℕ → ℕ → List ℕ
word_packet settings k = command_packet (little_bytes 4 (at settings k)) (Write (addr_of k 3 true) (Unknown (place_at 0 4)))

-- the first so many of them
unfoldable pub rising : (ℕ → List ℕ) → ℕ → List ℕ
rising packet zero = []
rising packet (suc k) = rising packet k ++ frame_field (packet k)

-- "Last 7F: four bytes, the count of 10 fields."
unfoldable pub end_field : ℕ → List ℕ
end_field n = save_field 0x7F (big_bytes 4 n)

-- ceil(E/32)
unfoldable pub blocks : ℕ → ℕ
blocks e = (e + 31) / 32

-- what stands behind the first field
unfoldable pub fields_for : Memory → List ℕ
fields_for m =
    let e = length m.eeprom in
    let s = length m.settings in
    rising (memory_packet m.eeprom) (blocks e) ++ (rising (word_packet m.settings) s ++ end_field (blocks e + s))

unfoldable pub save_of : Memory → List ℕ
save_of m = shape_field (length m.eeprom) (length m.settings) ++ fields_for m

-- "Room: 18 + E + 8 times ceil(E/32) + 13S."
unfoldable pub room : ℕ → ℕ → ℕ
room e s = 18 + e + 8 * blocks e + 13 * s

-- "Saving checks 14, then 6."
abbrev pub saved_into : Memory → List ℕ → Outcome ℕ × List ℕ
saved_into m out = pick (oversized m) (refused wrong_sizes, out) (into (save_of m) out)
