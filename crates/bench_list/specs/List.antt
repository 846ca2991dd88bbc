-- "Bench list, proved together": each row is the paper's own, in its order.
use Rattle.std.specs.Prelude.{ℕ, ◌≤◌, ◌≡◌, true, List, [], ◌∷◌, length}
use Rattle.octets.specs.Outcome.{accepted, refused}
use Rattle.octets.specs.Over.{over, into}
use Rattle.octets.specs.Place.{place_at}
use Rattle.packet.specs.Frame.{frame_of}
use Rattle.packet.specs.Receipt.{plain_of}
use Rattle.numbers.specs.FixedPoint.{code_of, bits_of_code}
use Rattle.numbers.specs.Gain.{gain_byte}
use Rattle.fields.specs.Addr.{addr_of}
use Rattle.commands.specs.Decode.{command_of}
use Rattle.commands.specs.declared.Commands.TheVariants.{Read, FirLoadData, ReadMemory}
use Rattle.responses.specs.Decode.{response_of}
use Rattle.responses.specs.declared.Responses.TheVariants.{MemoryData}
use Rattle.processor.specs.Memory.{Memory, memory}
use Rattle.device.specs.Execute.{executed_record}
use Rattle.processor.specs.declared.Device.{Device}
use Rattle.saves.specs.Save.{save_of}
use Rattle.saves.specs.Replay.{replay_of}
use Rattle.listed.specs.Listing.{listed_into}

-- "For bare E = 2, S = 1"
abbrev pub worked_memory : Memory
worked_memory = memory (0xFF ∷ 0xFF ∷ []) (0 ∷ [])

abbrev pub worked_save : List ℕ
worked_save =
    0x01 ∷ 0x00 ∷ 0x08 ∷ 0x00 ∷ 0x00 ∷ 0x00 ∷ 0x02 ∷ 0x00 ∷ 0x00 ∷ 0x00 ∷ 0x01
    ∷ 0x10 ∷ 0x00 ∷ 0x07 ∷ 0x06 ∷ 0x04 ∷ 0x00 ∷ 0x00 ∷ 0xFF ∷ 0xFF ∷ 0x08
    ∷ 0x10 ∷ 0x00 ∷ 0x0A ∷ 0x09 ∷ 0x13 ∷ 0x80 ∷ 0x00 ∷ 0x00 ∷ 0x00 ∷ 0x00 ∷ 0x00 ∷ 0x00 ∷ 0x9C
    ∷ 0x7F ∷ 0x00 ∷ 0x04 ∷ 0x00 ∷ 0x00 ∷ 0x00 ∷ 0x02 ∷ []

-- "and the output", its four lines
abbrev pub worked_text : List ℕ
worked_text =
    115 ∷ 104 ∷ 97 ∷ 112 ∷ 101 ∷ 32 ∷ 50 ∷ 32 ∷ 49 ∷ 10
    ∷ 109 ∷ 101 ∷ 109 ∷ 111 ∷ 114 ∷ 121 ∷ 32 ∷ 48 ∷ 32 ∷ 50 ∷ 10
    ∷ 115 ∷ 101 ∷ 116 ∷ 116 ∷ 105 ∷ 110 ∷ 103 ∷ 32 ∷ 48 ∷ 32 ∷ 48 ∷ 48 ∷ 48 ∷ 48 ∷ 48 ∷ 48 ∷ 48 ∷ 48 ∷ 10
    ∷ 101 ∷ 110 ∷ 100 ∷ 32 ∷ 50 ∷ 10 ∷ []

-- "ReadMemory 65535 size 2 is FF FF on a new device whatever is stored"
abbrev pub ReadsPastEnd : Type 0
ReadsPastEnd =
    (d : Device) (m : Memory) (payload out : List ℕ) → length m.eeprom ≡ 65536 → length m.settings ≤ 65536
    → executed_record d (ReadMemory 65535 2) payload m out ≡ (accepted (MemoryData (record { base = 65535; «data» = place_at 0 2 })), m, over (0xFF ∷ 0xFF ∷ []) out)

pub record BenchList : Type 0 where
  pub frame-empty : frame_of [] ≡ 0x01 ∷ 0x01 ∷ []
  pub frame-31 : frame_of (0x31 ∷ []) ≡ 0x02 ∷ 0x31 ∷ 0x33 ∷ []
  pub receipt-00 : plain_of (0x00 ∷ []) ≡ refused 1
  pub receipt-05-31 : plain_of (0x05 ∷ 0x31 ∷ []) ≡ refused 2
  pub command-short : command_of (0x02 ∷ 0x80 ∷ 0x10 ∷ 0x01 ∷ []) ≡ refused 3
  pub command-read : command_of (0x02 ∷ 0x80 ∷ 0x00 ∷ 0x10 ∷ 0x04 ∷ []) ≡ accepted (Read (addr_of 16 3 true) 4)
  pub command-floats : command_of (0x3A ∷ 0x00 ∷ 0x00 ∷ 0x00 ∷ 0x80 ∷ 0x3F ∷ []) ≡ accepted (FirLoadData 0 (record { start = 2; count = 0 }))
  pub codes-one : code_of 0x3F800000 ≡ 0x00800000
  pub codes-minus-one : code_of 0xBF800000 ≡ 0x0F800000
  pub codes-minus-17 : code_of 0xC1880000 ≡ 0x07800000
  pub codes-nan : code_of 0x7FC00000 ≡ 0x08000000
  pub decodes-16 : bits_of_code 0x07FFFFFF ≡ 0x41800000
  pub gain-6 : gain_byte 0x40C00000 ≡ 12
  pub reads-past-end : ReadsPastEnd
  pub response-02 : response_of (0x02 ∷ []) ≡ refused 3
  pub save-worked : save_of worked_memory ≡ worked_save
  pub listing-worked : (out : List ℕ) → listed_into worked_save out ≡ into worked_text out
  pub replay-worked : (a b c : ℕ) → replay_of (memory (a ∷ b ∷ []) (c ∷ [])) worked_save ≡ (accepted tt, worked_memory)
