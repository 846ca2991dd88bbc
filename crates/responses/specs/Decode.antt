-- What a packet reads as, as document 01 has it under "Commands and responses", in the order of `Responses::from_bytes`.
use Rattle.std.specs.Prelude.{ℕ, List, length}
use Rattle.octets.specs.Refusals.{too_long}
use Rattle.octets.specs.Outcome.{Outcome, accepted, refused, on_accepted}
use Rattle.octets.specs.Choice.{if_lt, if_eq}
use Rattle.octets.specs.Number.{at, big_at}
use Rattle.octets.specs.Reading.{needing, rest}
use Rattle.fields.specs.Addr.{addr_at}
use Rattle.views.specs.View.{memory_in, floats_in}
use Rattle.responses.specs.declared.Responses.{Responses}
use Rattle.responses.specs.declared.Responses.TheVariants.{Ack, Read, MemoryData, FloatData, HardwareId, FirLoadSize, ConfigChanged, Unknown}
use Rattle.responses.specs.declared.Values.TheVariants.{Chunks}

-- "0x02 always takes a 2-byte address, then chunks of four, the last perhaps shorter"
abbrev pub read_data_of : List ℕ → Outcome Responses
read_data_of p = needing 3 p (Read (addr_at 2 p 1) (Chunks (rest 3 p)))

abbrev pub memory_of : List ℕ → Outcome Responses
memory_of p = on_accepted MemoryData (memory_in p)

abbrev pub floats_of : List ℕ → Outcome Responses
floats_of p = on_accepted FloatData (floats_in p)

abbrev pub hardware_id_of : List ℕ → Outcome Responses
hardware_id_of p = needing 4 p (HardwareId (record { fw_major = at p 1; fw_minor = at p 2; hw_id = at p 3 }))

abbrev pub fir_size_of : List ℕ → Outcome Responses
fir_size_of p = needing 3 p (FirLoadSize (big_at 2 p 1))

-- by the first byte; "Unknown keeps its command byte in the payload and so writes it twice"
unfoldable pub response_by : ℕ → List ℕ → Outcome Responses
response_by k p =
    if_eq k 0x02 (read_data_of p)
    (if_eq k 0x05 (memory_of p)
    (if_eq k 0x14 (floats_of p)
    (if_eq k 0x31 (hardware_id_of p)
    (if_eq k 0x39 (fir_size_of p)
    (if_eq k 0xAB (accepted ConfigChanged)
    (accepted (Unknown k (rest 0 p))))))))

-- "packet over 254 bytes" first; then "empty is Ack"
unfoldable pub response_of : List ℕ → Outcome Responses
response_of p = if_lt 254 (length p) (refused too_long) (if_lt (length p) 1 (accepted Ack) (response_by (at p 0) p))
