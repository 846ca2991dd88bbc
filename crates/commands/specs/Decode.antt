-- What a packet reads as, as document 01 has it under "Commands and responses", in the order of `Commands::from_bytes`.
use Rattle.std.specs.Prelude.{ℕ, ◌+◌, ◌-◌, ◌/◌, ◌%◌, Bool, not, List, [], ◌∷◌, leb, ltb, eqb, length}
use Rattle.std.specs.Float.{binary32}
use Rattle.std.specs.Float.Ieee.{of_bits}
use Rattle.octets.specs.Refusals.{ends, few_values, too_long}
use Rattle.octets.specs.Outcome.{Outcome, accepted, refused}
use Rattle.octets.specs.Choice.{if_lt, if_eq}
use Rattle.octets.specs.Number.{at, big_at}
use Rattle.octets.specs.Place.{place_at}
use Rattle.octets.specs.Reading.{needing, rest}
use Rattle.numbers.specs.declared.gain.Gain.{Gain}
use Rattle.numbers.specs.Gain.{bits_of_byte}
use Rattle.fields.specs.Addr.{width_if, addr_at}
use Rattle.fields.specs.Value.{value_at}
use Rattle.fields.specs.declared.value.Value.{Value}
use Rattle.fields.specs.declared.value.Value.TheVariants.{Float, Unknown as UnknownValue}
use Rattle.commands.specs.declared.Commands.{Commands}
use Rattle.commands.specs.declared.Commands.TheVariants.{ReadHardwareId, ReadFloats, WriteMemory, ReadMemory, SetConfig, SetSource, SetMute, SetVolume, WriteBiquad, WriteBiquadBypass, Read, Write, FirLoadStart, FirLoadData, FirLoadEnd, BulkLoad, BulkLoadFilterData, Unk07, SwitchMux, Unknown}

-- "r is the count of bytes after the command byte"
abbrev pub r : List ℕ → ℕ
r p = length p - 1

-- a byte that is a truth
abbrev pub is_set : ℕ → Bool
is_set n = not (eqb n 0)

-- "3-byte address if r >= 3, else 2. So r = 3 is refused with 3 and only r >= 4 is read."
abbrev pub read_of : List ℕ → Outcome Commands
read_of p = let k = width_if (leb 3 (r p)) in needing (k + 2) p (Read (addr_at k p 1) (at p (k + 1)))

abbrev pub write_memory_of : List ℕ → Outcome Commands
write_memory_of p = needing 3 p (WriteMemory (big_at 2 p 1) (rest 3 p))

abbrev pub read_memory_of : List ℕ → Outcome Commands
read_memory_of p = needing 4 p (ReadMemory (big_at 2 p 1) (at p 3))

abbrev pub unk07_of : List ℕ → Outcome Commands
unk07_of p = needing 2 p (Unk07 (at p 1))

-- "3 if r >= 7, else 2; the rest is the value"
abbrev pub write_of : List ℕ → Outcome Commands
write_of p = let k = width_if (leb 7 (r p)) in needing (k + 1) p (Write (addr_at k p 1) (value_at p (rest (k + 1) p)))

abbrev pub read_floats_of : List ℕ → Outcome Commands
read_floats_of p = needing 4 p (ReadFloats (big_at 2 p 1) (at p 3))

abbrev pub set_mute_of : List ℕ → Outcome Commands
set_mute_of p = needing 2 p (SetMute (is_set (at p 1)))

-- "3 if r > 2; its value is the extra bit"
abbrev pub bypass_of : List ℕ → Outcome Commands
bypass_of p = let a = addr_at (width_if (ltb 2 (r p))) p 1 in needing (width_if (ltb 2 (r p)) + 1) p (WriteBiquadBypass a a.extra_bit)

abbrev pub set_config_of : List ℕ → Outcome Commands
set_config_of p = needing 3 p (SetConfig (at p 1) (is_set (at p 2)))

abbrev pub switch_mux_of : List ℕ → Outcome Commands
switch_mux_of p = needing 5 p (SwitchMux (record { addr = addr_at 2 p 1; max = at p 3 % 128; arg = leb 128 (at p 3); slot = at p 4 }))

-- "3 if r > 24; then two bytes, then five values. r 0 to 3 gives 3; 4 to 23 gives 4."
abbrev pub biquad_of : List ℕ → Outcome Commands
biquad_of p =
    let k = width_if (ltb 24 (r p)) in
    if_lt (length p) (k + 3) (refused ends) (if_lt (length p) (k + 23) (refused few_values) (accepted (WriteBiquad (addr_at k p 1))))

-- The five values of a biquad, which stand beside the command. The Rust's default is five floats of 0.
abbrev pub no_values : List Value
no_values = let zero = Float (of_bits binary32 0) in zero ∷ zero ∷ zero ∷ zero ∷ zero ∷ []

-- None is ever an Int: the Rust does not read these four bytes by `Value::from_bytes`, as it does 0x13's value, but copies them as
-- `Value::Unknown`, whatever they are.
abbrev pub unknown_at : ℕ → Value
unknown_at n = UnknownValue (place_at n 4)

abbrev pub five_from : ℕ → List Value
five_from n = unknown_at n ∷ unknown_at (n + 4) ∷ unknown_at (n + 8) ∷ unknown_at (n + 12) ∷ unknown_at (n + 16) ∷ []

-- those of a 0x30 that is read, behind its address and two bytes; of any other packet the default
unfoldable pub values_at : List ℕ → List Value
values_at p =
    if_lt 254 (length p) no_values
    (if_eq (at p 0) 0x30 (let k = width_if (ltb 24 (r p)) in if_lt (length p) (k + 23) no_values (five_from (k + 3))) no_values)

abbrev pub set_source_of : List ℕ → Outcome Commands
set_source_of p = needing 2 p (SetSource (at p 1))

abbrev pub fir_start_of : List ℕ → Outcome Commands
fir_start_of p = needing 2 p (FirLoadStart (at p 1))

-- "index, then floor((m-1)/4) little-endian floats for m bytes left, none if m = 0": m is the length less 2
abbrev pub fir_data_of : List ℕ → Outcome Commands
fir_data_of p = needing 2 p (FirLoadData (at p 1) (record { start = 2; count = (length p - 3) / 4 }))

abbrev pub gain_of : ℕ → Gain
gain_of k = record { 0 = of_bits binary32 (bits_of_byte k) }

abbrev pub set_volume_of : List ℕ → Outcome Commands
set_volume_of p = needing 2 p (SetVolume (gain_of (at p 1)))

-- by the command byte; "0x3F is written by DiracBypass but read as Unknown"
unfoldable pub command_by : ℕ → List ℕ → Outcome Commands
command_by k p =
    if_eq k 0x02 (read_of p)
    (if_eq k 0x04 (write_memory_of p)
    (if_eq k 0x05 (read_memory_of p)
    (if_eq k 0x06 (accepted (BulkLoadFilterData (rest 1 p)))
    (if_eq k 0x07 (unk07_of p)
    (if_eq k 0x12 (accepted (BulkLoad (rest 1 p)))
    (if_eq k 0x13 (write_of p)
    (if_eq k 0x14 (read_floats_of p)
    (if_eq k 0x17 (set_mute_of p)
    (if_eq k 0x19 (bypass_of p)
    (if_eq k 0x25 (set_config_of p)
    (if_eq k 0x31 (accepted ReadHardwareId)
    (if_eq k 0x29 (switch_mux_of p)
    (if_eq k 0x30 (biquad_of p)
    (if_eq k 0x34 (set_source_of p)
    (if_eq k 0x39 (fir_start_of p)
    (if_eq k 0x3A (fir_data_of p)
    (if_eq k 0x3B (accepted FirLoadEnd)
    (if_eq k 0x42 (set_volume_of p)
    (accepted (Unknown k (rest 1 p)))))))))))))))))))))

-- "packet over 254 bytes" first, then the packet
unfoldable pub command_of : List ℕ → Outcome Commands
command_of p = if_lt 254 (length p) (refused too_long) (if_lt (length p) 1 (refused ends) (command_by (at p 0) p))
