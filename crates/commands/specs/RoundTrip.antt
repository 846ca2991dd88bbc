-- What comes back of a command that is written and read again, with all that changes on the way: the exceptions that document 01
-- names, and those that the layouts make.
use Rattle.std.specs.Prelude.{ℕ, ◌+◌, ◌-◌, ◌%◌, ◌^◌, ◌≤◌, ◌<◌, ◌≡◌, true, List, [], ◌∷◌, leb, length}
use Rattle.std.specs.Float.{binary32}
use Rattle.std.specs.Float.Ieee.{to_bits}
use Rattle.octets.specs.Choice.{pick}
use Rattle.octets.specs.Number.{at, big_at}
use Rattle.octets.specs.Place.{place_at}
use Rattle.numbers.specs.Gain.{gain_byte}
use Rattle.fields.specs.Addr.{addr_of, width_if}
use Rattle.fields.specs.Value.{value_bytes}
use Rattle.fields.specs.Back.{cut, reread, Clear}
use Rattle.fields.specs.declared.value.Value.{Value}
use Rattle.commands.specs.Decode.{gain_of}
use Rattle.commands.specs.declared.Commands.{Commands}
use Rattle.commands.specs.declared.Commands.TheVariants.{ReadHardwareId, ReadFloats, WriteMemory, ReadMemory, SetConfig, SetSource, SetMute, SetVolume, WriteBiquad, WriteBiquadBypass, Read, Write, FirLoadStart, FirLoadData, FirLoadEnd, DiracBypass, BulkLoad, BulkLoadFilterData, Unk07, SwitchMux, Unknown}

-- What comes back. A payload stands in the packet then, an address is cut, and a gain is its byte's. 0x19: "its value is the
-- extra bit". 0x3A: "The last four bytes of an exact list are dropped." "0x3F is written by DiracBypass but read as Unknown." A
-- mux's largest number keeps seven bits, and its eighth reads as arg.
abbrev pub back : List ℕ → Commands → Commands
back p ReadHardwareId = ReadHardwareId
back p (ReadFloats addr len) = ReadFloats addr len
back p (WriteMemory addr place) = WriteMemory addr (place_at 3 place.len)
back p (ReadMemory addr size) = ReadMemory addr size
back p (SetConfig config reset) = SetConfig config reset
back p (SetSource source) = SetSource source
back p (SetMute value) = SetMute value
back p (SetVolume gain) = SetVolume (gain_of (gain_byte (to_bits binary32 gain.0)))
back p (WriteBiquad addr) = WriteBiquad (cut addr)
back p (WriteBiquadBypass addr value) = WriteBiquadBypass (cut (addr_of addr.val addr.len value)) value
back p (Read addr len) = Read (cut addr) len
back p (Write addr value) = Write (cut addr) (reread (value_bytes value p) (addr.len + 1))
back p (FirLoadStart index) = FirLoadStart index
back p (FirLoadData index floats) = FirLoadData index (record { start = 2; count = floats.count - 1 })
back p FirLoadEnd = FirLoadEnd
back p (DiracBypass value) = Unknown 0x3F (place_at 1 1)
back p (BulkLoad payload) = BulkLoad (place_at 1 payload.len)
back p (BulkLoadFilterData payload) = BulkLoadFilterData (place_at 1 payload.len)
back p (Unk07 payload) = Unk07 payload
back p (SwitchMux mux) = SwitchMux (record { addr = cut mux.addr; max = mux.max % 128; arg = pick mux.arg true (leb 128 mux.max); slot = mux.slot })
back p (Unknown id payload) = Unknown id (place_at 1 payload.len)

-- the command bytes that are read as a kind of their own
abbrev pub kinds : List ℕ
kinds = 0x02 ∷ 0x04 ∷ 0x05 ∷ 0x06 ∷ 0x07 ∷ 0x12 ∷ 0x13 ∷ 0x14 ∷ 0x17 ∷ 0x19 ∷ 0x25 ∷ 0x31 ∷ 0x29 ∷ 0x30 ∷ 0x34 ∷ 0x39 ∷ 0x3A ∷ 0x3B ∷ 0x42 ∷ []

abbrev pub NoneOf : ℕ → List ℕ → Type 0
NoneOf n [] = Unit
NoneOf n (k ∷ ks) = (n ≡ k → ⊥) × NoneOf n ks

-- five values of four bytes each
abbrev pub FourEach : List ℕ → List Value → Type 0
FourEach p [] = Unit
FourEach p (v ∷ vs) = (length (value_bytes v p) ≡ 4) × FourEach p vs

-- Which records come back so. Of any other nothing is said: it may be refused, be read as something else, or, a biquad, come back
-- as the same record with other values, for its 20 bytes are cut into fours wherever a value ended. An address must be read in the
-- width in which it is written: 0x02 "3-byte address if r >= 3, else 2. So r = 3 is refused with 3 and only r >= 4 is read", 0x13
-- "3 if r >= 7, else 2", and a mux switch's is read in two bytes. The five values of a biquad must take four bytes each, an unknown
-- command must not have the byte of a kind, and a u16 is below 2^16.
abbrev pub Readable : List ℕ → List Value → Commands → Type 0
Readable p values ReadHardwareId = Unit
Readable p values (ReadFloats addr len) = addr < 2 ^ 16
Readable p values (WriteMemory addr place) = addr < 2 ^ 16
Readable p values (ReadMemory addr size) = addr < 2 ^ 16
Readable p values (SetConfig config reset) = Unit
Readable p values (SetSource source) = Unit
Readable p values (SetMute value) = Unit
Readable p values (SetVolume gain) = Unit
Readable p values (WriteBiquad addr) = (length values ≡ 5) × FourEach p values
Readable p values (WriteBiquadBypass addr value) = Unit
Readable p values (Read addr len) = addr.len ≡ 3
Readable p values (Write addr value) = addr.len ≡ width_if (leb 7 (addr.len + length (value_bytes value p)))
Readable p values (FirLoadStart index) = Unit
Readable p values (FirLoadData index floats) = Unit
Readable p values FirLoadEnd = Unit
Readable p values (DiracBypass value) = Unit
Readable p values (BulkLoad payload) = Unit
Readable p values (BulkLoadFilterData payload) = Unit
Readable p values (Unk07 payload) = Unit
Readable p values (SwitchMux mux) = mux.addr.len ≡ 2
Readable p values (Unknown id payload) = NoneOf id kinds

-- Which packets are written again as they were read: those with nothing in them that reading passes by. "Extra bytes are ignored
-- where no payload is named"; a truth is any byte but 0 and is written as 1; the bits of an address that are masked are clear;
-- the two bytes behind a biquad's address are zero; and a 0x3A has no float, for of any list the last bytes are dropped. (DiracBypass is
-- never read.)
abbrev pub Tidy : List ℕ → Commands → Type 0
Tidy p ReadHardwareId = length p ≡ 1
Tidy p (ReadFloats addr len) = length p ≡ 4
Tidy p (WriteMemory addr place) = Unit
Tidy p (ReadMemory addr size) = length p ≡ 4
Tidy p (SetConfig config reset) = (length p ≡ 3) × (at p 2 ≤ 1)
Tidy p (SetSource source) = length p ≡ 2
Tidy p (SetMute value) = (length p ≡ 2) × (at p 1 ≤ 1)
Tidy p (SetVolume gain) = length p ≡ 2
Tidy p (WriteBiquad addr) = (length p ≡ addr.len + 23) × Clear addr.len p 1 × (big_at 2 p (addr.len + 1) ≡ 0)
Tidy p (WriteBiquadBypass addr value) = (length p ≡ addr.len + 1) × Clear addr.len p 1
Tidy p (Read addr len) = (length p ≡ addr.len + 2) × Clear addr.len p 1
Tidy p (Write addr value) = Clear addr.len p 1
Tidy p (FirLoadStart index) = length p ≡ 2
Tidy p (FirLoadData index floats) = length p ≡ 2
Tidy p FirLoadEnd = length p ≡ 1
Tidy p (DiracBypass value) = Unit
Tidy p (BulkLoad payload) = Unit
Tidy p (BulkLoadFilterData payload) = Unit
Tidy p (Unk07 payload) = length p ≡ 2
Tidy p (SwitchMux mux) = (length p ≡ 5) × Clear 2 p 1
Tidy p (Unknown id payload) = Unit
