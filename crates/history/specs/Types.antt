-- The numbers that a command's record puts are of their types. Two are put as they stand, each a u8; all else that is put is made
-- bytes first.
use Rattle.std.specs.Prelude.{◌<◌}
use Rattle.commands.specs.declared.Commands.{Commands}
use Rattle.commands.specs.declared.Commands.TheVariants.{ReadHardwareId, ReadFloats, WriteMemory, ReadMemory, SetConfig, SetSource, SetMute, SetVolume, WriteBiquad, WriteBiquadBypass, Read, Write, FirLoadStart, FirLoadData, FirLoadEnd, DiracBypass, BulkLoad, BulkLoadFilterData, Unk07, SwitchMux, Unknown}

abbrev pub OfTypes : Commands → Type 0
OfTypes (SetConfig config reset) = config < 256
OfTypes (SetSource n) = n < 256
OfTypes ReadHardwareId = Unit
OfTypes (ReadMemory a size) = Unit
OfTypes (WriteMemory a place) = Unit
OfTypes (ReadFloats a len) = Unit
OfTypes (Write a v) = Unit
OfTypes (SetMute value) = Unit
OfTypes (SetVolume gain) = Unit
OfTypes (FirLoadStart index) = Unit
OfTypes (Unk07 payload) = Unit
OfTypes (Read a len) = Unit
OfTypes (WriteBiquad a) = Unit
OfTypes (WriteBiquadBypass a value) = Unit
OfTypes (FirLoadData index floats) = Unit
OfTypes FirLoadEnd = Unit
OfTypes (DiracBypass value) = Unit
OfTypes (BulkLoad payload) = Unit
OfTypes (BulkLoadFilterData payload) = Unit
OfTypes (SwitchMux mux) = Unit
OfTypes (Unknown id payload) = Unit
