-- Each arm is what its kind does.
use mathlib.Core.Path.{refl}
use native.Mathlib.Omega.{arith}
use Rattle.device.proofs.effect.decide.Goals as goal

pub returns-in-ReadHardwareId : goal.returns-in-ReadHardwareId
returns-in-ReadHardwareId c = rw (c.in-ReadHardwareId.is, c.tells.ensures, c.identity.ensures) (refl, omega arith)

pub returns-in-ReadMemory : goal.returns-in-ReadMemory
returns-in-ReadMemory c = rw c.in-ReadMemory.is (c.read_memory.ensures.0 _, c.read_memory.ensures.1)

pub returns-in-WriteMemory : goal.returns-in-WriteMemory
returns-in-WriteMemory c = rw c.in-WriteMemory.is c.write_memory.ensures

pub returns-in-ReadFloats : goal.returns-in-ReadFloats
returns-in-ReadFloats c = rw c.in-ReadFloats.is (c.read_floats.ensures.0 _, c.read_floats.ensures.1)

pub returns-in-Write : goal.returns-in-Write
returns-in-Write c = rw c.in-Write.is c.write_word.ensures

pub returns-in-SetConfig : goal.returns-in-SetConfig
returns-in-SetConfig c = rw c.in-SetConfig.is (c.set_byte.ensures.0 _, omega (arith, c.set_byte.ensures.1))

pub returns-in-SetSource : goal.returns-in-SetSource
returns-in-SetSource c = rw c.in-SetSource.is (c.set_byte-in-SetSource.ensures.0 _, omega (arith, c.set_byte-in-SetSource.ensures.1))

pub returns-in-SetMute : goal.returns-in-SetMute
returns-in-SetMute c = rw c.in-SetMute.is (c.set_byte-in-SetMute.ensures.0 _, omega (arith, c.set_byte-in-SetMute.ensures.1))

pub returns-in-SetVolume : goal.returns-in-SetVolume
returns-in-SetVolume c = rw (c.in-SetVolume.is, ← c.to_u8.ensures) (c.set_byte-in-SetVolume.ensures.0 _, omega (arith, c.set_byte-in-SetVolume.ensures.1))

pub returns-in-FirLoadStart : goal.returns-in-FirLoadStart
returns-in-FirLoadStart c = rw (c.in-FirLoadStart.is, c.tells-in-FirLoadStart.ensures, c.fir_size.ensures) (refl, omega arith)

pub returns-in-Unk07 : goal.returns-in-Unk07
returns-in-Unk07 c = rw (c.in-Unk07.is, c.tells-in-Unk07.ensures) (refl, omega arith)

pub returns-in-Read : goal.returns-in-Read
returns-in-Read c = rw (c.in-Read.is, c.tells-in-Read.ensures, c.reading.ensures) (refl, omega arith)
