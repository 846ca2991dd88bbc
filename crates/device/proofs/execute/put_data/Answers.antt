-- A payload by its kind, or none.
use Rattle.octets.proofs.Overlay.{over_nothing}
use mathlib.Core.Path.{◌≡◌, refl}
use mathlib.Core.List.{[]}
use mathlib.Core.Logic.{inl, inr}
use Rattle.processor.specs.Memory.{memory}
use Rattle.device.specs.Data.{data_of}
use native.Mathlib.Omega.{arith}
use Rattle.device.proofs.execute.put_data.Goals as goal

pub put_memory-requires : goal.put_memory-requires
put_memory-requires c = let p = c.requires in (rw c.in-MemoryData.is at p.0, p.1)

pub put_words-requires : goal.put_words-requires
put_words-requires c = let p = c.requires in (omega arith, rw c.in-FloatData.is at p.0, p.1)

pub returns-in-Ack : goal.returns-in-Ack
returns-in-Ack c =
    let m = memory c.args.eeprom.now c.args.settings.now in
    let none : data_of m c.args.response ≡ [] = elim c.in-Ack.is [
      | inl e ↦ rw e
      | inr t ↦ elim t [ inl x ↦ rw x.2 | inr t ↦ elim t [ inl x ↦ rw x.1 | inr t ↦ elim t [ inl x ↦ rw x.1 | inr t ↦ elim t [ inl e ↦ rw e | inr t ↦ elim t [ inl e ↦ rw e | inr x ↦ rw x.2 ] ] ] ] ]
    ] in rw none (refl, over_nothing _)

pub returns-in-MemoryData : goal.returns-in-MemoryData
returns-in-MemoryData c = rw c.in-MemoryData.is c.put_memory.ensures

pub returns-in-FloatData : goal.returns-in-FloatData
returns-in-FloatData c = rw c.in-FloatData.is c.put_words.ensures
