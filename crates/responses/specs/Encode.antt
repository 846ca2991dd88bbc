-- How each response is written: `Responses::to_bytes`, one line a kind. Encoding refuses with 8, 7, 5, 6 (fields, specs/Row.antt).
use Rattle.std.specs.Prelude.{List, [], ◌∷◌}
use Rattle.fields.specs.declared.row.Field.{Field}
use Rattle.fields.specs.declared.row.Field.TheVariants.{Byte, Word, Address, Coded, Payload, Floats}
use Rattle.responses.specs.declared.Responses.{Responses}
use Rattle.responses.specs.declared.Responses.TheVariants.{Ack, Read, MemoryData, FloatData, HardwareId, FirLoadSize, ConfigChanged, Unk02, Unknown}
use Rattle.responses.specs.declared.Values.{Values}
use Rattle.responses.specs.declared.Values.TheVariants.{Chunks, One}

abbrev pub values_field : Values → Field
values_field (Chunks place) = Payload place
values_field (One value) = Coded value

abbrev pub response_row : Responses → List Field
response_row Ack = []
response_row (Read addr values) = Byte 0x02 ∷ Address addr ∷ values_field values ∷ []
response_row (MemoryData view) = Byte 0x05 ∷ Word view.base ∷ Payload view.data ∷ []
response_row (FloatData view) = Byte 0x14 ∷ Word view.base ∷ Floats view.start view.count ∷ []
response_row (HardwareId id) = Byte 0x31 ∷ Byte id.fw_major ∷ Byte id.fw_minor ∷ Byte id.hw_id ∷ []
response_row (FirLoadSize size) = Byte 0x39 ∷ Word size ∷ []
response_row ConfigChanged = Byte 0xAB ∷ []
-- "Unk02 is written as 02"
response_row Unk02 = Byte 0x02 ∷ []
response_row (Unknown id payload) = Byte id ∷ Payload payload ∷ []
