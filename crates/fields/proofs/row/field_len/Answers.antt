-- How many bytes each kind of field takes.
use Rattle.std.proofs.Common.{arith}
use Rattle.octets.proofs.InBytes.{length-big}
use Rattle.octets.proofs.Parts.{length_part, was-inside}
use Rattle.fields.proofs.Addrs.{length-addr, right-length}
use Rattle.fields.proofs.row.field_len.Goals as goal

pub returns-in-Word : goal.returns-in-Word
returns-in-Word c = rw (c.in-Word.is, length-big)

pub returns-in-Address : goal.returns-in-Address
returns-in-Address c =
    let few = right-length _ (rw c.in-Address.is at c.requires.addressed) in
    rw (c.in-Address.is, length-addr) (omega arith)

pub returns-in-Payload : goal.returns-in-Payload
returns-in-Payload c = rw (c.capped.ensures, c.in-Payload.is, length_part _ _ (was-inside _ _ (rw c.in-Payload.is at c.requires.placed)))

pub returns-in-Floats : goal.returns-in-Floats
returns-in-Floats c = rw (c.floats_len.ensures, c.in-Floats.is, length_part _ _ (was-inside _ _ (rw c.in-Floats.is at c.requires.placed)))
