-- Nothing is written of Nothing.
use Rattle.std.proofs.Common.{refl}
use Rattle.octets.proofs.Overlay.{into-nothing}
use Rattle.packet.specs.Frame.{total}
use Rattle.fields.proofs.row.put_field.Goals as goal

pub returns-in-Nothing : goal.returns-in-Nothing
unfolding total
returns-in-Nothing c = rw c.in-Nothing.is (record { out_after = into-nothing _; sum_of = refl })
