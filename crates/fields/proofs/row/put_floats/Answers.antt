-- Four times the count is a part of the payload, so it fits.
use Rattle.std.proofs.Common.{arith}
use Rattle.octets.proofs.Parts.{was-inside}
use Rattle.fields.proofs.row.put_floats.Goals as goal

pub overflow_mul-len : goal.overflow_mul-len
overflow_mul-len c = omega (arith, was-inside _ _ c.requires)
