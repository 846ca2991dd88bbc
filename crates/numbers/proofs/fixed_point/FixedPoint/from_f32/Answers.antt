-- The code of the float's pattern.
use Rattle.numbers.proofs.fixed_point.FixedPoint.from_f32.Goals as goal

pub returns : goal.returns
returns c = rw (c.code_of.ensures, c.to_bits.ensures)
